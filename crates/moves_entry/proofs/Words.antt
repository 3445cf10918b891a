-- The words of a list of moves: how many there can be, and that a pen writes them all at the front of fresh buffers.
use mathlib.Core.Path.{◌≡◌, sym, ap, ◌∙◌}
use mathlib.Core.Bool.{false}
use mathlib.Core.List.{List, [], ◌++◌}
use Prim.Native.Nat.{ℕ, ◌*◌, ◌≤◌, zero-le}
use native.Mathlib.Omega.{arith}
use borrow.Author.Tests.{le-ltb}
use lib.ListN.{length, take, drop, replicate, length-map, length-take}
use lib.Seq.{take_at}
use Rattle.base.specs.declared.Pen.{Pen}
use Rattle.base.specs.Emission.{Out, emit_all}
use Rattle.base.specs.Lent.{Held, Lowers}
use Rattle.base.proofs.Pens.{held_start, held-done, emit_all-ops, emit_all_spans}
use Rattle.moves.specs.Moves.{move_words}
use Rattle.moves.proofs.Turns.{moves-short}
use Rattle.moves_entry.specs.declared.Columns.{Columns}
use Rattle.base.specs.Limits.{most_moves}
use Rattle.moves_entry.specs.Gathering.{sources_in, destinations_in, most_words, Fresh}

-- four words at most for a move
words_short : (n : ℕ) (ss ds : List ℕ) → length (move_words n ss ds) ≤ 4 * length ds
unfolding move_words
words_short n ss ds = simp length-map (moves-short n ss ds)

-- so those of columns fit
pub words_fit : (n : ℕ) (c : Columns) → c.count ≤ most_moves → length (move_words n (sources_in c) (destinations_in c)) ≤ most_words
words_fit n c h = omega (arith, words_short n (sources_in c) (destinations_in c), length-take c.count c.dst)

-- the pen before the first word
abbrev pub fresh_pen : ℕ → Pen
fresh_pen span = record { at = 0; room = most_words; full = false; last = 0; span = span }

-- words that fit, written by a fresh pen
pub fresh : (words : List ℕ) (span : ℕ) (ops spans ops' spans' : List ℕ) (p : Pen) → length words ≤ most_words → length ops ≡ most_words
    → length spans ≡ most_words → Lowers (emit_all words) ops spans [] (fresh_pen span) ops' spans' [] p → Fresh words span ops' spans' p.at
fresh words span ops spans ops' spans' p short a b lowers =
    let o : Out = record { ops = []; spans = []; labels = []; last = 0; span = span } in
    let held : Held ops spans (emit_all words o) ops' spans' [] p =
    lowers.go ops spans o (held_start ops spans [] 0 most_words 0 span zero-le (omega arith) (omega arith)) in
    let the-ops : (emit_all words o).ops ≡ words = emit_all-ops words o in
    let the-spans : (emit_all words o).spans ≡ replicate (length words) span = emit_all_spans words o in
    let size : length (emit_all words o).ops ≡ length words = ap length the-ops in
    let room : length (emit_all words o).ops ≤ p.room = omega (arith, lowers.room_kept) in
    let whole = held-done held (held.full_is ∙ le-ltb p.room (length (emit_all words o).ops) room) in
    let at : p.at ≡ length words = whole.at_is ∙ size in
    let front : take p.at ((emit_all words o).ops ++ drop (length (emit_all words o).ops) ops) ≡ (emit_all words o).ops =
    take_at (emit_all words o).ops (drop (length (emit_all words o).ops) ops) p.at (sym whole.at_is) in
    let marks : take p.at ((emit_all words o).spans ++ drop (length (emit_all words o).spans) spans) ≡ (emit_all words o).spans =
    take_at (emit_all words o).spans (drop (length (emit_all words o).spans) spans) p.at (whole.beside ∙ sym whole.at_is) in
    record {
      few = omega arith;
      count = at;
      front = ap (take p.at) whole.ops_is ∙ front ∙ the-ops;
      marks = ap (take p.at) whole.spans_is ∙ marks ∙ the-spans;
    }
