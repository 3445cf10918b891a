-- What an entry leaves is what the function behind it leaves, with the used lengths as words.
use Rattle.std.specs.Prelude.{Result}
use mathlib.Core.Path.{◌≡◌, ap, ◌∙◌}
use mathlib.Core.List.{List, [], ◌∷◌}
use Prim.Native.Nat.{ℕ}
use lib.ListN.{get_or}
use lib.Seq.{sets}
use Rattle.refusal.specs.declared.Refusal.{Refusal}
use Rattle.lists.specs.declared.Used.{Used}
use Rattle.compile.specs.Program as program
use Rattle.first_checks.specs.Buffers.{Buffers}
use Rattle.compile.specs.Compile.{compiled}
use Rattle.strings.specs.declared.Unfit.{Unfit}
use Rattle.strings.specs.Strings as strings
use Rattle.compact.specs.Entry as compact
use Rattle.moves_entry.specs.declared.Columns.{Columns}
use Rattle.moves_entry.specs.Entry as entry
use Rattle.moves_entry.specs.Gathering.{columns_outcome}
use Rattle.answers.specs.Answers.{used_in, used_words, used_after}
use Rattle.agnulfrosc.specs.Library.{leaves, compiled_for, interns, interned_for, compacts, by_compaction, compacted_for, columns_for, moves, by_moves, moved_for}

-- compiling: the used lengths are read, and stored again
pub compiled-then : (n : ℕ) (ws used : List ℕ) (b : Buffers) (r : Result Used Refusal) (u : Used) → u ≡ used_in used
    → (after : Buffers) → program.outcome r u after ≡ compiled n ws b u
    → (stored : List ℕ) → stored ≡ sets used 0 (used_words (program.used_for u r)) → (number : ℕ) → number ≡ program.answer_number r
    → leaves number stored after ≡ compiled_for n ws b used
unfolding compiled_for
compiled-then n ws used b r u eu after e stored es number en =
    rw (es, en)
    (ap (λ (o : program.Outcome). leaves o.number (sets used 0 (used_words o.used)) o.buffers) (e ∙ ap (compiled n ws b) eu))

-- the strings: the used length and the index are stored
pub interned-then : (n : ℕ) (words ends globals answer : List ℕ) (r : Result ℕ Unfit) (used : ℕ) → used ≡ get_or answer 0 0
    → (after : List ℕ) → strings.outcome r used after ≡ strings.interned n words ends globals used
    → (number : ℕ) → number ≡ strings.number_for r → (new : ℕ) → new ≡ strings.used_for used r → (index : ℕ) → index ≡ strings.index_for r
    → (both : List ℕ) → both ≡ sets answer 0 (new ∷ index ∷ [])
    → interns number both after ≡ interned_for n words ends globals answer
unfolding interned_for
interned-then n words ends globals answer r used eu after e number en new ew index ei both es =
    rw (es, en, ew, ei)
    (ap (λ (o : strings.Outcome). interns o.number (sets answer 0 (o.used ∷ o.index ∷ [])) o.globals)
    (e ∙ ap (strings.interned n words ends globals) eu))

-- compaction
pub compacted-then : (used ops spans targets functions work : List ℕ) (r : Result ℕ Refusal) (x y : ℕ) → x ≡ get_or used 0 0 → y ≡ get_or used 1 0
    → (ops1 spans1 targets1 functions1 work1 : List ℕ)
    → compact.outcome r ops1 spans1 targets1 functions1 work1 ≡ compact.outcome_of x y ops spans targets functions work
    → (number : ℕ) → number ≡ compact.number_for r → (new : ℕ) → new ≡ compact.used_for r
    → (stored : List ℕ) → stored ≡ used_after used number new
    → compacts number stored ops1 spans1 targets1 functions1 work1 ≡ compacted_for used ops spans targets functions work
unfolding compacted_for
compacted-then used ops spans targets functions work r x y ex ey ops1 spans1 targets1 functions1 work1 e number en new ew stored es =
    rw (es, en, ew)
    (ap (by_compaction used)
    (e
    ∙ ap (λ (k : ℕ). compact.outcome_of k y ops spans targets functions work) ex
    ∙ ap (λ (k : ℕ). compact.outcome_of (get_or used 0 0) k ops spans targets functions work) ey))

-- a list of moves
pub moved_then : (n : ℕ) (sources destinations : List ℕ) (span : ℕ) (used ops spans : List ℕ) (r : Result ℕ Refusal) (c : Columns) (x : ℕ)
    → c ≡ columns_for sources destinations → x ≡ get_or used 0 0
    → (ops1 spans1 : List ℕ) → entry.outcome r ops1 spans1 ≡ columns_outcome n c x span ops spans
    → (number : ℕ) → number ≡ entry.answer_number r → (new : ℕ) → new ≡ entry.used_for r
    → (stored : List ℕ) → stored ≡ used_after used number new
    → moves number stored ops1 spans1 ≡ moved_for n sources destinations span used ops spans
unfolding moved_for
moved_then n sources destinations span used ops spans r c x ec ex ops1 spans1 e number en new ew stored es =
    rw (es, en, ew)
    (ap (by_moves used)
    (e
    ∙ ap (λ (k : Columns). columns_outcome n k x span ops spans) ec
    ∙ ap (λ (k : ℕ). columns_outcome n (columns_for sources destinations) k span ops spans) ex))
