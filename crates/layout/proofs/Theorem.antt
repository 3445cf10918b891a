-- Every live block of a function stands in the finished program, its edges are entered where they should be, and so is the function.
use mathlib.Core.Path.{◌≡◌, refl, sym, ap, ◌∙◌}
use Prim.Native.Nat.{ℕ, suc, ◌+◌, ◌*◌, ◌-◌, ◌≤◌, ◌<◌}
use mathlib.Core.List.{List}
use native.Mathlib.Nat.{zero-mul}
use native.Mathlib.Omega.{arith}
use lib.ListN.{length, get_or, take, drop, length-append}
use lib.Seq.{drop_at}
use Rattle.base.specs.Emission.{Out}
use Rattle.base.proofs.Pens.{emit_all-ops}
use Rattle.input.specs.Layout.{blocks, edges}
use Rattle.input.specs.Records.{term_kind, first_edge, edge_count}
use Rattle.input.proofs.Words.{words_block, block-says}
use Rattle.shape.specs.Shape.{row_shape}
use Rattle.judge.proofs.Shapes.{InShape, shape_given}
use Rattle.ready.specs.Ready.{Live}
use Rattle.ready.proofs.Passes.{block_passes}
use Rattle.ready.proofs.Shaped.{term_shaped}
use Rattle.tables.specs.Tables.{switch_heads_after, switch_targets_after, lookup_heads_after}
use Rattle.body.specs.declared.Tally.{Tally}
use Rattle.instrs.specs.Instrs.{Env}
use Rattle.body.specs.Body.{next_live, blocks_ops, body_ops}
use Rattle.body.proofs.Growing.{body_keeps, body_keeps_spans}
use Rattle.frame.specs.Frames.{prologue, entered, framed}
use Rattle.frame.proofs.Lengths.{drop-take}
use Rattle.frame.proofs.Keeping.{Behind}
use Rattle.frame.proofs.Joining.{framed-entered}
use Rattle.layout.specs.Layout.{Stands, block_pc, BlockAt, EntryAt, Built, LayoutTheorem, EntryTheorem}
use Rattle.layout.proofs.Adding.{Adds, Any}
use Rattle.layout.proofs.Finish.{Finished, finished}
use Rattle.layout.proofs.Leaving.{leaving}
use Rattle.layout.proofs.Lookups.{Looked}
use Rattle.layout.proofs.Blocks.{next-live, blocks_add, next_bound, root_adds}
use Rattle.layout.proofs.Walk.{Tabled, Few, walk}

module _ {regs : List ℕ} {span n : ℕ} {env : Env} {switches lookups : ℕ} {o : Out} (built : Built regs span n env switches lookups o) where
  abbrev from : ℕ
  from = length (entered regs o).ops

  abbrev B : Out
  B = body_ops n env switches lookups (entered regs o)

  abbrev F : Out
  F = framed regs span (body_ops n env switches lookups) o

  abbrev tally : Tally
  tally = record { switches = switches; lookups = lookups; label = 2 * blocks env.ws }

  known : (b : ℕ) → b < blocks env.ws → term_kind env.ws b < 8
  known b h = (block-says env.ws b (words_block env.ws built.words b h)).kind

  shaped : InShape env.ws
  shaped = shape_given env.ws built.shape

  edges_there : (b : ℕ) → Live env.ws b → first_edge env.ws b + edge_count env.ws b ≤ edges env.ws
  edges_there b live =
      (term_shaped env.ws b (block_passes (row_shape env.ws) env.ws shaped.rows b live).of_term).edges_there

  adds : Adds Any (blocks_ops n env tally 0 (blocks env.ws) (entered regs o)) B
  unfolding body_ops
  adds = root_adds env.ws (blocks_ops n env tally 0 (blocks env.ws) (entered regs o))

  fin : Finished from B F
  fin = finished regs span (body_ops n env switches lookups) o

  labels_long : length B.labels ≡ length o.labels
  unfolding entered
  labels_long = adds.many ∙ (blocks_add n env known tally 0 (blocks env.ws) (entered regs o) (omega arith) (omega arith)).many

  -- ---- the entry
  from_is : from ≡ length o.ops + length (prologue regs)
  unfolding entered
  from_is = ap length (emit_all-ops (prologue regs) o) ∙ length-append o.ops (prologue regs)

  stands_behind : Behind (entered regs o) B
  stands_behind =
      record {
        ops_behind = body_keeps n env switches lookups (entered regs o);
        spans_behind = body_keeps_spans n env switches lookups (entered regs o);
      }

  prologue_stands : Stands F.ops (length o.ops) (prologue regs)
  unfolding entered
  prologue_stands =
      let k : from - length o.ops ≡ length (prologue regs) = omega (arith, from_is) in
      ap (λ (x : ℕ). take x (drop (length o.ops) F.ops)) (sym k) ∙ sym (drop-take F.ops (length o.ops) from)
      ∙ ap (drop (length o.ops)) ((framed-entered regs span (body_ops n env switches lookups) o stands_behind).ops_behind ∙ emit_all-ops (prologue regs) o)
      ∙ drop_at o.ops (prologue regs) (length o.ops) refl

  -- block 0 is live, so it is the first to be bound
  first_is : next_live env.ws 0 (blocks env.ws) ≡ 0
  first_is =
      let e : blocks env.ws ≡ suc (blocks env.ws - 1) = omega (arith, shaped.some) in
      ap (next_live env.ws 0) e ∙ next-live n env known tally 0 (blocks env.ws - 1) o shaped.live

  first_pc : block_pc F 0 ≡ from
  first_pc =
      ap (λ (l : List ℕ). get_or l 0 0) fin.labels_same ∙ adds.kept 0 (omega arith)
      ∙ ap (λ (b : ℕ). get_or (blocks_ops n env tally 0 (blocks env.ws) (entered regs o)).labels b 0) (sym first_is)
      ∙ next_bound n env known tally 0 (blocks env.ws) (entered regs o) (omega arith) (omega arith)
      (omega (arith, adds.many, labels_long, built.labels_there)) (omega (arith, first_is, shaped.some))

  at_entry : EntryAt regs F (length o.ops)
  at_entry = record { pushes = prologue_stands; behind = sym (first_pc ∙ from_is) }

  module _ (slots values : ℕ) (before targets heads_before lookups_before : List ℕ) (long : length before ≡ slots)
      (resolves : (t : ℕ) → slots ≤ t → t < length (switch_targets_after env.ws env.places slots before) → get_or targets t 0 ≡ get_or (framed regs span (body_ops n env switches lookups) o).labels (get_or (switch_targets_after env.ws env.places slots before) t 0) 0)
      (heads_long : length heads_before ≡ 3 * switches) (lookups_long : length lookups_before ≡ 5 * lookups) where
    tabled : Tabled env.ws env.places (switch_targets_after env.ws env.places slots before) (switch_heads_after env.ws slots heads_before) slots 0
        (blocks env.ws) (2 * blocks env.ws) switches
    unfolding switch_targets_after switch_heads_after
    tabled =
        record { start = slots; l = before; long = long; behind = omega arith; rest = refl; m = heads_before; m_long = heads_long; m_rest = refl }

    looked : Looked env.ws (lookup_heads_after env.ws values lookups_before) 0 (blocks env.ws) lookups
    unfolding lookup_heads_after
    looked = record { start = values; m = lookups_before; long = lookups_long; rest = refl }

    few : Few env 0 (2 * blocks env.ws) from
    few = let z : 0 * edges env.ws ≡ 0 = zero-mul (edges env.ws) in
        record { from = omega arith; by_blocks = omega (arith, z); by_ops = omega arith }

    stands : (b : ℕ) → Live env.ws b → BlockAt n env regs F targets (switch_heads_after env.ws slots heads_before) (lookup_heads_after env.ws values lookups_before) b
    stands b live =
        walk n env known (omega (arith, built.registers_few)) (omega (arith, built.registers_many)) built.ready edges_there fin (leaving regs span (body_ops n env switches lookups) o) targets (switch_targets_after env.ws env.places slots before)
        (switch_heads_after env.ws slots heads_before) (lookup_heads_after env.ws values lookups_before) slots
        resolves (omega (arith, labels_long, built.labels_there)) (omega (arith, fin.long, built.few)) tally 0 (blocks env.ws) (entered regs o)
        (omega arith) (omega arith) few adds tabled looked b (omega arith) (omega (arith, live.there)) live.is

pub layout : LayoutTheorem
layout regs span n env switches lookups slots values o before targets heads_before heads lookups_before lookup_heads built long resolves heads_long heads-are lookups_long lookups-are b live =
    rw (heads-are, lookups-are) (stands built slots values before targets heads_before lookups_before long resolves heads_long lookups_long b live)

pub entry : EntryTheorem
entry regs span n env switches lookups o built = at_entry built
