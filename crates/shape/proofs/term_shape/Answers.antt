-- The six tests joined are those of the definition, by what each callee ensures.
use Prim.Native.Nat.{◌+◌}
use lib.Dec.{leb}
use Rattle.input.specs.Layout.{edges}
use Rattle.shape.specs.Shape.{term_shape}
use Rattle.input.proofs.Chain.{both_rest}
use Rattle.shape.proofs.Tests.{or_where, all_six}
use Rattle.shape.proofs.term_shape.Goals as goal

pub returns : goal.returns
unfolding term_shape
returns c =
    let ws = c.args.ws.now in
    let there = leb (c.block_field-3.result + c.block_field-4.result) (edges ws) in
    rw (all_six, c.edges_in.ensures, both_rest there, c.block_field-4.ensures, c.block_field-3.ensures)
    (rw (c.part_in.ensures, c.head_field.ensures, c.list_in.ensures, c.block_field-2.ensures, c.block_field.ensures)
    (rw (c.has_end.ensures, c.block_field-cases.ensures, c.block_field-x.ensures, c.block_field-kind.ensures) (simp or_where)))
