-- The three tests joined, with the lengths of the buffers.
use Rattle.input.specs.Layout.{function_id}
use Rattle.used.specs.Used.{labels_for}
use Rattle.first_checks.specs.Checks.{entry_ok}
use lib.Dec.{leb}
use lib.ListN.{length}
use Rattle.first_checks.proofs.Sizes.{under_both}
use Rattle.first_checks.proofs.enough.Goals as goal

pub returns : goal.returns
unfolding entry_ok
returns c = let a = c.args in
    λ b z.
    rw (c.labels_for-labels.ensures, c.head_field-id.ensures, z.labels, z.functions)
    (under_both (leb (labels_for a.ws.now) (length b.labels)) (function_id a.ws.now) (length b.functions) 65534)
