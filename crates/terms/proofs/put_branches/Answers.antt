-- One law for each branch: the operands are there, then the jump and the edges.
use mathlib.Core.Path.{◌∙◌}
use Rattle.std.proofs.Common.{rules}
use Rattle.terms.proofs.Terms.{branch_if, branch_imm, branch_cmp_lem}
use Rattle.terms.proofs.put_branches.Goals.{in-3, in-4, in_default}
use Rattle.terms.proofs.put_branches.Goals as goal

pub returns : goal.returns
returns c =
    elim c.match-block_field.branch [
      | in-3 w ↦
          branch_if _ _ _ _ _ c.block_field.ensures c.head_field.ensures c.block_field-e.ensures c.term_place-x.ensures c.operand_reg-l.ensures
          (c.put_fetch-q.ensures _) w.in-3.is (w.jump-is ∙ w.jump_f-jump.ensures) (rw (w.ops-is, w.spans-is, w.q-is) at c.put_branch.ensures)
      | in-4 w ↦
          branch_imm _ _ _ _ _ c.block_field.ensures c.head_field.ensures c.block_field-e.ensures c.term_place-x.ensures c.operand_reg-l.ensures
          (c.put_fetch-q.ensures _) w.in-4.is w.block_field-in-4.ensures (w.jump-is ∙ w.jump_ne_i-jump.ensures) (rw (w.ops-is, w.spans-is, w.q-is) at c.put_branch.ensures)
      | in_default w ↦
          branch_cmp_lem _ _ _ _ _ c.block_field.ensures c.head_field.ensures c.block_field-e.ensures c.term_place-x.ensures c.operand_reg-l.ensures
          (c.put_fetch-q.ensures _) (search rules) (search rules) w.term_place-y.ensures w.operand_reg-r.ensures (w.jump-is ∙ w.jump_s_ne-jump.ensures)
          (w.put_fetch-q-in_default.ensures _) (rw (w.ops-is, w.spans-is, w.q-is) at c.put_branch.ensures)
    ]
