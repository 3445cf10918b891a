-- The chain of the definition at the kind that was found.
use Rattle.std.proofs.Common.{rules}
use Rattle.terms.proofs.Terms.{term_none, term_return, term_jump, term_tail, term_switch, term_branch}
use Rattle.terms.proofs.put_term.Goals as goal

pub returns-then-kind-eq-NONE : goal.returns-then-kind-eq-NONE
returns-then-kind-eq-NONE c = λ noted globals builtins. term_none _ _ _ _ _ _ c.block_field-kind.ensures c.if-kind-eq-NONE.true

pub returns-in-1 : goal.returns-in-1
returns-in-1 c =
    λ noted globals builtins.
    term_return _ _ _ _ _ _ c.block_field-kind.ensures c.block_field.ensures (c.at_span-q.ensures _ _ _) c.in-1.is (c.put_return.ensures _)

pub returns-in-2 : goal.returns-in-2
returns-in-2 c =
    λ noted globals builtins.
    term_jump _ _ _ _ _ _ c.block_field-kind.ensures c.block_field.ensures (c.at_span-q.ensures _ _ _) c.in-2.is c.block_field-e.ensures (c.put_edge.ensures _)

pub returns-in-6 : goal.returns-in-6
returns-in-6 c =
    λ noted globals builtins.
    term_tail _ _ _ _ _ _ c.block_field-kind.ensures c.block_field.ensures (c.at_span-q.ensures _ _ _) c.in-6.is c.block_field-in-6-2.ensures c.block_field-in-6-3.ensures
    c.block_field-in-6.ensures c.get_or-f.ensures (c.put_tail.ensures _)

pub returns-in-7 : goal.returns-in-7
returns-in-7 c =
    λ noted globals builtins.
    term_switch _ _ _ _ _ _ c.block_field-kind.ensures c.block_field.ensures (c.at_span-q.ensures _ _ _) c.in-7.is c.put_switch.ensures

pub returns-in_default : goal.returns-in_default
returns-in_default c =
    λ noted globals builtins.
    term_branch _ _ _ _ _ _ c.block_field-kind.ensures c.block_field.ensures (c.at_span-q.ensures _ _ _) c.if-kind-eq-NONE.false (search rules) (search rules) (search rules) (search rules)
    c.put_branches.ensures
