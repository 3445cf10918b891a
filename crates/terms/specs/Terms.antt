-- A block's terminator, by the rules for edges and tails, on a machine with n registers.
use Rattle.std.specs.Prelude.{ℕ, ◌+◌, List, eqb, get_or}
use Rattle.base.specs.Choice.{pick}
use Rattle.base.specs.Emission.{Out, emit, at_span}
use Rattle.op.specs.declared.Op.{Op}
use Rattle.op.specs.Words.{word}
use Rattle.op.specs.Ops as op
use Rattle.input.specs.Layout.{blocks, pool_at}
use Rattle.input.specs.Records as in_words
use Rattle.input.specs.Records.{term_kind, term_span, term_operands_at, term_operand_count, term_operands, first_edge, term_x, term_y}
use Rattle.lower.specs.Operands.{place_at, operand}
use Rattle.calls.specs.Calls.{lower_tail}
use Rattle.edges.specs.Edges.{edge, branch, switch_edges}
use Rattle.instrs.specs.Instrs.{Env}

-- the place of a terminator's operand k
abbrev pub term_place : List ℕ → List ℕ → ℕ → ℕ → ℕ
term_place ws places b k = place_at places (pool_at ws (term_operands_at ws b + k))

-- Return of a value moves it to register 0
unfoldable pub return_ops : ℕ → List ℕ → List ℕ → ℕ → Out → Out
return_ops n ws places b =
    pick (eqb (term_operand_count ws b) 0) (emit (word op.ret))
    (operand n (term_place ws places b 0) (λ s o. emit (word op.ret) (emit (word (op.mov 0 s)) o)))

-- the branches: JmpF, JmpNeI or JmpSNe to the no block, given here without a target; `next` is the next live block
abbrev pub branch_by : ℕ → List ℕ → List ℕ → ℕ → ℕ → Op → Out → Out
branch_by n ws places next b jump = branch n ws places jump (blocks ws + b) next (first_edge ws b)

unfoldable pub branch_ops : ℕ → List ℕ → List ℕ → ℕ → ℕ → Out → Out
branch_ops n ws places next b =
    pick (eqb (term_kind ws b) in_words.branch) (operand n (term_place ws places b 0) (λ c. branch_by n ws places next b (op.jmp_f c 0)))
    (pick (eqb (term_kind ws b) in_words.branch_cmp_imm)
    (operand n (term_place ws places b 0) (λ l. branch_by n ws places next b (op.jmp_ne_i l (term_y ws b) 0)))
    (operand n (term_place ws places b 0) (λ l. operand n (term_place ws places b 1) (λ r. branch_by n ws places next b (op.jmp_s_ne l r 0)))))

-- Switch, with the number of its table, and the label of its first pad
unfoldable pub switch_ops : ℕ → List ℕ → List ℕ → ℕ → ℕ → ℕ → ℕ → Out → Out
switch_ops n ws places table label next b =
    operand n (term_place ws places b 0)
    (λ s o. switch_edges n ws places label next (first_edge ws b) (term_y ws b) (emit (word (op.switch s table)) o))

-- A terminator by its kind. Where there is none, it has no span either.
unfoldable pub term_ops : ℕ → Env → ℕ → ℕ → ℕ → ℕ → Out → Out
term_ops n env table label next b o =
    pick (eqb (term_kind env.ws b) in_words.no_term) o
    (pick (eqb (term_kind env.ws b) in_words.return) (return_ops n env.ws env.places b)
    (pick (eqb (term_kind env.ws b) in_words.jump) (edge n env.ws env.places next (first_edge env.ws b))
    (pick (eqb (term_kind env.ws b) in_words.tail_call)
    (lower_tail n env.places (term_operands env.ws b) (get_or env.functions (term_x env.ws b) 0))
    (pick (eqb (term_kind env.ws b) in_words.switch) (switch_ops n env.ws env.places table label next b)
    (branch_ops n env.ws env.places next b))))
    (at_span (term_span env.ws b) o))
