-- A function's body: its blocks in order, by the rules for instructions, edges and terminators, on a machine with n registers.
use Rattle.std.specs.Prelude.{ℕ, zero, suc, ◌+◌, ◌*◌, Bool, true, List, eqb}
use Rattle.base.specs.Choice.{pick}
use Rattle.base.specs.Emission.{Out, emit, bind}
use Rattle.op.specs.Words.{word, parts}
use Rattle.op.specs.Ops as op
use Rattle.input.specs.Layout.{function_id, blocks}
use Rattle.input.specs.Records as in_words
use Rattle.input.specs.Records.{is_live, first_instr, instr_count, term_kind, first_edge, term_y}
use Rattle.edges.specs.Edges.{pad_count}
use Rattle.instrs.specs.Instrs.{Env, lookups_in, instrs_ops}
use Rattle.terms.specs.Terms.{term_ops}
use Rattle.body.specs.declared.Tally.{Tally}

-- the first live block of k from b on, or the end
unfoldable pub next_live : List ℕ → ℕ → ℕ → ℕ
next_live ws b zero = b
next_live ws b (suc k) = pick (is_live ws b) b (next_live ws (b + 1) k)

abbrev pub is_switch : List ℕ → ℕ → Bool
is_switch ws b = eqb (term_kind ws b) in_words.switch

-- the numbers of the next switch table and the next lookup table, and the label of the next pad, behind block b
unfoldable pub tallied : List ℕ → List ℕ → ℕ → Tally → Tally
tallied ws places b t =
    record {
      switches = t.switches + pick (is_switch ws b) 1 0;
      lookups = t.lookups + lookups_in ws (first_instr ws b) (instr_count ws b);
      label = t.label + pick (is_switch ws b) (pad_count ws places (first_edge ws b) (term_y ws b)) 0;
    }

-- a live block, with k blocks behind it: its label, its instructions, its terminator
unfoldable pub block_ops : ℕ → Env → Tally → ℕ → ℕ → Out → Out
block_ops n env t b k o =
    term_ops n env t.switches t.label (next_live env.ws (b + 1) k) b
    (instrs_ops n env t.lookups (first_instr env.ws b) (instr_count env.ws b) (bind b o))

-- k blocks from b on; a tombstone gives nothing
unfoldable pub blocks_ops : ℕ → Env → Tally → ℕ → ℕ → Out → Out
blocks_ops n env t b zero o = o
blocks_ops n env t b (suc k) o =
    pick (is_live env.ws b) (blocks_ops n env (tallied env.ws env.places b t) (b + 1) k (block_ops n env t b k o)) (blocks_ops n env t (b + 1) k o)

-- After its last block the root gets a Ret unless the program's last op is Ret or Tail.
abbrev pub ends_flow : ℕ → Bool
ends_flow last = pick (eqb (parts last).code (op.ret).code) true (eqb (parts last).code (op.tail 0).code)

unfoldable pub root_ret : List ℕ → Out → Out
root_ret ws o = pick (eqb (function_id ws) 0) (pick (ends_flow o.last) o (emit (word op.ret) o)) o

-- the body of a function in a program with so many switch and lookup tables
unfoldable pub body_ops : ℕ → Env → ℕ → ℕ → Out → Out
body_ops n env switches lookups o =
    root_ret env.ws
    (blocks_ops n env (record { switches = switches; lookups = lookups; label = 2 * blocks env.ws }) 0 (blocks env.ws) o)
