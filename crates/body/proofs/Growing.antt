-- Every rule of lowering only adds, and so does a body.
use mathlib.Core.Path.{◌≡◌}
use mathlib.Core.Bool.{Bool, true, false}
use Prim.Native.Nat.{ℕ, zero, suc, ◌≤◌, ◌+◌}
use mathlib.Core.List.{List}
use lib.Dec.{ltb, eqb}
use lib.ListN.{length, take}
use Rattle.base.specs.Choice.{pick}
use Rattle.base.specs.Emission.{Out, emit}
use Rattle.base.proofs.Numbers.{pick-both}
use Rattle.place.specs.Places.{slots_from}
use Rattle.op.specs.declared.Op.{Op}
use Rattle.input.specs.Layout.{function_id}
use Rattle.input.specs.Records as in_words
use Rattle.input.specs.Records.{is_live, instr_kind, term_kind, term_operand_count}
use Rattle.lower.specs.Operands.{fetched, stored}
use Rattle.lower.specs.Instructions.{lower_bin, lower_bin_imm, lower_cast, lower_alloc, lower_store, lower_load, lower_addr_of, lower_lookup, lower_assert, const_ops, is_global, lower_const}
use Rattle.edges.specs.Pairs.{move_pairs}
use Rattle.edges.specs.Edges.{has_moves, jump_to, edge, branch, pads, switch_edges}
use Rattle.calls.specs.Calls.{shuffle, call_with, lower_call, lower_sys, lower_tail}
use Rattle.body.specs.declared.Tally.{Tally}
use Rattle.instrs.specs.Instrs.{Env, memory_ops, compute_ops, load_const_ops, call_ops, sys_ops, instr_ops, instrs_ops}
use Rattle.terms.specs.Terms.{return_ops, branch_ops, switch_ops, term_ops}
use Rattle.body.specs.Body.{tallied, block_ops, blocks_ops, ends_flow, root_ret, body_ops}
use Rattle.body.proofs.Grows.{Grows, stays, by_all, by-emit, by_span, by-bind, starts_few, starts_keeps, Within}

-- a rule that only adds, whatever came before it
pub record Growing (f : Out → Out) : Type 0 where
  pub by : {o q : Out} → Grows o q → Grows o (f q)

choose : (t : Bool) {f g : Out → Out} → Growing f → Growing g → Growing (pick t f g)
choose true x y = x
choose false x y = y

nothing : Growing (λ o. o)
nothing = record { by = λ g. g }

-- ---- operands and destinations
module _ {o q : Out} (n p : ℕ) (g : Grows o q) where
  by-fetch : Grows o (fetched n p q)
  unfolding fetched
  by-fetch = pick-both (Grows o) (ltb p slots_from) _ _ g (by-emit _ g)

  by-store : Grows o (stored n p q)
  unfolding stored
  by-store = pick-both (Grows o) (ltb p slots_from) _ _ g (by-emit _ g)

-- ---- instructions
module _ (n x y z w : ℕ) where
  bin_grows : Growing (lower_bin n x y z w)
  unfolding lower_bin
  bin_grows = record { by = λ g. by-store n y (by-emit _ (by-fetch n w (by-fetch n z g))) }

  imm_grows : Growing (lower_bin_imm n x y z w)
  unfolding lower_bin_imm
  imm_grows = record { by = λ g. by-store n y (by-emit _ (by-fetch n z g)) }

  cast_grows : Growing (lower_cast n x y z w)
  unfolding lower_cast
  cast_grows = record { by = λ g. by-store n z (by-emit _ (by-fetch n w g)) }

  alloc_grows : Growing (lower_alloc n x y z w)
  unfolding lower_alloc
  alloc_grows = record { by = λ g. by-store n x (by-emit _ g) }

module _ (n x y z : ℕ) where
  store_grows : Growing (lower_store n x y z)
  unfolding lower_store
  store_grows = record { by = λ g. by-emit _ (by-fetch n y (by-fetch n x g)) }

  load_grows : Growing (lower_load n x y z)
  unfolding lower_load
  load_grows = record { by = λ g. by-store n x (by-emit _ (by-fetch n y g)) }

  address_grows : Growing (lower_addr_of n x y z)
  unfolding lower_addr_of
  address_grows = record { by = λ g. by-store n x (by-emit _ (by-fetch n y g)) }

  lookup_grows : Growing (lower_lookup n x y z)
  unfolding lower_lookup
  lookup_grows = record { by = λ g. by-store n x (by-emit _ (by-fetch n y g)) }

assert_grows : (n x y : ℕ) → Growing (lower_assert n x y)
unfolding lower_assert
assert_grows n x y = record { by = λ g. by-store n x (by-emit _ (by-fetch n y g)) }

emits : (w : ℕ) → Growing (emit w)
emits w = record { by = by-emit w }

loaded_grows : (kind payload global d : ℕ) → Growing (const_ops kind payload global d)
unfolding const_ops
loaded_grows kind payload global d =
    choose (is_global kind payload) (emits _)
    (choose (eqb kind in_words.int_const) (emits _) (choose (eqb kind in_words.true_const) (emits _) (choose (eqb kind in_words.false_const) (emits _) nothing)))

const_grows : (n dst kind payload global : ℕ) → Growing (lower_const n dst kind payload global)
unfolding lower_const
const_grows n dst kind payload global = record { by = λ g. by-store n dst ((loaded_grows kind payload global _).by g) }

-- ---- edges
pairs_grow : (n : ℕ) (ss ds : List ℕ) → Growing (move_pairs n ss ds)
unfolding move_pairs
pairs_grow n ss ds = record { by = by_all _ }

jump_grows : (next target : ℕ) → Growing (jump_to next target)
unfolding jump_to
jump_grows next target = record { by = λ {o} g. pick-both (Grows o) (eqb target next) _ _ g (by-emit _ g) }

module _ (n : ℕ) (ws map : List ℕ) where
  edge_grows : (next e : ℕ) → Growing (edge n ws map next e)
  unfolding edge
  edge_grows next e = record { by = λ g. (jump_grows _ _).by ((pairs_grow n _ _).by g) }

  branch_grows : (jump : Op) (label next e : ℕ) → Growing (branch n ws map jump label next e)
  unfolding branch
  branch_grows jump label next e =
      record {
        by = λ {o} g.
            pick-both (Grows o) (has_moves ws map e) _ _ ((edge_grows _ _).by (by-bind _ ((edge_grows _ _).by (by-emit _ g))))
            ((edge_grows _ _).by (by-emit _ g));
      }

  pads_grow : (label e k : ℕ) → Growing (pads n ws map label e k)
  unfolding pads
  pads_grow label e zero = record { by = λ g. g }
  pads_grow label e (suc k) =
      record {
        by = λ {o} g.
            pick-both (Grows o) (has_moves ws map e) _ _ ((pads_grow (label + 1) (e + 1) k).by ((edge_grows _ _).by (by-bind _ g))) ((pads_grow label (e + 1) k).by g);
      }

  cases_grow : (label next e cases : ℕ) → Growing (switch_edges n ws map label next e cases)
  unfolding switch_edges
  cases_grow label next e cases = record { by = λ g. (pads_grow label e cases).by ((edge_grows _ _).by g) }

-- ---- calls
module _ (n : ℕ) (places : List ℕ) where
  shuffle_grows : (pushes : ℕ) (arguments : List ℕ) → Growing (shuffle n places pushes arguments)
  unfolding shuffle
  shuffle_grows pushes arguments = pairs_grow n _ _

  with_grows : (pushes arguments : List ℕ) (called dst : ℕ) → Growing (call_with n places pushes arguments called dst)
  unfolding call_with
  with_grows pushes arguments called dst =
      record { by = λ g. by-store n dst (by_all _ (by-emit _ (by-emit _ ((shuffle_grows _ _).by (by_all _ g))))) }

  call_grows : (noted : ℕ) (arguments : List ℕ) (f dst : ℕ) → Growing (lower_call n places noted arguments f dst)
  unfolding lower_call
  call_grows noted arguments f dst = with_grows _ _ _ _

  sys_grows : (noted : ℕ) (arguments : List ℕ) (number dst : ℕ) → Growing (lower_sys n places noted arguments number dst)
  unfolding lower_sys
  sys_grows noted arguments number dst = with_grows _ _ _ _

  tail_grows : (arguments : List ℕ) (f : ℕ) → Growing (lower_tail n places arguments f)
  unfolding lower_tail
  tail_grows arguments f = record { by = λ g. by_all _ ((shuffle_grows _ _).by g) }

-- ---- a row by its kind
module _ (n : ℕ) (ws places : List ℕ) (i : ℕ) where
  memory_grows : Growing (memory_ops n ws places i)
  unfolding memory_ops
  memory_grows =
      choose (eqb (instr_kind ws i) in_words.alloc) (alloc_grows n _ _ _ _)
      (choose (eqb (instr_kind ws i) in_words.store) (store_grows n _ _ _)
      (choose (eqb (instr_kind ws i) in_words.load) (load_grows n _ _ _)
      (choose (eqb (instr_kind ws i) in_words.addr_of) (address_grows n _ _ _) nothing)))

  compute_grows : Growing (compute_ops n ws places i)
  unfolding compute_ops
  compute_grows =
      choose (eqb (instr_kind ws i) in_words.bin) (bin_grows n _ _ _ _)
      (choose (eqb (instr_kind ws i) in_words.bin_imm) (imm_grows n _ _ _ _)
      (choose (eqb (instr_kind ws i) in_words.cast) (cast_grows n _ _ _ _)
      (choose (eqb (instr_kind ws i) in_words.assert) (assert_grows n _ _) memory_grows)))

  constant_grows : (globals : List ℕ) (c : ℕ) → Growing (load_const_ops n ws places globals i c)
  unfolding load_const_ops
  constant_grows globals c = const_grows n _ _ _ _

  called_grows : (noted functions : List ℕ) → Growing (call_ops n ws places noted functions i)
  unfolding call_ops
  called_grows noted functions = call_grows n places _ _ _ _

  builtin_grows : (noted builtins : List ℕ) → Growing (sys_ops n ws places noted builtins i)
  unfolding sys_ops
  builtin_grows noted builtins = sys_grows n places _ _ _ _

module _ (n : ℕ) (env : Env) where
  instr_grows : (table i : ℕ) → Growing (instr_ops n env table i)
  unfolding instr_ops
  instr_grows table i =
      choose (eqb (instr_kind env.ws i) in_words.load_const) (constant_grows n env.ws env.places i _ _)
      (choose (eqb (instr_kind env.ws i) in_words.call) (called_grows n env.ws env.places i _ _)
      (choose (eqb (instr_kind env.ws i) in_words.sys) (builtin_grows n env.ws env.places i _ _)
      (choose (eqb (instr_kind env.ws i) in_words.lookup) (lookup_grows n _ _ _) (compute_grows n env.ws env.places i))))

  instrs_grow : (table i k : ℕ) → Growing (instrs_ops n env table i k)
  unfolding instrs_ops
  instrs_grow table i zero = record { by = λ g. g }
  instrs_grow table i (suc k) = record { by = λ g. (instrs_grow (table + pick (eqb (instr_kind env.ws i) in_words.lookup) 1 0) (i + 1) k).by ((instr_grows table i).by (by_span _ g)) }

-- ---- terminators
module _ (n : ℕ) (ws places : List ℕ) where
  return_grows : (b : ℕ) → Growing (return_ops n ws places b)
  unfolding return_ops
  return_grows b =
      choose (eqb (term_operand_count ws b) 0) (emits _) (record { by = λ g. by-emit _ (by-emit _ (by-fetch n _ g)) })

  branches_grow : (next b : ℕ) → Growing (branch_ops n ws places next b)
  unfolding branch_ops
  branches_grow next b =
      choose (eqb (term_kind ws b) in_words.branch) (record { by = λ g. (branch_grows n ws places _ _ _ _).by (by-fetch n _ g) })
      (choose (eqb (term_kind ws b) in_words.branch_cmp_imm) (record { by = λ g. (branch_grows n ws places _ _ _ _).by (by-fetch n _ g) })
      (record { by = λ g. (branch_grows n ws places _ _ _ _).by (by-fetch n _ (by-fetch n _ g)) }))

  switch_grows : (table label next b : ℕ) → Growing (switch_ops n ws places table label next b)
  unfolding switch_ops
  switch_grows table label next b = record { by = λ g. (cases_grow n ws places _ _ _ _).by (by-emit _ (by-fetch n _ g)) }

-- ---- blocks and the body
module _ (n : ℕ) (env : Env) where
  term_grows : (table label next b : ℕ) → Growing (term_ops n env table label next b)
  unfolding term_ops
  term_grows table label next b =
      record {
        by = λ {o} g.
            pick-both (Grows o) (eqb (term_kind env.ws b) in_words.no_term) _ _ g
            ((choose (eqb (term_kind env.ws b) in_words.return) (return_grows n env.ws env.places b)
            (choose (eqb (term_kind env.ws b) in_words.jump) (edge_grows n env.ws env.places _ _)
            (choose (eqb (term_kind env.ws b) in_words.tail_call) (tail_grows n env.places _ _)
            (choose (eqb (term_kind env.ws b) in_words.switch) (switch_grows n env.ws env.places table label next b)
            (branches_grow n env.ws env.places next b))))
            ).by (by_span _ g));
      }

  block_grows : (t : Tally) (b k : ℕ) → Growing (block_ops n env t b k)
  unfolding block_ops
  block_grows t b k = record { by = λ g. (term_grows _ _ _ b).by ((instrs_grow n env _ _ _).by (by-bind b g)) }

  blocks_grow : (t : Tally) (b k : ℕ) → Growing (blocks_ops n env t b k)
  unfolding blocks_ops
  blocks_grow t b zero = record { by = λ g. g }
  blocks_grow t b (suc k) =
      record {
        by = λ {o} g. pick-both (Grows o) (is_live env.ws b) _ _ ((blocks_grow (tallied env.ws env.places b t) (b + 1) k).by ((block_grows t b k).by g)) ((blocks_grow t (b + 1) k).by g);
      }

root_grows : (ws : List ℕ) → Growing (root_ret ws)
unfolding root_ret
root_grows ws =
    record {
      by = λ {o} {q} g.
          pick-both (Grows o) (eqb (function_id ws) 0) _ _ (pick-both (Grows o) (ends_flow q.last) _ _ g (by-emit _ g)) g;
    }

module _ (n : ℕ) (env : Env) (switches lookups : ℕ) where
  body_growing : Growing (body_ops n env switches lookups)
  unfolding body_ops
  body_growing = record { by = λ g. (root_grows env.ws).by ((blocks_grow n env _ _ _).by g) }

  module _ (o : Out) where
    -- what a body makes of what stood before it
    pub body_adds : Grows o (body_ops n env switches lookups o)
    body_adds = body_growing.by (stays o)

    pub body_grows : length o.ops ≤ length (body_ops n env switches lookups o).ops
    body_grows = starts_few body_adds.ops_start

    pub body_keeps : take (length o.ops) (body_ops n env switches lookups o).ops ≡ o.ops
    body_keeps = starts_keeps body_adds.ops_start

    pub body_keeps_spans : take (length o.spans) (body_ops n env switches lookups o).spans ≡ o.spans
    body_keeps_spans = starts_keeps body_adds.spans_start

    pub body_labels : length (body_ops n env switches lookups o).labels ≡ length o.labels
    body_labels = body_adds.labels_many

    pub body_within : Within o.labels (length o.ops) → Within (body_ops n env switches lookups o).labels (length (body_ops n env switches lookups o).ops)
    body_within = body_adds.labels_within
