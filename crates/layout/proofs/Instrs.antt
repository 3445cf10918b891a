-- Every instruction is straight: it adds ops behind which control goes on, and binds no label.
use mathlib.Core.Path.{◌≡◌, refl}
use mathlib.Core.Bool.{Bool, true, false}
use Prim.Native.Nat.{ℕ, zero, suc, ◌+◌, ◌-◌, ◌%◌, ◌^◌}
use mathlib.Core.List.{List, reverse}
use native.Mathlib.Nat.{add-zero}
use native.Mathlib.Omega.{arith}
use lib.Dec.{ltb, eqb}
use lib.ListN.{length}
use Rattle.base.specs.Choice.{pick}
use Rattle.base.specs.Emission.{Out, emit, at_span}
use Rattle.base.proofs.Numbers.{pick-both}
use Rattle.place.specs.Registers.{tmp_of}
use Rattle.place.specs.Places.{slots_from}
use Rattle.op.specs.declared.Op.{Op}
use Rattle.op.specs.Words.{word}
use Rattle.op.specs.Ops as op
use Rattle.input.specs.Records as in_words
use Rattle.input.specs.Records.{instr_kind, instr_span}
use Rattle.program.specs.Functions as table-words
use Rattle.lower.specs.Operands.{fetched, stored, spare}
use Rattle.lower.specs.Instructions.{cast_op, lower_bin, lower_bin_imm, lower_cast, lower_alloc, lower_store, lower_load, lower_addr_of, lower_lookup, lower_assert, const_ops, is_global, lower_const}
use Rattle.edges.specs.Pairs.{move_pairs, differing_sources, differing_destinations}
use Rattle.calls.specs.Calls.{argument_places, argument_regs, shuffle, call_with, called_as, lower_call, lower_sys}
use Rattle.instrs.specs.Instrs.{Env, memory_ops, compute_ops, load_const_ops, call_ops, sys_ops, instr_ops, lookups_in, instrs_ops}
use Rattle.layout.specs.Layout.{goes_on}
use Rattle.layout.proofs.Straight.{goes_op, pushes_go, pops_go, moves_go, bin_goes, imm_goes}
use Rattle.layout.proofs.Adding.{Goes, by_all, by-emit, by_span}

-- a straight rule, whatever came before it
pub record Going (f : Out → Out) : Type 0 where
  pub by : {o q : Out} → Goes o q → Goes o (f q)

choose : (t : Bool) {f g : Out → Out} → Going f → Going g → Going (pick t f g)
choose true x y = x
choose false x y = y

nothing : Going (λ o. o)
nothing = record { by = λ g. g }

-- ---- operands and destinations
module _ {o q : Out} (n p : ℕ) (g : Goes o q) where
  pub by-fetch : Goes o (fetched n p q)
  unfolding fetched
  by-fetch = pick-both (Goes o) (ltb p slots_from) _ _ g (by-emit _ (goes_op 25 (spare n q.last) 0 0 (p - slots_from) (omega arith) refl) g)

  by-store : Goes o (stored n p q)
  unfolding stored
  by-store = pick-both (Goes o) (ltb p slots_from) _ _ g (by-emit _ (goes_op 24 (tmp_of n) 0 0 (p - slots_from) (omega arith) refl) g)

-- ---- one op
module _ {o q : Out} (g : Goes o q) where
  by-cast : (to from d s : ℕ) → Goes o (emit (word (cast_op to from d s)) q)
  by-cast to from d s =
      by-emit (word (cast_op to from d s))
      (pick-both (λ (x : Op). goes_on (word x) ≡ true) (eqb from 0) _ _
      (pick-both (λ (x : Op). goes_on (word x) ≡ true) (eqb to 1) _ _ (goes_op 27 d s 0 0 (omega arith) refl) (goes_op 28 d s 0 0 (omega arith) refl))
      (pick-both (λ (x : Op). goes_on (word x) ≡ true) (eqb from 1) _ _ (goes_op 26 d s 0 0 (omega arith) refl) (goes_op 2 d s 0 0 (omega arith) refl)))
      g

-- ---- instructions
module _ (n x y z w : ℕ) where
  bin_going : Going (lower_bin n x y z w)
  unfolding lower_bin
  bin_going = record { by = λ g. by-store n y (by-emit _ (bin_goes x _ _ _) (by-fetch n w (by-fetch n z g))) }

  imm_going : Going (lower_bin_imm n x y z w)
  unfolding lower_bin_imm
  imm_going = record { by = λ g. by-store n y (by-emit _ (imm_goes x _ _ w) (by-fetch n z g)) }

  cast_going : Going (lower_cast n x y z w)
  unfolding lower_cast
  cast_going = record { by = λ g. by-store n z (by-cast (by-fetch n w g) x y _ _) }

  alloc_going : Going (lower_alloc n x y z w)
  unfolding lower_alloc
  alloc_going = record { by = λ g. by-store n x (by-emit _ (goes_op 29 _ y w z (omega arith) refl) g) }

module _ (n x y z : ℕ) where
  store_going : Going (lower_store n x y z)
  unfolding lower_store
  store_going = record { by = λ g. by-emit _ (goes_op 30 _ _ 0 z (omega arith) refl) (by-fetch n y (by-fetch n x g)) }

  load_going : Going (lower_load n x y z)
  unfolding lower_load
  load_going = record { by = λ g. by-store n x (by-emit _ (goes_op 31 _ _ 0 z (omega arith) refl) (by-fetch n y g)) }

  address_going : Going (lower_addr_of n x y z)
  unfolding lower_addr_of
  address_going = record { by = λ g. by-store n x (by-emit _ (goes_op 32 _ _ 0 z (omega arith) refl) (by-fetch n y g)) }

  lookup_going : Going (lower_lookup n x y z)
  unfolding lower_lookup
  lookup_going = record { by = λ g. by-store n x (by-emit _ (goes_op 13 _ _ 0 z (omega arith) refl) (by-fetch n y g)) }

assert_going : (n x y : ℕ) → Going (lower_assert n x y)
unfolding lower_assert
assert_going n x y = record { by = λ g. by-store n x (by-emit _ (goes_op 34 _ 0 0 0 (omega arith) refl) (by-fetch n y g)) }

emits : (w : ℕ) → goes_on w ≡ true → Going (emit w)
emits w h = record { by = by-emit w h }

loaded_going : (kind payload global d : ℕ) → Going (const_ops kind payload global d)
unfolding const_ops
loaded_going kind payload global d =
    choose (is_global kind payload) (emits _ (goes_op 4 d 0 0 global (omega arith) refl))
    (choose (eqb kind in_words.int_const) (emits _ (goes_op 3 d 0 0 (payload % 2 ^ 32) (omega arith) refl))
    (choose (eqb kind in_words.true_const) (emits _ (goes_op 3 d 0 0 1 (omega arith) refl))
    (choose (eqb kind in_words.false_const) (emits _ (goes_op 3 d 0 0 0 (omega arith) refl)) nothing)))

const_going : (n dst kind payload global : ℕ) → Going (lower_const n dst kind payload global)
unfolding lower_const
const_going n dst kind payload global = record { by = λ g. by-store n dst ((loaded_going kind payload global _).by g) }

-- ---- calls
pub called_goes : (f : ℕ) → goes_on (called_as f) ≡ true
unfolding called_as
called_goes f =
    pick-both (λ (x : ℕ). goes_on x ≡ true) (eqb (table-words.function_kind f) table-words.bytecode) _ _ (goes_op 15 0 0 0 (table-words.function_number f % 2 ^ 32) (omega arith) refl)
    (goes_op 17 (table-words.function_kind f - table-words.native) 0 0 (table-words.function_number f % 2 ^ 32) (omega arith) refl)

module _ (n : ℕ) (places : List ℕ) where
  shuffle_going : (pushes : ℕ) (arguments : List ℕ) → Going (shuffle n places pushes arguments)
  unfolding shuffle move_pairs
  shuffle_going pushes arguments =
      record {
        by = by_all (moves_go n (differing_sources (argument_places places pushes arguments) (argument_regs 0 arguments))
            (differing_destinations (argument_places places pushes arguments) (argument_regs 0 arguments)));
      }

  with_going : (pushes arguments : List ℕ) (called dst : ℕ) → goes_on called ≡ true → Going (call_with n places pushes arguments called dst)
  unfolding call_with
  with_going pushes arguments called dst h =
      record {
        by = λ g.
            by-store n dst
            (by_all (pops_go (reverse pushes))
            (by-emit _ (goes_op 2 _ 0 0 0 (omega arith) refl)
            (by-emit called h ((shuffle_going (length pushes) arguments).by (by_all (pushes_go pushes) g)))));
      }

  call_going : (noted : ℕ) (arguments : List ℕ) (f dst : ℕ) → Going (lower_call n places noted arguments f dst)
  unfolding lower_call
  call_going noted arguments f dst = with_going _ arguments (called_as f) dst (called_goes f)

  sys_going : (noted : ℕ) (arguments : List ℕ) (number dst : ℕ) → Going (lower_sys n places noted arguments number dst)
  unfolding lower_sys
  sys_going noted arguments number dst =
      with_going _ arguments (word (op.sys number (length arguments))) dst (goes_op 16 (length arguments) 0 0 number (omega arith) refl)

-- ---- a row by its kind
module _ (n : ℕ) (ws places : List ℕ) (i : ℕ) where
  memory_going : Going (memory_ops n ws places i)
  unfolding memory_ops
  memory_going =
      choose (eqb (instr_kind ws i) in_words.alloc) (alloc_going n _ _ _ _)
      (choose (eqb (instr_kind ws i) in_words.store) (store_going n _ _ _)
      (choose (eqb (instr_kind ws i) in_words.load) (load_going n _ _ _)
      (choose (eqb (instr_kind ws i) in_words.addr_of) (address_going n _ _ _) nothing)))

  compute_going : Going (compute_ops n ws places i)
  unfolding compute_ops
  compute_going =
      choose (eqb (instr_kind ws i) in_words.bin) (bin_going n _ _ _ _)
      (choose (eqb (instr_kind ws i) in_words.bin_imm) (imm_going n _ _ _ _)
      (choose (eqb (instr_kind ws i) in_words.cast) (cast_going n _ _ _ _)
      (choose (eqb (instr_kind ws i) in_words.assert) (assert_going n _ _) memory_going)))

  constant_going : (globals : List ℕ) (c : ℕ) → Going (load_const_ops n ws places globals i c)
  unfolding load_const_ops
  constant_going globals c = const_going n _ _ _ _

  called_going : (noted functions : List ℕ) → Going (call_ops n ws places noted functions i)
  unfolding call_ops
  called_going noted functions = call_going n places _ _ _ _

  builtin_going : (noted builtins : List ℕ) → Going (sys_ops n ws places noted builtins i)
  unfolding sys_ops
  builtin_going noted builtins = sys_going n places _ _ _ _

module _ (n : ℕ) (env : Env) where
  pub instr_going : (table i : ℕ) → Going (instr_ops n env table i)
  unfolding instr_ops
  instr_going table i =
      choose (eqb (instr_kind env.ws i) in_words.load_const) (constant_going n env.ws env.places i _ _)
      (choose (eqb (instr_kind env.ws i) in_words.call) (called_going n env.ws env.places i _ _)
      (choose (eqb (instr_kind env.ws i) in_words.sys) (builtin_going n env.ws env.places i _ _)
      (choose (eqb (instr_kind env.ws i) in_words.lookup) (lookup_going n _ _ _) (compute_going n env.ws env.places i))))

  pub instrs_going : (table i k : ℕ) → Going (instrs_ops n env table i k)
  unfolding instrs_ops
  instrs_going table i zero = record { by = λ g. g }
  instrs_going table i (suc k) = record { by = λ g. (instrs_going (table + pick (eqb (instr_kind env.ws i) in_words.lookup) 1 0) (i + 1) k).by ((instr_going table i).by (by_span _ g)) }

  -- a run of instructions is its first j and the rest
  pub instrs_split : (t i j k : ℕ) (o : Out)
      → instrs_ops n env t i (j + k) o ≡ instrs_ops n env (t + lookups_in env.ws i j) (i + j) k (instrs_ops n env t i j o)
  unfolding instrs_ops lookups_in
  instrs_split t i zero k o =
      let a : 0 + k ≡ k = omega arith in
      rw (a, add-zero t, add-zero i)
  instrs_split t i (suc j) k o =
      let x : ℕ = pick (eqb (instr_kind env.ws i) in_words.lookup) 1 0 in
      let m : ℕ = lookups_in env.ws (i + 1) j in
      let a : suc j + k ≡ suc (j + k) = omega arith in
      let c : i + suc j ≡ i + 1 + j = omega arith in
      let d : t + (x + m) ≡ t + x + m = omega arith in
      rw (a, c, d) (instrs_split (t + x) (i + 1) j k (instr_ops n env t i (at_span (instr_span env.ws i) o)))
