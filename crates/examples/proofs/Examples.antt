-- Document 01's examples marked *, computed by the definitions; those of moves for a machine with 32 registers: SCRATCH is 31, TMP is 30.
use mathlib.Core.Path.{◌≡◌, refl}
use Prim.Native.Nat.{ℕ, ◌+◌, ◌-◌, ◌^◌}
use mathlib.Core.List.{[], ◌∷◌}
use Rattle.std.specs.Prelude.{Option, Some, None}
use Rattle.base.specs.Masks.{has_bit, with_bit, without_bit}
use Rattle.base.specs.Emission.{Out, emit}
use Rattle.place.specs.declared.Place.{Place}
use Rattle.place.specs.declared.Reg.TheVariants.{Gpr}
use Rattle.place.specs.declared.Place.TheVariants.{Slot, Register}
use Rattle.place.specs.Places.{slots_from, found_of}
use Rattle.alloc.specs.State.{mask_of, fresh_of}
use Rattle.alloc.specs.Allocation.{kept_of, gone_of, free_reg, free_slot, release, release_all, expire_of, is_free, take_reg, last_free, take_slot, from_pool, hinted, take_of, enter, new_place, place_of}
use Rattle.op.specs.Words.{word}
use Rattle.op.specs.Ops.{mov, load_slot, store_slot, load_i, load_g, tail, call, ret}
use Rattle.program.specs.Functions.{function_at, bytecode}
use Rattle.input.specs.Records.{int_const}
use Rattle.lower.specs.Operands.{dest_reg, stored}
use Rattle.lower.specs.Instructions.{is_global, const_ops, lower_const}
use Rattle.calls.specs.Calls.{called_as, tail_words}
use Rattle.moves.specs.Moves.{moves, parked_in, turns, parks_in, turn_ops, turn_sources, turn_destinations, turn_parks, swap_remove}

-- 1: g0>g1, g1>g0, s2>g5
pub example_1 : moves 32 (0 ∷ 1 ∷ (slots_from + 2) ∷ []) (1 ∷ 0 ∷ 5 ∷ []) ≡ load_slot 5 2 ∷ mov 31 0 ∷ mov 0 1 ∷ mov 1 31 ∷ []
unfolding moves turns turn_ops turn_sources turn_destinations swap_remove
example_1 = refl

pub parked_1 : parked_in 32 (0 ∷ 1 ∷ (slots_from + 2) ∷ []) (1 ∷ 0 ∷ 5 ∷ []) ≡ 1
unfolding parked_in parks_in turn_sources turn_destinations turn_parks swap_remove
parked_1 = refl

-- 2: g0>g4, g1>g5, g2>g6: destinations come 4, 6, 5, whatever N is
pub example_2 : (n : ℕ) → moves n (0 ∷ 1 ∷ 2 ∷ []) (4 ∷ 5 ∷ 6 ∷ []) ≡ mov 4 0 ∷ mov 6 2 ∷ mov 5 1 ∷ []
unfolding moves turns turn_ops turn_sources turn_destinations swap_remove
example_2 n = refl

pub parked_2 : (n : ℕ) → parked_in n (0 ∷ 1 ∷ 2 ∷ []) (4 ∷ 5 ∷ 6 ∷ []) ≡ 0
unfolding parked_in parks_in turn_sources turn_destinations turn_parks swap_remove
parked_2 n = refl

-- 3: s0>s1, s1>s0
pub example_3 : moves 32 ((slots_from + 0) ∷ (slots_from + 1) ∷ []) ((slots_from + 1) ∷ (slots_from + 0) ∷ [])
    ≡ load_slot 31 0 ∷ load_slot 30 1 ∷ store_slot 0 30 ∷ store_slot 1 31 ∷ []
unfolding moves turns turn_ops turn_sources turn_destinations swap_remove
example_3 = refl

pub parked_3 : parked_in 32 ((slots_from + 0) ∷ (slots_from + 1) ∷ []) ((slots_from + 1) ∷ (slots_from + 0) ∷ []) ≡ 1
unfolding parked_in parks_in turn_sources turn_destinations turn_parks swap_remove
parked_3 = refl

-- 4: one general register, number 3; a value is placed at 0 with an end, then another at 5, whose place this is
unfoldable pub second : ℕ → Option Place
second end =
    (place_of (0 ∷ 0 ∷ []) 1 0 5 9 None (3 ∷ [])
    (place_of (0 ∷ 0 ∷ []) 0 0 0 end None (3 ∷ []) (fresh_of (3 ∷ []) [])).state).got

-- end 5, allocate at 5: the register is reused
pub example_4_reused : second 5 ≡ Some (Register (Gpr 3))
unfolding second place_of new_place enter take_of from_pool last_free expire_of kept_of gone_of release_all release free_reg free_slot take_reg take_slot is_free hinted fresh_of mask_of found_of has_bit with_bit without_bit
example_4_reused = refl

-- end 6: not
pub example_4_kept : second 6 ≡ Some (Slot 0)
unfolding second place_of new_place enter take_of from_pool last_free expire_of kept_of gone_of release_all release free_reg free_slot take_reg take_slot is_free hinted fresh_of mask_of found_of has_bit with_bit without_bit
example_4_kept = refl

-- 5, for a destination in register 5, whatever N is: Int 2147483646 is LoadI
pub example_5_small : (n global : ℕ) (o : Out) → lower_const n 5 int_const 2147483646 global o ≡ emit (word (load_i 5 2147483646)) o
unfolding lower_const const_ops is_global dest_reg stored
example_5_small n global o = refl

-- 2147483647 is LoadG
pub example_5_most : (n global : ℕ) (o : Out) → lower_const n 5 int_const 2147483647 global o ≡ emit (word (load_g 5 global)) o
unfolding lower_const const_ops is_global dest_reg stored
example_5_most n global o = refl

-- -2147483648 is LoadG, and the next above it LoadI
pub example_5_least : (n global : ℕ) (o : Out) → lower_const n 5 int_const (2 ^ 64 - 2147483648) global o ≡ emit (word (load_g 5 global)) o
unfolding lower_const const_ops is_global dest_reg stored
example_5_least n global o = refl

pub example_5_above_least : (n global : ℕ) (o : Out)
    → lower_const n 5 int_const (2 ^ 64 - 2147483647) global o ≡ emit (word (load_i 5 (2 ^ 32 - 2147483647))) o
unfolding lower_const const_ops is_global dest_reg stored
example_5_above_least n global o = refl

-- 6, of bytecode that starts at pc 7: with 19 arguments Tail, with 20 Call and Ret
pub example_6_nineteen : tail_words (function_at bytecode 7) 19 ≡ word (tail 7) ∷ []
unfolding tail_words
example_6_nineteen = refl

pub example_6_twenty : tail_words (function_at bytecode 7) 20 ≡ word (call 7) ∷ word ret ∷ []
unfolding tail_words called_as
example_6_twenty = refl
