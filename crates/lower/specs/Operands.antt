-- Operands and destinations, on a machine with n registers. A place is a number: register r is r, slot k is 256 + k.
use Rattle.std.specs.Prelude.{ℕ, ◌-◌, Bool, false, List, ltb, eqb, get_or}
use Rattle.base.specs.Choice.{pick}
use Rattle.base.specs.Emission.{Out, emit}
use Rattle.place.specs.Registers.{scratch_of, tmp_of}
use Rattle.place.specs.Places.{slots_from}
use Rattle.op.specs.Words.{word, parts}
use Rattle.op.specs.Ops.{load_slot, store_slot}

-- the place of a value, by the map from values to places
abbrev pub place_at : List ℕ → ℕ → ℕ
place_at map v = get_or map v 0 - 1

-- does an op load SCRATCH from a slot?
unfoldable pub loads_scratch : ℕ → ℕ → Bool
loads_scratch n last =
    pick (eqb (parts last).code (load_slot 0 0).code) (eqb (parts last).a (scratch_of n)) false

-- A slot operand is loaded into SCRATCH, or TMP if the last op loads SCRATCH from a slot.
unfoldable pub spare : ℕ → ℕ → ℕ
spare n last = pick (loads_scratch n last) (tmp_of n) (scratch_of n)

-- the register that an operand is read from, and the op that brings it there
unfoldable pub operand_reg : ℕ → ℕ → ℕ → ℕ
operand_reg n p last = pick (ltb p slots_from) p (spare n last)

unfoldable pub fetched : ℕ → ℕ → Out → Out
fetched n p o = pick (ltb p slots_from) o (emit (word (load_slot (spare n o.last) (p - slots_from))) o)

-- what is done with an operand, given its register
abbrev pub operand : ℕ → ℕ → (ℕ → Out → Out) → Out → Out
operand n p rest o = rest (operand_reg n p o.last) (fetched n p o)

-- A slot destination is computed in TMP, then stored.
unfoldable pub dest_reg : ℕ → ℕ → ℕ
dest_reg n p = pick (ltb p slots_from) p (tmp_of n)

unfoldable pub stored : ℕ → ℕ → Out → Out
stored n p o = pick (ltb p slots_from) o (emit (word (store_slot (p - slots_from) (tmp_of n))) o)

-- what computes a destination, given its register
abbrev pub into : ℕ → ℕ → (ℕ → Out → Out) → Out → Out
into n p rest o = stored n p (rest (dest_reg n p) o)
