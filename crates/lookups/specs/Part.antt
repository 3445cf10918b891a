-- What each of the two passes puts: heads, or slots; for one instruction, for some in turn, and for blocks in turn.
use Rattle.std.specs.Prelude.{ℕ, List, ◌++◌}
use Rattle.tables.specs.Tables.{lookup_head, lookup_slots, lookup_heads, lookup_values, blocks_heads, blocks_values}
use Rattle.lookups.specs.declared.Part.{Part}
use Rattle.lookups.specs.declared.Part.TheVariants.{Heads, Values}

abbrev pub instr_by : Part → List ℕ → ℕ → ℕ → List ℕ → List ℕ
instr_by Heads ws start i l = l ++ lookup_head ws i start
instr_by Values ws start i l = lookup_slots ws start i l

abbrev pub instrs_by : Part → List ℕ → ℕ → ℕ → ℕ → List ℕ → List ℕ
instrs_by Heads = lookup_heads
instrs_by Values = lookup_values

abbrev pub blocks_by : Part → List ℕ → ℕ → ℕ → ℕ → List ℕ → List ℕ
blocks_by Heads = blocks_heads
blocks_by Values = blocks_values
