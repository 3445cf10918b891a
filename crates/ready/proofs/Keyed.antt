-- What refusal 7 leaves to be known of the keys of a live block.
use Prim.Native.Nat.{ℕ, ◌-◌, ◌<◌}
use mathlib.Core.Bool.{true}
use mathlib.Core.List.{List}
use mathlib.Core.Path.{◌≡◌}
use borrow.Author.Tests.{ltb-true}
use Rattle.base.specs.Limits.{most_table_slots}
use Rattle.input.specs.Records.{term_kind, term_x, term_y, switch, instr_kind, instr_x, instr_y, lookup}
use Rattle.input.proofs.Chain.{both-parts}
use Rattle.rows.specs.Rows.{instr, term}
use Rattle.fit.specs.Keys.{keys_at, all_int, largest, smallest, keys_ok, row_keys}
use Rattle.ready.proofs.Passes.{asked}

keys_near : (ws cs : List ℕ) → keys_ok ws cs ≡ true → largest ws cs - smallest ws cs < most_table_slots
unfolding keys_ok
keys_near ws cs h = ltb-true (largest ws cs - smallest ws cs) most_table_slots (both-parts (all_int ws cs) _ h).1

abbrev Near : List ℕ → ℕ → ℕ → ℕ → Type 0
Near ws step c cases = largest ws (keys_at step c cases) - smallest ws (keys_at step c cases) < most_table_slots

pub cases_near : (ws : List ℕ) (r b : ℕ) → row_keys ws r (term b) ≡ true → term_kind ws b ≡ switch → Near ws 1 (term_x ws b) (term_y ws b)
unfolding row_keys
cases_near ws r b h o = keys_near ws _ (asked (term_kind ws b) switch _ h o)

pub entries_near : (ws : List ℕ) (r i : ℕ) → row_keys ws r (instr i) ≡ true → instr_kind ws i ≡ lookup → Near ws 2 (instr_x ws i) (instr_y ws i)
unfolding row_keys
entries_near ws r i h o = keys_near ws _ (asked (instr_kind ws i) lookup _ h o)
