-- What `compile` answers.
use Rattle.std.specs.Prelude.{ℕ, Result, Ok, Err}
use Rattle.refusal.specs.declared.Refusal.{Refusal}
use Rattle.refusal.specs.Numbers.{number_for}
use Rattle.lists.specs.declared.Used.{Used}
use Rattle.first_checks.specs.Buffers.{Buffers}

-- document 01's number of each answer; the used lengths afterwards, of `used` before
abbrev pub answer_number : Result Used Refusal → ℕ
answer_number r = number_for r

abbrev pub used_for : Used → Result Used Refusal → Used
used_for used (Ok new) = new
used_for used (Err why) = used

-- what comes back: the number, the new used lengths, and every buffer
pub record Outcome : Type 0 where
  pub number : ℕ
  pub used : Used
  pub buffers : Buffers

-- what comes back by an answer, the used lengths before, and the buffers
abbrev pub outcome : Result Used Refusal → Used → Buffers → Outcome
outcome r used b = record { number = answer_number r; used = used_for used r; buffers = b }
