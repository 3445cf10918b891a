-- Document 01's number of each refusal.
use Rattle.std.specs.Prelude.{ℕ, Result, Ok, Err}
use Rattle.refusal.specs.declared.Refusal.{Refusal}
use Rattle.refusal.specs.declared.Refusal.TheVariants.{BadWord, TooMany, BadShape, DoubleDef, BadInterval, UnknownFunc, BadKey, NoSlot, NoRoom, BadMove, BadTarget, BadReg}

abbrev pub number_of : Refusal → ℕ
number_of BadWord = 1
number_of TooMany = 2
number_of BadShape = 3
number_of DoubleDef = 4
number_of BadInterval = 5
number_of UnknownFunc = 6
number_of BadKey = 7
number_of NoSlot = 8
number_of NoRoom = 9
number_of BadMove = 10
number_of BadTarget = 11
number_of BadReg = 12

-- that of an answer: 0 where it is no refusal
abbrev pub number_for : {T : Type 0} → Result T Refusal → ℕ
number_for (Ok _) = 0
number_for (Err why) = number_of why
