-- What is promised of an answer determines it.
use Rattle.std.specs.Prelude.{Result, Ok, Err}
use Prim.Native.Nat.{ℕ}
use mathlib.Core.List.{List}
use mathlib.Core.Path.{◌≡◌, refl, sym, ap, ◌∙◌}
use lib.Dec.{eqb}
use Rattle.base.specs.Choice.{pick}
use Rattle.refusal.specs.declared.Refusal.{Refusal}
use Rattle.refusal.specs.declared.Refusal.TheVariants.{BadWord, TooMany, BadShape, DoubleDef, BadInterval, UnknownFunc, BadKey, NoSlot, NoRoom, BadMove, BadTarget, BadReg}
use Rattle.placing.specs.declared.Placed.{Placed}
use Rattle.placing.specs.Placing.{Outcome, outcome}

-- the answer of a number, slots and registers
answer_of : Outcome → Result Placed Refusal
answer_of o =
    pick (eqb o.number 0) (Ok (record { slots = o.slots; top = o.top }))
    (Err
    (pick (eqb o.number 1) BadWord
    (pick (eqb o.number 2) TooMany
    (pick (eqb o.number 3) BadShape
    (pick (eqb o.number 4) DoubleDef
    (pick (eqb o.number 5) BadInterval
    (pick (eqb o.number 6) UnknownFunc
    (pick (eqb o.number 7) BadKey
    (pick (eqb o.number 8) NoSlot
    (pick (eqb o.number 9) NoRoom
    (pick (eqb o.number 10) BadMove
    (pick (eqb o.number 11) BadTarget
    BadReg))))))))))))

back : (a : Result Placed Refusal) (map hints noted : List ℕ) → answer_of (outcome a map hints noted) ≡ a
unfolding answer_of
back (Ok g) map hints noted = refl
back (Err BadWord) map hints noted = refl
back (Err TooMany) map hints noted = refl
back (Err BadShape) map hints noted = refl
back (Err DoubleDef) map hints noted = refl
back (Err BadInterval) map hints noted = refl
back (Err UnknownFunc) map hints noted = refl
back (Err BadKey) map hints noted = refl
back (Err NoSlot) map hints noted = refl
back (Err NoRoom) map hints noted = refl
back (Err BadMove) map hints noted = refl
back (Err BadTarget) map hints noted = refl
back (Err BadReg) map hints noted = refl

-- two answers with one outcome are the same
pub answer_same : (a b : Result Placed Refusal) (map hints noted map' hints' noted' : List ℕ) → outcome a map hints noted ≡ outcome b map' hints' noted' → a ≡ b
answer_same a b map hints noted map' hints' noted' e = sym (back a map hints noted) ∙ ap answer_of e ∙ back b map' hints' noted'
