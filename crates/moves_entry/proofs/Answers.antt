-- A number and a used length are those of one answer only, so the promise determines it.
use Rattle.std.proofs.Common.{◌≡◌, ℕ, Result, Ok, Err, eqb, refl, sym, ap₂, ◌∙◌}
use Rattle.base.specs.Choice.{pick}
use Rattle.refusal.specs.declared.Refusal.{Refusal}
use Rattle.refusal.specs.declared.Refusal.TheVariants.{BadWord, TooMany, BadShape, DoubleDef, BadInterval, UnknownFunc, BadKey, NoSlot, NoRoom, BadMove, BadTarget, BadReg}
use Rattle.moves_entry.specs.Entry.{answer_number, used_for}

abbrev refusal_of : ℕ → Refusal
refusal_of n =
    pick (eqb n 1) BadWord
    (pick (eqb n 2) TooMany
    (pick (eqb n 3) BadShape
    (pick (eqb n 4) DoubleDef
    (pick (eqb n 5) BadInterval
    (pick (eqb n 6) UnknownFunc
    (pick (eqb n 7) BadKey
    (pick (eqb n 8) NoSlot
    (pick (eqb n 9) NoRoom
    (pick (eqb n 10) BadMove
    (pick (eqb n 11) BadTarget BadReg))))))))))

abbrev answer_of : ℕ → ℕ → Result ℕ Refusal
answer_of number used = pick (eqb number 0) (Ok used) (Err (refusal_of number))

answer_back : (a : Result ℕ Refusal) → answer_of (answer_number a) (used_for a) ≡ a
answer_back (Ok used) = refl
answer_back (Err BadWord) = refl
answer_back (Err TooMany) = refl
answer_back (Err BadShape) = refl
answer_back (Err DoubleDef) = refl
answer_back (Err BadInterval) = refl
answer_back (Err UnknownFunc) = refl
answer_back (Err BadKey) = refl
answer_back (Err NoSlot) = refl
answer_back (Err NoRoom) = refl
answer_back (Err BadMove) = refl
answer_back (Err BadTarget) = refl
answer_back (Err BadReg) = refl

pub answers_same : (a b : Result ℕ Refusal) → answer_number a ≡ answer_number b → used_for a ≡ used_for b → a ≡ b
answers_same a b e f = sym (answer_back a) ∙ ap₂ answer_of e f ∙ answer_back b
