-- What a verdict says: its number determines it, and 0 means that no refusal from 1 to 7 applies.
use Rattle.std.specs.Prelude.{Result, Ok, Err}
use Prim.Native.Nat.{ℕ, ◌<◌}
use mathlib.Core.Bool.{Bool, true, false}
use mathlib.Core.List.{List}
use mathlib.Core.Path.{◌≡◌, refl, sym, ap, ◌∙◌}
use native.Mathlib.Omega.{arith}
use lib.Dec.{eqb}
use Rattle.base.specs.Choice.{pick}
use Rattle.input.specs.Forms.{words_ok}
use Rattle.shape.specs.Counts.{counts_ok}
use Rattle.shape.specs.Shape.{shape_ok}
use Rattle.fit.specs.Intervals.{once_ok, intervals_ok}
use Rattle.fit.specs.Callees.{callees_ok}
use Rattle.fit.specs.Keys.{keyed_ok}
use Rattle.refusal.specs.declared.Refusal.{Refusal}
use Rattle.refusal.specs.declared.Refusal.TheVariants.{BadWord, TooMany, BadShape, DoubleDef, BadInterval, UnknownFunc, BadKey, NoSlot, NoRoom, BadMove, BadTarget, BadReg}
use Rattle.refusal.specs.Numbers.{number_of}
use Rattle.judge.specs.Judged.{verdict_number, unfit}

-- the verdict of a number
verdict_of : ℕ → Result Unit Refusal
verdict_of n =
    pick (eqb n 0) (Ok tt)
    (Err
    (pick (eqb n 1) BadWord
    (pick (eqb n 2) TooMany
    (pick (eqb n 3) BadShape
    (pick (eqb n 4) DoubleDef
    (pick (eqb n 5) BadInterval
    (pick (eqb n 6) UnknownFunc
    (pick (eqb n 7) BadKey
    (pick (eqb n 8) NoSlot
    (pick (eqb n 9) NoRoom
    (pick (eqb n 10) BadMove
    (pick (eqb n 11) BadTarget
    BadReg))))))))))))

back : (r : Result Unit Refusal) → verdict_of (verdict_number r) ≡ r
unfolding verdict_of
back (Ok tt) = refl
back (Err BadWord) = refl
back (Err TooMany) = refl
back (Err BadShape) = refl
back (Err DoubleDef) = refl
back (Err BadInterval) = refl
back (Err UnknownFunc) = refl
back (Err BadKey) = refl
back (Err NoSlot) = refl
back (Err NoRoom) = refl
back (Err BadMove) = refl
back (Err BadTarget) = refl
back (Err BadReg) = refl

-- a refusal has a number of its own
pub some : (why : Refusal) → eqb (number_of why) 0 ≡ false
some BadWord = refl
some TooMany = refl
some BadShape = refl
some DoubleDef = refl
some BadInterval = refl
some UnknownFunc = refl
some BadKey = refl
some NoSlot = refl
some NoRoom = refl
some BadMove = refl
some BadTarget = refl
some BadReg = refl

-- two verdicts with one number are the same
pub verdict-same : (a b : Result Unit Refusal) → verdict_number a ≡ verdict_number b → a ≡ b
verdict-same a b e = sym (back a) ∙ ap verdict_of e ∙ back b

-- no refusal from 1 to 7
pub record AllPass (n : ℕ) (ws functions : List ℕ) : Type 0 where
  pub words : words_ok ws ≡ true
  pub counts : counts_ok n ws ≡ true
  pub shape : shape_ok ws ≡ true
  pub once : once_ok ws ≡ true
  pub intervals : intervals_ok ws ≡ true
  pub callees : callees_ok ws functions ≡ true
  pub keys : keyed_ok ws ≡ true

chosen : (b : Bool) (x k : ℕ) → 0 < k → pick b x k ≡ 0 → (b ≡ true) × (x ≡ 0)
chosen true x k h e = (refl, e)
chosen false x k h e = absurd (omega arith)

-- the number 0 is answered of no other function
unfit_none : (n : ℕ) (ws functions : List ℕ) → unfit n ws functions ≡ 0 → AllPass n ws functions
unfolding unfit
unfit_none n ws functions e =
    let a = chosen (words_ok ws) _ 1 (omega arith) e in
    let b = chosen (counts_ok n ws) _ 2 (omega arith) a.1 in
    let c = chosen (shape_ok ws) _ 3 (omega arith) b.1 in
    let d = chosen (once_ok ws) _ 4 (omega arith) c.1 in
    let f = chosen (intervals_ok ws) _ 5 (omega arith) d.1 in
    let g = chosen (callees_ok ws functions) _ 6 (omega arith) f.1 in
    let h = chosen (keyed_ok ws) _ 7 (omega arith) g.1 in
    record { words = a.0; counts = b.0; shape = c.0; once = d.0; intervals = f.0; callees = g.0; keys = h.0 }

-- the verdict that `judge` answers, where its number is 0
pub fit-given : (n : ℕ) (ws functions : List ℕ) (r : Result Unit Refusal) → verdict_number r ≡ unfit n ws functions → verdict_number r ≡ 0 → AllPass n ws functions
fit-given n ws functions r is zero = unfit_none n ws functions (sym is ∙ zero)
