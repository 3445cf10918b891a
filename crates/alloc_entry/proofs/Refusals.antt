-- What the two tests that come first leave of an entry: 2 for the lists, 12 for the state, else its own answer.
use Rattle.std.proofs.Common.{◌≡◌, ℕ, Bool, true, false, List, Result, Ok, Err, refl, ap}
use Rattle.base.specs.Choice.{pick}
use Rattle.alloc.specs.declared.Alloc.{Alloc}
use Rattle.alloc.specs.Good.{Good}
use Rattle.alloc.proofs.Owned.{Fitted}
use Rattle.refusal.specs.declared.Refusal.{Refusal}
use Rattle.refusal.specs.declared.Refusal.TheVariants.{TooMany, BadReg}
use Rattle.alloc_state.specs.Judged.{state_ok, lists_short}
use Rattle.alloc_entry.specs.Entries.{judged}
use Rattle.alloc_state.proofs.States.{accepted}
use Rattle.alloc_entry.proofs.Accept.{fitted_fits, accepted_sound, Sound}

-- a state that passed is good
pub passed_sound : (gprs fprs : List ℕ) (s : Alloc) → Fitted s → state_ok gprs fprs s ≡ true → Sound gprs fprs s
passed_sound gprs fprs s f e = accepted_sound gprs fprs s f.shape (fitted_fits s f) (accepted gprs fprs s e)

-- the two tests alone
abbrev tests : Bool → Bool → Result (Unit {0}) Refusal
tests a b = pick a (pick b (Ok tt) (Err BadReg)) (Err TooMany)

tests_fine : {A : Type 0} (a b : Bool) (refused : Refusal → A) (fine : A) → tests a b ≡ Ok tt
    → pick a (pick b fine (refused BadReg)) (refused TooMany) ≡ fine
tests_fine true true refused fine e = refl
tests_fine true false refused fine e = cc
tests_fine false b refused fine e = cc

tests_state : (a b : Bool) (u : Unit {0}) → tests a b ≡ Ok u → b ≡ true
tests_state true true u e = refl
tests_state true false u e = cc
tests_state false b u e = cc

tests_refuse : {A : Type 0} (a b : Bool) (refused : Refusal → A) (fine : A) (why : Refusal) → tests a b ≡ Err why
    → pick a (pick b fine (refused BadReg)) (refused TooMany) ≡ refused why
tests_refuse true true refused fine why e = cc
tests_refuse true false refused fine why e = let q : BadReg ≡ why = cc in ap refused q
tests_refuse false b refused fine why e = let q : TooMany ≡ why = cc in ap refused q

-- what an entry answers where they pass, and where they refuse
module _ {A : Type 0} (gprs fprs : List ℕ) (s : Alloc) (refused : Refusal → A) (fine : A) where
  pub judged_fine : tests (lists_short gprs fprs) (state_ok gprs fprs s) ≡ Ok tt → judged gprs fprs s refused fine ≡ fine
  judged_fine e = tests_fine (lists_short gprs fprs) (state_ok gprs fprs s) refused fine e

  pub judged_refuses : (why : Refusal) → tests (lists_short gprs fprs) (state_ok gprs fprs s) ≡ Err why
      → judged gprs fprs s refused fine ≡ refused why
  judged_refuses why e = tests_refuse (lists_short gprs fprs) (state_ok gprs fprs s) refused fine why e

pub judged_good : (gprs fprs : List ℕ) (s : Alloc) (u : Unit {0}) → Fitted s → tests (lists_short gprs fprs) (state_ok gprs fprs s) ≡ Ok u → Good s
judged_good gprs fprs s u f e =
    (passed_sound gprs fprs s f (tests_state (lists_short gprs fprs) (state_ok gprs fprs s) u e)).good
