-- Tests joined by `&` and `|`, as the choices that definitions make of them.
use mathlib.Core.Path.{◌≡◌, refl}
use mathlib.Core.Bool.{Bool, true, false, not, ◌&&◌, ◌||◌}
use Rattle.base.specs.Choice.{pick}
use Rattle.input.specs.Forms.{both}

-- the second where the first holds
pub or_where : (p q : Bool) → (not p || q) ≡ pick p q true
or_where true q = refl
or_where false q = refl

-- several tests, however they are grouped
pub both_rest : (p q r : Bool) → both (both p q) r ≡ both p (both q r)
both_rest true q r = refl
both_rest false q r = refl

-- six tests
pub all_six : (p q r s t u : Bool) → (((((p && q) && r) && s) && t) && u) ≡ both p (both q (both r (both s (both t u))))
all_six false q r s t u = refl
all_six true false r s t u = refl
all_six true true false s t u = refl
all_six true true true false t u = refl
all_six true true true true false u = refl
all_six true true true true true u = refl
