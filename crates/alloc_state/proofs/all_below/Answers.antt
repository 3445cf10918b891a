-- The definition is a recursion that `and_is` ties to `all`.
use Rattle.std.proofs.Common.{◌≡◌, Bool, true, false, ◌&&◌, ltb, refl, rules}
use Rattle.std.proofs.lemmas.List.Recursion.{and_is}
use Rattle.base.specs.Choice.{pick}
use Rattle.alloc_state.specs.Judged.{all_below}
use Rattle.alloc_state.proofs.all_below.Goals as goal

pick_and : (a b : Bool) → pick a b false ≡ (a && b)
pick_and true b = refl
pick_and false b = refl

pub returns : goal.returns
returns c =
    and_is all_below (λ r. ltb r 64) refl (λ r rs. pick_and (ltb r 64) (all_below rs)) c.args.pool.now 0 _ (search rules) (search rules)
