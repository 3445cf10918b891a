-- The place of the first that is it.
use native.Mathlib.Omega.{arith}
use lib.Dec.{eqb}
use lib.ListN.{take, length-take}
use Rattle.std.proofs.Common.{rules, tests}
use Rattle.std.proofs.lemmas.Iterator.{YieldsList-from_slice}
use Rattle.std.proofs.lemmas.Iterator.Search.{position_from_yields_List}
use Rattle.interning.proofs.Found.{builtin_or_count}
use Rattle.interning.proofs.find_builtin.Goals as goal

pub returns : goal.returns
returns c =
    let l = take c.args.count c.args.builtins.now in
    let p = position_from_yields_List (λ y. eqb y c.args.x) _ _ c.position.result c.position.ensures.ran (YieldsList-from_slice l cc) (λ x b q k. search (rules, tests)) in
    rw (c.unwrap_or.ensures, p) (builtin_or_count c.args.x l c.args.count (simp length-take (omega arith)))
