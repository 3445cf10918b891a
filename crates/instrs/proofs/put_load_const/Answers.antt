-- A constant that LoadG loads has its number among the globals; another needs none.
use mathlib.Core.Path.{sym, ◌∙◌}
use Prim.Native.Nat.{◌*◌, ◌/◌}
use lib.ListN.{length}
use native.Mathlib.Omega.{arith}
use Rattle.interning.proofs.Found.{global_few}
use Rattle.instrs.proofs.Instrs.{global_whole, load_global, load_other}
use Rattle.instrs.proofs.put_load_const.Goals as goal

pub overflow_cast-g : goal.overflow_cast-g
overflow_cast-g c =
    let g = c.args.s.globals.now in
    omega (arith, global_few _ _ (2 * (length g / 2)) g _ c.find_global-g.ensures, c.args.s.globals_few)

pub returns-then-is_global : goal.returns-then-is_global
returns-then-is_global c =
    λ l.
    load_global _ _ _ _ _ _ c.constant_field-kind.ensures c.payload_at-payload.ensures c.dest_place-d.ensures (global_whole _ _ _ c.find_global-g.ensures) (c.put_const.ensures l)

pub returns : goal.returns
returns c =
    λ l.
    load_other _ _ _ _ _ _ c.constant_field-kind.ensures c.payload_at-payload.ensures c.dest_place-d.ensures (sym c.is_global.ensures ∙ c.if-is_global.false) (c.put_const-2.ensures l)
