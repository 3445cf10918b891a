-- A turn fills one, and past the end nothing is left.
use mathlib.Core.Path.{sym, ◌∙◌}
use native.Mathlib.Omega.{arith}
use Rattle.base.proofs.Buffers.{fill_turn, fill_past}
use Rattle.base.proofs.fill_from.Goals as goal

pub loop-i-preserved : goal.loop-i-preserved
loop-i-preserved g c = fill_turn c.loop-i.a c.loop-i.i c.args.x (omega arith) ∙ c.loop-i.invariant

pub returns : goal.returns
returns g c = sym (fill_past c.loop-i.a c.loop-i.i c.args.x (omega arith)) ∙ c.loop-i.invariant
