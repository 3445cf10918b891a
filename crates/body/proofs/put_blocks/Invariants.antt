-- What the blocks left emit gives the whole; the tally stays small.
use mathlib.Core.Path.{◌≡◌}
use Prim.Native.Nat.{◌-◌}
use lib.ListN.{length}
use Rattle.base.proofs.Pens.{Left}
use Rattle.place.specs.Registers.{registers}
use Rattle.input.specs.Layout.{blocks}
use Rattle.instrs.specs.Env.{env_of}
use Rattle.body.specs.Body.{blocks_ops}
use Rattle.body.proofs.Blocks.{Tallied}
use Rattle.body.proofs.put_blocks.Given as goal

abbrev pub invariant-loop-b : goal.invariant-loop-b
invariant-loop-b l =
    Tallied l.t l.b × (length l.ops ≡ length l.initial.ops) × (length l.spans ≡ length l.initial.spans) × (length l.labels ≡ length l.initial.labels)
    × Left (blocks_ops registers (env_of l.s) l.t l.b (l.n - l.b)) (blocks_ops registers (env_of l.s) l.initial.t 0 (blocks l.s.vs.ws.now))
    l.initial.ops l.initial.spans l.initial.labels l.initial.p l.ops l.spans l.labels l.p
