-- The blocks from b on are left.
use Prim.Native.Nat.{◌+◌, ◌*◌, ◌≤◌}
use Rattle.lookups.proofs.Lookups.{BlocksLeft}
use Rattle.lookups.proofs.lookup_pass.Given as goal

abbrev pub invariant-loop-b : goal.invariant-loop-b
invariant-loop-b l = record {
  few : l.t.start ≤ l.used + 17592186044416 * l.b;
  left : BlocksLeft l.part l.ws l.used l.b-end l.initial.list l.initial.t.end l.t.start l.b l.list l.t.end;
}
