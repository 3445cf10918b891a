-- The heads from block b on are left; each table has at most 4,096 slots.
use Rattle.std.proofs.Common.{◌+◌, ◌*◌, ◌≤◌}
use Rattle.tables.proofs.Switches.{HeadsLeft}
use Rattle.tables.proofs.put_switch_heads.Given as goal

abbrev pub invariant-loop-b : goal.invariant-loop-b
invariant-loop-b l = record {
  few : l.t.start ≤ l.used + 4096 * l.b;
  left : HeadsLeft l.ws l.used l.b-end l.initial.heads l.initial.t.end l.t.start l.b l.heads l.t.end;
}
