-- The slots from block b on are left; each table has at most 4,096 slots and 1,024 pads.
use Rattle.std.proofs.Common.{◌+◌, ◌*◌, ◌≤◌}
use Rattle.tables.proofs.Switches.{TargetsLeft}
use Rattle.tables.proofs.put_switch_targets.Given as goal

abbrev pub invariant-loop-b : goal.invariant-loop-b
invariant-loop-b l = record {
  few_slots : l.t.start ≤ l.used + 4096 * l.b;
  few_pads : l.t.label ≤ 2 * l.end + 1024 * l.b;
  left : TargetsLeft l.vs.ws.now l.vs.map.now l.used l.end l.initial.targets l.initial.t.end l.t.start l.t.label l.b l.targets l.t.end;
}
