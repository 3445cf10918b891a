-- What is left of the calls from k on: each turn places one.
use Rattle.std.proofs.Common.{◌≡◌, ◌-◌, ◌/◌, length}
use Rattle.alloc.specs.Good.{Good}
use Rattle.alloc_calls.specs.Placements.{placed, places, all_placed}
use Rattle.alloc_calls.proofs.agnulfrosc_place_calls.Given as goal

abbrev pub invariant-loop-k : goal.invariant-loop-k
invariant-loop-k l = record {
  good : Good l.s;
  left : places l.calls l.pool l.k (length l.calls / 3 - l.k) (placed l.s l.map) ≡ all_placed l.calls l.pool l.initial.map;
}
