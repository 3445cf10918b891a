-- The keys that are left, with the smallest and the largest rank so far, answer for all; a step is below 256.
use Rattle.std.proofs.Common.{◌≡◌, ◌+◌, ◌-◌, ◌*◌, ◌≤◌}
use Rattle.fit.specs.Keys.{keys_at, keys_ok}
use Rattle.fit.proofs.Ranks.{keys_from}
use Rattle.fit.proofs.keys_ok.Given as goal

abbrev pub invariant-loop-i : goal.invariant-loop-i
invariant-loop-i l =
    (l.c + 256 * (l.n - l._i) ≤ l.first + 256 * l.n) × (l.low ≤ 18446744073709551615)
    × (keys_from l.ws l.low l.high (keys_at l.step l.c (l.n - l._i)) ≡ keys_ok l.ws (keys_at l.step l.first l.n))
