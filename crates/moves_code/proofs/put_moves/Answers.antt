-- What the moves left emit in the turns left gives the whole: one law each for a ready move, a parked source and the two ends.
use Prim.Native.Nat.{◌≤◌}
use native.Mathlib.Omega.{arith}
use mathlib.Core.Path.{◌≡◌, ◌∙◌}
use lib.ListN.{length, take}
use lib.Seq.{length-take-le}
use Rattle.base.proofs.Pens.{left_as, left-turn, left_end}
use Rattle.moves_code.proofs.Emitting.{take-at_seam, rest-start, rest_ready, rest-park, rest_none, rest_out}
use Rattle.moves_code.proofs.put_moves.Goals as goal
use Rattle.moves_code.proofs.put_moves.Goals.{then-i-left, else-i-left}

pub loop-turn-init : goal.loop-turn-init
loop-turn-init c = (omega arith, λ l. left_as (rest-start _ c.args.src.now c.args.dst.now c.args.n c.requires.1))

pub returns-then-left-eq0 : goal.returns-then-left-eq0
returns-then-left-eq0 c = λ l. left_end (c.loop-turn.invariant.1 l) (rest_none _ _ _ _ _ c.if-left-eq0.true)

pub loop-turn-preserved : goal.loop-turn-preserved
loop-turn-preserved c =
    let s = c.loop-turn in
    let hs : s.left ≤ length s.src = omega arith in
    let hd : s.left ≤ length s.dst = omega arith in
    elim c.if-i-left.branch [
      | then-i-left w ↦ rw (w.ops-is, w.spans-is, w.src-is, w.dst-is, w.q-is, w.left-is) (
        omega arith,
        λ l. left-turn _ (s.invariant.1 l) (w.put_move-q.ensures l)
            (rest_ready _ _ _ _ _ _ _ hs hd c.loop-turn-test.true c.first_ready-i.ensures w.if-i-left.true),
      )
      | else-i-left w ↦
          let k : length w.park_all.new.src ≡ s.left = w.park_all.auto.src ∙ length-take-le s.left s.src hs in
          let e : take s.left c.if-i-left.src ≡ w.park_all.new.src = take-at_seam _ _ k w.src-is in
          rw (w.ops-is, w.spans-is, w.dst-is, w.q-is, w.left-is) (
            s.invariant.0,
            λ l. left-turn _ (s.invariant.1 l) (w.put_move-q-else-i-left.ensures l)
                (rest-park _ _ _ _ _ _ _ _ hd c.loop-turn-test.true (omega (arith, c.first_ready-i.ensures, w.if-i-left.false))
                (omega (arith, c.if-left-eq0.false)) c.scratch-scratch.ensures (e ∙ w.park_all.ensures)),
          )
    ]

pub returns : goal.returns
returns c = λ l. left_end (c.loop-turn.invariant.1 l) (rest_out _ _ _ _ _ (omega arith))
