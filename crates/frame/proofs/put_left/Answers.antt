-- A law for a frame that finds no room, and one for a frame that does.
use Rattle.frame.proofs.Lengths.{epilogue_size}
use Rattle.frame.proofs.Leaving.{room_for, left_over, left-done}
use Rattle.frame.proofs.put_left.Goals as goal

pub returns-then-p-size : goal.returns-then-p-size
returns-then-p-size c =
    let pre = c.requires in
    let size = epilogue_size _ c.div_ceil-size.ensures in
    λ l ops₀ spans₀ o h. left_over _ _ _ _ _ h pre.0 pre.5 size c.tails_in-stubs.ensures.0 c.if-p-size.true

pub put_fitting-requires : goal.put_fitting-requires
put_fitting-requires c =
    let pre = c.requires in
    let size = epilogue_size _ c.div_ceil-size.ensures in
    (pre.0, pre.2, pre.3, pre.4, pre.5, room_for _ _ _ _ _ _ _ size c.tails_in-stubs.ensures.0 pre.1 c.if-p-size.false)

pub returns : goal.returns
returns c =
    let pre = c.requires in
    let size = epilogue_size _ c.div_ceil-size.ensures in
    λ l ops₀ spans₀ o h. left-done _ _ _ h pre.0 pre.5
    (room_for _ _ _ _ _ _ _ size c.tails_in-stubs.ensures.0 pre.1 c.if-p-size.false) (c.put_fitting.ensures l)
