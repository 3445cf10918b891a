-- A register that is held leaves all as it was.
use Rattle.alloc_entry.proofs.Calls.{pin-held}
use Rattle.alloc_entry.proofs.pin_in.Goals as goal

pub returns-then-not-is_free : goal.returns-then-not-is_free
returns-then-not-is_free c = let a = c.args in
    pin-held a.map.now a.id a.reg a.end a.s _ c.call_ok.ensures c.if-not-call_ok.false _ c.is_free.ensures c.if-not-is_free.true
