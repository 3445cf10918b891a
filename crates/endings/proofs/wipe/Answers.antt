-- Used records that pass the buffer leave it as it is.
use Rattle.endings.proofs.Wipes.{wiped-past}
use Rattle.endings.proofs.wipe.Goals as goal

pub returns-else-used-buf : goal.returns-else-used-buf
returns-else-used-buf c = let a = c.args in
    wiped-past a.buf.now a.words a.used c.requires c.if-used-buf.false
