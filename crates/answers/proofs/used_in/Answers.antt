-- Seven words are read.
use Rattle.answers.proofs.Words.{used_read}
use Rattle.answers.proofs.used_in.Goals as goal

pub returns : goal.returns
returns c =
    used_read c.args.l.now c.get_or.ensures c.get_or-2.ensures c.get_or-3.ensures c.get_or-4.ensures c.get_or-5.ensures c.get_or-6.ensures c.get_or-7.ensures
