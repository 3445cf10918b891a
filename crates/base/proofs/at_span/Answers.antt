-- The pen with another span is what the law of `at_span` asks.
use Rattle.base.proofs.Pens.{lowers_span}
use Rattle.base.proofs.at_span.Goals as goal

pub returns : goal.returns
returns c = λ o b l. lowers_span c.args.s c.args.p o b l
