-- No room: the entry is as it was.
use Rattle.std.proofs.Common.{rules}
use Rattle.own_entry.proofs.Ends.{as_before}
use Rattle.own_entry.proofs.put_function.Goals as goal

pub returns-then-q : goal.returns-then-q
returns-then-q c =
    let over = c.put_ops-q.ensures.over c.if-q.true in
    record {
      number_is = search rules;
      put = tt;
      not_put = as_before _ _ _ c.put_ops-q.ensures.ops_kept c.put_ops-q.auto.ops c.put_ops-q.ensures.spans_kept c.put_ops-q.auto.spans c.set.ensures c.get_or-before.ensures c.set-then-q.ensures;
    }
