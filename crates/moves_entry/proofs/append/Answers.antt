-- One law for each end: there is no room, or the words are copied.
use Rattle.std.proofs.Common.{arith}
use Rattle.moves_entry.proofs.Outcomes.{few, no_room, all_copied}
use Rattle.moves_entry.proofs.append.Goals as goal

pub returns-then-room-used : goal.returns-then-room-used
returns-then-room-used c =
    let w = c.words_of-n in
    let f = few c.args.c.count c.args.used c.args.ops.now c.args.spans.now c.requires in
    no_room _ c.args.used c.args.span c.args.ops.now c.args.spans.now w.result w.ensures.count (omega (arith, f.in_all, f.in_ops, f.in_spans))

pub returns : goal.returns
returns c =
    let w = c.words_of-n in
    let f = few c.args.c.count c.args.used c.args.ops.now c.args.spans.now c.requires in
    all_copied _ c.args.used c.args.span c.args.ops.now c.args.spans.now w.result w.new.words w.new.marks c.copy.new.to c.copy-2.new.to w.ensures
    (omega (arith, f.in_all)) (omega (arith, f.in_ops)) (omega (arith, f.in_spans)) c.copy.ensures c.copy-2.ensures
