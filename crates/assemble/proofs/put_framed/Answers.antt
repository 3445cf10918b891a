-- The parts one after the other; the body or what stands behind it may find no room.
use Rattle.std.proofs.Common.{rules}
use Rattle.instrs.specs.Env.{env_of}
use Rattle.assemble.proofs.Whole.{puts_over, labels_low, puts_none, before-left, puts_left}
use Rattle.assemble.proofs.put_framed.Goals as goal

pub returns-then-r : goal.returns-then-r
returns-then-r c =
    let m = c.put_body-r.new in
    puts_over (env_of c.args.s) c.args.u {ops₂ = m.ops} {spans₂ = m.spans} {labels₂ = m.labels} c.requires.used_few.0 c.requires.frame_ready c.pen_at-p.ensures (c.put_prologue-q.ensures _) c.put_body-r.ensures c.if-r.true

pub resolve_all-requires : goal.resolve_all-requires
resolve_all-requires c =
    let m = c.put_body-r.new in
    (c.if-r.false, labels_low (env_of c.args.s) c.args.u {ops₂ = m.ops} {spans₂ = m.spans} {labels₂ = m.labels} c.requires.used_few.0 c.requires.frame_ready c.pen_at-p.ensures (c.put_prologue-q.ensures _) c.put_body-r.ensures c.if-r.false)

pub returns-then-is_empty : goal.returns-then-is_empty
returns-then-is_empty c =
    let m = c.put_body-r.new in
    puts_none (env_of c.args.s) c.args.u {ops₂ = m.ops} {spans₂ = m.spans} {labels₂ = m.labels} c.requires.used_few.0 c.requires.frame_ready c.pen_at-p.ensures (c.put_prologue-q.ensures _) c.put_body-r.ensures c.if-r.false (c.resolve_all.ensures _) (search rules)

pub put_left-requires : goal.put_left-requires
put_left-requires c =
    let m = c.put_body-r.new in
    before-left (env_of c.args.s) c.args.u {ops₂ = m.ops} {spans₂ = m.spans} {labels₂ = m.labels} c.requires.used_few.0 c.requires.frame_ready c.pen_at-p.ensures (c.put_prologue-q.ensures _) c.put_body-r.ensures c.if-r.false (c.resolve_all.ensures _)

pub returns : goal.returns
returns c =
    let m = c.put_body-r.new in
    puts_left (env_of c.args.s) c.args.u {ops₂ = m.ops} {spans₂ = m.spans} {labels₂ = m.labels} c.requires.used_few.0 c.requires.frame_ready c.pen_at-p.ensures (c.put_prologue-q.ensures _) c.put_body-r.ensures c.if-r.false (c.resolve_all.ensures _) (search rules) c.put_left.ensures
