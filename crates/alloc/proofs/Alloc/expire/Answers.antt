-- A good state has room for each release.
use Rattle.std.proofs.Common.{◌≡◌, ◌<◌, ◌≤◌, get_or, length, refl, sym, ap, ◌∙◌, arith, length-append}
use Rattle.alloc.specs.State.{empty_entry}
use Rattle.alloc.specs.Allocation.{kept_of, gone_of, release_all}
use Rattle.alloc.proofs.Expiry.{state_at, entry_at, kept_few, gone_state, gone_kept, stays_state, stays-kept, releasable_at, expired}
use Rattle.alloc.proofs.Few.{room}
use Rattle.alloc.proofs.Keeps.{good_expire}
use Rattle.alloc.proofs.Alloc.expire.Goals as goal
use Rattle.alloc.proofs.Alloc.expire.Goals.{then-e-at, else-e-at}

pub loop-i-init : goal.loop-i-init
unfolding state_at kept_of gone_of release_all
loop-i-init c = record { kept = refl; state = refl }

pub release-self-requires : goal.release-self-requires
release-self-requires c =
    let s = c.args.self in
    let g = c.requires in
    let l : c.loop-i.i < length s.active = omega (arith, g.shape.actives, g.within) in
    rw (c.loop-i.invariant.state, entry_at c.args.at s c.loop-i.i l)
    (releasable_at c.args.at s c.loop-i.i l c.loop-i-test.true (omega (arith, g.shape.actives, g.within)) (omega (arith, room s g, g.capped)))

pub offset_bounds-self-kept : goal.offset_bounds-self-kept
offset_bounds-self-kept c =
    omega (arith, kept_few c.args.at c.args.self c.loop-i.i (omega (arith, c.requires.shape.actives, c.requires.within)), c.requires.within)

pub bounds-self-kept : goal.bounds-self-kept
bounds-self-kept c =
    omega (arith, kept_few c.args.at c.args.self c.loop-i.i (omega (arith, c.requires.shape.actives, c.requires.within)), c.requires.within)

pub overflow_add-kept : goal.overflow_add-kept
overflow_add-kept c =
    omega (arith, kept_few c.args.at c.args.self c.loop-i.i (omega (arith, c.requires.shape.actives, c.requires.within)), c.requires.within)

pub loop-i-preserved : goal.loop-i-preserved
loop-i-preserved c =
    let at = c.args.at in
    let s = c.args.self in
    let i = c.loop-i.i in
    let v = c.loop-i.invariant in
    let l : i < length s.active = omega (arith, c.requires.shape.actives, c.requires.within) in
    let e : get_or c.loop-i.self.active i empty_entry ≡ get_or s.active i empty_entry = rw v.state (entry_at at s i l) in
    elim c.if-e-at.branch [
      | then-e-at w ↦
          let h : (get_or s.active i empty_entry).end ≤ at = rw e at w.if-e-at.true in
          record {
            kept = w.kept-is ∙ v.kept ∙ ap length (sym (gone_kept at s i l h));
            state = w.self-is ∙ w.release-self.ensures ∙ rw (e, v.state) (gone_state at s i l h);
          }
      | else-e-at w ↦
          let h : at < (get_or s.active i empty_entry).end = rw e at w.if-e-at.false in
          record {
            kept = omega (arith, w.kept-is, v.kept, simp length-append at (ap length (stays-kept at s i l h)));
            state = w.self-is ∙ rw (e, v.kept, v.state) (stays_state at s i l h);
          }
    ]

pub returns : goal.returns
returns c =
    let v = c.loop-i.invariant in
    let at = c.args.at in
    let s = c.args.self in
    let e = expired at s c.loop-i.i c.loop-i.kept c.loop-i.self (omega arith) v.kept v.state in
    record { value = e; good = rw e (good_expire at s c.requires) }
