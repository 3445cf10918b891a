-- Prologue, body, labels, epilogue and stubs behind the program's ops: what the buffers hold in the end.
use mathlib.Core.Path.{◌≡◌, refl, ap, ◌∙◌}
use mathlib.Core.Logic.{◌≢◌}
use mathlib.Core.Bool.{true, false}
use Prim.Native.Nat.{ℕ, ◌≤◌, ◌<◌}
use mathlib.Core.List.{List}
use native.Mathlib.Omega.{arith}
use lib.ListN.{length, get_or}
use lib.Seq.{sets, take_all}
use Rattle.base.specs.declared.Pen.{Pen}
use Rattle.base.specs.Emission.{Out}
use Rattle.base.specs.Lent.{Held, Lowers}
use Rattle.base.proofs.Pens.{held_start}
use Rattle.place.specs.Registers.{registers}
use Rattle.input.specs.Layout.{function_span}
use Rattle.instrs.specs.Instrs.{Env}
use Rattle.body.specs.Body.{body_ops}
use Rattle.body.proofs.Growing.{body_grows, body_keeps, body_keeps_spans, body_within}
use Rattle.frame.specs.Frames.{entered, resolve_all, left}
use Rattle.frame.specs.Sizes.{Framed}
use Rattle.frame.proofs.Patching.{held_at}
use Rattle.frame.proofs.Keeping.{Behind}
use Rattle.frame.proofs.Joining.{Joined, Kept, resolved, joins_over, joins_none, joins_left, keeps_over, keeps_none, keeps_left, labels_fit, held-resolved, left_ready}
use Rattle.lists.specs.declared.Used.{Used}
use Rattle.used.specs.Pens.{op_room, pen_at}
use Rattle.assemble.specs.Ops.{out_at, out_of, FrameReady, OpsPut}

-- the room passes neither buffer nor the most of a kind
pub room_few : (ops spans : List ℕ) → (op_room ops spans ≤ 65534) × (op_room ops spans ≤ length ops) × (op_room ops spans ≤ length spans)
room_few ops spans = (omega arith, omega arith, omega arith)

-- what a caller reads at the end, with a pen that had the room of these buffers
put_all : {ops spans : List ℕ} {o : Out} {ops'' spans'' labels'' : List ℕ} {p p' : Pen} (whole : Out → Out) (used : ℕ) → p.room ≡ op_room ops spans
    → Joined whole ops spans o ops'' spans'' labels'' p p' → (p'.full ≡ false → (t : ℕ) → get_or labels'' t 0 < 4294967296)
    → Kept used ops spans ops'' spans'' → OpsPut (whole o) used ops spans ops'' spans'' labels'' p'
put_all {ops} {spans} {o} {p} {p'} whole used e j low k =
    let room : p'.room ≡ op_room ops spans = j.room_kept ∙ e in
    record {
      fits = λ (f : p'.full ≡ false).
          let h = j.fits f in
          let n : length (whole o).ops ≤ p'.room = (held_at h f).1 in
          let m : length (whole o).spans ≤ p'.room = omega (arith, h.beside) in
          record {
            at_is = (held_at h f).0;
            few = rw (← room) n;
            ops_is = h.ops_is ∙ ap (sets ops 0) (take_all p'.room (whole o).ops n);
            spans_is = h.spans_is ∙ ap (sets spans 0) (take_all p'.room (whole o).spans m);
            labels_is = h.labels_is f;
            labels_low = low f;
          };
      over = λ (f : p'.full ≡ true). rw (← e) (j.over f);
      ops_kept = k.0;
      spans_kept = k.1;
    }

-- a function's body in a program with so many tables
abbrev body_of : Env → Used → Out → Out
body_of env u = body_ops registers env u.switches u.lookups

-- a body stands behind what stood before it
behind : (env : Env) (u : Used) (o : Out) → Behind o (body_of env u o)
behind env u o =
    record {
      ops_behind = body_keeps registers env u.switches u.lookups o;
      spans_behind = body_keeps_spans registers env u.switches u.lookups o;
    }

-- with no label bound before it, its labels stay within its ops
within : (env : Env) (u : Used) (regs : List ℕ) (o : Out) → ((t : ℕ) → ◌≡◌ {A = ℕ} (get_or o.labels t 0) 0)
    → (i : ℕ) → get_or (body_of env u (entered regs o)).labels i 0 ≤ length (body_of env u (entered regs o)).ops
unfolding entered
within env u regs o z = body_within registers env u.switches u.lookups (entered regs o) (λ i. omega (arith, z i))

-- Prologue and body are put behind the program's ops.
module _ (env : Env) (u : Used) {regs : List ℕ} {ops spans labels ops₁ spans₁ ops₂ spans₂ labels₂ : List ℕ} {p q r : Pen} (room : u.ops ≤ op_room ops spans)
    (frame : FrameReady labels regs) (starts : p ≡ pen_at env.ws ops spans u.ops)
    (prologues : Lowers (entered regs) ops spans labels p ops₁ spans₁ labels q)
    (bodies : Lowers (body_of env u) ops₁ spans₁ labels q ops₂ spans₂ labels₂ r) where
  room_is : p.room ≡ op_room ops spans
  room_is = ap (λ (x : Pen). x.room) starts

  used_fits : u.ops ≤ p.room
  used_fits = rw room_is room

  start : Held ops spans (out_at env.ws ops spans labels u.ops) ops spans labels p
  start =
      let f = room_few ops spans in
      rw starts (held_start ops spans labels u.ops (op_room ops spans) _ _ room f.1 f.2)

  grows : length (entered regs (out_at env.ws ops spans labels u.ops)).ops
      ≤ length (body_of env u (entered regs (out_at env.ws ops spans labels u.ops))).ops
  grows = body_grows registers env u.switches u.lookups (entered regs (out_at env.ws ops spans labels u.ops))

  -- the body found no room
  pub puts_over : r.full ≡ true
      → OpsPut (out_of regs env u (out_at env.ws ops spans labels u.ops)) u.ops ops spans ops₂ spans₂ labels₂ r
  puts_over e =
      put_all (out_of regs env u) u.ops room_is
      (joins_over regs (function_span env.ws) (body_of env u) start prologues bodies grows e)
      (λ (f : r.full ≡ false). absurd (let z : ◌≡◌ {A = ℕ} 0 1 = cc in omega arith))
      (keeps_over regs (function_span env.ws) (body_of env u) start prologues bodies grows u.ops (behind env u _) used_fits refl refl)

  -- it found room: what `resolve_all` asks for
  module _ (e : r.full ≡ false) where
    pub labels_low : (i : ℕ) → get_or labels₂ i 0 < 4294967296
    labels_low =
        labels_fit regs (function_span env.ws) (body_of env u) start prologues bodies grows e (rw room_is (room_few ops spans).0)
        (within env u regs (out_at env.ws ops spans labels u.ops) frame.unbound)

    module _ {ops₃ : List ℕ} (resolves : Lowers (resolve_all q.at) ops₂ spans₂ labels₂ r ops₃ spans₂ labels₂ r) where
      -- no frame
      pub puts_none : length regs ≡ 0
          → OpsPut (out_of regs env u (out_at env.ws ops spans labels u.ops)) u.ops ops spans ops₃ spans₂ labels₂ r
      puts_none z =
          put_all (out_of regs env u) u.ops room_is
          (joins_none regs (function_span env.ws) (body_of env u) start prologues bodies grows e resolves z)
          (λ _. labels_low)
          (keeps_none regs (function_span env.ws) (body_of env u) start prologues bodies grows e resolves u.ops (behind env u _) used_fits refl refl)

      -- what `put_left` asks for
      pub before-left : (r.full ≡ false) × (r.at ≤ r.room) × (r.room ≤ length ops₃) × (r.room ≤ length spans₂) × (r.room ≤ 65534) × (q.at ≤ r.at) × (length regs ≤ 192)
      before-left =
          let l = left_ready regs (function_span env.ws) (body_of env u) start prologues bodies grows e resolves in
          let m : r.room ≤ 65534 = rw (bodies.room_kept ∙ prologues.room_kept ∙ room_is) (room_few ops spans).0 in
          (e, l.0, l.1, l.2, m, l.3, frame.few)

      -- epilogue and stubs, which found room or not
      pub puts_left : {ops₄ spans₄ : List ℕ} {r' : Pen} → length regs ≢ 0
          → ((l ops₀ spans₀ : List ℕ) (o : Out) → Held ops₀ spans₀ o ops₃ spans₂ l r
          → Framed (left regs p.span q.at) ops₀ spans₀ o ops₄ spans₄ l r r')
          → OpsPut (out_of regs env u (out_at env.ws ops spans labels u.ops)) u.ops ops spans ops₄ spans₄ labels₂ r'
      puts_left {ops₄} {spans₄} {r'} z leaves =
          let h = held-resolved regs (function_span env.ws) (body_of env u) start prologues bodies grows e resolves in
          let f : Framed (left regs (function_span env.ws) q.at) ops spans
          (resolved regs (body_of env u) (out_at env.ws ops spans labels u.ops)) ops₄ spans₄ labels₂ r r' =
          rw (ap (λ (x : Pen). x.span) starts) at (leaves labels₂ ops spans _ h) in
          put_all (out_of regs env u) u.ops room_is
          (joins_left regs (function_span env.ws) (body_of env u) start prologues bodies grows e resolves z f)
          (λ _. labels_low)
          (keeps_left regs (function_span env.ws) (body_of env u) start prologues bodies grows e resolves z f u.ops (behind env u _) used_fits refl refl)
