-- The edges of a Switch in the finished function: the default's behind the op, and a pad for each case with moves.
use mathlib.Core.Path.{◌≡◌, refl, sym, ap, ◌∙◌}
use mathlib.Core.Logic.{◌≢◌, ⊎_elim}
use mathlib.Core.Bool.{true, false}
use Prim.Native.Nat.{ℕ, zero, suc, ◌+◌, ◌*◌, ◌≤◌, ◌<◌}
use mathlib.Core.List.{List}
use native.Mathlib.Nat.{add-zero}
use native.Mathlib.Omega.{arith}
use borrow.Author.Tests.{ne_eqb}
use lib.Dec.{eqb}
use lib.ListN.{length, get_or}
use Rattle.base.specs.Choice.{pick}
use Rattle.base.specs.Emission.{Out, emit, bind}
use Rattle.base.proofs.Numbers.{both, same?, pick-both}
use Rattle.op.specs.Words.{word}
use Rattle.op.specs.Ops as op
use Rattle.input.specs.Layout.{blocks}
use Rattle.input.specs.Records.{first_edge, term_y, edge_target}
use Rattle.lower.specs.Operands.{operand_reg, fetched}
use Rattle.edges.specs.Edges.{has_moves, nowhere, edge, pad_count, pads, switch_edges}
use Rattle.instrs.specs.Instrs.{Env}
use Rattle.terms.specs.Terms.{term_place, switch_ops}
use Rattle.layout.specs.Layout.{EdgeAt, block_pc, Fetched}
use Rattle.layout.proofs.Adding.{Adds, Any, Nil, stays, adds_none, adds_then, adds_any, adds_nil, adds_fewer, adds_emit, adds_bind, adds_few, emit_long, bind-ops, bound_at, between_at}
use Rattle.layout.proofs.Instrs.{by-fetch}
use Rattle.layout.proofs.Finish.{Finished, switch_there}
use Rattle.layout.proofs.Fetches.{fetch_at}
use Rattle.layout.proofs.Edges.{edge_adds, edge_at, edge_two}

-- ---- how many pads there are: one case and the rest
module _ (ws places : List ℕ) where
  pub count-zero : (e : ℕ) → pad_count ws places e 0 ≡ 0
  unfolding pad_count
  count-zero e = refl

  pub count_turn : (e k : ℕ) → pad_count ws places e (suc k) ≡ pick (has_moves ws places e) 1 0 + pad_count ws places (e + 1) k
  unfolding pad_count
  count_turn e k = refl

  count-some : (e k : ℕ) → has_moves ws places e ≡ true → pad_count ws places e (suc k) ≡ 1 + pad_count ws places (e + 1) k
  count-some e k m = count_turn e k ∙ rw m

  count_none : (e k : ℕ) → has_moves ws places e ≡ false → pad_count ws places e (suc k) ≡ 0 + pad_count ws places (e + 1) k
  count_none e k m = count_turn e k ∙ rw m

  -- no more than cases
  pub count_few : (e k : ℕ) → pad_count ws places e k ≤ k
  count_few e zero = omega (arith, count-zero e)
  count_few e (suc k) =
      omega (arith, count_turn e k, count_few (e + 1) k, pick-both (λ (x : ℕ). x ≤ 1) (has_moves ws places e) 1 0 (omega arith) (omega arith))

-- ---- one pad and the rest
module _ (n : ℕ) (ws places : List ℕ) where
  module _ (label e k : ℕ) (q : Out) where
    pads-some : has_moves ws places e ≡ true → pads n ws places label e (suc k) q ≡ pads n ws places (label + 1) (e + 1) k (edge n ws places (nowhere ws) e (bind label q))
    unfolding pads
    pads-some m = rw m

    pads_none : has_moves ws places e ≡ false → pads n ws places label e (suc k) q ≡ pads n ws places label (e + 1) k q
    unfolding pads
    pads_none m = rw m

  -- they bind their labels alone
  pads_add : {P : ℕ → Type 0} (label e k : ℕ) (q : Out) → ((l : ℕ) → P l → label ≤ l → l < label + pad_count ws places e k → ⊥)
      → Adds P q (pads n ws places label e k q)
  unfolding pads
  pads_add label e zero q f = adds_none q
  pads_add {P} label e (suc k) q f =
      ⊎_elim
      (λ (m : has_moves ws places e ≡ true).
      let c = count-some ws places e k m in
      rw (pads-some label e k q m)
      (adds_then (adds_bind q label (λ l p g. f l p (omega arith) (omega (arith, c))))
      (adds_then (adds_any (edge_adds n ws places e (nowhere ws) (bind label q)))
      (pads_add (label + 1) (e + 1) k (edge n ws places (nowhere ws) e (bind label q)) (λ l p a z. f l p (omega arith) (omega (arith, c)))))))
      (λ (m : has_moves ws places e ≡ false).
      let c = count_none ws places e k m in
      rw (pads_none label e k q m) (pads_add label (e + 1) k q (λ l p a z. f l p a (omega (arith, c)))))
      (both (has_moves ws places e))

  -- two ops at least for each
  pads_long : (label e k : ℕ) (q : Out) → ((i : ℕ) → i < k → edge_target ws (e + i) < blocks ws)
      → length q.ops + 2 * pad_count ws places e k ≤ length (pads n ws places label e k q).ops
  unfolding pads
  pads_long label e zero q f = omega (arith, count-zero ws places e)
  pads_long label e (suc k) q f =
      let g : (i : ℕ) → i < k → edge_target ws (e + 1 + i) < blocks ws = λ i h. (let z : e + 1 + i ≡ e + (i + 1) = omega arith in rw z (f (i + 1) (omega arith))) in
      ⊎_elim
      (λ (m : has_moves ws places e ≡ true).
      let r : Out = edge n ws places (nowhere ws) e (bind label q) in
      let z : edge_target ws e < blocks ws = (let a : e + 0 ≡ e = add-zero e in rw a at (f 0 (omega arith))) in
      let two : length (bind label q).ops + 2 ≤ length r.ops = edge_two n ws places e (nowhere ws) (bind label q) m (λ (x : edge_target ws e ≡ nowhere ws). omega arith) in
      let same : length (bind label q).ops ≡ length q.ops = ap length (bind-ops q label) in
      rw (pads-some label e k q m) (omega (arith, pads_long (label + 1) (e + 1) k r g, count-some ws places e k m)))
      (λ (m : has_moves ws places e ≡ false).
      rw (pads_none label e k q m) (omega (arith, pads_long label (e + 1) k q g, count_none ws places e k m)))
      (both (has_moves ws places e))

  -- no pads, no ops
  pads-empty : (label e k : ℕ) (q : Out) → pad_count ws places e k ≡ 0 → pads n ws places label e k q ≡ q
  unfolding pads
  pads-empty label e zero q z = refl
  pads-empty label e (suc k) q z =
      ⊎_elim
      (λ (m : has_moves ws places e ≡ true). absurd (omega (arith, count-some ws places e k m)))
      (λ (m : has_moves ws places e ≡ false). pads_none label e k q m ∙ pads-empty label (e + 1) k q (omega (arith, count_none ws places e k m)))
      (both (has_moves ws places e))

-- ---- in the finished function
module _ (n : ℕ) (env : Env) {from : ℕ} {B F : Out} (fin : Finished from B F) (few : blocks env.ws ≤ 1024) where
  abbrev ws : List ℕ
  ws = env.ws

  abbrev places : List ℕ
  places = env.places

  -- the pad of case i is entered at its label
  pad_at : {P : ℕ → Type 0} (label e k : ℕ) (q : Out) → from ≤ length q.ops → Adds P (pads n ws places label e k q) B
      → ((l : ℕ) → label ≤ l → l < label + pad_count ws places e k → P l) → label + pad_count ws places e k ≤ length B.labels
      → ((i : ℕ) → i < k → edge_target ws (e + i) < blocks ws)
      → (i : ℕ) → i < k → has_moves ws places (e + i) ≡ true → EdgeAt n env F (e + i) (get_or F.labels (label + pad_count ws places e i) 0)
  pad_at label e zero q h y p room f i g m = absurd (omega arith)
  pad_at {P} label e (suc k) q h y p room f i g m =
      let f' : (i : ℕ) → i < k → edge_target ws (e + 1 + i) < blocks ws = λ i h. (let z : e + 1 + i ≡ e + (i + 1) = omega arith in rw z (f (i + 1) (omega arith))) in
      ⊎_elim
      (λ (t : has_moves ws places e ≡ true).
      let c = count-some ws places e k t in
      let r1 : Out = bind label q in
      let r2 : Out = edge n ws places (nowhere ws) e r1 in
      let rest : Out = pads n ws places (label + 1) (e + 1) k r2 in
      let y' : Adds P rest B = rw (pads-some n ws places label e k q t) at y in
      let same : length r1.ops ≡ length q.ops = ap length (bind-ops q label) in
      let more : length r1.ops ≤ length r2.ops = adds_few (edge_adds n ws places e (nowhere ws) r1) in
      first_or label e i (λ (z : i ≡ 0).
      let one : Adds (λ l. l ≡ label) r2 B =
      adds_then (pads_add n ws places (label + 1) (e + 1) k r2 (λ l a b d. omega arith))
      (adds_fewer (λ l a. rw a (p label (omega arith) (omega (arith, c)))) y') in
      let at : get_or F.labels label 0 ≡ length r1.ops =
      ap (λ (x : List ℕ). get_or x label 0) fin.labels_same
      ∙ bound_at label q refl (omega (arith, c)) (adds_then (adds_any (edge_adds n ws places e (nowhere ws) r1)) one) ∙ sym same in
      let in-range : edge_target ws e < blocks ws = (let a : e + 0 ≡ e = add-zero e in rw a at (f 0 (omega arith))) in
      rw at
      (edge_at n env fin (nowhere ws) e r1 (omega arith) one (omega arith) (λ (x : edge_target ws e ≡ nowhere ws). absurd (omega arith))))
      (λ (j : ℕ) (z : i ≡ suc j).
      let m' : has_moves ws places (e + 1 + j) ≡ true = (let a : e + i ≡ e + 1 + j = omega arith in rw a at m) in
      let c' : pad_count ws places e (suc j) ≡ 1 + pad_count ws places (e + 1) j = count-some ws places e j t in
      let a : label + pad_count ws places e (suc j) ≡ label + 1 + pad_count ws places (e + 1) j = omega arith in
      rw a (pad_at (label + 1) (e + 1) k r2 (omega arith) y' (λ l u v. p l (omega arith) (omega (arith, c))) (omega (arith, c)) f' j (omega arith) m')))
      (λ (t : has_moves ws places e ≡ false).
      let c = count_none ws places e k t in
      let y' : Adds P (pads n ws places label (e + 1) k q) B = rw (pads_none n ws places label e k q t) at y in
      first_or label e i
      (λ (z : i ≡ 0). let m' : has_moves ws places e ≡ true = (let a : e + i ≡ e = omega arith in rw a at m) in
      absurd (let z : ◌≡◌ {A = ℕ} 0 1 = cc in omega arith))
      (λ (j : ℕ) (z : i ≡ suc j).
      let m' : has_moves ws places (e + 1 + j) ≡ true = (let a : e + i ≡ e + 1 + j = omega arith in rw a at m) in
      let c' : pad_count ws places e (suc j) ≡ 0 + pad_count ws places (e + 1) j = count_none ws places e j t in
      let a : pad_count ws places e (suc j) ≡ pad_count ws places (e + 1) j = omega arith in
      rw a (pad_at label (e + 1) k q h y' (λ l u v. p l u (omega (arith, c))) (omega (arith, c)) f' j (omega arith) m')))
      (both (has_moves ws places e))
    where
      first_or : (label e i : ℕ) → (i ≡ 0 → EdgeAt n env F e (get_or F.labels label 0))
          → ((j : ℕ) → i ≡ suc j → EdgeAt n env F (e + 1 + j) (get_or F.labels (label + pad_count ws places e (suc j)) 0))
          → EdgeAt n env F (e + i) (get_or F.labels (label + pad_count ws places e i) 0)
      first_or label e zero x y =
          let a : e + 0 ≡ e = add-zero e in
          let z : label + pad_count ws places e 0 ≡ label = omega (arith, count-zero ws places e) in
          rw (z, a) (x refl)
      first_or label e (suc j) x y = let a : e + suc j ≡ e + 1 + j = omega arith in rw a (y j refl)

-- ---- the whole Switch: its fetch, its op, the default edge, the pads
module _ (n : ℕ) (ws places : List ℕ) (table label next b : ℕ) (q : Out) where
  abbrev e : ℕ
  e = first_edge ws b

  abbrev cases : ℕ
  cases = term_y ws b

  abbrev place : ℕ
  place = term_place ws places b 0

  abbrev after : ℕ
  after = pick (eqb (pad_count ws places e cases) 0) next (nowhere ws)

  abbrev fetch : Out
  fetch = fetched n place q

  abbrev switched : Out
  switched = emit (word (op.switch (operand_reg n place q.last) table)) fetch

  switch_is : switch_ops n ws places table label next b q ≡ pads n ws places label e cases (edge n ws places after (e + cases) switched)
  unfolding switch_ops switch_edges
  switch_is = refl

  pub switch_adds : {P : ℕ → Type 0} → ((l : ℕ) → P l → label ≤ l → l < label + pad_count ws places e cases → ⊥)
      → Adds P q (switch_ops n ws places table label next b q)
  switch_adds f =
      rw switch_is
      (adds_then (adds_any (by-fetch n place (stays q)).adds)
      (adds_then (adds_any (adds_emit fetch (word (op.switch (operand_reg n place q.last) table))))
      (adds_then (adds_any (edge_adds n ws places (e + cases) after switched))
      (pads_add n ws places label e cases (edge n ws places after (e + cases) switched) f))))

  pub switch_long : ((i : ℕ) → i < cases → edge_target ws (e + i) < blocks ws)
      → length q.ops + 2 * pad_count ws places e cases ≤ length (switch_ops n ws places table label next b q).ops
  switch_long f =
      let a : length q.ops ≤ length fetch.ops = adds_few (by-fetch n place (stays q)).adds in
      let c : length switched.ops ≡ length fetch.ops + 1 = emit_long (word (op.switch (operand_reg n place q.last) table)) fetch in
      let d : length switched.ops ≤ length (edge n ws places after (e + cases) switched).ops = adds_few (edge_adds n ws places (e + cases) after switched) in
      rw switch_is (omega (arith, pads_long n ws places label e cases (edge n ws places after (e + cases) switched) f))

module _ (n : ℕ) (env : Env) {from : ℕ} {B F : Out} (fin : Finished from B F) (few : blocks env.ws ≤ 1024) {P : ℕ → Type 0} (table label next b : ℕ)
    (q : Out) (h : from ≤ length q.ops) (y : Adds P (switch_ops n env.ws env.places table label next b q) B)
    (p : (l : ℕ) → label ≤ l → l < label + pad_count env.ws env.places (first_edge env.ws b) (term_y env.ws b) → P l)
    (room : label + pad_count env.ws env.places (first_edge env.ws b) (term_y env.ws b) ≤ length B.labels)
    (targets : (i : ℕ) → i ≤ term_y env.ws b → edge_target env.ws (first_edge env.ws b + i) < blocks env.ws)
    (follows : next < blocks env.ws → length (switch_ops n env.ws env.places table label next b q).ops ≡ block_pc F next) where
  abbrev x : ℕ
  x = term_place env.ws env.places b 0

  -- before the op, and behind it
  abbrev r0 : Out
  r0 = fetched n x q

  abbrev w : ℕ
  w = word (op.switch (operand_reg n x q.last) table)

  abbrev r1 : Out
  r1 = emit w r0

  abbrev first : ℕ
  first = first_edge env.ws b

  abbrev count : ℕ
  count = term_y env.ws b

  abbrev after' : ℕ
  after' = pick (eqb (pad_count env.ws env.places first count) 0) next (nowhere env.ws)

  abbrev r2 : Out
  r2 = edge n env.ws env.places after' (first + count) r1

  abbrev r3 : Out
  r3 = pads n env.ws env.places label first count r2

  same : switch_ops n env.ws env.places table label next b q ≡ r3
  same = switch_is n env.ws env.places table label next b q

  y3 : Adds P r3 B
  y3 = rw same at y

  y2 : Adds Nil r2 B
  y2 = adds_then (pads_add n env.ws env.places label first count r2 (λ l z a c. omega arith)) (adds_nil y3)

  y1 : Adds Nil r1 B
  y1 = adds_then (adds_any (edge_adds n env.ws env.places (first + count) after' r1)) y2

  long0 : length q.ops ≤ length r0.ops
  long0 = adds_few (by-fetch n x (stays q)).adds

  long1 : length r1.ops ≡ length r0.ops + 1
  long1 = emit_long w r0

  long2 : length r1.ops ≤ length r2.ops
  long2 = adds_few (edge_adds n env.ws env.places (first + count) after' r1)

  pub switch-fetch : Fetched n F (term_place env.ws env.places b 0) (operand_reg n (term_place env.ws env.places b 0) q.last) (length q.ops)
      (length (fetched n (term_place env.ws env.places b 0) q).ops)
  switch-fetch = fetch_at fin n x q h (adds_then (adds_any (adds_emit r0 w)) y1)

  pub switch-op : get_or F.ops (length (fetched n (term_place env.ws env.places b 0) q).ops) 0
      ≡ word (op.switch (operand_reg n (term_place env.ws env.places b 0) q.last) table)
  unfolding adds_emit
  switch-op =
      let z : length r0.ops + 0 ≡ length r0.ops = add-zero (length r0.ops) in
      let e : Adds Any r0 r1 = adds_emit r0 w in
      switch_there fin (length r0.ops) (omega (arith, long0)) (omega (arith, adds_few y1, long1)) (operand_reg n x q.last) table
      (rw z at (between_at e y1 0 (omega arith)))

  -- with pads between, the default can't fall through
  default_follows : edge_target env.ws (first + count) ≡ after' → length r2.ops ≡ block_pc F after'
  default_follows k =
      ⊎_elim
      (λ (z : pad_count env.ws env.places first count ≡ 0).
      let t : after' ≡ next = rw z in
      let s : length (switch_ops n env.ws env.places table label next b q).ops ≡ length r2.ops =
      ap (λ (o : Out). length o.ops) (same ∙ pads-empty n env.ws env.places label first count r2 z) in
      sym s ∙ follows (omega (arith, targets count (omega arith))) ∙ ap (block_pc F) (sym t))
      (λ (z : pad_count env.ws env.places first count ≢ 0).
      let t : after' ≡ nowhere env.ws = rw (ne_eqb (pad_count env.ws env.places first count) 0 z) in
      absurd (omega (arith, targets count (omega arith))))
      (same? (pad_count env.ws env.places first count) 0)

  pub switch_default : EdgeAt n env F (first_edge env.ws b + term_y env.ws b) (length (fetched n (term_place env.ws env.places b 0) q).ops + 1)
  switch_default =
      rw (← long1)
      (edge_at n env fin after' (first + count) r1 (omega (arith, long0, long1)) y2 (omega (arith, targets count (omega arith))) default_follows)

  pub switch_pad : (i : ℕ) → i < term_y env.ws b → has_moves env.ws env.places (first_edge env.ws b + i) ≡ true
      → EdgeAt n env F (first_edge env.ws b + i) (get_or F.labels (label + pad_count env.ws env.places (first_edge env.ws b) i) 0)
  switch_pad i k m = pad_at n env fin few label first count r2 (omega (arith, long0, long1, long2)) y3 p room (λ j z. targets j (omega arith)) i k m
