-- What one turn of each loop does, and what its end gives.
use mathlib.Core.Path.{◌≡◌, refl, sym, ap, ◌∙◌}
use mathlib.Core.Bool.{Bool, true, false}
use mathlib.Core.List.{List, [], ◌∷◌, ◌++◌, map, map-append, append-nil, append_assoc}
use Prim.Native.Nat.{ℕ, ◌+◌, ◌≤◌, ◌<◌}
use native.Mathlib.Numerals.{add-one}
use native.Mathlib.Omega.{arith}
use borrow.Author.Count.{below_more}
use lib.ListN.{length, get_or, take, drop, set, length-append, length-take, length-map, take-append-drop}
use lib.Seq.{sets, drop-append-le, get_or-set_same, get_or-set_other, take-suc, take_all, drop-length, length-sets, length-take-le}
use Rattle.base.specs.Choice.{pick}
use Rattle.base.proofs.Lists.{sets-append, sets-front, get_or-sets-after}
use Rattle.compact.specs.Compaction.{is_nop, kept_ops, kept_spans, sent}
use Rattle.compact.specs.Steps.{resent_by, Remap, Down, Stripped}
use Rattle.compact.proofs.Sending.{kept_le, kept-turn, spans_turn, spans_length, sent-turn}

-- in a map of the first i, what stands at i goes behind
pub map-turn : (f : ℕ → ℕ) (l : List ℕ) (i : ℕ) → i < length l
    → set (sets l 0 (map f (take i l))) i (f (get_or l i 0)) ≡ sets l 0 (map f (take (i + 1) l))
map-turn f l i h =
    let e : 0 + length (map f (take i l)) ≡ i = simp (length-map, length-take) (omega arith) in
    let g : map f (take (i + 1) l) ≡ map f (take i l) ++ (f (get_or l i 0) ∷ []) = rw (add-one i, take-suc l i 0 h, map-append) in
    rw (g, ← sets-append l 0 (map f (take i l)) (f (get_or l i 0) ∷ []), e)

-- what is still to be mapped stands there yet
pub map-unread : (f : ℕ → ℕ) (l : List ℕ) (i : ℕ) → i < length l → get_or (sets l 0 (map f (take i l))) i 0 ≡ get_or l i 0
map-unread f l i h =
    let e : 0 + length (map f (take i l)) ≤ i = simp (length-map, length-take) (omega arith) in
    get_or-sets-after l 0 (map f (take i l)) i 0 e

-- a turn of a map in place
pub map_next : (f : ℕ → ℕ) (l l' : List ℕ) (i v : ℕ) → i < length l → l' ≡ sets l 0 (map f (take i l)) → v ≡ f (get_or l' i 0)
    → set l' i v ≡ sets l 0 (map f (take (i + 1) l))
map_next f l l' i v h e d = rw (d, e, map-unread f l i h) (map-turn f l i h)

-- all of a list mapped
pub map_whole : (f : ℕ → ℕ) (l : List ℕ) (i : ℕ) → length l ≤ i → sets l 0 (map f (take i l)) ≡ map f l
map_whole f l i h =
    let e : length (map f l) ≤ length l = simp length-map (omega arith) in
    let d : length (map f l) ≡ length l = length-map l f in
    rw (take_all i l h, sets-front l (map f l) e, d, drop-length l, append-nil)

-- a turn of the remap: the table holds where one pc more is sent
pub remap-turn : (ops work : List ℕ) (pc next : ℕ) → pc < length work → next ≡ sent ops pc → ((k : ℕ) → k < pc → get_or work k 0 ≡ sent ops k)
    → (k : ℕ) → k < pc + 1 → get_or (set work pc next) k 0 ≡ sent ops k
remap-turn ops work pc next h e f =
    below_more (λ (k : ℕ). get_or (set work pc next) k 0 ≡ sent ops k) pc
    (λ k lt. get_or-set_other work pc k next 0 (λ (q : k ≡ pc). omega arith) ∙ f k lt)
    (get_or-set_same work pc next 0 h ∙ e)

-- where the next pc is sent
pub next-turn : (ops : List ℕ) (pc next step : ℕ) → pc < length ops → next ≡ sent ops pc → step ≡ pick (is_nop (get_or ops pc 0)) 0 1
    → next + step ≡ sent ops (pc + 1)
next-turn ops pc next step h e f = rw (sent-turn ops pc h, e, f)

-- the end of the remap: where the end is sent
pub remap-end : (ops work : List ℕ) (pc next : ℕ) → length ops < length work → pc ≡ length ops → next ≡ sent ops pc
    → ((k : ℕ) → k < pc → get_or work k 0 ≡ sent ops k) → Remap ops (set work (length ops) next)
remap-end ops work pc next k e d f =
    record {
      has = λ n lt. remap-turn ops work (length ops) next k (d ∙ ap (sent ops) e) (λ m q. f m (omega arith)) n (omega arith);
    }

-- one that stays goes behind the ones that stayed
one_down : (b : Bool) (l xs : List ℕ) (w x : ℕ) → w ≡ length xs
    → pick b (sets l 0 xs) (set (sets l 0 xs) w x) ≡ sets l 0 (xs ++ pick b [] (x ∷ []))
one_down true l xs w x e = rw append-nil
one_down false l xs w x e =
    let z : w ≡ 0 + length xs = omega arith in
    rw z (sets-append l 0 xs (x ∷ []))

one_next : (b : Bool) (xs : List ℕ) (x w : ℕ) → w ≡ length xs → pick b w (w + 1) ≡ length (xs ++ pick b [] (x ∷ []))
one_next true xs x w e = rw append-nil e
one_next false xs x w e = rw (e, length-append xs (x ∷ []))

map-left : (f : ℕ → ℕ) (b : Bool) (xs : List ℕ) (x : ℕ) → map f xs ++ pick b [] (f x ∷ []) ≡ map f (xs ++ pick b [] (x ∷ []))
map-left f true xs x = sym (map-append f xs [])
map-left f false xs x = sym (map-append f xs (x ∷ []))

-- where the next op goes is not past the op that is read
pub stripped_le : {work : List ℕ} {r : ℕ} {ops spans : List ℕ} {w' : ℕ} {ops' spans' : List ℕ} → Stripped work r ops spans w' ops' spans' → w' ≤ r
stripped_le {work} {r} {ops} {spans} {w'} {ops'} {spans'} s = omega (arith, s.next_is, kept_le (take r ops), length-take r ops)

-- the lengths stay
pub stripped_lengths : {work : List ℕ} {r : ℕ} {ops spans : List ℕ} {w' : ℕ} {ops' spans' : List ℕ} → Stripped work r ops spans w' ops' spans'
    → (length ops' ≡ length ops) × (length spans' ≡ length spans)
stripped_lengths {work} {r} {ops} {spans} {w'} {ops'} {spans'} s = (
  ap length s.ops_is ∙ length-sets ops 0 (map (resent_by work) (kept_ops (take r ops))),
  ap length s.spans_is ∙ length-sets spans 0 (kept_spans (take r ops) (take r spans)),
)

-- nothing is brought down yet
pub stripped_none : (work ops spans : List ℕ) → Stripped work 0 ops spans 0 ops spans
unfolding kept_ops kept_spans
stripped_none work ops spans = record { next_is = refl; ops_is = refl; spans_is = refl }

-- a turn of the strip
pub strip-turn : {work : List ℕ} {r : ℕ} {ops spans : List ℕ} {w' : ℕ} {ops' spans' : List ℕ} {w'' : ℕ} {ops'' spans'' : List ℕ}
    → r < length ops → r < length spans → Stripped work r ops spans w' ops' spans' → Down work r w' ops' spans' w'' ops'' spans''
    → Stripped work (r + 1) ops spans w'' ops'' spans''
strip-turn {work} {r} {ops} {spans} {w'} {ops'} {spans'} {w''} {ops''} {spans''} h k s d =
    let ks = kept_ops (take r ops) in
    let ss = kept_spans (take r ops) (take r spans) in
    let le : w' ≤ r = stripped_le s in
    let lm : length (map (resent_by work) ks) ≡ length ks = length-map ks (resent_by work) in
    let lt : length (take r ops) ≡ length (take r spans) = simp length-take (omega arith) in
    let ls : length ss ≡ length ks = spans_length (take r ops) (take r spans) lt in
    let wm : w' ≡ length (map (resent_by work) ks) = s.next_is ∙ sym lm in
    let ws : w' ≡ length ss = s.next_is ∙ sym ls in
    let before : 0 + length (map (resent_by work) ks) ≤ r = omega arith in
    let beside : 0 + length ss ≤ r = omega arith in
    let x : get_or ops' r 0 ≡ get_or ops r 0 = rw s.ops_is (get_or-sets-after ops 0 (map (resent_by work) ks) r 0 before) in
    let y : get_or spans' r 0 ≡ get_or spans r 0 = rw s.spans_is (get_or-sets-after spans 0 ss r 0 beside) in
    record {
      next_is = d.next_is ∙ rw (x, kept-turn ops r h) (one_next (is_nop (get_or ops r 0)) ks (get_or ops r 0) w' s.next_is);
      ops_is = d.ops_is ∙ rw (x, kept-turn ops r h, s.ops_is, ← map-left (resent_by work) (is_nop (get_or ops r 0)) ks (get_or ops r 0))
          (one_down (is_nop (get_or ops r 0)) ops (map (resent_by work) ks) w' (resent_by work (get_or ops r 0)) wm);
      spans_is = d.spans_is ∙ rw (x, y, spans_turn ops spans r h k, s.spans_is)
          (one_down (is_nop (get_or ops r 0)) spans ss w' (get_or spans r 0) ws);
    }

-- what is stored in the first n of a list is stored in the list
pub sets-part : (n : ℕ) (l xs : List ℕ) → n ≤ length l → length xs ≤ n → sets (take n l) 0 xs ++ drop n l ≡ sets l 0 xs
sets-part n l xs h k =
    let e : length (take n l) ≡ n = length-take-le n l h in
    let a : sets (take n l) 0 xs ≡ xs ++ drop (length xs) (take n l) = sets-front (take n l) xs (omega arith) in
    let b : sets l 0 xs ≡ xs ++ drop (length xs) l = sets-front l xs (omega arith) in
    let d : drop (length xs) (take n l) ++ drop n l ≡ drop (length xs) l
    = sym (drop-append-le (length xs) (take n l) (drop n l) (omega arith)) ∙ ap (drop (length xs)) (take-append-drop n l) in
    rw (a, b, append_assoc, d)

-- the strip of the first parts is the strip of the first so many
pub strip-part : {work : List ℕ} {used : ℕ} {ops spans : List ℕ} {w : ℕ} {ops' spans' : List ℕ} → used ≤ length ops → used ≤ length spans
    → Stripped work (length (take used ops)) (take used ops) (take used spans) w ops' spans'
    → Stripped work used ops spans w (ops' ++ drop used ops) (spans' ++ drop used spans)
strip-part {work} {used} {ops} {spans} {w} {ops'} {spans'} h k s =
    let n : length (take used ops) ≡ used = length-take-le used ops h in
    let m : length (take used spans) ≡ used = length-take-le used spans k in
    let o : take (length (take used ops)) (take used ops) ≡ take used ops = take_all _ (take used ops) (omega arith) in
    let p : take (length (take used ops)) (take used spans) ≡ take used spans = take_all _ (take used spans) (omega arith) in
    let lm : length (map (resent_by work) (kept_ops (take used ops))) ≡ length (kept_ops (take used ops)) = length-map (kept_ops (take used ops)) (resent_by work) in
    let ls : length (kept_spans (take used ops) (take used spans)) ≡ length (kept_ops (take used ops)) = spans_length (take used ops) (take used spans) (omega arith) in
    let le : length (kept_ops (take used ops)) ≤ used = omega (arith, kept_le (take used ops)) in
    record {
      next_is = rw o at s.next_is;
      ops_is = rw (s.ops_is, o) (sets-part used ops (map (resent_by work) (kept_ops (take used ops))) h (omega arith));
      spans_is = rw (s.spans_is, o, p) (sets-part used spans (kept_spans (take used ops) (take used spans)) k (omega arith));
    }
