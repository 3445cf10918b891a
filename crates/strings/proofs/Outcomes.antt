-- What comes back, by the tests that led there.
use Rattle.std.specs.Prelude.{Some, None, Ok, Err}
use mathlib.Core.Path.{◌≡◌, refl, sym, ap, ◌∙◌}
use mathlib.Core.Logic.{⊎_elim}
use mathlib.Core.Bool.{Bool, true, false, ◌||◌}
use mathlib.Core.List.{List}
use Prim.Native.Nat.{ℕ, ◌*◌, ◌/◌, ◌≤◌, ◌<◌}
use native.Mathlib.Omega.{arith}
use borrow.Author.Tests.{leb-true, le-leb, lt-leb, ne_eqb}
use lib.Dec.{leb, eqb}
use lib.ListN.{length, take, drop}
use lib.Seq.{sets, length-sets, length-take-le, take_at}
use Rattle.base.specs.Limits.{most_of_a_kind}
use Rattle.base.proofs.Lists.{sets-front}
use Rattle.base.proofs.Numbers.{same?}
use Rattle.refusal.specs.declared.Refusal.TheVariants.{TooMany, NoRoom}
use Rattle.refusal.specs.Numbers.{number_of}
use Rattle.judge.proofs.Verdicts.{some}
use Rattle.grow.specs.declared.End.{End}
use Rattle.grow.specs.Growing.{Grown, Grows}
use Rattle.grow.proofs.Growing.{grown_start, grown_done, grown_full, grown_lengths}
use Rattle.input.proofs.Chain.{both-parts}
use Rattle.lists.specs.Lists.{room}
use Rattle.strings.specs.declared.Unfit as declared
use Rattle.strings.specs.Strings.{functions_in, first_unfit, all_strings, strings_after, used_ok, found, outcome, interned}

-- the used length passes neither its buffer nor the most
pub record Within (globals : List ℕ) (used : ℕ) : Type 0 where
  pub in_buffer : 2 * used ≤ length globals
  pub in_all : used ≤ most_of_a_kind

pub within : (globals : List ℕ) (used : ℕ) → used_ok globals used ≡ true → Within globals used
within globals used e =
    let p = both-parts (leb (2 * used) (length globals)) (leb used most_of_a_kind) e in
    record { in_buffer = leb-true _ _ p.0; in_all = leb-true _ _ p.1 }

-- of two tests one passed, and neither
other : (a b : Bool) → (a || b) ≡ true → b ≡ false → a ≡ true
other true b h e = refl
other false b h e = let z : ◌≡◌ {A = Bool} false true = sym e ∙ h in cc

neither : (a b : Bool) → (a || b) ≡ false → (a ≡ false) × (b ≡ false)
neither true b h = let z : ◌≡◌ {A = Bool} true false = h in cc
neither false b h = (refl, h)

module _ (n : ℕ) (words ends globals : List ℕ) (used : ℕ) where
  module _ (f : declared.Unfit) (is : found (Some f) ≡ first_unfit n 0 (functions_in words 0 ends)) (t : Bool) (u : t ≡ used_ok globals used) where
    -- number 1 goes before the used length, 2 and 3 behind it
    pub first_found : (t || eqb (number_of f.why) 1) ≡ true → outcome (Err f) used globals ≡ interned n words ends globals used
    unfolding interned
    first_found h =
        ⊎_elim
        (λ (e : number_of f.why ≡ 1). rw (← is, e))
        (λ (e : number_of f.why ≡ 1 → ⊥).
        let b : eqb (number_of f.why) 1 ≡ false = ne_eqb (number_of f.why) 1 e in
        let k : used_ok globals used ≡ true = sym u ∙ other t (eqb (number_of f.why) 1) h b in
        rw (← is, b, k, some f.why))
        (same? (number_of f.why) 1)

    pub used_wrong : (t || eqb (number_of f.why) 1) ≡ false
        → outcome (Err (record { why = TooMany; index = 0 })) used globals ≡ interned n words ends globals used
    unfolding interned
    used_wrong h =
        let p = neither t (eqb (number_of f.why) 1) h in
        let k : used_ok globals used ≡ false = sym u ∙ p.0 in
        rw (← is, p.1, k)

  -- none is unfit
  pub used_over : found None ≡ first_unfit n 0 (functions_in words 0 ends) → used_ok globals used ≡ false
      → outcome (Err (record { why = TooMany; index = 0 })) used globals ≡ interned n words ends globals used
  unfolding interned
  used_over is u = rw (← is, u)

-- the globals with the strings of fit functions, as they grow in a buffer of their own
pub record Held (n : ℕ) (words ends globals : List ℕ) (used : ℕ) (list list' : List ℕ) (e : End) : Type 0 where
  pub fit : (first_unfit n 0 (functions_in words 0 ends)).number ≡ 0
  pub right : used_ok globals used ≡ true
  pub grown : Grown list (strings_after words ends globals used) list' e
  pub room_kept : e.room ≡ room 2 globals

-- the buffer starts with the globals that are used
pub held : (n : ℕ) (words ends globals : List ℕ) (used : ℕ) (list list₁ list₂ : List ℕ) (r : ℕ) (e : End)
    → (first_unfit n 0 (functions_in words 0 ends)).number ≡ 0 → used_ok globals used ≡ true → length list ≡ 131068
    → list₁ ≡ sets list 0 (take (2 * used) globals) → r ≡ room 2 globals
    → Grows (all_strings (functions_in words 0 ends)) list₁ (record { at = 2 * used; room = r; full = false }) list₂ e
    → Held n words ends globals used list₁ list₂ e
held n words ends globals used list list₁ list₂ r e f u l s k g =
    let w = within globals used u in
    let m : length (take (2 * used) globals) ≡ 2 * used = length-take-le (2 * used) globals w.in_buffer in
    let o : length list₁ ≡ 131068 = ap length s ∙ simp length-sets l in
    let t : take (2 * used) list₁ ≡ take (2 * used) globals =
    ap (take (2 * used)) (s ∙ sets-front list (take (2 * used) globals) (omega (arith, w.in_all)))
    ∙ take_at (take (2 * used) globals) (drop (length (take (2 * used) globals)) list) (2 * used) m in
    let start = grown_start list₁ (2 * used) r (omega (arith, w.in_buffer, w.in_all)) (omega (arith, o)) in
    record { fit = f; right = u; grown = g.go list₁ (take (2 * used) globals) (rw t at start); room_kept = g.room_kept ∙ k }

module _ {n : ℕ} {words ends globals : List ℕ} {used : ℕ} {list list' : List ℕ} {e : End} (h : Held n words ends globals used list list' e) where
  -- the end stands within the buffer
  pub held-within : e.at ≤ length list'
  held-within = omega (arith, h.grown.at_is, h.grown.lent, grown_lengths h.grown)

  -- the strings pass the room
  pub no_room : e.full ≡ true → outcome (Err (record { why = NoRoom; index = 0 })) used globals ≡ interned n words ends globals used
  unfolding interned
  no_room f =
      let l : room 2 globals < length (strings_after words ends globals used) = omega (arith, grown_full h.grown f, h.room_kept) in
      rw (h.fit, h.right, lt-leb (length (strings_after words ends globals used)) (room 2 globals) l)

  -- they find room, and go back
  pub all_held : (globals' : List ℕ) → e.full ≡ false → globals' ≡ sets globals 0 (take e.at list')
      → outcome (Ok (e.at / 2)) used globals' ≡ interned n words ends globals used
  unfolding interned
  all_held globals' f s =
      let d = grown_done h.grown f in
      let after : List ℕ = strings_after words ends globals used in
      let l : length after ≤ room 2 globals = omega (arith, d.fits, h.room_kept) in
      let t : take e.at list' ≡ after = ap (take e.at) d.is ∙ take_at after (drop (length after) list) e.at (sym d.at_is) in
      rw (h.fit, h.right, le-leb (length after) (room 2 globals) l, s, t, d.at_is)
