-- What the verdict on one function says of 1, 2 and 3, and what is known of a function that none of them hits.
use mathlib.Core.Path.{◌≡◌, refl, sym}
use mathlib.Core.Bool.{Bool, true, false}
use mathlib.Core.List.{List, [], ◌∷◌}
use Prim.Native.Nat.{ℕ, ◌+◌, ◌≤◌, ◌<◌}
use native.Mathlib.Omega.{arith}
use lib.Dec.{leb, eqb}
use lib.ListN.{get_or}
use Rattle.base.specs.Choice.{pick}
use Rattle.base.proofs.Numbers.{pick-both, pick_true, pick-false}
use Rattle.grow.specs.declared.End.{End}
use Rattle.grow.specs.Growing.{Grows}
use Rattle.grow.proofs.Growing.{none, renamed}
use Rattle.input.specs.Layout.{head_field, pool_from}
use Rattle.input.specs.Records.{first_instr, instr_count}
use Rattle.input.specs.Forms.{words_ok}
use Rattle.input.proofs.Words.{Head, words_head}
use Rattle.shape.specs.Counts.{counts_ok}
use Rattle.shape.specs.Shape.{shape_ok}
use Rattle.fit.specs.Intervals.{once_ok, intervals_ok}
use Rattle.fit.specs.Callees.{callees_ok}
use Rattle.fit.specs.Keys.{keyed_ok}
use Rattle.judge.specs.Judged.{unfit}
use Rattle.judge.proofs.Shapes.{shape_given, rows-placed}
use Rattle.ready.specs.Ready.{Live}
use Rattle.interning.specs.Interning.{strings_interned}
use Rattle.strings.specs.Strings.{is_used, unfit_string, Unfit, first_unfit}

-- 4 to 7 count as none
high : (a b c d : Bool) → ◌≡◌ {A = ℕ} (pick (leb (pick a (pick b (pick c (pick d 0 7) 6) 5) 4) 3) (pick a (pick b (pick c (pick d 0 7) 6) 5) 4) 0) 0
high true true true true = refl
high true true true false = refl
high true true false d = refl
high true false c d = refl
high false b c d = refl

-- 1 to 3 are themselves
low : (a b c : Bool) (r : ℕ) → pick (leb r 3) r 0 ≡ 0
    → pick (leb (pick a (pick b (pick c r 3) 2) 1) 3) (pick a (pick b (pick c r 3) 2) 1) 0 ≡ pick a (pick b (pick c 0 3) 2) 1
low true true true r h = h
low true true false r h = refl
low true false c r h = refl
low false b c r h = refl

-- the verdict on a used function, whatever the function table is
pub judged_low : (n : ℕ) (ws functions : List ℕ) (v x : ℕ) → x ≡ pick (leb v 3) v 0 → v ≡ unfit n ws functions → is_used ws ≡ true → x ≡ unfit_string n ws
unfolding unfit unfit_string
judged_low n ws functions v x e j u =
    rw (u, e, j)
    (low (words_ok ws) (counts_ok n ws) (shape_ok ws) _ (high (once_ok ws) (intervals_ok ws) (callees_ok ws functions) (keyed_ok ws)))

-- an unused function is not judged
pub unused_low : (n : ℕ) (ws : List ℕ) → is_used ws ≡ false → 0 ≡ unfit_string n ws
unfolding unfit_string
unused_low n ws u = rw u

-- where none of three hits, the first and the third pass
passes : (a b c : Bool) → ◌≡◌ {A = ℕ} (pick a (pick b (pick c 0 3) 2) 1) 0 → (a ≡ true) × (c ≡ true)
passes true true true e = (refl, refl)
passes true true false e = absurd (omega arith)
passes true false c e = absurd (omega arith)
passes false b c e = absurd (omega arith)

-- the instructions of a fit function's blocks have numbers of 32 bits
pub fit_instrs : (n : ℕ) (ws : List ℕ) → unfit_string n ws ≡ 0 → is_used ws ≡ true → get_or ws 13 0 < 4294967296
    → (b : ℕ) → Live ws b → first_instr ws b + instr_count ws b < 4294967296
unfolding unfit_string head_field
fit_instrs n ws e u word b l =
    let p = passes (words_ok ws) (counts_ok n ws) (shape_ok ws) (rw u at e) in
    let h : Head ws = words_head ws p.0 in
    let w : pool_from ws < 4294967296 = word in
    let r = rows-placed ws (shape_given ws p.1).rows b l.there l.is in
    omega (arith, h.edges_at, h.constants_at, h.pool_starts_at)

-- a function's number is at most 3
unfit_most : (n : ℕ) (ws : List ℕ) → unfit_string n ws ≤ 3
unfolding unfit_string
unfit_most n ws =
    let small = pick-both (λ (k : ℕ). k ≤ 3) in
    small (is_used ws) _ 0
    (small (words_ok ws) _ 1 (small (counts_ok n ws) _ 2 (small (shape_ok ws) 0 3 (omega arith) (omega arith)) (omega arith)) (omega arith))
    (omega arith)

-- and so is that of the first unfit one
pub first_most : (n k : ℕ) (fs : List (List ℕ)) → (first_unfit n k fs).number ≤ 3
unfolding first_unfit
first_most n k [] = omega arith
first_most n k (f ∷ fs) =
    pick-both (λ (u : Unfit). u.number ≤ 3) (eqb (unfit_string n f) 0) (first_unfit n (k + 1) fs) (record { number = unfit_string n f; index = k })
    (first_most n (k + 1) fs) (unfit_most n f)

-- the strings of an unused function are none
pub unused_grows : (ws b : List ℕ) (e : End) → is_used ws ≡ false → Grows (λ g. pick (is_used ws) (strings_interned ws g) g) b e b e
unused_grows ws b e u = renamed (none b e) (λ l. sym (pick-false (is_used ws) (strings_interned ws l) l u))

-- those of a used one
pub used_grows : (ws : List ℕ) {b b' : List ℕ} {e e' : End} → is_used ws ≡ true → Grows (strings_interned ws) b e b' e'
    → Grows (λ g. pick (is_used ws) (strings_interned ws g) g) b e b' e'
used_grows ws u g = renamed g (λ l. sym (pick_true (is_used ws) (strings_interned ws l) l u))
