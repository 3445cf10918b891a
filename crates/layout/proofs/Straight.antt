-- Words behind which control goes on: every op but the jumps, Switch, Tail, Ret and Halt, by its opcode alone.
use mathlib.Core.Path.{◌≡◌, refl}
use mathlib.Core.Bool.{Bool, true, false}
use Prim.Native.Nat.{ℕ, zero, suc, ◌+◌, ◌*◌, ◌/◌, ◌%◌, ◌<◌}
use mathlib.Core.List.{List, [], ◌∷◌, ◌++◌, map, map-append}
use native.Mathlib.Omega.{arith}
use borrow.Author.Tests.{ltb-true}
use lib.Dec.{ltb, eqb}
use lib.ListN.{length, get_or}
use Rattle.base.specs.Choice.{pick}
use Rattle.base.proofs.Numbers.{pick-both}
use Rattle.place.specs.Registers.{scratch_of, tmp_of}
use Rattle.place.specs.Places.{slots_from}
use Rattle.op.specs.declared.Op.{Op}
use Rattle.op.specs.Words.{word, parts}
use Rattle.op.specs.Ops as op
use Rattle.op.specs.Ops.{bin_code, bin_codes, imm_code, imm_codes}
use Rattle.op.specs.Targets.{is_jump}
use Rattle.machine.specs.Stack.{pushes_of, pops_of}
use Rattle.moves.specs.Moves.{move_ops, first_ready, turn_ops, turn_sources, turn_destinations, turns, moves, move_words}
use Rattle.layout.specs.Layout.{goes_on}

-- the opcode of a word is its op's, whatever the other fields
pub code-word : (o : Op) → o.code < 256 → (parts (word o)).code ≡ o.code
unfolding word parts
code-word o h = omega arith

-- so are the bytes, and the rest is w
pub parts_bytes : (o : Op) → o.code < 256 → o.a < 256 → o.b < 256 → o.c < 256 → parts (word o) ≡ o
unfolding word parts
parts_bytes o h i j k =
    let q1 : word o / 256 ≡ o.a + 256 * (o.b + 256 * (o.c + 256 * o.w)) = omega arith in
    let q2 : word o / 65536 ≡ o.b + 256 * (o.c + 256 * o.w) = omega arith in
    let q3 : word o / 16777216 ≡ o.c + 256 * o.w = omega arith in
    let e0 : word o % 256 ≡ o.code = omega arith in
    let e1 : word o / 256 % 256 ≡ o.a = rw q1 (omega arith) in
    let e2 : word o / 65536 % 256 ≡ o.b = rw q2 (omega arith) in
    let e3 : word o / 16777216 % 256 ≡ o.c = rw q3 (omega arith) in
    let e4 : word o / 4294967296 ≡ o.w = omega arith in
    rw (e0, e1, e2, e3, e4)

-- `goes_on` of an opcode
abbrev pub straight : ℕ → Bool
straight code =
    pick (is_jump code) false
    (pick (eqb code (op.switch 0 0).code) false
    (pick (eqb code (op.tail 0).code) false
    (pick (eqb code (op.ret).code) false
    (pick (eqb code 1) false true))))

goes_word : (o : Op) → o.code < 256 → straight o.code ≡ true → goes_on (word o) ≡ true
goes_word o h e = rw (code-word o h) e

-- the same of an op by its fields
pub goes_op : (code a b c w : ℕ) → code < 256 → straight code ≡ true → goes_on (word (op.op code a b c w)) ≡ true
goes_op code a b c w h e = goes_word (op.op code a b c w) h e

-- ---- lists of such words
pub data AllGo : List ℕ → Type 0 where
  none : AllGo []
  more : {w : ℕ} {l : List ℕ} → goes_on w ≡ true → AllGo l → AllGo (w ∷ l)

pub all_append : {a b : List ℕ} → AllGo a → AllGo b → AllGo (a ++ b)
all_append none y = y
all_append (more h x) y = more h (all_append x y)

pub all_at : {l : List ℕ} → AllGo l → (k : ℕ) → k < length l → goes_on (get_or l k 0) ≡ true
all_at none k h = absurd (omega arith)
all_at (more e x) zero h = e
all_at (more e x) (suc k) h = all_at x k (omega arith)

pub all_one : {w : ℕ} → goes_on w ≡ true → AllGo (w ∷ [])
all_one h = more h none

-- ---- pushes and pops
pub pushes_go : (rs : List ℕ) → AllGo (map word (pushes_of rs))
pushes_go [] = none
pushes_go (a ∷ []) = all_one (goes_op 18 a 0 0 0 (omega arith) refl)
pushes_go (a ∷ b ∷ []) = all_one (goes_op 19 a b 0 0 (omega arith) refl)
pushes_go (a ∷ b ∷ c ∷ rs) = more (goes_op 20 a b c 0 (omega arith) refl) (pushes_go rs)

pub pops_go : (rs : List ℕ) → AllGo (map word (pops_of rs))
pops_go [] = none
pops_go (a ∷ []) = all_one (goes_op 21 a 0 0 0 (omega arith) refl)
pops_go (a ∷ b ∷ []) = all_one (goes_op 22 a b 0 0 (omega arith) refl)
pops_go (a ∷ b ∷ c ∷ rs) = more (goes_op 23 a b c 0 (omega arith) refl) (pops_go rs)

-- ---- moves
abbrev Go : List Op → Type 0
Go os = AllGo (map word os)

move_go : (tmp s d : ℕ) → Go (move_ops tmp s d)
move_go tmp s d =
    pick-both Go (ltb s slots_from) _ _
    (pick-both Go (ltb d slots_from) _ _ (all_one (goes_op 2 d s 0 0 (omega arith) refl)) (all_one (goes_op 24 s 0 0 _ (omega arith) refl)))
    (pick-both Go (ltb d slots_from) _ _ (all_one (goes_op 25 d 0 0 _ (omega arith) refl))
    (more (goes_op 25 tmp 0 0 _ (omega arith) refl) (all_one (goes_op 24 tmp 0 0 _ (omega arith) refl))))

turn_go : (sc tmp : ℕ) (ss ds : List ℕ) → Go (turn_ops sc tmp ss ds)
unfolding turn_ops
turn_go sc tmp ss ds =
    pick-both Go (ltb (first_ready ss ds) (length ds)) _ _
    (move_go tmp (get_or ss (first_ready ss ds) 0) (get_or ds (first_ready ss ds) 0)) (pick-both Go (ltb 0 (length ds)) _ _ (move_go tmp (get_or ss 0 0) sc) none)

turns_go : (sc tmp f : ℕ) (ss ds : List ℕ) → Go (turns sc tmp f ss ds)
unfolding turns
turns_go sc tmp zero ss ds = none
turns_go sc tmp (suc f) ss ds =
    rw (map-append word (turn_ops sc tmp ss ds) (turns sc tmp f (turn_sources sc ss ds) (turn_destinations ss ds)))
    (all_append (turn_go sc tmp ss ds) (turns_go sc tmp f (turn_sources sc ss ds) (turn_destinations ss ds)))

pub moves_go : (n : ℕ) (ss ds : List ℕ) → AllGo (move_words n ss ds)
unfolding move_words moves
moves_go n ss ds = turns_go (scratch_of n) (tmp_of n) (length ds + length ds) ss ds

-- ---- operators
abbrev fine : ℕ → Bool
fine c = pick (ltb c 256) (straight c) false

abbrev all_fine : List ℕ → Bool
all_fine [] = true
all_fine (c ∷ l) = pick (fine c) (all_fine l) false

two_hold : (a b : Bool) → pick a b false ≡ true → (a ≡ true) × (b ≡ true)
two_hold true b e = (refl, e)
two_hold false b e = let z : ◌≡◌ {A = ℕ} 0 1 = cc in absurd (omega arith)

fine_at : (l : List ℕ) → all_fine l ≡ true → (k : ℕ) → fine (get_or l k 0) ≡ true
fine_at [] e k = refl
fine_at (c ∷ l) e zero = (two_hold (fine c) (all_fine l) e).0
fine_at (c ∷ l) e (suc k) = fine_at l (two_hold (fine c) (all_fine l) e).1 k

fine_goes : (l : List ℕ) → all_fine l ≡ true → (k a b c w : ℕ) → goes_on (word (op.op (get_or l k 0) a b c w)) ≡ true
fine_goes l e k a b c w =
    let t = two_hold (ltb (get_or l k 0) 256) (straight (get_or l k 0)) (fine_at l e k) in
    goes_op (get_or l k 0) a b c w (ltb-true (get_or l k 0) 256 t.0) t.1

pub bin_goes : (operator d l r : ℕ) → goes_on (word (op.bin operator d l r)) ≡ true
unfolding bin_code bin_codes
bin_goes operator d l r = fine_goes bin_codes refl operator d l r 0

pub imm_goes : (operator d l i : ℕ) → goes_on (word (op.bin_imm operator d l i)) ≡ true
unfolding imm_code imm_codes
imm_goes operator d l i = fine_goes imm_codes refl operator d l 0 i
