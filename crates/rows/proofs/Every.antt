-- Rows in parts: how a loop over rows goes from one part to the next, for a check of every row, for what rows give, and for their number.
use Prim.Native.Nat.{ℕ, zero, suc, ◌+◌, ◌-◌, ◌<◌, ◌≤◌}
use mathlib.Core.Bool.{Bool, true, false}
use mathlib.Core.List.{List, [], ◌∷◌, ◌++◌, append_assoc, append-nil}
use mathlib.Core.Path.{◌≡◌, refl, sym, ap, ◌∙◌}
use native.Mathlib.Omega.{arith}
use lib.ListN.{length, length-append}
use Rattle.base.specs.Choice.{pick}
use Rattle.input.specs.Records.{is_live, first_instr, instr_count}
use Rattle.input.specs.Forms.{both}
use Rattle.input.proofs.Chain.{both-parts}
use Rattle.rows.specs.Rows.{Row, params, instr, term, instr_rows, block_rows, rows_from, every, over_rows}

-- ---- the rows of a block, and of blocks one after another

pub instrs_turn : (i n j : ℕ) → j < n → instr_rows (i + j) (n - j) ≡ instr (i + j) ∷ instr_rows (i + (j + 1)) (n - (j + 1))
unfolding instr_rows
instrs_turn i n j h =
    let e : n - j ≡ suc (n - (j + 1)) = omega arith in
    let a : i + j + 1 ≡ i + (j + 1) = omega arith in
    rw (e, a)

pub instrs_end : (i n j : ℕ) → n ≤ j → instr_rows (i + j) (n - j) ≡ []
unfolding instr_rows
instrs_end i n j h = let e : n - j ≡ 0 = omega arith in rw e

pub blocks-turn : (ws : List ℕ) (n b : ℕ) → b < n → rows_from ws b (n - b) ≡ block_rows ws b ++ rows_from ws (b + 1) (n - (b + 1))
unfolding rows_from
blocks-turn ws n b h = let e : n - b ≡ suc (n - (b + 1)) = omega arith in rw e

pub blocks_end : (ws : List ℕ) (n b : ℕ) → n ≤ b → rows_from ws b (n - b) ≡ []
unfolding rows_from
blocks_end ws n b h = let e : n - b ≡ 0 = omega arith in rw e

module _ (ws : List ℕ) (b : ℕ) where
  pub rows-dead : is_live ws b ≡ false → block_rows ws b ≡ []
  unfolding block_rows
  rows-dead h = rw h

  pub rows-live : is_live ws b ≡ true
      → block_rows ws b ≡ params b ∷ (instr_rows (first_instr ws b) (instr_count ws b) ++ (term b ∷ []))
  unfolding block_rows
  rows-live h = rw h

-- ---- how many rows

pub length_instrs : (i n : ℕ) → length (instr_rows i n) ≡ n
unfolding instr_rows
length_instrs i zero = refl
length_instrs i (suc n) = ap suc (length_instrs (i + 1) n)

module _ (ws : List ℕ) (b : ℕ) where
  pub length-dead : is_live ws b ≡ false → length (block_rows ws b) ≡ 0
  length-dead h = rw (rows-dead ws b h)

  pub length-live : is_live ws b ≡ true → length (block_rows ws b) ≡ instr_count ws b + 2
  length-live h =
      let n = instr_count ws b in
      let rs = instr_rows (first_instr ws b) n in
      let l : length rs ≡ n = length_instrs (first_instr ws b) n in
      let k : length (rs ++ (term b ∷ [])) ≡ length rs + 1 = length-append rs (term b ∷ []) in
      rw (rows-live ws b h) (omega arith)

  pub length-block : length (block_rows ws b) ≡ pick (is_live ws b) (instr_count ws b + 2) 0
  length-block = go (is_live ws b) refl
    where
      go : (t : Bool) → is_live ws b ≡ t → length (block_rows ws b) ≡ pick t (instr_count ws b + 2) 0
      go true h = length-live h
      go false h = length-dead h

-- the rows of block b, and of those behind it
pub length-turn : (ws : List ℕ) (n b : ℕ) → b < n
    → length (rows_from ws b (n - b)) ≡ length (block_rows ws b) + length (rows_from ws (b + 1) (n - (b + 1)))
length-turn ws n b h = ap length (blocks-turn ws n b h) ∙ length-append (block_rows ws b) (rows_from ws (b + 1) (n - (b + 1)))

-- r rows stand before block b, of all rows of the first n blocks
abbrev pub RowsBefore : List ℕ → ℕ → ℕ → ℕ → Type 0
RowsBefore ws n r b = r + length (rows_from ws b (n - b)) ≡ length (rows_from ws 0 n)

pub before-start : (ws : List ℕ) (n : ℕ) → RowsBefore ws n 0 0
before-start ws n = let e : n - 0 ≡ n = omega arith in rw e (omega arith)

module _ (ws : List ℕ) (n r b : ℕ) (h : b < n) (s : RowsBefore ws n r b) where
  pub before-turn : RowsBefore ws n (r + length (block_rows ws b)) (b + 1)
  before-turn = omega (arith, length-turn ws n b h)

  pub before_fits : r + length (block_rows ws b) ≤ length (rows_from ws 0 n)
  before_fits = omega (arith, length-turn ws n b h)

-- ---- a check of every row

module _ (ok : ℕ → Row → Bool) where
  pub every_append : (r : ℕ) (xs ys : List Row) → every ok r (xs ++ ys) ≡ both (every ok r xs) (every ok (r + length xs) ys)
  unfolding every
  every_append r [] ys = let e : r + 0 ≡ r = omega arith in rw e
  every_append r (x ∷ xs) ys =
      let e : r + 1 + length xs ≡ r + suc (length xs) = omega arith in
      rw (every_append (r + 1) xs ys, e) (grouped (ok r x) (every ok (r + 1) xs) (every ok (r + suc (length xs)) ys))
    where
      grouped : (p q s : Bool) → both p (both q s) ≡ both (both p q) s
      grouped true q s = refl
      grouped false q s = refl

  -- where all rows pass, each part does
  pub every-parts : (r : ℕ) (xs ys : List Row) → every ok r (xs ++ ys) ≡ true → (every ok r xs ≡ true) × (every ok (r + length xs) ys ≡ true)
  every-parts r xs ys e = both-parts (every ok r xs) (every ok (r + length xs) ys) (sym (every_append r xs ys) ∙ e)

  every_one : (r : ℕ) (x : Row) → every ok r (x ∷ []) ≡ ok r x
  unfolding every
  every_one r x = ended (ok r x)
    where
      ended : (p : Bool) → both p true ≡ p
      ended true = refl
      ended false = refl

  module _ (ws : List ℕ) (r b : ℕ) where
    pub every-dead : is_live ws b ≡ false → every ok r (block_rows ws b) ≡ true
    unfolding every
    every-dead h = rw (rows-dead ws b h)

    -- a live block: its parameters, its instructions, its terminator
    pub every-live : is_live ws b ≡ true
        → every ok r (block_rows ws b)
        ≡ both (ok r (params b))
        (both (every ok (r + 1) (instr_rows (first_instr ws b) (instr_count ws b))) (ok (r + 1 + instr_count ws b) (term b)))
    unfolding every
    every-live h =
        let n = instr_count ws b in
        let i = first_instr ws b in
        rw (
          rows-live ws b h,
          every_append (r + 1) (instr_rows i n) (term b ∷ []),
          length_instrs i n,
          every_one (r + 1 + n) (term b),
        )

-- a live block's answer by those of its parts, p and q, up to the first that fails
module _ (ok : ℕ → Row → Bool) (ws : List ℕ) (r b : ℕ) (live : is_live ws b ≡ true) {p : Bool} (p-is : p ≡ ok r (params b)) where
  pub live_params : p ≡ false → false ≡ every ok r (block_rows ws b)
  live_params e = sym (every-live ok ws r b live ∙ rw (← p-is, e))

  module _ {q : Bool} (q-is : q ≡ every ok (r + 1) (instr_rows (first_instr ws b) (instr_count ws b))) (passed : p ≡ true) where
    pub live_instrs : q ≡ false → false ≡ every ok r (block_rows ws b)
    live_instrs e = sym (every-live ok ws r b live ∙ rw (← p-is, passed, ← q-is, e))

    pub live_term : {x : Bool} → x ≡ ok (r + 1 + instr_count ws b) (term b) → q ≡ true → x ≡ every ok r (block_rows ws b)
    live_term is e = is ∙ sym (every-live ok ws r b live ∙ rw (← p-is, passed, ← q-is, e))

-- ---- a check of one instruction after the other, and of one block after the other

-- The instructions from the j-th on decide the answer x, and y is the answer of the first of them.
abbrev pub InstrsLeft : (ℕ → Row → Bool) → ℕ → ℕ → ℕ → Bool → ℕ → Type 0
InstrsLeft ok r i n x j = every ok (r + j) (instr_rows (i + j) (n - j)) ≡ x

pub instrs_start : (ok : ℕ → Row → Bool) (r i n : ℕ) → InstrsLeft ok r i n (every ok r (instr_rows i n)) 0
instrs_start ok r i n =
    let a : r + 0 ≡ r = omega arith in
    let b : i + 0 ≡ i = omega arith in
    let c : n - 0 ≡ n = omega arith in
    rw (a, b, c)

module _ (ok : ℕ → Row → Bool) (r i n : ℕ) (x : Bool) (j : ℕ) where
  instrs_next : j < n
      → every ok (r + j) (instr_rows (i + j) (n - j))
      ≡ both (ok (r + j) (instr (i + j))) (every ok (r + (j + 1)) (instr_rows (i + (j + 1)) (n - (j + 1))))
  unfolding every
  instrs_next h = let a : r + j + 1 ≡ r + (j + 1) = omega arith in rw (instrs_turn i n j h, a)

  pub instrs_go : {y : Bool} → j < n → y ≡ ok (r + j) (instr (i + j)) → y ≡ true → InstrsLeft ok r i n x j → InstrsLeft ok r i n x (j + 1)
  instrs_go h is e l = sym (instrs_next h ∙ rw (← is, e)) ∙ l

  pub instrs_stop : {y : Bool} → j < n → y ≡ ok (r + j) (instr (i + j)) → y ≡ false → InstrsLeft ok r i n x j → false ≡ x
  instrs_stop h is e l = sym (instrs_next h ∙ rw (← is, e)) ∙ l

  pub instrs_done : n ≤ j → InstrsLeft ok r i n x j → true ≡ x
  unfolding every
  instrs_done h l = sym (rw (instrs_end i n j h)) ∙ l

-- The blocks from b up to n, of which the first row is r, decide the answer x, and y is the answer of the first of them.
abbrev pub BlocksLeft : (ℕ → Row → Bool) → List ℕ → ℕ → Bool → ℕ → ℕ → Type 0
BlocksLeft ok ws n x r b = every ok r (rows_from ws b (n - b)) ≡ x

pub blocks_start : (ok : ℕ → Row → Bool) (ws : List ℕ) (n : ℕ) → BlocksLeft ok ws n (every ok 0 (rows_from ws 0 n)) 0 0
blocks_start ok ws n = let e : n - 0 ≡ n = omega arith in rw e

module _ (ok : ℕ → Row → Bool) (ws : List ℕ) (n : ℕ) (x : Bool) (r b : ℕ) where
  blocks-next : b < n
      → every ok r (rows_from ws b (n - b))
      ≡ both (every ok r (block_rows ws b)) (every ok (r + length (block_rows ws b)) (rows_from ws (b + 1) (n - (b + 1))))
  blocks-next h = rw (blocks-turn ws n b h) (every_append ok r (block_rows ws b) (rows_from ws (b + 1) (n - (b + 1))))

  pub blocks_go : {y : Bool} → b < n → y ≡ every ok r (block_rows ws b) → y ≡ true → BlocksLeft ok ws n x r b
      → BlocksLeft ok ws n x (r + length (block_rows ws b)) (b + 1)
  blocks_go h is e l = sym (blocks-next h ∙ rw (← is, e)) ∙ l

  pub blocks-stop : {y : Bool} → b < n → y ≡ every ok r (block_rows ws b) → y ≡ false → BlocksLeft ok ws n x r b → false ≡ x
  blocks-stop h is e l = sym (blocks-next h ∙ rw (← is, e)) ∙ l

  pub blocks-done : n ≤ b → BlocksLeft ok ws n x r b → true ≡ x
  unfolding every
  blocks-done h l = sym (rw (blocks_end ws n b h)) ∙ l

-- where the rows of blocks pass, those of each block do
pub every-block : (ok : ℕ → Row → Bool) (ws : List ℕ) (r b n : ℕ) → every ok r (rows_from ws b n) ≡ true
    → (j : ℕ) → j < n → every ok (r + length (rows_from ws b j)) (block_rows ws (b + j)) ≡ true
unfolding rows_from
every-block ok ws r b zero e j h = absurd (omega arith)
every-block ok ws r b (suc n) e zero h =
    let p = every-parts ok r (block_rows ws b) (rows_from ws (b + 1) n) e in
    let q : r + 0 ≡ r = omega arith in
    let z : b + 0 ≡ b = omega arith in
    rw (q, z) p.0
every-block ok ws r b (suc n) e (suc j) h =
    let p = every-parts ok r (block_rows ws b) (rows_from ws (b + 1) n) e in
    let k : j < n = omega arith in
    let l = length-append (block_rows ws b) (rows_from ws (b + 1) j) in
    let q : r + length (block_rows ws b ++ rows_from ws (b + 1) j) ≡ r + length (block_rows ws b) + length (rows_from ws (b + 1) j) = omega arith in
    let z : b + suc j ≡ b + 1 + j = omega arith in
    rw (q, z) (every-block ok ws (r + length (block_rows ws b)) (b + 1) n p.1 j k)

-- ---- what rows give

module _ {A : Type 0} (g : ℕ → Row → List A) where
  pub over-append : (r : ℕ) (xs ys : List Row) → over_rows g r (xs ++ ys) ≡ over_rows g r xs ++ over_rows g (r + length xs) ys
  unfolding over_rows
  over-append r [] ys = let e : r + 0 ≡ r = omega arith in rw e
  over-append r (x ∷ xs) ys =
      let e : r + 1 + length xs ≡ r + suc (length xs) = omega arith in
      rw (over-append (r + 1) xs ys, e) (sym (append_assoc (g r x) (over_rows g (r + 1) xs) (over_rows g (r + suc (length xs)) ys)))

  pub over_instrs : (r i n j : ℕ) → j < n
      → over_rows g (r + j) (instr_rows (i + j) (n - j)) ≡ g (r + j) (instr (i + j)) ++ over_rows g (r + (j + 1)) (instr_rows (i + (j + 1)) (n - (j + 1)))
  unfolding over_rows
  over_instrs r i n j h = let a : r + j + 1 ≡ r + (j + 1) = omega arith in rw (instrs_turn i n j h, a)

  pub over_instrs_start : (r i n : ℕ) → over_rows g (r + 0) (instr_rows (i + 0) (n - 0)) ≡ over_rows g r (instr_rows i n)
  over_instrs_start r i n =
      let a : r + 0 ≡ r = omega arith in
      let b : i + 0 ≡ i = omega arith in
      let c : n - 0 ≡ n = omega arith in
      rw (a, b, c)

  pub over_instrs_end : (r i n j : ℕ) → n ≤ j → over_rows g (r + j) (instr_rows (i + j) (n - j)) ≡ []
  unfolding over_rows
  over_instrs_end r i n j h = rw (instrs_end i n j h)

  pub over-blocks-start : (ws : List ℕ) (n : ℕ) → over_rows g 0 (rows_from ws 0 (n - 0)) ≡ over_rows g 0 (rows_from ws 0 n)
  over-blocks-start ws n = let e : n - 0 ≡ n = omega arith in rw e

  pub over-blocks : (ws : List ℕ) (n r b : ℕ) → b < n
      → over_rows g r (rows_from ws b (n - b)) ≡ over_rows g r (block_rows ws b) ++ over_rows g (r + length (block_rows ws b)) (rows_from ws (b + 1) (n - (b + 1)))
  over-blocks ws n r b h = rw (blocks-turn ws n b h) (over-append r (block_rows ws b) (rows_from ws (b + 1) (n - (b + 1))))

  pub over-blocks-end : (ws : List ℕ) (n r b : ℕ) → n ≤ b → over_rows g r (rows_from ws b (n - b)) ≡ []
  unfolding over_rows
  over-blocks-end ws n r b h = rw (blocks_end ws n b h)

  pub over-dead : (ws : List ℕ) (r b : ℕ) → is_live ws b ≡ false → over_rows g r (block_rows ws b) ≡ []
  unfolding over_rows
  over-dead ws r b h = rw (rows-dead ws b h)

  pub over-live : (ws : List ℕ) (r b : ℕ) → is_live ws b ≡ true
      → over_rows g r (block_rows ws b)
      ≡ g r (params b) ++ (over_rows g (r + 1) (instr_rows (first_instr ws b) (instr_count ws b)) ++ g (r + 1 + instr_count ws b) (term b))
  unfolding over_rows
  over-live ws r b h =
      let n = instr_count ws b in
      let i = first_instr ws b in
      rw (
        rows-live ws b h,
        over-append (r + 1) (instr_rows i n) (term b ∷ []),
        length_instrs i n,
        append-nil (g (r + 1 + n) (term b)),
      )
