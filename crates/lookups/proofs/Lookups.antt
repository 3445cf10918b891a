-- Lookup tables: each instruction's head or slots in turn, block by block, and each entry of a table.
use mathlib.Core.Path.{◌≡◌, refl, sym, ap, ◌∙◌}
use mathlib.Core.Bool.{Bool, true, false}
use Prim.Native.Nat.{ℕ, suc, ◌+◌, ◌*◌, ◌-◌, ◌%◌, ◌^◌, ◌≤◌, ◌<◌}
use mathlib.Core.List.{List, [], ◌∷◌, ◌++◌, append-nil, append_assoc}
use native.Mathlib.Omega.{arith}
use native.Mathlib.Nat.{add-zero}
use borrow.Author.Tests.{eq-eqb}
use lib.Dec.{eqb}
use lib.ListN.{set}
use Rattle.base.specs.Choice.{pick}
use Rattle.grow.specs.declared.End.{End}
use Rattle.grow.specs.Growing.{Grows}
use Rattle.grow.proofs.Growing.{Left, left-turn, left_end, then, renamed}
use Rattle.input.specs.Records.{is_live, first_instr, instr_count, instr_kind, instr_x, instr_y, lookup, constant_kind, payload_of}
use Rattle.fit.specs.Keys.{ranked, smallest}
use Rattle.lookups.specs.declared.Part.{Part}
use Rattle.lookups.specs.declared.Part.TheVariants.{Heads, Values}
use Rattle.lookups.specs.Part.{instr_by, instrs_by, blocks_by}
use Rattle.tables.specs.Tables.{first_key, slot_count, slot_for, entry_keys, default_of, lookup_head, filled, store_entries, lookup_slots, lookup_heads, lookup_values, slots_in, blocks_heads, blocks_values}

-- ---- the slots of one table

-- one constant after another
abbrev pub FilledLeft : ℕ → ℕ → ℕ → List ℕ → End → ℕ → List ℕ → End → Type 0
FilledLeft kind payload n b e i b' e' = Left (λ l. l ++ filled kind payload (n - i)) (λ l. l ++ filled kind payload n) b e b' e'

pub filled-turn : {b b' b'' b''' : List ℕ} {e e' e'' e''' : End} (kind payload n i : ℕ) → i < n → FilledLeft kind payload n b e i b' e'
    → Grows (λ l. l ++ (kind ∷ [])) b' e' b'' e'' → Grows (λ l. l ++ (payload ∷ [])) b'' e'' b''' e''' → FilledLeft kind payload n b e (i + 1) b''' e'''
unfolding filled
filled-turn kind payload n i h s t u =
    let k : n - i ≡ suc (n - (i + 1)) = omega arith in
    left-turn (λ l. l ++ filled kind payload (n - (i + 1))) s (then t u)
    (λ l. ap (λ (m : ℕ). l ++ filled kind payload m) k
    ∙ sym (append_assoc (l ++ (kind ∷ [])) (payload ∷ []) (filled kind payload (n - (i + 1)))
    ∙ append_assoc l (kind ∷ []) (payload ∷ filled kind payload (n - (i + 1)))))

pub filled-end : {b b' : List ℕ} {e e' : End} (kind payload n i : ℕ) → n ≤ i → FilledLeft kind payload n b e i b' e'
    → Grows (λ l. l ++ filled kind payload n) b e b' e'
unfolding filled
filled-end kind payload n i h s =
    let k : n - i ≡ 0 = omega arith in
    left_end s (λ l. ap (λ (m : ℕ). l ++ filled kind payload m) k ∙ append-nil l)

-- the constant behind the key c in a slot
abbrev pub entry_stored : List ℕ → ℕ → ℕ → ℕ → List ℕ → List ℕ
entry_stored ws start slot c l = set (set l (2 * (start + slot)) (constant_kind ws (c + 1))) (2 * (start + slot) + 1) (payload_of ws (c + 1))

module _ (ws keys : List ℕ) (start : ℕ) where
  -- the entries from the j-th on are left
  abbrev pub EntriesLeft : ℕ → ℕ → List ℕ → End → ℕ → List ℕ → End → Type 0
  EntriesLeft c n b e j b' e' = Left (store_entries ws keys start (c + 2 * j) (n - j)) (store_entries ws keys start c n) b e b' e'

  module _ (c n : ℕ) {b b' : List ℕ} {e e' : End} (j : ℕ) (s : EntriesLeft c n b e j b' e') where
    pub entries-turn : {b'' : List ℕ} {e'' : End} (slot : ℕ) → j < n → slot ≡ ranked ws (c + 2 * j) - smallest ws keys
        → Grows (entry_stored ws start slot (c + 2 * j)) b' e' b'' e''
        → EntriesLeft c n b e (j + 1) b'' e''
    unfolding store_entries slot_for
    entries-turn slot h at t =
        let k : n - j ≡ suc (n - (j + 1)) = omega arith in
        let x : c + 2 * j + 2 ≡ c + 2 * (j + 1) = omega arith in
        left-turn (store_entries ws keys start (c + 2 * (j + 1)) (n - (j + 1))) s t
        (λ l. ap (λ (m : ℕ). store_entries ws keys start (c + 2 * j) m l) k
        ∙ ap (λ (m : ℕ). store_entries ws keys start m (n - (j + 1)) (entry_stored ws start (ranked ws (c + 2 * j) - smallest ws keys) (c + 2 * j) l)) x
        ∙ ap (λ (m : ℕ). store_entries ws keys start (c + 2 * (j + 1)) (n - (j + 1)) (entry_stored ws start m (c + 2 * j) l)) (sym at))

    pub entries-end : n ≤ j → Grows (store_entries ws keys start c n) b e b' e'
    unfolding store_entries
    entries-end h =
        let k : n - j ≡ 0 = omega arith in
        left_end s (λ l. ap (λ (m : ℕ). store_entries ws keys start (c + 2 * j) m l) k)

-- the default's constant everywhere, then each entry's
pub lookup-filled : {b b' b'' : List ℕ} {e e' e'' : End} (ws : List ℕ) (i start n : ℕ) → n ≡ slot_count ws (entry_keys ws i)
    → Grows (λ l. l ++ filled (constant_kind ws (default_of ws i)) (payload_of ws (default_of ws i)) n) b e b' e'
    → Grows (store_entries ws (entry_keys ws i) start (instr_x ws i) (instr_y ws i)) b' e' b'' e'' → Grows (lookup_slots ws start i) b e b'' e''
unfolding lookup_slots
lookup-filled ws i start n is s t = renamed (then s t) (λ l. rw is)

-- ---- one instruction

module _ (ws : List ℕ) (i start : ℕ) (h : instr_kind ws i ≡ lookup) where
  pub lookup_headed : {b b' : List ℕ} {e e' : End} (low n : ℕ) (part : Part) → part ≡ Heads
      → low ≡ smallest ws (entry_keys ws i) → n ≡ slot_count ws (entry_keys ws i)
      → Grows (λ l. l ++ (((low + 2 ^ 63) % 2 ^ 64) ∷ start ∷ n ∷ constant_kind ws (default_of ws i) ∷ payload_of ws (default_of ws i) ∷ [])) b e b' e'
      → Grows (λ l. pick (eqb (instr_kind ws i) lookup) (instr_by part ws start i l) l) b e b' e'
  unfolding first_key
  lookup_headed low n part t l-is n-is s = renamed s (λ l. rw (eq-eqb (instr_kind ws i) lookup h, t, l-is, n-is))

  pub lookup_slotted : {b b' : List ℕ} {e e' : End} (part : Part) → part ≡ Values → Grows (lookup_slots ws start i) b e b' e'
      → Grows (λ l. pick (eqb (instr_kind ws i) lookup) (instr_by part ws start i l) l) b e b' e'
  lookup_slotted part t s = renamed s (λ l. rw (eq-eqb (instr_kind ws i) lookup h, t))

-- ---- instructions in turn

instrs_none : (part : Part) (ws : List ℕ) (start i : ℕ) (l : List ℕ) → instrs_by part ws start i 0 l ≡ l
unfolding lookup_heads lookup_values
instrs_none Heads ws start i l = refl
instrs_none Values ws start i l = refl

heads_case : (ws : List ℕ) (start s i k : ℕ) (l l' : List ℕ) (t : Bool)
    → pick t (lookup_heads ws (start + s) i k l') (lookup_heads ws start i k l) ≡ lookup_heads ws (start + pick t s 0) i k (pick t l' l)
heads_case ws start s i k l l' true = refl
heads_case ws start s i k l l' false = ap (λ (n : ℕ). lookup_heads ws n i k l) (sym (add-zero start))

values_case : (ws : List ℕ) (start s i k : ℕ) (l l' : List ℕ) (t : Bool)
    → pick t (lookup_values ws (start + s) i k l') (lookup_values ws start i k l) ≡ lookup_values ws (start + pick t s 0) i k (pick t l' l)
values_case ws start s i k l l' true = refl
values_case ws start s i k l l' false = ap (λ (n : ℕ). lookup_values ws n i k l) (sym (add-zero start))

instrs_some : (part : Part) (ws : List ℕ) (start i k : ℕ) (l : List ℕ)
    → instrs_by part ws start i (suc k) l
    ≡ instrs_by part ws (start + pick (eqb (instr_kind ws i) lookup) (slot_count ws (entry_keys ws i)) 0) (i + 1) k
    (pick (eqb (instr_kind ws i) lookup) (instr_by part ws start i l) l)
unfolding lookup_heads lookup_values
instrs_some Heads ws start i k l =
    heads_case ws start (slot_count ws (entry_keys ws i)) (i + 1) k l (l ++ lookup_head ws i start) (eqb (instr_kind ws i) lookup)
instrs_some Values ws start i k l =
    values_case ws start (slot_count ws (entry_keys ws i)) (i + 1) k l (lookup_slots ws start i l) (eqb (instr_kind ws i) lookup)

-- the instructions from the i-th on are left
abbrev pub InstrsLeft : Part → List ℕ → ℕ → ℕ → ℕ → List ℕ → End → ℕ → ℕ → List ℕ → End → Type 0
InstrsLeft part ws start first n b e next i b' e' = Left (instrs_by part ws next i (first + n - i)) (instrs_by part ws start first n) b e b' e'

-- and so many slots of theirs
abbrev pub SlotsLeft : List ℕ → ℕ → ℕ → ℕ → ℕ → ℕ → Type 0
SlotsLeft ws start first n next i = (next ≤ start + 4096 * (i - first)) × (next + slots_in ws i (first + n - i) ≡ start + slots_in ws first n)

module _ (part : Part) (ws : List ℕ) (start first n : ℕ) {b b' : List ℕ} {e e' : End} (next i : ℕ)
    (s : InstrsLeft part ws start first n b e next i b' e') where
  pub instrs_turn : {b'' : List ℕ} {e'' : End} (next' : ℕ) → i < first + n
      → next' ≡ next + pick (eqb (instr_kind ws i) lookup) (slot_count ws (entry_keys ws i)) 0
      → Grows (λ l. pick (eqb (instr_kind ws i) lookup) (instr_by part ws next i l) l) b' e' b'' e''
      → InstrsLeft part ws start first n b e next' (i + 1) b'' e''
  instrs_turn next' h is t =
      let k : first + n - i ≡ suc (first + n - (i + 1)) = omega arith in
      left-turn (instrs_by part ws next' (i + 1) (first + n - (i + 1))) s t
      (λ l. ap (λ (m : ℕ). instrs_by part ws next i m l) k
      ∙ instrs_some part ws next i (first + n - (i + 1)) l
      ∙ ap (λ (m : ℕ). instrs_by part ws m (i + 1) (first + n - (i + 1)) (pick (eqb (instr_kind ws i) lookup) (instr_by part ws next i l) l)) (sym is))

  pub instrs_end : first + n ≤ i → Grows (instrs_by part ws start first n) b e b' e'
  instrs_end h =
      let k : first + n - i ≡ 0 = omega arith in
      left_end s (λ l. ap (λ (m : ℕ). instrs_by part ws next i m l) k ∙ instrs_none part ws next i l)

module _ (ws : List ℕ) (start first n next i : ℕ) (s : SlotsLeft ws start first n next i) where
  pub slots_turn : (next' : ℕ) → first ≤ i → i < first + n → next' ≡ next + pick (eqb (instr_kind ws i) lookup) (slot_count ws (entry_keys ws i)) 0
      → next' ≤ next + 4096 → SlotsLeft ws start first n next' (i + 1)
  unfolding slots_in
  slots_turn next' g h is most =
      let k : first + n - i ≡ suc (first + n - (i + 1)) = omega arith in
      let p : slots_in ws i (first + n - i)
      ≡ pick (eqb (instr_kind ws i) lookup) (slot_count ws (entry_keys ws i)) 0 + slots_in ws (i + 1) (first + n - (i + 1)) =
      ap (slots_in ws i) k in
      (omega (arith, s.0), omega (arith, s.1, p))

  pub slots_end : first + n ≤ i → i ≤ first + n → (next ≡ start + slots_in ws first n) × (next ≤ start + 4096 * n)
  unfolding slots_in
  slots_end h h' =
      let k : first + n - i ≡ 0 = omega arith in
      let z : slots_in ws i (first + n - i) ≡ 0 = ap (slots_in ws i) k in
      (omega (arith, s.1), omega (arith, s.0))

-- ---- blocks in turn

-- what block b adds
abbrev pub block_by : Part → List ℕ → ℕ → ℕ → List ℕ → List ℕ
block_by part ws start b l = pick (is_live ws b) (instrs_by part ws start (first_instr ws b) (instr_count ws b) l) l

blocks_none : (part : Part) (ws : List ℕ) (start b : ℕ) (l : List ℕ) → blocks_by part ws start b 0 l ≡ l
unfolding blocks_heads blocks_values
blocks_none Heads ws start b l = refl
blocks_none Values ws start b l = refl

block_heads_case : (ws : List ℕ) (start s b k : ℕ) (l l' : List ℕ) (t : Bool)
    → pick t (blocks_heads ws (start + s) b k l') (blocks_heads ws start b k l) ≡ blocks_heads ws (start + pick t s 0) b k (pick t l' l)
block_heads_case ws start s b k l l' true = refl
block_heads_case ws start s b k l l' false = ap (λ (n : ℕ). blocks_heads ws n b k l) (sym (add-zero start))

block-values_case : (ws : List ℕ) (start s b k : ℕ) (l l' : List ℕ) (t : Bool)
    → pick t (blocks_values ws (start + s) b k l') (blocks_values ws start b k l) ≡ blocks_values ws (start + pick t s 0) b k (pick t l' l)
block-values_case ws start s b k l l' true = refl
block-values_case ws start s b k l l' false = ap (λ (n : ℕ). blocks_values ws n b k l) (sym (add-zero start))

blocks-some : (part : Part) (ws : List ℕ) (start b k : ℕ) (l : List ℕ)
    → blocks_by part ws start b (suc k) l
    ≡ blocks_by part ws (start + pick (is_live ws b) (slots_in ws (first_instr ws b) (instr_count ws b)) 0) (b + 1) k (block_by part ws start b l)
unfolding blocks_heads blocks_values
blocks-some Heads ws start b k l =
    block_heads_case ws start (slots_in ws (first_instr ws b) (instr_count ws b)) (b + 1) k l
    (lookup_heads ws start (first_instr ws b) (instr_count ws b) l) (is_live ws b)
blocks-some Values ws start b k l =
    block-values_case ws start (slots_in ws (first_instr ws b) (instr_count ws b)) (b + 1) k l
    (lookup_values ws start (first_instr ws b) (instr_count ws b) l) (is_live ws b)

-- the blocks from b on are left
abbrev pub BlocksLeft : Part → List ℕ → ℕ → ℕ → List ℕ → End → ℕ → ℕ → List ℕ → End → Type 0
BlocksLeft part ws used n buf e start b buf' e' = Left (blocks_by part ws start b (n - b)) (blocks_by part ws used 0 n) buf e buf' e'

module _ (part : Part) (ws : List ℕ) (used n : ℕ) {buf buf' : List ℕ} {e e' : End} (start b : ℕ)
    (s : BlocksLeft part ws used n buf e start b buf' e') where
  pub blocks-turn : {buf'' : List ℕ} {e'' : End} (next : ℕ) → b < n
      → next ≡ start + pick (is_live ws b) (slots_in ws (first_instr ws b) (instr_count ws b)) 0
      → Grows (block_by part ws start b) buf' e' buf'' e'' → BlocksLeft part ws used n buf e next (b + 1) buf'' e''
  blocks-turn next h is t =
      let k : n - b ≡ suc (n - (b + 1)) = omega arith in
      left-turn (blocks_by part ws next (b + 1) (n - (b + 1))) s t
      (λ l. ap (λ (m : ℕ). blocks_by part ws start b m l) k
      ∙ blocks-some part ws start b (n - (b + 1)) l
      ∙ ap (λ (m : ℕ). blocks_by part ws m (b + 1) (n - (b + 1)) (block_by part ws start b l)) (sym is))

  pub blocks_end : n ≤ b → Grows (blocks_by part ws used 0 n) buf e buf' e'
  blocks_end h =
      let k : n - b ≡ 0 = omega arith in
      left_end s (λ l. ap (λ (m : ℕ). blocks_by part ws start b m l) k ∙ blocks_none part ws start b l)
