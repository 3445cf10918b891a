-- Switch tables: each block's head and slots in turn, and each case of a table.
use Rattle.std.proofs.Common.{◌≡◌, ℕ, zero, suc, ◌+◌, ◌-◌, ◌*◌, ◌%◌, ◌^◌, ◌<◌, ◌≤◌, Bool, true, false, eqb, List, [], ◌∷◌, ◌++◌, set, replicate, sym, refl, ap, ◌∙◌, append-nil, add-zero, arith, eqb-true}
use lib.Seq.{append_snoc}
use Rattle.base.specs.Choice.{pick}
use Rattle.grow.specs.declared.End.{End}
use Rattle.grow.specs.Growing.{Grows}
use Rattle.grow.proofs.Growing.{Left, left-turn, left_end, then, renamed}
use Rattle.input.specs.Layout.{blocks}
use Rattle.input.specs.Records.{is_live, term_kind, term_x, term_y, first_edge, edge_target, switch}
use Rattle.fit.specs.Keys.{ranked, smallest}
use Rattle.ready.specs.Ready.{Ready, Live, KeysReady}
use Rattle.edges.specs.Edges.{has_moves, pad_count}
use Rattle.tables.specs.Tables.{first_key, slot_count, slot_for, case_keys, switch_head, store_cases, switch_slots, has_switch, switch_heads, switch_targets}
use Rattle.tables.proofs.Ranges.{few_slots}

-- ---- a block with a Switch

switch-parts : (live : Bool) (kind : ℕ) → pick live (eqb kind switch) false ≡ true → (live ≡ true) × (kind ≡ switch)
switch-parts true kind h = (refl, eqb-true kind switch h)
switch-parts false kind h = let z : ◌≡◌ {A = ℕ} 0 1 = cc in absurd (omega arith)

module _ {ws : List ℕ} (k : Ready ws) (b : ℕ) (there : b < blocks ws) where
  switch-live : has_switch ws b ≡ true → Live ws b
  switch-live h = record { there = there; is = (switch-parts (is_live ws b) (term_kind ws b) h).0 }

  switch_kind : has_switch ws b ≡ true → term_kind ws b ≡ switch
  switch_kind h = (switch-parts (is_live ws b) (term_kind ws b) h).1

  pub switch-keys : has_switch ws b ≡ true → KeysReady ws 1 (term_x ws b) (term_y ws b)
  switch-keys h = k.cases b (switch-live h) (switch_kind h)

  -- what a block adds to the slots and to the pads
  pub switch_slots_few : pick (has_switch ws b) (slot_count ws (case_keys ws b)) 0 ≤ 4096
  switch_slots_few = go (has_switch ws b) switch-keys
    where
      go : (t : Bool) → (t ≡ true → KeysReady ws 1 (term_x ws b) (term_y ws b)) → pick t (slot_count ws (case_keys ws b)) 0 ≤ 4096
      go true r = few_slots (r refl)
      go false r = omega arith

pub pads_most : (ws map : List ℕ) (e n : ℕ) → pad_count ws map e n ≤ n
unfolding pad_count
pads_most ws map e zero = omega arith
pads_most ws map e (suc n) = go (has_moves ws map e) (pads_most ws map (e + 1) n)
  where
    go : (t : Bool) → pad_count ws map (e + 1) n ≤ n → pick t 1 0 + pad_count ws map (e + 1) n ≤ suc n
    go true h = omega arith
    go false h = omega arith

pub switch-pads_few : {ws : List ℕ} (map : List ℕ) (b : ℕ) → Ready ws → b < blocks ws
    → pick (has_switch ws b) (pad_count ws map (first_edge ws b) (term_y ws b)) 0 ≤ 1024
switch-pads_few {ws} map b k there = go (has_switch ws b) (switch-keys k b there)
  where
    go : (t : Bool) → (t ≡ true → KeysReady ws 1 (term_x ws b) (term_y ws b)) → pick t (pad_count ws map (first_edge ws b) (term_y ws b)) 0 ≤ 1024
    go true r = omega (arith, pads_most ws map (first_edge ws b) (term_y ws b), (r refl).few)
    go false r = omega arith

-- ---- heads

module _ (ws : List ℕ) (b start : ℕ) (h : has_switch ws b ≡ true) where
  pub head-some : {buf buf' : List ℕ} {e e' : End} (low n : ℕ) → low ≡ smallest ws (case_keys ws b) → n ≡ slot_count ws (case_keys ws b)
      → Grows (λ l. l ++ (((low + 2 ^ 63) % 2 ^ 64) ∷ start ∷ n ∷ [])) buf e buf' e'
      → Grows (λ l. pick (has_switch ws b) (l ++ switch_head ws b start) l) buf e buf' e'
  unfolding first_key
  head-some low n l-is n-is s = renamed s (λ l. rw (h, l-is, n-is))

heads_case : (ws : List ℕ) (start s b k : ℕ) (head l : List ℕ) (t : Bool)
    → pick t (switch_heads ws (start + s) b k (l ++ head)) (switch_heads ws start b k l) ≡ switch_heads ws (start + pick t s 0) b k (pick t (l ++ head) l)
heads_case ws start s b k head l true = refl
heads_case ws start s b k head l false = ap (λ (n : ℕ). switch_heads ws n b k l) (sym (add-zero start))

-- the heads from block b on are left
abbrev pub HeadsLeft : List ℕ → ℕ → ℕ → List ℕ → End → ℕ → ℕ → List ℕ → End → Type 0
HeadsLeft ws used n buf e start b buf' e' = Left (switch_heads ws start b (n - b)) (switch_heads ws used 0 n) buf e buf' e'

module _ (ws : List ℕ) (used n : ℕ) {buf buf' : List ℕ} {e e' : End} (start b : ℕ) (s : HeadsLeft ws used n buf e start b buf' e') where
  pub heads_turn : {buf'' : List ℕ} {e'' : End} (next : ℕ) → b < n → next ≡ start + pick (has_switch ws b) (slot_count ws (case_keys ws b)) 0
      → Grows (λ l. pick (has_switch ws b) (l ++ switch_head ws b start) l) buf' e' buf'' e'' → HeadsLeft ws used n buf e next (b + 1) buf'' e''
  unfolding switch_heads
  heads_turn next h is t =
      let k : n - b ≡ suc (n - (b + 1)) = omega arith in
      left-turn (switch_heads ws next (b + 1) (n - (b + 1))) s t
      (λ l. ap (λ (m : ℕ). switch_heads ws start b m l) k
      ∙ heads_case ws start (slot_count ws (case_keys ws b)) (b + 1) (n - (b + 1)) (switch_head ws b start) l (has_switch ws b)
      ∙ ap (λ (m : ℕ). switch_heads ws m (b + 1) (n - (b + 1)) (pick (has_switch ws b) (l ++ switch_head ws b start) l)) (sym is))

  pub heads_end : n ≤ b → Grows (switch_heads ws used 0 n) buf e buf' e'
  unfolding switch_heads
  heads_end h = let k : n - b ≡ 0 = omega arith in left_end s (λ l. ap (λ (m : ℕ). switch_heads ws start b m l) k)

-- ---- slots

-- one target after another
abbrev pub SameLeft : ℕ → ℕ → List ℕ → End → ℕ → List ℕ → End → Type 0
SameLeft x n buf e i buf' e' = Left (λ l. l ++ replicate (n - i) x) (λ l. l ++ replicate n x) buf e buf' e'

pub same_turn : {buf buf' buf'' : List ℕ} {e e' e'' : End} (x n i : ℕ) → i < n → SameLeft x n buf e i buf' e'
    → Grows (λ l. l ++ (x ∷ [])) buf' e' buf'' e'' → SameLeft x n buf e (i + 1) buf'' e''
same_turn x n i h s t =
    let k : n - i ≡ suc (n - (i + 1)) = omega arith in
    left-turn (λ l. l ++ replicate (n - (i + 1)) x) s t
    (λ l. ap (λ (m : ℕ). l ++ replicate m x) k ∙ sym (append_snoc l x (replicate (n - (i + 1)) x)))

pub same_end : {buf buf' : List ℕ} {e e' : End} (x n i : ℕ) → n ≤ i → SameLeft x n buf e i buf' e' → Grows (λ l. l ++ replicate n x) buf e buf' e'
same_end x n i h s =
    let k : n - i ≡ 0 = omega arith in
    left_end s (λ l. ap (λ (m : ℕ). l ++ replicate m x) k ∙ append-nil l)

module _ (ws map keys : List ℕ) (start : ℕ) where
  cases_case : (label c e k i target : ℕ) (l : List ℕ) (t : Bool)
      → pick t (store_cases ws map keys start (label + 1) c e k (set l i label)) (store_cases ws map keys start label c e k (set l i target))
      ≡ store_cases ws map keys start (label + pick t 1 0) c e k (set l i (pick t label target))
  cases_case label c e k i target l true = refl
  cases_case label c e k i target l false =
      ap (λ (m : ℕ). store_cases ws map keys start m c e k (set l i target)) (sym (add-zero label))

  -- the cases from the j-th on are left
  abbrev pub CasesLeft : ℕ → ℕ → ℕ → ℕ → List ℕ → End → ℕ → ℕ → List ℕ → End → Type 0
  CasesLeft label c edge n buf e next j buf' e' =
      Left (store_cases ws map keys start next (c + j) (edge + j) (n - j)) (store_cases ws map keys start label c edge n) buf e buf' e'

  module _ (label c edge n : ℕ) {buf buf' : List ℕ} {e e' : End} (next j : ℕ) (s : CasesLeft label c edge n buf e next j buf' e') where
    pub cases-turn : {buf'' : List ℕ} {e'' : End} (then' slot : ℕ) → j < n → then' ≡ next + pick (has_moves ws map (edge + j)) 1 0
        → slot ≡ ranked ws (c + j) - smallest ws keys
        → Grows (λ l. set l (start + slot) (pick (has_moves ws map (edge + j)) next (edge_target ws (edge + j)))) buf' e' buf'' e''
        → CasesLeft label c edge n buf e then' (j + 1) buf'' e''
    unfolding store_cases slot_for
    cases-turn then' slot h is at t =
        let k : n - j ≡ suc (n - (j + 1)) = omega arith in
        let x : c + j + 1 ≡ c + (j + 1) = omega arith in
        let y : edge + j + 1 ≡ edge + (j + 1) = omega arith in
        left-turn (store_cases ws map keys start then' (c + (j + 1)) (edge + (j + 1)) (n - (j + 1))) s t
        (λ l. ap (λ (m : ℕ). store_cases ws map keys start next (c + j) (edge + j) m l) k
        ∙ cases_case next (c + j + 1) (edge + j + 1) (n - (j + 1)) (start + (ranked ws (c + j) - smallest ws keys)) (edge_target ws (edge + j)) l
        (has_moves ws map (edge + j))
        ∙ rw (x, y, ← is, ← at))

    pub cases_end : n ≤ j → Grows (store_cases ws map keys start label c edge n) buf e buf' e'
    unfolding store_cases
    cases_end h =
        let k : n - j ≡ 0 = omega arith in
        left_end s (λ l. ap (λ (m : ℕ). store_cases ws map keys start next (c + j) (edge + j) m l) k)

-- the pads of the cases from the j-th on
abbrev pub PadsLeft : List ℕ → List ℕ → ℕ → ℕ → ℕ → ℕ → ℕ → Type 0
PadsLeft ws map label edge n next j =
    (next ≤ label + j) × (next + pad_count ws map (edge + j) (n - j) ≡ label + pad_count ws map edge n)

module _ (ws map : List ℕ) (label edge n next j : ℕ) (s : PadsLeft ws map label edge n next j) where
  pub pads-turn : (then' : ℕ) → j < n → then' ≡ next + pick (has_moves ws map (edge + j)) 1 0 → PadsLeft ws map label edge n then' (j + 1)
  unfolding pad_count
  pads-turn then' h is =
      let k : n - j ≡ suc (n - (j + 1)) = omega arith in
      let y : edge + j + 1 ≡ edge + (j + 1) = omega arith in
      let p : pad_count ws map (edge + j) (n - j) ≡ pick (has_moves ws map (edge + j)) 1 0 + pad_count ws map (edge + (j + 1)) (n - (j + 1)) =
      ap (pad_count ws map (edge + j)) k ∙ rw y in
      let one : pick (has_moves ws map (edge + j)) 1 0 ≤ 1 = go (has_moves ws map (edge + j)) in
      (omega (arith, s.0), omega (arith, s.1, p))
    where
      go : (t : Bool) → pick t 1 0 ≤ 1
      go true = omega arith
      go false = omega arith

  pub pads-end : n ≤ j → next ≡ label + pad_count ws map edge n
  unfolding pad_count
  pads-end h =
      let k : n - j ≡ 0 = omega arith in
      let z : pad_count ws map (edge + j) (n - j) ≡ 0 = ap (pad_count ws map (edge + j)) k in
      omega (arith, s.1)

-- a block's slots: the default's, then each case's
pub table-some : {buf buf' buf'' : List ℕ} {e e' e'' : End} (ws map : List ℕ) (b start label n : ℕ)
    → has_switch ws b ≡ true → n ≡ slot_count ws (case_keys ws b)
    → Grows (λ l. l ++ replicate n (edge_target ws (first_edge ws b + term_y ws b))) buf e buf' e'
    → Grows (store_cases ws map (case_keys ws b) start label (term_x ws b) (first_edge ws b) (term_y ws b)) buf' e' buf'' e''
    → Grows (λ l. pick (has_switch ws b) (switch_slots ws map start label b l) l) buf e buf'' e''
unfolding switch_slots
table-some ws map b start label n h is s t = renamed (then s t) (λ l. rw (h, is))

targets_case : (ws map : List ℕ) (start s label p b k : ℕ) (l l' : List ℕ) (t : Bool)
    → pick t (switch_targets ws map (start + s) (label + p) b k l') (switch_targets ws map start label b k l)
    ≡ switch_targets ws map (start + pick t s 0) (label + pick t p 0) b k (pick t l' l)
targets_case ws map start s label p b k l l' true = refl
targets_case ws map start s label p b k l l' false =
    let x : start + 0 ≡ start = add-zero start in
    let y : label + 0 ≡ label = add-zero label in
    rw (x, y)

-- the slots from block b on are left
abbrev pub TargetsLeft : List ℕ → List ℕ → ℕ → ℕ → List ℕ → End → ℕ → ℕ → ℕ → List ℕ → End → Type 0
TargetsLeft ws map used n buf e start label b buf' e' =
    Left (switch_targets ws map start label b (n - b)) (switch_targets ws map used (2 * n) 0 n) buf e buf' e'

module _ (ws map : List ℕ) (used n : ℕ) {buf buf' : List ℕ} {e e' : End} (start label b : ℕ)
    (s : TargetsLeft ws map used n buf e start label b buf' e') where
  pub targets_turn : {buf'' : List ℕ} {e'' : End} (next next' : ℕ) → b < n
      → next ≡ start + pick (has_switch ws b) (slot_count ws (case_keys ws b)) 0
      → next' ≡ label + pick (has_switch ws b) (pad_count ws map (first_edge ws b) (term_y ws b)) 0
      → Grows (λ l. pick (has_switch ws b) (switch_slots ws map start label b l) l) buf' e' buf'' e''
      → TargetsLeft ws map used n buf e next next' (b + 1) buf'' e''
  unfolding switch_targets
  targets_turn next next' h is is' t =
      let k : n - b ≡ suc (n - (b + 1)) = omega arith in
      left-turn (switch_targets ws map next next' (b + 1) (n - (b + 1))) s t
      (λ l. ap (λ (m : ℕ). switch_targets ws map start label b m l) k
      ∙ targets_case ws map start (slot_count ws (case_keys ws b)) label (pad_count ws map (first_edge ws b) (term_y ws b)) (b + 1) (n - (b + 1)) l
      (switch_slots ws map start label b l) (has_switch ws b)
      ∙ rw (← is, ← is'))

  pub targets_end : n ≤ b → Grows (switch_targets ws map used (2 * n) 0 n) buf e buf' e'
  unfolding switch_targets
  targets_end h = let k : n - b ≡ 0 = omega arith in left_end s (λ l. ap (λ (m : ℕ). switch_targets ws map start label b m l) k)
