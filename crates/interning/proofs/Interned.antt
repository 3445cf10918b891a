-- The passes that intern constants and builtins: each thing in turn, and which constants of the words a row has.
use mathlib.Core.Path.{◌≡◌, refl, ap}
use mathlib.Core.Logic.{◌≢◌}
use mathlib.Core.Bool.{Bool}
use Prim.Native.Nat.{ℕ, suc, ◌+◌, ◌*◌, ◌-◌, ◌≤◌, ◌<◌}
use mathlib.Core.List.{List, [], ◌∷◌, ◌++◌}
use native.Mathlib.Omega.{arith}
use borrow.Author.Tests.{eq-eqb, ne_eqb}
use Rattle.base.specs.Choice.{pick}
use Rattle.grow.specs.declared.End.{End}
use Rattle.grow.specs.Growing.{Grows}
use Rattle.grow.proofs.Growing.{Left, left_as, left-turn, left_end, none}
use Rattle.input.specs.Records.{instr_kind, instr_x, instr_y, load_const, lookup, sys, term_kind, term_x, term_y, switch, constant_kind, payload_of}
use Rattle.rows.specs.Rows.{params, instr, term}
use Rattle.fit.specs.Keys.{keys_at}
use Rattle.interning.specs.declared.Asked.{Asked}
use Rattle.interning.specs.declared.Asked.TheVariants.{Strings, Loaded}
use Rattle.interning.specs.Asked.{rows_by}
use Rattle.interning.specs.Interning.{intern, intern_all, row_constants, row_loaded, intern_builtin, intern_builtins, row_builtins}
use Rattle.interning.proofs.Passes.{InTurn}

-- one constant
abbrev pub intern_one : (ℕ → ℕ → Bool) → List ℕ → ℕ → List ℕ → List ℕ
intern_one asked ws c g = pick (asked (constant_kind ws c) (payload_of ws c)) (intern (constant_kind ws c) (payload_of ws c) g) g

constants_none : (asked : ℕ → ℕ → Bool) (ws g : List ℕ) → intern_all asked ws [] g ≡ g
unfolding intern_all
constants_none asked ws g = refl

constants_app : (asked : ℕ → ℕ → Bool) (ws xs ys g : List ℕ) → intern_all asked ws (xs ++ ys) g ≡ intern_all asked ws ys (intern_all asked ws xs g)
unfolding intern_all
constants_app asked ws [] ys g = refl
constants_app asked ws (c ∷ xs) ys g = constants_app asked ws xs ys (intern_one asked ws c g)

pub constants_in_turn : (asked : ℕ → ℕ → Bool) (ws : List ℕ) → InTurn (intern_all asked ws)
constants_in_turn asked ws = record { nil = constants_none asked ws; app = constants_app asked ws }

builtins_none : (l : List ℕ) → intern_builtins [] l ≡ l
unfolding intern_builtins
builtins_none l = refl

builtins_app : (xs ys l : List ℕ) → intern_builtins (xs ++ ys) l ≡ intern_builtins ys (intern_builtins xs l)
unfolding intern_builtins
builtins_app [] ys l = refl
builtins_app (x ∷ xs) ys l = builtins_app xs ys (intern_builtin x l)

pub builtins_in_turn : InTurn intern_builtins
builtins_in_turn = record { nil = builtins_none; app = builtins_app }

-- ---- so many constants from one on

abbrev pub RunLeft : (ℕ → ℕ → Bool) → List ℕ → ℕ → ℕ → List ℕ → End → ℕ → List ℕ → End → Type 0
RunLeft asked ws first n b e c b' e' =
    Left (intern_all asked ws (keys_at 1 c (first + n - c))) (intern_all asked ws (keys_at 1 first n)) b e b' e'

module _ (asked : ℕ → ℕ → Bool) (ws : List ℕ) (first n : ℕ) where
  pub run_start : (b : List ℕ) (e : End) → RunLeft asked ws first n b e first b e
  run_start b e =
      let k : first + n - first ≡ n = omega arith in
      left_as (λ l. ap (λ (m : ℕ). intern_all asked ws (keys_at 1 first m) l) k)

  pub run-turn : {b b' b'' : List ℕ} {e e' e'' : End} (c : ℕ) → c < first + n → RunLeft asked ws first n b e c b' e'
      → Grows (intern_one asked ws c) b' e' b'' e'' → RunLeft asked ws first n b e (c + 1) b'' e''
  unfolding intern_all keys_at
  run-turn c h s t =
      let k : first + n - c ≡ suc (first + n - (c + 1)) = omega arith in
      left-turn (intern_all asked ws (keys_at 1 (c + 1) (first + n - (c + 1)))) s t
      (λ l. ap (λ (m : ℕ). intern_all asked ws (keys_at 1 c m) l) k)

  pub run_end : {b b' : List ℕ} {e e' : End} (c : ℕ) → first + n ≤ c → RunLeft asked ws first n b e c b' e'
      → Grows (intern_all asked ws (keys_at 1 first n)) b e b' e'
  unfolding intern_all keys_at
  run_end c h s =
      let k : first + n - c ≡ 0 = omega arith in
      left_end s (λ l. ap (λ (m : ℕ). intern_all asked ws (keys_at 1 c m) l) k)

-- ---- a row's constants are so many from one on

module _ (ws : List ℕ) (i : ℕ) where
  pub loads_one : (asked : Asked) → instr_kind ws i ≡ load_const → (r : ℕ) → rows_by asked ws r (instr i) ≡ keys_at 1 (instr_x ws i) 1
  unfolding row_constants row_loaded keys_at
  loads_one Strings h = λ r. rw h
  loads_one Loaded h = λ r. rw h

  pub looks_all : (asked : Asked) → asked ≡ Strings → instr_kind ws i ≡ lookup
      → (r : ℕ) → rows_by asked ws r (instr i) ≡ keys_at 1 (instr_x ws i) (2 * instr_y ws i + 1)
  unfolding row_constants
  looks_all asked e h = λ r. rw (e, h)

  pub loads_none : (asked : Asked) → asked ≡ Loaded → instr_kind ws i ≢ load_const
      → (r : ℕ) → rows_by asked ws r (instr i) ≡ keys_at 1 (instr_x ws i) 0
  unfolding row_loaded keys_at
  loads_none asked e h = λ r. rw (e, ne_eqb (instr_kind ws i) load_const h)

  pub looks_none : (asked : Asked) → instr_kind ws i ≢ load_const → instr_kind ws i ≢ lookup
      → (r : ℕ) → rows_by asked ws r (instr i) ≡ keys_at 1 (instr_x ws i) 0
  unfolding row_constants row_loaded keys_at
  looks_none Strings h k = λ r. rw (ne_eqb (instr_kind ws i) load_const h, ne_eqb (instr_kind ws i) lookup k)
  looks_none Loaded h k = λ r. rw (ne_eqb (instr_kind ws i) load_const h)

module _ (ws : List ℕ) (b : ℕ) where
  pub switches_all : (asked : Asked) → asked ≡ Strings → term_kind ws b ≡ switch
      → (r : ℕ) → rows_by asked ws r (term b) ≡ keys_at 1 (term_x ws b) (term_y ws b)
  unfolding row_constants
  switches_all asked e h = λ r. rw (e, h)

  pub switches_left : (asked : Asked) → asked ≡ Loaded → (r : ℕ) → rows_by asked ws r (term b) ≡ keys_at 1 (term_x ws b) 0
  unfolding row_loaded keys_at
  switches_left asked e = λ r. rw e

  pub switches_none : (asked : Asked) → term_kind ws b ≢ switch → (r : ℕ) → rows_by asked ws r (term b) ≡ keys_at 1 (term_x ws b) 0
  unfolding row_constants row_loaded keys_at
  switches_none Strings h = λ r. rw (ne_eqb (term_kind ws b) switch h)
  switches_none Loaded h = λ r. refl

  pub params_none : (asked : Asked) (r : ℕ) → rows_by asked ws r (params b) ≡ []
  unfolding row_constants row_loaded
  params_none Strings r = refl
  params_none Loaded r = refl

-- ---- a row's builtin

pub sys_one : (ws : List ℕ) (i : ℕ) {b b' : List ℕ} {e e' : End} → instr_kind ws i ≡ sys → Grows (intern_builtin (instr_x ws i)) b e b' e'
    → (r : ℕ) → Grows (intern_builtins (row_builtins ws r (instr i))) b e b' e'
unfolding row_builtins intern_builtins
sys_one ws i h s = λ r. rw (eq-eqb (instr_kind ws i) sys h) s

pub sys_none : (ws : List ℕ) (i : ℕ) (b : List ℕ) (e : End) → (instr_kind ws i ≡ sys → ⊥)
    → (r : ℕ) → Grows (intern_builtins (row_builtins ws r (instr i))) b e b e
unfolding row_builtins intern_builtins
sys_none ws i b e h = λ r. rw (ne_eqb (instr_kind ws i) sys h) (none b e)

pub term_none : (ws : List ℕ) (k : ℕ) (b : List ℕ) (e : End) (r : ℕ) → Grows (intern_builtins (row_builtins ws r (term k))) b e b e
unfolding row_builtins intern_builtins
term_none ws k b e r = none b e

pub no_builtins : (ws : List ℕ) (k r : ℕ) → row_builtins ws r (params k) ≡ []
unfolding row_builtins
no_builtins ws k r = refl
