-- Refusal 5: what each loop of the interval check counts, a use by the table of rows, and a destination as a list.
use Rattle.std.proofs.Common.{◌≡◌, ℕ, zero, suc, ◌+◌, ◌-◌, min, Bool, true, false, ltb, leb, List, [], ◌∷◌, get_or, refl, ap, ap₂, add-zero, add_assoc, add-one, arith, lt-ltb}
use native.Mathlib.Nat.{zero-min, min-zero, suc-min-suc}
use Rattle.base.specs.Choice.{pick}
use Rattle.input.specs.Layout.{pool_at, list_at}
use Rattle.input.specs.Records.{end_of, arguments_of, edge_target, params_of}
use Rattle.input.specs.Forms.{both}
use Rattle.rows.specs.Rows.{params, Ref, ref, refs, maybe, defined, row_in}
use Rattle.fit.specs.Intervals.{fit_def, fit_defs, fit_use, fit_uses, unread, fit_args, fit_edges, fit_row}
use Rattle.fit.specs.Tabled.{Tabled}
use Rattle.fit.proofs.Counts.{Checked}

-- ---- what the loops count

pub defs_counted : (ws : List ℕ) (r at : ℕ)
    → Checked (λ (j k : ℕ). fit_defs ws (refs r (list_at ws (at + j) k))) (λ (n : ℕ). fit_defs ws (refs r (list_at ws at n)))
    (λ (j : ℕ). fit_def ws (ref r (pool_at ws (at + j))))
unfolding fit_defs refs list_at
defs_counted ws r at =
    record {
      law = record {
        starts = λ (n : ℕ). ap (λ (a : ℕ). fit_defs ws (refs r (list_at ws a n))) (add-zero at);
        turns = λ (j k : ℕ). ap (λ (a : ℕ). both (fit_def ws (ref r (pool_at ws (at + j)))) (fit_defs ws (refs r (list_at ws a k)))) (add_assoc at j 1);
        ends = λ (j : ℕ). refl;
      };
    }

module _ (ws : List ℕ) (ds : List Ref) (r : ℕ) where
  pub uses_counted : (at : ℕ)
      → Checked (λ (j k : ℕ). fit_uses ws ds (refs r (list_at ws (at + j) k))) (λ (n : ℕ). fit_uses ws ds (refs r (list_at ws at n)))
      (λ (j : ℕ). fit_use ws ds (ref r (pool_at ws (at + j))))
  unfolding fit_uses refs list_at
  uses_counted at =
      record {
        law = record {
          starts = λ (n : ℕ). ap (λ (a : ℕ). fit_uses ws ds (refs r (list_at ws a n))) (add-zero at);
          turns = λ (j k : ℕ). ap (λ (a : ℕ). both (fit_use ws ds (ref r (pool_at ws (at + j)))) (fit_uses ws ds (refs r (list_at ws a k)))) (add_assoc at j 1);
          ends = λ (j : ℕ). refl;
        };
      }

  abbrev pub fit_arg : ℕ → ℕ → Bool
  fit_arg a p = pick (unread ws p) true (fit_use ws ds (ref r a))

  pub args_counted : (at to : ℕ)
      → Checked (λ (j k : ℕ). fit_args ws ds r (list_at ws (at + j) k) (list_at ws (to + j) k))
      (λ (n : ℕ). fit_args ws ds r (list_at ws at n) (list_at ws to n))
      (λ (j : ℕ). fit_arg (pool_at ws (at + j)) (pool_at ws (to + j)))
  unfolding fit_args list_at
  args_counted at to =
      record {
        law = record {
          starts = λ (n : ℕ). ap₂ (λ (a b : ℕ). fit_args ws ds r (list_at ws a n) (list_at ws b n)) (add-zero at) (add-zero to);
          turns = λ (j k : ℕ).
              ap₂ (λ (a b : ℕ). both (fit_arg (pool_at ws (at + j)) (pool_at ws (to + j))) (fit_args ws ds r (list_at ws a k) (list_at ws b k)))
              (add_assoc at j 1) (add_assoc to j 1);
          ends = λ (j : ℕ). refl;
        };
      }

  pub edges-counted : (first : ℕ)
      → Checked (λ (j k : ℕ). fit_edges ws ds r (first + j) k) (λ (n : ℕ). fit_edges ws ds r first n)
      (λ (j : ℕ). fit_args ws ds r (arguments_of ws (first + j)) (params_of ws (edge_target ws (first + j))))
  unfolding fit_edges
  edges-counted first =
      record {
        law = record {
          starts = λ (n : ℕ). ap (λ (e : ℕ). fit_edges ws ds r e n) (add-zero first);
          turns = λ (j k : ℕ).
              ap (λ (e : ℕ). both (fit_args ws ds r (arguments_of ws (first + j)) (params_of ws (edge_target ws (first + j)))) (fit_edges ws ds r e k))
              (add_assoc first j 1);
          ends = λ (j : ℕ). refl;
        };
      }

  -- arguments and parameters go in pairs, as many as the shorter list has
  pub args_paired : (at n to m : ℕ) → fit_args ws ds r (list_at ws at n) (list_at ws to m) ≡ fit_args ws ds r (list_at ws at (min n m)) (list_at ws to (min n m))
  unfolding fit_args list_at
  args_paired at zero to m = rw (zero-min m)
  args_paired at (suc n) to zero = rw (min-zero (suc n))
  args_paired at (suc n) to (suc m) =
      rw (suc-min-suc n m) (ap (both (fit_arg (pool_at ws at) (pool_at ws to))) (args_paired (at + 1) n (to + 1) m))

-- ---- a use, by the table of rows

use-case : (b : Bool) (x row r : ℕ) (c : Bool) → x ≡ pick b (row + 1) 0
    → both b (both (ltb row r) c) ≡ both (ltb 0 x) (both (leb x r) c)
use-case true x row r c e = rw (e, add-one row, lt-ltb 0 (suc row) (omega arith))
use-case false x row r c e = rw e

pub use_tabled : (ws rows : List ℕ) (ds : List Ref) (r v : ℕ) → Tabled rows ds
    → fit_use ws ds (ref r v) ≡ both (ltb 0 (get_or rows v 0)) (both (leb (get_or rows v 0) r) (leb r (end_of ws v)))
unfolding fit_use
use_tabled ws rows ds r v t = use-case (defined v ds) (get_or rows v 0) (row_in v ds) r (leb r (end_of ws v)) (t v)

-- ---- a destination

pub maybe_none : (d : ℕ) → d ≡ 0 → maybe d ≡ []
maybe_none d e = rw e

pub maybe-some : (d : ℕ) → (d ≡ 0 → ⊥) → maybe d ≡ (d - 1) ∷ []
maybe-some zero h = absurd (h refl)
maybe-some (suc d) h = let e : suc d - 1 ≡ d = omega arith in rw e

both_true : (b : Bool) → both b true ≡ b
both_true true = refl
both_true false = refl

pub defs_none : (ws : List ℕ) (r d : ℕ) → d ≡ 0 → fit_defs ws (refs r (maybe d)) ≡ true
unfolding fit_defs refs
defs_none ws r d e = rw (maybe_none d e)

pub defs_some : (ws : List ℕ) (r d : ℕ) → (d ≡ 0 → ⊥) → fit_defs ws (refs r (maybe d)) ≡ fit_def ws (ref r (d - 1))
unfolding fit_defs refs
defs_some ws r d h = rw (maybe-some d h) (both_true (fit_def ws (ref r (d - 1))))

-- ---- a row of parameters is judged by its definitions alone

pub params_row : (ws : List ℕ) (ds : List Ref) (r b : ℕ) → fit_row ws ds r (params b) ≡ fit_defs ws (refs r (params_of ws b))
unfolding fit_row
params_row ws ds r b = refl
