-- What owning a state tells: the lengths of its arrays, and that each number in them fits its bits.
use mathlib.Core.Logic.{⊎_elim}
use mathlib.Core.List.{List, [], ◌∷◌}
use Prim.Native.Nat.{ℕ, zero, suc, ◌^◌, ◌≤◌, ◌<◌}
use native.Mathlib.Nat.{le_of_suc-le-suc, not-suc-le-zero}
use lib.ListN.{length, get_or, get_or-eq_default}
use lib.Pow.{pow_pos}
use mir.Val.{Val}
use denote.Laws.{Is}
use denote.Shadow.{shadow}
use denote.Array.{each}
use denote.Struct.Declared.{row}
use denote.Builtin.{u16, u64}
use base.Fml.{Fml}
use Rattle.base.proofs.Numbers.{lt?}
use Rattle.place.specs.declared.Reg.TheVariants.{Gpr, Fpr}
use Rattle.place.specs.declared.Place.{Place}
use Rattle.place.specs.declared.Place.TheVariants.{Slot, Register}
use Rattle.place.specs.Places.{Fits}
use Rattle.alloc.specs.declared.Entry.{Entry}
use Rattle.alloc.specs.declared.Alloc.{Alloc}
use Rattle.alloc.specs.State.{empty_entry}
use Rattle.alloc.specs.Good.{Shaped}
use Rattle.place.specs.contracts.Place as place
use Rattle.alloc.specs.contracts.Entry as entry
use Rattle.alloc.specs.contracts.Alloc.{the_type}

-- what holds of every value of an element's type holds at each index of an array
each_holds : (V : Type 0) (own : V → List Val → Fml) (P : V → Type 0) → ((x : V) (vs : List Val) → shadow (own x vs) → P x)
    → (xs : List V) (us : List Val) → shadow (each V own xs us) → (i : ℕ) (d : V) → i < length xs → P (get_or xs i d)
each_holds V own P h [] us s i d l = absurd (not-suc-le-zero l)
each_holds V own P h (x ∷ xs) [] s i d l = absurd s
each_holds V own P h (x ∷ xs) (u ∷ us) s zero d l = h x (u ∷ []) s.0
each_holds V own P h (x ∷ xs) (u ∷ us) s (suc i) d l = each_holds V own P h xs us s.1 i d (le_of_suc-le-suc l)

pub shaped : (s : Alloc) (vs : List Val) → Is (row the_type) s vs → Shaped s
shaped s vs g =
    let a = g.1.1.1.1.0 in
    record {
      actives = g.1.1.0.1.0.1;
      frees = a.1.0.1;
      stack = g.1.1.1.1.1.1.0.1.0.1;
      masks = λ k.
          ⊎_elim
          (λ (l : k < length s.free). each_holds ℕ u64.own_val (λ (x : ℕ). x < 2 ^ 64) (λ x us q. q.1) s.free a.0 a.1.1 k 0 l)
          (λ (l : length s.free ≤ k). rw (get_or-eq_default s.free 0 {n = k} l) (pow_pos 64))
          (lt? k (length s.free));
    }

place_fits : (p : Place) (vs : List Val) → shadow ((place.the_row).own_val p vs) → Fits p
place_fits (Slot k) vs g = g.1.1.1.1.0.1
place_fits (Register (Gpr r)) vs g = g.1.1.1.1.0.1.1.1.1.0.1
place_fits (Register (Fpr r)) vs g = g.1.1.1.1.0.1.1.1.1.0.1

-- the numbers of each entry's place fit their bits
entry_fits : (s : Alloc) (vs : List Val) → Is (row the_type) s vs → (i : ℕ) → i < length s.active → Fits (get_or s.active i empty_entry).place
entry_fits s vs g i l =
    let a = g.1.1.0 in
    each_holds Entry (entry.the_row).own_val (λ (e : Entry). Fits e.place) (λ e us q. place_fits e.place _ q.1.1.1.0) s.active a.0
    a.1.1 i empty_entry l

-- the free slots fit theirs
spare_fits : (s : Alloc) (vs : List Val) → Is (row the_type) s vs → (i : ℕ) → i < length s.spare → get_or s.spare i 0 < 65536
spare_fits s vs g i l =
    let a = g.1.1.1.1.1.1.0 in
    each_holds ℕ u16.own_val (λ (x : ℕ). x < 65536) (λ x us q. q.1) s.spare a.0 a.1.1 i 0 l

-- all of it
pub record Fitted (s : Alloc) : Type 0 where
  pub shape : Shaped s
  pub entries : (i : ℕ) → i < length s.active → Fits (get_or s.active i empty_entry).place
  pub spares : (i : ℕ) → i < length s.spare → get_or s.spare i 0 < 65536

pub fitted : (s : Alloc) (vs : List Val) → Is (row the_type) s vs → Fitted s
fitted s vs g = record { shape = shaped s vs g; entries = entry_fits s vs g; spares = spare_fits s vs g }
