-- The map of a walk has a word for each value, and each is 0 or the word of a place.
use Prim.Native.Nat.{ℕ, zero, suc, ◌+◌, ◌-◌, ◌≤◌, ◌<◌}
use mathlib.Core.List.{List, [], ◌∷◌}
use mathlib.Core.Path.{◌≡◌, ap, ◌∙◌}
use native.Mathlib.Omega.{arith}
use lib.ListN.{length, get_or, set, take, drop, replicate, length-set, length-replicate}
use lib.Seq.{take_at}
use Rattle.std.specs.Prelude.{Option, Some, None}
use Rattle.base.proofs.Lists.{sets-front}
use Rattle.base.proofs.Numbers.{pick_case}
use Rattle.place.specs.declared.Reg.TheVariants.{Gpr}
use Rattle.place.specs.declared.Place.{Place}
use Rattle.place.specs.declared.Place.TheVariants.{Register}
use Rattle.place.specs.Places.{found_of, word_of}
use Rattle.place.proofs.Places.{number_lt}
use Rattle.alloc.specs.declared.Alloc.{Alloc}
use Rattle.alloc.specs.State.{most_slots}
use Rattle.alloc.specs.Allocation.{expire_of, is_free, take_of, map_entered, map_again, map_after_place}
use Rattle.alloc.specs.Good.{Known, Good}
use Rattle.alloc.proofs.Arrays.{set_below}
use Rattle.alloc.proofs.Counts.{free_low, same_self}
use Rattle.alloc.proofs.Keeps.{PendingFor, known_more, take_ok, good_expire, good_fresh, good_place, good_pin}
use Rattle.alloc.proofs.Outcome.{known_fits, pin-map}
use Rattle.input.specs.Layout.{values}
use Rattle.input.specs.Records.{end_of}
use Rattle.assign.specs.Steps.{Step, pin, place, note, hint, steps_of}
use Rattle.assign.specs.Walk.{Walk, wish_of, place_step, pin_step, note_step, hint_step, step, run, pool_of, begin, assigned}
use Rattle.placing.specs.declared.Placed.{Placed}
use Rattle.placing.specs.Placing.{PlacesGiven}

-- k words, each at most 66,048
record Words (k : ℕ) (map : List ℕ) : Type 0 where
  long : length map ≡ k
  low : (v : ℕ) → get_or map v 0 < 66049

word_low : (p : Place) → Known most_slots p → word_of (Some p) < 66049
word_low p h = omega (arith, number_lt p (known_fits p h))

words_set : (k : ℕ) (map : List ℕ) (v : ℕ) (p : Place) → Known most_slots p → Words k map → Words k (set map v (word_of (Some p)))
words_set k map v p h w =
    record { long = simp length-set w.long; low = set_below 66049 map v (word_of (Some p)) w.low (word_low p h) }

words_entered : (k : ℕ) (map : List ℕ) (v : ℕ) (t : Alloc) (x : Option Place) → PendingFor t x → Words k map → Words k (map_entered map v x)
unfolding map_entered
words_entered k map v t (Some p) h w =
    words_set k map v p (known_more t.made most_slots p h.capped (h.known p (omega (arith, same_self p)))) w
words_entered k map v t None h w = w

words_again : (k : ℕ) (map new : List ℕ) (f : Option Place) → Words k map → Words k new → Words k (map_again map f new)
words_again k map new (Some p) w w' = w
words_again k map new None w w' = w'

-- what each step keeps
record Sound (k : ℕ) (w : Walk) : Type 0 where
  good : Good w.alloc
  words : Words k w.map

module _ (ws pool : List ℕ) (k : ℕ) where
  place_sound : (r v : ℕ) (w : Walk) → Sound k w → Sound k (place_step ws pool r v w)
  unfolding place_step map_after_place
  place_sound r v w s =
      let t = take_of 0 (wish_of w v) pool (expire_of r w.alloc) in
      record {
        good = good_place w.map v 0 r (end_of ws v) (wish_of w v) pool w.alloc s.good;
        words = words_again k w.map _ (found_of (get_or w.map v 0)) s.words
            (words_entered k w.map v t.state t.got (take_ok 0 (wish_of w v) pool (expire_of r w.alloc) (good_expire r w.alloc s.good))
            s.words);
      }

  pin_sound : (r j v : ℕ) (w : Walk) → Sound k w → Sound k (pin_step ws pool r j v w)
  unfolding pin_step
  pin_sound r j v w s =
      pick_case (Sound k) (is_free (Gpr j) w.alloc) _ _
      (λ f.
      record {
        good = good_pin (Gpr j) (end_of ws v) w.alloc s.good;
        words = rw (pin-map w.map v (Gpr j) w.alloc f)
            (words_set k w.map v (Register (Gpr j)) (free_low (Gpr j) w.alloc s.good.shape f) s.words);
      })
      (λ f. place_sound r v w s)

  step_sound : (x : Step) (w : Walk) → Sound k w → Sound k (step ws pool x w)
  unfolding step note_step hint_step
  step_sound (pin r j v) w s = pin_sound r j v w s
  step_sound (place r v) w s = place_sound r v w s
  step_sound (note r v) w s = record { good = s.good; words = s.words }
  step_sound (hint a p) w s = record { good = s.good; words = s.words }

  run_sound : (xs : List Step) (w : Walk) → Sound k w → Sound k (run ws pool xs w)
  unfolding run
  run_sound [] w s = s
  run_sound (x ∷ xs) w s = run_sound xs (step ws pool x w) (step_sound x w s)

zeros_low : (k v : ℕ) → get_or (replicate k 0) v 0 < 66049
zeros_low zero v = omega arith
zeros_low (suc k) zero = omega arith
zeros_low (suc k) (suc v) = zeros_low k v

begin_sound : (n : ℕ) (ws : List ℕ) → Sound (values ws) (begin n ws)
unfolding begin
begin_sound n ws =
    record {
      good = good_fresh (pool_of (n - 2)) [];
      words = record { long = length-replicate (values ws) 0; low = zeros_low (values ws) };
    }

assigned_sound : (n : ℕ) (ws : List ℕ) → Sound (values ws) (assigned n ws)
unfolding assigned
assigned_sound n ws = run_sound ws (pool_of (n - 2)) (values ws) (steps_of ws) (begin n ws) (begin_sound n ws)

-- a word for each value
pub map-length : (n : ℕ) (ws : List ℕ) → length (assigned n ws).map ≡ values ws
map-length n ws = (assigned_sound n ws).words.long

-- each the word of a place, or 0
pub placed_low : (n : ℕ) (ws : List ℕ) (v : ℕ) → get_or (assigned n ws).map v 0 ≤ 66048
placed_low n ws v = omega (arith, (assigned_sound n ws).words.low v)

module _ {n : ℕ} {ws places places' noted' : List ℕ} {r : Placed} (g : PlacesGiven n ws places places' noted' r) where
  -- the place buffer starts with them
  pub places_are : take (values ws) places' ≡ (assigned n ws).map
  places_are =
      let e = map-length n ws in
      ap (take (values ws)) (g.places_is ∙ sets-front places (assigned n ws).map (omega (arith, e, g.places_there)))
      ∙ take_at (assigned n ws).map (drop (length (assigned n ws).map) places) (values ws) e

  -- a place and 62 more fit a word
  pub places_low : (v : ℕ) → get_or (take (values ws) places') v 0 - 1 + 62 < 4294967296
  places_low v = rw places_are (omega (arith, placed_low n ws v))
