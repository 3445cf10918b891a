-- What each step does. In lowering `at` is the value's row, whatever its interval's start.
use Rattle.std.specs.Prelude.{ℕ, zero, suc, ◌+◌, ◌-◌, Bool, true, false, List, [], ◌∷◌, leb, ltb, eqb, get_or, set, replicate, Option, Some, None}
use Rattle.base.specs.Choice.{pick}
use Rattle.base.specs.Masks.{has_bit}
use Rattle.place.specs.declared.Reg.{Reg}
use Rattle.place.specs.declared.Reg.TheVariants.{Gpr}
use Rattle.alloc.specs.declared.Alloc.{Alloc}
use Rattle.alloc.specs.State.{live, fresh_of}
use Rattle.alloc.specs.Allocation.{is_free, place_of, map_after_place, pin_of, map_after_pin, live_after}
use Rattle.input.specs.Layout.{values}
use Rattle.input.specs.Records.{end_of, hint_of}
use Rattle.input.specs.Forms.{both}
use Rattle.rows.specs.Rows.{Ref, defs_of}
use Rattle.assign.specs.Steps.{Step, pin, place, note, hint, steps_of}

-- the allocator; for each value: its place, its hint (0 for none, else the register and 1), and the registers noted at the call that defines it
pub record Walk : Type 0 where
  pub alloc : Alloc
  pub map : List ℕ
  pub wish : List ℕ
  pub noted : List ℕ

abbrev pub walk : Alloc → List ℕ → List ℕ → List ℕ → Walk
walk a m h n = record { alloc = a; map = m; wish = h; noted = n }

unfoldable pub hint_for : ℕ → Option Reg
hint_for x = pick (eqb x 0) None (pick (leb x 64) (Some (Gpr (x - 1))) None)

abbrev pub wish_of : Walk → ℕ → Option Reg
wish_of w v = hint_for (get_or w.wish v 0)

-- a value of the general class, at its row, until its end, from the pool
unfoldable pub place_step : List ℕ → List ℕ → ℕ → ℕ → Walk → Walk
place_step ws pool r v w =
    walk (place_of w.map v 0 r (end_of ws v) (wish_of w v) pool w.alloc).state
    (map_after_place w.map v 0 r (wish_of w v) pool w.alloc)
    w.wish
    w.noted

-- a register that isn't free: the parameter is placed like any other
unfoldable pub pin_step : List ℕ → List ℕ → ℕ → ℕ → ℕ → Walk → Walk
pin_step ws pool r k v w =
    pick (is_free (Gpr k) w.alloc)
    (walk (pin_of (Gpr k) (end_of ws v) w.alloc) (map_after_pin w.map v (Gpr k) w.alloc) w.wish w.noted)
    (place_step ws pool r v w)

-- for value v: the registers of active entries with end > row
unfoldable pub note_step : ℕ → ℕ → Walk → Walk
note_step r v w = walk w.alloc w.map w.wish (set w.noted v (live_after 0 r (live w.alloc) 0))

-- the argument's register, if it has one, for the parameter; later wins. The map word of general register r is r and 1, as the hint's is.
abbrev pub in_register : ℕ → Bool
in_register word = both (ltb 0 word) (leb word 256)

unfoldable pub hint_step : ℕ → ℕ → Walk → Walk
hint_step a p w =
    walk w.alloc w.map (pick (in_register (get_or w.map a 0)) (set w.wish p (get_or w.map a 0)) w.wish) w.noted

unfoldable pub step : List ℕ → List ℕ → Step → Walk → Walk
step ws pool (pin r k v) w = pin_step ws pool r k v w
step ws pool (place r v) w = place_step ws pool r v w
step ws pool (note r v) w = note_step r v w
step ws pool (hint a p) w = hint_step a p w

unfoldable pub run : List ℕ → List ℕ → List Step → Walk → Walk
run ws pool [] w = w
run ws pool (s ∷ ss) w = run ws pool ss (step ws pool s w)

-- the pool of a machine with n registers, 0 last, so that the lowest free one is taken first
unfoldable pub pool_of : ℕ → List ℕ
pool_of zero = []
pool_of (suc n) = n ∷ pool_of n

-- the first hints
unfoldable pub first_hints : List ℕ → ℕ → ℕ → List ℕ
first_hints ws v zero = []
first_hints ws v (suc n) = hint_of ws v ∷ first_hints ws (v + 1) n

-- before the first row: every pool register free, no place, the first hints, nothing noted
unfoldable pub begin : ℕ → List ℕ → Walk
begin n ws =
    walk (fresh_of (pool_of (n - 2)) []) (replicate (values ws) 0) (first_hints ws 0 (values ws)) (replicate (values ws) 0)

-- after the last
unfoldable pub assigned : ℕ → List ℕ → Walk
assigned n ws = run ws (pool_of (n - 2)) (steps_of ws) (begin n ws)

-- the word of a value's place, 0 for none; the slots made
abbrev pub place_word : ℕ → List ℕ → ℕ → ℕ
place_word n ws v = get_or (assigned n ws).map v 0

abbrev pub slots_made : ℕ → List ℕ → ℕ
slots_made n ws = (assigned n ws).alloc.made

-- one past the highest used register, 0 where none was used
unfoldable pub used_below : ℕ → ℕ → ℕ
used_below m zero = 0
used_below m (suc r) = pick (has_bit m r) (suc r) (used_below m r)

abbrev pub top_used : ℕ → List ℕ → ℕ
top_used n ws = used_below (get_or (assigned n ws).alloc.used 0 0) 64

-- 8 NoSlot: a value needs a place while every pool register is taken and all 128 slots are held by values ending after its row. Then it has
-- none, and only then.
unfoldable pub all_placed : List ℕ → List Ref → Bool
all_placed map [] = true
all_placed map (d ∷ ds) = pick (eqb (get_or map d.value 0) 0) false (all_placed map ds)

abbrev pub slots_ok : ℕ → List ℕ → Bool
slots_ok n ws = all_placed (assigned n ws).map (defs_of ws)
