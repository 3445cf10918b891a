-- What the functions that make two lists each need and leave.
use Rattle.std.specs.Prelude.{◌≡◌, ℕ, ◌≤◌, ◌<◌, List, leb, length, take}
use Rattle.std.proofs.lemmas.List.Edits.{sets}
use Rattle.base.specs.Buffers.{zero_from}
use Rattle.input.specs.Layout.{values}
use Rattle.input.specs.Forms.{both}
use Rattle.ready.specs.Ready.{Ready}
use Rattle.interning.specs.Interning.{globals_after, builtins_after}
use Rattle.tables.specs.Tables.{switch_heads_after, switch_targets_after, lookup_heads_after, lookup_values_after}
use Rattle.lists.specs.Lists.{room, global_words, switch_words, lookup_words, value_words}
use Rattle.lists.specs.declared.Used.{Used}
use Rattle.lists.specs.declared.Pair.{Pair}

-- The list l in its buffer, of which so many words were used: they are kept, and where l finds room it stands there whole, `at` its end.
pub record Part (used room : ℕ) (b l b' : List ℕ) (at : ℕ) : Type 0 where
  pub kept : zero_from b' used ≡ zero_from b used
  pub at_is : length l ≤ room → at ≡ length l
  pub is : length l ≤ room → b' ≡ sets b 0 l

-- two lists, and whether both find room
pub record Parts (used room : ℕ) (b l b' : List ℕ) (used₂ room₂ : ℕ) (b₂ l₂ b₂' : List ℕ) (r : Pair) : Type 0 where
  pub first : Part used room b l b' r.first
  pub second : Part used₂ room₂ b₂ l₂ b₂' r.second
  pub fits_is : r.fits ≡ both (leb (length l) room) (leb (length l₂) room₂)

-- the constants and builtins, the switch tables, the lookup tables
abbrev pub InternedParts : List ℕ → Used → List ℕ → List ℕ → List ℕ → List ℕ → Pair → Type 0
InternedParts ws u g b g' b' r =
    Parts (global_words u) (room 2 g) g (globals_after ws (take (global_words u) g)) g'
    u.builtins (room 1 b) b (builtins_after ws (take u.builtins b)) b' r

abbrev pub SwitchParts : List ℕ → List ℕ → Used → List ℕ → List ℕ → List ℕ → List ℕ → Pair → Type 0
SwitchParts ws places u s t s' t' r =
    Parts (switch_words u) (room 3 s) s (switch_heads_after ws u.targets (take (switch_words u) s)) s'
    u.targets (length t) t (switch_targets_after ws (take (values ws) places) u.targets (take u.targets t)) t' r

abbrev pub LookupParts : List ℕ → Used → List ℕ → List ℕ → List ℕ → List ℕ → Pair → Type 0
LookupParts ws u l v l' v' r =
    Parts (lookup_words u) (room 5 l) l (lookup_heads_after ws u.values (take (lookup_words u) l)) l'
    (value_words u) (length v) v (lookup_values_after ws u.values (take (value_words u) v)) v' r

-- what each function needs: its used words where there is room for them, and slots counted in 32 bits
pub record InternReady (ws : List ℕ) (u : Used) (g b : List ℕ) : Type 0 where
  pub ready : Ready ws
  pub globals : global_words u ≤ room 2 g
  pub builtins : u.builtins ≤ room 1 b

pub record SwitchReady (ws places : List ℕ) (u : Used) (s t : List ℕ) : Type 0 where
  pub ready : Ready ws
  pub placed : values ws ≤ length places
  pub switches : switch_words u ≤ room 3 s
  pub targets : u.targets ≤ length t
  pub few : u.targets < 4294967296

pub record LookupReady (ws : List ℕ) (u : Used) (l v : List ℕ) : Type 0 where
  pub ready : Ready ws
  pub lookups : lookup_words u ≤ room 5 l
  pub values : value_words u ≤ length v
  pub few : u.values < 4294967296
