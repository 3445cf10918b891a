-- The lists that the functions of a program share: what a function adds to each behind its used length, and whether that finds room.
use Rattle.std.specs.Prelude.{◌≡◌, Bool, ℕ, ◌*◌, ◌/◌, ◌≤◌, ◌<◌, min, List, Result, IfOk, leb, length, take}
use Rattle.std.proofs.lemmas.List.Edits.{sets}
use Rattle.base.specs.Choice.{pick}
use Rattle.base.specs.Limits.{most_of_a_kind}
use Rattle.base.specs.Buffers.{zero_from}
use Rattle.refusal.specs.declared.Refusal.{Refusal}
use Rattle.refusal.specs.Numbers.{number_for}
use Rattle.input.specs.Layout.{values}
use Rattle.input.specs.Forms.{both}
use Rattle.ready.specs.Ready.{Ready}
use Rattle.interning.specs.Interning.{globals_after, builtins_after}
use Rattle.tables.specs.Tables.{switch_heads_after, switch_targets_after, lookup_heads_after, lookup_values_after}
use Rattle.lists.specs.declared.Used.{Used}

-- How many words of a buffer are used: a global is kind and payload, a switch table three numbers, a lookup table five, a slot of one kind and
-- payload.
abbrev pub global_words : Used → ℕ
global_words u = 2 * u.globals

abbrev pub switch_words : Used → ℕ
switch_words u = 3 * u.switches

abbrev pub lookup_words : Used → ℕ
lookup_words u = 5 * u.lookups

abbrev pub value_words : Used → ℕ
value_words u = 2 * u.values

-- how many words of a buffer there is room for, in records of so many words, at most 65,534 of a kind
abbrev pub room : ℕ → List ℕ → ℕ
room words l = words * min (length l / words) most_of_a_kind

-- the six, each in its buffer or by itself
pub record Lists : Type 0 where
  pub globals : List ℕ
  pub builtins : List ℕ
  pub switches : List ℕ
  -- the slots of the switch tables
  pub targets : List ℕ
  pub lookups : List ℕ
  -- the slots of the lookup tables
  pub values : List ℕ

abbrev pub lists : List ℕ → List ℕ → List ℕ → List ℕ → List ℕ → List ℕ → Lists
lists globals builtins switches targets lookups values =
    record { globals = globals; builtins = builtins; switches = switches; targets = targets; lookups = lookups; values = values }

-- Each with what a function adds behind its used length, by the words of the function and the places of its values. The slots of a switch table
-- are labels here.
abbrev pub lists_after : List ℕ → List ℕ → Lists → Used → Lists
lists_after ws places b u =
    record {
      globals = globals_after ws (take (global_words u) b.globals);
      builtins = builtins_after ws (take u.builtins b.builtins);
      switches = switch_heads_after ws u.targets (take (switch_words u) b.switches);
      targets = switch_targets_after ws places u.targets (take u.targets b.targets);
      lookups = lookup_heads_after ws u.values (take (lookup_words u) b.lookups);
      values = lookup_values_after ws u.values (take (value_words u) b.values);
    }

-- 9: a list needs more than is lent, or passes 65,534 of a kind. Slots have no limit of their own.
unfoldable pub lists_fit : Lists → Lists → Bool
lists_fit b l =
    both (leb (length l.globals) (room 2 b.globals))
    (both (leb (length l.builtins) (room 1 b.builtins))
    (both (leb (length l.switches) (room 3 b.switches))
    (both (leb (length l.targets) (length b.targets))
    (both (leb (length l.lookups) (room 5 b.lookups))
    (leb (length l.values) (length b.values))))))

-- the used lengths behind them; the ops are as many as they were
abbrev pub used_after : Used → Lists → Used
used_after u l =
    record {
      ops = u.ops;
      globals = length l.globals / 2;
      builtins = length l.builtins;
      switches = length l.switches / 3;
      targets = length l.targets;
      lookups = length l.lookups / 5;
      values = length l.values / 2;
    }

-- ---- what the code needs and leaves

-- no used length passes its room, and slots are counted in 32 bits
pub record Started (u : Used) (b : Lists) : Type 0 where
  pub globals : global_words u ≤ room 2 b.globals
  pub builtins : u.builtins ≤ room 1 b.builtins
  pub switches : switch_words u ≤ room 3 b.switches
  pub targets : u.targets ≤ length b.targets
  pub targets_few : u.targets < 4294967296
  pub lookups : lookup_words u ≤ room 5 b.lookups
  pub values : value_words u ≤ length b.values
  pub values_few : u.values < 4294967296

pub record ListsReady (ws places : List ℕ) (u : Used) (b : Lists) : Type 0 where
  pub ready : Ready ws
  pub placed : values ws ≤ length places
  pub started : Started u b

-- made: each buffer starts with its list and is else as it was
pub record Made (u : Used) (b l : Lists) (u' : Used) (b' : Lists) : Type 0 where
  pub used_is : u' ≡ used_after u l
  pub globals_is : b'.globals ≡ sets b.globals 0 l.globals
  pub builtins_is : b'.builtins ≡ sets b.builtins 0 l.builtins
  pub switches_is : b'.switches ≡ sets b.switches 0 l.switches
  pub targets_is : b'.targets ≡ sets b.targets 0 l.targets
  pub lookups_is : b'.lookups ≡ sets b.lookups 0 l.lookups
  pub values_is : b'.values ≡ sets b.values 0 l.values

-- made or not: what stands before the used lengths is kept
pub record Kept (u : Used) (b b' : Lists) : Type 0 where
  pub globals_kept : zero_from b'.globals (global_words u) ≡ zero_from b.globals (global_words u)
  pub builtins_kept : zero_from b'.builtins u.builtins ≡ zero_from b.builtins u.builtins
  pub switches_kept : zero_from b'.switches (switch_words u) ≡ zero_from b.switches (switch_words u)
  pub targets_kept : zero_from b'.targets u.targets ≡ zero_from b.targets u.targets
  pub lookups_kept : zero_from b'.lookups (lookup_words u) ≡ zero_from b.lookups (lookup_words u)
  pub values_kept : zero_from b'.values (value_words u) ≡ zero_from b.values (value_words u)

pub record Listed (ws places : List ℕ) (u : Used) (b b' : Lists) (r : Result Used Refusal) : Type 0 where
  pub number_is : number_for r ≡ pick (lists_fit b (lists_after ws (take (values ws) places) b u)) 0 9
  pub made : IfOk r (λ u'. Made u b (lists_after ws (take (values ws) places) b u) u' b')
  pub kept : Kept u b b'
