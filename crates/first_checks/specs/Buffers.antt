-- What `compile` is lent.
use Rattle.std.specs.Prelude.{List, ℕ}
use Rattle.lists.specs.Lists.{Lists, lists}

-- every lent buffer: the program's, the place buffer, and the work room
pub record Buffers : Type 0 where
  pub ops : List ℕ
  pub spans : List ℕ
  -- kind and payload of each global
  pub globals : List ℕ
  pub builtins : List ℕ
  -- a table by id
  pub functions : List ℕ
  -- three numbers for each switch table, and their slots
  pub switches : List ℕ
  pub targets : List ℕ
  -- five numbers for each lookup table, and kind and payload of their slots
  pub lookups : List ℕ
  pub values : List ℕ
  -- the place of each value, as a word
  pub places : List ℕ
  -- work room
  pub hints : List ℕ
  pub noted : List ℕ
  pub labels : List ℕ

-- the lists that the functions share
abbrev pub lists_of : Buffers → Lists
lists_of b = lists b.globals b.builtins b.switches b.targets b.lookups b.values

-- the lent buffers in order
abbrev pub lent : List ℕ → List ℕ → List ℕ → List ℕ → List ℕ → List ℕ → List ℕ → List ℕ → List ℕ → List ℕ → List ℕ → List ℕ → List ℕ → Buffers
lent ops spans globals builtins functions switches targets lookups values places hints noted labels =
    record {
      ops = ops;
      spans = spans;
      globals = globals;
      builtins = builtins;
      functions = functions;
      switches = switches;
      targets = targets;
      lookups = lookups;
      values = values;
      places = places;
      hints = hints;
      noted = noted;
      labels = labels;
    }
