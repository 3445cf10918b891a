-- Used lengths as words of a buffer, and which of them an answer changes.
use Rattle.std.specs.Prelude.{ℕ, List, [], ◌∷◌, eqb, get_or}
use Rattle.std.proofs.lemmas.List.Edits.{sets}
use Rattle.base.specs.Choice.{pick}
use Rattle.lists.specs.declared.Used.{Used}

-- the used lengths in order: ops, globals, builtins, switch tables, their slots, lookup tables, their slots
abbrev pub used_in : List ℕ → Used
used_in l =
    record {
      ops = get_or l 0 0;
      globals = get_or l 1 0;
      builtins = get_or l 2 0;
      switches = get_or l 3 0;
      targets = get_or l 4 0;
      lookups = get_or l 5 0;
      values = get_or l 6 0;
    }

abbrev pub used_words : Used → List ℕ
used_words u = u.ops ∷ u.globals ∷ u.builtins ∷ u.switches ∷ u.targets ∷ u.lookups ∷ u.values ∷ []

-- the used length where the number is 0
abbrev pub used_after : List ℕ → ℕ → ℕ → List ℕ
used_after used number new = pick (eqb number 0) (sets used 0 (new ∷ [])) used
