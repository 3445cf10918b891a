-- What is judged before anything is written: used lengths, labels and an entry in the function table.
use Rattle.std.specs.Prelude.{◌≡◌, ℕ, min, Bool, List, leb, ltb, length}
use Rattle.base.specs.Limits.{most_of_a_kind}
use Rattle.input.specs.Layout.{function_id}
use Rattle.input.specs.Forms.{both}
use Rattle.lists.specs.declared.Used.{Used}
use Rattle.used.specs.Used.{within, slots_within, labels_for}
use Rattle.first_checks.specs.declared.Lengths.{Lengths}
use Rattle.first_checks.specs.Buffers.{Buffers}

-- 2: a used length beyond its buffer, or of a kind above 65,534
unfoldable pub used_ok : Buffers → Used → Bool
used_ok b u =
    both (within 1 u.ops (length b.ops))
    (both (within 1 u.ops (length b.spans))
    (both (within 2 u.globals (length b.globals))
    (both (within 1 u.builtins (length b.builtins))
    (both (within 3 u.switches (length b.switches))
    (both (slots_within 1 u.targets (length b.targets))
    (both (within 5 u.lookups (length b.lookups))
    (slots_within 2 u.values (length b.values))))))))

-- 9: more labels than are lent, or no entry in the function table
unfoldable pub entry_ok : List ℕ → Buffers → Bool
entry_ok ws b =
    both (leb (labels_for ws) (length b.labels)) (ltb (function_id ws) (min (length b.functions) most_of_a_kind))

-- the lengths of the buffers, as the code takes them
pub record Sized (n : Lengths) (b : Buffers) : Type 0 where
  pub ops : n.ops ≡ length b.ops
  pub spans : n.spans ≡ length b.spans
  pub globals : n.globals ≡ length b.globals
  pub builtins : n.builtins ≡ length b.builtins
  pub functions : n.functions ≡ length b.functions
  pub switches : n.switches ≡ length b.switches
  pub targets : n.targets ≡ length b.targets
  pub lookups : n.lookups ≡ length b.lookups
  pub values : n.values ≡ length b.values
  pub labels : n.labels ≡ length b.labels
