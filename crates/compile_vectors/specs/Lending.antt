-- The buffers that are lent.
use Rattle.std.specs.Prelude.{◌≤◌}
use Rattle.compile_vectors.specs.declared.Parts.{Parts}

-- no more words of a buffer than it has
pub record Fits (r : Parts) : Type 0 where
  pub functions : r.functions ≤ 64
  pub ops : r.ops.lent ≤ 2048
  pub spans : r.spans.lent ≤ 2048
  pub globals : r.globals.lent ≤ 256
  pub builtins : r.builtins.lent ≤ 32
  pub switches : r.switches.lent ≤ 64
  pub targets : r.targets.lent ≤ 4352
  pub lookups : r.lookups.lent ≤ 64
  pub values : r.values.lent ≤ 8448
  pub places : r.places.lent ≤ 384
  pub hints : r.hints ≤ 384
  pub noted : r.noted ≤ 384
  pub labels : r.labels ≤ 3200
