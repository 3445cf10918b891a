-- What the steps of compiling know and leave.
use Rattle.std.specs.Prelude.{◌≡◌, ℕ, List, Result, IfOk, OnErr}
use Rattle.base.specs.Buffers.{zero_from}
use Rattle.refusal.specs.declared.Refusal.{Refusal}
use Rattle.lists.specs.declared.Used.{Used}
use Rattle.lists.specs.Lists.{global_words, switch_words, lookup_words, value_words}
use Rattle.first_checks.specs.Buffers.{Buffers}
use Rattle.compile.specs.Program.{Outcome, answer_number}
use Rattle.compile.specs.Compile.{refusal, done_of}

-- Done, but for the work room: the used lengths and every output buffer.
pub record Finished (o : Outcome) (u : Used) (b : Buffers) : Type 0 where
  pub used_is : u ≡ o.used
  pub ops_is : b.ops ≡ o.buffers.ops
  pub spans_is : b.spans ≡ o.buffers.spans
  pub globals_is : b.globals ≡ o.buffers.globals
  pub builtins_is : b.builtins ≡ o.buffers.builtins
  pub functions_is : b.functions ≡ o.buffers.functions
  pub switches_is : b.switches ≡ o.buffers.switches
  pub targets_is : b.targets ≡ o.buffers.targets
  pub lookups_is : b.lookups ≡ o.buffers.lookups
  pub values_is : b.values ≡ o.buffers.values
  pub places_is : b.places ≡ o.buffers.places

-- Refused, but for zeroing: what stands before the used lengths is kept, and so is the function table.
pub record Kept (u : Used) (b b' : Buffers) : Type 0 where
  pub ops_kept : zero_from b'.ops u.ops ≡ zero_from b.ops u.ops
  pub spans_kept : zero_from b'.spans u.ops ≡ zero_from b.spans u.ops
  pub globals_kept : zero_from b'.globals (global_words u) ≡ zero_from b.globals (global_words u)
  pub builtins_kept : zero_from b'.builtins u.builtins ≡ zero_from b.builtins u.builtins
  pub functions_kept : b'.functions ≡ b.functions
  pub switches_kept : zero_from b'.switches (switch_words u) ≡ zero_from b.switches (switch_words u)
  pub targets_kept : zero_from b'.targets u.targets ≡ zero_from b.targets u.targets
  pub lookups_kept : zero_from b'.lookups (lookup_words u) ≡ zero_from b.lookups (lookup_words u)
  pub values_kept : zero_from b'.values (value_words u) ≡ zero_from b.values (value_words u)

-- What an attempt leaves of the buffers b: b'.
pub record Attempted (n : ℕ) (ws : List ℕ) (u : Used) (b b' : Buffers) (r : Result Used Refusal) : Type 0 where
  pub number_is : answer_number r ≡ refusal n ws b u
  pub done : IfOk r (λ u'. Finished (done_of n ws b u) u' b')
  pub refused : OnErr r (Kept u b b')
