-- Where a function finds no room, its buffers and its entry in the table are as they were.
use mathlib.Core.Path.{◌≡◌, ◌∙◌}
use Prim.Native.Nat.{ℕ}
use mathlib.Core.List.{List}
use lib.ListN.{length, get_or, take, set}
use lib.Seq.{set-set, set-get_or}
use Rattle.base.proofs.Buffers.{zero_from-same}
use Rattle.own_entry.specs.OwnEntry.{NotPut}
use Rattle.lists.specs.declared.Used.{Used}

pub as_before : (u : Used) (id w : ℕ) {ops spans ops'' spans'' functions functions₁ functions'' : List ℕ} {x : ℕ}
    → take u.ops ops'' ≡ take u.ops ops → length ops'' ≡ length ops → take u.ops spans'' ≡ take u.ops spans → length spans'' ≡ length spans
    → functions₁ ≡ set functions id w → x ≡ get_or functions id 0 → functions'' ≡ set functions₁ id x
    → NotPut u ops spans functions ops'' spans'' functions''
as_before u id w {ops} {spans} {ops''} {spans''} {functions} e m f n a b c =
    record {
      ops_kept = zero_from-same ops'' ops u.ops e m;
      spans_kept = zero_from-same spans'' spans u.ops f n;
      functions_kept = c ∙ rw (a, b) (set-set functions id w (get_or functions id 0) ∙ set-get_or functions id 0);
    }
