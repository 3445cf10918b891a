-- Two values in use at once never share a place, on every machine with 22 to 64 registers.
use Rattle.sharing.specs.Sharing.{SharingTheorem}
use Rattle.sharing.proofs.Whole.{all_placed_lem, all_apart}
use Rattle.sharing.proofs.Parameters.{params_apart}
use Rattle.sharing.proofs.Calls.{call-noted-only, call-noted_all}

pub sharing : SharingTheorem
sharing n least most ws g =
    record {
      placed = all_placed_lem n ws g.once g.places;
      apart = all_apart n ws g.once g.places;
      parameters = params_apart n ws g.once g.intervals g.places;
      noted = λ i v r at c d k l h. call-noted-only n ws g i r at c v d k h;
      notes = λ i v r at c d k l f. call-noted_all n ws g i r at c v d k l f;
    }
