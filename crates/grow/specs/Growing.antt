-- A list that grows in a lent buffer, however much of it finds room: the buffer starts with the list as far as there is room and is else as
-- it was. The end stands behind the last number that found room, and is full where one did not.
use Rattle.std.specs.Prelude.{◌≡◌, ◌≤◌, min, List, ltb, length, take}
use Rattle.std.proofs.lemmas.List.Edits.{sets}
use Rattle.grow.specs.declared.End.{End}

pub record Grown {A : Type 0} (buf₀ l buf : List A) (e : End) : Type 0 where
  pub lent : e.room ≤ length buf₀
  pub is : buf ≡ sets buf₀ 0 (take e.room l)
  pub at_is : e.at ≡ min (length l) e.room
  pub full_is : e.full ≡ ltb e.room (length l)

-- What a function does to a buffer and its end, said by what it does to the list that they hold, whichever that is.
pub record Grows {A : Type 0} (f : List A → List A) (buf : List A) (e : End) (buf' : List A) (e' : End) : Type 0 where
  pub room_kept : e'.room ≡ e.room
  pub go : (buf₀ l : List A) → Grown buf₀ l buf e → Grown buf₀ (f l) buf' e'
