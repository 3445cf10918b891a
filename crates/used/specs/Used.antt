-- Used lengths of a program's lists, and the labels that a function may have.
use Rattle.std.specs.Prelude.{ℕ, ◌+◌, ◌*◌, min, Bool, List, map, leb, ltb, get_or}
use Rattle.base.specs.Limits.{most_of_a_kind}
use Rattle.input.specs.Layout.{blocks, edges}
use Rattle.input.specs.Forms.{both}

-- So many records of so many words each are used of a buffer that has `size` words; there are at most 65,534 of a kind.
abbrev pub within : ℕ → ℕ → ℕ → Bool
within words used size = both (leb (words * used) size) (leb used most_of_a_kind)

-- slots of tables are counted in 32 bits
abbrev pub slots_within : ℕ → ℕ → ℕ → Bool
slots_within words used size = both (leb (words * used) size) (ltb used 4294967296)

-- Labels: two for each block and one for each pad. Blocks may name the same edges, so there are at most blocks · edges pads; a pad has two ops at
-- least, so no function has more than 32,767 of them.
abbrev pub labels_for : List ℕ → ℕ
labels_for ws = 2 * blocks ws + min (blocks ws * edges ws) 32767

-- slots that are labels become pcs
abbrev pub labels_at : List ℕ → List ℕ → List ℕ
labels_at labels l = map (λ t. get_or labels t 0) l
