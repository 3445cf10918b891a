-- The words of a file of bytes, and buffers held against them.
use Rattle.std.specs.Prelude.{ℕ, zero, suc, ◌+◌, ◌*◌, ◌/◌, Bool, true, false, List, [], ◌∷◌, ltb, eqb, length, get_or}
use Rattle.base.specs.Choice.{pick}

-- the four bytes from `at` on as a number, least byte first
abbrev pub four_from : List ℕ → ℕ → ℕ
four_from bytes at =
    get_or bytes at 0 + 256 * get_or bytes (at + 1) 0 + 65536 * (get_or bytes (at + 2) 0 + 256 * get_or bytes (at + 3) 0)

-- word i; 0 where the file does not have the whole of it
unfoldable pub word_at : List ℕ → ℕ → ℕ
word_at bytes i = pick (ltb i (length bytes / 4)) (four_from bytes (4 * i)) 0

-- words i and i + 1 as one number, low half first
unfoldable pub wide_at : List ℕ → ℕ → ℕ
wide_at bytes i = word_at bytes i + 4294967296 * word_at bytes (i + 1)

-- entry i of a list of the file that starts at word `at`: a word, or two as one number
abbrev pub word_in : List ℕ → ℕ → ℕ → ℕ
word_in bytes at i = word_at bytes (at + i)

abbrev pub wide_in : List ℕ → ℕ → ℕ → ℕ
wide_in bytes at i = wide_at bytes (at + 2 * i)

-- k entries from i on
unfoldable pub entries : {A : Type 0} → (ℕ → A) → ℕ → ℕ → List A
entries f i zero = []
entries f i (suc k) = f i ∷ entries f (i + 1) k

-- are k entries of a buffer from entry i on what they should be, by a test of two entries? Past its end stands `none`.
unfoldable pub alike_by : {A : Type 0} → (A → A → Bool) → A → (ℕ → A) → List A → ℕ → ℕ → Bool
alike_by same none f l i zero = true
alike_by same none f l i (suc k) = pick (same (get_or l i none) (f i)) (alike_by same none f l (i + 1) k) false

abbrev pub alike : (ℕ → ℕ) → List ℕ → ℕ → ℕ → Bool
alike = alike_by eqb 0

-- what should stand at i: a list up to `used`, then the same entry everywhere
abbrev pub listed : {A : Type 0} → (ℕ → A) → ℕ → A → ℕ → A
listed f used rest i = pick (ltb i used) (f i) rest

-- the list that a row has at k: where it starts, and how many entries it has, each read as `read` says
abbrev pub list_by : {A : Type 0} → (List ℕ → ℕ → ℕ → A) → List ℕ → ℕ → ℕ → List A
list_by read text row k = entries (read text (word_in text row k)) 0 (word_in text row (k + 1))

abbrev pub narrow_list : List ℕ → ℕ → ℕ → List ℕ
narrow_list = list_by word_in

abbrev pub wide_list : List ℕ → ℕ → ℕ → List ℕ
wide_list = list_by wide_in

-- what should stand at i of a buffer: such a list, then the third number as an entry
abbrev pub entry_by : {A : Type 0} → (List ℕ → ℕ → ℕ → A) → (ℕ → A) → List ℕ → ℕ → ℕ → ℕ → A
entry_by read of text row k = listed (read text (word_in text row k)) (word_in text row (k + 1)) (of (word_in text row (k + 2)))

abbrev pub narrow_entry : List ℕ → ℕ → ℕ → ℕ → ℕ
narrow_entry = entry_by word_in (λ word. word)

abbrev pub wide_entry : List ℕ → ℕ → ℕ → ℕ → ℕ
wide_entry = entry_by wide_in (λ word. word)
