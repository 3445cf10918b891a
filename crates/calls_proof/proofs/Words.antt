-- Words in a row, and the word of an op, run as the ops do.
use mathlib.Core.Path.{◌≡◌, refl, ap, ◌∙◌}
use Prim.Native.Nat.{ℕ}
use mathlib.Core.List.{List, [], ◌∷◌, ◌++◌, map, map-append}
use Rattle.op.specs.declared.Op.{Op}
use Rattle.op.specs.Words.{Ranged, word, parts}
use Rattle.op.proofs.Words.{parts-word}
use Rattle.machine.specs.Machine.{State, World, step, run, run_words}
use Rattle.machine.proofs.Machine.{run-append}

-- words in a row, one after the other
pub words_append : (w : World) (xs ys : List ℕ) (st : State) → run_words w (xs ++ ys) st ≡ run_words w ys (run_words w xs st)
unfolding run_words
words_append w xs ys st = ap (λ (os : List Op). run w os st) (map-append parts xs ys) ∙ run-append w (map parts xs) (map parts ys) st

pub words_none : (w : World) (st : State) → run_words w [] st ≡ st
unfolding run_words
words_none w st = refl

-- the word of an op that fits its bits
pub words_op : (w : World) (o : Op) (xs : List ℕ) (st : State) → Ranged o → run_words w (word o ∷ xs) st ≡ run_words w xs (step w o st)
unfolding run_words
words_op w o xs st r = ap (λ (p : Op). run w (map parts xs) (step w p st)) (parts-word o r)
