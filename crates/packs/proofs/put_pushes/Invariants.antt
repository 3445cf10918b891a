-- What is left of the pushes gives the whole.
use Rattle.std.proofs.Common.{◌≡◌, ℕ, List, map}
use Rattle.std.specs.Slice.Iter.{chunks_rest, chunks_size}
use Rattle.base.specs.Emission.{emit_all}
use Rattle.base.proofs.Pens.{Left}
use Rattle.op.specs.Words.{word}
use Rattle.machine.specs.Stack.{pushes_of}
use Rattle.packs.proofs.put_pushes.Given as goal

abbrev pub invariant-loop-part : goal.invariant-loop-part
invariant-loop-part v = (chunks_size v.part-iterator ≡ 3)
    × ((l : List ℕ) → Left (emit_all (map word (pushes_of (chunks_rest v.part-iterator)))) (emit_all (map word (pushes_of v.regs))) v.initial.ops v.initial.spans l v.initial.q v.ops v.spans l v.q)
