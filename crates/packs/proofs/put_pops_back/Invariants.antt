-- What is left of the pops gives the whole.
use Rattle.std.proofs.Common.{◌≡◌, ℕ, List, map, reverse}
use Rattle.std.specs.Slice.Iter.{rchunks_rest, rchunks_size}
use Rattle.base.specs.Emission.{emit_all}
use Rattle.base.proofs.Pens.{Left}
use Rattle.op.specs.Words.{word}
use Rattle.machine.specs.Stack.{pops_of}
use Rattle.packs.proofs.put_pops_back.Given as goal

abbrev pub invariant-loop-part : goal.invariant-loop-part
invariant-loop-part v = (rchunks_size v.part-iterator ≡ 3)
    × ((l : List ℕ) → Left (emit_all (map word (pops_of (reverse (rchunks_rest v.part-iterator))))) (emit_all (map word (pops_of (reverse v.regs)))) v.initial.ops v.initial.spans l v.initial.q v.ops v.spans l v.q)
