-- Calls and tails, on a machine with n registers.
use Rattle.std.specs.Prelude.{ℕ, zero, suc, ◌+◌, ◌-◌, ◌%◌, ◌^◌, max, List, [], ◌∷◌, map, reverse, leb, eqb, length}
use Rattle.base.specs.Choice.{pick}
use Rattle.base.specs.Masks.{has_bit}
use Rattle.base.specs.Emission.{Out, emit, emit_all}
use Rattle.place.specs.Registers.{first_kept}
use Rattle.op.specs.Words.{word}
use Rattle.op.specs.Ops as op
use Rattle.machine.specs.Calls.{Kind, function, builtin}
use Rattle.machine.specs.Stack.{pushes_of, pops_of, raised}
use Rattle.program.specs.Functions.{function_kind, function_number, bytecode, native}
use Rattle.input.specs.Forms.{both}
use Rattle.lower.specs.Operands.{place_at, into}
use Rattle.edges.specs.Pairs.{move_pairs}

-- Push the noted registers below max(19, argument count), ascending; for Sys, below max(1, count).
abbrev pub pushed_below : Kind → ℕ → ℕ
pushed_below function arguments = max first_kept arguments
pushed_below builtin arguments = max 1 arguments

-- of the k registers from r on, those in the mask
unfoldable pub masked_from : ℕ → ℕ → ℕ → List ℕ
masked_from mask r zero = []
masked_from mask r (suc k) = pick (has_bit mask r) (r ∷ masked_from mask (r + 1) k) (masked_from mask (r + 1) k)

abbrev pub pushed_for : Kind → ℕ → ℕ → List ℕ
pushed_for kind noted arguments = masked_from noted 0 (pushed_below kind arguments)

-- Shuffle: argument i into register i; between pushes and pops every slot is raised by the pushes
abbrev pub argument_places : List ℕ → ℕ → List ℕ → List ℕ
argument_places places pushes [] = []
argument_places places pushes (v ∷ vs) = raised pushes (place_at places v) ∷ argument_places places pushes vs

abbrev pub argument_regs : ℕ → List ℕ → List ℕ
argument_regs i [] = []
argument_regs i (v ∷ vs) = i ∷ argument_regs (i + 1) vs

unfoldable pub shuffle : ℕ → List ℕ → ℕ → List ℕ → Out → Out
shuffle n places pushes arguments = move_pairs n (argument_places places pushes arguments) (argument_regs 0 arguments)

-- pushes, shuffle; op; Mov from 0; pops in reverse. A result in a slot is stored from TMP after the pops, so it is not raised.
unfoldable pub call_with : ℕ → List ℕ → List ℕ → List ℕ → ℕ → ℕ → Out → Out
call_with n places pushes arguments called dst =
    into n dst (λ d o.
    emit_all (map word (pops_of (reverse pushes)))
    (emit (word (op.mov d 0))
    (emit called
    (shuffle n places (length pushes) arguments
    (emit_all (map word (pushes_of pushes)) o)))))

-- the op that calls the function of a table word
unfoldable pub called_as : ℕ → ℕ
called_as f =
    pick (eqb (function_kind f) bytecode) (word (op.call (function_number f % 2 ^ 32)))
    (word (op.native (function_number f % 2 ^ 32) (function_kind f - native)))

-- Call and Sys, by the registers noted at the call
unfoldable pub lower_call : ℕ → List ℕ → ℕ → List ℕ → ℕ → ℕ → Out → Out
lower_call n places noted arguments f dst = call_with n places (pushed_for function noted (length arguments)) arguments (called_as f) dst

unfoldable pub lower_sys : ℕ → List ℕ → ℕ → List ℕ → ℕ → ℕ → Out → Out
lower_sys n places noted arguments number dst =
    call_with n places (pushed_for builtin noted (length arguments)) arguments (word (op.sys number (length arguments))) dst

-- Tail: above 19 arguments, Call or Native, then Ret. Else Tail; Native still adds Ret.
unfoldable pub tail_words : ℕ → ℕ → List ℕ
tail_words f arguments =
    pick (both (leb arguments first_kept) (eqb (function_kind f) bytecode)) (word (op.tail (function_number f % 2 ^ 32)) ∷ [])
    (called_as f ∷ word op.ret ∷ [])

unfoldable pub lower_tail : ℕ → List ℕ → List ℕ → ℕ → Out → Out
lower_tail n places arguments f o = emit_all (tail_words f (length arguments)) (shuffle n places 0 arguments o)
