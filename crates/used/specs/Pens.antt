-- A pen behind the program's ops.
use Rattle.std.specs.Prelude.{false, ℕ, ◌-◌, min, List, eqb, get_or}
use Rattle.base.specs.Choice.{pick}
use Rattle.base.specs.declared.Pen.{Pen}
use Rattle.input.specs.Layout.{function_span}
use Rattle.lists.specs.Lists.{room}

-- the last op, 0 where there is none
abbrev pub last_of : List ℕ → ℕ → ℕ
last_of ops used = pick (eqb used 0) 0 (get_or ops (used - 1) 0)

-- how many ops there is room for
abbrev pub op_room : List ℕ → List ℕ → ℕ
op_room ops spans = min (room 1 ops) (room 1 spans)

-- a pen behind so many used ops
abbrev pub pen_at : List ℕ → List ℕ → List ℕ → ℕ → Pen
pen_at ws ops spans used =
    record { at = used; room = op_room ops spans; full = false; last = last_of ops used; span = function_span ws }
