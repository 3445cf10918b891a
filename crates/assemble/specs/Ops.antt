-- What the parts of the code that put one function's ops start with, and what they leave.
use Rattle.std.specs.Prelude.{◌≡◌, true, false, ℕ, ◌+◌, ◌≤◌, ◌<◌, List, length, get_or, take}
use Rattle.std.proofs.lemmas.List.Edits.{sets}
use Rattle.base.specs.declared.Pen.{Pen}
use Rattle.base.specs.Emission.{Out}
use Rattle.place.specs.Registers.{registers}
use Rattle.input.specs.Layout.{function_span}
use Rattle.lower.specs.Operands.{place_at}
use Rattle.instrs.specs.Instrs.{Env}
use Rattle.body.specs.Body.{body_ops}
use Rattle.frame.specs.Frames.{framed}
use Rattle.lists.specs.declared.Used.{Used}
use Rattle.used.specs.Pens.{last_of, op_room}

-- what a pen behind so many used ops stands behind
abbrev pub out_at : List ℕ → List ℕ → List ℕ → List ℕ → ℕ → Out
out_at ws ops spans labels used =
    record { ops = take used ops; spans = take used spans; labels = labels; last = last_of ops used; span = function_span ws }

-- a function that pushes these registers
abbrev pub out_of : List ℕ → Env → Used → Out → Out
out_of regs env u = framed regs (function_span env.ws) (body_ops registers env u.switches u.lookups)

-- every place is far from the end of the numbers
pub record PlacesLow (places : List ℕ) : Type 0 where
  pub low : (v : ℕ) → place_at places v + 62 < 4294967296

-- no label is bound, and the frame has 192 registers at most
pub record FrameReady (labels regs : List ℕ) : Type 0 where
  pub unbound : (t : ℕ) → ◌≡◌ {A = ℕ} (get_or labels t 0) 0
  pub few : length regs ≤ 192

-- all of it found room
pub record Fits (out : Out) (ops spans ops'' spans'' labels'' : List ℕ) (at : ℕ) : Type 0 where
  pub at_is : at ≡ length out.ops
  pub few : length out.ops ≤ op_room ops spans
  pub ops_is : ops'' ≡ sets ops 0 out.ops
  pub spans_is : spans'' ≡ sets spans 0 out.spans
  pub labels_is : labels'' ≡ out.labels
  pub labels_low : (t : ℕ) → get_or labels'' t 0 < 4294967296

-- it did or it did not; what stands before the used length is kept
pub record OpsPut (out : Out) (used : ℕ) (ops spans ops'' spans'' labels'' : List ℕ) (p : Pen) : Type 0 where
  pub fits : p.full ≡ false → Fits out ops spans ops'' spans'' labels'' p.at
  pub over : p.full ≡ true → op_room ops spans < length out.ops
  pub ops_kept : take used ops'' ≡ take used ops
  pub spans_kept : take used spans'' ≡ take used spans
