-- Where the ops of a function stand in the finished program, after frames and label resolution, and how control goes from one to the next.
-- Block b has the label b, so the pc of its first op is what that label became.
use Rattle.std.specs.Prelude.{◌≡◌, ◌≢◌, ◌⊎◌, Bool, true, false, ℕ, ◌+◌, ◌*◌, ◌-◌, ◌≤◌, ◌<◌, List, [], ◌∷◌, ◌++◌, eqb, length, get_or, take, drop}
use Rattle.base.specs.Choice.{pick}
use Rattle.base.specs.Emission.{Out}
use Rattle.place.specs.Registers.{scratch_of, tmp_of}
use Rattle.place.specs.Places.{slots_from}
use Rattle.op.specs.declared.Op.{Op}
use Rattle.op.specs.Words.{word, parts}
use Rattle.op.specs.Ops as op
use Rattle.op.specs.Targets.{is_jump, aimed}
use Rattle.input.specs.Forms.{words_ok}
use Rattle.input.specs.Records as in_words
use Rattle.input.specs.Records.{first_instr, instr_count, instr_kind, term_kind, term_operand_count, term_operands, first_edge, term_x, term_y, edge_target}
use Rattle.shape.specs.Shape.{shape_ok}
use Rattle.ready.specs.Ready.{Ready, Live}
use Rattle.calls.specs.Calls.{tail_words}
use Rattle.instrs.specs.Instrs.{Env, instr_ops}
use Rattle.terms.specs.Terms.{term_place}
use Rattle.body.specs.Body.{body_ops}
use Rattle.frame.specs.Frames.{prologue, epilogue, framed}
use Rattle.edges_proof.specs.EdgesRight.{edge_words}
use Rattle.calls_proof.specs.CallsRight.{shuffle_words}
use Rattle.used.specs.Used.{labels_for}
use Rattle.tables.specs.Tables.{case_keys, slot_for, slot_count, switch_head, lookup_head, switch_heads_after, switch_targets_after, lookup_heads_after}

-- words stand in a program from pc on
abbrev pub Stands : List ℕ → ℕ → List ℕ → Type 0
Stands ops pc l = take (length l) (drop pc ops) ≡ l

-- the pc of block b's first op
abbrev pub block_pc : Out → ℕ → ℕ
block_pc out b = get_or out.labels b 0

-- an op behind which control always goes on to the next: no jump, Switch, Tail, Ret or Halt
abbrev pub goes_on : ℕ → Bool
goes_on w =
    pick (is_jump (parts w).code) false
    (pick (eqb (parts w).code (op.switch 0 0).code) false
    (pick (eqb (parts w).code (op.tail 0).code) false
    (pick (eqb (parts w).code (op.ret).code) false
    (pick (eqb (parts w).code 1) false true))))

-- control goes to block t from pc: a Jmp to its first op stands there, or its first op itself
pub data GoesTo (out : Out) (t pc : ℕ) : Type 0 where
  jumps : get_or out.ops pc 0 ≡ word (op.jmp (block_pc out t)) → GoesTo out t pc
  falls : pc ≡ block_pc out t → GoesTo out t pc

-- edge e is entered at pc: its moves, then its target
pub record EdgeAt (n : ℕ) (env : Env) (out : Out) (e pc : ℕ) : Type 0 where
  pub moves : Stands out.ops pc (edge_words n env.ws env.places e)
  pub on : GoesTo out (edge_target env.ws e) (pc + length (edge_words n env.ws env.places e))

-- ---- instructions: from pc to pc' stand the ops that the rule emits behind some ops that end at pc, and control goes from each to the next.
-- A Lookup names its table, whose slots start at `start` among all values, as the table's head says.
pub record InstrAt (n : ℕ) (env : Env) (out : Out) (lookup_heads : List ℕ) (i pc pc' : ℕ) : Type 0 where
  pub table : ℕ
  pub start : ℕ
  pub head : instr_kind env.ws i ≡ in_words.lookup → take 5 (drop (5 * table) lookup_heads) ≡ lookup_head env.ws i start
  pub before : Out
  pub from : length before.ops ≡ pc
  pub until : length (instr_ops n env table i before).ops ≡ pc'
  pub stands : Stands out.ops pc (drop pc (instr_ops n env table i before).ops)
  pub straight : (at : ℕ) → pc ≤ at → at < pc' → goes_on (get_or out.ops at 0) ≡ true

-- ---- terminators, from pc on

-- An operand at place p is in register reg at `at`: in its own, or in SCRATCH or TMP, where the op at pc loads it from its slot.
pub data Fetched (n : ℕ) (out : Out) (p reg : ℕ) : ℕ → ℕ → Type 0 where
  there : {pc : ℕ} → p < slots_from → reg ≡ p → Fetched n out p reg pc pc
  loaded : {pc : ℕ} → slots_from ≤ p → (reg ≡ scratch_of n) ⊎ (reg ≡ tmp_of n) → get_or out.ops pc 0 ≡ word (op.load_slot reg (p - slots_from))
      → Fetched n out p reg pc (pc + 1)

-- The ops of the branches, without their target, which stand at `at` behind the fetches of their operands. Two slots are loaded to two registers.
pub data BranchOp (n : ℕ) (env : Env) (out : Out) (b pc at : ℕ) : Op → Type 0 where
  on_false : (c : ℕ) → term_kind env.ws b ≡ in_words.branch → Fetched n out (term_place env.ws env.places b 0) c pc at
      → BranchOp n env out b pc at (op.jmp_f c 0)
  on_other : (l : ℕ) → term_kind env.ws b ≡ in_words.branch_cmp_imm → Fetched n out (term_place env.ws env.places b 0) l pc at
      → BranchOp n env out b pc at (op.jmp_ne_i l (term_y env.ws b) 0)
  on_unequal : (l r mid : ℕ) → term_kind env.ws b ≡ in_words.branch_cmp → Fetched n out (term_place env.ws env.places b 0) l pc mid
      → Fetched n out (term_place env.ws env.places b 1) r mid at
      → (slots_from ≤ term_place env.ws env.places b 0 → slots_from ≤ term_place env.ws env.places b 1 → l ≢ r)
      → BranchOp n env out b pc at (op.jmp_s_ne l r 0)

-- A branch jumps to its no edge, or goes on to its yes edge.
pub record BranchAt (n : ℕ) (env : Env) (out : Out) (b pc : ℕ) : Type 0 where
  pub jump : Op
  pub at : ℕ
  pub by : BranchOp n env out b pc at jump
  pub no_pc : ℕ
  pub jumps : get_or out.ops at 0 ≡ word (aimed no_pc jump)
  pub no : EdgeAt n env out (first_edge env.ws b) no_pc
  pub yes : EdgeAt n env out (first_edge env.ws b + 1) (at + 1)

-- case i of block b is the last one with its key
abbrev pub LastOfKey : List ℕ → ℕ → ℕ → Type 0
LastOfKey ws b i =
    (j : ℕ) → i < j → j < term_y ws b → slot_for ws (case_keys ws b) (term_x ws b + j) ≢ slot_for ws (case_keys ws b) (term_x ws b + i)

-- A Switch goes by the slots of its table, which start at `start` among all targets, as the table's head says, or on to its default edge. A slot
-- with a case enters the case's edge; one without a case goes straight to the default's block and enters no edge.
pub record SwitchAt (n : ℕ) (env : Env) (out : Out) (targets heads : List ℕ) (b pc : ℕ) : Type 0 where
  pub table : ℕ
  pub start : ℕ
  pub head : take 3 (drop (3 * table) heads) ≡ switch_head env.ws b start
  pub reg : ℕ
  pub at : ℕ
  pub fetches : Fetched n out (term_place env.ws env.places b 0) reg pc at
  pub switches : get_or out.ops at 0 ≡ word (op.switch reg table)
  pub default : EdgeAt n env out (first_edge env.ws b + term_y env.ws b) (at + 1)
  pub case : (i : ℕ) → i < term_y env.ws b → LastOfKey env.ws b i
      → EdgeAt n env out (first_edge env.ws b + i) (get_or targets (start + slot_for env.ws (case_keys env.ws b) (term_x env.ws b + i)) 0)
  pub hole : (s : ℕ) → s < slot_count env.ws (case_keys env.ws b)
      → ((i : ℕ) → i < term_y env.ws b → slot_for env.ws (case_keys env.ws b) (term_x env.ws b + i) ≢ s)
      → get_or targets (start + s) 0 ≡ block_pc out (edge_target env.ws (first_edge env.ws b + term_y env.ws b))

-- Control leaves the function by w, a Tail or Ret, from pc: w stands there; or there is a frame, whose pops stand elsewhere with w behind them,
-- and at pc a Jmp to the first of them, or a Nop right before it.
pub data Leaves (regs : List ℕ) (out : Out) (w pc : ℕ) : Type 0 where
  plain : length regs ≡ 0 → get_or out.ops pc 0 ≡ w → Leaves regs out w pc
  by_jump : 0 < length regs → (exit : ℕ) → get_or out.ops pc 0 ≡ word (op.jmp exit) → Stands out.ops exit (epilogue regs ++ (w ∷ [])) → Leaves regs out w pc
  by_nop : 0 < length regs → get_or out.ops pc 0 ≡ word op.nop → Stands out.ops (pc + 1) (epilogue regs ++ (w ∷ [])) → Leaves regs out w pc

-- words from pc on: control goes on from each, and leaves by the last
pub data Ends (regs : List ℕ) (out : Out) : List ℕ → ℕ → Type 0 where
  leaves : {w pc : ℕ} → Leaves regs out w pc → Ends regs out (w ∷ []) pc
  goes : {w pc : ℕ} {l : List ℕ} → get_or out.ops pc 0 ≡ w → goes_on w ≡ true → Ends regs out l (pc + 1) → Ends regs out (w ∷ l) pc

-- A TailCall shuffles its arguments, then leaves by Tail, or by the op that calls and a Ret.
pub record TailAt (n : ℕ) (env : Env) (regs : List ℕ) (out : Out) (b pc : ℕ) : Type 0 where
  pub shuffles : Stands out.ops pc (shuffle_words n env.places 0 (term_operands env.ws b))
  pub ends : Ends regs out (tail_words (get_or env.functions (term_x env.ws b) 0) (length (term_operands env.ws b)))
      (pc + length (shuffle_words n env.places 0 (term_operands env.ws b)))

-- A Return leaves by Ret; one with a value moves it to register 0 right before.
pub data ReturnAt (n : ℕ) (env : Env) (regs : List ℕ) (out : Out) (b pc : ℕ) : Type 0 where
  nothing : term_operand_count env.ws b ≡ 0 → Leaves regs out (word op.ret) pc → ReturnAt n env regs out b pc
  value : (reg at : ℕ) → term_operand_count env.ws b ≢ 0 → Fetched n out (term_place env.ws env.places b 0) reg pc at
      → get_or out.ops at 0 ≡ word (op.mov 0 reg) → Leaves regs out (word op.ret) (at + 1) → ReturnAt n env regs out b pc

pub record TermAt (n : ℕ) (env : Env) (regs : List ℕ) (out : Out) (targets heads : List ℕ) (b pc : ℕ) : Type 0 where
  pub return : term_kind env.ws b ≡ in_words.return → ReturnAt n env regs out b pc
  pub jump : term_kind env.ws b ≡ in_words.jump → EdgeAt n env out (first_edge env.ws b) pc
  pub branch : in_words.branch ≤ term_kind env.ws b → term_kind env.ws b ≤ in_words.branch_cmp → BranchAt n env out b pc
  pub switch : term_kind env.ws b ≡ in_words.switch → SwitchAt n env out targets heads b pc
  pub tail : term_kind env.ws b ≡ in_words.tail_call → TailAt n env regs out b pc

-- ---- a live block: from its first op through its instructions in order to its terminator, in a frame that saves regs
pub record BlockAt (n : ℕ) (env : Env) (regs : List ℕ) (out : Out) (targets heads lookup_heads : List ℕ) (b : ℕ) : Type 0 where
  -- the pc of each instruction, and behind the last of the terminator
  pub at : ℕ → ℕ
  pub starts : at 0 ≡ block_pc out b
  pub instrs : (j : ℕ) → j < instr_count env.ws b → InstrAt n env out lookup_heads (first_instr env.ws b + j) (at j) (at (j + 1))
  pub term : TermAt n env regs out targets heads b (at (instr_count env.ws b))

-- ---- a function that is entered at pc: its prologue stands there, no op without a frame, and block 0's first op right behind it
pub record EntryAt (regs : List ℕ) (out : Out) (pc : ℕ) : Type 0 where
  pub pushes : Stands out.ops pc (prologue regs)
  pub behind : pc + length (prologue regs) ≡ block_pc out 0

-- what is known of a function that is compiled: the machine, its words and shape, that every label has room, and that it found room
pub record Built (regs : List ℕ) (span n : ℕ) (env : Env) (switches lookups : ℕ) (o : Out) : Type 0 where
  pub registers_many : 22 ≤ n
  pub registers_few : n ≤ 64
  pub words : words_ok env.ws ≡ true
  pub shape : shape_ok env.ws ≡ true
  pub ready : Ready env.ws
  pub labels_there : labels_for env.ws ≤ length o.labels
  pub few : length (framed regs span (body_ops n env switches lookups) o).ops ≤ 65534

-- Every live block of a function stands so, whatever its frame. The slots of its switch tables, which stand behind `slots` others, are labels
-- before they are resolved; the heads of its tables stand behind those of `switches` and `lookups` others, and the slots of its lookup tables
-- behind `values` others.
abbrev pub LayoutTheorem : Type 0
LayoutTheorem =
    (regs : List ℕ) (span n : ℕ) (env : Env) (switches lookups slots values : ℕ) (o : Out)
    (before targets heads_before heads lookups_before lookup_heads : List ℕ)
    → Built regs span n env switches lookups o
    → length before ≡ slots
    → ((t : ℕ) → slots ≤ t → t < length (switch_targets_after env.ws env.places slots before) → get_or targets t 0 ≡ get_or (framed regs span (body_ops n env switches lookups) o).labels (get_or (switch_targets_after env.ws env.places slots before) t 0) 0)
    → length heads_before ≡ 3 * switches
    → heads ≡ switch_heads_after env.ws slots heads_before
    → length lookups_before ≡ 5 * lookups
    → lookup_heads ≡ lookup_heads_after env.ws values lookups_before
    → (b : ℕ) → Live env.ws b → BlockAt n env regs (framed regs span (body_ops n env switches lookups) o) targets heads lookup_heads b

-- It is entered right behind the ops that stood before it.
abbrev pub EntryTheorem : Type 0
EntryTheorem =
    (regs : List ℕ) (span n : ℕ) (env : Env) (switches lookups : ℕ) (o : Out) → Built regs span n env switches lookups o
    → EntryAt regs (framed regs span (body_ops n env switches lookups) o) (length o.ops)
