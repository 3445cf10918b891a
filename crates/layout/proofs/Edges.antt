-- An edge in the finished function: its moves, then a Jmp to its target's first op, or that op itself.
use mathlib.Core.Path.{◌≡◌, refl, sym, ap, ◌∙◌}
use mathlib.Core.Logic.{◌≢◌, ⊎_elim}
use mathlib.Core.Bool.{Bool, true, false}
use Prim.Native.Nat.{ℕ, suc, ◌+◌, ◌≤◌, ◌<◌}
use mathlib.Core.List.{List, [], ◌∷◌, map}
use native.Mathlib.Nat.{add-zero}
use native.Mathlib.Omega.{arith}
use borrow.Author.Tests.{ltb-true, ltb-false, lt-ltb, eq-eqb, ne_eqb}
use lib.Dec.{ltb, eqb}
use lib.ListN.{length, get_or, length-append, length-map}
use Rattle.base.specs.Choice.{pick}
use Rattle.base.specs.Emission.{Out, emit, emit_all}
use Rattle.base.proofs.Numbers.{pick-both, same?}
use Rattle.base.proofs.Pens.{emit_all-ops}
use Rattle.place.specs.Registers.{scratch_of, tmp_of}
use Rattle.place.specs.Places.{slots_from}
use Rattle.op.specs.declared.Op.{Op}
use Rattle.op.specs.Words.{word}
use Rattle.op.specs.Ops as op
use Rattle.op.specs.Targets.{aimed}
use Rattle.moves.specs.Moves.{move_ops, first_ready, turn_ops, turns, moves, move_words}
use Rattle.input.specs.Records.{edge_target}
use Rattle.edges.specs.Pairs.{differing_sources, differing_destinations, move_pairs}
use Rattle.edges.specs.Edges.{edge_sources, edge_destinations, has_moves, jump_to, edge}
use Rattle.edges_proof.specs.EdgesRight.{edge_words}
use Rattle.instrs.specs.Instrs.{Env}
use Rattle.layout.specs.Layout.{Stands, block_pc, jumps, falls, EdgeAt}
use Rattle.layout.proofs.Straight.{moves_go}
use Rattle.layout.proofs.Adding.{Adds, Any, adds_then, adds_any, adds_all, adds_emit, adds_few, between_at, emit_long}
use Rattle.layout.proofs.Finish.{Finished, JumpOp, jump_there, run_stands}

-- ---- the moves of an edge, none where it has none
differing_long : (ss ds : List ℕ) → length (differing_sources ss ds) ≡ length (differing_destinations ss ds)
differing_long [] ds = refl
differing_long (s ∷ ss) [] = refl
differing_long (s ∷ ss) (d ∷ ds) = go (eqb s d) (differing_long ss ds)
  where
    go : (t : Bool) → length (differing_sources ss ds) ≡ length (differing_destinations ss ds)
        → length (pick t (differing_sources ss ds) (s ∷ differing_sources ss ds)) ≡ length (pick t (differing_destinations ss ds) (d ∷ differing_destinations ss ds))
    go true e = e
    go false e = ap suc e

no_moves : (n : ℕ) (ss ds : List ℕ) → length ds ≤ 0 → move_words n ss ds ≡ []
unfolding move_words moves turns
no_moves n ss [] h = refl
no_moves n ss (d ∷ ds) h = absurd (omega arith)

move_some : (tmp s d : ℕ) → 1 ≤ length (map word (move_ops tmp s d))
move_some tmp s d =
    pick-both (λ (x : List Op). 1 ≤ length (map word x)) (ltb s slots_from) _ _
    (pick-both (λ (x : List Op). 1 ≤ length (map word x)) (ltb d slots_from) _ _ (omega arith) (omega arith))
    (pick-both (λ (x : List Op). 1 ≤ length (map word x)) (ltb d slots_from) _ _ (omega arith) (omega arith))

turn-some : (sc tmp : ℕ) (ss ds : List ℕ) → 0 < length ds → 1 ≤ length (map word (turn_ops sc tmp ss ds))
unfolding turn_ops
turn-some sc tmp ss ds h =
    pick-both (λ (x : List Op). 1 ≤ length (map word x)) (ltb (first_ready ss ds) (length ds)) _ _
    (move_some tmp (get_or ss (first_ready ss ds) 0) (get_or ds (first_ready ss ds) 0))
    (rw (lt-ltb 0 (length ds) h) (move_some tmp (get_or ss 0 0) sc))

some-moves : (n : ℕ) (ss ds : List ℕ) → 0 < length ds → 1 ≤ length (move_words n ss ds)
unfolding move_words moves turns
some-moves n ss [] h = absurd (omega arith)
some-moves n ss (d ∷ ds) h =
    let t = turn-some (scratch_of n) (tmp_of n) ss (d ∷ ds) (omega arith) in
    let f : length (d ∷ ds) + length (d ∷ ds) ≡ suc (length ds + suc (length ds)) = omega arith in
    rw f (simp (length-map, length-append) (omega (arith, simp length-map at t)))

module _ (n : ℕ) (ws places : List ℕ) (e : ℕ) where
  words_none : has_moves ws places e ≡ false → edge_words n ws places e ≡ []
  unfolding has_moves edge_words
  words_none h =
      no_moves n _ _
      (omega (arith, ltb-false 0 (length (differing_sources (edge_sources ws places e) (edge_destinations ws places e))) h, differing_long (edge_sources ws places e) (edge_destinations ws places e)))

  words_some : has_moves ws places e ≡ true → 1 ≤ length (edge_words n ws places e)
  unfolding has_moves edge_words
  words_some h =
      some-moves n _ _
      (omega (arith, ltb-true 0 (length (differing_sources (edge_sources ws places e) (edge_destinations ws places e))) h, differing_long (edge_sources ws places e) (edge_destinations ws places e)))

  -- ---- what the rule adds
  module _ (next : ℕ) (q : Out) where
    edge_falls : edge_target ws e ≡ next → edge n ws places next e q ≡ emit_all (edge_words n ws places e) q
    unfolding edge move_pairs edge_words jump_to
    edge_falls h = rw (eq-eqb (edge_target ws e) next h)

    edge_jumps : edge_target ws e ≢ next
        → edge n ws places next e q ≡ emit (word (op.jmp (edge_target ws e))) (emit_all (edge_words n ws places e) q)
    unfolding edge move_pairs edge_words jump_to
    edge_jumps h = rw (ne_eqb (edge_target ws e) next h)

    pub edge_adds : Adds Any q (edge n ws places next e q)
    edge_adds =
        ⊎_elim
        (λ (h : edge_target ws e ≡ next). rw (edge_falls h) (adds_all q (edge_words n ws places e)))
        (λ (h : edge_target ws e ≢ next).
        rw (edge_jumps h)
        (adds_then (adds_all q (edge_words n ws places e)) (adds_emit (emit_all (edge_words n ws places e) q) (word (op.jmp (edge_target ws e))))))
        (same? (edge_target ws e) next)

    -- two ops at least, where it has moves and can't fall through
    pub edge_two : has_moves ws places e ≡ true → edge_target ws e ≢ next → length q.ops + 2 ≤ length (edge n ws places next e q).ops
    edge_two m h =
        let l : length (emit_all (edge_words n ws places e) q).ops ≡ length q.ops + length (edge_words n ws places e) =
        (simp length-append at (ap length (emit_all-ops (edge_words n ws places e) q))) in
        let k : length (emit (word (op.jmp (edge_target ws e))) (emit_all (edge_words n ws places e) q)).ops ≡ length (emit_all (edge_words n ws places e) q).ops + 1 =
        emit_long (word (op.jmp (edge_target ws e))) (emit_all (edge_words n ws places e) q) in
        rw (edge_jumps h) (omega (arith, l, k, words_some m))

-- ---- in the finished function
jump-op : JumpOp (op.jmp 0)
jump-op = record { low = omega arith; high = omega arith; a_fits = omega arith; b_fits = omega arith; c_fits = omega arith }

module _ (n : ℕ) (env : Env) {from : ℕ} {B F : Out} (fin : Finished from B F) where
  -- a Jmp to a label
  jmp_there : {P : ℕ → Type 0} (t : ℕ) (q : Out) → t < 65536 → from ≤ length q.ops → Adds P (emit (word (op.jmp t)) q) B
      → get_or F.ops (length q.ops) 0 ≡ word (op.jmp (block_pc F t))
  unfolding aimed adds_emit
  jmp_there t q s h y =
      let x : Adds Any q (emit (word (op.jmp t)) q) = adds_emit q (word (op.jmp t)) in
      let z : length q.ops + 0 ≡ length q.ops = add-zero (length q.ops) in
      jump_there fin (length q.ops) h (omega (arith, adds_few y, emit_long (word (op.jmp t)) q)) t (op.jmp 0) jump-op s
      (rw z at (between_at x y 0 (omega arith)))

  module _ {P : ℕ → Type 0} (next e : ℕ) (q : Out) (h : from ≤ length q.ops) (y : Adds P (edge n env.ws env.places next e q) B)
      (small : edge_target env.ws e < 65536)
      (follows : edge_target env.ws e ≡ next → length (edge n env.ws env.places next e q).ops ≡ block_pc F next) where
    abbrev W : List ℕ
    W = edge_words n env.ws env.places e

    abbrev t : ℕ
    t = edge_target env.ws e

    long : length (emit_all W q).ops ≡ length q.ops + length W
    long = simp length-append at (ap length (emit_all-ops W q))

    moved : {Q : ℕ → Type 0} → Adds Q (emit_all W q) B → Stands F.ops (length q.ops) W
    unfolding adds_all edge_words
    moved z = run_stands fin (adds_all q W) z h (moves_go n _ _)

    pub edge_at : EdgeAt n env F e (length q.ops)
    edge_at =
        ⊎_elim
        (λ (g : t ≡ next).
        let y' : Adds P (emit_all W q) B = rw (edge_falls n env.ws env.places e next q g) at y in
        let l : length (emit_all W q).ops ≡ block_pc F t =
        ap (λ (o : Out). length o.ops) (sym (edge_falls n env.ws env.places e next q g)) ∙ follows g ∙ ap (block_pc F) (sym g) in
        record { moves = moved y'; on = falls (sym long ∙ l) })
        (λ (g : t ≢ next).
        let y' : Adds P (emit (word (op.jmp t)) (emit_all W q)) B = rw (edge_jumps n env.ws env.places e next q g) at y in
        record {
          moves = moved (adds_then (adds_any (adds_emit (emit_all W q) (word (op.jmp t)))) y');
          on = jumps (rw (← long) (jmp_there t (emit_all W q) small (omega (arith, long)) y'));
        })
        (same? t next)

  -- an edge without moves is entered at its target
  pub edge_bare : (e : ℕ) → has_moves env.ws env.places e ≡ false → EdgeAt n env F e (block_pc F (edge_target env.ws e))
  edge_bare e h =
      let w = words_none n env.ws env.places e h in
      record { moves = rw w; on = falls (rw w (add-zero (block_pc F (edge_target env.ws e)))) }
