-- Refusals 4 and 5, over the live blocks.
use Rattle.std.specs.Prelude.{ℕ, zero, suc, ◌+◌, Bool, true, false, List, [], ◌∷◌, ◌==◌, nat_le, nat_lt}
use Rattle.base.specs.Choice.{pick}
use Rattle.input.specs.Records.{start_of, end_of, params_of, operands_of, term_operands, first_edge, edge_count, edge_target, arguments_of}
use Rattle.input.specs.Forms.{both}
use Rattle.rows.specs.Rows.{Row, params, instr, term, rows_of, every, Ref, ref, refs, defined_by, defs_of, defined, row_in}

-- 4 DoubleDef: a value defined twice.
unfoldable pub once : List Ref → Bool
once [] = true
once (d ∷ ds) = pick (defined d.value ds) false (once ds)

abbrev pub once_ok : List ℕ → Bool
once_ok ws = once (defs_of ws)

-- 5 BadInterval. Each defined value needs start not 4,294,967,295, start at most end, and start < end exactly when row < end.
unfoldable pub fit_def : List ℕ → Ref → Bool
fit_def ws d =
    both (nat_lt (start_of ws d.value) 4294967295)
    (both (nat_le (start_of ws d.value) (end_of ws d.value))
    (pick (nat_lt d.row (end_of ws d.value)) (nat_lt (start_of ws d.value) (end_of ws d.value))
    (nat_le (end_of ws d.value) (start_of ws d.value))))

unfoldable pub fit_defs : List ℕ → List Ref → Bool
fit_defs ws [] = true
fit_defs ws (d ∷ ds) = both (fit_def ws d) (fit_defs ws ds)

-- A use needs the defining row earlier and end at or after the using row.
unfoldable pub fit_use : List ℕ → List Ref → Ref → Bool
fit_use ws ds u =
    both (defined u.value ds) (both (nat_lt (row_in u.value ds) u.row) (nat_le u.row (end_of ws u.value)))

unfoldable pub fit_uses : List ℕ → List Ref → List Ref → Bool
fit_uses ws ds [] = true
fit_uses ws ds (u ∷ us) = both (fit_use ws ds u) (fit_uses ws ds us)

-- An argument for an unread parameter (start = end) is exempt.
abbrev pub unread : List ℕ → ℕ → Bool
unread ws p = start_of ws p == end_of ws p

unfoldable pub fit_args : List ℕ → List Ref → ℕ → List ℕ → List ℕ → Bool
fit_args ws ds r [] ps = true
fit_args ws ds r (a ∷ xs) [] = true
fit_args ws ds r (a ∷ xs) (p ∷ ps) = both (pick (unread ws p) true (fit_use ws ds (ref r a))) (fit_args ws ds r xs ps)

-- the n edges from e on
unfoldable pub fit_edges : List ℕ → List Ref → ℕ → ℕ → ℕ → Bool
fit_edges ws ds r e zero = true
fit_edges ws ds r e (suc n) =
    both (fit_args ws ds r (arguments_of ws e) (params_of ws (edge_target ws e))) (fit_edges ws ds r (e + 1) n)

unfoldable pub fit_row : List ℕ → List Ref → ℕ → Row → Bool
fit_row ws ds r (params b) = fit_defs ws (refs r (params_of ws b))
fit_row ws ds r (instr i) = both (fit_uses ws ds (refs r (operands_of ws i))) (fit_defs ws (refs r (defined_by ws i)))
fit_row ws ds r (term b) =
    both (fit_uses ws ds (refs r (term_operands ws b))) (fit_edges ws ds r (first_edge ws b) (edge_count ws b))

abbrev pub intervals_ok : List ℕ → Bool
intervals_ok ws = every (fit_row ws (defs_of ws)) 0 (rows_of ws)
