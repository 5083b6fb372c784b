-- The errors of rows without numbers, in a tableau that has other rows.
use Rattle.std.proofs.Common.{◌≡◌, ℕ, ◌+◌, ◌<◌, ◌≤◌, ◌==◌, cond, List, [], ◌∷◌, length, refl, ap, subst, arith, Some, inl, inr, flat_map, rules}
use Rattle.sym_model.specs.Sum.{Among}
use Rattle.sym_model.specs.ExpressionOffence.{shape}
use Rattle.sym_model.specs.CommandOffence.{Offence, PlacedRow, first_offence, empty_row_offences}
use Rattle.word_laws.specs.Words.{Words}
use Rattle.word_laws.specs.WrittenRows.{row_text, rows_at}
use Rattle.calc_words.proofs.FirstOffences.{first-head, no_later_word}

abbrev pub empties : List PlacedRow → List Offence
empties rows = flat_map (λ (r : PlacedRow). cond (length r.1 == 0) ((r.0, 0, shape) ∷ []) []) rows

pub two_rows : (k : ℕ) (ws : List Words) → 2 ≤ length ws → empty_row_offences (rows_at k ws) ≡ empties (rows_at k ws)
two_rows k [] h = absurd (omega (arith, h))
two_rows k (w ∷ []) h = absurd (omega (arith, h))
two_rows k (w ∷ v ∷ ws) h = refl

pub one_row : (k : ℕ) (ws : List Words) → length ws < 2 → empty_row_offences (rows_at k ws) ≡ []
one_row k [] h = refl
one_row k (w ∷ []) h = refl
one_row k (w ∷ v ∷ ws) h = absurd (omega (arith, h))

pub empty_later : (k : ℕ) (w : Words) (ws : List Words) → 0 < length w → empties (rows_at k (w ∷ ws)) ≡ empties (rows_at (k + length (row_text w) + 1) ws)
empty_later k [] ws h = absurd (omega (arith, h))
empty_later k (t ∷ w) ws h = search rules

empties_from : (k : ℕ) (ws : List Words) (q : Offence) → Among q (empties (rows_at k ws)) → k ≤ q.0
empties_from k [] q m = absurd m
empties_from k ([] ∷ ws) q (inl e) = let z : q.0 ≡ k = ap (λ (o : Offence). o.0) e in omega (arith, z)
empties_from k ([] ∷ ws) q (inr m) = let z = empties_from (k + 1 + 1) ws q m in omega (arith, z)
empties_from k ((t ∷ w) ∷ ws) q m =
    let z = empties_from (k + length (t ∷ w) + 1) ws q (subst (Among q) (empty_later k (t ∷ w) ws (omega arith)) m) in omega (arith, z)

pub empty_first : (k : ℕ) (ws : List Words) → first_offence (empties (rows_at k ([] ∷ ws))) ≡ Some (k, 0, shape)
empty_first k ws =
    first-head (k, 0, shape) (empties (rows_at (k + 1 + 1) ws))
    (λ q m. no_later_word (k, 0, shape) q (let z = empties_from (k + 1 + 1) ws q m in omega (arith, z)))
