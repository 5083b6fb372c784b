-- If each factor is within its limits, at most eight factors together are not too big for a list of factors (`AreTooBig`).
use Rattle.std.proofs.Common.{◌≡◌, ℕ, ◌+◌, ◌*◌, ◌<◌, ◌≤◌, List, [], ◌∷◌, ◌++◌, length, length-append, arith, inl, inr, None, rules}
use Rattle.sym_model.specs.Form.{EachOf}
use Rattle.sym_model.specs.CommandOffence.{first_offence, part_offences}
use Rattle.sym_model.specs.WordForms.{numbers, partition}
use Rattle.partitions.specs.FactorList.{cells_of, rows_of, AreTooBig}
use Rattle.calc_words.specs.WrittenLimits.{IsWritten}
use Rattle.calc_words.proofs.WrittenLists.{written}
use Rattle.word_laws.proofs.NoOffences.{none_first}
use Rattle.calc_words.specs.ReadProducts.{ninth_offences}

bounded : (ps : List (List ℕ)) → EachOf IsWritten ps → (cells_of ps ≤ 512 * length ps) × (rows_of ps ≤ 64 * length ps)
bounded [] e = (omega arith, omega arith)
bounded (p ∷ ps) e = search (rules, (bounded ps e.1))

pub each_more : (ps : List (List ℕ)) (p : List ℕ) → EachOf IsWritten ps → IsWritten p → EachOf IsWritten (ps ++ p ∷ [])
each_more [] p e w = (w, tt)
each_more (q ∷ ps) p e w = (e.0, each_more ps p e.1 w)

pub fits : (ps : List (List ℕ)) → EachOf IsWritten ps → length ps ≤ 8 → AreTooBig ps → ⊥
fits ps e n (inl h) = let r = bounded ps e in let c = r.0 in absurd (omega (arith, c, h, n))
fits ps e n (inr h) = let r = bounded ps e in let c = r.1 in absurd (omega (arith, c, h, n))

pub fits_more : (ps : List (List ℕ)) (p : List ℕ) → EachOf IsWritten ps → IsWritten p → length ps < 8 → AreTooBig (ps ++ p ∷ []) → ⊥
fits_more ps p e w n h =
    let l = length-append ps (p ∷ []) in fits (ps ++ p ∷ []) (each_more ps p e w) (omega (arith, n, l)) h

-- if the factors are within their limits and the next one, `list`, has no error, the factors with its partition appended are within their limits
pub next_written : (factors : List (List ℕ)) (count at : ℕ) (list : List (List ℕ)) → EachOf IsWritten factors
    → first_offence (ninth_offences count at ++ part_offences (at + 1) (numbers list)) ≡ None → EachOf IsWritten (factors ++ partition list ∷ [])
next_written factors count at list e h = search (rules, none_first, each_more, written)
