-- No exponent of a Schur polynomial exceeds the number of columns: a column of a tableau has each letter at most once.
use Rattle.std.proofs.Common.{◌≡◌, ℕ, zero, suc, ◌+◌, ◌<◌, ◌≤◌, List, [], ◌∷◌, map, length, sym, ◌∙◌, ap, subst, arith, pos}
use Rattle.sym_model.specs.Sum.{Among}
use Rattle.sym_model.specs.Bounded.{AreAtMost}
use Rattle.sym_model.specs.PlaceOrders.{smaller}
use Rattle.sym_model.specs.Partition.{Falls, columns, after}
use Rattle.sym_model.specs.Polynomial.{Poly, Term}
use Rattle.sym_model.specs.Schur.{row_lengths, fillings_of, tableaux, times_in, letters_of, content, schur}
use Rattle.sym_model.proofs.Contents.{times_in-append}
use Rattle.sym_model.proofs.Lists.{smaller-within}
use Rattle.sym_model.proofs.Sums.{Among-map, Among_from_map}
use Rattle.tableau_laws.specs.Grid.{first_line}
use Rattle.tableau_laws.specs.PaddedRows.{pattern_of, padded}
use Rattle.tableau_laws.proofs.Padding.{padded-fillings}
use Rattle.tableau_laws.proofs.PaddedTableaux.{padded-semistandard}
use Rattle.tableau_laws.proofs.PatternFillings.{filling_tells, filling_lengths}
use Rattle.tableau_laws.proofs.RowSums.{tableau_tells, filling_positive, pattern_lengths}
use Rattle.tableau_laws.proofs.Contents.{content-padded}
use Rattle.alternant_laws.proofs.Rows.{smaller_next}
use Rattle.alternant_laws.proofs.Stacks.{IsStack, stack_tells}

-- each exponent of each term is at most the bound
abbrev pub HasExponentsUpTo : ℕ → Poly → Type 0
HasExponentsUpTo bound f = (t : Term) → Among t f → AreAtMost bound t.0

-- the letters j of all rows are at most as many as the letters of the first row that are at most j
letters_in_stack : (j : ℕ) (rows : List (List ℕ)) → 0 < j → IsStack rows → times_in j (letters_of rows) ≤ smaller (suc j) (first_line rows)
letters_in_stack j [] h s = omega arith
letters_in_stack j (w ∷ ws) h s =
    let e = times_in-append j w (letters_of ws) in
    let a = letters_in_stack j ws h s.1.1 in
    let b = s.1.0 j h in
    let c = smaller_next j w in
    omega arith

content_at_most : (n bound : ℕ) (w : List ℕ) → ((j : ℕ) → 0 < j → times_in j w ≤ bound) → AreAtMost bound (content n w)
content_at_most n bound w h = by 0 n
  where
    by : (a m : ℕ) → AreAtMost bound (map (λ j. times_in j w) (after a m))
    by a zero = tt
    by a (suc m) = (h (a + 1) (omega arith), by (a + 1) m)

first_length : (rows : List (List ℕ)) (parts : List ℕ) → map length rows ≡ parts → length (first_line rows) ≡ columns parts
first_length [] parts e = ap columns e
first_length (w ∷ rows) parts e = ap columns e

pub schur-exponents : (n : ℕ) (parts : List ℕ) → Falls parts → HasExponentsUpTo (columns parts) (schur parts n)
schur-exponents n parts f t m =
    let u = Among_from_map (λ (filling : List (List ℕ)). let v : Term = (content n (letters_of filling), pos 1) in v) t (tableaux n parts []) m in
    let T = u.0 in
    let R = padded [] T in
    let c = tableau_tells n parts [] T u.1 in
    let fits = filling_tells n (pattern_of parts []) R
    (subst (λ (Rs : List (List (List ℕ))). Among R Rs) (padded-fillings n parts []) (Among-map (padded []) T (fillings_of n (row_lengths parts [])) c.0)) in
    let lengths = filling_lengths n (pattern_of parts []) R fits ∙ pattern_lengths parts [] c.1.1 in
    let stack = stack_tells R (subst Falls (sym lengths) f) (padded-semistandard [] T tt (filling_positive n (row_lengths parts []) T c.0) ∙ c.1.0) in
    let l = first_length R parts lengths in
    subst (AreAtMost (columns parts)) (content-padded n [] T ∙ sym (ap (λ (v : Term). v.0) u.2))
    (content_at_most n (columns parts) (letters_of R) (λ j h.
    let a = letters_in_stack j R h stack in
    let b = smaller-within (suc j) (first_line R) in
    omega arith))
