-- Sums over the semistandard tableaux of a skew shape as sums over the fillings of its pattern by padded rows, and by padded columns. The *pattern*
-- is a list of lines of booleans that are true at the cells of the shape.
use Rattle.std.proofs.lemmas.Grind.{common_steps}
use Rattle.std.proofs.Common.{◌≡◌, ℕ, zero, suc, ◌-◌, ◌≤◌, Bool, true, false, cond, List, [], ◌∷◌, map, length, drop, nat_le, sym, ◌∙◌, ap₂, subst, refl, inl, inr, arith, ℤ, pos, filter, rules}
use Rattle.std.proofs.lemmas.Bool.{and_parts, leb-true}
use Rattle.sym_model.specs.Sum.{total, Among}
use Rattle.sym_model.specs.Partition.{Falls, ArePositive, part, after}
use Rattle.sym_model.specs.Schur.{words, row_lengths, fillings_of, semistandard, contains, tableaux}
use Rattle.sym_model.proofs.Sums.{total_among, total_map, total_select, Among_from_select}
use Rattle.tableau_laws.specs.PaddedRows.{transposed, fillings_over, line_of, pattern_of, padded}
use Rattle.tableau_laws.specs.Grid.{is_padded_tableau, are_tableau_columns}
use Rattle.tableau_laws.proofs.Transposing.{transposed-sum}
use Rattle.tableau_laws.proofs.Padding.{padded-fillings}
use Rattle.tableau_laws.proofs.Grids.{grid-transposed}
use Rattle.tableau_laws.proofs.PaddedTableaux.{ArePositiveRows, padded-semistandard}
use Rattle.tableau_laws.proofs.PatternFillings.{Among_from_fronts, filling_tells, filling_lengths}
use Rattle.sym_model.proofs.AfterLists.{after_among}

word_positive : (n k : ℕ) (w : List ℕ) → Among w (words n k) → ArePositive w
word_positive n zero w (inl e) = subst ArePositive (sym e) tt
word_positive n zero w (inr m) = absurd m
word_positive n (suc k) w m =
    let r = Among_from_fronts w (after 0 n) (words n k) m in
    let h = after_among 0 n r.0 r.2 in
    subst ArePositive (sym r.4) (h.0, word_positive n k r.1 r.3)

pub filling_positive : (n : ℕ) (lengths : List ℕ) (rows : List (List ℕ)) → Among rows (fillings_of n lengths) → ArePositiveRows rows
filling_positive n [] rows (inl e) = subst ArePositiveRows (sym e) tt
filling_positive n [] rows (inr m) = absurd m
filling_positive n (k ∷ lengths) rows m =
    let r = Among_from_fronts rows (words n k) (fillings_of n lengths) m in
    subst ArePositiveRows (sym r.4) (word_positive n k r.0 r.2, filling_positive n lengths r.1 r.3)

pub tableau_tells : (n : ℕ) (outer inner : List ℕ) (T : List (List ℕ)) → Among T (tableaux n outer inner)
    → Among T (fillings_of n (row_lengths outer inner)) × ((semistandard inner T ≡ true) × (contains outer inner ≡ true))
tableau_tells n outer inner T m = by (contains outer inner) refl m
  where
    by : (b : Bool) → contains outer inner ≡ b → Among T (cond b (filter (semistandard inner) (fillings_of n (row_lengths outer inner))) [])
        → Among T (fillings_of n (row_lengths outer inner)) × ((semistandard inner T ≡ true) × (contains outer inner ≡ true))
    by true e a = let r = Among_from_select (semistandard inner) T (fillings_of n (row_lengths outer inner)) a in (r.0, (r.1, e))
    by false e a = absurd a

-- ---- sums over the tableaux as sums over padded rows

-- g(rows) if `rows` are the padded rows of a semistandard tableau; otherwise 0
abbrev pub of_tableaux : (List (List ℕ) → ℤ) → List (List ℕ) → ℤ
of_tableaux g rows = cond (is_padded_tableau rows) (g rows) (pos 0)

pub total_tableaux : (n : ℕ) (outer inner : List ℕ) (f g : List (List ℕ) → ℤ) → Falls inner → contains outer inner ≡ true
    → ((rows : List (List ℕ)) → Among rows (fillings_of n (row_lengths outer inner)) → f rows ≡ g (padded inner rows))
    → total f (tableaux n outer inner) ≡ total (of_tableaux g) (fillings_over n (pattern_of outer inner))
total_tableaux n outer inner f g falls holds e =
    search (rules, total_select, total_among, padded-semistandard, filling_positive, total_map, padded-fillings)

pub length_line : (a b : ℕ) → b ≤ a → length (line_of b (a - b)) ≡ a
length_line a b h = grind (arith, common_steps)

pub contains_rest : (a : ℕ) (outer inner : List ℕ) → contains (a ∷ outer) inner ≡ true → (part inner 1 ≤ a) × (contains outer (drop 1 inner) ≡ true)
contains_rest a outer [] h = search rules
contains_rest a outer (b ∷ inner) h = let p = and_parts (nat_le b a) (contains outer inner) h in (leb-true b a p.0, p.1)

pub pattern_lengths : (outer inner : List ℕ) → contains outer inner ≡ true → map length (pattern_of outer inner) ≡ outer
pattern_lengths [] inner h = refl
pattern_lengths (a ∷ outer) inner h =
    let r = contains_rest a outer inner h in
    ap₂ ◌∷◌ (length_line a (part inner 1) r.0) (pattern_lengths outer (drop 1 inner) r.1)

-- h(columns) if `columns` are the padded columns of a semistandard tableau; otherwise 0
abbrev pub of_columns : (List (List ℕ) → ℤ) → List (List ℕ) → ℤ
of_columns h columns = cond (are_tableau_columns columns) (h columns) (pos 0)

-- if no line of a pattern is longer than the one above, the sum of h(columns of T) over the tableaux T that fill the pattern is the sum of h over the
-- fillings of the transposed pattern that are the columns of a tableau
pub total_rows : (n : ℕ) (pattern : List (List Bool)) (h : List (List ℕ) → ℤ) → Falls (map length pattern)
    → total (of_tableaux (λ (rows : List (List ℕ)). h (transposed rows))) (fillings_over n pattern) ≡ total (of_columns h) (fillings_over n (transposed pattern))
total_rows n pattern h falls = search (rules, total_among, grid-transposed, filling_lengths, filling_tells, transposed-sum)

-- if f(T) = h(padded columns of T) for each filling T, then the sum of f over the tableaux of outer/inner is the sum of h over the lists of padded
-- columns of tableaux
pub total_columns : (n : ℕ) (outer inner : List ℕ) (f h : List (List ℕ) → ℤ) → Falls outer → Falls inner → contains outer inner ≡ true
    → ((rows : List (List ℕ)) → Among rows (fillings_of n (row_lengths outer inner)) → f rows ≡ h (transposed (padded inner rows)))
    → total f (tableaux n outer inner) ≡ total (of_columns h) (fillings_over n (transposed (pattern_of outer inner)))
total_columns n outer inner f h falls inner_falls holds e =
    total_tableaux n outer inner f (λ (rows : List (List ℕ)). h (transposed rows)) inner_falls holds e
    ∙ total_rows n (pattern_of outer inner) h (subst Falls (sym (pattern_lengths outer inner holds)) falls)
