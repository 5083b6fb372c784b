-- Stembridge's identity: the alternant a_(start + ρ) times a skew Schur polynomial is the sum of the alternants a_(start + content(T) + ρ) over the
-- tableaux T of the skew shape that are good for start: start plus the content of the last j columns of T is a partition for each j. The identity is
-- proved for the pairings of both sides with a function φ; the pairing of f with φ is the sum of c·φ(α) over the terms c·x^α of f.
use Rattle.std.proofs.Common.{◌≡◌, ℕ, suc, ◌<◌, ◌≤◌, ◌⊎◌, Bool, true, false, cond, ◌&&◌, List, [], ◌∷◌, ◌++◌, map, length, reverse, nat_le, sym, ◌∙◌, ap, subst, refl, inl, inr, arith, ℤ, pos, filter}
use Rattle.std.proofs.lemmas.Bool.{le-leb, cases_Bool}
use Rattle.std.proofs.lemmas.List.{reverse-append, reverse-reverse}
use Rattle.sym_model.specs.Sum.{total}
use Rattle.sym_model.specs.Partition.{Falls, IsPartition, rows}
use Rattle.sym_model.specs.Polynomial.{Same, In, join, resize, times, pair}
use Rattle.sym_model.specs.Schur.{row_lengths, fillings_of, semistandard, contains, tableaux, content, letters_of, skew_schur}
use Rattle.sym_model.specs.GoodTableau.{is_falling, is_good, good_tableaux}
use Rattle.sym_model.specs.Alternant.{alternant, staircase, alternants_over}
use Rattle.sym_model.proofs.Sums.{total_ext, total_among}
use Rattle.sym_model.proofs.Exponents.{length-join, length-resize, length-join_same}
use Rattle.sym_model.proofs.Polynomials.{pair_each, pair_determined, same_from_pair, In_map}
use Rattle.sym_model.proofs.Parts.{length-staircase}
use Rattle.tableau_laws.specs.PaddedRows.{transposed, words_over, fillings_over, pattern_of, padded}
use Rattle.tableau_laws.specs.Grid.{is_chain, pass_by_place, may_stand_above}
use Rattle.tableau_laws.specs.ColumnFold.{over_columns, column_lines}
use Rattle.tableau_laws.proofs.PatternFillings.{word_tells, fits_length}
use Rattle.tableau_laws.proofs.RowSums.{of_columns, total_columns}
use Rattle.tableau_laws.proofs.Contents.{content-padded, content-transposed}
use Rattle.tableau_laws.proofs.ColumnSums.{of_good_columns, total_good_columns, over_columns-last}
use Rattle.tableau_laws.proofs.FewerLetters.{pair-skew_schur}
use Rattle.tableau_laws.proofs.GoodReadings.{total_good_tableaux}
use Rattle.tableau_laws.proofs.ColumnCounts.{sum_at_start, falling-resize}
use Rattle.alternant_laws.proofs.Exchanges.{length_content}
use Rattle.alternant_laws.proofs.TableauInvolution.{symmetric-skew_schur}
use Rattle.alternant_laws.specs.GoodSums.{good_alternants}
use Rattle.alternant_laws.proofs.AlternantProducts.{alternant_times, pair_alternants_over}
use Rattle.alternant_laws.proofs.LeftColumns.{over_all, over_all-last, fit_left, total_fit_left, fit_left-nothing, AreLong, falls-transposed, falls_last}
use Rattle.alternant_laws.proofs.FailingColumns.{join_right_comm, at_sum, column_fails, column_misses, vanishes}

-- the sum of the alternants a_(ν + content(T) + ρ) over all tableaux T left of a given column is equal to the sum in which, for each j, ν plus the
-- content of the last j columns of T has to be weakly decreasing

one_column : (n : ℕ) (φ : List ℕ → ℤ) (lines : List (List Bool)) (line : List Bool) (ν right c : List ℕ) → length ν ≡ n → is_falling ν ≡ true
    → Falls (map length lines) → AreLong (length line) lines → length c ≡ length line
    → (is_falling (join ν (content n c)) ≡ true
    → over_all n lines (λ s d. at_sum n φ s) (join ν (content n c)) c ≡ over_columns n lines (λ s d. at_sum n φ s) (join ν (content n c)) c)
    → cond (is_chain may_stand_above c && pass_by_place nat_le c right) (over_all n lines (λ s d. at_sum n φ s) (join ν (content n c)) c) (pos 0)
    ≡ cond (is_chain may_stand_above c && (pass_by_place nat_le c right && is_falling (join ν (content n c)))) (over_columns n lines (λ s d. at_sum n φ s) (join ν (content n c)) c) (pos 0)
one_column n φ lines line ν right c l f falls long e later = by (is_chain may_stand_above c) refl (pass_by_place nat_le c right) (is_falling (join ν (content n c))) refl
  where
    whole : length (join ν (content n c)) ≡ n
    whole = length-join_same n ν (content n c) l (length_content n c)

    nothing_left : is_chain may_stand_above c ≡ true → is_falling (join ν (content n c)) ≡ false → over_all n lines (λ s d. at_sum n φ s) (join ν (content n c)) c ≡ pos 0
    nothing_left chain fails =
        let r = column_fails n ν c l chain f fails in
        let w : suc r.place < n = subst (λ k. suc r.place < k) (length_content n c) r.within in
        vanishes n r.place lines c (join ν (content n c)) φ falls (subst (λ k. AreLong k lines) (sym e) long) whole w r.rises (column_misses n r.place c (omega arith) r.lacks)

    by : (chain : Bool) → is_chain may_stand_above c ≡ chain → (pass fall : Bool) → is_falling (join ν (content n c)) ≡ fall
        → cond (chain && pass) (over_all n lines (λ s d. at_sum n φ s) (join ν (content n c)) c) (pos 0)
        ≡ cond (chain && (pass && fall)) (over_columns n lines (λ s d. at_sum n φ s) (join ν (content n c)) c) (pos 0)
    by false p pass fall q = refl
    by true p false fall q = refl
    by true p true true q = later q
    by true p true false q = nothing_left p q

folds_equal : (n : ℕ) (φ : List ℕ → ℤ) (back : List (List Bool)) (ν right : List ℕ) → length ν ≡ n → is_falling ν ≡ true → Falls (map length (reverse back))
    → over_all n (reverse back) (λ s d. at_sum n φ s) ν right ≡ over_columns n (reverse back) (λ s d. at_sum n φ s) ν right
folds_equal n φ [] ν right l f falls = refl
folds_equal n φ (line ∷ back) ν right l f falls =
    let e : reverse (line ∷ back) ≡ reverse back ++ (line ∷ []) = reverse-append (line ∷ []) back in
    let p = falls_last (reverse back) line (subst (λ (ls : List (List Bool)). Falls (map length ls)) e falls) in
    ap (λ (ls : List (List Bool)). over_all n ls (λ s d. at_sum n φ s) ν right) e
    ∙ over_all-last n (reverse back) line (λ s d. at_sum n φ s) ν right
    ∙ total_among
    (λ (c : List ℕ). cond (is_chain may_stand_above c && pass_by_place nat_le c right) (over_all n (reverse back) (λ s d. at_sum n φ s) (join ν (content n c)) c) (pos 0))
    (λ (c : List ℕ). cond (is_chain may_stand_above c && (pass_by_place nat_le c right && is_falling (join ν (content n c)))) (over_columns n (reverse back) (λ s d. at_sum n φ s) (join ν (content n c)) c) (pos 0))
    (words_over n line)
    (λ c m. one_column n φ (reverse back) line ν right c l f p.0 p.1 (fits_length n line c (word_tells n line c m))
    (λ q. folds_equal n φ back (join ν (content n c)) c (length-join_same n ν (content n c) l (length_content n c)) q p.0))
    ∙ sym (over_columns-last n (reverse back) line (λ s d. at_sum n φ s) ν right)
    ∙ ap (λ (ls : List (List Bool)). over_columns n ls (λ s d. at_sum n φ s) ν right) (sym e)

-- ---- sums of alternants over all tableaux and over the good tableaux

-- the pairing of a_(start + content(T) + ρ) with φ, for a filling T with letters up to n
abbrev pub at_filling : ℕ → (List ℕ → ℤ) → List ℕ → List (List ℕ) → ℤ
at_filling n φ start T = at_sum n φ (join start (content n (letters_of T)))

same_at_columns : (n : ℕ) (φ : List ℕ → ℤ) (start inner : List ℕ) (T : List (List ℕ)) → at_filling n φ start T ≡ at_filling n φ start (transposed (padded inner T))
same_at_columns n φ start inner T = ap (λ κ. at_sum n φ (join start κ)) (sym (content-transposed n (padded inner T) ∙ content-padded n inner T))

all_tableaux : (n : ℕ) (φ : List ℕ → ℤ) (start outer inner : List ℕ) → rows start ≤ n → Falls outer → Falls inner → contains outer inner ≡ true
    → total (at_filling n φ start) (tableaux n outer inner) ≡ over_all n (column_lines outer inner) (λ s d. at_sum n φ s) (resize n start) []
all_tableaux n φ start outer inner h falls inner_falls holds =
    total_columns n outer inner (at_filling n φ start) (at_filling n φ start) falls inner_falls holds (λ T m. same_at_columns n φ start inner T)
    ∙ total_ext (of_columns (at_filling n φ start)) (λ (cs : List (List ℕ)). cond (fit_left [] cs) (at_filling n φ start cs) (pos 0))
    (λ cs. ap (λ (b : Bool). cond b (at_filling n φ start cs) (pos 0)) (sym (fit_left-nothing cs))) (fillings_over n (column_lines outer inner))
    ∙ total_fit_left n [] (column_lines outer inner) (λ s d. at_sum n φ s) start
    ∙ ap (λ s. over_all n (column_lines outer inner) (λ s' d. at_sum n φ s') s []) (sum_at_start n start h)

-- the sum of g(start + content(T)) over the good tableaux T can be computed by choosing the columns of T one by one from the right (`over_columns`)
pub good_sums : (n : ℕ) (g : List ℕ → ℤ) (start outer inner : List ℕ) → IsPartition start → rows start ≤ n → Falls outer → Falls inner → contains outer inner ≡ true
    → total (λ (T : List (List ℕ)). g (join start (content n (letters_of T)))) (good_tableaux n start outer inner) ≡ over_columns n (column_lines outer inner) (λ s d. g s) (resize n start) []
good_sums n g start outer inner s h falls inner_falls holds =
    total_good_tableaux n start outer inner (λ (T : List (List ℕ)). g (join start (content n (letters_of T)))) (λ (cs : List (List ℕ)). g (join start (content n (letters_of cs)))) falls inner_falls holds
    (λ T m. ap (λ κ. g (join start κ)) (sym (content-transposed n (padded inner T) ∙ content-padded n inner T)))
    ∙ ap (λ b. cond b (total (of_good_columns n start (λ s' d. g s')) (fillings_over n (column_lines outer inner))) (pos 0)) (le-leb (rows start) n h)
    ∙ total_good_columns n start (column_lines outer inner) (λ s' d. g s')
    ∙ ap (λ ν. cond (is_falling ν) (over_columns n (column_lines outer inner) (λ s' d. g s') ν []) (pos 0)) (sum_at_start n start h)
    ∙ ap (λ b. cond b (over_columns n (column_lines outer inner) (λ s' d. g s') (resize n start) []) (pos 0)) (falling-resize n start s.falls)

no_tableaux : (n : ℕ) (start outer inner : List ℕ) (f : List (List ℕ) → ℤ) → contains outer inner ≡ false → total f (tableaux n outer inner) ≡ total f (good_tableaux n start outer inner)
no_tableaux n start outer inner f e =
    ap (λ (b : Bool). total f (cond b (filter (semistandard inner) (fillings_of n (row_lengths outer inner))) [])) e
    ∙ sym (ap (λ (b : Bool). total f (cond (nat_le (rows start) n) (filter (is_good n start outer inner) (cond b (filter (semistandard inner) (fillings_of n (row_lengths outer inner))) [])) [])) e ∙ none (nat_le (rows start) n))
  where
    none : (b : Bool) → total f (cond b [] []) ≡ pos 0
    none true = refl
    none false = refl

pub good_enough : (n : ℕ) (φ : List ℕ → ℤ) (start outer inner : List ℕ) → IsPartition start → rows start ≤ n → Falls outer → Falls inner
    → total (at_filling n φ start) (tableaux n outer inner) ≡ total (at_filling n φ start) (good_tableaux n start outer inner)
good_enough n φ start outer inner s h falls inner_falls = by (cases_Bool (contains outer inner))
  where
    equal : over_all n (column_lines outer inner) (λ s' d. at_sum n φ s') (resize n start) [] ≡ over_columns n (column_lines outer inner) (λ s' d. at_sum n φ s') (resize n start) []
    equal =
        subst (λ (ls : List (List Bool)). over_all n ls (λ s' d. at_sum n φ s') (resize n start) [] ≡ over_columns n ls (λ s' d. at_sum n φ s') (resize n start) [])
        (reverse-reverse (column_lines outer inner))
        (folds_equal n φ (reverse (column_lines outer inner)) (resize n start) [] (length-resize n start) (falling-resize n start s.falls)
        (subst (λ (ls : List (List Bool)). Falls (map length ls)) (sym (reverse-reverse (column_lines outer inner))) (falls-transposed (pattern_of outer inner))))

    by : (contains outer inner ≡ true) ⊎ (contains outer inner ≡ false) → total (at_filling n φ start) (tableaux n outer inner) ≡ total (at_filling n φ start) (good_tableaux n start outer inner)
    by (inl e) = all_tableaux n φ start outer inner h falls inner_falls e ∙ equal ∙ sym (good_sums n (at_sum n φ) start outer inner s h falls inner_falls e)
    by (inr e) = no_tableaux n start outer inner (at_filling n φ start) e

-- ---- Stembridge's identity: for each function φ of exponents, the sums of c·φ(α) over the terms c·x^α of both sides are equal

pub In-skew_schur : (n : ℕ) (outer inner : List ℕ) → In n (skew_schur outer inner n)
In-skew_schur n outer inner =
    In_map n (λ (T : List (List ℕ)). (content n (letters_of T), pos 1)) (tableaux n outer inner) (λ T m. length_content n (letters_of T))

length_with_staircase : (n : ℕ) (parts : List ℕ) → length parts ≤ n → length (join parts (staircase n)) ≡ n
length_with_staircase n parts h = let a = length-join parts (staircase n) in let b = length-staircase n in omega arith

pub stembridge : (n : ℕ) (start outer inner : List ℕ) → IsPartition start → rows start ≤ n → IsPartition outer → IsPartition inner
    → Same (times (alternant (join start (staircase n))) (skew_schur outer inner n)) (good_alternants n start outer inner)
stembridge n start outer inner s h o i =
    same_from_pair (times (alternant (join start (staircase n))) (skew_schur outer inner n)) (good_alternants n start outer inner) (λ φ.
    pair_determined (times (alternant (join start (staircase n))) (skew_schur outer inner n)) (alternants_over (join start (staircase n)) (skew_schur outer inner n)) φ
    (alternant_times n (join start (staircase n)) (skew_schur outer inner n) (length_with_staircase n start h) (In-skew_schur n outer inner) (symmetric-skew_schur n outer inner o i))
    ∙ pair_alternants_over n (join start (staircase n)) (skew_schur outer inner n) φ (length_with_staircase n start h) (In-skew_schur n outer inner)
    ∙ pair-skew_schur n outer inner (λ α. pair (alternant (join (join start (staircase n)) α)) φ)
    ∙ total_ext (λ (T : List (List ℕ)). pair (alternant (join (join start (staircase n)) (content n (letters_of T)))) φ) (at_filling n φ start)
    (λ T. ap (λ β. pair (alternant β) φ) (join_right_comm start (staircase n) (content n (letters_of T)))) (tableaux n outer inner)
    ∙ good_enough n φ start outer inner s h o.falls i.falls
    ∙ sym (pair_each (λ (T : List (List ℕ)). alternant (join (join start (content n (letters_of T))) (staircase n))) (good_tableaux n start outer inner) φ))
