-- The product of the x_i - y_j over the cells (i, j) of a diagram, multiplied up one row after another (`below`), and the polynomials U_q that divided
-- differences along a path to q give from it, at x = 0 (`value_at`). The row of x_i has `get_or rows i 0` cells, at most n. Its factors are expanded in
-- powers of x_i, with elementary polynomials in y as coefficients; each x_i acts on q by Monk's rule for divided differences (`row_expanded` in
-- RowSteps). Places and variables are counted from 0.
--     moved_by i F q     minus the sum of Monk's rule for q at the place of the letter n - i: what x_i does to the values F
--     expanded           the sum over d of (-1)^(e-d)·e_(e-d)(y_1, .., y_c)·x_i^d, as it acts on polynomials P(q)
--     no_value           the value at q is 0 if the letters 1, .., n - i do not stand in decreasing order in q
use Rattle.std.proofs.Common.{◌≡◌, ℕ, zero, suc, ◌+◌, ◌-◌, ◌<◌, ◌≤◌, List, [], ◌∷◌, length, get_or, take, replicate, map, refl, sym, ◌∙◌, ap, ap₂, arith, inl, inr, ◌⊎◌, None, ℤ, pos, ◌+ℤ◌, ◌-ℤ◌, ◌*ℤ◌, neg_ℤ}
use Rattle.std.proofs.lemmas.Int.{ints}
use Rattle.sym_model.specs.BetaList.{rising_pairs}
use Rattle.sym_model.specs.Sum.{Among}
use Rattle.sym_model.specs.Polynomial.{Term, Poly, In, nothing, one, plus, negate, times, pair, join}
use Rattle.sym_model.specs.Permutation.{IsOneLine, first_ascent}
use Rattle.sym_model.specs.DividedDifference.{variable_in, differences_after}
use Rattle.sym_model.specs.Schubert.{schubert_over}
use Rattle.sym_model.proofs.Polynomials.{pair_ext, pair_plus, pair_times, pair_one, pair_zero, same_from_pair, In_one, In_each, In_map}
use Rattle.sym_model.proofs.Exponents.{length-join}
use Rattle.sym_model.proofs.Sums.{Among_from_map, Among_from_append}
use Rattle.schubert_laws.specs.Chains.{letters_before, elementary_in}
use Rattle.schubert_laws.proofs.AtOrigin.{at_origin, dual_at_origin, along_zeros}
use Rattle.schubert_laws.proofs.ChainSums.{monk_part, part_add, place_below, letter_there}
use Rattle.schubert_laws.proofs.CoverTests.{letter_is}
use Rattle.schubert_laws.proofs.Differences.{along, pair_differences}
use Rattle.schubert_laws.proofs.DifferenceLaws.{variable_after, pair_variable_times}
use Rattle.schubert_laws.proofs.Exchanges.{exchange_at, raise, Rises, IsFirstAscent, first_ascent_cases, rises_within, rising_pairs_exchange, length-exchange_at}
use Rattle.schubert_laws.proofs.LeftSteps.{left_none, over_nothing}
use Rattle.schubert_laws.proofs.MonkFromOne.{one_line_swap}
use Rattle.schubert_laws.proofs.MonkStep.{pair_ascent}
use Rattle.schubert_laws.proofs.Paths.{over_top}
use Rattle.schubert_laws.proofs.Pieri.{part_ext}
use Rattle.schubert_laws.proofs.Swaps.{swap_at, length-swap_at}
use Rattle.double_schubert_laws.specs.AtZero.{at_x_zero}
use Rattle.double_schubert_laws.specs.DiagramRows.{AreWithin, HasLeftAscent}
use Rattle.double_schubert_laws.proofs.DiagramProducts.{less, row, diagram, row_ext, diagram_ext, row_less, row_last, apart_before, apart_after, along_raised, row_along}
use Rattle.double_schubert_laws.proofs.DoubleDominant.{length-unit, pair_less}
use Rattle.double_schubert_laws.proofs.InverseSteps.{turned}

-- ---- the polynomials

-- c factors x_r - y_1, .., x_r - y_c times g
abbrev pub row_times : ℕ → ℕ → ℕ → Poly → Poly
row_times n r zero g = g
row_times n r (suc c) g = times (plus (variable_after r) (negate (variable_after (n + c)))) (row_times n r c g)

-- the factors of the rows of x_0, .., x_(i-1)
abbrev pub below : ℕ → List ℕ → ℕ → Poly
below n rows zero = one (n + n)
below n rows (suc i) = row_times n i (get_or rows i 0) (below n rows i)

abbrev UpTo : ℕ → Poly → Type 0
UpTo N f = (t : Term) → Among t f → length t.0 ≤ N

In_product : (N : ℕ) (f g : Poly) → UpTo N f → In N g → In N (times f g)
In_product N f g u i =
    In_each N (λ (s : Term). map (λ (t : Term). (join s.0 t.0, s.1 *ℤ t.1)) g) f (λ s m.
    In_map N (λ (t : Term). (join s.0 t.0, s.1 *ℤ t.1)) g (λ t k.
    let a = u s m in
    let b = i t k in
    omega (arith, length-join s.0 t.0)))

up_to_variable : (N r : ℕ) → r < N → UpTo N (variable_after r)
up_to_variable N r h t (inl e) = let l = ap (λ (s : Term). length s.0) e in omega (arith, length-unit r)
up_to_variable N r h t (inr m) = absurd m

up_to_negated : (N : ℕ) (f : Poly) → UpTo N f → UpTo N (negate f)
up_to_negated N f u t m =
    let r = Among_from_map (λ (s : Term). (s.0, neg_ℤ s.1)) t f m in
    let l = ap (λ (s : Term). length s.0) r.2 in
    let k = u r.0 r.1 in
    omega arith

up_to_plus : (N : ℕ) (f g : Poly) → UpTo N f → UpTo N g → UpTo N (plus f g)
up_to_plus N f g u v t m = elim (Among_from_append t f g m) [ inl k ↦ u t k | inr k ↦ v t k ]

In_variable : (N r : ℕ) (g : Poly) → In N g → r < N → In N (times (variable_after r) g)
In_variable N r g i h = In_product N (variable_after r) g (up_to_variable N r h) i

pub In_row : (n r c : ℕ) (g : Poly) → In (n + n) g → r < n → c ≤ n → In (n + n) (row_times n r c g)
In_row n r zero g i h l = i
In_row n r (suc c) g i h l =
    In_product (n + n) (plus (variable_after r) (negate (variable_after (n + c)))) (row_times n r c g)
    (up_to_plus (n + n) (variable_after r) (negate (variable_after (n + c))) (up_to_variable (n + n) r (omega arith))
    (up_to_negated (n + n) (variable_after (n + c)) (up_to_variable (n + n) (n + c) (omega arith))))
    (In_row n r c g i h (omega arith))

pub In_below : (n : ℕ) (rows : List ℕ) (i : ℕ) → AreWithin n rows → i ≤ n → In (n + n) (below n rows i)
In_below n rows zero w h = In_one (n + n)
In_below n rows (suc i) w h = In_row n i (get_or rows i 0) (below n rows i) (In_below n rows i w (omega arith)) (omega arith) (w.at i)

pub pair_row : (n r c : ℕ) (g : Poly) (φ : List ℕ → ℤ) → In (n + n) g → r < n → c ≤ n → pair (row_times n r c g) φ ≡ pair g (row r n c φ)
pair_row n r zero g φ i h l = refl
pair_row n r (suc c) g φ i h l =
    pair_less (n + n) r (n + c) (row_times n r c g) φ (In_row n r c g i h (omega arith)) (omega arith) (omega arith)
    ∙ pair_row n r c g (less r (n + c) φ) i h (omega arith)
    ∙ pair_ext g (row r n c (less r (n + c) φ)) (row r n (suc c) φ) (λ α. row_less r n c r (n + c) φ α ∙ sym (row_last r n c φ α))

-- ---- the product over the first i rows

row_row : (r s c p q e : ℕ) (φ : List ℕ → ℤ) (α : List ℕ) → row r s c (row p q e φ) α ≡ row p q e (row r s c φ) α
row_row r s c p q zero φ α = refl
row_row r s c p q (suc e) φ α =
    row_row r s c p (suc q) e (less p q φ) α
    ∙ row_ext p (suc q) e (row r s c (less p q φ)) (less p q (row r s c φ)) (row_less r s c p q φ) α

diagram_row : (s r : ℕ) (rows : List ℕ) (p q e : ℕ) (φ : List ℕ → ℤ) (α : List ℕ) → diagram s r rows (row p q e φ) α ≡ row p q e (diagram s r rows φ) α
diagram_row s r [] p q e φ α = refl
diagram_row s r (c ∷ rows) p q e φ α =
    diagram_ext s (suc r) rows (row r s c (row p q e φ)) (row p q e (row r s c φ)) (row_row r s c p q e φ) α
    ∙ diagram_row s (suc r) rows p q e (row r s c φ) α

-- the rows from the index r on, before the index r + i
diagram_next : (s r i j : ℕ) (rows : List ℕ) (φ : List ℕ → ℤ) (α : List ℕ) → j ≡ r + i
    → diagram s r (take (suc i) rows) φ α ≡ row j s (get_or rows i 0) (diagram s r (take i rows) φ) α
diagram_next s r zero j [] φ α e = refl
diagram_next s r (suc i) j [] φ α e = refl
diagram_next s r zero j (c ∷ rows) φ α e = let d : r ≡ j = omega arith in ap (λ k. row k s c φ α) d
diagram_next s r (suc i) j (c ∷ rows) φ α e = diagram_next s (suc r) i j rows (row r s c φ) α (omega arith)

pub below_diagram : (n : ℕ) (rows : List ℕ) (i : ℕ) (φ : List ℕ → ℤ) → AreWithin n rows → i ≤ n
    → pair (below n rows i) φ ≡ diagram n 0 (take i rows) φ (replicate (n + n) 0)
below_diagram n rows zero φ w h = pair_one (n + n) φ
below_diagram n rows (suc i) φ w h =
    pair_row n i (get_or rows i 0) (below n rows i) φ (In_below n rows i w (omega arith)) (omega arith) (w.at i)
    ∙ below_diagram n rows i (row i n (get_or rows i 0) φ) w (omega arith)
    ∙ diagram_row n 0 (take i rows) i n (get_or rows i 0) φ (replicate (n + n) 0)
    ∙ sym (diagram_next n 0 i i rows φ (replicate (n + n) 0) (omega arith))

-- ---- divided differences along a path are linear, and pass through a later variable

combined_within : (steps : ℕ) (f g h : Poly) (p : List ℕ) (φ : List ℕ → ℤ) → rising_pairs p < steps → ((ψ : List ℕ → ℤ) → pair f ψ ≡ pair g ψ -ℤ pair h ψ)
    → pair (schubert_over f p) φ ≡ pair (schubert_over g p) φ -ℤ pair (schubert_over h p) φ
combined_within zero f g h p φ b e = absurd (omega arith)
combined_within (suc steps) f g h p φ b e = by (first_ascent_cases p) (λ q ψ s. combined_within steps f g h q ψ s e)
  where
    by : ((k : ℕ) × IsFirstAscent p k) ⊎ ((first_ascent p ≡ None) × ((k : ℕ) → Rises k p → ⊥))
        → ((q : List ℕ) (ψ : List ℕ → ℤ) → rising_pairs q < steps → pair (schubert_over f q) ψ ≡ pair (schubert_over g q) ψ -ℤ pair (schubert_over h q) ψ)
        → pair (schubert_over f p) φ ≡ pair (schubert_over g p) φ -ℤ pair (schubert_over h p) φ
    by (inl found) rec =
        let d = rising_pairs_exchange found.0 p found.1.rises in
        let x = pair_ascent f p found.0 φ found.1.rises in
        let y = pair_ascent g p found.0 φ found.1.rises in
        let z = pair_ascent h p found.0 φ found.1.rises in
        let r = rec (exchange_at found.0 p) (along found.0 φ) (omega arith) in
        omega (arith, ints)
    by (inr none) rec =
        let x = ap (λ u. pair u φ) (over_top f (rising_pairs p) p none.0) in
        let y = ap (λ u. pair u φ) (over_top g (rising_pairs p) p none.0) in
        let z = ap (λ u. pair u φ) (over_top h (rising_pairs p) p none.0) in
        let r = e φ in
        omega (arith, ints)

pub over_combined : (f g h : Poly) (p : List ℕ) (φ : List ℕ → ℤ) → ((ψ : List ℕ → ℤ) → pair f ψ ≡ pair g ψ -ℤ pair h ψ)
    → pair (schubert_over f p) φ ≡ pair (schubert_over g p) φ -ℤ pair (schubert_over h p) φ
over_combined f g h p φ e = combined_within (suc (rising_pairs p)) f g h p φ (omega arith) e

none_over : (p : List ℕ) (φ : List ℕ → ℤ) → pair (schubert_over nothing p) φ ≡ pos 0
none_over p φ = ap (λ u. pair u φ) (over_nothing (rising_pairs p) p)

pub over_same : (f g : Poly) (p : List ℕ) (φ : List ℕ → ℤ) → ((ψ : List ℕ → ℤ) → pair f ψ ≡ pair g ψ) → pair (schubert_over f p) φ ≡ pair (schubert_over g p) φ
over_same f g p φ e =
    let c = over_combined f g nothing p φ (λ ψ. let r = e ψ in omega (arith, ints)) in
    let n = none_over p φ in
    omega (arith, ints)

later_variable_within : (steps N j : ℕ) (g : Poly) (p : List ℕ) (φ : List ℕ → ℤ) → In N g → j < N → rising_pairs p < steps → length p ≤ j
    → pair (schubert_over (times (variable_after j) g) p) φ ≡ pair (schubert_over g p) (λ α. φ (raise j α))
later_variable_within zero N j g p φ i h b l = absurd (omega arith)
later_variable_within (suc steps) N j g p φ i h b l = by (first_ascent_cases p) (λ q ψ s t. later_variable_within steps N j g q ψ i h s t)
  where
    by : ((k : ℕ) × IsFirstAscent p k) ⊎ ((first_ascent p ≡ None) × ((k : ℕ) → Rises k p → ⊥))
        → ((q : List ℕ) (ψ : List ℕ → ℤ) → rising_pairs q < steps → length q ≤ j → pair (schubert_over (times (variable_after j) g) q) ψ ≡ pair (schubert_over g q) (λ α. ψ (raise j α)))
        → pair (schubert_over (times (variable_after j) g) p) φ ≡ pair (schubert_over g p) (λ α. φ (raise j α))
    by (inl found) rec =
        let d = rising_pairs_exchange found.0 p found.1.rises in
        let e = length-exchange_at found.0 p in
        let w = rises_within found.0 p found.1.rises in
        pair_ascent (times (variable_after j) g) p found.0 φ found.1.rises
        ∙ rec (exchange_at found.0 p) (along found.0 φ) (omega arith) (omega arith)
        ∙ pair_ext (schubert_over g (exchange_at found.0 p)) (λ α. along found.0 φ (raise j α)) (along found.0 (λ α. φ (raise j α))) (λ α. sym (along_raised found.0 j φ α (apart_after found.0 j (omega arith))))
        ∙ sym (pair_ascent g p found.0 (λ α. φ (raise j α)) found.1.rises)
    by (inr none) rec =
        ap (λ u. pair u φ) (over_top (times (variable_after j) g) (rising_pairs p) p none.0)
        ∙ pair_variable_times j N g φ i h
        ∙ ap (λ u. pair u (λ α. φ (raise j α))) (sym (over_top g (rising_pairs p) p none.0))

pub later_variable : (N j : ℕ) (g : Poly) (p : List ℕ) (φ : List ℕ → ℤ) → In N g → j < N → length p ≤ j
    → pair (schubert_over (times (variable_after j) g) p) φ ≡ pair (schubert_over g p) (λ α. φ (raise j α))
later_variable N j g p φ i h l = later_variable_within (suc (rising_pairs p)) N j g p φ i h (omega arith) l

-- ---- what a variable x_i does to values

-- q is a permutation of n letters
pub record IsState (n : ℕ) (q : List ℕ) : Type 0 where
  pub one_line : IsOneLine q
  pub size : length q ≡ n

pub swapped_state : (n a b : ℕ) (q : List ℕ) → IsState n q → a < n → b < n → IsState n (swap_at a b q)
swapped_state n a b q s h l =
    let e = s.size in
    record { one_line = one_line_swap a b q (omega arith) (omega arith) s.one_line; size = length-swap_at a b q ∙ e }

abbrev pub moved_by : ℕ → ℕ → (List ℕ → ℤ) → List ℕ → ℤ
moved_by n i F q = neg_ℤ (monk_part n (letters_before (n - i) q) F q)

pub place_in_state : (n i : ℕ) (q : List ℕ) → IsState n q → i < n → letters_before (n - i) q < n
place_in_state n i q s h = let e = s.size in let p = place_below (n - i) q s.one_line (omega arith) (omega arith) in omega arith

pub moved_ext : (n i : ℕ) (F G : List ℕ → ℤ) (q : List ℕ) → IsState n q → i < n → ((v : List ℕ) → IsState n v → F v ≡ G v) → moved_by n i F q ≡ moved_by n i G q
moved_ext n i F G q s h e =
    let size = s.size in
    let p = place_in_state n i q s h in
    ap neg_ℤ (part_ext n (letters_before (n - i) q) F G q
    (λ b r l t. e (swap_at (letters_before (n - i) q) b q) (swapped_state n (letters_before (n - i) q) b q s p (omega arith)))
    (λ a r. e (swap_at a (letters_before (n - i) q) q) (swapped_state n a (letters_before (n - i) q) q s (omega arith) p)))

pub moved_minus : (n i : ℕ) (F G : List ℕ → ℤ) (q : List ℕ) → moved_by n i (λ v. F v -ℤ G v) q ≡ moved_by n i F q -ℤ moved_by n i G q
moved_minus n i F G q =
    let a = part_add n (letters_before (n - i) q) (λ v. F v -ℤ G v) G q in
    let b : monk_part n (letters_before (n - i) q) (λ v. (F v -ℤ G v) +ℤ G v) q ≡ monk_part n (letters_before (n - i) q) F q =
    part_ext n (letters_before (n - i) q) (λ v. (F v -ℤ G v) +ℤ G v) F q (λ b r l t. omega (arith, ints)) (λ a r. omega (arith, ints)) in
    omega (arith, ints)

-- the pairing of ψ with U_q(g) at x = 0
abbrev pub value_at : ℕ → Poly → (List ℕ → ℤ) → List ℕ → ℤ
value_at n g ψ q = pair (schubert_over g q) (at_origin n ψ)

pub x_acts : (n i : ℕ) (g : Poly) (ψ : List ℕ → ℤ) (q : List ℕ) → In (n + n) g → IsState n q → i < n
    → value_at n (times (variable_after i) g) ψ q ≡ moved_by n i (value_at n g ψ) q
x_acts n i g ψ q k s h =
    let size = s.size in
    let p = place_in_state n i q s h in
    let t = letter_there (n - i) q s.one_line (omega arith) (omega arith) in
    let u = letter_is q (letters_before (n - i) q) 0 (omega arith) in
    let e : i ≡ length q - get_or q (letters_before (n - i) q) 0 = omega arith in
    ap₂ (λ j m. pair (schubert_over (times (variable_after j) g) q) (at_origin m ψ)) e (sym size)
    ∙ dual_at_origin g (n + n) (letters_before (n - i) q) q ψ k (omega arith) s.one_line (omega arith)
    ∙ ap (λ m. neg_ℤ (monk_part m (letters_before (n - i) q) (λ v. pair (schubert_over g v) (at_origin m ψ)) q)) size

-- ---- polynomials without the variables from x_i on, as far as the n variables x go: their divided differences in these are 0

pub record IsFree (n i : ℕ) (g : Poly) : Type 0 where
  pub none : (k : ℕ) → i ≤ k → suc k < n → (φ : List ℕ → ℤ) → pair g (along k φ) ≡ pos 0

pub free_below : (n : ℕ) (rows : List ℕ) (i : ℕ) → AreWithin n rows → i ≤ n → IsFree n i (below n rows i)
free_below n rows zero w h = record { none = λ k l m φ. pair_one (n + n) (along k φ) ∙ along_zeros k (n + n) φ }
free_below n rows (suc i) w h =
    let r = free_below n rows i w (omega arith) in
    record {
      none = λ k l m φ.
          pair_row n i (get_or rows i 0) (below n rows i) (along k φ) (In_below n rows i w (omega arith)) (omega arith) (w.at i)
          ∙ pair_ext (below n rows i) (row i n (get_or rows i 0) (along k φ)) (along k (row i n (get_or rows i 0) φ)) (λ α. row_along k i n (get_or rows i 0) φ α (apart_before k i (omega arith)) m)
          ∙ r.none k (omega arith) m (row i n (get_or rows i 0) φ);
    }

free_times : (n i : ℕ) (g : Poly) → In (n + n) g → i < n → IsFree n (suc i) g → IsFree n (suc i) (times (variable_after i) g)
free_times n i g j h f = record {
  none = λ k l m φ.
      pair_variable_times i (n + n) g (along k φ) j (omega arith)
      ∙ pair_ext g (λ α. along k φ (raise i α)) (along k (λ α. φ (raise i α))) (λ α. sym (along_raised k i φ α (apart_before k i (omega arith))))
      ∙ f.none k l m (λ α. φ (raise i α));
}

pub free_more : (n i : ℕ) (g : Poly) → IsFree n i g → IsFree n (suc i) g
free_more n i g f = record { none = λ k l m φ. f.none k (omega arith) m φ }

pub no_value : (n i : ℕ) (g : Poly) (ψ : List ℕ → ℤ) (q : List ℕ) → i ≤ n → IsFree n i g → IsState n q → HasLeftAscent (n - i) q → value_at n g ψ q ≡ pos 0
no_value n i g ψ q h f s r =
    let size = s.size in
    let first = r.first in
    let last = r.last in
    let p = place_below (suc r.letter) q s.one_line (omega arith) (omega arith) in
    left_none r.letter (letters_before r.letter q) (letters_before (suc r.letter) q) g q (at_origin n ψ) s.one_line r.order p
    (letter_there r.letter q s.one_line first (omega arith)) (letter_there (suc r.letter) q s.one_line (omega arith) (omega arith))
    (same_from_pair (differences_after (length q - suc r.letter) g) nothing (λ φ.
    pair_differences (length q - suc r.letter) g φ ∙ f.none (length q - suc r.letter) (omega arith) (omega arith) φ))

-- ---- values that stay 0, at lists with a left ascent, if x_i acts on them any number of times

abbrev pub moved_power : ℕ → ℕ → ℕ → (List ℕ → ℤ) → List ℕ → ℤ
moved_power zero n i F = F
moved_power (suc d) n i F = moved_power d n i (moved_by n i F)

power_ext : (d n i : ℕ) (F G : List ℕ → ℤ) (q : List ℕ) → IsState n q → i < n → ((v : List ℕ) → IsState n v → F v ≡ G v) → moved_power d n i F q ≡ moved_power d n i G q
power_ext zero n i F G q s h e = e q s
power_ext (suc d) n i F G q s h e = power_ext d n i (moved_by n i F) (moved_by n i G) q s h (λ v t. moved_ext n i F G v t h e)

power_minus : (d n i : ℕ) (F G : List ℕ → ℤ) (q : List ℕ) → IsState n q → i < n → moved_power d n i (λ v. F v -ℤ G v) q ≡ moved_power d n i F q -ℤ moved_power d n i G q
power_minus zero n i F G q s h = refl
power_minus (suc d) n i F G q s h =
    power_ext d n i (moved_by n i (λ v. F v -ℤ G v)) (λ v. moved_by n i F v -ℤ moved_by n i G v) q s h (λ v t. moved_minus n i F G v)
    ∙ power_minus d n i (moved_by n i F) (moved_by n i G) q s h

pub record IsTame (n i : ℕ) (F : List ℕ → ℤ) : Type 0 where
  pub none : (d : ℕ) (q : List ℕ) → IsState n q → HasLeftAscent (n - suc i) q → moved_power d n i F q ≡ pos 0

tame_ext : (n i : ℕ) (F G : List ℕ → ℤ) → i < n → ((v : List ℕ) → IsState n v → F v ≡ G v) → IsTame n i F → IsTame n i G
tame_ext n i F G h e t = record { none = λ d q s r. power_ext d n i G F q s h (λ v u. sym (e v u)) ∙ t.none d q s r }

tame_minus : (n i : ℕ) (F G : List ℕ → ℤ) → i < n → IsTame n i F → IsTame n i G → IsTame n i (λ v. F v -ℤ G v)
tame_minus n i F G h t u = record {
  none = λ d q s r. let x = power_minus d n i F G q s h in let y = t.none d q s r in let z = u.none d q s r in omega (arith, ints);
}

pub tame_moved : (n i : ℕ) (F : List ℕ → ℤ) → IsTame n i F → IsTame n i (moved_by n i F)
tame_moved n i F t = record { none = λ d q s r. t.none (suc d) q s r }

tame_neg : (n i : ℕ) (F : List ℕ → ℤ) → i < n → IsTame n i F → IsTame n i (λ v. neg_ℤ (F v))
tame_neg n i F h t =
    tame_ext n i (λ v. (F v -ℤ F v) -ℤ F v) (λ v. neg_ℤ (F v)) h (λ v s. omega (arith, ints))
    (tame_minus n i (λ v. F v -ℤ F v) F h (tame_minus n i F F h t t) t)

tame_turned : (k n i : ℕ) (F : List ℕ → ℤ) → i < n → IsTame n i F → IsTame n i (λ v. turned k (F v))
tame_turned zero n i F h t = t
tame_turned (suc k) n i F h t = tame_turned k n i (λ v. neg_ℤ (F v)) h (tame_neg n i F h t)

tame_add : (n i : ℕ) (F G : List ℕ → ℤ) → i < n → IsTame n i F → IsTame n i G → IsTame n i (λ v. F v +ℤ G v)
tame_add n i F G h t u =
    tame_ext n i (λ v. F v -ℤ neg_ℤ (G v)) (λ v. F v +ℤ G v) h (λ v s. omega (arith, ints))
    (tame_minus n i F (λ v. neg_ℤ (G v)) h t (tame_neg n i G h u))

power_value : (d n i : ℕ) (g : Poly) (ψ : List ℕ → ℤ) (q : List ℕ) → In (n + n) g → IsState n q → i < n → IsFree n (suc i) g → HasLeftAscent (n - suc i) q
    → moved_power d n i (value_at n g ψ) q ≡ pos 0
power_value zero n i g ψ q j s h f r = no_value n (suc i) g ψ q (omega arith) f s r
power_value (suc d) n i g ψ q j s h f r =
    power_ext d n i (moved_by n i (value_at n g ψ)) (value_at n (times (variable_after i) g) ψ) q s h (λ v t. sym (x_acts n i g ψ v j t h))
    ∙ power_value d n i (times (variable_after i) g) ψ q (In_variable (n + n) i g j (omega arith)) s h (free_times n i g j h f) r

pub tame_value : (n i : ℕ) (g : Poly) (ψ : List ℕ → ℤ) → In (n + n) g → i < n → IsFree n (suc i) g → IsTame n i (value_at n g ψ)
tame_value n i g ψ j h f = record { none = λ d q s r. power_value d n i g ψ q j s h f r }

-- ---- the factors with x_i, expanded in powers of x_i

-- the sum over d ≤ e of (-1)^(e-d) times x_i^d acting on H(e - d)
abbrev pub expanded : ℕ → ℕ → ℕ → (ℕ → List ℕ → ℤ) → List ℕ → ℤ
expanded zero n i H q = H 0 q
expanded (suc e) n i H q = turned (suc e) (H (suc e) q) +ℤ moved_by n i (λ v. expanded e n i H v) q

pub expanded_ext : (e n i : ℕ) (H K : ℕ → List ℕ → ℤ) (q : List ℕ) → IsState n q → i < n → ((d : ℕ) (v : List ℕ) → IsState n v → H d v ≡ K d v)
    → expanded e n i H q ≡ expanded e n i K q
expanded_ext zero n i H K q s h f = f 0 q s
expanded_ext (suc e) n i H K q s h f =
    ap₂ (λ x y. turned (suc e) x +ℤ y) (f (suc e) q s) (moved_ext n i (λ v. expanded e n i H v) (λ v. expanded e n i K v) q s h (λ v t. expanded_ext e n i H K v t h f))

pub tame_expanded : (e n i : ℕ) (H : ℕ → List ℕ → ℤ) → i < n → ((d : ℕ) → IsTame n i (H d)) → IsTame n i (expanded e n i H)
tame_expanded zero n i H h t = t 0
tame_expanded (suc e) n i H h t =
    tame_add n i (λ v. turned (suc e) (H (suc e) v)) (moved_by n i (λ v. expanded e n i H v)) h (tame_turned (suc e) n i (H (suc e)) h (t (suc e)))
    (tame_moved n i (λ v. expanded e n i H v) (tame_expanded e n i H h t))

turned_sum : (k : ℕ) (y z : ℤ) → turned k (y +ℤ z) ≡ turned k y +ℤ turned k z
turned_sum zero y z = refl
turned_sum (suc k) y z = let e : neg_ℤ (y +ℤ z) ≡ neg_ℤ y +ℤ neg_ℤ z = omega (arith, ints) in ap (turned k) e ∙ turned_sum k (neg_ℤ y) (neg_ℤ z)

turned_once : (k : ℕ) (z : ℤ) → turned (suc k) z ≡ neg_ℤ (turned k z)
turned_once zero z = refl
turned_once (suc k) z = turned_once k (neg_ℤ z)

-- if K(0) = H(0) and K(d + 1) = H(d + 1) + Y(d), the sum for K is that for H minus the sum for Y with one power less
pub expanded_more : (e n i : ℕ) (H K Y : ℕ → List ℕ → ℤ) (q : List ℕ) → IsState n q → i < n → ((v : List ℕ) → IsState n v → K 0 v ≡ H 0 v)
    → ((d : ℕ) (v : List ℕ) → IsState n v → K (suc d) v ≡ H (suc d) v +ℤ Y d v) → expanded (suc e) n i K q ≡ expanded (suc e) n i H q -ℤ expanded e n i Y q
expanded_more zero n i H K Y q s h f g =
    let a = g 0 q s in
    let b = moved_ext n i (λ v. K 0 v) (λ v. H 0 v) q s h f in
    omega (arith, ints)
expanded_more (suc e) n i H K Y q s h f g =
    let a = ap (turned (suc (suc e))) (g (suc e) q s) ∙ turned_sum (suc (suc e)) (H (suc (suc e)) q) (Y (suc e) q) in
    let t = turned_once (suc e) (Y (suc e) q) in
    let b = moved_ext n i (λ v. expanded (suc e) n i K v) (λ v. expanded (suc e) n i H v -ℤ expanded e n i Y v) q s h (λ v u. expanded_more e n i H K Y v u h f g) in
    let c = moved_minus n i (λ v. expanded (suc e) n i H v) (λ v. expanded e n i Y v) q in
    omega (arith, ints)

pub elementary_none : (d k n : ℕ) (φ : List ℕ → ℤ) → k < d → pair (elementary_in d k n) φ ≡ pos 0
elementary_none zero k n φ h = absurd (omega arith)
elementary_none (suc d) zero n φ h = refl
elementary_none (suc d) (suc k) n φ h =
    let a = pair_plus (elementary_in (suc d) k n) (times (variable_in (suc k) n) (elementary_in d k n)) φ in
    let b = elementary_none (suc d) k n φ (omega arith) in
    let c = pair_times (variable_in (suc k) n) (elementary_in d k n) φ in
    let e = pair_ext (variable_in (suc k) n) (λ α. pair (elementary_in d k n) (λ β. φ (join α β))) (λ α. pos 0) (λ α. elementary_none d k n (λ β. φ (join α β)) (omega arith)) in
    let z = pair_zero (variable_in (suc k) n) in
    omega (arith, ints)

-- U_q(g) at x = 0, as a polynomial in y
abbrev pub at_zero : ℕ → Poly → List ℕ → Poly
at_zero n g q = at_x_zero n (schubert_over g q)

-- e_d(y_1, .., y_c) times U_q(g) at x = 0, paired with ψ
abbrev pub with_elementary : ℕ → ℕ → Poly → (List ℕ → ℤ) → ℕ → List ℕ → ℤ
with_elementary n c g ψ d q = pair (times (elementary_in d c n) (at_zero n g q)) ψ
