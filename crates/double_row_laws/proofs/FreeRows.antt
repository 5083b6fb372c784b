-- Within a row: the sums of ExpandedRows are values of one polynomial (`gathered`), which has no variables x after x_i. So they are 0 at lists with a left
-- ascent. Variables are counted from 0.
use Rattle.std.proofs.Common.{◌≡◌, ℕ, zero, suc, ◌+◌, ◌-◌, ◌<◌, ◌≤◌, List, [], ◌∷◌, inl, inr, length, take, refl, sym, ◌∙◌, ap, ap₂, subst, arith, ℤ, pos, ◌+ℤ◌, neg_ℤ}
use Rattle.std.proofs.lemmas.Int.{ints}
use Rattle.sym_model.specs.Sum.{Among}
use Rattle.sym_model.specs.PlaceOrders.{places}
use Rattle.sym_model.specs.Polynomial.{Poly, Same, In, nothing, one, plus, negate, times, pair, join}
use Rattle.sym_model.specs.Expansion.{beside}
use Rattle.sym_model.specs.DividedDifference.{variable_in}
use Rattle.sym_model.specs.Permutation.{IsOneLine}
use Rattle.sym_model.specs.Schubert.{schubert_over}
use Rattle.sym_model.proofs.AfterLists.{after_among}
use Rattle.sym_model.proofs.Polynomials.{pair_ext, pair_plus, pair_times, pair_negate, pair_determined, same_from_pair, In_plus, In_times, In_negate}
use Rattle.sym_model.proofs.PolynomialLaws.{one-times, times_assoc}
use Rattle.schubert_laws.specs.Chains.{letters_before}
use Rattle.schubert_laws.proofs.Differences.{along}
use Rattle.schubert_laws.proofs.DifferenceLaws.{variable_after, pair_variable_times}
use Rattle.schubert_laws.proofs.Exchanges.{raise}
use Rattle.schubert_laws.proofs.Pieri.{after_factor, through_factor}
use Rattle.double_schubert_laws.specs.DiagramRows.{AreWithin, HasLeftAscent}
use Rattle.double_schubert_laws.proofs.DiagramProducts.{apart_before, apart_after, along_raised}
use Rattle.double_schubert_laws.proofs.InverseSteps.{turned}
use Rattle.double_schubert_laws.proofs.RowSteps.{In_over}
use Rattle.double_schubert_laws.proofs.Rows.{below, In_below, over_combined, over_same, later_variable, IsState, IsFree, free_below, free_more}
use Rattle.double_pieri_laws.specs.DoubleChains.{elementary_of, these_y}
use Rattle.double_row_laws.specs.DoubleRows.{times_double_rows, one_double_row}
use Rattle.double_row_laws.proofs.ExpandedRows.{valued, moved_y_ext, x_moves, y_factor, In_elementary_y, with_y, expanded_y}
use Rattle.double_row_laws.proofs.DoubleRowsFromOne.{tested, pair_one_row_y, pair_times_rows_y, no_value_y, In_x, x_factor}

-- ---- sums and products with variables y, under divided differences

over_sum : (f g : Poly) (q : List ℕ) (φ : List ℕ → ℤ) → pair (schubert_over (plus f g) q) φ ≡ pair (schubert_over f q) φ +ℤ pair (schubert_over g q) φ
over_sum f g q φ =
    let a = over_combined f (plus f g) g q φ (λ ψ. let p = pair_plus f g ψ in omega (arith, ints)) in
    omega (arith, ints)

over_y : (n c : ℕ) (g : Poly) (q : List ℕ) (φ : List ℕ → ℤ) → In (n + n) g → length q ≡ n → c < n
    → pair (schubert_over (times (beside (one n) (variable_in (suc c) n)) g) q) φ ≡ pair (times (beside (one n) (variable_in (suc c) n)) (schubert_over g q)) φ
over_y n c g q φ i e h =
    over_same (times (beside (one n) (variable_in (suc c) n)) g) (times (variable_after (n + c)) g) q φ (λ ψ. y_factor n c g ψ i h ∙ sym (pair_variable_times (n + c) (n + n) g ψ i (omega arith)))
    ∙ later_variable (n + n) (n + c) g q φ i (omega arith) (omega arith)
    ∙ sym (y_factor n c (schubert_over g q) φ (In_over n g q i) h)

abbrev AreLetters : ℕ → List ℕ → Type 0
AreLetters n letters = (a : ℕ) → Among a letters → (1 ≤ a) × (a ≤ n)

over_letter : (n a : ℕ) (g : Poly) (q : List ℕ) (φ : List ℕ → ℤ) → In (n + n) g → length q ≡ n → (1 ≤ a) × (a ≤ n)
    → pair (schubert_over (times (beside (one n) (variable_in a n)) g) q) φ ≡ pair (times (beside (one n) (variable_in a n)) (schubert_over g q)) φ
over_letter n zero g q φ i e h = let p = h.0 in absurd (omega arith)
over_letter n (suc c) g q φ i e h = let p = h.1 in over_y n c g q φ i e (omega arith)

elementary_parts : (n d a : ℕ) (letters : List ℕ) (p : Poly) (ψ : List ℕ → ℤ) → pair (times (elementary_of (n + n) (suc d) (these_y (a ∷ letters) n)) p) ψ
    ≡ pair (plus (times (elementary_of (n + n) (suc d) (these_y letters n)) p) (times (beside (one n) (variable_in a n)) (times (elementary_of (n + n) d (these_y letters n)) p))) ψ
elementary_parts n d a letters p ψ =
    let y : Poly = beside (one n) (variable_in a n) in
    let more : Poly = elementary_of (n + n) (suc d) (these_y letters n) in
    let few : Poly = elementary_of (n + n) d (these_y letters n) in
    let x = pair_times (plus more (times y few)) p ψ in
    let z = pair_plus more (times y few) (λ α. pair p (λ β. ψ (join α β))) in
    let w = pair_times more p ψ in
    let r = pair_times (times y few) p ψ in
    let s = pair_determined (times (times y few) p) (times y (times few p)) ψ (times_assoc y few p) in
    let t = pair_plus (times more p) (times y (times few p)) ψ in
    omega (arith, ints)

over_elementary : (n d : ℕ) (letters : List ℕ) (g : Poly) (q : List ℕ) (φ : List ℕ → ℤ) → In (n + n) g → length q ≡ n → AreLetters n letters
    → pair (schubert_over (times (elementary_of (n + n) d (these_y letters n)) g) q) φ ≡ pair (times (elementary_of (n + n) d (these_y letters n)) (schubert_over g q)) φ
over_elementary n zero letters g q φ i e h =
    over_same (times (one (n + n)) g) g q φ (λ ψ. pair_determined (times (one (n + n)) g) g ψ (one-times (n + n) g i))
    ∙ sym (pair_determined (times (one (n + n)) (schubert_over g q)) (schubert_over g q) φ (one-times (n + n) (schubert_over g q) (In_over n g q i)))
over_elementary n (suc d) [] g q φ i e h = over_same (times nothing g) nothing q φ (λ ψ. refl) ∙ none
  where
    none : pair (schubert_over nothing q) φ ≡ pos 0
    none = let z = over_combined nothing nothing nothing q φ (λ ψ. refl) in omega (arith, ints)
over_elementary n (suc d) (a ∷ letters) g q φ i e h =
    let y : Poly = beside (one n) (variable_in a n) in
    let more : Poly = elementary_of (n + n) (suc d) (these_y letters n) in
    let few : Poly = elementary_of (n + n) d (these_y letters n) in
    let j = In_times (n + n) few g (In_elementary_y n d letters) i in
    let s = over_same (times (plus more (times y few)) g) (plus (times more g) (times y (times few g))) q φ (λ ψ. elementary_parts n d a letters g ψ) in
    let t = over_sum (times more g) (times y (times few g)) q φ in
    let a1 = over_elementary n (suc d) letters g q φ i e (λ b m. h b (inr m)) in
    let b1 = over_letter n a (times few g) q φ j e (h a (inl refl)) in
    let c1 = y_part φ (λ ψ. over_elementary n d letters g q ψ i e (λ b m. h b (inr m))) in
    let u = elementary_parts n d a letters (schubert_over g q) φ in
    let v = pair_plus (times more (schubert_over g q)) (times y (times few (schubert_over g q))) φ in
    omega (arith, ints)
  where
    y_part : (ψ : List ℕ → ℤ) → ((χ : List ℕ → ℤ) → pair (schubert_over (times (elementary_of (n + n) d (these_y letters n)) g) q) χ ≡ pair (times (elementary_of (n + n) d (these_y letters n)) (schubert_over g q)) χ)
        → pair (times (beside (one n) (variable_in a n)) (schubert_over (times (elementary_of (n + n) d (these_y letters n)) g) q)) ψ
        ≡ pair (times (beside (one n) (variable_in a n)) (times (elementary_of (n + n) d (these_y letters n)) (schubert_over g q))) ψ
    y_part ψ f =
        through_factor (beside (one n) (variable_in a n)) (schubert_over (times (elementary_of (n + n) d (these_y letters n)) g) q) ψ
        ∙ f (after_factor (beside (one n) (variable_in a n)) ψ)
        ∙ sym (through_factor (beside (one n) (variable_in a n)) (times (elementary_of (n + n) d (these_y letters n)) (schubert_over g q)) ψ)

-- ---- polynomials without later variables x

free_sum : (n i : ℕ) (f g : Poly) → IsFree n i f → IsFree n i g → IsFree n i (plus f g)
free_sum n i f g a b = record {
  none = λ k l m φ. let p = pair_plus f g (along k φ) in let x = a.none k l m φ in let y = b.none k l m φ in omega (arith, ints);
}

free_letter : (n i a : ℕ) (g : Poly) → In (n + n) g → (1 ≤ a) × (a ≤ n) → IsFree n i g → IsFree n i (times (beside (one n) (variable_in a n)) g)
free_letter n i zero g j h f = let p = h.0 in absurd (omega arith)
free_letter n i (suc c) g j h f = record {
  none = λ k l m φ.
      let p = h.1 in
      y_factor n c g (along k φ) j (omega arith)
      ∙ pair_ext g (λ α. along k φ (raise (n + c) α)) (along k (λ α. φ (raise (n + c) α))) (λ α. sym (along_raised k (n + c) φ α (apart_after k (n + c) (omega arith))))
      ∙ f.none k l m (λ α. φ (raise (n + c) α));
}

free_same : (n i : ℕ) (f g : Poly) → ((φ : List ℕ → ℤ) → pair f φ ≡ pair g φ) → IsFree n i g → IsFree n i f
free_same n i f g e a = record { none = λ k l m φ. e (along k φ) ∙ a.none k l m φ }

pub free_x : (n i : ℕ) (g : Poly) → In (n + n) g → i < n → IsFree n (suc i) g → IsFree n (suc i) (times (beside (variable_in (suc i) n) (one n)) g)
free_x n i g j h f = record {
  none = λ k l m φ.
      x_factor n i g (along k φ) j h
      ∙ pair_ext g (λ α. along k φ (raise i α)) (along k (λ α. φ (raise i α))) (λ α. sym (along_raised k i φ α (apart_before k i (omega arith))))
      ∙ f.none k l m (λ α. φ (raise i α));
}

free_elementary : (n i d : ℕ) (letters : List ℕ) (g : Poly) → In (n + n) g → AreLetters n letters → IsFree n i g → IsFree n i (times (elementary_of (n + n) d (these_y letters n)) g)
free_elementary n i zero letters g j h f = free_same n i (times (one (n + n)) g) g (λ φ. pair_determined (times (one (n + n)) g) g φ (one-times (n + n) g j)) f
free_elementary n i (suc d) [] g j h f = record { none = λ k l m φ. refl }
free_elementary n i (suc d) (a ∷ letters) g j h f =
    let more : Poly = times (elementary_of (n + n) (suc d) (these_y letters n)) g in
    let few : Poly = times (elementary_of (n + n) d (these_y letters n)) g in
    let y : Poly = beside (one n) (variable_in a n) in
    free_same n i (times (elementary_of (n + n) (suc d) (these_y (a ∷ letters) n)) g) (plus more (times y few)) (λ φ. elementary_parts n d a letters g φ)
    (free_sum n i more (times y few) (free_elementary n i (suc d) letters g j (λ b m. h b (inr m)) f)
    (free_letter n i a few (In_times (n + n) (elementary_of (n + n) d (these_y letters n)) g (In_elementary_y n d letters) j) (h a (inl refl))
    (free_elementary n i d letters g j (λ b m. h b (inr m)) f)))

-- ---- f with its sign changed k times

abbrev pub flipped : ℕ → Poly → Poly
flipped zero f = f
flipped (suc k) f = flipped k (negate f)

over_negated : (f : Poly) (q : List ℕ) (φ : List ℕ → ℤ) → pair (schubert_over (negate f) q) φ ≡ neg_ℤ (pair (schubert_over f q) φ)
over_negated f q φ =
    let a = over_combined (negate f) nothing f q φ (λ ψ. let n = pair_negate f ψ in omega (arith, ints)) in
    let b = over_combined nothing nothing nothing q φ (λ ψ. refl) in
    omega (arith, ints)

over_flipped : (k : ℕ) (f : Poly) (q : List ℕ) (φ : List ℕ → ℤ) → pair (schubert_over (flipped k f) q) φ ≡ turned k (pair (schubert_over f q) φ)
over_flipped zero f q φ = refl
over_flipped (suc k) f q φ = over_flipped k (negate f) q φ ∙ ap (turned k) (over_negated f q φ)

In_flipped : (N k : ℕ) (f : Poly) → In N f → In N (flipped k f)
In_flipped N zero f i = i
In_flipped N (suc k) f i = In_flipped N k (negate f) (In_negate N f i)

free_negated : (n i : ℕ) (f : Poly) → IsFree n i f → IsFree n i (negate f)
free_negated n i f a = record { none = λ k l m φ. pair_negate f (along k φ) ∙ ap neg_ℤ (a.none k l m φ) }

free_flipped : (n i k : ℕ) (f : Poly) → IsFree n i f → IsFree n i (flipped k f)
free_flipped n i zero f a = a
free_flipped n i (suc k) f a = free_flipped n i k (negate f) (free_negated n i f a)

-- ---- the sums of a row as values of one polynomial

pub letters_within : (n c : ℕ) → c ≤ n → AreLetters n (places c)
letters_within n c h a m = let x = after_among 0 c a m in let x0 = x.0 in let x1 = x.1 in (omega arith, omega arith)

abbrev pub gathered : ℕ → ℕ → ℕ → ℕ → Poly → Poly
gathered zero c n i g = g
gathered (suc e) c n i g =
    plus (flipped (suc e) (times (elementary_of (n + n) (suc e) (these_y (places c) n)) g)) (times (beside (variable_in (suc i) n) (one n)) (gathered e c n i g))

pub In_gathered : (e c n i : ℕ) (g : Poly) → In (n + n) g → In (n + n) (gathered e c n i g)
In_gathered zero c n i g j = j
In_gathered (suc e) c n i g j =
    In_plus (n + n) (flipped (suc e) (times (elementary_of (n + n) (suc e) (these_y (places c) n)) g)) (times (beside (variable_in (suc i) n) (one n)) (gathered e c n i g))
    (In_flipped (n + n) (suc e) (times (elementary_of (n + n) (suc e) (these_y (places c) n)) g) (In_times (n + n) (elementary_of (n + n) (suc e) (these_y (places c) n)) g (In_elementary_y n (suc e) (places c)) j))
    (In_times (n + n) (beside (variable_in (suc i) n) (one n)) (gathered e c n i g) (In_x n (suc i)) (In_gathered e c n i g j))

free_gathered : (e c n i : ℕ) (g : Poly) → In (n + n) g → i < n → c ≤ n → IsFree n (suc i) g → IsFree n (suc i) (gathered e c n i g)
free_gathered zero c n i g j h l f = f
free_gathered (suc e) c n i g j h l f =
    free_sum n (suc i) (flipped (suc e) (times (elementary_of (n + n) (suc e) (these_y (places c) n)) g)) (times (beside (variable_in (suc i) n) (one n)) (gathered e c n i g))
    (free_flipped n (suc i) (suc e) (times (elementary_of (n + n) (suc e) (these_y (places c) n)) g) (free_elementary n (suc i) (suc e) (places c) g j (letters_within n c l) f))
    (free_x n i (gathered e c n i g) (In_gathered e c n i g j) h (free_gathered e c n i g j h l f))

pub gathered_value : (e c n i : ℕ) (g : Poly) (φ : List ℕ → ℤ) (q : List ℕ) → In (n + n) g → IsState n q → i < n → c ≤ n → valued (gathered e c n i g) φ q ≡ expanded_y e n i (with_y n c g) φ q
gathered_value zero c n i g φ q j s h l = sym (pair_determined (times (one (n + n)) (schubert_over g q)) (schubert_over g q) φ (one-times (n + n) (schubert_over g q) (In_over n g q j)))
gathered_value (suc e) c n i g φ q j s h l =
    let E : Poly = elementary_of (n + n) (suc e) (these_y (places c) n) in
    let k = In_gathered e c n i g j in
    over_sum (flipped (suc e) (times E g)) (times (beside (variable_in (suc i) n) (one n)) (gathered e c n i g)) q φ
    ∙ ap₂ ◌+ℤ◌
    (over_flipped (suc e) (times E g) q φ ∙ ap (turned (suc e)) (over_elementary n (suc e) (places c) g q φ j s.size (letters_within n c l)))
    (over_same (times (beside (variable_in (suc i) n) (one n)) (gathered e c n i g)) (times (variable_after i) (gathered e c n i g)) q φ (λ ψ.
    x_factor n i (gathered e c n i g) ψ k h ∙ sym (pair_variable_times i (n + n) (gathered e c n i g) ψ k (omega arith)))
    ∙ x_moves n i (gathered e c n i g) φ q k s h
    ∙ moved_y_ext n i (valued (gathered e c n i g)) (λ ψ v. expanded_y e n i (with_y n c g) ψ v) φ φ q s h
    (gathered_value e c n i g (λ α. φ (raise (letters_before (n - i) q) α)) q j s h l) (λ v t. gathered_value e c n i g φ v j t h l))

pub within_double_row : (e c k i : ℕ) (s : Poly) (rows q : List ℕ) → IsOneLine q → AreWithin (length q) rows → i < length q → c ≤ length q → HasLeftAscent (length q - (i + 1)) q
    → Same (one_double_row e c (length q - i) k (times_double_rows k s (take i rows)) q) nothing
within_double_row e c k i s rows q o w h l r =
    let z : i + 1 ≡ suc i = omega arith in
    let t : IsState (length q) q = record { one_line = o; size = refl } in
    let g : Poly = below (length q) rows i in
    let b = In_below (length q) rows i w (omega arith) in
    same_from_pair (one_double_row e c (length q - i) k (times_double_rows k s (take i rows)) q) nothing (λ f.
    pair_one_row_y e c (length q) k i s g (times_double_rows k s (take i rows)) f q
    (record { at = λ v u x. pair_times_rows_y (length q) k rows i s u v w (omega arith) x.size }) b t h l
    ∙ sym (gathered_value e c (length q) i g (tested (length q) k s f) q b t h l)
    ∙ no_value_y (length q) (suc i) (gathered e c (length q) i g) (tested (length q) k s f) q (omega arith)
    (free_gathered e c (length q) i g b h l (free_more (length q) i g (free_below (length q) rows i w (omega arith)))) t
    (subst (λ m. HasLeftAscent (length q - m) q) z r))
