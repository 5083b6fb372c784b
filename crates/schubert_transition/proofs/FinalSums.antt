-- The list of terms that the transition rule computes for S_w is the Schubert polynomial of w.
--     final            the list is S_w
--     overflow_past    if the computation overflows, a coefficient of S_w exceeds the limit 2^127 - 1
-- A *share* (`IsShare`) gives a bound for each pair of a permutation and a monomial, such that no step of the transition rule increases the sum of
-- these bounds.
use Rattle.std.proofs.Common.{◌≡◌, ℕ, zero, suc, ◌+◌, ◌*◌, ◌^◌, ◌≤◌, Bool, true, false, cond, List, [], ◌∷◌, length, refl, sym, ap, ◌∙◌, subst, inl, inr, arith, ℤ, pos, negsuc, ◌+ℤ◌, ◌-ℤ◌, ◌*ℤ◌, ◌≤ℤ◌}
use Rattle.std.specs.Prelude.{nat_abs, nat_eq, FitsSigned, Result, Ok, Err, IfOk, OnOk}
use Rattle.std.specs.Int.{w128}
use Rattle.std.specs.Cmp.Lexicographic.{pointwise}
use Rattle.std.proofs.lemmas.Int.{ints}
use Rattle.std.proofs.lemmas.Bool.{and_parts}
use Rattle.fraction_laws.specs.Fractions.{whole}
use Rattle.sym_model.specs.Sum.{Among}
use Rattle.sym_model.specs.Polynomial.{same, join, pair, coefficient as coefficient_of, resize}
use Rattle.sym_model.specs.Partition.{in_front, size, without_last_zeros}
use Rattle.sym_model.specs.Permutation.{IsOneLine}
use Rattle.sym_model.specs.PlaceOrders.{inversions}
use Rattle.sym_model.specs.DividedDifference.{x_to_in}
use Rattle.sym_model.specs.Schubert as polynomials
use Rattle.sym_model.specs.Schubert.{schubert_in}
use Rattle.sym_model.specs.Expansion.{Represents}
use Rattle.sym_model.specs.WholeTerms.{WholeTerms, as_fractions}
use Rattle.sym_model.specs.LabelLimits.{is_monomial_label}
use Rattle.sym_model.proofs.Sums.{total_ext}
use Rattle.sym_model.proofs.Exponents.{same_true, same_from, fits_in_length}
use Rattle.sym_model.proofs.Polynomials.{at_only, coefficient_pair, at_only-nonnegative}
use Rattle.sym_model.proofs.Integers.{is_past-tells, is_past-from, product-nonnegative}
use Rattle.sym_model.proofs.Ring.{distributes_left}
use Rattle.schubert_laws.proofs.FixedLetters.{In_schubert}
use Rattle.linear_combinations.specs.Entries.{AreHeld}
use Rattle.linear_combinations.specs.Gains.{over}
use Rattle.linear_combinations.proofs.Found.{coefficient_found, coefficient_of_term}
use Rattle.linear_combinations.proofs.Masses.{represents_sums}
use Rattle.linear_combinations.proofs.Totals.{term-among}
use Rattle.transition_walk.specs.Growth.{IsShare, SharesOverflow, top_of}
use Rattle.transition_walk.specs.Transitions.{IsShort}
use Rattle.transition_walk.proofs.Answering.{sums_as}
use Rattle.transition_walk.proofs.Monomials.{schubert_monomials}
use Rattle.schubert_laws.proofs.IndependentSchuberts.{pair_restrict_whole}
use Rattle.transition_walk.proofs.Shares.{natural}
use Rattle.transition_laws.specs.Acted.{acted, raised_terms}
use Rattle.schubert_transition.specs.TermLists.{AreTerms, IsMonomialTable, IsSchubertOf}
use Rattle.transition_laws.proofs.ActedLaws.{identity_shows}
use Rattle.schubert_transition.proofs.Acted.{acted_start, acted_at, shown_natural, at_only_here}
use Rattle.schubert_transition.proofs.VariableShares.{coefficient_share, share_is, exact_share, outside_share, outside_falls, outside_start, within_by, within_terms}
use Rattle.sym_model.proofs.PolynomialLaws.{restricted_test}
use Rattle.sym_model.specs.PastLimit.{HasPast, IsCoefficientOfSchubert}
use Rattle.linear_combinations.specs.Gains.{weighed}
use Rattle.sparse_polys.proofs.PolynomialValues.{pair_x_to_in}

coefficient_is : (w α : List ℕ) → coefficient_of (polynomials.schubert w) α ≡ pair (schubert_in w (length w)) (at_only α)
coefficient_is w α = coefficient_pair (polynomials.schubert w) α ∙ sym (pair_restrict_whole (length w) (polynomials.schubert w) (at_only α) (In_schubert w))

past_from : (w γ : List ℕ) → pos (2 ^ 127) ≤ℤ pair (schubert_in w (length w)) (at_only γ) → HasPast (IsCoefficientOfSchubert w)
past_from w γ h = (coefficient_of (polynomials.schubert w) γ, (γ, refl), is_past-from (coefficient_of (polynomials.schubert w) γ) (subst (λ z. pos (2 ^ 127) ≤ℤ z) (sym (coefficient_is w γ)) h))

-- ---- monomials in at most n variables are determined by their lists of n exponents

trimmed_resize : (n : ℕ) (e : List ℕ) → length e ≤ n → without_last_zeros (resize n e) ≡ without_last_zeros e
trimmed_resize zero [] h = refl
trimmed_resize zero (a ∷ e) h = absurd (omega arith)
trimmed_resize (suc n) [] h = ap (in_front 0) (trimmed_resize n [] (omega arith))
trimmed_resize (suc n) (a ∷ e) h = ap (in_front a) (trimmed_resize n e (omega arith))

shown_only : (n : ℕ) (α e : List ℕ) → length e ≤ n → without_last_zeros e ≡ e → restricted_test n (at_only α) e ≤ℤ at_only (without_last_zeros α) e
shown_only n α e few trimmed = subst (λ b. cond b (at_only α (resize n e)) (pos 0) ≤ℤ at_only (without_last_zeros α) e) (sym (fits_in_length n e few)) (by (same (resize n e) α) refl)
  where
    by : (b : Bool) → same (resize n e) α ≡ b → cond b (pos 1) (pos 0) ≤ℤ at_only (without_last_zeros α) e
    by false p = at_only-nonnegative (without_last_zeros α) e
    by true p =
        let is : e ≡ without_last_zeros α = sym trimmed ∙ sym (trimmed_resize n e few) ∙ ap without_last_zeros (same_true (resize n e) α p) in
        let one = ap (λ b. cond b (pos 1) (pos 0)) (same_from e (without_last_zeros α) is) in
        omega (arith, ints)

over_within : (φ ψ : List ℕ → ℤ) (terms : WholeTerms) → ((t : List ℕ × ℤ) → Among t terms → (pos 0 ≤ℤ t.1) × (φ t.0 ≤ℤ ψ t.0)) → over φ terms ≤ℤ over ψ terms
over_within φ ψ [] h = omega (arith, ints)
over_within φ ψ (t ∷ terms) h =
    let p = h t (inl refl) in
    let a = product_more t.1 (φ t.0) (ψ t.0) p.0 p.1 in
    let b = over_within φ ψ terms (λ u m. h u (inr m)) in
    omega (arith, ints)
  where
    product_more : (x y z : ℤ) → pos 0 ≤ℤ x → y ≤ℤ z → (x *ℤ y) ≤ℤ (x *ℤ z)
    product_more x y z h k =
        let n = product-nonnegative x (z -ℤ y) h (omega (arith, ints)) in
        let e : z ≡ y +ℤ (z -ℤ y) = omega (arith, ints) in
        let q = ap (λ t. x *ℤ t) e ∙ distributes_left x y (z -ℤ y) in
        omega (arith, ints)

trimmed_label : (e : List ℕ) → is_monomial_label e ≡ true → without_last_zeros e ≡ e
trimmed_label e h = same_true (without_last_zeros e) e (and_parts _ _ (and_parts _ _ h).0).0

not_negative : (f : List ℕ → ℕ) (terms : WholeTerms) → pos (weighed f terms) ≤ℤ over (λ e. pos (f e)) terms
    → (t : List ℕ × ℤ) → Among t terms → 1 ≤ f t.0 → pos 0 ≤ℤ t.1
not_negative f [] h t m some = absurd m
not_negative f (u ∷ terms) h t m some = by m (least u.1 (f u.0)) (all terms) (λ k l. not_negative f terms l t k some)
  where
    least : (z : ℤ) (k : ℕ) → (z *ℤ pos k) ≤ℤ pos (nat_abs z * k)
    least (pos n) k = omega (arith, ints)
    least (negsuc n) zero = omega (arith, ints)
    least (negsuc n) (suc k) = omega (arith, ints)

    all : (terms : WholeTerms) → over (λ e. pos (f e)) terms ≤ℤ pos (weighed f terms)
    all [] = omega (arith, ints)
    all (v ∷ terms) = let a = least v.1 (f v.0) in let r = all terms in omega (arith, ints)

    sign : (z : ℤ) (k : ℕ) → 1 ≤ k → pos (nat_abs z * k) ≤ℤ (z *ℤ pos k) → pos 0 ≤ℤ z
    sign (pos n) k some h = omega (arith, ints)
    sign (negsuc n) zero some h = absurd (omega arith)
    sign (negsuc n) (suc k) some h = absurd (omega (arith, ints))

    by : Among t (u ∷ terms) → (u.1 *ℤ pos (f u.0)) ≤ℤ pos (nat_abs u.1 * f u.0) → over (λ e. pos (f e)) terms ≤ℤ pos (weighed f terms)
        → (Among t terms → pos (weighed f terms) ≤ℤ over (λ e. pos (f e)) terms → pos 0 ≤ℤ t.1) → pos 0 ≤ℤ t.1
    by (inl e) a b rest =
        let s = ap (λ (v : List ℕ × ℤ). f v.0) e in
        let z = sign u.1 (f u.0) (omega arith) (omega (arith, ints)) in
        subst (λ (v : List ℕ × ℤ). pos 0 ≤ℤ v.1) (sym e) z
    by (inr k) a b rest = rest k (omega (arith, ints))

-- `terms` is a list of different monomials with coefficients of 128 bits other than 0, and it is S_w in every number of variables. For every share,
-- the sum of |c|·share(identity, x^e) over the terms c·x^e is at most the share of w and the monomial 1
record IsMade (w : List ℕ) (terms : WholeTerms) : Type 0 where
  value : (n : ℕ) (φ : List ℕ → ℤ) → over (λ e. pair (x_to_in e n) φ) terms ≡ acted n φ w []
  table : IsMonomialTable terms
  held : AreHeld (pointwise nat_eq) (pos 0) (FitsSigned w128) terms
  shares : (share : List ℕ → List ℕ → ℕ) → IsShare (λ r v e. raised_terms r e) (λ e. 255 + size e) (length w) (top_of w 255) share
      → weighed (share (1 ∷ [])) terms ≤ share w []

module _ (w : List ℕ) (short : IsShort (length w) w) (terms : WholeTerms) (is : IsMade w terms) where
  sums : (n : ℕ) (φ : List ℕ → ℤ) → over (restricted_test n φ) terms ≡ pair (schubert_in w n) φ
  sums n φ =
      sums_as (restricted_test n φ) (λ e. pair (x_to_in e n) φ) (λ e. sym (pair_x_to_in n e φ)) terms
      ∙ is.value n φ ∙ acted_start n φ w

  within : (t : List ℕ × ℤ) → Among t terms → (length t.0 ≤ length w) × (size t.0 + 0 ≤ inversions w)
  within =
      within_terms (length w) (inversions w) (1 ∷ []) terms is.table
      (let a = is.shares (outside_share (length w) (inversions w)) (outside_falls (length w) (inversions w) (top_of w 255)) in
      let b = outside_start (length w) (inversions w) w (omega arith) in
      omega arith)

  natural_term : (t : List ℕ × ℤ) → Among t terms → pos 0 ≤ℤ t.1
  natural_term t m =
      let γ : List ℕ = resize (length w) t.0 in
      let n : ℕ = length w in
      let share_one : (e : List ℕ) → restricted_test (length w) (at_only (resize (length w) t.0)) e ≡ pos (coefficient_share (length w) (resize (length w) t.0) (1 ∷ []) e) =
      λ e.
      natural (restricted_test (length w) (at_only (resize (length w) t.0)) e) (shown_natural (length w) (at_only (resize (length w) t.0)) e (at_only-nonnegative (resize (length w) t.0)))
      ∙ ap (λ z. pos (nat_abs z)) (sym (identity_shows (length w) (at_only (resize (length w) t.0)) e)) in
      let a = is.shares (coefficient_share (length w) (resize (length w) t.0)) (exact_share (length w) (top_of w 255) (resize (length w) t.0)) in
      let b = share_is (length w) (resize (length w) t.0) w [] short in
      let c = acted_start (length w) (at_only (resize (length w) t.0)) w in
      let d = sums (length w) (at_only (resize (length w) t.0)) in
      let e = total_ext (λ (u : List ℕ × ℤ). u.1 *ℤ pos (coefficient_share (length w) (resize (length w) t.0) (1 ∷ []) u.0)) (λ (u : List ℕ × ℤ). u.1 *ℤ restricted_test (length w) (at_only (resize (length w) t.0)) u.0)
      (λ u. ap (λ z. u.1 *ℤ z) (sym (share_one u.0))) terms in
      let here : restricted_test (length w) (at_only (resize (length w) t.0)) t.0 ≡ pos 1 =
      ap (λ b. cond b (at_only (resize (length w) t.0) (resize (length w) t.0)) (pos 0)) (fits_in_length (length w) t.0 (within t m).0) ∙ at_only_here (resize (length w) t.0) in
      let one = share_one t.0 in
      not_negative (coefficient_share (length w) (resize (length w) t.0) (1 ∷ [])) terms (omega (arith, ints)) t m (omega (arith, ints))

  are_terms : AreTerms (length w) (inversions w) terms
  are_terms t m =
      let b = within t m in
      let b1 = b.1 in
      let h = is.held.at_label t.0 in
      let e = sym (coefficient_found terms is.table.distinct t.0) ∙ coefficient_of_term terms is.table.distinct t m in
      let f : FitsSigned w128 t.1 = subst (FitsSigned w128) e h in
      record { few = b.0; small = omega arith; natural = natural_term t m; held = omega (arith, ints) }

  represents : (n : ℕ) → Represents (λ exponents. x_to_in exponents n) (as_fractions terms) (schubert_in w n) 1
  represents n =
      represents_sums (λ e. x_to_in e n) terms (schubert_in w n)
      (λ φ. total_ext (λ (t : List ℕ × ℤ). t.1 *ℤ pair (x_to_in t.0 n) φ) (λ (t : List ℕ × ℤ). t.1 *ℤ restricted_test n φ t.0) (λ t. ap (λ z. t.1 *ℤ z) (pair_x_to_in n t.0 φ)) terms ∙ sums n φ)

  fits : HasPast (IsCoefficientOfSchubert w) → ⊥
  fits (c, (α, e), large) =
      let a = sums (length w) (at_only α) in
      let b = coefficient_is w α in
      let m = over_within (restricted_test (length w) (at_only α)) (at_only (without_last_zeros α)) terms
      (λ t i.
      (natural_term t i, shown_only (length w) α t.0 (within t i).0 (trimmed_label t.0 (and_parts _ _ (term-among is_monomial_label whole terms is.table.proper t i)).1))) in
      let f = sym (coefficient_pair terms (without_last_zeros α)) ∙ coefficient_found terms is.table.distinct (without_last_zeros α) in
      let g = is.held.at_label (without_last_zeros α) in
      let p = is_past-tells c large in
      absurd (omega (arith, ints))

  made : IsSchubertOf w terms
  made = record { represents = represents; terms_of = are_terms; table = is.table; fits = fits }

short_of : (w : List ℕ) → IsOneLine w → IsShort (length w) w
short_of w one_line = record { one_line = one_line; few = omega arith }

pub final : {E : Type 0} (w : List ℕ) (one : List ℕ) (r : Result WholeTerms E) → IsOneLine w → one ≡ []
    → IfOk r (λ terms. (n : ℕ) (φ : List ℕ → ℤ) → over (λ e. pair (x_to_in e n) φ) terms ≡ acted n φ w one)
    → IfOk r IsMonomialTable → IfOk r (AreHeld (pointwise nat_eq) (pos 0) (FitsSigned w128))
    → IfOk r (λ terms. (share : List ℕ → List ℕ → ℕ) → IsShare (λ r v e. raised_terms r e) (λ e. 255 + size e) (length w) (top_of w (255 + size one)) share
    → weighed (share (1 ∷ [])) terms ≤ share w one)
    → IfOk r (IsSchubertOf w)
final w one (Ok terms) one_line is value table held shares =
    made w (short_of w one_line) terms
    (record {
      value = λ n φ. value n φ ∙ ap (acted n φ w) is;
      table = table;
      held = held;
      shares = subst (λ (e : List ℕ). (share : List ℕ → List ℕ → ℕ) → IsShare (λ r v e. raised_terms r e) (λ e. 255 + size e) (length w) (top_of w (255 + size e)) share
          → weighed (share (1 ∷ [])) terms ≤ share w e) is shares;
    })
final w one (Err e) one_line is value table held shares = tt

pub fits_of : {E : Type 0} (w : List ℕ) (r : Result WholeTerms E) → IfOk r (IsSchubertOf w) → OnOk r (HasPast (IsCoefficientOfSchubert w) → ⊥)
fits_of w (Ok terms) h = h.fits
fits_of w (Err e) h = tt

reached : (w : List ℕ) → IsOneLine w
    → (o : SharesOverflow (λ r v e. raised_terms r e) (λ e. 255 + size e) (length w) (top_of w 255) (λ share. share w [])) (γ : List ℕ)
    → at_only o.label o.label ≤ℤ acted (length w) (at_only γ) o.perm o.label → HasPast (IsCoefficientOfSchubert w)
reached w one_line o γ h =
    let one = at_only_here o.label in
    let s = share_is (length w) γ o.perm o.label o.short in
    let l = o.large (coefficient_share (length w) γ) (exact_share (length w) (top_of w 255) γ) (omega (arith, ints)) in
    let t = share_is (length w) γ w [] (short_of w one_line) in
    let e = acted_start (length w) (at_only γ) w in
    past_from w γ (omega (arith, ints))

pub overflow_past : (w one : List ℕ) → IsOneLine w → one ≡ []
    → SharesOverflow (λ r v e. raised_terms r e) (λ e. 255 + size e) (length w) (top_of w (255 + size one)) (λ share. share w one) → HasPast (IsCoefficientOfSchubert w)
overflow_past w one one_line is over =
    by (subst (λ (e : List ℕ). SharesOverflow (λ r v e. raised_terms r e) (λ e. 255 + size e) (length w) (top_of w (255 + size e)) (λ share. share w e)) is over)
  where
    by : SharesOverflow (λ r v e. raised_terms r e) (λ e. 255 + size e) (length w) (top_of w 255) (λ share. share w []) → HasPast (IsCoefficientOfSchubert w)
    by o =
        let few = (within_by (length w) (inversions w) o.perm o.label
        (λ some.
        let a = o.large (outside_share (length w) (inversions w)) (outside_falls (length w) (inversions w) (top_of w 255)) some in
        let b = outside_start (length w) (inversions w) w (omega arith) in
        absurd (omega arith))).0 in
        let h = schubert_monomials (length w) o.perm o.short in
        reached w one_line o (join (resize (length w) o.label) h.first) (acted_at (length w) o.perm o.label o.label h (fits_in_length (length w) o.label few))
