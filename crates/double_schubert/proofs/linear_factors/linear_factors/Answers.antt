use Rattle.std.proofs.Common.{◌≡◌, ℕ, ◌+◌, ◌≤◌, List, [], ◌∷◌, ◌++◌, length, length-append, refl, sym, ap, ◌∙◌}
use Rattle.std.proofs.Common.{subst, inl, inr, arith}
use Rattle.std.specs.Prelude.{IfSome, Option}
use Rattle.sym_model.specs.DoubleSchubert.{difference_in, double_schubert_in}
use Rattle.sym_model.specs.Permutation.{IsOneLine, IsTransition, letter, times_swap}
use Rattle.sym_model.specs.PlaceOrders.{inversions}
use Rattle.sym_model.specs.Polynomial.{Poly, Same, one, times}
use Rattle.sym_model.specs.Sum.{Among}
use Rattle.sym_model.proofs.Polynomials.{Same_refl, Same_trans}
use Rattle.sym_model.proofs.Sums.{Among_from_append}
use Rattle.schubert_laws.proofs.Members.{place_within, short_transition}
use Rattle.schubert_laws.proofs.Ranks.{letter_counts}
use Rattle.double_schubert_laws.proofs.DoubleFromOne.{letter_small}
use Rattle.double_schubert_laws.proofs.DoubleVariables.{identity_double}
use Rattle.transition_walk.specs.Transitions.{IsShort}
use Rattle.schubert_laws.proofs.PermutationLabels.{one_one_line}
use Rattle.double_schubert.specs.LinearFactors.{IsFactorWithin, AreWithin, IsOnlyLower, product_with, product_in}
use Rattle.double_schubert.proofs.LinearProducts.{product_respects, product_last, single_lower}
use Rattle.double_schubert.proofs.linear_factors.linear_factors.Goals as goal

pub loop-r-init : goal.loop-r-init
loop-r-init c =
    let e = ap inversions c.in_ok-rest.ensures.ok in
    let l = ap (λ (w : List ℕ). length w) c.in_ok-rest.ensures.ok in
    let none = ap (λ (fs : List (ℕ × ℕ)). length fs) c.new-factors.ensures.items in
    record {
      value = λ n.
          subst (λ (fs : List (ℕ × ℕ)). Same (double_schubert_in c.args.w.now n) (product_with n fs (double_schubert_in c.in_ok-rest.rest n)))
          (sym c.new-factors.ensures.items)
          (subst (λ (w : List ℕ). Same (double_schubert_in c.args.w.now n) (double_schubert_in w n)) (sym c.in_ok-rest.ensures.ok)
          (Same_refl (double_schubert_in c.args.w.now n)));
      places = subst (λ (fs : List (ℕ × ℕ)). AreWithin (length c.args.w.now) fs) (sym c.new-factors.ensures.items) (λ f m. absurd m);
      count = omega arith;
      few = omega arith;
    }

-- the invariant of the loop after the factor (r, letter_is) is appended to `factors`, and `rest` is replaced by `lower`
module _ (w rest lower : List ℕ) (r s letter_is : ℕ) (factors new : List (ℕ × ℕ)) (only : IsOnlyLower rest r s lower) (t : IsTransition rest r s) (short : IsShort 255 rest)
    (o : IsOneLine lower) (is : letter_is ≡ letter lower r) (pushed : new ≡ factors ++ (r, letter_is) ∷ []) (few : length rest ≤ length w) where
  next_few : length lower ≤ length rest
  next_few =
      let h = short_transition (length rest) rest r s (record { one_line = short.one_line; few = omega arith }) t in
      let f = h.few in
      let e = ap (λ (v : List ℕ). length v) only.lower in
      omega arith

  next_value : (n : ℕ) → Same (double_schubert_in w n) (product_with n factors (double_schubert_in rest n)) → Same (double_schubert_in w n) (product_with n new (double_schubert_in lower n))
  next_value n h =
      let d = difference_in r (letter (times_swap r s rest) r) n in
      let p = times (difference_in r (letter (times_swap r s rest) r) n) (double_schubert_in (times_swap r s rest) n) in
      let a = Same_trans (double_schubert_in w n) (product_with n factors (double_schubert_in rest n)) (product_with n factors p) h
      (product_respects n factors (double_schubert_in rest n) p (single_lower n r s rest short.one_line t only.none)) in
      let b = product_last n factors (r, letter (times_swap r s rest) r) (double_schubert_in (times_swap r s rest) n) in
      let e : letter (times_swap r s rest) r ≡ letter_is = ap (λ (v : List ℕ). letter v r) (sym only.lower) ∙ sym is in
      let f =
      b ∙ ap (λ (x : ℕ). product_with n (factors ++ (r, x) ∷ []) (double_schubert_in (times_swap r s rest) n)) e
      ∙ ap (λ (fs : List (ℕ × ℕ)). product_with n fs (double_schubert_in (times_swap r s rest) n)) (sym pushed)
      ∙ ap (λ (v : List ℕ). product_with n new (double_schubert_in v n)) (sym only.lower) in
      subst (λ (q : Poly). Same (double_schubert_in w n) q) f a

  next_places : AreWithin (length w) factors → AreWithin (length w) new
  next_places h f m = elim (Among_from_append f factors ((r, letter_is) ∷ []) (subst (Among f) pushed m)) [
    | inl l ↦ h f l
    | inr k ↦ elim k [
      | inl e ↦
          subst (IsFactorWithin (length w)) (sym e)
          (let p = place_within rest r s short.one_line t in
          let p1 = p.1 in
          let a = letter_counts lower r o p.0 in
          let b = letter_small lower r o p.0 in
          let l = next_few in
          record { first = p.0; last = omega arith; column = omega arith; last_column = omega arith })
      | inr n ↦ absurd n
    ]
  ]

  next_count : length factors + inversions rest ≡ inversions w → inversions rest ≡ inversions (times_swap r s rest) + 1 → length new + inversions lower ≡ inversions w
  next_count h i =
      let a = ap (λ (fs : List (ℕ × ℕ)). length fs) pushed in
      let b = length-append factors ((r, letter_is) ∷ []) in
      let e = ap inversions only.lower in
      omega arith

pub loop-r-preserved : goal.loop-r-preserved
loop-r-preserved c =
    let only = subst (λ (o : Option (List ℕ)). IfSome o (IsOnlyLower c.loop-r.rest c.in-Some.r c.in-Some.s)) c.in-Some-2.is c.in_ok-lower.ensures in
    let t = c.in-Some.ensures.places in
    let short = c.in-Some.ensures.short in
    let o = c.letter.ensures.limits.kept.one_line in
    record {
      value = λ n. next_value c.args.w.now c.loop-r.rest c.in-Some-2.lower c.in-Some.r c.in-Some.s c.letter.result c.loop-r.factors.items c.push.new.self.items
          only t short o c.letter.ensures.value c.in_ok-push.ensures.items c.loop-r.invariant.few n (c.loop-r.invariant.value n);
      places = next_places c.args.w.now c.loop-r.rest c.in-Some-2.lower c.in-Some.r c.in-Some.s c.letter.result c.loop-r.factors.items c.push.new.self.items
          only t short o c.letter.ensures.value c.in_ok-push.ensures.items c.loop-r.invariant.few c.loop-r.invariant.places;
      count = next_count c.args.w.now c.loop-r.rest c.in-Some-2.lower c.in-Some.r c.in-Some.s c.letter.result c.loop-r.factors.items c.push.new.self.items
          only t short o c.letter.ensures.value c.in_ok-push.ensures.items c.loop-r.invariant.few c.loop-r.invariant.count c.in-Some.ensures.fewer;
      few = let a = next_few c.args.w.now c.loop-r.rest c.in-Some-2.lower c.in-Some.r c.in-Some.s c.letter.result c.loop-r.factors.items c.push.new.self.items
          only t short o c.letter.ensures.value c.in_ok-push.ensures.items c.loop-r.invariant.few in let b = c.loop-r.invariant.few in omega arith;
    }

pub loop-r-smaller : goal.loop-r-smaller
loop-r-smaller c =
    let only = subst (λ (o : Option (List ℕ)). IfSome o (IsOnlyLower c.loop-r.rest c.in-Some.r c.in-Some.s)) c.in-Some-2.is c.in_ok-lower.ensures in
    let e = ap inversions only.lower in
    let f = c.in-Some.ensures.fewer in
    omega arith

whole : (n : ℕ) (w rest : List ℕ) (factors : List (ℕ × ℕ)) → rest ≡ 1 ∷ [] → Same (double_schubert_in w n) (product_with n factors (double_schubert_in rest n))
    → Same (double_schubert_in w n) (product_in n factors)
whole n w rest factors is h =
    Same_trans (double_schubert_in w n) (product_with n factors (double_schubert_in rest n)) (product_in n factors) h
    (product_respects n factors (double_schubert_in rest n) (one (n + n))
    (subst (λ (v : List ℕ). Same (double_schubert_in v n) (one (n + n))) (sym is) (identity_double (1 ∷ []) n one_one_line refl)))

pub returns-clause-value : goal.returns-clause-value
returns-clause-value c n =
    whole n c.args.w.now c.loop-r.rest c.loop-r.factors.items (c.in_default.ensures.identity.0 refl) (c.loop-r.invariant.value n)
