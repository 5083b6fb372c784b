-- The product of a sum of Schubert polynomials and an elementary polynomial, by the chains of the Pieri formula. Two polynomials are compared by the
-- sums of c·φ(α) over their terms c·x^α (`pair`).
use Rattle.std.proofs.Common.{◌≡◌, ℕ, ◌+◌, ◌≤◌, max, true, List, [], ◌∷◌, length, sym, ap, ap₂, ◌∙◌, subst, append-nil, arith, ℤ, ◌+ℤ◌, ◌*ℤ◌}
use Rattle.std.specs.Prelude.{nat_eq}
use Rattle.std.specs.Cmp.Lexicographic.{pointwise}
use Rattle.std.proofs.lemmas.Bool.{and_parts, leb-true, ltb-true}
use Rattle.fraction_laws.specs.Fractions.{whole}
use Rattle.sym_model.specs.LabelLimits.{is_permutation_label}
use Rattle.sym_model.specs.Polynomial.{pair, times}
use Rattle.sym_model.specs.Schubert.{schubert_in, schuberts_in}
use Rattle.sym_model.specs.Sum.{Among}
use Rattle.sym_model.specs.WholeTerms.{WholeTerms}
use Rattle.sym_model.proofs.Exponents.{same_true}
use Rattle.sym_model.proofs.Polynomials.{pair_determined, pair_each}
use Rattle.sym_model.proofs.Ring.{ring}
use Rattle.sym_model.proofs.Sums.{total_among, total_scale}
use Rattle.schubert_laws.specs.Chains.{elementary_in}
use Rattle.schubert_laws.specs.ShortPermutations.{IsShort}
use Rattle.schubert_laws.proofs.PermutationLabels.{label_one_line}
use Rattle.double_schubert_laws.specs.KeptChains.{kept_chains}
use Rattle.double_schubert_laws.proofs.KeptChains.{pieri_kept, widen}
use Rattle.linear_combinations.specs.Entries.{IsCombination}
use Rattle.linear_combinations.specs.Gains.{WholeTermsOf, Gains, each_with, over, replaced, scaled}
use Rattle.linear_combinations.proofs.Gains.{each_over, replaced_over}
use Rattle.linear_combinations.proofs.Masses.{scaled_each}
use Rattle.linear_combinations.proofs.Totals.{term-among}
use lib.IntN.{*ℤ_comm}

pub label_short : (n : ℕ) (w : List ℕ) → is_permutation_label w ≡ true → length w ≤ n → IsShort n w
label_short n w h l =
    let a = (and_parts _ _ h).0 in
    let b = and_parts _ _ a in
    let c = and_parts _ _ b.0 in
    widen (length w) n w (record {
      one_line = label_one_line w h;
      short = omega arith;
      some = ltb-true 0 (length w) c.1;
      whole = same_true _ w b.1;
    }) l

-- the number of letters that the chains from w exchange
abbrev pub exchanged_letters : ℕ → List ℕ → ℕ
exchanged_letters k w = max (length w) k + 1

-- z·e_d(x_1, .., x_k)·S_w, as a sum of Schubert polynomials
abbrev pub elementary_terms : ℕ → ℕ → ℤ → List ℕ → WholeTermsOf (List ℕ)
elementary_terms d k z w = each_with z (kept_chains (exchanged_letters k w) d k (exchanged_letters k w) w)

pub label_there : (list : WholeTerms) → IsCombination (pointwise nat_eq) is_permutation_label whole list
    → (t : List ℕ × ℤ) → Among t list → is_permutation_label t.0 ≡ true
label_there list is t m = (and_parts _ (is_permutation_label t.0) (term-among is_permutation_label whole list is.proper t m)).1

pub label_few : (w : List ℕ) → is_permutation_label w ≡ true → length w ≤ 255
label_few w h = leb-true (length w) 255 (and_parts _ _ h).1

factor_out : (a z x : ℤ) → a *ℤ (z *ℤ x) ≡ z *ℤ (a *ℤ x)
factor_out a z x = simp ring

module _ (d k : ℕ) (z : ℤ) (m : ℕ) (φ : List ℕ → ℤ) where
  one_product : (w : List ℕ) → is_permutation_label w ≡ true
      → over (λ v. pair (schubert_in v m) φ) (elementary_terms d k z w) ≡ z *ℤ pair (times (elementary_in d k m) (schubert_in w m)) φ
  one_product w h =
      each_over z (λ v. pair (schubert_in v m) φ) (kept_chains (exchanged_letters k w) d k (exchanged_letters k w) w)
      ∙ ap (λ x. z *ℤ x)
      (sym (pair_determined (times (elementary_in d k m) (schubert_in w m))
      (schuberts_in (kept_chains (exchanged_letters k w) d k (exchanged_letters k w) w) m) φ
      (pieri_kept d k m (exchanged_letters k w) w (label_short (exchanged_letters k w) w h (omega arith)) (omega arith))
      ∙ pair_each (λ v. schubert_in v m) (kept_chains (exchanged_letters k w) d k (exchanged_letters k w) w) φ))

  pub elementary_product : (list old new : WholeTerms) → IsCombination (pointwise nat_eq) is_permutation_label whole list
      → Gains old (replaced (elementary_terms d k z) list) new
      → over (λ w. pair (schubert_in w m) φ) new
      ≡ over (λ w. pair (schubert_in w m) φ) old +ℤ z *ℤ over (λ w. pair (times (elementary_in d k m) (schubert_in w m)) φ) list
  elementary_product list old new is gains =
      gains.sums (λ w. pair (schubert_in w m) φ)
      ∙ ap (λ x. over (λ w. pair (schubert_in w m) φ) old +ℤ x)
      (replaced_over (elementary_terms d k z) (λ w. pair (schubert_in w m) φ) list
      ∙ total_among (λ (t : List ℕ × ℤ). t.1 *ℤ over (λ v. pair (schubert_in v m) φ) (elementary_terms d k z t.0))
      (λ (t : List ℕ × ℤ). z *ℤ (t.1 *ℤ pair (times (elementary_in d k m) (schubert_in t.0 m)) φ)) list
      (λ t i. ap (λ x. t.1 *ℤ x) (one_product t.0 (label_there list is t i)) ∙ factor_out t.1 z (pair (times (elementary_in d k m) (schubert_in t.0 m)) φ))
      ∙ total_scale z (λ (t : List ℕ × ℤ). t.1 *ℤ pair (times (elementary_in d k m) (schubert_in t.0 m)) φ) list)

pub product_step : (d k : ℕ) (z a c : ℤ) (n : ℕ) (w : List ℕ) (cur new : WholeTerms) → c ≡ z *ℤ a → n ≡ exchanged_letters k w
    → Gains cur (each_with c (kept_chains n d k n w)) new → Gains cur (replaced (elementary_terms d k z) ((w, a) ∷ [])) new
product_step d k z a c n w cur new e f g =
    subst (λ l. Gains cur l new)
    (ap₂ (λ x i. each_with x (kept_chains i d k i w)) (e ∙ *ℤ_comm z a) f
    ∙ sym (scaled_each a z (kept_chains (exchanged_letters k w) d k (exchanged_letters k w) w))
    ∙ sym (append-nil (scaled a (elementary_terms d k z w)))) g
