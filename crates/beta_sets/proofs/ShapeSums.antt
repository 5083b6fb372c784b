-- Tables of beta sets as lists of partitions (specs/BetaSets).
--     over-shapes     the sum of φ over a list of beta sets, each replaced by its partition
--     written_out     the image of a list under the linear map that takes each set to its partition
--     one_label       if a label has a property, then each label of the list of only one term, with this label, has the property
use Rattle.std.proofs.Common.{◌≡◌, ℕ, List, [], ◌∷◌, refl, sym, ap₂, inl, inr, subst, ℤ, pos, ◌*ℤ◌}
use Rattle.sym_model.specs.WholeTerms.{WholeTermsOf}
use Rattle.sym_model.proofs.Ring.{product-one}
use Rattle.sym_model.proofs.Sums.{total_map}
use Rattle.linear_combinations.specs.Gains.{over, replaced, HaveLabels}
use Rattle.beta_sets.specs.BetaSets.{shape, shapes}

pub over-shapes : (φ : List ℕ → ℤ) (terms : WholeTermsOf ℕ) → over φ (shapes terms) ≡ over (λ s. φ (shape s)) terms
over-shapes φ terms = total_map (λ (t : List ℕ × ℤ). t.1 *ℤ φ t.0) (λ (t : ℕ × ℤ). (shape t.0, t.1)) terms

pub written_out : (terms : WholeTermsOf ℕ) → replaced (λ s. (shape s, pos 1) ∷ []) terms ≡ shapes terms
written_out [] = refl
written_out (t ∷ terms) = ap₂ (λ c rest. (shape t.0, c) ∷ rest) (product-one t.1) (written_out terms)

pub one_label : {L : Type 0} (P : L → Type 0) (label : L) (c : ℤ) → P label → HaveLabels P ((label, c) ∷ [])
one_label {L} P label c here t (inl e) = subst (λ (u : L × ℤ). P u.0) (sym e) here
one_label {L} P label c here t (inr m) = absurd m
