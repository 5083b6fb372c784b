-- A product of several factors, in k variables, is computed step by step. A *step* is a relation between a factor, a list of terms and the next list
-- of terms; the lemmas hold for any such relation.
--     vanishes            if a factor has more than k rows, the steps can lead to the empty list
--     factor_at           the list of factors without the first i is the factor at the index i, followed by the list without the first i + 1
--     lead_on, heavy_here, heavy_later    the steps through x ∷ rest: a step with x, followed by the steps through `rest`
use Rattle.std.proofs.Common.{◌≡◌, ◌⊎◌, ℕ, ◌+◌, ◌^◌, ◌<◌, ◌≤◌, List, [], ◌∷◌, suc, drop, drop-cons, add-one, refl, sym, ◌∙◌, ap, subst, inl, inr, arith, Some}
use Rattle.std.specs.Prelude.{slice_get}
use Rattle.std.proofs.lemmas.Option.{slice_get_within, get_or_from_slice_get}
use Rattle.std.proofs.lemmas.Bool.{cases_lt}
use Rattle.sym_model.specs.Sum.{Among}
use Rattle.sym_model.specs.Partition.{IsPartition, rows, ArePartitions}
use Rattle.sym_model.specs.WholeTerms.{WholeTermsOf}
use Rattle.sym_model.specs.ReductionSteps.{StepsLead, step_weight}
use Rattle.rim_hooks.specs.HeavySteps.{HasHeavyStep}
use Rattle.product_laws.specs.FactorSteps.{HasLong}
use Rattle.sym_model.proofs.Lists.{drop-none}

module _ {L : Type 0} (step : List ℕ → WholeTermsOf L → WholeTermsOf L → Type 0) where
  module _ (k : ℕ) (none : (factor : List ℕ) → step factor [] [])
      (long : (factor : List ℕ) (terms : WholeTermsOf L) → IsPartition factor → k < rows factor → step factor terms [])
      (some : (factor : List ℕ) (terms : WholeTermsOf L) → (next : WholeTermsOf L) × step factor terms next) where
    pub none_stays : (factors : List (List ℕ)) → StepsLead step [] factors []
    none_stays [] = refl
    none_stays (factor ∷ factors) = ([], none factor, none_stays factors)

    pub vanishes : (factors : List (List ℕ)) (terms : WholeTermsOf L) → ArePartitions factors → HasLong k factors → StepsLead step terms factors []
    vanishes [] terms p h = absurd h.1
    vanishes (factor ∷ factors) terms p h =
        by (cases_lt k (rows factor)) h.1 (λ m. vanishes factors (some factor terms).0 (λ parts n. p parts (inr n)) (h.0, m, h.2))
      where
        by : (k < rows factor) ⊎ (rows factor ≤ k) → (h.0 ≡ factor) ⊎ Among h.0 factors → (Among h.0 factors → StepsLead step (some factor terms).0 factors []) → StepsLead step terms (factor ∷ factors) []
        by (inl l) m r = ([], long factor terms (p factor (inl refl)) l, none_stays factors)
        by (inr few) (inl e) r = let l = subst (λ parts. k < rows parts) e h.2 in absurd (omega arith)
        by (inr few) (inr m) r = ((some factor terms).0, (some factor terms).1, r m)

pub factor_at : (xs : List (List ℕ)) (i : ℕ) (x : List ℕ) → slice_get xs i ≡ Some x → drop i xs ≡ x ∷ drop (i + 1) xs
factor_at xs i x e =
    drop-cons xs i x (slice_get_within xs i x e)
    ∙ ap (λ (u : List ℕ). u ∷ drop (suc i) xs) (get_or_from_slice_get xs i x x e)
    ∙ ap (λ j. x ∷ drop j xs) (sym (add-one i))

pub first_two : (xs : List (List ℕ)) (x y : List ℕ) → slice_get xs 0 ≡ Some x → slice_get xs 1 ≡ Some y → xs ≡ x ∷ y ∷ drop 2 xs
first_two xs x y e d = sym (drop-none xs) ∙ factor_at xs 0 x e ∙ ap (λ (l : List (List ℕ)). x ∷ l) (factor_at xs 1 y d)

pub long_here : (k : ℕ) (x : List ℕ) (xs rest : List (List ℕ)) → xs ≡ x ∷ rest → k < rows x → HasLong k xs
long_here k x xs rest e h = subst (HasLong k) (sym e) (x, inl refl, h)

module _ {L : Type 0} (shape : L → List ℕ) (step : List ℕ → WholeTermsOf L → WholeTermsOf L → Type 0) where
  pub lead_on : (xs rest : List (List ℕ)) (x : List ℕ) (terms next last : WholeTermsOf L) → xs ≡ x ∷ rest → step x terms next → StepsLead step next rest last
      → StepsLead step terms xs last
  lead_on xs rest x terms next last e s l = subst (λ (f : List (List ℕ)). StepsLead step terms f last) (sym e) (next, s, l)

  pub heavy_here : (k : ℕ) (xs rest : List (List ℕ)) (x : List ℕ) (terms : WholeTermsOf L) → xs ≡ x ∷ rest → 2 ^ 127 ≤ step_weight shape k x terms
      → HasHeavyStep shape step k terms xs
  heavy_here k xs rest x terms e h = subst (λ (f : List (List ℕ)). HasHeavyStep shape step k terms f) (sym e) (step_weight shape k x terms, inl refl, h)

  pub heavy_later : (k : ℕ) (xs rest : List (List ℕ)) (x : List ℕ) (terms next : WholeTermsOf L) → xs ≡ x ∷ rest → step x terms next
      → HasHeavyStep shape step k next rest → HasHeavyStep shape step k terms xs
  heavy_later k xs rest x terms next e s h = subst (λ (f : List (List ℕ)). HasHeavyStep shape step k terms f) (sym e) (h.0, inr (next, s, h.1), h.2)
