-- Chains of lists of terms, one step for each factor, for any relation `step` between a factor, a list and the next list.
--     last_changed    if each step to the last list is also a step to another list, the chain can end at that list
--     last_is         if each step leads to a list with the property P, the last list has the property P
--     some_lead       if for each factor and list there is a step to some list, there is a chain through all factors
use Rattle.std.proofs.Common.{ℕ, List, [], ◌∷◌, refl, subst}
use Rattle.sym_model.specs.WholeTerms.{WholeTermsOf}
use Rattle.sym_model.specs.ReductionSteps.{StepsLead}

module _ {L : Type 0} (step : List ℕ → WholeTermsOf L → WholeTermsOf L → Type 0) where
  pub last_changed : (last other : WholeTermsOf L) → ((factor : List ℕ) (terms : WholeTermsOf L) → step factor terms last → step factor terms other)
      → (factors : List (List ℕ)) (factor : List ℕ) (start : WholeTermsOf L) → StepsLead step start (factor ∷ factors) last → StepsLead step start (factor ∷ factors) other
  last_changed last other f [] factor start lead = (other, f factor start (subst (step factor start) lead.2 lead.1), refl)
  last_changed last other f (next ∷ factors) factor start lead = (lead.0, lead.1, last_changed last other f factors next lead.0 lead.2)

  pub last_is : (P : WholeTermsOf L → Type 0) → ((factor : List ℕ) (terms next : WholeTermsOf L) → step factor terms next → P next)
      → (factors : List (List ℕ)) (factor : List ℕ) (start last : WholeTermsOf L) → StepsLead step start (factor ∷ factors) last → P last
  last_is P f [] factor start last lead = subst P lead.2 (f factor start lead.0 lead.1)
  last_is P f (next ∷ factors) factor start last lead = last_is P f factors next lead.0 last lead.2

  pub some_lead : ((factor : List ℕ) (terms : WholeTermsOf L) → (next : WholeTermsOf L) × step factor terms next)
      → (factors : List (List ℕ)) (start : WholeTermsOf L) → (last : WholeTermsOf L) × StepsLead step start factors last
  some_lead some [] start = (start, refl)
  some_lead some (factor ∷ factors) start =
      let one = some factor start in
      let more = some_lead some factors one.0 in
      (more.0, (one.0, one.1, more.1))
