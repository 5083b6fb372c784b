-- Lists of lists in which the list at the index k has a property that depends on k.
--     placed-push      this still holds after a list with the property for its index is appended
use Rattle.std.proofs.Common.{◌≡◌, ◌⊎◌, ℕ, zero, suc, ◌+◌, ◌<◌, ◌≤◌, List, [], ◌∷◌, ◌++◌, length, get_or, refl, sym, ap, ◌∙◌, subst, inl, inr, arith}
use Rattle.std.proofs.lemmas.Bool.{cases_lt}
use Rattle.sym_model.specs.WholeTerms.{WholeTerms}
use Rattle.family_lists.specs.FactorLists.{list_at}

pub list_at-index : (xs : List WholeTerms) (i : ℕ) (d x : WholeTerms) → i < length xs → x ≡ get_or xs i d → list_at xs i ≡ x
list_at-index [] i d x h e = absurd (omega arith)
list_at-index (m ∷ xs) zero d x h e = sym e
list_at-index (m ∷ xs) (suc i) d x h e = list_at-index xs i d x (omega arith) e

list_at-old : (xs : List WholeTerms) (m : WholeTerms) (i : ℕ) → i < length xs → list_at (xs ++ m ∷ []) i ≡ list_at xs i
list_at-old [] m i h = absurd (omega arith)
list_at-old (x ∷ xs) m zero h = refl
list_at-old (x ∷ xs) m (suc i) h = list_at-old xs m i (omega arith)

list_at-last : (xs : List WholeTerms) (m : WholeTerms) → list_at (xs ++ m ∷ []) (length xs) ≡ m
list_at-last [] m = refl
list_at-last (x ∷ xs) m = list_at-last xs m

pub placed-push : (Q : ℕ → WholeTerms → Type 0) (xs : List WholeTerms) (m : WholeTerms) (d : ℕ) → length xs ≡ d → ((k : ℕ) → k < d → Q k (list_at xs k)) → Q d m
    → (k : ℕ) → k < d + 1 → Q k (list_at (xs ++ m ∷ []) k)
placed-push Q xs m d e are is k h = by (cases_lt k d)
  where
    by : (k < d) ⊎ (d ≤ k) → Q k (list_at (xs ++ m ∷ []) k)
    by (inl l) = subst (Q k) (sym (list_at-old xs m k (omega arith))) (are k l)
    by (inr l) =
        let same : d ≡ k = omega arith in
        subst (Q k) (sym (ap (list_at (xs ++ m ∷ [])) (sym (e ∙ same)) ∙ list_at-last xs m)) (subst (λ j. Q j m) same is)
