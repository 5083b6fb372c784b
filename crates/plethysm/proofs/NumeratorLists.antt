-- A list of terms with each coefficient c replaced by an integer h(c).
use Rattle.std.proofs.Common.{◌≡◌, cond, ℕ, List, [], ◌∷◌, ◌++◌, map, refl, sym, ◌∙◌, ap, subst, ℤ, pos}
use Rattle.std.specs.Map.{keys_of}
use Rattle.std.proofs.lemmas.List.{map-append}
use Rattle.sym_model.specs.Sum.{Among, Once}
use Rattle.sym_model.specs.Polynomial.{same, coefficient}
use Rattle.sym_model.specs.WholeTerms.{WholeTerms, labels}
use Rattle.sym_model.proofs.Exponents.{same_apart}
use Rattle.sym_model.proofs.Sums.{total_none, Among-map}
use Rattle.sparse_polys.proofs.PartitionTerms.{once_before}

module _ {X : Type 0} (h : X → ℤ) where
  -- the list with the integer h(c) in place of each coefficient c
  abbrev pub mapped : List (List ℕ × X) → WholeTerms
  mapped terms = map (λ (t : List ℕ × X). (t.0, h t.1)) terms

  pub mapped-push : (done : List (List ℕ × X)) (t : List ℕ × X) → mapped (done ++ t ∷ []) ≡ mapped done ++ (t.0, h t.1) ∷ []
  mapped-push done t = map-append (λ (t : List ℕ × X). (t.0, h t.1)) done (t ∷ [])

  pub keys-mapped : (terms : List (List ℕ × X)) → labels (mapped terms) ≡ keys_of terms
  keys-mapped [] = refl
  keys-mapped (t ∷ terms) = ap (λ ks. t.0 ∷ ks) (keys-mapped terms)

  pub none_before : (terms done rest : List (List ℕ × X)) (x : List ℕ × X) → Once (keys_of terms) → done ++ x ∷ rest ≡ terms → coefficient (mapped done) x.0 ≡ pos 0
  none_before terms done rest x is e =
      total_none (λ (t : List ℕ × ℤ). cond (same t.0 x.0) t.1 (pos 0)) (mapped done)
      (λ t m. ap (λ b. cond b t.1 (pos 0)) (same_apart t.0 x.0 (λ i. once_before (labels (mapped done)) (labels (mapped rest)) x.0 once (subst (λ l. Among l (labels (mapped done))) i (Among-map (λ (u : List ℕ × ℤ). u.0) t (mapped done) m)))))
    where
      once : Once (labels (mapped done) ++ (x.0 ∷ labels (mapped rest)))
      once =
          subst (λ (ls : List (List ℕ)). Once ls)
          (sym (keys-mapped terms)
          ∙ ap (λ ts. labels (mapped ts)) (sym e)
          ∙ ap labels (map-append (λ (t : List ℕ × X). (t.0, h t.1)) done (x ∷ rest))
          ∙ map-append (λ (t : List ℕ × ℤ). t.0) (mapped done) ((x.0, h x.1) ∷ mapped rest))
          is
