-- If a monomial has degree at most d, it has at most d variables, and by symmetry these may be the first d.
--     `falling_padded`    weakly decreasing exponents with a sum of at most d are zeros after place d
--     `families_agree`    families of symmetric polynomials of degree at most d that agree in d variables agree in every number of variables
use Rattle.std.proofs.Common.{◌≡◌, ℕ, zero, suc, ◌+◌, ◌-◌, ◌≤◌, inl, inr, cond, eqb, List, [], ◌∷◌, ◌++◌, length, replicate, refl, sym, ◌∙◌, ap, subst, arith, pos}
use Rattle.std.proofs.lemmas.Bool.{cases_lt, cases_eq, eq-eqb}
use Rattle.sym_model.specs.Polynomial.{Poly, Same, coefficient, resize}
use Rattle.sym_model.specs.Partition.{Falls, size}
use Rattle.sym_model.specs.BetaList.{sorted_falling}
use Rattle.sym_model.proofs.Polynomials.{coefficient_outside}
use Rattle.sym_model.proofs.Restrictions.{coefficient_restrict_padded}
use Rattle.sym_model.proofs.SortedParts.{Falls_tail}
use Rattle.sym_model.proofs.Exponents.{length-resize}
use Rattle.sym_model.proofs.Parts.{size-zeros}
use Rattle.beta_list_laws.proofs.NeighbourExchanges.{sort_back, sorted_falls}
use Rattle.schur_laws.specs.SymmetricFamily.{IsSymmetricFamily, HasDegreeAtMost}

zeros_after : (α : List ℕ) → Falls (0 ∷ α) → 0 ∷ α ≡ replicate (suc (length α)) 0
zeros_after [] f = refl
zeros_after (zero ∷ α) f = ap (λ (l : List ℕ). 0 ∷ l) (zeros_after α f.1)
zeros_after (suc a ∷ α) f = let h = f.0 in absurd (omega arith)

pub falling_padded : (d m : ℕ) (α : List ℕ) → Falls α → length α ≡ d + m → size α ≤ d → α ≡ resize d α ++ replicate m 0
falling_padded zero zero [] f l h = refl
falling_padded zero (suc m) [] f l h = absurd (omega arith)
falling_padded zero m (zero ∷ α) f l h = let e : suc (length α) ≡ m = omega arith in subst (λ k. 0 ∷ α ≡ replicate k 0) e (zeros_after α f)
falling_padded zero m (suc a ∷ α) f l h = absurd (omega arith)
falling_padded (suc d) m [] f l h = absurd (omega arith)
falling_padded (suc d) m (zero ∷ α) f l h =
    let e : size (0 ∷ α) ≡ 0 = ap size (zeros_after α f) ∙ size-zeros (suc (length α)) in
    ap (λ (r : List ℕ). 0 ∷ r) (falling_padded d m α (Falls_tail 0 α f) (omega arith) (omega arith))
falling_padded (suc d) m (suc a ∷ α) f l h = ap (λ (r : List ℕ). suc a ∷ r) (falling_padded d m α (Falls_tail (suc a) α f) (omega arith) (omega arith))

-- ---- the coefficients of a family of symmetric polynomials in different numbers of variables

-- let f be a family of symmetric polynomials. If α has n entries, the coefficient of x^α in f(n) is the coefficient in f(n + m) at α followed by m
-- zeros; otherwise the coefficient of x^α in f(n) is 0
coefficient_in_fewer : (f : ℕ → Poly) (n m : ℕ) (α : List ℕ) → IsSymmetricFamily f
    → coefficient (f n) α ≡ cond (eqb (length α) n) (coefficient (f (n + m)) (α ++ replicate m 0)) (pos 0)
coefficient_in_fewer f n m α s = sym (s.compatible n (n + m) (omega arith) α) ∙ coefficient_restrict_padded n m (f (n + m)) α (s.variables (n + m))

coefficient_in_more : (f : ℕ → Poly) (d m : ℕ) (α : List ℕ) → IsSymmetricFamily f → length α ≡ d
    → coefficient (f (d + m)) (α ++ replicate m 0) ≡ coefficient (f d) α
coefficient_in_more f d m α s l =
    sym (coefficient_in_fewer f d m α s ∙ ap (λ t. cond t (coefficient (f (d + m)) (α ++ replicate m 0)) (pos 0)) (eq-eqb (length α) d l))

agree_in_fewer : (f g : ℕ → Poly) (n m : ℕ) → IsSymmetricFamily f → IsSymmetricFamily g → Same (f (n + m)) (g (n + m)) → Same (f n) (g n)
agree_in_fewer f g n m s t e α =
    coefficient_in_fewer f n m α s
    ∙ ap (λ c. cond (eqb (length α) n) c (pos 0)) (e (α ++ replicate m 0))
    ∙ sym (coefficient_in_fewer g n m α t)

agree_falling : (d m : ℕ) (f g : ℕ → Poly) → IsSymmetricFamily f → IsSymmetricFamily g
    → HasDegreeAtMost d (f (d + m)) → HasDegreeAtMost d (g (d + m)) → Same (f d) (g d)
    → (α : List ℕ) → Falls α → coefficient (f (d + m)) α ≡ coefficient (g (d + m)) α
agree_falling d m f g s t p q e α h = elim (cases_eq (length α) (d + m)) [
  | inr l ↦ coefficient_outside (d + m) (f (d + m)) α (s.variables (d + m)) l ∙ sym (coefficient_outside (d + m) (g (d + m)) α (t.variables (d + m)) l)
  | inl l ↦ elim (cases_lt d (size α)) [
    | inl k ↦ p α k ∙ sym (q α k)
    | inr k ↦ subst (λ β. coefficient (f (d + m)) β ≡ coefficient (g (d + m)) β) (sym (falling_padded d m α h l (omega arith)))
        (coefficient_in_more f d m (resize d α) s (length-resize d α) ∙ e (resize d α) ∙ sym (coefficient_in_more g d m (resize d α) t (length-resize d α)))
  ]
]

agree_in_more : (d m : ℕ) (f g : ℕ → Poly) → IsSymmetricFamily f → IsSymmetricFamily g
    → HasDegreeAtMost d (f (d + m)) → HasDegreeAtMost d (g (d + m)) → Same (f d) (g d) → Same (f (d + m)) (g (d + m))
agree_in_more d m f g s t p q e α =
    sort_back (λ β. coefficient (f (d + m)) β ≡ coefficient (g (d + m)) β) α
    (λ left a b right h. sym (s.symmetric (d + m) left a b right) ∙ h ∙ t.symmetric (d + m) left a b right)
    (agree_falling d m f g s t p q e (sorted_falling α) (sorted_falls α))

pub families_agree : (d : ℕ) (f g : ℕ → Poly) → IsSymmetricFamily f → IsSymmetricFamily g
    → ((n : ℕ) → HasDegreeAtMost d (f n)) → ((n : ℕ) → HasDegreeAtMost d (g n)) → Same (f d) (g d) → (n : ℕ) → Same (f n) (g n)
families_agree d f g s t p q e n = elim (cases_lt d n) [
  | inl h ↦ let k : d + (n - d) ≡ n = omega arith in subst (λ j. Same (f j) (g j)) k (agree_in_more d (n - d) f g s t (p (d + (n - d))) (q (d + (n - d))) e)
  | inr h ↦ let k : d ≡ n + (d - n) = omega arith in agree_in_fewer f g n (d - n) s t (subst (λ j. Same (f j) (g j)) k e)
]
