-- The leading coefficient of a_ρ is 1: each rearrangement of ρ other than ρ itself is lexicographically smaller. So a_ρ can be cancelled.
use Rattle.std.proofs.Common.{◌≡◌, ℕ, zero, suc, ◌<◌, cond, List, [], ◌∷◌, ◌∙◌, ap, ap₂, subst, refl, inl, inr, arith, ℤ, pos, ◌-ℤ◌}
use Rattle.std.proofs.lemmas.Int.{ints}
use Rattle.sym_model.specs.Polynomial.{Poly, Same, In, coefficient, times}
use Rattle.sym_model.specs.Leading.{Above, Leads}
use Rattle.sym_model.specs.Alternant.{alternant, staircase}
use Rattle.sym_model.proofs.Exponents.{same_refl, same_apart}
use Rattle.sym_model.proofs.Polynomials.{at_only, coefficient_pair}
use Rattle.sym_model.proofs.LeadingTerms.{Above_irrefl, Above_trans, leading_cancel}
use Rattle.sym_model.proofs.Parts.{length-staircase}
use Rattle.alternant_laws.proofs.Alternating.{inserting, alternating}
use Rattle.alternant_laws.proofs.OrderSums.{pair_alternant}
use Rattle.alternant_laws.proofs.Alternants.{In_alternant}
use Rattle.sym_model.specs.Bounded.{AreBelow}

-- ---- an alternating sum over a list with entries below n depends only on the values of the function at lists with entries below n

inserting_below : (n x : ℕ) (φ ψ : List ℕ → ℤ) → x < n → ((l : List ℕ) → AreBelow n l → φ l ≡ ψ l) → (l : List ℕ) → AreBelow n l → inserting x φ l ≡ inserting x ψ l
inserting_below n x φ ψ h e [] b = e (x ∷ []) (h, tt)
inserting_below n x φ ψ h e (y ∷ ys) b =
    ap₂ ◌-ℤ◌ (e (x ∷ y ∷ ys) (h, b)) (inserting_below n x (λ l. φ (y ∷ l)) (λ l. ψ (y ∷ l)) h (λ l c. e (y ∷ l) (b.0, c)) ys b.1)

pub alternating_below : (n : ℕ) (β : List ℕ) (φ ψ : List ℕ → ℤ) → AreBelow n β → ((l : List ℕ) → AreBelow n l → φ l ≡ ψ l) → alternating β φ ≡ alternating β ψ
alternating_below n [] φ ψ b e = e [] tt
alternating_below n (x ∷ β) φ ψ b e = alternating_below n β (inserting x φ) (inserting x ψ) b.1 (inserting_below n x φ ψ b.0 e)

pub below_weaken : (n : ℕ) (β : List ℕ) → AreBelow n β → AreBelow (suc n) β
below_weaken n [] b = tt
below_weaken n (a ∷ β) b = let h : a < n = b.0 in (omega arith, below_weaken n β b.1)

staircase_below : (n : ℕ) → AreBelow n (staircase n)
staircase_below zero = tt
staircase_below (suc n) = (omega arith, below_weaken n (staircase n) (staircase_below n))

-- ---- x^ρ is the leading term of a_ρ

inserting_zero : (x : ℕ) (φ : List ℕ → ℤ) → ((l : List ℕ) → φ l ≡ pos 0) → (l : List ℕ) → inserting x φ l ≡ pos 0
inserting_zero x φ e [] = e (x ∷ [])
inserting_zero x φ e (y ∷ ys) = ap₂ ◌-ℤ◌ (e (x ∷ y ∷ ys)) (inserting_zero x (λ l. φ (y ∷ l)) (λ l. e (y ∷ l)) ys)

-- the function φ is 0 at each list that is lexicographically smaller than `top`
abbrev VanishesBelow : (List ℕ → ℤ) → List ℕ → Type 0
VanishesBelow φ top = (l : List ℕ) → Above top l → φ l ≡ pos 0

inserting_greatest : (n : ℕ) (φ : List ℕ → ℤ) → VanishesBelow φ (n ∷ staircase n) → (l : List ℕ) → AreBelow n l → inserting n φ l ≡ φ (n ∷ l)
inserting_greatest n φ v [] b = refl
inserting_greatest n φ v (y ∷ ys) b =
    let e = inserting_zero n (λ l. φ (y ∷ l)) (λ l. v (y ∷ l) (inl b.0)) ys in
    omega (arith, ints)

pub alternating_staircase : (n : ℕ) (φ : List ℕ → ℤ) → VanishesBelow φ (staircase n) → alternating (staircase n) φ ≡ φ (staircase n)
alternating_staircase zero φ v = refl
alternating_staircase (suc n) φ v =
    alternating_below n (staircase n) (inserting n φ) (λ l. φ (n ∷ l)) (staircase_below n) (inserting_greatest n φ v)
    ∙ alternating_staircase n (λ l. φ (n ∷ l)) (λ l h. v (n ∷ l) (inr (refl, h)))

-- if α is not lexicographically smaller than ρ, the coefficient of x^α in a_ρ is 1 if α = ρ, and 0 otherwise
coefficient_staircase : (n : ℕ) (α : List ℕ) → (Above (staircase n) α → ⊥) → coefficient (alternant (staircase n)) α ≡ at_only α (staircase n)
coefficient_staircase n α h =
    coefficient_pair (alternant (staircase n)) α
    ∙ pair_alternant (staircase n) (at_only α)
    ∙ alternating_staircase n (at_only α) (λ l a. ap (λ b. cond b (pos 1) (pos 0)) (same_apart l α (λ e. h (subst (Above (staircase n)) e a))))

pub coefficient_at_staircase : (n : ℕ) → coefficient (alternant (staircase n)) (staircase n) ≡ pos 1
coefficient_at_staircase n =
    coefficient_staircase n (staircase n) (Above_irrefl (staircase n)) ∙ ap (λ b. cond b (pos 1) (pos 0)) (same_refl (staircase n))

pub staircase_leads : (n : ℕ) → Leads (alternant (staircase n)) (staircase n)
staircase_leads n = record {
  unit_at_top = inl (coefficient_at_staircase n);
  none_above = λ α h.
      coefficient_staircase n α (λ k. Above_irrefl α (Above_trans α (staircase n) α h k))
      ∙ ap (λ b. cond b (pos 1) (pos 0)) (same_apart (staircase n) α (λ e. Above_irrefl α (subst (Above α) e h)));
}

pub staircase_cancels : (n : ℕ) (g h : Poly) → In n g → In n h → Same (times (alternant (staircase n)) g) (times (alternant (staircase n)) h) → Same g h
staircase_cancels n g h i j = leading_cancel n (alternant (staircase n)) g h (staircase n) (In_alternant n (staircase n) (length-staircase n)) i j (staircase_leads n)
