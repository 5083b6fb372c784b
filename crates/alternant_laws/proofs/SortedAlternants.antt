-- An alternant with two equal exponents is 0. If all exponents are different, it is the sign of sorting the exponents times the alternant of the
-- sorted list.
use Rattle.std.proofs.Common.{◌≡◌, ◌⊎◌, ℕ, ◌+◌, ◌-◌, Bool, true, false, ◌||◌, cond, List, [], ◌∷◌, ◌++◌, length, refl, sym, ◌∙◌, ap, ap₂, subst, inl, inr, arith, ℤ, pos, neg_ℤ, ◌*ℤ◌}
use Rattle.std.proofs.lemmas.Bool.{cases_eq, le-ltb}
use Rattle.sym_model.specs.Partition.{Falls}
use Rattle.sym_model.specs.Polynomial.{join, pair, nothing, negate}
use Rattle.sym_model.specs.Bases.{has}
use Rattle.sym_model.specs.Alternant.{alternant, staircase}
use Rattle.sym_model.specs.PlaceOrders.{minus_one_to}
use Rattle.sym_model.specs.BetaList.{has_equal_entries, sorted_falling, greater, rising_pairs, sorting_sign, less_the_rest, from_beta}
use Rattle.sym_model.proofs.Ring.{one-product, double_negation-product}
use Rattle.sym_model.proofs.SortedParts.{Falls_tail, has_rest}
use Rattle.sym_model.proofs.Polynomials.{pair_determined, pair_negate}
use Rattle.sym_model.proofs.Parts.{length-without_last_zeros}
use Rattle.beta_list_laws.specs.StrictFall.{FallsStrictly}
use Rattle.beta_list_laws.proofs.NeighbourExchanges.{KeptByExchanges, sort_back, sorted_falls, equal-exchange, sorting_sign-exchange}
use Rattle.beta_list_laws.proofs.BetaLists.{strict_tail, rest_within, length-less}
use Rattle.alternant_laws.proofs.Alternants.{alternant_exchange, alternant_equal}
use Rattle.alternant_laws.proofs.FallingAlternants.{join_padded, resize-without_last_zeros}
use Rattle.std.proofs.Math.Seq.{append_snoc}

place_of : (a : ℕ) (b : List ℕ) → has a b ≡ true → (middle : List ℕ) × (right : List ℕ) × (b ≡ middle ++ (a ∷ right))
place_of a [] h = absurd (cc)
place_of a (c ∷ b) h = by (cases_eq c a) (λ g. place_of a b g)
  where
    by : (c ≡ a) ⊎ (c ≡ a → ⊥) → (has a b ≡ true → (middle : List ℕ) × (right : List ℕ) × (b ≡ middle ++ (a ∷ right))) → (middle : List ℕ) × (right : List ℕ) × (c ∷ b ≡ middle ++ (a ∷ right))
    by (inl e) r = ([], b, ap (λ x. x ∷ b) e)
    by (inr n) r = let p = r (has_rest a c b n h) in (c ∷ p.0, p.1, ap (λ l. c ∷ l) p.2)

alternant-equal_under : (left β : List ℕ) (φ : List ℕ → ℤ) → has_equal_entries β ≡ true → pair (alternant (left ++ β)) φ ≡ pos 0
alternant-equal_under left [] φ h = absurd (cc)
alternant-equal_under left (a ∷ b) φ h = by (has a b) refl h (λ g. subst (λ l. pair (alternant l) φ ≡ pos 0) (append_snoc left a b) (alternant-equal_under (left ++ (a ∷ [])) b φ g))
  where
    by : (t : Bool) → has a b ≡ t → (t || has_equal_entries b) ≡ true → (has_equal_entries b ≡ true → pair (alternant (left ++ (a ∷ b))) φ ≡ pos 0) → pair (alternant (left ++ (a ∷ b))) φ ≡ pos 0
    by true e g r =
        let p = place_of a b e in
        subst (λ l. pair (alternant (left ++ (a ∷ l))) φ ≡ pos 0) (sym p.2)
        (pair_determined (alternant (left ++ (a ∷ (p.0 ++ (a ∷ p.1))))) nothing φ (alternant_equal left p.0 p.1 a))
    by false e g r = r g

pub alternant-equal : (β : List ℕ) (φ : List ℕ → ℤ) → has_equal_entries β ≡ true → pair (alternant β) φ ≡ pos 0
alternant-equal β φ h = alternant-equal_under [] β φ h

no_greater : (a : ℕ) (l : List ℕ) → Falls (a ∷ l) → greater a l ≡ 0
no_greater a [] f = refl
no_greater a (b ∷ l) f = ap₂ (λ (t : Bool) k. cond {A = ℕ} t 1 0 + k) (le-ltb a b f.0) (no_greater a l (skip a b l f)) ∙ omega arith
  where
    skip : (a b : ℕ) (l : List ℕ) → Falls (a ∷ b ∷ l) → Falls (a ∷ l)
    skip a b [] f = tt
    skip a b (c ∷ l) f = let h = f.0 in let g = f.1.0 in (omega arith, f.1.1)

no_rises : (l : List ℕ) → Falls l → rising_pairs l ≡ 0
no_rises [] f = refl
no_rises (a ∷ l) f = ap₂ ◌+◌ (no_greater a l f) (no_rises l (Falls_tail a l f)) ∙ omega arith

pub alternant-sorted : (β : List ℕ) (φ : List ℕ → ℤ) → has_equal_entries β ≡ false → pair (alternant β) φ ≡ sorting_sign β *ℤ pair (alternant (sorted_falling β)) φ
alternant-sorted β φ = sort_back P β kept sorted
  where
    X : ℤ
    X = pair (alternant (sorted_falling β)) φ

    P : List ℕ → Type 0
    P s = has_equal_entries s ≡ false → pair (alternant s) φ ≡ sorting_sign s *ℤ pair (alternant (sorted_falling β)) φ

    sorted : P (sorted_falling β)
    sorted h = sym (ap (λ k. minus_one_to k *ℤ pair (alternant (sorted_falling β)) φ) (no_rises (sorted_falling β) (sorted_falls β)) ∙ one-product (pair (alternant (sorted_falling β)) φ))

    kept : KeptByExchanges P
    kept left a b right p h = by (cases_eq a b)
      where
        by : (a ≡ b) ⊎ (a ≡ b → ⊥) → pair (alternant (left ++ (b ∷ a ∷ right))) φ ≡ sorting_sign (left ++ (b ∷ a ∷ right)) *ℤ pair (alternant (sorted_falling β)) φ
        by (inl e) =
            let same : left ++ (a ∷ b ∷ right) ≡ left ++ (b ∷ a ∷ right) = ap₂ (λ x y. left ++ (x ∷ y ∷ right)) e (sym e) in
            subst (λ l. pair (alternant l) φ ≡ sorting_sign l *ℤ pair (alternant (sorted_falling β)) φ) same (p (equal-exchange left a b right ∙ h))
        by (inr n) =
            pair_determined (alternant (left ++ (b ∷ a ∷ right))) (negate (alternant (left ++ (a ∷ b ∷ right)))) φ (alternant_exchange left [] right b a)
            ∙ pair_negate (alternant (left ++ (a ∷ b ∷ right))) φ
            ∙ ap neg_ℤ (p (equal-exchange left a b right ∙ h) ∙ ap (λ s. s *ℤ pair (alternant (sorted_falling β)) φ) (sorting_sign-exchange left a b right n))
            ∙ double_negation-product (sorting_sign (left ++ (b ∷ a ∷ right))) (pair (alternant (sorted_falling β)) φ)

less-join : (b : List ℕ) → FallsStrictly b → join (less_the_rest b) (staircase (length b)) ≡ b
less-join [] f = refl
less-join (a ∷ b) f = let h = rest_within a b f in ap₂ (λ x l. x ∷ l) (let e : a - length b + length b ≡ a = omega arith in e) (less-join b (strict_tail a b f))

pub from_beta-join : (b : List ℕ) → FallsStrictly b → join (from_beta b) (staircase (length b)) ≡ b
from_beta-join b f =
    let l = length-without_last_zeros (less_the_rest b) in
    let k = length-less b in
    sym (join_padded (length b) (from_beta b) (omega arith))
    ∙ ap (λ x. join x (staircase (length b))) (resize-without_last_zeros (length b) (less_the_rest b) (length-less b))
    ∙ less-join b f
