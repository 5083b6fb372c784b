-- The lexicographic order of exponent lists, and greatest monomials: if x^α and x^β are the greatest monomials of f
-- and g, then the coefficient of f·g at α + β is the product of their coefficients, so a polynomial whose greatest
-- monomial has the coefficient 1 or -1 can be cancelled from a product.
use Rattle.std.proofs.Common.{◌≡◌, ℕ, zero, suc, ◌+◌, ◌≤◌, ◌<◌, ◌⊎◌, cond, not, List, [], ◌∷◌, length, sym, ◌∙◌, ap, ap₂, subst, refl, inl, inr, arith, ℤ, pos, ◌*ℤ◌, neg_ℤ, rules}
use Rattle.std.proofs.lemmas.Bool.{cases_eq, cases_Bool, cases_order}
use Rattle.std.proofs.lemmas.Int.{ints}
use Rattle.sym_model.specs.Sum.{Among}
use Rattle.sym_model.specs.Polynomial.{Term, Poly, same, coefficient, Same, In, nothing, join, plus, negate, times, pair}
use Rattle.sym_model.specs.Leading.{Above, IsNoneAbove, Leads}
use Rattle.sym_model.proofs.Ring.{one-product, product-one, negation-product}
use Rattle.sym_model.proofs.Sums.{total_none}
use Rattle.sym_model.proofs.Exponents.{tests_agree, same_refl, same_true, same_from, same_apart, same_or_not, join_cancel_left}
use Rattle.sym_model.proofs.Polynomials.{at_only, coefficient_pair, pair_agree, pair_factor, pair_zero, pair_times, others, others_there, others_elsewhere, length_others, Same_refl, Same_trans, Same_sym, times_respects, In_select, In_plus, In_negate, coefficient_outside, coefficient_plus, coefficient_negate}
use Rattle.sym_model.proofs.PolynomialLaws.{times-plus, times-negate}
use lib.IntN.{*ℤ-zero, *ℤ_comm}

-- ---- the lexicographic order of exponent lists (`Above`)

pub Above_irrefl : (α : List ℕ) → Above α α → ⊥
Above_irrefl [] h = h
Above_irrefl (a ∷ α) (inl h) = absurd (omega arith)
Above_irrefl (a ∷ α) (inr h) = Above_irrefl α h.1

pub Above_trans : (α β γ : List ℕ) → Above α β → Above β γ → Above α γ
Above_trans [] β γ h k = absurd h
Above_trans (a ∷ α) [] γ h k = absurd k
Above_trans (a ∷ α) (b ∷ β) [] h k = tt
Above_trans (a ∷ α) (b ∷ β) (c ∷ γ) (inl h) (inl k) = inl (omega arith)
Above_trans (a ∷ α) (b ∷ β) (c ∷ γ) (inl h) (inr k) = let e = k.0 in inl (omega arith)
Above_trans (a ∷ α) (b ∷ β) (c ∷ γ) (inr h) (inl k) = let e = h.0 in inl (omega arith)
Above_trans (a ∷ α) (b ∷ β) (c ∷ γ) (inr h) (inr k) = inr (h.0 ∙ k.0, Above_trans α β γ h.1 k.1)

pub Above_total : (α β : List ℕ) → (α ≡ β) ⊎ (Above α β ⊎ Above β α)
Above_total [] [] = inl refl
Above_total [] (b ∷ β) = inr (inr tt)
Above_total (a ∷ α) [] = inr (inl tt)
Above_total (a ∷ α) (b ∷ β) = search (rules, cases_order, (Above_total α β))

-- for α, δ, τ, β of one length: if α + δ is above τ + β, then α is above τ or δ is above β
pub Above_from_join : (α δ τ β : List ℕ) → length α ≡ length τ → length δ ≡ length β → length α ≡ length δ → Above (join α δ) (join τ β) → Above α τ ⊎ Above δ β
Above_from_join [] [] τ β k l m h = absurd h
Above_from_join [] (d ∷ δ) τ β k l m h = absurd (omega arith)
Above_from_join (a ∷ α) [] τ β k l m h = absurd (omega arith)
Above_from_join (a ∷ α) (d ∷ δ) [] β k l m h = absurd (omega arith)
Above_from_join (a ∷ α) (d ∷ δ) (t ∷ τ) [] k l m h = absurd (omega arith)
Above_from_join (a ∷ α) (d ∷ δ) (t ∷ τ) (b ∷ β) k l m h =
    search (rules, cases_order, (Above_from_join α δ τ β (omega arith) (omega arith) (omega arith)))

pub Above-join : (α τ δ : List ℕ) → length α ≡ length τ → length δ ≡ length α → Above α τ → Above (join α δ) (join τ δ)
Above-join [] τ δ k l h = absurd h
Above-join (a ∷ α) [] δ k l h = absurd (omega arith)
Above-join (a ∷ α) (t ∷ τ) [] k l h = absurd (omega arith)
Above-join (a ∷ α) (t ∷ τ) (d ∷ δ) k l (inl h) = inl (omega arith)
Above-join (a ∷ α) (t ∷ τ) (d ∷ δ) k l (inr h) = inr (ap (λ x. x + d) h.0, Above-join α τ δ (omega arith) (omega arith) h.1)

pub Above_rest : (α δ τ β : List ℕ) → length α ≡ length τ → length δ ≡ length β → length α ≡ length δ → Above τ α → join α δ ≡ join τ β → Above δ β
Above_rest α δ τ β k l m h e =
    elim (Above_from_join τ δ τ β refl l (sym k ∙ m) (subst (λ γ. Above (join τ δ) γ) e (Above-join τ α δ (sym k) (sym m ∙ k) h))) [
      | inl x ↦ absurd (Above_irrefl τ x)
      | inr x ↦ x
    ]

-- ---- the coefficients of a product f·g at and above the product of the greatest monomials of f and g

coefficient_times : (f g : Poly) (γ : List ℕ) → coefficient (times f g) γ ≡ pair f (λ α. pair g (λ δ. at_only γ (join α δ)))
coefficient_times f g γ = coefficient_pair (times f g) γ ∙ pair_times f g (at_only γ)

asks_nothing : (g : Poly) (α γ : List ℕ) → ((δ : List ℕ) → join α δ ≡ γ → coefficient g δ ≡ pos 0) → pair g (λ δ. at_only γ (join α δ)) ≡ pos 0
asks_nothing g α γ h =
    pair_agree g (λ δ. at_only γ (join α δ)) (λ δ. pos 0) (λ δ. elim (cases_Bool (same (join α δ) γ)) [
      | inl e ↦ inl (h δ (same_true (join α δ) γ e))
      | inr e ↦ inr (ap (λ b. cond b (pos 1) (pos 0)) e)
    ])
    ∙ pair_zero g

places_or_none : (n : ℕ) (f : Poly) (α : List ℕ) → In n f → (coefficient f α ≡ pos 0) ⊎ (length α ≡ n)
places_or_none n f α i = elim (cases_eq (length α) n) [ inl e ↦ inr e | inr d ↦ inl (coefficient_outside n f α i d) ]

pub coefficient_at_top : (n : ℕ) (f g : Poly) (τ β : List ℕ) → In n f → In n g → length τ ≡ n → length β ≡ n → IsNoneAbove f τ → IsNoneAbove g β
    → coefficient (times f g) (join τ β) ≡ coefficient f τ *ℤ coefficient g β
coefficient_at_top n f g τ β i j k l a b =
    coefficient_times f g (join τ β)
    ∙ pair_agree f (λ α. pair g (λ δ. at_only (join τ β) (join α δ))) (λ α. coefficient g β *ℤ at_only τ α) at
    ∙ pair_factor (coefficient g β) f (at_only τ)
    ∙ *ℤ_comm (coefficient g β) (pair f (at_only τ))
    ∙ ap (λ c. c *ℤ coefficient g β) (sym (coefficient_pair f τ))
  where
    at_τ : pair g (λ δ. at_only (join τ β) (join τ δ)) ≡ coefficient g β
    at_τ =
        pair_agree g (λ δ. at_only (join τ β) (join τ δ)) (at_only β) (λ δ. elim (places_or_none n g δ j) [
          | inl z ↦ inl z
          | inr m ↦ inr (ap (λ t. cond t (pos 1) (pos 0)) (tests_agree (same (join τ δ) (join τ β)) (same δ β)
              (λ e. same_from δ β (join_cancel_left τ δ β (m ∙ sym l) (same_true (join τ δ) (join τ β) e)))
              (λ e. same_from (join τ δ) (join τ β) (ap (join τ) (same_true δ β e)))))
        ])
        ∙ sym (coefficient_pair g β)

    below : (α : List ℕ) → length α ≡ n → Above τ α → pair g (λ δ. at_only (join τ β) (join α δ)) ≡ pos 0
    below α m h = asks_nothing g α (join τ β) (λ δ e. elim (places_or_none n g δ j) [
      | inl z ↦ z
      | inr p ↦ b δ (Above_rest α δ τ β (m ∙ sym k) (p ∙ sym l) (m ∙ sym p) h e)
    ])

    at : (α : List ℕ) → (coefficient f α ≡ pos 0) ⊎ (pair g (λ δ. at_only (join τ β) (join α δ)) ≡ coefficient g β *ℤ at_only τ α)
    at α = elim (places_or_none n f α i) [
      | inl z ↦ inl z
      | inr m ↦ elim (Above_total α τ) [
        | inl e ↦ inr (subst (λ γ. pair g (λ δ. at_only (join τ β) (join γ δ)) ≡ coefficient g β *ℤ at_only τ γ) (sym e)
            (at_τ ∙ sym (product-one (coefficient g β)) ∙ ap (λ t. coefficient g β *ℤ cond t (pos 1) (pos 0)) (sym (same_refl τ))))
        | inr (inl x) ↦ inl (a α x)
        | inr (inr x) ↦ inr (below α m x ∙ sym (*ℤ-zero (coefficient g β)) ∙ ap (λ t. coefficient g β *ℤ cond t (pos 1) (pos 0)) (sym (same_apart α τ (λ e. Above_irrefl τ (subst (λ γ. Above τ γ) e x)))))
      ]
    ]

pub none_above_times : (n : ℕ) (f g : Poly) (τ β : List ℕ) → In n f → In n g → length τ ≡ n → length β ≡ n → IsNoneAbove f τ → IsNoneAbove g β → IsNoneAbove (times f g) (join τ β)
none_above_times n f g τ β i j k l a b γ h =
    coefficient_times f g γ
    ∙ pair_agree f (λ α. pair g (λ δ. at_only γ (join α δ))) (λ α. pos 0) at
    ∙ pair_zero f
  where
    rises : (α δ : List ℕ) → length α ≡ n → length δ ≡ n → join α δ ≡ γ → Above α τ ⊎ Above δ β
    rises α δ m p e = Above_from_join α δ τ β (m ∙ sym k) (p ∙ sym l) (m ∙ sym p) (subst (λ ε. Above ε (join τ β)) (sym e) h)

    at_or_below : (α : List ℕ) → length α ≡ n → (Above α τ → ⊥) → pair g (λ δ. at_only γ (join α δ)) ≡ pos 0
    at_or_below α m d = asks_nothing g α γ (λ δ e. elim (places_or_none n g δ j) [
      | inl z ↦ z
      | inr p ↦ elim (rises α δ m p e) [ inl x ↦ absurd (d x) | inr y ↦ b δ y ]
    ])

    at : (α : List ℕ) → (coefficient f α ≡ pos 0) ⊎ (pair g (λ δ. at_only γ (join α δ)) ≡ pos 0)
    at α = elim (places_or_none n f α i) [
      | inl z ↦ inl z
      | inr m ↦ elim (Above_total α τ) [
        | inl e ↦ inr (at_or_below α m (λ x. Above_irrefl τ (subst (λ γ. Above γ τ) e x)))
        | inr (inl x) ↦ inl (a α x)
        | inr (inr x) ↦ inr (at_or_below α m (λ y. Above_irrefl τ (Above_trans τ α τ x y)))
      ]
    ]

-- if no term of f has exponents above `top`, each monomial above x^top has the coefficient 0 in f
pub none_above_terms : (f : Poly) (top : List ℕ) → ((t : Term) → Among t f → Above t.0 top → ⊥) → IsNoneAbove f top
none_above_terms f top h α x =
    total_none (λ (t : Term). cond (same t.0 α) t.1 (pos 0)) f (λ t m. ap (λ b. cond b t.1 (pos 0)) (same_apart t.0 α (λ e. h t m (subst (λ γ. Above γ top) (sym e) x))))

-- f has a term s such that no term of f has exponents above those of s
abbrev Greatest : Poly → Type 0
Greatest f = (s : Term) × Among s f × ((u : Term) → Among u f → Above u.0 s.0 → ⊥)

greatest : (t : Term) (f : Poly) → Greatest (t ∷ f)
greatest t [] = (t, inl refl, only)
  where
    only : (u : Term) → Among u (t ∷ []) → Above u.0 t.0 → ⊥
    only u (inl e) h = Above_irrefl t.0 (subst (λ (v : Term). Above v.0 t.0) e h)
    only u (inr m) h = m
greatest t (v ∷ f) = by (greatest v f)
  where
    by : Greatest (v ∷ f) → Greatest (t ∷ v ∷ f)
    by (s, m, top) = choose (Above_total t.0 s.0)
      where
        stays : (Above t.0 s.0 → ⊥) → (u : Term) → Among u (t ∷ v ∷ f) → Above u.0 s.0 → ⊥
        stays d u (inl e) h = d (subst (λ (w : Term). Above w.0 s.0) e h)
        stays d u (inr k) h = top u k h

        rises : Above t.0 s.0 → (u : Term) → Among u (t ∷ v ∷ f) → Above u.0 t.0 → ⊥
        rises x u (inl e) h = Above_irrefl t.0 (subst (λ (w : Term). Above w.0 t.0) e h)
        rises x u (inr k) h = top u k (Above_trans u.0 t.0 s.0 h x)

        choose : (t.0 ≡ s.0) ⊎ (Above t.0 s.0 ⊎ Above s.0 t.0) → Greatest (t ∷ v ∷ f)
        choose (inl e) = (s, inr m, stays (λ h. Above_irrefl s.0 (subst (λ γ. Above γ s.0) e h)))
        choose (inr (inl x)) = (t, inl refl, rises x)
        choose (inr (inr x)) = (s, inr m, stays (λ h. Above_irrefl s.0 (Above_trans s.0 t.0 s.0 x h)))

-- ---- polynomials whose greatest monomial has the coefficient 1 or -1

-- if c is 1 or -1 and the exponents of all terms of f are below `top`, then x^top is the greatest monomial of
-- c·x^top + f, with the coefficient 1 or -1
pub leads_first : (top : List ℕ) (c : ℤ) (f : Poly) → (c ≡ pos 1) ⊎ (c ≡ neg_ℤ (pos 1)) → ((t : Term) → Among t f → Above top t.0) → Leads ((top, c) ∷ f) top
leads_first top c f u below = search (rules, none_above_terms, total_none, same_apart, Above_irrefl, same_refl, ints, Above_trans)

pub length_top : (n : ℕ) (f : Poly) (top : List ℕ) → In n f → Leads f top → length top ≡ n
length_top n f top i l = elim (places_or_none n f top i) [
  | inl z ↦ elim l.unit_at_top [ inl e ↦ absurd (omega (arith, ints)) | inr e ↦ absurd (omega (arith, ints)) ]
  | inr e ↦ e
]

pub leads_times : (n : ℕ) (f g : Poly) (τ β : List ℕ) → In n f → In n g → Leads f τ → Leads g β → Leads (times f g) (join τ β)
leads_times n f g τ β i j p q =
    record {
      unit_at_top = elim p.unit_at_top [
        | inl d ↦ elim q.unit_at_top [ inl e ↦ inl (at ∙ ap₂ ◌*ℤ◌ d e) | inr e ↦ inr (at ∙ ap₂ ◌*ℤ◌ d e) ]
        | inr d ↦ elim q.unit_at_top [ inl e ↦ inr (at ∙ ap₂ ◌*ℤ◌ d e) | inr e ↦ inl (at ∙ ap₂ ◌*ℤ◌ d e) ]
      ];
      none_above = none_above_times n f g τ β i j (length_top n f τ i p) (length_top n g β j q) p.none_above q.none_above;
    }
  where
    at : coefficient (times f g) (join τ β) ≡ coefficient f τ *ℤ coefficient g β
    at = coefficient_at_top n f g τ β i j (length_top n f τ i p) (length_top n g β j q) p.none_above q.none_above

unit_times : (c d : ℤ) → (c ≡ pos 1) ⊎ (c ≡ neg_ℤ (pos 1)) → c *ℤ d ≡ pos 0 → d ≡ pos 0
unit_times c d (inl e) z = let k = one-product d in let h = ap (λ x. x *ℤ d) e in omega (arith, ints)
unit_times c d (inr e) z = let k = one-product d in let m = negation-product (pos 1) d in let h = ap (λ x. x *ℤ d) e in omega (arith, ints)

same_others : (β : List ℕ) (f : Poly) → coefficient f β ≡ pos 0 → Same (others β f) f
same_others β f z α = elim (same_or_not β α) [
  | inl e ↦ subst (λ γ. coefficient (others β f) γ ≡ coefficient f γ) e (others_there β f ∙ sym z)
  | inr d ↦ others_elsewhere β α f d
]

length_others_member : (s : Term) (f : Poly) → Among s f → length (others s.0 f) < length f
length_others_member s [] m = absurd m
length_others_member s (t ∷ f) (inl e) = search (rules, length_others, others, same_from)
length_others_member s (t ∷ f) (inr m) = search (rules, others, (length_others_member s f m))

nothing_by_length : (k n : ℕ) (f d : Poly) (τ : List ℕ) → length d ≤ k → In n f → In n d → Leads f τ → Same (times f d) nothing → Same d nothing
nothing_by_length k n f [] τ h i j l z = Same_refl nothing
nothing_by_length zero n f (t ∷ d) τ h i j l z = absurd (omega arith)
nothing_by_length (suc k) n f (t ∷ d) τ h i j l z =
    Same_trans (t ∷ d) e nothing (Same_sym e (t ∷ d) agree)
    (nothing_by_length k n f e τ (omega (arith, length_others_member s (t ∷ d) r.1)) i (In_select n (λ (u : Term). not (same u.0 s.0)) (t ∷ d) j) l
    (Same_trans (times f e) (times f (t ∷ d)) nothing (times_respects f f e (t ∷ d) (Same_refl f) agree) z))
  where
    r : Greatest (t ∷ d)
    r = greatest t d

    s : Term
    s = r.0

    e : Poly
    e = others s.0 (t ∷ d)

    agree : Same e (t ∷ d)
    agree =
        same_others s.0 (t ∷ d) (unit_times (coefficient f τ) (coefficient (t ∷ d) s.0) l.unit_at_top
        (sym (coefficient_at_top n f (t ∷ d) τ s.0 i j (length_top n f τ i l) (j s r.1) l.none_above (none_above_terms (t ∷ d) s.0 r.2)) ∙ z (join τ s.0)))

-- for f and g in n variables: if the greatest monomial of f has the coefficient 1 or -1, f·g is 0 only if g is 0
pub leading_nothing : (n : ℕ) (f g : Poly) (top : List ℕ) → In n f → In n g → Leads f top → Same (times f g) nothing → Same g nothing
leading_nothing n f g top i j l z = nothing_by_length (length g) n f g top (omega arith) i j l z

-- for f, g and h in n variables: if the greatest monomial of f has the coefficient 1 or -1, and f·g = f·h, then g = h
pub leading_cancel : (n : ℕ) (f g h : Poly) (top : List ℕ) → In n f → In n g → In n h → Leads f top → Same (times f g) (times f h) → Same g h
leading_cancel n f g h top i j k l z α =
    let d = leading_nothing n f (plus g (negate h)) top i (In_plus n g (negate h) j (In_negate n h k)) l difference α in
    let a = coefficient_plus g (negate h) α in
    let b = coefficient_negate h α in
    omega (arith, ints)
  where
    difference : Same (times f (plus g (negate h))) nothing
    difference β =
        let a = times-plus f g (negate h) β in
        let b = coefficient_plus (times f g) (times f (negate h)) β in
        let c = times-negate f h β in
        let e = coefficient_negate (times f h) β in
        let m = z β in
        omega (arith, ints)
