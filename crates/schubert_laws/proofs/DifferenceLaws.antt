-- The laws of divided differences of polynomials, with the variables counted from 0: `differences_after k` is ∂_(k+1).
use Rattle.std.proofs.Common.{◌≡◌, ℕ, zero, suc, ◌+◌, ◌-◌, ◌<◌, ◌≤◌, List, [], ◌∷◌, ◌++◌, map, length, replicate, refl, sym, ◌∙◌, ap, ap₂, arith, ℤ, pos, ◌+ℤ◌, ◌-ℤ◌, ◌*ℤ◌, neg_ℤ, rules}
use Rattle.std.proofs.lemmas.Int.{ints}
use Rattle.std.specs.List.{range_with_len}
use lib.IntN.{+ℤ_idr}
use Rattle.sym_model.specs.Polynomial.{Term, Poly, Same, In, nothing, join, plus, scale, negate, times, pair}
use Rattle.sym_model.specs.DividedDifference.{x_to, powers_between, difference_after, differences_after}
use Rattle.sym_model.proofs.Ring.{one-product}
use Rattle.sym_model.proofs.Sums.{total_map}
use Rattle.sym_model.proofs.Polynomials.{pair_ext, pair_in, pair_add, pair_opposite, pair_zero, pair_plus, pair_scale, pair_negate, pair_times, pair_exchange, pair_determined, same_from_pair, In_map, In_plus, In_each, In_scale}
use Rattle.schubert_laws.proofs.Climbs.{across_product, across_stepped}
use Rattle.schubert_laws.proofs.Differences.{along, pair_difference, pair_differences, along_ext, along_add, along_neg, along_square, along_braid, along_commute}
use Rattle.schubert_laws.proofs.Exchanges.{exchange_at, raise, join_raise}

pub differences_respect : (k : ℕ) (f g : Poly) → Same f g → Same (differences_after k f) (differences_after k g)
differences_respect k f g e = same_from_pair (differences_after k f) (differences_after k g) (λ φ. pair_differences k f φ ∙ pair_determined f g (along k φ) e ∙ sym (pair_differences k g φ))

pub differences-scale : (k : ℕ) (c : ℤ) (f : Poly) → Same (differences_after k (scale c f)) (scale c (differences_after k f))
differences-scale k c f = search (rules, same_from_pair, pair_differences, pair_scale, along)

pub differences_square : (k : ℕ) (f : Poly) → Same (differences_after k (differences_after k f)) nothing
differences_square k f = search (rules, same_from_pair, pair_differences, along, pair_ext, along_square, pair_zero)

pub differences_commute : (j k : ℕ) (f : Poly) → j + 2 ≤ k → Same (differences_after j (differences_after k f)) (differences_after k (differences_after j f))
differences_commute j k f h =
    same_from_pair (differences_after j (differences_after k f)) (differences_after k (differences_after j f)) (λ φ.
    pair_differences j (differences_after k f) φ
    ∙ pair_differences k f (along j φ)
    ∙ pair_ext f (along k (along j φ)) (along j (along k φ)) (λ α. sym (along_commute j k φ α h))
    ∙ sym (pair_differences k (differences_after j f) φ ∙ pair_differences j f (along k φ)))

pub differences_braid : (k : ℕ) (f : Poly)
    → Same (differences_after k (differences_after (suc k) (differences_after k f))) (differences_after (suc k) (differences_after k (differences_after (suc k) f)))
differences_braid k f = search (rules, same_from_pair, pair_differences, along, pair_ext, along_braid)

-- ---- if f is in n variables, so are its divided differences

In_powers : (sign : ℤ) (a b n : ℕ) (rest : List ℕ) → suc (suc (length rest)) ≡ n → In n (powers_between sign a b rest)
In_powers sign a b n rest e = In_map n (λ c. (c ∷ (a + b - 1 - c) ∷ rest, sign)) (range_with_len b (a - b)) (λ c m. e)

In_difference : (k n : ℕ) (α : List ℕ) → length α ≡ n → In n (difference_after k α)
In_difference zero n [] l = λ t m. absurd m
In_difference zero n (a ∷ []) l = λ t m. absurd m
In_difference zero n (a ∷ b ∷ rest) l = In_plus n (powers_between (pos 1) a b rest) (powers_between (neg_ℤ (pos 1)) b a rest) (In_powers (pos 1) a b n rest l) (In_powers (neg_ℤ (pos 1)) b a n rest l)
In_difference (suc k) n [] l = λ t m. absurd m
In_difference (suc k) n (a ∷ rest) l =
    In_map n (λ (t : Term). (a ∷ t.0, t.1)) (difference_after k rest) (λ t m. ap suc (In_difference k (length rest) rest refl t m) ∙ l)

pub In_differences : (k n : ℕ) (f : Poly) → In n f → In n (differences_after k f)
In_differences k n f i = In_each n (λ (t : Term). scale t.1 (difference_after k t.0)) f (λ t m. In_scale n t.1 (difference_after k t.0) (In_difference k n t.0 (i t m)))

-- the polynomial f with the two variables at the places k and k + 1, counted from 0, exchanged
abbrev pub exchange_variables : ℕ → Poly → Poly
exchange_variables k f = map (λ (t : Term). (exchange_at k t.0, t.1)) f

pub pair_exchange_variables : (k : ℕ) (f : Poly) (φ : List ℕ → ℤ) → pair (exchange_variables k f) φ ≡ pair f (λ α. φ (exchange_at k α))
pair_exchange_variables k f φ = total_map (λ (t : Term). t.1 *ℤ φ t.0) (λ (t : Term). (exchange_at k t.0, t.1)) f

-- ---- the Leibniz rule for the divided difference of a product

along_product : (k : ℕ) (φ : List ℕ → ℤ) (α β : List ℕ) → length α ≡ length β → suc k < length α
    → along k φ (join α β) ≡ along k (λ γ. φ (join γ β)) α +ℤ along k (λ γ. φ (join (exchange_at k α) γ)) β
along_product k φ [] β l h = absurd (omega arith)
along_product k φ (a ∷ α) [] l h = absurd (omega arith)
along_product zero φ (a ∷ []) (p ∷ β) l h = absurd (omega arith)
along_product zero φ (a ∷ b ∷ α) (p ∷ []) l h = absurd (omega arith)
along_product zero φ (a ∷ b ∷ α) (p ∷ q ∷ β) l h = across_product (λ c d. φ (c ∷ d ∷ join α β)) a b p q
along_product (suc k) φ (a ∷ α) (p ∷ β) l h = along_product k (λ γ. φ ((a + p) ∷ γ)) α β (omega arith) (omega arith)

along_pair : (k : ℕ) (g : Poly) (φ : List ℕ → List ℕ → ℤ) (α : List ℕ) → pair g (λ β. along k (λ γ. φ γ β) α) ≡ along k (λ γ. pair g (λ β. φ γ β)) α
along_pair k g φ α =
    pair_ext g (λ β. along k (λ γ. φ γ β) α) (λ β. pair (difference_after k α) (λ γ. φ γ β)) (λ β. sym (pair_difference k α (λ γ. φ γ β)))
    ∙ pair_exchange g (difference_after k α) (λ β γ. φ γ β)
    ∙ pair_difference k α (λ γ. pair g (λ β. φ γ β))

pub differences-times : (k n : ℕ) (f g : Poly) → In n f → In n g → suc k < n
    → Same (differences_after k (times f g)) (plus (times (differences_after k f) g) (times (exchange_variables k f) (differences_after k g)))
differences-times k n f g i j h =
    same_from_pair (differences_after k (times f g)) (plus (times (differences_after k f) g) (times (exchange_variables k f) (differences_after k g))) (λ φ.
    pair_differences k (times f g) φ
    ∙ pair_times f g (along k φ)
    ∙ pair_in n f (λ α. pair g (λ β. along k φ (join α β))) (λ α. along k (left φ) α +ℤ right φ α) i (λ α l. split φ α l)
    ∙ pair_add f (along k (left φ)) (right φ)
    ∙ ap₂ ◌+ℤ◌ (sym (pair_times (differences_after k f) g φ ∙ pair_differences k f (left φ))) (sym (pair_times (exchange_variables k f) (differences_after k g) φ ∙ pair_exchange_variables k f (λ α. pair (differences_after k g) (λ β. φ (join α β))) ∙ pair_ext f (λ α. pair (differences_after k g) (λ β. φ (join (exchange_at k α) β))) (right φ) (λ α. pair_differences k g (λ β. φ (join (exchange_at k α) β)))))
    ∙ sym (pair_plus (times (differences_after k f) g) (times (exchange_variables k f) (differences_after k g)) φ))
  where
    left : (List ℕ → ℤ) → List ℕ → ℤ
    left φ α = pair g (λ β. φ (join α β))

    right : (List ℕ → ℤ) → List ℕ → ℤ
    right φ α = pair g (along k (λ γ. φ (join (exchange_at k α) γ)))

    split : (φ : List ℕ → ℤ) (α : List ℕ) → length α ≡ n → pair g (λ β. along k φ (join α β)) ≡ along k (left φ) α +ℤ right φ α
    split φ α l =
        pair_in n g (λ β. along k φ (join α β)) (λ β. along k (λ γ. φ (join γ β)) α +ℤ along k (λ γ. φ (join (exchange_at k α) γ)) β) j (λ β m. along_product k φ α β (l ∙ sym m) (omega arith))
        ∙ pair_add g (λ β. along k (λ γ. φ (join γ β)) α) (along k (λ γ. φ (join (exchange_at k α) γ)))
        ∙ ap (λ x. x +ℤ right φ α) (along_pair k g (λ γ β. φ (join γ β)) α)

-- the variable x_(k+1)
abbrev pub variable_after : ℕ → Poly
variable_after k = x_to (replicate k 0 ++ (1 ∷ []))

pub pair_variable_times : (k n : ℕ) (f : Poly) (φ : List ℕ → ℤ) → In n f → k < n → pair (times (variable_after k) f) φ ≡ pair f (λ α. φ (raise k α))
pair_variable_times k n f φ i h =
    pair_times (variable_after k) f φ
    ∙ +ℤ_idr _
    ∙ one-product (pair f (λ α. φ (join (replicate k 0 ++ (1 ∷ [])) α)))
    ∙ pair_in n f (λ α. φ (join (replicate k 0 ++ (1 ∷ [])) α)) (λ α. φ (raise k α)) i (λ α l. ap φ (join_raise k α (omega arith)))

pub along_quotient : (k : ℕ) (φ : List ℕ → ℤ) (α : List ℕ) → suc k < length α → along k (λ γ. φ (raise k γ) -ℤ φ (raise (suc k) γ)) α ≡ φ α -ℤ φ (exchange_at k α)
along_quotient k φ [] h = absurd (omega arith)
along_quotient zero φ (a ∷ []) h = absurd (omega arith)
along_quotient zero φ (a ∷ b ∷ α) h = across_stepped (λ c d. φ (c ∷ d ∷ α)) a b
along_quotient (suc k) φ (a ∷ α) h = along_quotient k (λ γ. φ (a ∷ γ)) α (omega arith)

-- if f is in n variables, and k + 1 < n, then (x_(k+1) - x_(k+2))·∂_(k+1) f is f minus f with x_(k+1) and x_(k+2) exchanged
pub difference_quotient : (k n : ℕ) (f : Poly) → In n f → suc k < n
    → Same (times (plus (variable_after k) (negate (variable_after (suc k)))) (differences_after k f)) (plus f (negate (exchange_variables k f)))
difference_quotient k n f i h =
    same_from_pair (times (plus (variable_after k) (negate (variable_after (suc k)))) (differences_after k f)) (plus f (negate (exchange_variables k f))) (λ φ.
    let d = In_differences k n f i in
    let t = pair_times (plus (variable_after k) (negate (variable_after (suc k)))) (differences_after k f) φ in
    let s = pair_plus (variable_after k) (negate (variable_after (suc k))) (λ β. pair (differences_after k f) (λ γ. φ (join β γ))) in
    let u = pair_negate (variable_after (suc k)) (λ β. pair (differences_after k f) (λ γ. φ (join β γ))) in
    let x = sym (pair_times (variable_after k) (differences_after k f) φ) ∙ pair_variable_times k n (differences_after k f) φ d (omega arith) in
    let y = sym (pair_times (variable_after (suc k)) (differences_after k f) φ) ∙ pair_variable_times (suc k) n (differences_after k f) φ d h in
    let p = pair_differences k f (λ α. φ (raise k α)) in
    let q = pair_differences k f (λ α. φ (raise (suc k) α)) in
    let m = pair_in n f (λ α. along k (λ γ. φ (raise k γ)) α +ℤ neg_ℤ (along k (λ γ. φ (raise (suc k) γ)) α)) (λ α. φ α +ℤ neg_ℤ (φ (exchange_at k α))) i (λ α l.
    let e = along_quotient k φ α (omega arith) in
    let w = along_ext k (λ γ. φ (raise k γ) -ℤ φ (raise (suc k) γ)) (λ γ. φ (raise k γ) +ℤ neg_ℤ (φ (raise (suc k) γ))) (λ γ. omega (arith, ints)) α in
    let v = along_add k (λ γ. φ (raise k γ)) (λ γ. neg_ℤ (φ (raise (suc k) γ))) α in
    let z = along_neg k (λ γ. φ (raise (suc k) γ)) α in
    omega (arith, ints)) in
    let a = pair_add f (along k (λ γ. φ (raise k γ))) (λ α. neg_ℤ (along k (λ γ. φ (raise (suc k) γ)) α)) in
    let b = pair_opposite f (along k (λ γ. φ (raise (suc k) γ))) in
    let c = pair_add f φ (λ α. neg_ℤ (φ (exchange_at k α))) in
    let g = pair_opposite f (λ α. φ (exchange_at k α)) in
    let o = pair_plus f (negate (exchange_variables k f)) φ in
    let r = pair_negate (exchange_variables k f) φ in
    let j = pair_exchange_variables k f φ in
    omega (arith, ints))
