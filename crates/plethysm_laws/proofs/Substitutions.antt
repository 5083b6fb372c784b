-- Substituting monomials for the variables of a polynomial is compatible with sums and products, and turns p_k into the sum of the k-th powers of the
-- monomials.
use Rattle.std.proofs.Common.{◌≡◌, ℕ, zero, suc, ◌+◌, ◌*◌, ◌<◌, List, [], ◌∷◌, length, replicate, sym, ◌∙◌, ap, ap₂, refl, inl, inr, arith, ℤ, ◌+ℤ◌, ◌*ℤ◌, rules}
use Rattle.std.proofs.lemmas.List.{length-map, length-replicate}
use Rattle.sym_model.specs.Sum.{total}
use Rattle.sym_model.specs.Polynomial.{Term, Poly, Same, In, no_exponents, one, join, plus, scale, times, pair}
use Rattle.sym_model.specs.Partition.{ArePositive}
use Rattle.sym_model.specs.Bases.{power_sum_of, product_over, power_sum}
use Rattle.sym_model.proofs.Sums.{total_ext, total_map}
use Rattle.sym_model.proofs.Exponents.{join_comm, join_assoc, length-join_same, join_zeros}
use Rattle.sym_model.proofs.Polynomials.{pair_ext, pair_plus, pair_scale, pair_times, pair_one, pair_monomials, pair_determined, same_from_pair, times_respects, In_map}
use Rattle.sym_model.proofs.Monomials.{one_place, pair-power_sum_of}
use Rattle.sym_model.specs.Plethysm.{multiplied, replaced, substitute}
use Rattle.plethysm_laws.specs.SumsOfMonomials.{HavePlaces, monomial_sum}
use Rattle.plethysm_laws.specs.PowerSumPlethysm.{dilated}

-- ---- the exponents of a monomial after substitution (`replaced`), and multiples of exponent lists (`multiplied`)

pub multiplied-none : (γ : List ℕ) → multiplied 0 γ ≡ replicate (length γ) 0
multiplied-none [] = refl
multiplied-none (c ∷ γ) = ap₂ ◌∷◌ (let e : 0 * c ≡ 0 = omega arith in e) (multiplied-none γ)

pub multiplied-once : (γ : List ℕ) → multiplied 1 γ ≡ γ
multiplied-once [] = refl
multiplied-once (c ∷ γ) = ap₂ ◌∷◌ (let e : 1 * c ≡ c = omega arith in e) (multiplied-once γ)

multiplied-add : (a b : ℕ) (γ : List ℕ) → multiplied (a + b) γ ≡ join (multiplied a γ) (multiplied b γ)
multiplied-add a b [] = refl
multiplied-add a b (c ∷ γ) = ap₂ ◌∷◌ (let e : (a + b) * c ≡ a * c + b * c = omega arith in e) (multiplied-add a b γ)

pub length-multiplied : (k : ℕ) (γ : List ℕ) → length (multiplied k γ) ≡ length γ
length-multiplied k γ = length-map γ (λ a. k * a)

zeros_in_front : (n : ℕ) (α : List ℕ) → length α ≡ n → join (no_exponents n) α ≡ α
zeros_in_front n α e = join_zeros n α (omega arith)

pub length-replaced : (n : ℕ) (γs : List (List ℕ)) (α : List ℕ) → HavePlaces n γs → length (replaced n γs α) ≡ n
length-replaced n [] α h = length-replicate n 0
length-replaced n (γ ∷ γs) [] h = length-replicate n 0
length-replaced n (γ ∷ γs) (a ∷ α) h =
    length-join_same n (multiplied a γ) (replaced n γs α) (length-multiplied a γ ∙ h γ (inl refl)) (length-replaced n γs α (λ δ m. h δ (inr m)))

regroup : (α β γ δ : List ℕ) → join (join α β) (join γ δ) ≡ join (join α γ) (join β δ)
regroup α β γ δ = search (rules, join_assoc, join_comm)

pub replaced-join : (n : ℕ) (γs : List (List ℕ)) (α β : List ℕ) → HavePlaces n γs → replaced n γs (join α β) ≡ join (replaced n γs α) (replaced n γs β)
replaced-join n [] α β h = sym (zeros_in_front n (no_exponents n) (length-replicate n 0))
replaced-join n (γ ∷ γs) [] β h = sym (zeros_in_front n (replaced n (γ ∷ γs) β) (length-replaced n (γ ∷ γs) β h))
replaced-join n (γ ∷ γs) (a ∷ α) [] h = search (rules, join_comm, zeros_in_front, length-replaced)
replaced-join n (γ ∷ γs) (a ∷ α) (b ∷ β) h = search (rules, multiplied-add, regroup, (replaced-join n γs α β))

replaced-zero : (n : ℕ) (γ : List ℕ) (γs : List (List ℕ)) (α : List ℕ) → HavePlaces n (γ ∷ γs) → replaced n (γ ∷ γs) (0 ∷ α) ≡ replaced n γs α
replaced-zero n γ γs α h = search (rules, multiplied-none, zeros_in_front, length-replaced)

pub replaced-zeros : (n k : ℕ) (γs : List (List ℕ)) → HavePlaces n γs → replaced n γs (no_exponents k) ≡ no_exponents n
replaced-zeros n k [] h = refl
replaced-zeros n zero (γ ∷ γs) h = refl
replaced-zeros n (suc k) (γ ∷ γs) h = replaced-zero n γ γs (no_exponents k) h ∙ replaced-zeros n k γs (λ δ m. h δ (inr m))

-- ---- monomials substituted for the variables of sums and products

pub pair-substitute : (n : ℕ) (γs : List (List ℕ)) (f : Poly) (φ : List ℕ → ℤ) → pair (substitute n γs f) φ ≡ pair f (λ α. φ (replaced n γs α))
pair-substitute n γs f φ = total_map (λ (t : Term). t.1 *ℤ φ t.0) (λ (t : Term). (replaced n γs t.0, t.1)) f

pub pair-dilated : (k : ℕ) (f : Poly) (φ : List ℕ → ℤ) → pair (dilated k f) φ ≡ pair f (λ α. φ (multiplied k α))
pair-dilated k f φ = total_map (λ (t : Term). t.1 *ℤ φ t.0) (λ (t : Term). (multiplied k t.0, t.1)) f

pub substitute_respects : (n : ℕ) (γs : List (List ℕ)) (f g : Poly) → Same f g → Same (substitute n γs f) (substitute n γs g)
substitute_respects n γs f g e = search (rules, same_from_pair, pair-substitute, pair_determined)

pub substitute-plus : (n : ℕ) (γs : List (List ℕ)) (f g : Poly) → Same (substitute n γs (plus f g)) (plus (substitute n γs f) (substitute n γs g))
substitute-plus n γs f g = search (rules, same_from_pair, pair-substitute, pair_plus)

pub substitute-scale : (n : ℕ) (γs : List (List ℕ)) (c : ℤ) (f : Poly) → Same (substitute n γs (scale c f)) (scale c (substitute n γs f))
substitute-scale n γs c f = search (rules, same_from_pair, pair-substitute, pair_scale)

pub substitute-times : (n : ℕ) (γs : List (List ℕ)) (f g : Poly) → HavePlaces n γs → Same (substitute n γs (times f g)) (times (substitute n γs f) (substitute n γs g))
substitute-times n γs f g h =
    same_from_pair (substitute n γs (times f g)) (times (substitute n γs f) (substitute n γs g))
    (λ φ.
    pair-substitute n γs (times f g) φ
    ∙ pair_times f g (λ α. φ (replaced n γs α))
    ∙ pair_ext f
    (λ α. pair g (λ β. φ (replaced n γs (join α β))))
    (λ α. pair (substitute n γs g) (λ β. φ (join (replaced n γs α) β)))
    (λ α.
    pair_ext g (λ β. φ (replaced n γs (join α β))) (λ β. φ (join (replaced n γs α) (replaced n γs β))) (λ β. ap φ (replaced-join n γs α β h))
    ∙ sym (pair-substitute n γs g (λ β. φ (join (replaced n γs α) β))))
    ∙ sym (pair-substitute n γs f (λ α. pair (substitute n γs g) (λ β. φ (join α β))))
    ∙ sym (pair_times (substitute n γs f) (substitute n γs g) φ))

pub substitute-one : (n k : ℕ) (γs : List (List ℕ)) → HavePlaces n γs → Same (substitute n γs (one k)) (one n)
substitute-one n k γs h = search (rules, same_from_pair, pair-substitute, pair_one, replaced-zeros)

total-one_place : (k n : ℕ) (γs : List (List ℕ)) (φ : List ℕ → ℤ) → HavePlaces n γs
    → total (λ (α : List ℕ). φ (replaced n γs α)) (one_place k (length γs)) ≡ total (λ (γ : List ℕ). φ (multiplied k γ)) γs
total-one_place k n [] φ h = refl
total-one_place k n (γ ∷ γs) φ h =
    ap₂ ◌+ℤ◌
    (ap φ
    (ap (join (multiplied k γ)) (replaced-zeros n (length γs) γs rest)
    ∙ join_comm (multiplied k γ) (no_exponents n)
    ∙ zeros_in_front n (multiplied k γ) (length-multiplied k γ ∙ h γ (inl refl))))
    (total_map (λ (α : List ℕ). φ (replaced n (γ ∷ γs) α)) (λ (α : List ℕ). 0 ∷ α) (one_place k (length γs))
    ∙ total_ext (λ (α : List ℕ). φ (replaced n (γ ∷ γs) (0 ∷ α))) (λ (α : List ℕ). φ (replaced n γs α)) (λ α. ap φ (replaced-zero n γ γs α h)) (one_place k (length γs))
    ∙ total-one_place k n γs φ rest)
  where
    rest : HavePlaces n γs
    rest δ m = h δ (inr m)

-- for k > 0, substituting the monomials γs of g for the variables turns p_k into p_k[g], the sum of the k-th powers of these monomials
pub substitute-power_sum_of : (k n : ℕ) (γs : List (List ℕ)) (g : Poly) → 0 < k → HavePlaces n γs → Same (monomial_sum γs) g
    → Same (substitute n γs (power_sum_of k (length γs))) (dilated k g)
substitute-power_sum_of k n γs g l h e =
    same_from_pair (substitute n γs (power_sum_of k (length γs))) (dilated k g)
    (λ φ.
    pair-substitute n γs (power_sum_of k (length γs)) φ
    ∙ pair-power_sum_of k (length γs) (λ α. φ (replaced n γs α)) l
    ∙ total-one_place k n γs φ h
    ∙ sym (pair_monomials γs (λ γ. φ (multiplied k γ)))
    ∙ pair_determined (monomial_sum γs) g (λ γ. φ (multiplied k γ)) e
    ∙ sym (pair-dilated k g φ))

-- for a partition λ, substituting the monomials γs of g for the variables turns p_λ into the product of the p_k[g] over the parts k of λ
pub substitute-power_sum : (parts : List ℕ) (n : ℕ) (γs : List (List ℕ)) (g : Poly) → ArePositive parts → HavePlaces n γs → Same (monomial_sum γs) g
    → Same (substitute n γs (power_sum parts (length γs))) (product_over (λ k m. dilated k g) parts n)
substitute-power_sum [] n γs g p h e = substitute-one n (length γs) γs h
substitute-power_sum (k ∷ parts) n γs g p h e =
    search (rules, substitute-times, times_respects, substitute-power_sum_of, (substitute-power_sum parts n γs g p.1 h e))

pub In-dilated : (k n : ℕ) (g : Poly) → In n g → In n (dilated k g)
In-dilated k n g i = In_map n (λ (t : Term). (multiplied k t.0, t.1)) g (λ t m. length-multiplied k t.0 ∙ i t m)

pub dilated-once : (g : Poly) → Same (dilated 1 g) g
dilated-once g = same_from_pair (dilated 1 g) g (λ φ. pair-dilated 1 g φ ∙ pair_ext g (λ α. φ (multiplied 1 α)) φ (λ α. ap φ (multiplied-once α)))
