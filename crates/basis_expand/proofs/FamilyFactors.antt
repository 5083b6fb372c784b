-- A list in Schur polynomials times the product of e_k, h_k or p_k over the parts k of a partition, one part after another.
use Rattle.std.proofs.Common.{◌≡◌, ℕ, ◌+◌, ◌<◌, ◌≤◌, List, [], ◌∷◌, ◌++◌, inl, inr, length, sym, ◌∙◌, ap, subst, refl}
use Rattle.sym_model.specs.Bases.{product_over}
use Rattle.sym_model.specs.Partition.{size, rows}
use Rattle.sym_model.specs.Polynomial.{Poly, In, one, times}
use Rattle.sym_model.specs.Expansion.{schurs, Fraction, Terms, basis_polynomial, IsExpansionOf}
use Rattle.sym_model.proofs.Polynomials.{Same_sym}
use Rattle.sym_model.proofs.PolynomialLaws.{times_assoc, one-times}
use Rattle.strip_rules.specs.Room.{HaveRoomForStrips}
use Rattle.sparse_polys.specs.declared.family.Family.{Family}
use Rattle.sparse_polys.specs.declared.family.Family.TheVariants.{Elementary, Complete, PowerSum}
use Rattle.sparse_polys.specs.Families.{polynomial_of, basis_in}
use Rattle.sym_model.specs.Expression.{Tree, cleared_value, denominator}
use Rattle.monomial_laws.proofs.Majorants.{In-cleared_value}
use Rattle.basis_expand.proofs.AtomLists.{no_parts}
use Rattle.basis_expand.specs.SchurLists.{StandsFor}
use Rattle.monomial_laws.proofs.ExpressionLaws.{expansion_respects}

-- the product of e_k, h_k or p_k over the parts k of a partition is the polynomial of this partition in the basis e, h or p
pub product_basis : (family : Family) (parts : List ℕ) (n : ℕ) → product_over (polynomial_of family) parts n ≡ basis_polynomial (basis_in family) parts n
product_basis Elementary parts n = refl
product_basis Complete parts n = refl
product_basis PowerSum parts n = refl

-- if `parts` is empty, a list that expands f also expands f times the product over `parts`, which is 1
pub times-no_parts : (family : Family) (parts : List ℕ) (list : Terms (List ℕ)) → length parts < 1
    → (n : ℕ) (f : Poly) (q : ℕ) → In n f → IsExpansionOf schurs list n f q → IsExpansionOf schurs list n (times (product_over (polynomial_of family) parts n) f) q
times-no_parts family parts list h n f q i e =
    subst (λ (p : List ℕ). IsExpansionOf schurs list n (times (product_over (polynomial_of family) p n) f) q) (no_parts parts h)
    (expansion_respects list n f (times (one n) f) q (Same_sym (times (one n) f) f (one-times n f i)) e)

-- if `parts` is k ∷ rest, a list that expands e_k (h_k, p_k) times the product over `rest` times f expands the product over `parts` times f
pub times-more_parts : (family : Family) (k : ℕ) (rest parts : List ℕ) (list : Terms (List ℕ)) → k ∷ rest ≡ parts
    → (n : ℕ) (f : Poly) (q : ℕ) → IsExpansionOf schurs list n (times (polynomial_of family k n) (times (product_over (polynomial_of family) rest n) f)) q
    → IsExpansionOf schurs list n (times (product_over (polynomial_of family) parts n) f) q
times-more_parts family k rest parts list split n f q e =
    subst (λ (p : List ℕ). IsExpansionOf schurs list n (times (product_over (polynomial_of family) p n) f) q) split
    (expansion_respects list n (times (polynomial_of family k n) (times (product_over (polynomial_of family) rest n) f)) (times (times (polynomial_of family k n) (product_over (polynomial_of family) rest n)) f) q
    (Same_sym (times (times (polynomial_of family k n) (product_over (polynomial_of family) rest n)) f) (times (polynomial_of family k n) (times (product_over (polynomial_of family) rest n) f))
    (times_assoc (polynomial_of family k n) (product_over (polynomial_of family) rest n) f)) e)

pub room_next : (k : ℕ) (terms : Terms (List ℕ)) (label : List ℕ) (c : Fraction) → HaveRoomForStrips k terms → size label + k ≤ 4096 → rows label + k ≤ 512 → HaveRoomForStrips k (terms ++ (label, c) ∷ [])
room_next k [] label c h a b t (inl e) = subst (λ (l : List ℕ). (size l + k ≤ 4096) × (rows l + k ≤ 512)) (ap (λ (u : List ℕ × Fraction). u.0) (sym e)) (a, b)
room_next k [] label c h a b t (inr m) = absurd m
room_next k (u ∷ terms) label c h a b t (inl e) = h t (inl e)
room_next k (u ∷ terms) label c h a b t (inr m) = room_next k terms label c (λ v n. h v (inr n)) a b t m

pub factor_times : (family : Family) (e : Tree) (parts label : List ℕ) (start list : Terms (List ℕ)) → parts ≡ label
    → ((n : ℕ) (f : Poly) (q : ℕ) → In n f → IsExpansionOf schurs start n f q → IsExpansionOf schurs list n (times (product_over (polynomial_of family) parts n) f) q)
    → StandsFor e start → (n : ℕ) → IsExpansionOf schurs list n (times (basis_polynomial (basis_in family) label n) (cleared_value e n)) (denominator e)
factor_times family e parts label start list is h k n =
    subst (λ f. IsExpansionOf schurs list n (times f (cleared_value e n)) (denominator e))
    (ap (λ (l : List ℕ). product_over (polynomial_of family) l n) is ∙ product_basis family label n)
    (h n (cleared_value e n) (denominator e) (In-cleared_value e n) (k n))
