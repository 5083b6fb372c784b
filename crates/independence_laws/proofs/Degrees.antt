-- Homogeneous polynomials: the degree of a product.
use Rattle.std.proofs.Common.{◌≡◌, ℕ, ◌+◌, List, map, sym, ap, ◌∙◌, inl, inr, arith, ◌*ℤ◌}
use Rattle.sym_model.specs.Sum.{Among}
use Rattle.sym_model.specs.Polynomial.{Term, Poly, join, one, times}
use Rattle.sym_model.specs.Partition.{size}
use Rattle.sym_model.proofs.Sums.{Among_from_map, Among_from_each}
use Rattle.sym_model.proofs.Exponents.{size-join}
use Rattle.sym_model.proofs.Parts.{size-zeros}

-- `OfDegree d f`: every term of f has degree d
abbrev pub OfDegree : ℕ → Poly → Type 0
OfDegree d f = (t : Term) → Among t f → size t.0 ≡ d

pub times-of_degree : (d e : ℕ) (f g : Poly) → OfDegree d f → OfDegree e g → OfDegree (d + e) (times f g)
times-of_degree d e f g h k t m =
    let s = Among_from_each (λ (s : Term). map (λ (t : Term). (join s.0 t.0, s.1 *ℤ t.1)) g) t f m in
    let u = Among_from_map (λ (u : Term). (join s.0.0 u.0, s.0.1 *ℤ u.1)) t g s.2 in
    let left : size s.0.0 ≡ d = h s.0 s.1 in
    let right : size u.0.0 ≡ e = k u.0 u.1 in
    let joined : size t.0 ≡ size (join s.0.0 u.0.0) = ap (λ (v : Term). size v.0) u.2 in
    joined ∙ (size-join s.0.0 u.0.0 ∙ (omega arith))

pub one-of_degree : (n : ℕ) → OfDegree 0 (one n)
one-of_degree n t (inl e) = ap (λ (v : Term). size v.0) e ∙ size-zeros n
one-of_degree n t (inr m) = absurd m
