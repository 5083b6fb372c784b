-- The relation between three lists of terms: the third is the plethysm F[G] of the polynomials F and G of two lists in the monomial basis m, that is,
-- of two lists of terms c·m_λ (Macdonald, I.8).
use Rattle.std.specs.Prelude.{◌≡◌, ℕ, ◌≤ℤ◌, pos, List}
use Rattle.sym_model.specs.Sum.{Among}
use Rattle.sym_model.specs.Polynomial.{Poly}
use Rattle.sym_model.specs.Expansion.{Basis, monomials, Fraction, Terms, IsExpansionOf}
use Rattle.sym_model.specs.Plethysm.{plethysm}

-- each coefficient of the list is an integer and not negative
abbrev pub AreNaturalNumbers : Terms (List ℕ) → Type 0
AreNaturalNumbers terms = (t : List ℕ × Fraction) → Among t terms → (t.1.1 ≡ 1) × (pos 0 ≤ℤ t.1.0)

-- for all n, F, G and q: if the list `outer` in m is F/q in every number of variables, and the list `inner` in m is G in n variables, then `list`,
-- with its labels read in the target basis, is F[G]/q in n variables; F[G] is formed with the monomials of G of degree at most b
abbrev pub IsPlethysmOf : Basis → ℕ → Terms (List ℕ) → Terms (List ℕ) → Terms (List ℕ) → Type 0
IsPlethysmOf target b outer inner list =
    (n : ℕ) (f : ℕ → Poly) (g : Poly) (q : ℕ)
    → ((k : ℕ) → IsExpansionOf monomials outer k (f k) q) → IsExpansionOf monomials inner n g 1
    → IsExpansionOf target list n (plethysm f b n g) q
