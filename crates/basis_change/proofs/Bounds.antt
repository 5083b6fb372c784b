-- The growth into a basis at a degree d (`growth`) is 1 if d = 0, and otherwise d^d for m and s, and d!·(2d)^d for e, h and p. This file compares the
-- growths into different bases, and bounds the coefficients at the start and at the end of a change of basis.
use Rattle.std.proofs.Common.{◌≡◌, ◌⊎◌, ℕ, zero, suc, ◌*◌, ◌^◌, ◌≤◌, List, [], ◌∷◌, ◌++◌, refl, ap, inl, inr, arith}
use Rattle.std.proofs.lemmas.Nat.{mul-le}
use Rattle.sym_model.specs.Sum.{Among}
use Rattle.sym_model.specs.Partition.{size}
use Rattle.sym_model.specs.Expansion.{Basis, elementaries, completes, power_sums, schurs, Fraction, Terms}
use Rattle.sym_model.specs.Weight.{growth}
use Rattle.sym_model.proofs.Sums.{Among_from_append}
use Rattle.monomial_laws.proofs.Growths.{growth-most}
use Rattle.monomial_laws.proofs.WeightBounds.{growth-mono}
use Rattle.basis_change_laws.proofs.GrowthBounds.{grown-mono}
use Rattle.sparse_polys.specs.LabelSizes.{AreWithin}
use Rattle.sparse_polys.specs.declared.family.Family.{Family}
use Rattle.sparse_polys.specs.declared.family.Family.TheVariants.{Elementary, Complete, PowerSum}
use Rattle.sparse_polys.specs.Families.{basis_in}

pub AreWithin-push : (g h : ℕ) (done : Terms (List ℕ)) (k : List ℕ) (v : Fraction) → AreWithin g done → g ≤ h → size k ≤ h → AreWithin h (done ++ (k, v) ∷ [])
AreWithin-push g h done k v w l s t m = by (Among_from_append t done ((k, v) ∷ []) m)
  where
    by : Among t done ⊎ Among t ((k, v) ∷ []) → size t.0 ≤ h
    by (inl n) = let x = w t n in omega arith
    by (inr n) = here n
      where
        here : Among t ((k, v) ∷ []) → size t.0 ≤ h
        here (inl e) = let x = ap (λ (u : List ℕ × Fraction). size u.0) e in omega arith
        here (inr n) = absurd n

pub same_growth : (family : Family) (d : ℕ) → growth (basis_in family) d ≡ growth Basis.completes d
same_growth Elementary zero = refl
same_growth Elementary (suc d) = refl
same_growth Complete zero = refl
same_growth Complete (suc d) = refl
same_growth PowerSum zero = refl
same_growth PowerSum (suc d) = refl

-- ---- the growths into all bases, compared with the growth into m

same_schurs : (d : ℕ) → growth schurs d ≡ growth Basis.monomials d
same_schurs zero = refl
same_schurs (suc d) = refl

-- at each degree, the growth into m is at most the growth into each other basis
pub growth-least : (target : Basis) (d : ℕ) → growth Basis.monomials d ≤ growth target d
growth-least target zero = omega arith
growth-least Basis.monomials (suc d) = omega arith
growth-least elementaries (suc d) = growth-most Basis.monomials (suc d)
growth-least completes (suc d) = growth-most Basis.monomials (suc d)
growth-least power_sums (suc d) = growth-most Basis.monomials (suc d)
growth-least schurs (suc d) = omega arith

growth-rises : (target : Basis) (d e : ℕ) → d ≤ e → growth target d ≤ growth target e
growth-rises Basis.monomials d e h = growth-mono d e h
growth-rises elementaries d e h = omega (arith, same_growth Elementary d, same_growth Elementary e, grown-mono d e h)
growth-rises completes d e h = grown-mono d e h
growth-rises power_sums d e h = omega (arith, same_growth PowerSum d, same_growth PowerSum e, grown-mono d e h)
growth-rises schurs d e h = omega (arith, same_schurs d, same_schurs e, growth-mono d e h)

pub wide : (n N D g k : ℕ) → 1 ≤ D → n ≤ N * g → g ≤ k → n ≤ N * D * k
wide n N D g k d h l = let m = mul-le N g (N * D) k (let t = mul-le N 1 N D (omega arith) d in omega arith) l in omega arith

pub large-higher : (target : Basis) (N D d e : ℕ) → d ≤ e → 2 ^ 127 ≤ N * D * growth target d → 2 ^ 127 ≤ N * D * growth target e
large-higher target N D d e l h = let m = mul-le (N * D) (growth target d) (N * D) (growth target e) (omega arith) (growth-rises target d e l) in omega arith

-- if N times the growth into m at d is 2^127 or more, and D ≥ 1, then N·D times the growth into each basis at d is 2^127 or more
pub large-least : (target : Basis) (N D d : ℕ) → 1 ≤ D → 2 ^ 127 ≤ N * growth Basis.monomials d → 2 ^ 127 ≤ N * D * growth target d
large-least target N D d p h = wide (2 ^ 127) N D (growth Basis.monomials d) (growth target d) p h (growth-least target d)
