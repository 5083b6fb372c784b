-- A Schur polynomial as the sum over the special rim hooks of its shape.
use Rattle.std.proofs.Common.{ℕ, ◌≤◌, List, [], ◌∷◌, map, sym, ◌∙◌, ap, arith, ◌*ℤ◌, flat_map}
use Rattle.sym_model.specs.Sum.{total, Among}
use Rattle.sym_model.specs.Partition.{IsPartition, rows}
use Rattle.sym_model.specs.Conjugate.{conjugate}
use Rattle.sym_model.specs.Polynomial.{Poly, Same, pair, times, scale}
use Rattle.sym_model.specs.Bases.{complete_of, elementary_of}
use Rattle.sym_model.specs.Schur.{schur}
use Rattle.sym_model.proofs.Sums.{total_among}
use Rattle.sym_model.proofs.Polynomials.{pair_each, pair_scale, pair_determined, same_from_pair, Same_trans, same_of_equal}
use Rattle.tableau_laws.proofs.Padding.{each_map}
use Rattle.sym_model.proofs.Conjugates.{IsPartition-conjugate}
use Rattle.product_laws.proofs.Pieri.{horizontal, vertical}
use Rattle.expand_in_families.specs.SpecialHooks.{SpecialHook, special_hooks}
use Rattle.expand_in_families.proofs.HookShapes.{hook_rest}
use Rattle.expand_in_families.proofs.HookSigns.{signed_sum}
use Rattle.expand_in_families.proofs.HookStrips.{covering, covering_listed}
use Rattle.expand_in_families.proofs.ConjugateStrips.{conjugate_listed}

summed : (Z : List ℕ → Poly) (product : SpecialHook → Poly) (a : ℕ) (bs : List ℕ) → IsPartition (a ∷ bs)
    → ((h : SpecialHook) → Among h (special_hooks (a ∷ bs)) → Same (product h) (flat_map Z (covering a bs h)))
    → Same (Z (a ∷ bs)) (flat_map (λ (h : SpecialHook). scale h.sign (product h)) (special_hooks (a ∷ bs)))
summed Z product a bs p e =
    same_from_pair (Z (a ∷ bs)) (flat_map (λ (h : SpecialHook). scale h.sign (product h)) (special_hooks (a ∷ bs)))
    (λ φ. sym (
    pair_each (λ (h : SpecialHook). scale h.sign (product h)) (special_hooks (a ∷ bs)) φ
    ∙ total_among (λ (h : SpecialHook). pair (scale h.sign (product h)) φ) (λ (h : SpecialHook). h.sign *ℤ total (λ (ν : List ℕ). pair (Z ν) φ) (covering a bs h)) (special_hooks (a ∷ bs))
    (λ h m.
    pair_scale h.sign (product h) φ
    ∙ ap (λ z. h.sign *ℤ z) (pair_determined (product h) (flat_map Z (covering a bs h)) φ (e h m) ∙ pair_each Z (covering a bs h) φ))
    ∙ signed_sum (λ (ν : List ℕ). pair (Z ν) φ) a bs p))

pub complete_sum : (n : ℕ) (parts : List ℕ) → IsPartition parts → 1 ≤ rows parts
    → Same (schur parts n) (flat_map (λ (h : SpecialHook). scale h.sign (times (complete_of h.cells n) (schur h.rest n))) (special_hooks parts))
complete_sum n [] p o = absurd (omega arith)
complete_sum n (a ∷ bs) p o =
    summed (λ ν. schur ν n) (λ h. times (complete_of h.cells n) (schur h.rest n)) a bs p
    (λ h m. horizontal n h.cells h.rest (covering a bs h) (hook_rest (a ∷ bs) h p m).partition (covering_listed a bs h p m))

pub elementary_sum : (n : ℕ) (parts : List ℕ) → IsPartition parts → 1 ≤ rows parts
    → Same (schur (conjugate parts) n) (flat_map (λ (h : SpecialHook). scale h.sign (times (elementary_of h.cells n) (schur (conjugate h.rest) n))) (special_hooks parts))
elementary_sum n [] p o = absurd (omega arith)
elementary_sum n (a ∷ bs) p o =
    summed (λ ν. schur (conjugate ν) n) (λ h. times (elementary_of h.cells n) (schur (conjugate h.rest) n)) a bs p
    (λ h m.
    let q = (hook_rest (a ∷ bs) h p m).partition in
    Same_trans (times (elementary_of h.cells n) (schur (conjugate h.rest) n)) (flat_map (λ ν. schur ν n) (map conjugate (covering a bs h))) (flat_map (λ ν. schur (conjugate ν) n) (covering a bs h))
    (vertical n h.cells (conjugate h.rest) (map conjugate (covering a bs h)) (IsPartition-conjugate h.rest q.falls) (conjugate_listed h.cells h.rest (covering a bs h) q (covering_listed a bs h p m)))
    (same_of_equal (flat_map (λ ν. schur ν n) (map conjugate (covering a bs h))) (flat_map (λ ν. schur (conjugate ν) n) (covering a bs h)) (each_map (λ ν. schur ν n) conjugate (covering a bs h))))
