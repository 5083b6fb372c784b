-- `placings` of μ and ν (specs/StripProduct) is the number of lists as long as ν that consist of the parts of μ and zeros, in some order, and whose
-- entry at each place is at most the entry of ν there. It is computed row by row from the last row on.
--     placings-row      the number for one more row in front of μ and ν
use Rattle.std.proofs.Common.{◌≡◌, ℕ, suc, ◌-◌, ◌*◌, ◌<◌, ◌≤◌, cond, List, [], ◌∷◌, length, take, drop, get_or, sym, ◌∙◌, ap, ap₂, subst, arith}
use Rattle.std.proofs.lemmas.Bool.{le-leb}
use Rattle.std.proofs.lemmas.List.{take_all}
use Rattle.sym_model.specs.Partition.{IsPartition, Holds}
use Rattle.sym_model.specs.Schur.{times_in}
use Rattle.sym_model.specs.Conjugate.{count_from}
use Rattle.sym_model.proofs.Conjugates.{count_from-greatest}
use Rattle.sym_model.proofs.Numbers.{other_factor}
use Rattle.sym_model.proofs.SortedParts.{IsPartition_tail}
use Rattle.strip_rules.specs.StripProduct.{placings}
use Rattle.strip_rules.proofs.Placings.{repeats, placed-first, placings-placed, placings-first, below_first, repeats-positive}
use Rattle.strip_laws.proofs.Containment.{Holds_below, Holds-count_from}
use native.Mathlib.Nat.{eq_of_mul-eq-mul_right}
use Rattle.std.proofs.Math.Nat.{mul_assoc, mul_comm}

pub placings-row : (v x : ℕ) (μ ν : List ℕ) → IsPartition (v ∷ μ) → v ≤ x
    → placings (v ∷ μ) (x ∷ ν) * count_from v (v ∷ μ) ≡ placings μ ν * count_from v (x ∷ ν)
placings-row v x μ ν p h =
    let a = placings-placed (v ∷ μ) (x ∷ ν) p in
    let b = placings-placed μ ν (IsPartition_tail v μ p) in
    let most = below_first v μ p.falls in
    let c = placed-first x 0 ν μ (λ w m. omega (arith, most w m)) in
    let f = ap (λ t. cond {A = ℕ} t 1 0) (le-leb v v (omega arith)) in
    let g = count_from-greatest v μ most in
    let d : count_from v (v ∷ μ) ≡ suc (times_in v μ) = omega arith in
    let e : count_from v (x ∷ ν) - 0 ≡ count_from v (x ∷ ν) = omega arith in
    eq_of_mul-eq-mul_right (repeats μ) (repeats-positive μ)
    (placings (v ∷ μ) (x ∷ ν) * count_from v (v ∷ μ)) (placings μ ν * count_from v (x ∷ ν))
    (ap (λ n. placings (v ∷ μ) (x ∷ ν) * n * repeats μ) d
    ∙ (mul_assoc (placings (v ∷ μ) (x ∷ ν)) (suc (times_in v μ)) (repeats μ) ∙ mul_comm (placings (v ∷ μ) (x ∷ ν)) ((suc (times_in v μ)) * (repeats μ)))
    ∙ a
    ∙ ap₂ ◌*◌ e (c ∙ sym b)
    ∙ turned (count_from v (x ∷ ν)) (repeats μ) (placings μ ν))
  where
    turned : (x y z : ℕ) → x * (y * z) ≡ z * x * y
    turned x y z = omega arith

pub no_rows : (inner shape : List ℕ) → length inner < 1 → 1 ≡ placings inner shape
no_rows [] shape h = sym (placings-first shape)
no_rows (v ∷ μ) shape h = absurd (omega arith)

-- `inner` and `shape` each have a first row. Without their first rows they are partitions, and the shorter `inner` lies inside the shorter `shape`.
-- `fewer` and `step` compare `placings` of the two partitions without their first rows with `placings` of `inner` and `shape`.
pub record HaveRows (inner shape : List ℕ) : Type 0 where
  pub first : 1 ≤ length shape
  pub inner_below : IsPartition (take (length inner - 1) (drop 1 inner))
  pub shape_below : IsPartition (take (length shape - 1) (drop 1 shape))
  pub below : Holds (take (length shape - 1) (drop 1 shape)) (take (length inner - 1) (drop 1 inner))
  pub some : 0 < count_from (get_or inner 0 0) inner
  pub fewer : placings (take (length inner - 1) (drop 1 inner)) (take (length shape - 1) (drop 1 shape)) ≤ placings inner shape
  pub step : placings inner shape * count_from (get_or inner 0 0) inner
      ≡ placings (take (length inner - 1) (drop 1 inner)) (take (length shape - 1) (drop 1 shape)) * count_from (get_or inner 0 0) shape

pub have_rows : (inner shape : List ℕ) → IsPartition inner → IsPartition shape → Holds shape inner → 1 ≤ length inner → HaveRows inner shape
have_rows [] shape p q h l = absurd (omega arith)
have_rows (v ∷ μ) [] p q h l = absurd (omega (arith, h 1, p.positive.0))
have_rows (v ∷ μ) (x ∷ ν) p q h l =
    let m = take_all (length (v ∷ μ) - 1) μ (omega arith) in
    let n = take_all (length (x ∷ ν) - 1) ν (omega arith) in
    let below = Holds_below (x ∷ ν) (v ∷ μ) h in
    let here = ap (λ t. cond {A = ℕ} t 1 0) (le-leb v v (omega arith)) in
    let step = placings-row v x μ ν p (h 1) in
    let more = Holds-count_from v (x ∷ ν) (v ∷ μ) p.positive.0 h in
    record {
      first = omega arith;
      inner_below = subst IsPartition (sym m) (IsPartition_tail v μ p);
      shape_below = subst IsPartition (sym n) (IsPartition_tail x ν q);
      below = subst (λ (t : List ℕ). Holds t (take (length (v ∷ μ) - 1) μ)) (sym n) (subst (Holds ν) (sym m) below);
      some = omega arith;
      fewer =
          subst (λ (t : List ℕ). placings (take (length (v ∷ μ) - 1) μ) t ≤ placings (v ∷ μ) (x ∷ ν)) (sym n)
          (subst (λ (s : List ℕ). placings s ν ≤ placings (v ∷ μ) (x ∷ ν)) (sym m)
          (other_factor (placings (v ∷ μ) (x ∷ ν)) (count_from v (v ∷ μ)) (placings μ ν) (count_from v (x ∷ ν)) step (omega arith) more));
      step = step ∙ ap₂ (λ s t. placings s t * count_from v (x ∷ ν)) (sym m) (sym n);
    }
