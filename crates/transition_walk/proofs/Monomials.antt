-- A Schubert polynomial, in at least as many variables as the permutation has letters, is a sum of one or more monomials.
use Rattle.std.proofs.Common.{◌≡◌, ℕ, zero, suc, ◌-◌, ◌<◌, ◌≤◌, true, cond, List, [], ◌∷◌, ◌++◌, map, length, refl, sym, ap, ap₂, ◌∙◌, inl, inr, arith, Some, None, Option, ℤ, pos, ◌+ℤ◌, length-append}
use Rattle.std.specs.Prelude.{replicate}
use Rattle.std.proofs.lemmas.Int.{ints}
use Rattle.std.proofs.lemmas.List.{length-replicate}
use Rattle.sym_model.specs.Sum.{Among, total}
use Rattle.sym_model.specs.Polynomial.{Poly, In, join, plus, times, pair, one, no_exponents, resize, fits_in, restrict}
use Rattle.sym_model.specs.Permutation.{IsOneLine, IsTransition, last_descent, times_swap, covers_down}
use Rattle.sym_model.specs.DividedDifference.{variable, variable_in}
use Rattle.sym_model.specs.Schubert.{schubert_in, schuberts_in}
use Rattle.sym_model.proofs.Sums.{total_append, total_map}
use Rattle.sym_model.proofs.Exponents.{fits_in_length, resize_same}
use Rattle.sym_model.proofs.Polynomials.{pair_in, pair_determined, pair_plus, pair_each, pair_times, pair_restrict, pair_one}
use Rattle.schubert_laws.proofs.LowerPermutations.{transition_lowers, transition_covers_lower, transition_exists, identity_is_one}
use Rattle.schubert_laws.proofs.TransitionFromOne.{transition}
use Rattle.schubert_laws.proofs.Dominant.{pair_x_to}
use Rattle.transition_walk.specs.Transitions.{IsShort, rank}
use Rattle.schubert_laws.proofs.Ranks.{rank_lower}
use Rattle.schubert_laws.proofs.Members.{short_transition, short_cover, place_within}
use lib.IntN.{+ℤ_idr}

-- the exponents of the monomial x_r
abbrev pub unit : ℕ → List ℕ
unit r = replicate (r - 1) 0 ++ (1 ∷ [])

pub length-unit : (r : ℕ) → 1 ≤ r → length (unit r) ≡ r
length-unit r h =
    let zeros : List ℕ = replicate (r - 1) 0 in
    let z : ℕ = 0 in
    let last : List ℕ = 1 ∷ [] in
    let a = length-append zeros last in
    let b = length-replicate (r - 1) z in
    omega arith

pub pair_transition : (n r s : ℕ) (w : List ℕ) (φ : List ℕ → ℤ) → IsOneLine w → IsTransition w r s
    → pair (schubert_in w n) φ
    ≡ pair (times (variable_in r n) (schubert_in (times_swap r s w) n)) φ +ℤ total (λ (x : List ℕ). pair (schubert_in x n) φ) (covers_down r (times_swap r s w))
pair_transition n r s w φ o t =
    let u : List ℕ = times_swap r s w in
    pair_determined (schubert_in w n) (plus (times (variable_in r n) (schubert_in (times_swap r s w) n)) (schuberts_in (covers_down r (times_swap r s w)) n)) φ (transition w r s n o t)
    ∙ pair_plus (times (variable_in r n) (schubert_in (times_swap r s w) n)) (schuberts_in (covers_down r (times_swap r s w)) n) φ
    ∙ ap (λ z. pair (times (variable_in r n) (schubert_in (times_swap r s w) n)) φ +ℤ z) (pair_each (λ (x : List ℕ). schubert_in x n) (covers_down r (times_swap r s w)) φ)

pub pair_variable : (n r : ℕ) (f : Poly) (φ : List ℕ → ℤ)
    → pair (times (variable_in r n) f) φ ≡ cond (fits_in n (unit r)) (pair f (λ β. φ (join (resize n (unit r)) β))) (pos 0)
pair_variable n r f φ =
    pair_times (variable_in r n) f φ
    ∙ pair_restrict n (variable r) (λ α. pair f (λ β. φ (join α β)))
    ∙ pair_x_to (unit r) (λ α. cond (fits_in n α) (pair f (λ β. φ (join (resize n α) β))) (pos 0))

-- f is the sum of one or more monomials
pub record HasMonomials (f : Poly) : Type 0 where
  pub first : List ℕ
  pub others : List (List ℕ)
  pub sums : (φ : List ℕ → ℤ) → pair f φ ≡ φ first +ℤ total φ others

all_monomials : (n : ℕ) (xs : List (List ℕ)) → ((x : List ℕ) → Among x xs → HasMonomials (schubert_in x n))
    → (ys : List (List ℕ)) × ((φ : List ℕ → ℤ) → total (λ (x : List ℕ). pair (schubert_in x n) φ) xs ≡ total φ ys)
all_monomials n [] h = ([], λ φ. refl)
all_monomials n (x ∷ xs) h =
    let here = h x (inl refl) in
    let rest = all_monomials n xs (λ y m. h y (inr m)) in (
      (here.first ∷ here.others) ++ rest.0,
      λ φ. ap₂ ◌+ℤ◌ (here.sums φ) (rest.1 φ) ∙ sym (total_append φ (here.first ∷ here.others) rest.0),
    )

monomials_by : (n k : ℕ) (w : List ℕ) → ((v : List ℕ) → IsShort n v → rank (suc n) v < k → HasMonomials (schubert_in v n)) → IsShort n w → rank (suc n) w < suc k
    → (o : Option ℕ) → last_descent w ≡ o → HasMonomials (schubert_in w n)
monomials_by n k w known short below None e = record {
  first = no_exponents n;
  others = [];
  sums = λ φ. pair_determined (schubert_in w n) (one n) φ (identity_is_one w n short.one_line e) ∙ pair_one n φ ∙ sym (+ℤ_idr (φ (no_exponents n)));
}
monomials_by n k w known short below (Some r) e =
    let x = transition_exists w r short.one_line e in
    let s = x.0 in
    let t = x.1 in
    let place = place_within w r x.0 short.one_line t in
    let p0 = place.0 in
    let p1 = place.1 in
    let few = short.few in
    let u : List ℕ = times_swap r x.0 w in
    let us = short_transition n w r x.0 short t in
    let ul = rank_lower (suc n) (times_swap r x.0 w) w us.one_line (let f = us.few in omega arith) (transition_lowers w r x.0 short.one_line t) in
    let head = known (times_swap r x.0 w) us (omega arith) in
    let tail = all_monomials n (covers_down r (times_swap r x.0 w)) (λ y m.
    let ys = short_cover n r (times_swap r x.0 w) y us (omega arith) m in
    let yl = rank_lower (suc n) y w ys.one_line (let f = ys.few in omega arith) (transition_covers_lower w r x.0 short.one_line t y m) in
    known y ys (omega arith)) in
    let fits : fits_in n (unit r) ≡ true = fits_in_length n (unit r) (let l = length-unit r p0 in omega arith) in
    record {
      first = join (resize n (unit r)) head.first;
      others = map (λ β. join (resize n (unit r)) β) head.others ++ tail.0;
      sums = λ φ.
          let a = pair_transition n r x.0 w φ short.one_line t in
          let b = pair_variable n r (schubert_in (times_swap r x.0 w) n) φ
          ∙ ap (λ c. cond c (pair (schubert_in (times_swap r x.0 w) n) (λ β. φ (join (resize n (unit r)) β))) (pos 0)) fits
          ∙ head.sums (λ β. φ (join (resize n (unit r)) β)) in
          let c = tail.1 φ in
          let d = total_append φ (map (λ β. join (resize n (unit r)) β) head.others) tail.0 in
          let f = total_map φ (λ (β : List ℕ). join (resize n (unit r)) β) head.others in
          omega (arith, ints);
    }

monomials_below : (n k : ℕ) (w : List ℕ) → IsShort n w → rank (suc n) w < k → HasMonomials (schubert_in w n)
monomials_below n zero w short below = absurd (omega arith)
monomials_below n (suc k) w short below = monomials_by n k w (λ v s l. monomials_below n k v s l) short below (last_descent w) refl

pub schubert_monomials : (n : ℕ) (w : List ℕ) → IsShort n w → HasMonomials (schubert_in w n)
schubert_monomials n w short = monomials_below n (suc (rank (suc n) w)) w short (omega arith)
