-- Each permutation on the right side of the transition rule has a smaller rank than the one on the left side. The rank (specs/TransitionOrder) is one
-- number made of the number of inversions, the last descent, and the letter there.
use Rattle.std.proofs.Common.{◌≡◌, ℕ, zero, suc, ◌+◌, ◌-◌, ◌*◌, ◌<◌, ◌≤◌, List, [], ◌∷◌, length, get_or, refl, ap, inl, inr, arith, Some, None, Option, unwrap_or, rules}
use Rattle.std.proofs.lemmas.Bool.{cases_lt}
use Rattle.sym_model.specs.Sum.{Among}
use Rattle.sym_model.specs.PlaceOrders.{inversions}
use Rattle.sym_model.specs.Permutation.{IsOneLine, IsLower, letter, last_descent, last_descent_place}
use Rattle.schubert_laws.specs.TransitionOrder.{rank}
use Rattle.schubert_laws.proofs.Swaps.{among_get}
use Rattle.schubert_laws.proofs.Transition.{last_descent_is}
use native.Mathlib.Nat.{mul-le-mul_left}
use Rattle.std.proofs.lemmas.List.{get_or_past, get_or_default}

-- for i ≥ 1, the letter of a permutation w at place i is at least 1; if i is after the end of w, this letter is i
pub letter_counts : (w : List ℕ) (i : ℕ) → IsOneLine w → 1 ≤ i → 1 ≤ letter w i
letter_counts w i o h = at w (i - 1) (λ a m. (o.letters a m).0)
  where
    at : (v : List ℕ) (j : ℕ) → ((a : ℕ) → Among a v → 1 ≤ a) → 1 ≤ get_or v j i
    at [] j g = h
    at (x ∷ v) zero g = g x (inl refl)
    at (x ∷ v) (suc j) g = at v j (λ a m. g a (inr m))

pub letter_within : (v : List ℕ) (i : ℕ) → IsOneLine v → i ≤ length v → letter v i ≤ length v
letter_within v i o h = elim (cases_lt (i - 1) (length v)) [
  | inl l ↦
      let d = get_or_default v (i - 1) i 0 l in
      let m = (o.letters (get_or v (i - 1) 0) (among_get (i - 1) 0 v l)).1 in
      omega arith
  | inr l ↦ let p = get_or_past v (i - 1) i l in omega arith
]

descent_within : (v : List ℕ) → last_descent_place v ≤ length v
descent_within v = by (last_descent v) refl
  where
    by : (o : Option ℕ) → last_descent v ≡ o → unwrap_or o 0 ≤ length v
    by None e = omega arith
    by (Some r) e = let f = last_descent_is v (Some r) e in let f1 = f.1 in let f2 = f.2 in omega arith

below_two : (n a b x y : ℕ) → a < b → x < n → a * n + x < b * n + y
below_two n a b x y h k = omega (arith, mul-le-mul_left n h)

pub rank_lower : (n : ℕ) (v w : List ℕ) → IsOneLine v → length v < n → IsLower v w → rank n v < rank n w
rank_lower n v w o h (inl l) =
    let d = descent_within v in
    let c = letter_within v (last_descent_place v) o d in
    below_two n (inversions v * n + last_descent_place v) (inversions w * n + last_descent_place w) (letter v (last_descent_place v)) (letter w (last_descent_place w))
    (below_two n (inversions v) (inversions w) (last_descent_place v) (last_descent_place w) l (omega arith)) (omega arith)
rank_lower n v w o h (inr (e, inl l)) =
    let d = descent_within v in
    let c = letter_within v (last_descent_place v) o d in
    below_two n (inversions v * n + last_descent_place v) (inversions w * n + last_descent_place w) (letter v (last_descent_place v)) (letter w (last_descent_place w))
    (let p = ap (λ i. i * n) e in omega arith) (omega arith)
rank_lower n v w o h (inr (e, inr (f, l))) = search rules
