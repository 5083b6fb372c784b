-- A Schur polynomial as a sum over the special rim hooks of its shape, the rim hooks with the first cell of its last row. The summand of a hook is
-- the product of its sign, h_k or e_k and the Schur polynomial of the remaining shape, with k the number of cells of the hook. Let the shape have d
-- cells. In the list for d! times the Schur polynomial, the absolute values of the coefficients add up to at most `grown d`, which is d!·(2d)^d. In
-- the list for d! times one summand, they add up to at most `peeled d`, which is d!·2·(2d)^(d-1).
--     hook-law         the polynomial is the sum over the hooks
--     hook-product     the summand of one hook, as a list
--     hooks-next       the sum with the summand of one more hook
--     hooks-done       the sum over all hooks
use Rattle.std.proofs.Common.{◌≡◌, ℕ, zero, suc, ◌+◌, ◌-◌, ◌*◌, ◌^◌, ◌<◌, ◌≤◌, List, [], ◌∷◌, ◌++◌, map, length, get_or, take, drop, take_all, Some, slice_get, refl, sym, ap, ap₂, ◌∙◌, subst, arith, ℤ, pos, ◌*ℤ◌, append-nil, append_assoc, pow-suc, flat_map}
use Rattle.std.specs.Prelude.{nat_abs, ◌≢◌}
use Rattle.std.proofs.lemmas.Nat.{mul-le, pow-add}
use Rattle.sym_model.specs.Polynomial.{Poly, In, Same, scale, times, plus}
use Rattle.sym_model.specs.Partition.{IsPartition, size, rows}
use Rattle.sym_model.specs.PlaceOrders.{minus_one_to}
use Rattle.sym_model.specs.Weight.{factorial}
use Rattle.sym_model.specs.WholeTerms.{WholeTerms}
use Rattle.sym_model.proofs.Polynomials.{Same_refl, Same_sym}
use Rattle.sym_model.proofs.PolynomialLaws.{scale-times}
use Rattle.sym_model.proofs.SortedParts.{rows_within_size}
use Rattle.basis_change_laws.specs.JoinedLists.{joined, Stands}
use Rattle.basis_change_laws.proofs.GrowthBounds.{grown, grown-is}
use Rattle.basis_change_laws.proofs.JoinedLists.{stands-product, stands-plus, stands-scale, stands-same, stands-weaken}
use Rattle.basis_change_laws.proofs.NewtonLists.{scale-scale}
use Rattle.expand_in_families.specs.SpecialHooks.{SpecialHook, shortened, below_row, special_hooks}
use Rattle.expand_in_families.proofs.HookShapes.{IsRest, hook_rest, hook_number}
use Rattle.expand_in_families.proofs.HookSums.{complete_sum, elementary_sum}
use Rattle.sparse_polys.specs.declared.family.Family.{Family}
use Rattle.sparse_polys.specs.declared.family.Family.TheVariants.{Elementary, Complete, PowerSum}
use Rattle.sparse_polys.specs.Families.{polynomial_of}
use Rattle.expand_in_families.specs.SchurLists.{schur_in}
use native.Mathlib.Nat.{mul-le-mul_left}
use Rattle.std.proofs.Math.Nat.{mul_comm, pow-le-pow_left}
use Rattle.family_lists.proofs.KeptLists.{among-slice}

-- ---- the special rim hook that ends in row i, counted from 0

abbrev pub hook_of : List ℕ → ℕ → SpecialHook
hook_of parts i = record {
  sign = minus_one_to (length parts - 1 - i);
  cells = get_or parts i 0 + (length parts - 1 - i);
  rest = take i parts ++ shortened (drop (i + 1) parts);
}

slice_get-map : (f : SpecialHook → SpecialHook) (hs : List SpecialHook) (i : ℕ) (h : SpecialHook) → slice_get hs i ≡ Some h → slice_get (map f hs) i ≡ Some (f h)
slice_get-map f [] i h e = cc
slice_get-map f (g ∷ hs) zero h e = let same : g ≡ h = cc in ap (λ x. Some (f x)) same
slice_get-map f (g ∷ hs) (suc i) h e = slice_get-map f hs i h e

pub hook-at : (parts : List ℕ) (i : ℕ) → i < length parts → slice_get (special_hooks parts) i ≡ Some (hook_of parts i)
hook-at [] i h = absurd (omega arith)
hook-at (a ∷ parts) zero h =
    let e : length parts ≡ suc (length parts) - 1 - 0 = omega arith in
    ap (λ m. Some (record { sign = minus_one_to m; cells = a + m; rest = shortened parts })) e
hook-at (a ∷ parts) (suc i) h =
    let e : length parts - 1 - i ≡ suc (length parts) - 1 - suc i = omega arith in
    let j : suc (i + 1) ≡ suc i + 1 = omega arith in
    slice_get-map (below_row a) (special_hooks parts) i (hook_of parts i) (hook-at parts i (omega arith))
    ∙ ap₂ (λ m k. Some (record { sign = minus_one_to m; cells = get_or parts i 0 + m; rest = a ∷ take i parts ++ shortened (drop k (a ∷ parts)) })) e j

pub hook-rest : (parts : List ℕ) (i : ℕ) → IsPartition parts → i < length parts → IsRest parts (hook_of parts i)
hook-rest parts i p h = hook_rest parts (hook_of parts i) p (among-slice (special_hooks parts) i (hook_of parts i) (hook-at parts i h))

abbrev pub hook_term : Family → ℕ → SpecialHook → Poly
hook_term family n h = scale h.sign (times (polynomial_of family h.cells n) (schur_in family h.rest n))

hook-law : (family : Family) → family ≢ PowerSum → (parts : List ℕ) → IsPartition parts → 1 ≤ rows parts → (n : ℕ) → Same (schur_in family parts n) (flat_map (hook_term family n) (special_hooks parts))
hook-law Elementary f parts p some n = elementary_sum n parts p some
hook-law Complete f parts p some n = complete_sum n parts p some
hook-law PowerSum f parts p some n = absurd (f refl)

each-more : (f : SpecialHook → Poly) (hs : List SpecialHook) (i : ℕ) (h : SpecialHook) → slice_get hs i ≡ Some h → flat_map f (take (suc i) hs) ≡ flat_map f (take i hs) ++ f h
each-more f [] i h e = cc
each-more f (g ∷ hs) zero h e = let same : g ≡ h = cc in append-nil (f g) ∙ ap f same
each-more f (g ∷ hs) (suc i) h e = ap (λ l. f g ++ l) (each-more f hs i h e) ∙ sym (append_assoc (f g) (flat_map f (take i hs)) (f h))

abbrev pub peeled : ℕ → ℕ
peeled d = factorial d * (2 * (2 * d) ^ (d - 1))

pub peeled-all : (d : ℕ) → 0 < d → d * peeled d ≡ grown d
peeled-all zero h = absurd (omega arith)
peeled-all (suc e) h =
    let one : suc e - 1 ≡ e = omega arith in
    ap (λ k. suc e * (factorial (suc e) * (2 * (2 * suc e) ^ k))) one
    ∙ grouped (suc e) (factorial (suc e)) ((2 * suc e) ^ e)
    ∙ ap (λ x. factorial (suc e) * x) (mul_comm (2 * suc e) ((2 * suc e) ^ e) ∙ sym (pow-suc (2 * suc e) e))
  where
    grouped : (d f x : ℕ) → d * (f * (2 * x)) ≡ f * (2 * d * x)
    grouped d f x = omega arith

pub peeled-part : (k s c : ℕ) → 0 < k → c * (factorial k * factorial s) ≡ factorial (k + s) → c * ((factorial k * 2 ^ k) * grown s) ≤ peeled (k + s)
peeled-part zero s c h e = absurd (omega arith)
peeled-part (suc j) s c h e =
    let d = suc j + s in
    let y = (2 * s) ^ s in
    let p = two-up j (suc j + s) (omega arith) in
    let q = pow-le-pow_left {n = (2 * s)} {m = (2 * (suc j + s))} (omega arith) s in
    let r = mul-le (2 ^ j) ((2 * s) ^ s) ((2 * (suc j + s)) ^ j) ((2 * (suc j + s)) ^ s) p q in
    let a = pow-add (2 * (suc j + s)) j s in
    let b : j + s ≡ suc j + s - 1 = omega arith in
    let u = ap (λ k. (2 * (suc j + s)) ^ k) b in
    let t : factorial (suc j + s) * (2 * (2 ^ j * (2 * s) ^ s)) ≤ factorial (suc j + s) * (2 * (2 * (suc j + s)) ^ (suc j + s - 1)) =
    mul-le-mul_left (factorial (suc j + s)) (let v : 2 * (2 ^ j * (2 * s) ^ s) ≤ 2 * (2 * (suc j + s)) ^ (suc j + s - 1) = omega arith in v) in
    let g : c * ((factorial (suc j) * (2 * 2 ^ j)) * (factorial s * (2 * s) ^ s)) ≡ factorial (suc j + s) * (2 * (2 ^ j * (2 * s) ^ s)) =
    grouped c (factorial (suc j)) (2 ^ j) (factorial s) ((2 * s) ^ s) ∙ ap (λ m. m * (2 * (2 ^ j * (2 * s) ^ s))) e in
    rw (grown-is s, pow-suc 2 j) (omega arith)
  where
    two-up : (k d : ℕ) → 1 ≤ d → 2 ^ k ≤ (2 * d) ^ k
    two-up k d h = pow-le-pow_left {n = 2} {m = (2 * d)} (omega arith) k

    grouped : (c o x v y : ℕ) → c * ((o * (2 * x)) * (v * y)) ≡ (c * (o * v)) * (2 * (x * y))
    grouped c o x v y = omega arith

module _ (P : ℕ → ℕ → Poly) (places : (n k : ℕ) → In n (P k n)) where
  pub hook-product : (k s c : ℕ) (σ z : ℤ) (f g : ℕ → Poly) (W V : WholeTerms) → 0 < k → nat_abs σ ≡ 1 → z ≡ pos c *ℤ σ → c * (factorial k * factorial s) ≡ factorial (k + s)
      → Stands P (factorial k) (factorial k * 2 ^ k) k f W → Stands P (factorial s) (grown s) s g V
      → Stands P (factorial (k + s)) (peeled (k + s)) (k + s) (λ n. scale σ (times (f n) (g n))) (joined (scale z W) V)
  hook-product k s c σ z f g W V some u zi e w v =
      let signed = stands-scale P (factorial k) (factorial k * 2 ^ k) (factorial k * 2 ^ k) k σ f W w (let m : nat_abs σ * (factorial k * 2 ^ k) ≡ 1 * (factorial k * 2 ^ k) = ap (λ x. x * (factorial k * 2 ^ k)) u in omega arith) in
      subst (λ y. Stands P (factorial (k + s)) (peeled (k + s)) (k + s) (λ n. scale σ (times (f n) (g n))) (joined (scale y W) V)) (sym zi)
      (subst (λ U. Stands P (factorial (k + s)) (peeled (k + s)) (k + s) (λ n. scale σ (times (f n) (g n))) (joined U V)) (scale-scale (pos c) σ W)
      (stands-same P (factorial (k + s)) (peeled (k + s)) (k + s) (λ n. times (scale σ (f n)) (g n)) (λ n. scale σ (times (f n) (g n))) (joined (scale (pos c) (scale σ W)) V)
      (λ n. Same_sym (scale σ (times (f n) (g n))) (times (scale σ (f n)) (g n)) (scale-times σ (f n) (g n)))
      (stands-product P places (factorial k) (factorial k * 2 ^ k) k (factorial s) (grown s) s (factorial (k + s)) (peeled (k + s)) c (λ n. scale σ (f n)) g (scale σ W) V signed v e (peeled-part k s c some e))))

-- if S is q times the sum of the summands of the first i hooks, and T is q times the summand of the next hook h, then S ++ T is q times the sum of
-- the summands of the first i + 1 hooks
pub hooks-next : (P : ℕ → ℕ → Poly) (q B d : ℕ) (f : ℕ → SpecialHook → Poly) (hs : List SpecialHook) (i : ℕ) (h : SpecialHook) (S T : WholeTerms) → slice_get hs i ≡ Some h
    → Stands P q (i * B) d (λ n. flat_map (f n) (take i hs)) S → Stands P q B d (λ n. f n h) T → Stands P q ((i + 1) * B) d (λ n. flat_map (f n) (take (i + 1) hs)) (S ++ T)
hooks-next P q B d f hs i h S T e s t =
    let j : suc i ≡ i + 1 = omega arith in
    stands-same P q ((i + 1) * B) d (λ n. plus (flat_map (f n) (take i hs)) (f n h)) (λ n. flat_map (f n) (take (i + 1) hs)) (S ++ T)
    (λ n. subst (λ g. Same (flat_map (f n) (take i hs) ++ f n h) g) (sym (each-more (f n) hs i h e) ∙ ap (λ k. flat_map (f n) (take k hs)) j) (Same_refl (flat_map (f n) (take i hs) ++ f n h)))
    (stands-plus P q (i * B) B ((i + 1) * B) d (λ n. flat_map (f n) (take i hs)) (λ n. f n h) S T s t (one_more i B))
  where
    one_more : (i x : ℕ) → i * x + x ≤ (i + 1) * x
    one_more i x = omega arith

-- let S be d! times the sum of the summands of all special rim hooks of a shape of d cells, and let the absolute values of its coefficients add up to
-- at most `peeled d` times the number of these hooks. Then S is d! times the polynomial of the shape, and the absolute values of its coefficients add
-- up to at most `grown d`
pub hooks-done : (P : ℕ → ℕ → Poly) (family : Family) → family ≢ PowerSum → (parts : List ℕ) (i : ℕ) (S : WholeTerms) → IsPartition parts → 1 ≤ length parts → length parts ≡ i
    → Stands P (factorial (size parts)) (i * peeled (size parts)) (size parts) (λ n. flat_map (hook_term family n) (take i (special_hooks parts))) S
    → Stands P (factorial (size parts)) (grown (size parts)) (size parts) (schur_in family parts) S
hooks-done P family f parts i S p some e s =
    let r = rows_within_size parts p.positive in
    let all = take_all i (special_hooks parts) (let n = hook_number parts in omega arith) in
    let m : i * peeled (size parts) ≤ size parts * peeled (size parts) = mul-le i (peeled (size parts)) (size parts) (peeled (size parts)) (omega arith) (omega arith) in
    let t = peeled-all (size parts) (omega arith) in
    stands-weaken P (factorial (size parts)) (i * peeled (size parts)) (grown (size parts)) (size parts) (size parts) (schur_in family parts) S
    (stands-same P (factorial (size parts)) (i * peeled (size parts)) (size parts) (λ n. flat_map (hook_term family n) (take i (special_hooks parts))) (schur_in family parts) S
    (λ n. subst (λ hs. Same (flat_map (hook_term family n) hs) (schur_in family parts n)) (sym all)
    (Same_sym (schur_in family parts n) (flat_map (hook_term family n) (special_hooks parts)) (hook-law family f parts p some n))) s)
    (omega arith) (omega arith)
