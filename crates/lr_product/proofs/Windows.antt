-- Sums over ranges of numbers as differences of the sums of the first numbers of a list.
use Rattle.std.proofs.Common.{◌≡◌, ℕ, zero, suc, ◌+◌, ◌-◌, ◌<◌, ◌≤◌, max, List, [], ◌∷◌, ◌++◌, length, map, drop, get_or, refl, sym, ap, ap₂, ◌∙◌, arith}
use Rattle.std.proofs.lemmas.List.{map-append}
use Rattle.sym_model.specs.Sum.{sum_by}
use Rattle.lr_product.specs.Extension.{numbers_from}
use Rattle.lr_product.specs.LastRows.{missing, chain_end, chains, sums_from}
use Rattle.lr_product.specs.RowExtension.{least_left}

pub numbers-split : (X : ℕ → ℕ) (low a b : ℕ) → sum_by X (numbers_from low (a + b)) ≡ sum_by X (numbers_from low a) + sum_by X (numbers_from (low + a) b)
numbers-split X low zero b =
    let e : 0 + b ≡ b = omega arith in let d : low + 0 ≡ low = omega arith in
    let g : sum_by X (numbers_from low b) ≡ 0 + sum_by X (numbers_from low b) = omega arith in
    ap (λ k. sum_by X (numbers_from low k)) e ∙ g ∙ ap (λ x. 0 + sum_by X (numbers_from x b)) (sym d)
numbers-split X low (suc a) b =
    let e : suc a + b ≡ suc (a + b) = omega arith in
    let d : (low + 1) + a ≡ low + suc a = omega arith in
    let i = numbers-split X (low + 1) a b in
    let g : X low + (sum_by X (numbers_from (low + 1) a) + sum_by X (numbers_from (low + 1 + a) b)) ≡ X low + sum_by X (numbers_from (low + 1) a) + sum_by X (numbers_from (low + 1 + a) b) = omega arith in
    ap (λ k. sum_by X (numbers_from low k)) e ∙ ap (λ y. X low + y) i ∙ g ∙ ap (λ x. X low + sum_by X (numbers_from (low + 1) a) + sum_by X (numbers_from x b)) d

length-mapped : (X : ℕ → ℕ) (low k : ℕ) → length (map X (numbers_from low k)) ≡ k
length-mapped X low zero = refl
length-mapped X low (suc k) = ap suc (length-mapped X (low + 1) k)

numbers-next : (low k : ℕ) → numbers_from low (k + 1) ≡ numbers_from low k ++ (low + k) ∷ []
numbers-next low zero = let e : 0 + 1 ≡ 1 = omega arith in let d : low ≡ low + 0 = omega arith in ap (numbers_from low) e ∙ ap (λ x. x ∷ []) d
numbers-next low (suc k) =
    let e : suc k + 1 ≡ suc (k + 1) = omega arith in
    let d : (low + 1) + k ≡ low + suc k = omega arith in
    ap (numbers_from low) e ∙ ap (λ l. low ∷ l) (numbers-next (low + 1) k ∙ ap (λ x. numbers_from (low + 1) k ++ x ∷ []) d)

-- the list of the values for first, .., end - 1, with one more value appended
pub map-next : (X : ℕ → ℕ) (first end y : ℕ) (items : List ℕ) → first ≤ end → items ≡ map X (numbers_from first (end - first)) → y ≡ X end
    → items ++ y ∷ [] ≡ map X (numbers_from first (end + 1 - first))
map-next X first end y items h e g =
    let d : (end - first) + 1 ≡ end + 1 - first = omega arith in
    let l : first + (end - first) ≡ end = omega arith in
    ap₂ (λ (u : List ℕ) (x : ℕ). u ++ x ∷ []) e (g ∙ ap X (sym l))
    ∙ sym (map-append X (numbers_from first (end - first)) ((first + (end - first)) ∷ []))
    ∙ ap (map X) (sym (numbers-next first (end - first)))
    ∙ ap (λ k. map X (numbers_from first k)) d

get-map : (X : ℕ → ℕ) (low k i d : ℕ) → i < k → get_or (map X (numbers_from low k)) i d ≡ X (low + i)
get-map X low zero i d h = absurd (omega arith)
get-map X low (suc k) zero d h = let e : low ≡ low + 0 = omega arith in ap X e
get-map X low (suc k) (suc i) d h = let e : (low + 1) + i ≡ low + suc i = omega arith in get-map X (low + 1) k i d (omega arith) ∙ ap X e

-- the last of the values for first, .., last
pub get-last : (X : ℕ → ℕ) (first last d : ℕ) (items : List ℕ) → first ≤ last → items ≡ map X (numbers_from first (last + 1 - first)) → get_or items (last - first) d ≡ X last
get-last X first last d items h e =
    let l : first + (last - first) ≡ last = omega arith in
    ap (λ u. get_or u (last - first) d) e ∙ get-map X first (last + 1 - first) (last - first) d (omega arith) ∙ ap X l

pub length-values : (X : ℕ → ℕ) (low k : ℕ) (items : List ℕ) → items ≡ map X (numbers_from low k) → length items ≡ k
length-values X low k items e = ap length e ∙ length-mapped X low k

pub length-sums : (a : ℕ) (xs : List ℕ) → length (sums_from a xs) ≡ length xs + 1
length-sums a [] = refl
length-sums a (x ∷ xs) = let i = length-sums (a + x) xs in omega arith

pub length-sums_of : (X : ℕ → ℕ) (first count : ℕ) (sums : List ℕ) → sums ≡ sums_from 0 (map X (numbers_from first count)) → length sums ≡ count + 1
length-sums_of X first count sums e = ap length e ∙ length-sums 0 (map X (numbers_from first count)) ∙ ap (λ k. k + 1) (length-mapped X first count)

get-sums : (X : ℕ → ℕ) (a low count i : ℕ) → i ≤ count → get_or (sums_from a (map X (numbers_from low count))) i 0 ≡ a + sum_by X (numbers_from low i)
get-sums X a low zero zero h = omega arith
get-sums X a low zero (suc i) h = absurd (omega arith)
get-sums X a low (suc count) zero h = omega arith
get-sums X a low (suc count) (suc i) h = let e = get-sums X (a + X low) (low + 1) count i (omega arith) in omega arith

pub window : (X : ℕ → ℕ) (first count low end : ℕ) (sums : List ℕ) → sums ≡ sums_from 0 (map X (numbers_from first count)) → first ≤ low → low < end → end - first < length sums
    → get_or sums (end - first) 0 - get_or sums (low - first) 0 ≡ sum_by X (numbers_from low (end - low))
window X first count low end sums e f h l =
    let n = length-sums_of X first count sums e in
    let a : get_or sums (end - first) 0 ≡ 0 + sum_by X (numbers_from first (end - first)) = ap (λ u. get_or u (end - first) 0) e ∙ get-sums X 0 first count (end - first) (omega arith) in
    let b : get_or sums (low - first) 0 ≡ 0 + sum_by X (numbers_from first (low - first)) = ap (λ u. get_or u (low - first) 0) e ∙ get-sums X 0 first count (low - first) (omega arith) in
    let p : end - first ≡ (low - first) + (end - low) = omega arith in
    let q : first + (low - first) ≡ low = omega arith in
    let c : sum_by X (numbers_from first (end - first)) ≡ sum_by X (numbers_from first (low - first)) + sum_by X (numbers_from low (end - low)) =
    ap (λ k. sum_by X (numbers_from first k)) p ∙ numbers-split X first (low - first) (end - low)
    ∙ ap (λ x. sum_by X (numbers_from first (low - first)) + sum_by X (numbers_from x (end - low))) q in
    omega arith

-- the chains with one letter more that end with k, as a sum over a range
pub next-chain : (l outside : ℕ) (μ c above : List ℕ) (t k needed low past value : ℕ) → needed ≡ l + outside + missing (t + 1) μ c
    → low ≡ max (max (least_left l t k c) (k - (get_or μ t 0 - get_or c t 0))) (needed - k) → past ≡ chain_end l μ c t k above
    → value ≡ sum_by (λ x. chains l outside μ c t x (drop 1 above)) (numbers_from low (past - low)) → value ≡ chains l outside μ c (t + 1) k above
next-chain l outside μ c above t k needed low past value n p q v =
    let one : suc t ≡ t + 1 = omega arith in
    let m : needed ≡ l + outside + missing (suc t) μ c = n ∙ ap (λ i. l + outside + missing i μ c) (sym one) in
    v
    ∙ ap₂ (λ (x y : ℕ). sum_by (λ z. chains l outside μ c t z (drop 1 above)) (numbers_from x (y - x)))
    (p ∙ ap (λ y. max (max (least_left l t k c) (k - (get_or μ t 0 - get_or c t 0))) (y - k)) m) q
    ∙ ap (λ i. chains l outside μ c i k above) one
