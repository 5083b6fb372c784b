-- From partitions to beta lists and back. The beta list of a partition λ with at most k parts is λ_1 + k - 1, λ_2 + k - 2, .., λ_k; the partition of
-- a beta list is found by subtracting from each entry the number of entries after it.
--     beta_strict            the beta list of a decreasing list is strictly decreasing
--     from_beta-beta         the partition of the beta list of a partition is that partition
--     beta-from_beta         the beta list of the partition of a strictly decreasing list is that list
use Rattle.std.proofs.Common.{◌≡◌, ℕ, zero, suc, ◌+◌, ◌-◌, ◌<◌, ◌≤◌, List, [], ◌∷◌, ◌++◌, map, length, replicate, refl, ◌∙◌, ap, ap₂, arith, rules}
use Rattle.std.proofs.lemmas.List.{length-map}
use Rattle.sym_model.specs.Partition.{Falls, ArePositive, IsPartition, size, rows, part, after, in_front, without_last_zeros}
use Rattle.sym_model.specs.Alternant.{staircase}
use Rattle.sym_model.specs.BetaList.{beta, less_the_rest, from_beta}
use Rattle.sym_model.proofs.SortedParts.{IsPartition-without_last_zeros, size-without_last_zeros}
use Rattle.strip_laws.proofs.Strips.{falls_part}
use Rattle.beta_list_laws.specs.StrictFall.{FallsStrictly}
use Rattle.sym_model.proofs.AfterLists.{length_after}
use Rattle.sym_model.proofs.Parts.{length-without_last_zeros, get_or-without_last_zeros, in_front-positive}

pub length-beta : (k : ℕ) (parts : List ℕ) → length (beta k parts) ≡ k
length-beta k parts = length-map (after 0 k) (λ i. part parts i + (k - i)) ∙ length_after 0 k

pub map_after_ext : (f g : ℕ → ℕ) (a k : ℕ) → ((i : ℕ) → a < i → i ≤ a + k → f i ≡ g i) → map f (after a k) ≡ map g (after a k)
map_after_ext f g a zero e = refl
map_after_ext f g a (suc k) e = ap₂ ◌∷◌ (e (a + 1) (omega arith) (omega arith)) (map_after_ext f g (a + 1) k (λ i h l. e i (omega arith) (omega arith)))

map_after_shift : (f : ℕ → ℕ) (a k : ℕ) → map f (after (a + 1) k) ≡ map (λ i. f (i + 1)) (after a k)
map_after_shift f a zero = refl
map_after_shift f a (suc k) = ap (λ l. f (a + 1 + 1) ∷ l) (map_after_shift f (a + 1) k)

strict_after : (f : ℕ → ℕ) (a k : ℕ) → ((i : ℕ) → a < i → i < a + k → f (i + 1) < f i) → FallsStrictly (map f (after a k))
strict_after f a zero h = tt
strict_after f a (suc zero) h = tt
strict_after f a (suc (suc k)) h = (h (a + 1) (omega arith) (omega arith), strict_after f (a + 1) (suc k) (λ i l m. h i (omega arith) (omega arith)))

pub beta_strict : (k : ℕ) (parts : List ℕ) → Falls parts → FallsStrictly (beta k parts)
beta_strict k parts f = strict_after (λ i. part parts i + (k - i)) 0 k (λ i h l. let p = falls_part parts f i (omega arith) in omega arith)

-- ---- the beta list of a partition determines the partition

less_after : (parts : List ℕ) (a m k : ℕ) → k ≡ a + m → less_the_rest (map (λ i. part parts i + (k - i)) (after a m)) ≡ map (part parts) (after a m)
less_after parts a zero k e = refl
less_after parts a (suc m) k e = search (rules, length-map, length_after, (less_after parts (a + 1) m k (omega arith)))

pub less-beta : (k : ℕ) (parts : List ℕ) → less_the_rest (beta k parts) ≡ map (part parts) (after 0 k)
less-beta k parts = less_after parts 0 k k (omega arith)

part_next : (x : ℕ) (parts : List ℕ) (i : ℕ) → 1 ≤ i → part (x ∷ parts) (i + 1) ≡ part parts i
part_next x parts zero h = absurd (omega arith)
part_next x parts (suc i) h = search rules

parts_none : (a k : ℕ) → map (part []) (after a k) ≡ replicate k 0
parts_none a zero = refl
parts_none a (suc k) = ap (λ l. 0 ∷ l) (parts_none (a + 1) k)

parts_padded : (parts : List ℕ) (k : ℕ) → length parts ≤ k → map (part parts) (after 0 k) ≡ parts ++ replicate (k - length parts) 0
parts_padded [] k h = let e : k ≡ k - 0 = omega arith in parts_none 0 k ∙ ap (λ n. replicate n 0) e
parts_padded (x ∷ parts) zero h = absurd (omega arith)
parts_padded (x ∷ parts) (suc k) h =
    let e : k - length parts ≡ suc k - suc (length parts) = omega arith in
    ap (λ l. x ∷ l)
    (map_after_shift (part (x ∷ parts)) 0 k
    ∙ map_after_ext (λ i. part (x ∷ parts) (i + 1)) (part parts) 0 k (λ i a b. part_next x parts i (omega arith))
    ∙ parts_padded parts k (omega arith)
    ∙ ap (λ n. parts ++ replicate n 0) e)

zeros_dropped : (n : ℕ) → without_last_zeros (replicate n 0) ≡ []
zeros_dropped zero = refl
zeros_dropped (suc n) = ap (in_front 0) (zeros_dropped n)

padding_dropped : (parts : List ℕ) (n : ℕ) → ArePositive parts → without_last_zeros (parts ++ replicate n 0) ≡ parts
padding_dropped [] n p = zeros_dropped n
padding_dropped (x ∷ parts) n p = ap (in_front x) (padding_dropped parts n p.1) ∙ in_front-positive x parts p.0

pub from_beta-beta : (k : ℕ) (parts : List ℕ) → IsPartition parts → rows parts ≤ k → from_beta (beta k parts) ≡ parts
from_beta-beta k parts p h =
    ap without_last_zeros (less-beta k parts ∙ parts_padded parts k h) ∙ padding_dropped parts (k - length parts) p.positive

-- ---- each strictly decreasing list is the beta list of its partition

pub strict_tail : (a : ℕ) (b : List ℕ) → FallsStrictly (a ∷ b) → FallsStrictly b
strict_tail a [] f = tt
strict_tail a (c ∷ b) f = f.1

pub rest_within : (a : ℕ) (b : List ℕ) → FallsStrictly (a ∷ b) → length b ≤ a
rest_within a [] f = omega arith
rest_within a (c ∷ b) f = let h = rest_within c b f.1 in let l = f.0 in omega arith

less_falls : (b : List ℕ) → FallsStrictly b → Falls (less_the_rest b)
less_falls [] f = tt
less_falls (a ∷ []) f = tt
less_falls (a ∷ c ∷ b) f = let l = f.0 in (omega arith, less_falls (c ∷ b) f.1)

pub from_beta_partition : (b : List ℕ) → FallsStrictly b → IsPartition (from_beta b)
from_beta_partition b f = IsPartition-without_last_zeros (less_the_rest b) (less_falls b f)

pub length-less : (b : List ℕ) → length (less_the_rest b) ≡ length b
length-less [] = refl
length-less (a ∷ b) = ap suc (length-less b)

pub rows-from_beta : (b : List ℕ) → rows (from_beta b) ≤ length b
rows-from_beta b = let e = length-without_last_zeros (less_the_rest b) in let l = length-less b in omega arith

pub part-from_beta : (b : List ℕ) (i : ℕ) → part (from_beta b) i ≡ part (less_the_rest b) i
part-from_beta b i = get_or-without_last_zeros (less_the_rest b) (i - 1)

beta_less : (b : List ℕ) (k : ℕ) → FallsStrictly b → length b ≡ k → map (λ i. part (less_the_rest b) i + (k - i)) (after 0 k) ≡ b
beta_less [] zero f e = refl
beta_less [] (suc k) f e = absurd (omega arith)
beta_less (a ∷ b) zero f e = absurd (omega arith)
beta_less (a ∷ b) (suc k) f e =
    let h = rest_within a b f in
    ap₂ ◌∷◌ (first h)
    (map_after_shift (λ i. part (less_the_rest (a ∷ b)) i + (suc k - i)) 0 k
    ∙ map_after_ext (λ i. part (less_the_rest (a ∷ b)) (i + 1) + (suc k - (i + 1))) (λ i. part (less_the_rest b) i + (k - i)) 0 k (λ i l m.
    let p = part_next (a - length b) (less_the_rest b) i (omega arith) in omega arith)
    ∙ beta_less b k (strict_tail a b f) (omega arith))
  where
    first : length b ≤ a → part (less_the_rest (a ∷ b)) (0 + 1) + (suc k - (0 + 1)) ≡ a
    first h = omega arith

pub beta-from_beta : (b : List ℕ) → FallsStrictly b → beta (length b) (from_beta b) ≡ b
beta-from_beta b f = search (rules, map_after_ext, part-from_beta, beta_less)

size-less : (b : List ℕ) → FallsStrictly b → size b ≡ size (less_the_rest b) + size (staircase (length b))
size-less [] f = refl
size-less (a ∷ b) f = search (rules, strict_tail, rest_within, (size-less b (strict_tail a b f)))

pub size-from_beta : (b : List ℕ) → FallsStrictly b → size b ≡ size (from_beta b) + size (staircase (length b))
size-from_beta b f = let e = size-less b f in let d = size-without_last_zeros (less_the_rest b) in omega arith

pub size-beta : (k : ℕ) (parts : List ℕ) → IsPartition parts → rows parts ≤ k → size (beta k parts) ≡ size parts + size (staircase k)
size-beta k parts p h = search (rules, size-from_beta, beta_strict, from_beta-beta, length-beta)
