-- Lists with each entry x replaced by n - x, and the beta list of the complement of a partition.
--     flipped            the list with each entry x replaced by n - x
--     shape-complement   the complement of a partition with at most k rows and n columns is one
--     beta-complement    its beta list is that of the partition, flipped and reversed
use Rattle.std.proofs.Common.{◌≡◌, ℕ, zero, suc, ◌+◌, ◌-◌, ◌<◌, ◌≤◌, List, [], ◌∷◌, ◌++◌, map, length, reverse, get_or, refl, sym, ◌∙◌, ap, ap₂, arith}
use Rattle.std.proofs.lemmas.List.{length-reverse, length-map, get_or-map, get_or-reverse, map-append}
use Rattle.std.proofs.lemmas.Grind.{reverse_onto}
use Rattle.sym_model.specs.Bounded.{AreAtMost}
use Rattle.sym_model.specs.Partition.{Falls, columns}
use Rattle.sym_model.specs.Polynomial.{join, resize}
use Rattle.sym_model.specs.Alternant.{staircase}
use Rattle.sym_model.proofs.Exponents.{length-resize}
use Rattle.sym_model.proofs.Parts.{length-staircase, length-without_last_zeros}
use Rattle.sym_model.proofs.SortedParts.{IsPartition-without_last_zeros}
use Rattle.strip_laws.proofs.Strips.{falls_get}
use Rattle.tableau_laws.proofs.ColumnCounts.{falling-resize}
use Rattle.alternant_laws.proofs.FallingAlternants.{falls_from_test, join_padded, resize-without_last_zeros}
use Rattle.alternant_laws.proofs.StraightShapes.{same_places}
use Rattle.product_laws.proofs.Straightened.{IsShape}
use Rattle.complement_laws.specs.Complement.{complement}

abbrev pub flipped : ℕ → List ℕ → List ℕ
flipped n α = map (λ x. n - x) α

pub length-flipped : (n : ℕ) (α : List ℕ) → length (flipped n α) ≡ length α
length-flipped n α = length-map α (λ x. n - x)

pub flipped-join : (n m : ℕ) (α β : List ℕ) → length α ≡ length β → AreAtMost n α → AreAtMost m β
    → join (flipped n α) (flipped m β) ≡ flipped (n + m) (join α β)
flipped-join n m [] [] e p q = refl
flipped-join n m [] (b ∷ β) e p q = absurd (omega arith)
flipped-join n m (a ∷ α) [] e p q = absurd (omega arith)
flipped-join n m (a ∷ α) (b ∷ β) e p q =
    let h = p.0 in
    let g = q.0 in
    let f : (n - a) + (m - b) ≡ (n + m) - (a + b) = omega arith in
    ap₂ ◌∷◌ f (flipped-join n m α β (omega arith) p.1 q.1)

pub flipped_twice : (n : ℕ) (α : List ℕ) → AreAtMost n α → flipped n (flipped n α) ≡ α
flipped_twice n [] p = refl
flipped_twice n (a ∷ α) p = let h = p.0 in let e : n - (n - a) ≡ a = omega arith in ap₂ ◌∷◌ e (flipped_twice n α p.1)

-- ---- lists with entries up to a bound

pub at_most-join : (n m : ℕ) (α β : List ℕ) → length α ≡ length β → AreAtMost n α → AreAtMost m β → AreAtMost (n + m) (join α β)
at_most-join n m [] [] e p q = tt
at_most-join n m [] (b ∷ β) e p q = absurd (omega arith)
at_most-join n m (a ∷ α) [] e p q = absurd (omega arith)
at_most-join n m (a ∷ α) (b ∷ β) e p q = let h = p.0 in let g = q.0 in (omega arith, at_most-join n m α β (omega arith) p.1 q.1)

pub at_most_by_places : (n : ℕ) (α : List ℕ) → ((i : ℕ) → get_or α i 0 ≤ n) → AreAtMost n α
at_most_by_places n [] h = tt
at_most_by_places n (a ∷ α) h = (h 0, at_most_by_places n α (λ i. h (suc i)))

pub places_at_most : (n : ℕ) (α : List ℕ) → AreAtMost n α → (i : ℕ) → get_or α i 0 ≤ n
places_at_most n [] p i = omega arith
places_at_most n (a ∷ α) p zero = p.0
places_at_most n (a ∷ α) p (suc i) = places_at_most n α p.1 i

staircase_up_to : (m k : ℕ) → k ≤ suc m → AreAtMost m (staircase k)
staircase_up_to m zero h = tt
staircase_up_to m (suc k) h = (omega arith, staircase_up_to m k (omega arith))

pub staircase_at_most : (k : ℕ) → AreAtMost (k - 1) (staircase k)
staircase_at_most k = staircase_up_to (k - 1) k (omega arith)

staircase_at : (k i : ℕ) → i < k → get_or (staircase k) i 0 + suc i ≡ k
staircase_at zero i h = absurd (omega arith)
staircase_at (suc k) zero h = omega arith
staircase_at (suc k) (suc i) h = let e = staircase_at k i (omega arith) in omega arith

falls_at_most : (n : ℕ) (α : List ℕ) → Falls α → get_or α 0 0 ≤ n → AreAtMost n α
falls_at_most n [] f h = tt
falls_at_most n (a ∷ []) f h = (h, tt)
falls_at_most n (a ∷ b ∷ α) f h = let g = f.0 in (h, falls_at_most n (b ∷ α) f.1 (omega arith))

first-resize : (k : ℕ) (parts : List ℕ) → get_or (resize k parts) 0 0 ≤ columns parts
first-resize zero parts = omega arith
first-resize (suc k) [] = omega arith
first-resize (suc k) (a ∷ parts) = omega arith

falls-resize : (k : ℕ) (parts : List ℕ) → Falls parts → Falls (resize k parts)
falls-resize k parts f = falls_from_test (resize k parts) (falling-resize k parts f)

pub resize_at_most : (k n : ℕ) (parts : List ℕ) → Falls parts → columns parts ≤ n → AreAtMost n (resize k parts)
resize_at_most k n parts f h =
    let e = first-resize k parts in
    falls_at_most n (resize k parts) (falls-resize k parts f) (omega arith)

-- ---- reversed lists

-- entry i of the reversed flipped list
turned_at : (n k i : ℕ) (α : List ℕ) → length α ≡ k → i < k → get_or (reverse (flipped n α)) i 0 ≡ n - get_or α (k - 1 - i) 0
turned_at n k i α e h =
    let l = length-flipped n α in
    let r = get_or-reverse (flipped n α) i 0 (omega arith) in
    let j : length (flipped n α) - 1 - i ≡ k - 1 - i = omega arith in
    r ∙ ap (λ p. get_or (flipped n α) p 0) j ∙ get_or-map (λ x. n - x) α (k - 1 - i) 0 0 (omega arith)

length-turned : (n k : ℕ) (α : List ℕ) → length α ≡ k → length (reverse (flipped n α)) ≡ k
length-turned n k α e = length-reverse (flipped n α) ∙ length-flipped n α ∙ e

falls_by_places : (α : List ℕ) → ((i : ℕ) → suc i < length α → get_or α (suc i) 0 ≤ get_or α i 0) → Falls α
falls_by_places [] h = tt
falls_by_places (a ∷ []) h = tt
falls_by_places (a ∷ b ∷ α) h = (h 0 (omega arith), falls_by_places (b ∷ α) (λ i l. h (suc i) (omega arith)))

falls-turned : (n k : ℕ) (α : List ℕ) → length α ≡ k → Falls α → Falls (reverse (flipped n α))
falls-turned n k α e f = falls_by_places (reverse (flipped n α)) (λ i l.
    let z = length-turned n k α e in
    let a = turned_at n k (suc i) α e (omega arith) in
    let b = turned_at n k i α e (omega arith) in
    let c = falls_get α f (k - 1 - suc i) in
    let j : suc (k - 1 - suc i) ≡ k - 1 - i = omega arith in
    let d : get_or α (suc (k - 1 - suc i)) 0 ≡ get_or α (k - 1 - i) 0 = ap (λ p. get_or α p 0) j in
    omega arith)

pub staircase-turned : (k : ℕ) → reverse (flipped (k - 1) (staircase k)) ≡ staircase k
staircase-turned k =
    let s = length-staircase k in
    let z = length-turned (k - 1) k (staircase k) s in
    same_places (reverse (flipped (k - 1) (staircase k))) (staircase k) (z ∙ sym s) (λ i h.
    let a = turned_at (k - 1) k i (staircase k) s (omega arith) in
    let b = staircase_at k (k - 1 - i) (omega arith) in
    let c = staircase_at k i (omega arith) in
    omega arith)

pub flipped-reversed : (n : ℕ) (α : List ℕ) → flipped n (reverse α) ≡ reverse (flipped n α)
flipped-reversed n [] = refl
flipped-reversed n (a ∷ α) =
    ap (flipped n) (reverse_onto α a [])
    ∙ map-append (λ x. n - x) (reverse α) (a ∷ [])
    ∙ ap (λ l. l ++ ((n - a) ∷ [])) (flipped-reversed n α)
    ∙ sym (reverse_onto (flipped n α) (n - a) [])

join-last : (α β : List ℕ) (a b : ℕ) → length α ≡ length β → join (α ++ (a ∷ [])) (β ++ (b ∷ [])) ≡ join α β ++ ((a + b) ∷ [])
join-last [] [] a b e = refl
join-last [] (d ∷ β) a b e = absurd (omega arith)
join-last (c ∷ α) [] a b e = absurd (omega arith)
join-last (c ∷ α) (d ∷ β) a b e = ap (λ l. (c + d) ∷ l) (join-last α β a b (omega arith))

join-reversed : (α β : List ℕ) → length α ≡ length β → join (reverse α) (reverse β) ≡ reverse (join α β)
join-reversed [] [] e = refl
join-reversed [] (b ∷ β) e = absurd (omega arith)
join-reversed (a ∷ α) [] e = absurd (omega arith)
join-reversed (a ∷ α) (b ∷ β) e =
    let l = length-reverse α in
    let m = length-reverse β in
    ap₂ join (reverse_onto α a []) (reverse_onto β b [])
    ∙ join-last (reverse α) (reverse β) a b (omega arith)
    ∙ ap (λ l. l ++ ((a + b) ∷ [])) (join-reversed α β (omega arith))
    ∙ sym (reverse_onto (join α β) (a + b) [])

-- ---- the complement of a partition

pub shape-complement : (k n : ℕ) (parts : List ℕ) → IsShape k parts → IsShape k (complement k n parts)
shape-complement k n parts p =
    let α = resize k parts in
    let l = length-turned n k α (length-resize k parts) in
    let m = length-without_last_zeros (reverse (flipped n α)) in
    record {
      partition = IsPartition-without_last_zeros (reverse (flipped n α)) (falls-turned n k α (length-resize k parts) (falls-resize k parts p.partition.falls));
      few = omega arith;
    }

pub beta-complement : (k n : ℕ) (parts : List ℕ) → IsShape k parts → columns parts ≤ n
    → join (complement k n parts) (staircase k) ≡ reverse (flipped (n + (k - 1)) (join parts (staircase k)))
beta-complement k n parts p h =
    let α = resize k parts in
    let ρ = staircase k in
    let q = shape-complement k n parts p in
    let e = length-resize k parts in
    let s = length-staircase k in
    sym (join_padded k (complement k n parts) q.few)
    ∙ ap₂ join (resize-without_last_zeros k (reverse (flipped n α)) (length-turned n k α e)) (sym (staircase-turned k))
    ∙ join-reversed (flipped n α) (flipped (k - 1) ρ) (length-flipped n α ∙ e ∙ sym s ∙ sym (length-flipped (k - 1) ρ))
    ∙ ap reverse (flipped-join n (k - 1) α ρ (e ∙ sym s) (resize_at_most k n parts p.partition.falls h) (staircase_at_most k) ∙ ap (flipped (n + (k - 1))) (join_padded k parts p.few))
