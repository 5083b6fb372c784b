-- The first n entries of a list, with zeros for missing entries: `resize n` of specs/Polynomial, entry by entry.
use Rattle.std.proofs.Common.{◌≡◌, ◌⊎◌, ℕ, zero, suc, ◌+◌, ◌≤◌, List, [], ◌∷◌, ◌++◌, length, get_or, sym, ap, subst, refl, inl, inr, arith, rules}
use Rattle.sym_model.specs.Sum.{Among}
use Rattle.sym_model.specs.Polynomial.{resize}
use Rattle.sym_model.specs.Partition.{Falls, IsPartition, size, sorted_parts}
use Rattle.sym_model.proofs.Exponents.{resize-nil}
use Rattle.sym_model.proofs.Parts.{size-append, Falls-zeros}
use Rattle.sym_model.proofs.SortedParts.{insert_part-front, IsPartition_tail}
use Rattle.sym_model.proofs.Sums.{Among_from_append}

pub resize-next : (n : ℕ) (xs : List ℕ) → resize (suc n) xs ≡ resize n xs ++ get_or xs n 0 ∷ []
resize-next zero [] = refl
resize-next zero (a ∷ xs) = refl
resize-next (suc n) [] = ap (λ l. 0 ∷ l) (resize-next n [])
resize-next (suc n) (a ∷ xs) = ap (λ l. a ∷ l) (resize-next n xs)

pub size-resize_next : (n : ℕ) (xs : List ℕ) → size (resize (suc n) xs) ≡ size (resize n xs) + get_or xs n 0
size-resize_next n xs = omega (arith, ap size (resize-next n xs), size-append (resize n xs) (get_or xs n 0 ∷ []))

pub Falls-resize : (n : ℕ) (xs : List ℕ) → Falls xs → Falls (resize n xs)
Falls-resize zero xs f = tt
Falls-resize (suc n) [] f = subst Falls (sym (resize-nil (suc n))) (Falls-zeros (suc n))
Falls-resize (suc zero) (a ∷ xs) f = tt
Falls-resize (suc (suc n)) (a ∷ []) f = (omega arith, Falls-resize (suc n) [] tt)
Falls-resize (suc (suc n)) (a ∷ b ∷ xs) f = (f.0, Falls-resize (suc n) (b ∷ xs) f.1)

pub next-resize : (n : ℕ) (xs : List ℕ) (a : ℕ) → Falls xs → Among a (resize n xs) → get_or xs n 0 ≤ a
next-resize zero xs a f m = absurd m
next-resize (suc n) [] a f m = omega arith
next-resize (suc n) (b ∷ []) a f m = omega arith
next-resize (suc zero) (b ∷ c ∷ xs) a f (inl e) = omega (arith, e, f.0)
next-resize (suc zero) (b ∷ c ∷ xs) a f (inr m) = absurd m
next-resize (suc (suc n)) (b ∷ c ∷ xs) a f (inl e) = omega (arith, e, f.0, next-resize (suc n) (c ∷ xs) c f.1 (inl refl))
next-resize (suc (suc n)) (b ∷ c ∷ xs) a f (inr m) = next-resize (suc n) (c ∷ xs) a f.1 m

pub last-resize : (n : ℕ) (xs : List ℕ) (a : ℕ) → Falls xs → Among a (resize (suc n) xs) → get_or xs n 0 ≤ a
last-resize n xs a f m =
    by (Among_from_append a (resize n xs) (get_or xs n 0 ∷ []) (subst (Among a) (resize-next n xs) m))
  where
    by : Among a (resize n xs) ⊎ Among a (get_or xs n 0 ∷ []) → get_or xs n 0 ≤ a
    by (inl m) = next-resize n xs a f m
    by (inr (inl e)) = omega arith
    by (inr (inr m)) = absurd m

pub sorted_parts-resize : (n : ℕ) (parts : List ℕ) → IsPartition parts → length parts ≤ n → sorted_parts (resize n parts) ≡ parts
sorted_parts-resize zero [] p h = refl
sorted_parts-resize zero (a ∷ parts) p h = absurd (omega arith)
sorted_parts-resize (suc n) [] p h = sorted_parts-resize n [] p (omega arith)
sorted_parts-resize (suc n) (a ∷ parts) p h =
    search (rules, insert_part-front, (sorted_parts-resize n parts (IsPartition_tail a parts p) (omega arith)))
