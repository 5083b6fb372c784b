-- The factors of a product are a list of 2 to 8 partitions. Here one more factor is appended to such a list.
use Rattle.std.proofs.Common.{◌≡◌, ℕ, ◌+◌, ◌≤◌, ◌<◌, ◌⊎◌, inl, inr, List, [], ◌∷◌, ◌++◌, length, length-append, sym, subst, arith}
use Rattle.sym_model.specs.Sum.{Among}
use Rattle.sym_model.specs.Partition.{IsPartition, size, rows}
use Rattle.partitions.specs.FactorList.{AreTooBig, HasSums, cells_of, rows_of}
use Rattle.sym_model.proofs.Parts.{size-map_push}

more_partitions : (shapes : List (List ℕ)) (next : List ℕ)
    → ((parts : List ℕ) → Among parts shapes → IsPartition parts) → IsPartition next
    → (parts : List ℕ) → Among parts (shapes ++ next ∷ []) → IsPartition parts
more_partitions [] next are is parts (inl e) = subst (λ (p : List ℕ). IsPartition p) (sym e) is
more_partitions [] next are is parts (inr none) = absurd none
more_partitions (shape ∷ shapes) next are is parts (inl e) = are parts (inl e)
more_partitions (shape ∷ shapes) next are is parts (inr later) =
    more_partitions shapes next (λ p among. are p (inr among)) is parts later

pub not_more : (a b : ℕ) → (b < a → ⊥) → a ≤ b
not_more a b h = omega (arith, h)

-- let `shapes` be fewer than 8 factors that have `cells` cells and `many` rows in all. If they are not too big (`AreTooBig`) after the partition
-- `next` is appended, the new list is a list of factors with cells + size next cells and many + rows next rows in all.
pub HasSums-grown : (shapes items : List (List ℕ)) (next : List ℕ) (cells many a b : ℕ) → HasSums shapes cells many → IsPartition next
    → length shapes < 8 → (AreTooBig (shapes ++ next ∷ []) → ⊥) → items ≡ shapes ++ next ∷ [] → a ≡ size next → b ≡ rows next
    → HasSums items (cells + a) (many + b)
HasSums-grown shapes items next cells many a b had is room small e cells_are rows_are = rw e (record {
  factors = record {
    least = let e = length-append shapes (next ∷ []) in let h = had.factors.least in omega arith;
    most = let e = length-append shapes (next ∷ []) in omega arith;
    small = record {
      partitions = more_partitions shapes next had.factors.small.partitions is;
      cells = not_more (cells_of (shapes ++ next ∷ [])) 4096 (λ h. small (inl h));
      rows = not_more (rows_of (shapes ++ next ∷ [])) 512 (λ h. small (inr h));
    };
  };
  cells_are = let e = size-map_push size shapes next in omega (arith, had.cells_are);
  rows_are = let e = size-map_push rows shapes next in omega (arith, had.rows_are);
})

-- let `shapes` have `cells` cells and `many` rows in all. After `next` is appended, they are too big (`AreTooBig`) if and only if cells + size next
-- exceeds 4096 or many + rows next exceeds 512.
pub AreTooBig-grown : (shapes : List (List ℕ)) (next : List ℕ) (cells many a b : ℕ) → HasSums shapes cells many
    → a ≡ size next → b ≡ rows next
    → (AreTooBig (shapes ++ next ∷ []) → (4096 < cells + a) ⊎ (512 < many + b))
    × ((4096 < cells + a) ⊎ (512 < many + b) → AreTooBig (shapes ++ next ∷ []))
AreTooBig-grown shapes next cells many a b had cells_are rows_are =
    let c : cells_of (shapes ++ next ∷ []) ≡ cells + a = let e = size-map_push size shapes next in omega (arith, had.cells_are) in
    let r : rows_of (shapes ++ next ∷ []) ≡ many + b = let e = size-map_push rows shapes next in omega (arith, had.rows_are) in (
      λ big. elim big [ inl h ↦ inl (omega arith) | inr h ↦ inr (omega arith) ],
      λ big. elim big [ inl h ↦ inl (omega arith) | inr h ↦ inr (omega arith) ],
    )
