-- The lengths of the columns of a partition, computed one after another.
use Rattle.std.proofs.Common.{◌≡◌, ℕ, ◌+◌, ◌≤◌, List, [], ◌∷◌, ◌++◌, map, sym, ap, ap₂, ◌∙◌, arith}
use Rattle.std.proofs.lemmas.List.{map-append}
use Rattle.sym_model.specs.Partition.{columns, after}
use Rattle.sym_model.specs.Conjugate.{count_from, conjugate}
use Rattle.sym_model.proofs.AfterLists.{after-more}
use Rattle.sym_model.proofs.Conjugates.{IsPartition-conjugate, rows-conjugate, size-conjugate}
use Rattle.partitions.specs.Limits.{IsWithinLimits}

pub IsWithinLimits-conjugate : (parts : List ℕ) → IsWithinLimits parts → columns parts ≤ 512 → IsWithinLimits (conjugate parts)
IsWithinLimits-conjugate parts h few = record {
  partition = IsPartition-conjugate parts h.partition.falls;
  few = omega (arith, rows-conjugate parts);
  small = omega (arith, size-conjugate parts h.partition.falls, h.small);
}

pub map_after-more : (f : ℕ → ℕ) (k : ℕ) → map f (after 0 (k + 1)) ≡ map f (after 0 k) ++ f (k + 1) ∷ []
map_after-more f k =
    let e : 0 + k + 1 ≡ k + 1 = omega arith in
    ap (map f) (after-more 0 k) ∙ map-append f (after 0 k) ((0 + k + 1) ∷ []) ∙ ap (λ n. map f (after 0 k) ++ f n ∷ []) e

pub counts-more :
    (parts items new : List ℕ) (k count : ℕ) → items ≡ map (λ j. count_from j parts) (after 0 k)
    → count ≡ count_from (k + 1) parts → new ≡ items ++ count ∷ []
    → new ≡ map (λ j. count_from j parts) (after 0 (k + 1))
counts-more parts items new k count e f g =
    g ∙ ap₂ (λ l n. l ++ n ∷ []) e f ∙ sym (map_after-more (λ j. count_from j parts) k)
