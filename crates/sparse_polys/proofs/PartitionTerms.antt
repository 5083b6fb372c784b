-- The partitions of d listed one after another, as the labels of terms with the coefficient 1.
use Rattle.std.proofs.Common.{◌≡◌, ℕ, ◌≤◌, List, [], ◌∷◌, ◌++◌, sym, ◌∙◌, ap, subst, inl, inr, arith, append_assoc}
use Rattle.std.specs.Prelude.{Option, Some}
use Rattle.std.specs.Option.{option_to_list}
use Rattle.sym_model.specs.Sum.{Among, Once}
use Rattle.sym_model.specs.Partition.{IsPartition, size}
use Rattle.sym_model.specs.PartitionList.{partitions_of}
use Rattle.sym_model.proofs.SortedParts.{rows_within_size}
use Rattle.sym_model.proofs.PartitionLists.{partitions_of-tells}
use Rattle.partitions.specs.Limits.{IsWithinLimits}
use Rattle.linear_combinations.proofs.Gains.{next_among}

pub listed_on : (before old new all : List (List ℕ)) (item : Option (List ℕ)) (label : List ℕ) → before ++ old ≡ all
    → old ≡ option_to_list item ++ new → item ≡ Some label → before ++ (label ∷ new) ≡ all
listed_on before old new all item label e next current =
    ap (λ t. before ++ t) (ap (λ o. option_to_list o ++ new) (sym current) ∙ sym next) ∙ e

pub listed_partition : (before new : List (List ℕ)) (d : ℕ) (label : List ℕ) → before ++ (label ∷ new) ≡ partitions_of d → IsPartition label × (size label ≡ d)
listed_partition before new d label e =
    let P : List (List ℕ) → Type 0 = λ l. Among label l in
    let t = partitions_of-tells d label (subst P e (next_among before label new)) in (t.0, t.1)

pub IsWithinLimits-low : (parts : List ℕ) → IsPartition parts → size parts ≤ 512 → IsWithinLimits parts
IsWithinLimits-low parts p h = record { partition = p; few = let r = rows_within_size parts p.positive in omega arith; small = omega arith }

pub IsWithinLimits-listed : (before new : List (List ℕ)) (d : ℕ) (label : List ℕ) → d ≤ 512 → before ++ (label ∷ new) ≡ partitions_of d → IsWithinLimits label
IsWithinLimits-listed before new d label h e =
    let t = listed_partition before new d label e in
    let s = t.1 in
    IsWithinLimits-low label t.0 (omega arith)

pub once_before : {A : Type 0} (before new : List A) (label : A) → Once (before ++ (label ∷ new)) → Among label before → ⊥
once_before [] new label o m = m
once_before (l ∷ before) new label o (inl e) = o.0 (subst (λ x. Among x (before ++ (label ∷ new))) e (next_among before label new))
once_before (l ∷ before) new label o (inr m) = once_before before new label o.1 m

pub listed_next : (before new all : List (List ℕ)) (label : List ℕ) → before ++ (label ∷ new) ≡ all → (before ++ label ∷ []) ++ new ≡ all
listed_next before new all label e = append_assoc before (label ∷ []) new ∙ e
