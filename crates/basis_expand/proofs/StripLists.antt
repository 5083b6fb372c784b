-- The shapes that remain if a horizontal strip is removed from a shape, listed row by row.
--     none-off             no strip has more cells than the first row
--     limits-rows          the shape with given rows is within the limits
--     rows-lower           the rows are still those of a shape if one of them is made shorter, but not shorter than the next row
--     strips-none, -next   the strips by the number of their cells in the first row
use Rattle.std.proofs.Common.{◌≡◌, ℕ, zero, suc, ◌+◌, ◌-◌, ◌≤◌, ◌<◌, min, cond, List, [], ◌∷◌, ◌++◌, map, length, length-append, take, refl, sym, ◌∙◌, ap, ap₂, subst, inl, inr, arith, append_assoc, append-nil, flat_map, rules}
use Rattle.std.proofs.lemmas.Bool.{ne_eqb}
use Rattle.std.proofs.lemmas.List.{map-append}
use Rattle.sym_model.specs.Sum.{Among}
use Rattle.sym_model.specs.Partition.{Falls, IsPartition, part, in_front, without_last_zeros}
use Rattle.sym_model.proofs.Parts.{Falls-front, size-append, length-without_last_zeros, without_last_zeros-positive}
use Rattle.sym_model.proofs.SortedParts.{IsPartition-without_last_zeros, size-without_last_zeros}
use Rattle.partitions.specs.Limits.{IsWithinLimits}
use Rattle.schur_laws.specs.Kostka.{below, strips_off}
use Rattle.schur_laws.proofs.KostkaNumbers.{partition_tail, below-tells, strips_off-tell}
use Rattle.basis_expand.specs.Strips.{AreRows}
use Rattle.std.proofs.lemmas.Grind.{flat_map-append, common_steps}

each-all_none : {A B : Type 0} (f : A → List B) (xs : List A) → ((x : A) → Among x xs → f x ≡ []) → flat_map f xs ≡ []
each-all_none f [] h = refl
each-all_none f (x ∷ xs) h = ap (λ l. l ++ flat_map f xs) (h x (inl refl)) ∙ each-all_none f xs (λ y m. h y (inr m))

-- for row ∷ rest: the shapes that remain if a strip of k cells, i of them in the first row, is removed
abbrev pub with_cells : ℕ → ℕ → List ℕ → ℕ → List (List ℕ)
with_cells k row rest i = map (in_front (row - i)) (strips_off (k - i) rest)

pub none-off : (parts : List ℕ) (k : ℕ) → IsPartition parts → part parts 1 < k → strips_off k parts ≡ []
none-off [] k p h = ap (λ b. cond b ([] ∷ []) []) (ne_eqb k 0 (λ e. absurd (omega arith)))
none-off (a ∷ parts) k p h =
    let t = partition_tail a parts p in
    each-all_none (with_cells k a parts) (below (suc (min k (a - part parts 1))))
    (λ i m. ap (map (in_front (a - i)))
    (none-off parts (k - i) t.0 (let few = below-tells (suc (min k (a - part parts 1))) i m in let first = t.1 in omega arith)))

pub limits-rows : (numbers : List ℕ) → AreRows numbers → IsWithinLimits (without_last_zeros numbers)
limits-rows numbers r = search (rules, IsPartition-without_last_zeros, length-without_last_zeros, size-without_last_zeros)

falls-lower : (above rest : List ℕ) (a b : ℕ) → Falls (above ++ (a ∷ rest)) → b ≤ a → Falls (b ∷ rest) → Falls (above ++ (b ∷ rest))
falls-lower [] rest a b f h g = g
falls-lower (x ∷ []) rest a b f h g = (let l = f.0 in omega arith, g)
falls-lower (x ∷ y ∷ above) rest a b f h g = (f.0, falls-lower (y ∷ above) rest a b f.1 h g)

pub rows-lower : (above rest : List ℕ) (a b : ℕ) → IsPartition (a ∷ rest) → AreRows (above ++ (a ∷ rest)) → b ≤ a → part rest 1 ≤ b → AreRows ((above ++ b ∷ []) ++ rest)
rows-lower above rest a b p r h l = search (rules, append_assoc, falls-lower, Falls-front, partition_tail, length-append, size-append)

-- ---- the list of the shapes, by the number of cells that are removed from the first row

-- for each of `shapes`, the shape with the rows `above` and below them the rows of this shape
abbrev pub under : List ℕ → List (List ℕ) → List (List ℕ)
under above shapes = map (λ rest. without_last_zeros (above ++ rest)) shapes

without_last_zeros-in_front : (b : ℕ) (rest : List ℕ) → without_last_zeros (b ∷ rest) ≡ without_last_zeros (in_front b rest)
without_last_zeros-in_front zero [] = refl
without_last_zeros-in_front zero (c ∷ rest) = refl
without_last_zeros-in_front (suc b) rest = refl

row_between : (above : List ℕ) (b : ℕ) (rest : List ℕ) → without_last_zeros (above ++ (b ∷ rest)) ≡ without_last_zeros (above ++ in_front b rest)
row_between [] b rest = without_last_zeros-in_front b rest
row_between (x ∷ above) b rest = ap (in_front x) (row_between above b rest)

under-row : (above : List ℕ) (b : ℕ) (shapes : List (List ℕ)) → under (above ++ b ∷ []) shapes ≡ under above (map (in_front b) shapes)
under-row above b [] = refl
under-row above b (rest ∷ shapes) =
    ap₂ ◌∷◌ (ap without_last_zeros (append_assoc above (b ∷ []) rest) ∙ row_between above b rest) (under-row above b shapes)

-- no strip of k cells has fewer than `start` cells in the first row, where `start` is k minus the length of the second row, or 0 if this is
-- negative. So no shape is listed for the numbers below `start`
pub strips-none : (k row next start : ℕ) (rest above : List ℕ) (shapes : List (List ℕ)) → next ≡ part rest 1 → start ≡ k - next → IsPartition rest
    → shapes ≡ shapes ++ under above (flat_map (with_cells k row rest) (below start))
strips-none k row next start rest above shapes e s p = search (rules, append-nil, each-all_none, none-off, below-tells)

-- if the shapes with fewer than i cells removed from the first row are listed, and then those with i cells removed are appended, the shapes with
-- fewer than i + 1 cells removed are listed
pub strips-next : (k row i : ℕ) (rest above longer : List ℕ) (given old new : List (List ℕ)) → longer ≡ above ++ (row - i) ∷ []
    → old ≡ given ++ under above (flat_map (with_cells k row rest) (below i)) → new ≡ old ++ under longer (strips_off (k - i) rest)
    → new ≡ given ++ under above (flat_map (with_cells k row rest) (below (i + 1)))
strips-next k row i rest above longer given old new l h e = search (rules, under-row, append_assoc, map-append, append-nil, flat_map-append)

-- if i is one more than the greatest number of cells that can be removed from the first row, and the shapes with fewer than i cells removed from it
-- are listed, then all shapes are listed
pub strips-all : (k row i : ℕ) (rest parts above : List ℕ) (given all : List (List ℕ)) → row ∷ rest ≡ parts → i ≡ suc (min k (row - part rest 1))
    → all ≡ given ++ under above (flat_map (with_cells k row rest) (below i)) → all ≡ given ++ under above (strips_off k parts)
strips-all k row i rest parts above given all split last e = search rules

pub row_off : (above longer left rows : List ℕ) (b n : ℕ) → longer ≡ above ++ b ∷ [] → left ≡ longer → n ≡ length left → rows ≡ take (n - 1) left → rows ≡ above
row_off above longer left rows b n l s many r = grind (arith, common_steps)

pub rows-end : (above rows numbers : List ℕ) → length rows < 1 → numbers ≡ above → AreRows (above ++ rows) → AreRows numbers
rows-end above [] numbers h e r = subst AreRows (append-nil above ∙ sym e) r
rows-end above (a ∷ rows) numbers h e r = absurd (omega arith)

pub under_none : (k : ℕ) (parts : List ℕ) (all : List (List ℕ)) → IsPartition parts → all ≡ [] ++ under [] (strips_off k parts) → all ≡ strips_off k parts
under_none k parts all p e = e ∙ same (strips_off k parts) (λ rest m. (strips_off-tell k parts rest p m).partition)
  where
    same : (shapes : List (List ℕ)) → ((rest : List ℕ) → Among rest shapes → IsPartition rest) → under [] shapes ≡ shapes
    same [] h = refl
    same (rest ∷ shapes) h = ap₂ ◌∷◌ (without_last_zeros-positive rest (h rest (inl refl)).positive) (same shapes (λ r m. h r (inr m)))
