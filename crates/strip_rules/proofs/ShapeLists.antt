-- The partitions that result from a partition by adding strips and rim hooks of k cells.
--     horizontal_list, vertical_list, hook_list    each list has the partitions that result from adding a strip or a rim hook, each once
--     rows_around, shape_limits                    a partition with k more cells has at most k more rows
--     height_positive                              the height of a rim hook is at least 1
--     among_next                                   the next partition of a list in a loop is in the list
use Rattle.std.proofs.Common.{◌≡◌, ℕ, suc, ◌+◌, ◌≤◌, List, [], ◌∷◌, ◌++◌, get_or, refl, subst, inl, arith, rules}
use Rattle.sym_model.specs.Sum.{Among}
use Rattle.sym_model.specs.Partition.{IsPartition, ArePositive, Holds, size, rows}
use Rattle.sym_model.specs.Strip.{height}
use Rattle.sym_model.proofs.PartitionLists.{Once-FallsLexicographically}
use Rattle.sym_model.proofs.Sums.{Among-append_right}
use Rattle.strip_laws.proofs.RimHooks.{hook_rows, height_of_rows}
use Rattle.strip_laws.proofs.Containment.{Holds-get_or}
use Rattle.partitions.specs.Limits.{IsWithinLimits}
use Rattle.skew_shapes.specs.HorizontalStrips.{AreHorizontalStrips}
use Rattle.skew_shapes.specs.VerticalStrips.{AreVerticalStrips}
use Rattle.skew_shapes.specs.HookLists.{AreHooksAdded}
use Rattle.product_laws.specs.StripLists.{ListsEach, AddsHorizontalStrip, AddsVerticalStrip, AddsRimHook}

pub horizontal_list : (k : ℕ) (parts : List ℕ) (list : List (List ℕ)) → AreHorizontalStrips parts k list → ListsEach (AddsHorizontalStrip k parts) list
horizontal_list k parts list h = record { once = Once-FallsLexicographically list h.falls; members = h.members }

pub vertical_list : (k : ℕ) (parts : List ℕ) (list : List (List ℕ)) → AreVerticalStrips parts k list → ListsEach (AddsVerticalStrip k parts) list
vertical_list k parts list h = record { once = Once-FallsLexicographically list h.falls; members = h.members }

pub hook_list : (k : ℕ) (parts : List ℕ) (list : List (List ℕ)) → AreHooksAdded parts k list → ListsEach (AddsRimHook k parts) list
hook_list k parts list h = record { once = Once-FallsLexicographically list h.falls; members = h.members }

-- `outer` is a partition that contains `inner` and has k cells more
pub record IsAround (k : ℕ) (inner outer : List ℕ) : Type 0 where
  pub partition : IsPartition outer
  pub cells : size outer ≡ size inner + k
  pub holds : Holds outer inner

rows_grow : (inner outer : List ℕ) → ArePositive inner → ArePositive outer → ((j : ℕ) → get_or inner j 0 ≤ get_or outer j 0) → rows outer + size inner ≤ rows inner + size outer
rows_grow [] [] p q h = omega arith
rows_grow [] (b ∷ outer) p q h = let r = rows_grow [] outer tt q.1 (λ j. omega arith) in let s = q.0 in omega arith
rows_grow (a ∷ inner) [] p q h = absurd (let l = h 0 in let s = p.0 in omega arith)
rows_grow (a ∷ inner) (b ∷ outer) p q h = let r = rows_grow inner outer p.1 q.1 (λ j. h (suc j)) in let l = h 0 in omega arith

pub rows_around : (k : ℕ) (inner outer : List ℕ) → IsPartition inner → IsAround k inner outer → rows outer ≤ rows inner + k
rows_around k inner outer p a = search (rules, rows_grow, Holds-get_or)

pub shape_limits : (k : ℕ) (inner outer : List ℕ) → IsPartition inner → size inner + k ≤ 4096 → rows inner + k ≤ 512 → IsAround k inner outer → IsWithinLimits outer
shape_limits k inner outer p cells few a =
    let r = rows_around k inner outer p a in
    let c = a.cells in
    record { partition = a.partition; few = omega arith; small = omega arith }

pub horizontal_around : (k : ℕ) (parts : List ℕ) (list : List (List ℕ)) → ListsEach (AddsHorizontalStrip k parts) list → (ν : List ℕ) → Among ν list → IsAround k parts ν
horizontal_around k parts list h ν m = let f = (h.members ν).0 m in record { partition = f.0; cells = f.1; holds = f.2.holds }

pub vertical_around : (k : ℕ) (parts : List ℕ) (list : List (List ℕ)) → ListsEach (AddsVerticalStrip k parts) list → (ν : List ℕ) → Among ν list → IsAround k parts ν
vertical_around k parts list h ν m = let f = (h.members ν).0 m in record { partition = f.0; cells = f.1; holds = f.2.holds }

pub hook_around : (k : ℕ) (parts : List ℕ) (list : List (List ℕ)) → ListsEach (AddsRimHook k parts) list → (ν : List ℕ) → Among ν list → IsAround k parts ν
hook_around k parts list h ν m = let f = (h.members ν).0 m in record { partition = f.0; cells = f.1; holds = f.2.holds }

pub height_positive : (k : ℕ) (parts : List ℕ) (list : List (List ℕ)) → IsPartition parts → ListsEach (AddsRimHook k parts) list → (ν : List ℕ) → Among ν list → 1 ≤ height ν parts
height_positive k parts list p h ν m =
    let f = (h.members ν).0 m in
    let r = hook_rows ν parts f.0.falls p.falls f.2 in
    let e = height_of_rows ν parts r.0 r.1 f.0.falls r.2 in
    let o = r.2.ordered in
    omega arith

pub among_next : (done rest all : List (List ℕ)) (k : List ℕ) → done ++ k ∷ rest ≡ all → Among k all
among_next done rest all k e = subst (Among k) e (Among-append_right k done (k ∷ rest) (inl refl))
