-- The list of the partitions inside a partition, sorted into the printed order.
use Rattle.std.proofs.Common.{◌≡◌, ℕ, zero, suc, ◌<◌, false, List, [], ◌∷◌, length, take, get_or, refl, sym, ap, ◌∙◌, subst, inl, inr, arith}
use Rattle.std.specs.Prelude.{IsSorted}
use Rattle.std.specs.List.{Contains, IsDistinct, AllByRecursion}
use Rattle.std.specs.List.Sorted.{IsPermutation}
use Rattle.std.specs.Ordering.{is_lt, ordering_reverse}
use Rattle.std.specs.declared.cmp.Ordering.{Ordering}
use Rattle.std.specs.declared.cmp.Ordering.TheVariants.{Less, Equal, Greater}
use Rattle.std.proofs.lemmas.Cmp.{tied_itself}
use Rattle.std.proofs.lemmas.List.Sorted.{IsPermutation-sym, Contains-permutation, ranks_by, sorted_far}
use Rattle.std.proofs.lemmas.Map.Keys.{IsDistinct-IsPermutation, apart_from_distinct}
use Rattle.sym_model.specs.Sum.{Among, Once}
use Rattle.sym_model.specs.Partition.{IsPartition}
use Rattle.sym_model.specs.Polynomial.{same}
use Rattle.sym_model.specs.PrintedOrder.{printed_order}
use Rattle.sym_model.proofs.Exponents.{same_apart, same_sym, same_from}
use Rattle.sym_model.proofs.Orders.{printed_order-equal, printed_order-total}
use Rattle.partitions.specs.Limits.{IsWithinLimits}
use Rattle.lr_coproduct.specs.InnerShapeList.{IsInPrintedOrder, ListsShapesInside}
use Rattle.lr_coproduct.proofs.InnerLists.{IsPart, partitions_inside, label_inside, part_among, among_part, once_partitions_inside}
use Rattle.lr_coproduct.proofs.Prefixes.{IsAt, at_among}

among_at : (xs : List (List ℕ)) (x : List ℕ) → Among x xs → Contains xs x
among_at [] x m = absurd m
among_at (y ∷ xs) x (inl e) = (0, omega arith, sym e)
among_at (y ∷ xs) x (inr m) = let r = among_at xs x m in (suc r.0, let l = r.1 in omega arith, r.2)

at_among_them : (xs : List (List ℕ)) (x : List ℕ) → Contains xs x → Among x xs
at_among_them xs x r = at_among xs r.0 x (record { within = r.1; is = sym r.2 })

pub moved_among : (xs ys : List (List ℕ)) → IsPermutation xs ys → (x : List ℕ) → Among x xs → Among x ys
moved_among xs ys p x m = at_among_them ys x (Contains-permutation xs ys x p (among_at xs x m))

distinct : (xs : List (List ℕ)) → Once xs → IsDistinct same xs
unfolding IsDistinct
distinct [] o = tt
distinct (x ∷ xs) o = (apart xs (λ y m. m), distinct xs o.1)
  where
    apart : (ys : List (List ℕ)) → ((y : List ℕ) → Among y ys → Among y xs) → AllByRecursion (λ y. same x y ≡ false) ys
    apart [] m = tt
    apart (y ∷ ys) m = (same_apart x y (λ e. o.0 (subst (λ z. Among z xs) (sym e) (m y (inl refl)))), apart ys (λ z k. m z (inr k)))

not_after : (x y : List ℕ) → IsPartition x → IsPartition y → same x y ≡ false → is_lt (printed_order y x) ≡ false → printed_order x y ≡ Less
not_after x y p q apart up = by (printed_order x y) refl
  where
    by : (o : Ordering) → printed_order x y ≡ o → printed_order x y ≡ Less
    by Less e = e
    by Equal e = let yes = same_from x y (printed_order-equal x y p.positive q.positive e) in cc
    by Greater e = let back : printed_order y x ≡ Less = printed_order-total.antisymm y x ∙ ap ordering_reverse e in let no : is_lt Less ≡ false = ap is_lt (sym back) ∙ up in cc

in_order : (xs : List (List ℕ)) → ((x : List ℕ) → Among x xs → IsPartition x)
    → ((i j : ℕ) (d : List ℕ) → i < j → j < length xs → (same (get_or xs i d) (get_or xs j d) ≡ false) × (is_lt (printed_order (get_or xs j d) (get_or xs i d)) ≡ false))
    → IsInPrintedOrder xs
in_order [] p h = tt
in_order (x ∷ xs) p h =
    (first, in_order xs (λ y m. p y (inr m)) (λ i j d l k. h (suc i) (suc j) d (omega arith) (omega arith)))
  where
    first : (y : List ℕ) → Among y xs → printed_order x y ≡ Less
    first y m =
        let r = among_at xs y m in
        let l = r.1 in
        let s = h 0 (suc r.0) y (omega arith) (omega arith) in
        not_after x y (p x (inl refl)) (p y (inr m)) (ap (same x) (sym r.2) ∙ s.0) (ap (λ z. is_lt (printed_order z x)) (sym r.2) ∙ s.1)

pub sorted_shapes : (shape : List ℕ) (old new : List (List ℕ)) → old ≡ partitions_inside shape → IsPermutation old new → IsSorted printed_order new → IsWithinLimits shape → ListsShapesInside shape new
sorted_shapes shape old new e moved up limits = record {
  ordered = in_order new (λ x m. (part x m).partition) (λ i j d l k. (
    apart_from_distinct same new i j d once l k,
    sorted_far (λ a b. is_lt (printed_order a b)) (ranks_by printed_order-total (λ (a : List ℕ). a)) new up i j d (omega arith) k,
  ));
  labels = λ x m. label_inside shape x limits (part x m).partition (part x m).inside;
  partitions = λ x m. (part x m).partition;
  inside = λ x m. (part x m).inside;
  all = λ x p h. moved_among old new moved x (subst (λ l. Among x l) (sym e) (among_part shape x p h));
}
  where
    once : IsDistinct same new
    once = IsDistinct-IsPermutation same same_sym old new moved (distinct old (subst Once (sym e) (once_partitions_inside shape)))

    part : (x : List ℕ) → Among x new → IsPart shape x
    part x m = part_among shape x (subst (λ l. Among x l) e (moved_among new old (IsPermutation-sym old new moved) x m))

once_ordered : (xs : List (List ℕ)) → IsInPrintedOrder xs → Once xs
once_ordered [] h = tt
once_ordered (x ∷ xs) h = ((λ m. let e = h.0 x m in let f = tied_itself printed_order-total x in cc), once_ordered xs h.1)

pub once_listed : (shape : List ℕ) (inners : List (List ℕ)) → ListsShapesInside shape inners → Once inners
once_listed shape inners l = once_ordered inners l.ordered

pub earlier_before : (xs : List (List ℕ)) (i : ℕ) (x y : List ℕ) → IsInPrintedOrder xs → IsAt xs i x → Among y (take i xs) → printed_order y x ≡ Less
earlier_before [] i x y h at m = let l = at.within in absurd (omega arith)
earlier_before (z ∷ xs) zero x y h at m = absurd m
earlier_before (z ∷ xs) (suc i) x y h at (inl e) =
    ap (λ w. printed_order w x) e ∙ h.0 x (at_among xs i x (record { within = let l = at.within in omega arith; is = at.is }))
earlier_before (z ∷ xs) (suc i) x y h at (inr m) = earlier_before xs i x y h.1 (record { within = let l = at.within in omega arith; is = at.is }) m
