-- The list made by `add_shapes` for a partition has exactly the partitions inside it, each once.
use Rattle.std.proofs.Common.{◌≡◌, ℕ, zero, suc, ◌+◌, ◌-◌, ◌≤◌, List, [], ◌∷◌, ◌++◌, append_assoc, append-nil, map, length, get_or, min, refl, sym, ap, ◌∙◌, subst, inl, inr, arith, true, flat_map}
use Rattle.std.proofs.lemmas.List.{map-append}
use Rattle.sym_model.specs.Sum.{Among, Once}
use Rattle.sym_model.specs.Partition.{IsPartition, Falls, Holds, part, columns, size, after, without_last_zeros}
use Rattle.sym_model.specs.LabelLimits.{is_label}
use Rattle.sym_model.specs.Polynomial.{resize}
use Rattle.sym_model.proofs.Orders.{is_label-from}
use Rattle.sym_model.proofs.AfterLists.{after_among, among_after, once_after}
use Rattle.sym_model.proofs.SortedParts.{Falls_tail, IsPartition-without_last_zeros, size-without_last_zeros, Falls_first}
use Rattle.sym_model.proofs.Sums.{Among-each, Among-map, Among_from_map, Once-map, Once-each}
use Rattle.sym_model.proofs.Parts.{length-without_last_zeros, falls_front, rows_held, sizes_within}
use Rattle.sym_model.proofs.Lists.{map-among, map-map}
use Rattle.partitions.specs.Limits.{IsWithinLimits}
use Rattle.strip_laws.proofs.Containment.{contains-tells, Holds-get_or}
use Rattle.alternant_laws.proofs.FallingAlternants.{resize-without_last_zeros, without_last_zeros-resize}
use Rattle.schur_laws.specs.InnerShapes.{up_to, shapes_inside}
use Rattle.schur_laws.proofs.InnerShapeLists.{inside-tells, same-without_last_zeros, partition_inside}
use Rattle.std.proofs.lemmas.Grind.{flat_map-append}

-- the list of the partitions inside a shape
abbrev pub partitions_inside : List ℕ → List (List ℕ)
partitions_inside shape = map without_last_zeros (shapes_inside shape (columns shape))

pub record IsPart (shape inner : List ℕ) : Type 0 where
  pub partition : IsPartition inner
  pub inside : Holds shape inner

pub part_among : (shape inner : List ℕ) → Among inner (partitions_inside shape) → IsPart shape inner
part_among shape inner m =
    let l = Among_from_map without_last_zeros inner (shapes_inside shape (columns shape)) m in
    let r = inside-tells shape (columns shape) l.0 l.1 in
    subst (λ i. IsPart shape i) (sym l.2) (record {
      partition = partition_inside shape (columns shape) l.0 r;
      inside = λ i. let e = same-without_last_zeros l.0 (i - 1) in let h = contains-tells shape l.0 r.inside i in omega arith;
    })

-- ---- each partition inside the shape is in the list `partitions_inside`

among_up_to : (j b : ℕ) → b ≤ j → Among b (up_to j)
among_up_to j zero h = inl refl
among_up_to j (suc b) h = inr (among_after 0 j (suc b) (omega arith) (omega arith))

padded_among : (outer : List ℕ) (m : ℕ) (parts : List ℕ) → Falls parts → columns parts ≤ m → length parts ≤ length outer → ((j : ℕ) → get_or parts j 0 ≤ get_or outer j 0)
    → Among (resize (length outer) parts) (shapes_inside outer m)
padded_among [] m parts f h l e = inl refl
padded_among (a ∷ outer) m [] f h l e =
    Among-each (λ b. map (λ i. b ∷ i) (shapes_inside outer b)) 0 (0 ∷ resize (length outer) []) (up_to (min a m)) (inl refl)
    (Among-map (λ i. 0 ∷ i) (resize (length outer) []) (shapes_inside outer 0) (padded_among outer 0 [] tt (omega arith) (omega arith) (λ j. none j)))
  where
    none : (j : ℕ) → get_or {A = ℕ} [] j 0 ≤ get_or outer j 0
    none zero = omega arith
    none (suc j) = omega arith
padded_among (a ∷ outer) m (b ∷ parts) f h l e =
    let here = e 0 in
    Among-each (λ x. map (λ i. x ∷ i) (shapes_inside outer x)) b (b ∷ resize (length outer) parts) (up_to (min a m)) (among_up_to (min a m) b (omega arith))
    (Among-map (λ i. b ∷ i) (resize (length outer) parts) (shapes_inside outer b) (padded_among outer b parts (Falls_tail b parts f) (Falls_first b parts f) (omega arith) (λ j. e (suc j))))

pub label_inside : (shape parts : List ℕ) → IsWithinLimits shape → IsPartition parts → Holds shape parts → is_label parts ≡ true
label_inside shape parts l p h =
    let few = rows_held parts shape p.positive (Holds-get_or shape parts h) in
    let small = sizes_within parts shape (Holds-get_or shape parts h) in
    is_label-from parts (record { partition = p; rows = omega (arith, l.few); size = omega (arith, l.small) })

pub among_part : (shape parts : List ℕ) → IsPartition parts → Holds shape parts → Among parts (partitions_inside shape)
among_part shape parts p h =
    let at = Holds-get_or shape parts h in
    let few = rows_held parts shape p.positive at in
    subst (λ l. Among l (partitions_inside shape)) (without_last_zeros-resize (length shape) parts p.positive few)
    (Among-map without_last_zeros (resize (length shape) parts) (shapes_inside shape (columns shape)) (padded_among shape (columns shape) parts p.falls (at 0) few at))

once_up_to : (j : ℕ) → Once (up_to j)
once_up_to j = (λ m. let r = after_among 0 j 0 m in let l = r.0 in absurd (omega arith), once_after 0 j)

once_inside : (outer : List ℕ) (m : ℕ) → Once (shapes_inside outer m)
once_inside [] m = (λ k. k, tt)
once_inside (a ∷ outer) m =
    Once-each (λ b. map (λ i. b ∷ i) (shapes_inside outer b)) (up_to (min a m)) (once_up_to (min a m))
    (λ b k. Once-map (λ i. b ∷ i) (shapes_inside outer b) (λ x y p q e. cc) (once_inside outer b))
    (λ x z y p q k l.
    let u = Among_from_map (λ i. x ∷ i) y (shapes_inside outer x) k in
    let v = Among_from_map (λ i. z ∷ i) y (shapes_inside outer z) l in
    heads x z u.0 v.0 (sym u.2 ∙ v.2))
  where
    heads : (x z : ℕ) (u v : List ℕ) → x ∷ u ≡ z ∷ v → x ≡ z
    heads x z u v e = cc

pub once_partitions_inside : (shape : List ℕ) → Once (partitions_inside shape)
once_partitions_inside shape =
    Once-map without_last_zeros (shapes_inside shape (columns shape))
    (λ x y p q e.
    let r = inside-tells shape (columns shape) x p in
    let s = inside-tells shape (columns shape) y q in
    sym (resize-without_last_zeros (length shape) x r.rows) ∙ ap (resize (length shape)) e ∙ resize-without_last_zeros (length shape) y s.rows)
    (once_inside shape (columns shape))

-- ---- the recursion of `add_shapes`

pub falls_next : (front : List ℕ) (b most : ℕ) → b ≤ most → Falls (front ++ most ∷ []) → Falls ((front ++ b ∷ []) ++ b ∷ [])
falls_next [] b most h f = (omega arith, tt)
falls_next (x ∷ []) b most h f = let g = f.0 in (omega arith, (omega arith, tt))
falls_next (x ∷ y ∷ front) b most h f = (f.0, falls_next (y ∷ front) b most h f.1)

pub limits_front : (front : List ℕ) (most : ℕ) → Falls (front ++ most ∷ []) → length front ≤ 512 → size front ≤ 4096 → IsWithinLimits (without_last_zeros front)
limits_front front most f h k = record {
  partition = IsPartition-without_last_zeros front (falls_front front most f);
  few = let l = length-without_last_zeros front in omega arith;
  small = let l = size-without_last_zeros front in omega arith;
}

-- for each number b of `numbers`, and each partition inside `below` with parts of at most b: the list that consists of `front`, b and the parts of
-- this partition, without the zeros at its end
abbrev pub listed_from : List ℕ → List ℕ → List ℕ → List (List ℕ)
listed_from front below numbers = map (λ i. without_last_zeros (front ++ i)) (flat_map (λ b. map (λ i. b ∷ i) (shapes_inside below b)) numbers)

-- `below_it b`: the numbers from 0 to b - 1
abbrev pub below_it : ℕ → List ℕ
below_it zero = []
below_it (suc j) = up_to j

after_last : (s k : ℕ) → after s (suc k) ≡ after s k ++ ((s + k + 1) ∷ [])
after_last s zero = ap (λ i. i ∷ []) (let e : s + 1 ≡ s + 0 + 1 = omega arith in e)
after_last s (suc k) = ap (λ l. (s + 1) ∷ l) (after_last (s + 1) k ∙ ap (λ i. after (s + 1) k ++ (i ∷ [])) (let e : s + 1 + k + 1 ≡ s + suc k + 1 = omega arith in e))

below_next : (j : ℕ) → below_it (j + 1) ≡ below_it j ++ (j ∷ [])
below_next zero = refl
below_next (suc j) =
    ap below_it (let e : suc j + 1 ≡ suc (suc j) = omega arith in e) ∙ ap (λ l. 0 ∷ l) (after_last 0 j ∙ ap (λ i. after 0 j ++ (i ∷ [])) (let e : 0 + j + 1 ≡ suc j = omega arith in e))

pub listed_next : (front below : List ℕ) (part : ℕ) (next : List ℕ) → next ≡ front ++ part ∷ []
    → listed_from front below (below_it (part + 1)) ≡ listed_from front below (below_it part) ++ map (λ i. without_last_zeros (next ++ i)) (shapes_inside below part)
listed_next front below part next e =
    let g : ℕ → List (List ℕ) = λ b. map (λ i. b ∷ i) (shapes_inside below b) in
    let f : List ℕ → List ℕ = λ i. without_last_zeros (front ++ i) in
    ap (λ l. map f (flat_map g l)) (below_next part)
    ∙ ap (map f) (flat_map-append g (below_it part) (part ∷ []))
    ∙ map-append f (flat_map g (below_it part)) (g part ++ [])
    ∙ ap (λ l. listed_from front below (below_it part) ++ map f l) (append-nil (g part))
    ∙ ap (λ l. listed_from front below (below_it part) ++ l) (map-map f (λ i. part ∷ i) (shapes_inside below part)
    ∙ map-among (λ i. without_last_zeros (front ++ (part ∷ i))) (λ i. without_last_zeros (next ++ i)) (shapes_inside below part)
    (λ i m. ap without_last_zeros (sym (append_assoc front (part ∷ []) i) ∙ ap (λ l. l ++ i) (sym e))))
