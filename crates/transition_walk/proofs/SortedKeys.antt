-- Lists whose keys are strictly sorted by a total order: the result of a binary search, and changes that keep them
-- sorted.
use Rattle.std.proofs.Common.{◌≡◌, ℕ, zero, suc, ◌<◌, ◌≤◌, List, [], ◌∷◌, ◌++◌, map, length, get_or, set, refl, sym, ap, ◌∙◌, subst, inl, inr, arith}
use Rattle.std.specs.Prelude.{Some, slice_get}
use Rattle.std.specs.Cmp.{IsTotalOrder, alike_right, tied_itself}
use Rattle.std.specs.List.{AllByRecursion, insert}
use Rattle.std.specs.List.Sorted.{IsStrictlySortedBy, IsNonDecreasingBy, IsPartitionPoint}
use Rattle.std.specs.declared.cmp.Ordering.{Ordering}
use Rattle.std.specs.declared.cmp.Ordering.TheVariants.{Less, Equal, Greater}
use Rattle.std.specs.Ordering.{ordering_index, ordering_reverse}
use Rattle.std.proofs.lemmas.Bool.{cases_lt}
use Rattle.std.proofs.lemmas.List.{get_or_default}
use Rattle.std.proofs.lemmas.Map.Keys.{sorted_head, sorted_tail}
use Rattle.sym_model.specs.Sum.{Among}
use Rattle.std.proofs.lemmas.List.{map-append}

-- ---- the keys of a list with one element replaced, and of a prefix of a list

pub keys_set : {X K : Type 0} (key : X → K) (xs : List X) (i : ℕ) (x y : X) → i < length xs → x ≡ get_or xs i x → key y ≡ key x → map key (set xs i y) ≡ map key xs
keys_set key [] i x y h e k = absurd (omega arith)
keys_set key (z ∷ xs) zero x y h e k = ap (λ j. j ∷ map key xs) (k ∙ ap key e)
keys_set key (z ∷ xs) (suc i) x y h e k = ap (λ l. key z ∷ l) (keys_set key xs i x y (omega arith) e k)

all_front : {K : Type 0} (P : K → Type 0) (ks ls : List K) → AllByRecursion P (ks ++ ls) → AllByRecursion P ks
all_front P [] ls a = tt
all_front P (k ∷ ks) ls a = (a.0, all_front P ks ls a.1)

sorted_front : {K : Type 0} (R : K → K → Ordering) (ks ls : List K) → IsStrictlySortedBy R (ks ++ ls) → IsStrictlySortedBy R ks
unfolding IsStrictlySortedBy
sorted_front R [] ls s = tt
sorted_front R (k ∷ ks) ls s = (all_front (λ l. R k l ≡ Less) ks ls s.0, sorted_front R ks ls s.1)

pub sorted_rest : {X K : Type 0} (key : X → K) (R : K → K → Ordering) (all xs ys : List X) → all ≡ xs ++ ys → IsStrictlySortedBy R (map key all) → IsStrictlySortedBy R (map key xs)
sorted_rest key R all xs ys e s = sorted_front R (map key xs) (map key ys) (subst (IsStrictlySortedBy R) (ap (map key) e ∙ map-append key xs ys) s)

pub sorted_one : {X K : Type 0} (key : X → K) (R : K → K → Ordering) (all : List X) (x : X) → all ≡ x ∷ [] → IsStrictlySortedBy R (map key all)
unfolding IsStrictlySortedBy
sorted_one key R all x e = subst (λ l. IsStrictlySortedBy R (map key l)) (sym e) (tt, tt)

-- ---- the index that a binary search finds, and an element inserted at this index

module _ {X K : Type 0} (key : X → K) (R : K → K → Ordering) (o : IsTotalOrder R) where
  head_below : (k : K) (xs : List X) (j : ℕ) (d : X) → AllByRecursion (λ l. R k l ≡ Less) (map key xs) → j < length xs → R k (key (get_or xs j d)) ≡ Less
  head_below k [] j d a l = absurd (omega arith)
  head_below k (x ∷ xs) zero d a l = a.0
  head_below k (x ∷ xs) (suc j) d a l = head_below k xs j d a.1 (omega arith)

  below : (xs : List X) (i j : ℕ) (d : X) → IsStrictlySortedBy R (map key xs) → i < j → j < length xs → R (key (get_or xs i d)) (key (get_or xs j d)) ≡ Less
  below [] i j d s h l = absurd (omega arith)
  below (x ∷ xs) i zero d s h l = absurd (omega arith)
  below (x ∷ xs) zero (suc j) d s h l = head_below (key x) xs j d (sorted_head R (key x) (map key xs) s) (omega arith)
  below (x ∷ xs) (suc i) (suc j) d s h l = below xs i j d (sorted_tail R (key x) (map key xs) s) (omega arith) (omega arith)

  index_most : (r : Ordering) → ordering_index r ≤ 2
  index_most Less = omega arith
  index_most Equal = omega arith
  index_most Greater = omega arith

  index_rises : (a b k : K) → R a b ≡ Less → ordering_index (R a k) ≤ ordering_index (R b k)
  index_rises a b k h = by (R b k) refl
    where
      by : (r : Ordering) → R b k ≡ r → ordering_index (R a k) ≤ ordering_index (R b k)
      by Less e = let p = ap ordering_index (o.trans a b k h e) in omega arith
      by Equal e = let p = ap ordering_index (sym (alike_right o b k a e) ∙ h) in omega arith
      by Greater e = let p = ap ordering_index e in let q = index_most (R a k) in omega arith

  pub comparisons_rise : (xs : List X) (k : K) → IsStrictlySortedBy R (map key xs) → IsNonDecreasingBy (λ x. ordering_index (R (key x) k)) xs
  comparisons_rise xs k s i j d h l = elim (cases_lt i j) [
    | inl f ↦ index_rises (key (get_or xs i d)) (key (get_or xs j d)) k (below xs i j d s f l)
    | inr f ↦ let e : i ≡ j = omega arith in let p = ap (λ n. ordering_index (R (key (get_or xs n d)) k)) e in omega arith
  ]

  absent_where : (xs : List X) (k : K) → ((j : ℕ) (d : X) → j < length xs → R (key (get_or xs j d)) k ≡ Equal → ⊥) → Among k (map key xs) → ⊥
  absent_where [] k h m = m
  absent_where (x ∷ xs) k h (inl e) = h 0 x (omega arith) (ap (λ l. R l k) (sym e) ∙ tied_itself o k)
  absent_where (x ∷ xs) k h (inr m) = absent_where xs k (λ j d l. h (suc j) d (omega arith)) m

  pub absent : (xs : List X) (k : K) (at : ℕ) → IsPartitionPoint (λ x. R (key x) k ≡ Less) (λ x. R (key x) k ≡ Greater) xs at → Among k (map key xs) → ⊥
  absent xs k at p = absent_where xs k (λ j d l e. elim (cases_lt j at) [ inl f ↦ let q = p.0 j d (omega arith) f in cc | inr f ↦ let q = p.1 j d f l in cc ])

  not_below : (k l : K) → R k l ≡ Less → k ≡ l → ⊥
  not_below k l h e = let p = tied_itself o k in let q : R k k ≡ Less = ap (R k) e ∙ h in cc

  member_above : (k : K) (xs : List X) (w : X) → AllByRecursion (λ l. R k l ≡ Less) (map key xs) → Among w xs → R k (key w) ≡ Less
  member_above k [] w a m = absurd m
  member_above k (x ∷ xs) w a (inl e) = subst (λ y. R k (key y) ≡ Less) (sym e) a.0
  member_above k (x ∷ xs) w a (inr m) = member_above k xs w a.1 m

  pub found_entry : (xs : List X) (at : ℕ) (w : X) → IsStrictlySortedBy R (map key xs) → at < length xs → ((x : X) → x ≡ get_or xs at x → key x ≡ key w) → Among w xs
      → slice_get xs at ≡ Some w
  found_entry [] at w s h same m = absurd m
  found_entry (x ∷ xs) zero w s h same (inl e) = ap Some (sym e)
  found_entry (x ∷ xs) zero w s h same (inr m) =
      absurd (not_below (key x) (key w) (member_above (key x) xs w (sorted_head R (key x) (map key xs) s) m) (same x refl))
  found_entry (x ∷ xs) (suc at) w s h same (inl e) =
      absurd (not_below (key x) (key (get_or xs at w)) (head_below (key x) xs at w (sorted_head R (key x) (map key xs) s) (omega arith))
      (ap key (sym e) ∙ sym (same (get_or xs at w) (get_or_default xs at w (get_or xs at w) (omega arith)))))
  found_entry (x ∷ xs) (suc at) w s h same (inr m) = found_entry xs at w (sorted_tail R (key x) (map key xs) s) (omega arith) same m

  all_above : (xs : List X) (k : K) → ((j : ℕ) (d : X) → j < length xs → R (key (get_or xs j d)) k ≡ Greater) → AllByRecursion (λ l. R k l ≡ Less) (map key xs)
  all_above [] k h = tt
  all_above (x ∷ xs) k h = (o.antisymm k (key x) ∙ ap ordering_reverse (h 0 x (omega arith)), all_above xs k (λ j d l. h (suc j) d (omega arith)))

  all_insert : (k : K) (xs : List X) (at : ℕ) (x : X) → AllByRecursion (λ l. R k l ≡ Less) (map key xs) → R k (key x) ≡ Less → AllByRecursion (λ l. R k l ≡ Less) (map key (insert xs at x))
  all_insert k [] zero x a h = (h, tt)
  all_insert k [] (suc at) x a h = (h, tt)
  all_insert k (y ∷ xs) zero x a h = (h, a)
  all_insert k (y ∷ xs) (suc at) x a h = (a.0, all_insert k xs at x a.1 h)

  pub sorted_insert : (xs : List X) (at : ℕ) (x : X) → at ≤ length xs → IsPartitionPoint (λ y. R (key y) (key x) ≡ Less) (λ y. R (key y) (key x) ≡ Greater) xs at
      → IsStrictlySortedBy R (map key xs) → IsStrictlySortedBy R (map key (insert xs at x))
  unfolding IsStrictlySortedBy
  sorted_insert [] zero x h p s = (tt, tt)
  sorted_insert [] (suc at) x h p s = absurd (omega arith)
  sorted_insert (y ∷ xs) zero x h p s = (all_above (y ∷ xs) (key x) (λ j d l. p.1 j d (omega arith) l), s)
  sorted_insert (y ∷ xs) (suc at) x h p s = (
    all_insert (key y) xs at x s.0 (p.0 0 y (omega arith) (omega arith)),
    sorted_insert xs at x (omega arith) (λ j d i l. p.0 (suc j) d (omega arith) (omega arith), λ j d i l. p.1 (suc j) d (omega arith) (omega arith)) s.1,
  )
