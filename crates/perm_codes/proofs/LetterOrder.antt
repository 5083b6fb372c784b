-- In the printed order, permutations with the same number of inversions are compared letter by letter, with *fixed
-- letters*, which are equal to their places, added to the shorter list. Without fixed letters at the end, this is the
-- lexicographic order of the lists of letters: if one list is a prefix of the other, the first letter after the prefix
-- that is not fixed is greater than its place.
use Rattle.std.proofs.Common.{◌≡◌, ℕ, ◌+◌, ◌<◌, ◌≤◌, ◌==◌, List, [], ◌∷◌, ◌++◌, length, refl, sym, ap, ◌∙◌, subst, arith, inl, inr, ◌⊎◌, Bool, true, false, cond, eq-eqb, length-append, append_assoc}
use Rattle.std.specs.Cmp.{nat_cmp_is}
use Rattle.std.specs.Cmp.Lexicographic.{slice_cmp}
use Rattle.std.specs.Ordering.{nat_cmp, ordering_then}
use Rattle.std.specs.declared.cmp.Ordering.{Ordering}
use Rattle.std.specs.declared.cmp.Ordering.TheVariants.{Less, Equal, Greater}
use Rattle.std.proofs.lemmas.Bool.{cases_eq, cases_lt}
use Rattle.std.proofs.lemmas.List.{append-nil}
use Rattle.sym_model.specs.Sum.{Among, Once, Within}
use Rattle.sym_model.specs.PlaceOrders.{places, inversions}
use Rattle.sym_model.specs.Permutation.{IsOneLine, in_front_unless_fixed, without_fixed_from}
use Rattle.sym_model.specs.PrintedOrder.{permutation_order, rising_letters}
use Rattle.sym_model.proofs.Orders.{nat_cmp-equal, then-equal}
use Rattle.sym_model.proofs.Sums.{Among-append_right, length_within}
use Rattle.sym_model.proofs.AfterLists.{length_after, among_after}
use Rattle.perm_codes.specs.Limits.{IsWithinLimits}
use Rattle.schubert_laws.proofs.FixedTails.{once_apart}

-- ---- the order of two lists, one of which is a prefix of the other

pub above : (p u : List ℕ) → IsOneLine p → IsOneLine (p ++ u) → (x : ℕ) → Among x u → length p < x
above p u o w x m = elim (cases_lt (length p) x) [
  | inl h ↦ h
  | inr h ↦
      let more = length_within (places (length p)) (x ∷ p) ((λ n. once_apart p u x w.once n m), o.once) (within h) in
      let all = length_after 0 (length p) in
      absurd (omega arith)
]
  where
    place : (y : ℕ) → 1 ≤ y → y ≤ length p → Among y (places (length p))
    place y h l = among_after 0 (length p) y h (omega arith)

    within : x ≤ length p → Within (x ∷ p) (places (length p))
    within h y (inl e) = subst (λ z. Among z (places (length p))) (sym e) (place x (w.letters x (Among-append_right x p u m)).0 h)
    within h y (inr n) = let r = o.letters y n in place y r.0 r.1

less_cmp : (a b : ℕ) → a < b → nat_cmp a b ≡ Less
less_cmp a b h = sym (nat_cmp_is a b Less h)

greater_cmp : (a b : ℕ) → b < a → nat_cmp a b ≡ Greater
greater_cmp a b h = sym (nat_cmp_is a b Greater h)

same_cmp : (a b : ℕ) → a ≡ b → nat_cmp a b ≡ Equal
same_cmp a b h = sym (nat_cmp_is a b Equal h)

dropped : (i b : ℕ) (v : List ℕ) → b ≡ i → v ≡ [] → in_front_unless_fixed i b v ≡ []
dropped i b v e n = ap (in_front_unless_fixed i b) n ∙ ap (λ t. cond t [] (b ∷ [])) (eq-eqb b i e)

beyond : (i b : ℕ) (u : List ℕ) → b ≡ i + 1 → ((x : ℕ) → Among x (b ∷ u) → i < x) → (Among b u → ⊥) → (x : ℕ) → Among x u → i + 1 < x
beyond i b u e a o x m =
    let h = a x (inr m) in
    let d : x ≡ b → ⊥ = λ q. o (subst (λ y. Among y u) q m) in
    omega arith

-- let u be the letters of a permutation at the places from i + 1 on: either u comes after the fixed letters i + 1, i + 2, .. in the lexicographic
-- order, or all letters of u are fixed
abbrev IsLater : ℕ → List ℕ → Type 0
IsLater i u = ((rising_letters i [] u ≡ Less) × (rising_letters i u [] ≡ Greater)) ⊎ (without_fixed_from (i + 1) u ≡ [])

later : (i : ℕ) (u : List ℕ) → ((x : ℕ) → Among x u → i < x) → Once u → IsLater i u
later i [] a o = inr refl
later i (b ∷ u) a o = elim (cases_eq b (i + 1)) [
  | inl e ↦ by e (later (i + 1) u (beyond i b u e a o.0) o.1)
  | inr d ↦
      let h : i < b = a b (inl refl) in
      inl (
        ap (λ r. ordering_then r (rising_letters (i + 1) [] u)) (less_cmp (i + 1) b (omega (arith, d))),
        ap (λ r. ordering_then r (rising_letters (i + 1) u [])) (greater_cmp b (i + 1) (omega (arith, d))),
      )
]
  where
    by : b ≡ i + 1 → IsLater (i + 1) u → IsLater i (b ∷ u)
    by e (inl r) = inl (
      ap (λ q. ordering_then q (rising_letters (i + 1) [] u)) (same_cmp (i + 1) b (sym e)) ∙ r.0,
      ap (λ q. ordering_then q (rising_letters (i + 1) u [])) (same_cmp b (i + 1) e) ∙ r.1,
    )
    by e (inr n) = inr (dropped (i + 1) b (without_fixed_from (i + 1 + 1) u) e n)

-- ---- two lists compared letter by letter in the printed order

front_tail : (i a : ℕ) (u w : List ℕ) → in_front_unless_fixed i a u ≡ a ∷ w → u ≡ w
front_tail i a [] w e = by (a == i) e
  where
    by : (t : Bool) → cond t [] (a ∷ []) ≡ a ∷ w → [] ≡ w
    by true h = cc
    by false h = cc
front_tail i a (b ∷ u) w e = cc

after_letter : (a b : ℕ) (o p : Ordering) → (a ≡ b → o ≡ p) → ordering_then (nat_cmp a b) o ≡ ordering_then (nat_cmp a b) p
after_letter a b o p h = by (nat_cmp a b) refl
  where
    by : (r : Ordering) → nat_cmp a b ≡ r → ordering_then r o ≡ ordering_then r p
    by Less e = refl
    by Equal e = h (nat_cmp-equal a b e)
    by Greater e = refl

record IsRest (p v : List ℕ) : Type 0 where
  pub whole : IsOneLine (p ++ v)
  pub unfixed : without_fixed_from (length p + 1) v ≡ v

longer : (p : List ℕ) (b : ℕ) (w : List ℕ) → IsRest p [] → IsRest p (b ∷ w) → IsLater (length p) (b ∷ w)
longer p b w r s =
    let o : IsOneLine p = subst IsOneLine (append-nil p) r.whole in
    later (length p) (b ∷ w) (above p (b ∷ w) o s.whole) (once_back p (b ∷ w) s.whole.once)
  where
    once_back : (x y : List ℕ) → Once (x ++ y) → Once y
    once_back [] y n = n
    once_back (z ∷ x) y n = once_back x y n.1

next_rest : (p : List ℕ) (a : ℕ) (v : List ℕ) → IsRest p (a ∷ v) → IsRest (p ++ a ∷ []) v
next_rest p a v r =
    let n : length (p ++ a ∷ []) ≡ length p + 1 = length-append p (a ∷ []) in
    record {
      whole = subst IsOneLine (sym (append_assoc p (a ∷ []) v)) r.whole;
      unfixed = ap (λ k. without_fixed_from (k + 1) v) n ∙ front_tail (length p + 1) a (without_fixed_from (length p + 1 + 1) v) v r.unfixed;
    }

compared : (p v w : List ℕ) → IsRest p v → IsRest p w → rising_letters (length p) v w ≡ slice_cmp nat_cmp v w
compared p [] [] r s = refl
compared p [] (b ∷ w) r s = by (longer p b w r s)
  where
    by : IsLater (length p) (b ∷ w) → rising_letters (length p) [] (b ∷ w) ≡ Less
    by (inl l) = l.0
    by (inr n) = let e : b ∷ w ≡ [] = sym s.unfixed ∙ n in cc
compared p (a ∷ v) [] r s = by (longer p a v s r)
  where
    by : IsLater (length p) (a ∷ v) → rising_letters (length p) (a ∷ v) [] ≡ Greater
    by (inl l) = l.1
    by (inr n) = let e : a ∷ v ≡ [] = sym r.unfixed ∙ n in cc
compared p (a ∷ v) (b ∷ w) r s =
    after_letter a b (rising_letters (length p + 1) v w) (slice_cmp nat_cmp v w) (λ e.
    let n : length (p ++ a ∷ []) ≡ length p + 1 = length-append p (a ∷ []) in
    ap (λ k. rising_letters k v w) (sym n)
    ∙ compared (p ++ a ∷ []) v w (next_rest p a v r) (subst (λ x. IsRest (p ++ x ∷ []) w) (sym e) (next_rest p b w s)))

first_rest : (a : ℕ) (v : List ℕ) → IsWithinLimits (a ∷ v) → IsRest (a ∷ []) v
first_rest a v l = record { whole = l.kept.one_line; unfixed = tail l.kept.unfixed }
  where
    tail : {x : ℕ} {y z : List ℕ} → x ∷ y ≡ x ∷ z → y ≡ z
    tail e = cc

letters_order : (v w : List ℕ) → IsWithinLimits v → IsWithinLimits w → rising_letters 0 v w ≡ slice_cmp nat_cmp v w
letters_order [] w l m = absurd (omega (arith, l.kept.some))
letters_order (a ∷ v) [] l m = absurd (omega (arith, m.kept.some))
letters_order (a ∷ v) (b ∷ w) l m =
    after_letter a b (rising_letters 1 v w) (slice_cmp nat_cmp v w) (λ e.
    compared (a ∷ []) v w (first_rest a v l) (subst (λ x. IsRest (x ∷ []) w) (sym e) (first_rest b w m)))

pub permutation_order-slice_cmp :
    (v w : List ℕ) → IsWithinLimits v → IsWithinLimits w
    → ordering_then (nat_cmp (inversions v) (inversions w)) (slice_cmp nat_cmp v w) ≡ permutation_order v w
permutation_order-slice_cmp v w l m = ap (ordering_then (nat_cmp (inversions v) (inversions w))) (sym (letters_order v w l m))

slice_cmp-equal : (v w : List ℕ) → slice_cmp nat_cmp v w ≡ Equal → v ≡ w
slice_cmp-equal [] [] h = refl
slice_cmp-equal [] (b ∷ w) h = cc
slice_cmp-equal (a ∷ v) [] h = cc
slice_cmp-equal (a ∷ v) (b ∷ w) h =
    let t = then-equal (nat_cmp a b) (slice_cmp nat_cmp v w) h in
    let first = nat_cmp-equal a b t.0 in
    let rest = slice_cmp-equal v w t.1 in
    cc

pub permutation_order-equal : (v w : List ℕ) → IsWithinLimits v → IsWithinLimits w → permutation_order v w ≡ Equal → v ≡ w
permutation_order-equal v w l m h =
    slice_cmp-equal v w (sym (letters_order v w l m) ∙ (then-equal (nat_cmp (inversions v) (inversions w)) (rising_letters 0 v w) h).1)
