-- A partition covers another one if it is obtained from it by adding a horizontal strip. Let ν be a partition of the size of a nonempty shape λ: the
-- signs of those special rim hooks h of λ for which ν covers the shape that remains without h have the sum 1 if ν = λ, and 0 otherwise.
use Rattle.std.proofs.Common.{◌≡◌, ℕ, suc, ◌+◌, ◌-◌, ◌<◌, ◌≤◌, Bool, true, false, ◌&&◌, not, cond, nat_le, List, [], ◌∷◌, map, length, refl, sym, ◌∙◌, ap, ap₂, inl, inr, arith, ℤ, pos, ◌+ℤ◌, ◌*ℤ◌, neg_ℤ, filter}
use Rattle.std.proofs.lemmas.Int.{ints}
use Rattle.std.proofs.lemmas.Bool.{true≢false, false≢true, not-true, and_parts, and_from, le-leb, lt-leb, leb-true, leb-false, cases_lt}
use Rattle.std.proofs.lemmas.List.{length-map}
use Rattle.sym_model.specs.Sum.{total}
use Rattle.sym_model.specs.Partition.{Falls, ArePositive, IsPartition, size, rows, without_last_zeros}
use Rattle.sym_model.specs.PartitionList.{partitions_of}
use Rattle.sym_model.specs.Polynomial.{resize}
use Rattle.sym_model.specs.PlaceOrders.{minus_one_to}
use Rattle.sym_model.proofs.Ring.{ring, product-one}
use Rattle.sym_model.proofs.Sums.{total_ext, total_map, total_cond, total_none, total_select, total_scale, total_exchange, total_only}
use Rattle.sym_model.proofs.Exponents.{resize_same, length-resize}
use Rattle.sym_model.proofs.Parts.{without_last_zeros-positive}
use Rattle.sym_model.proofs.PartitionLists.{partitions_of-tells, Among-partitions_of, Once-partitions_of}
use Rattle.alternant_laws.proofs.FallingAlternants.{resize-without_last_zeros, without_last_zeros-resize}
use Rattle.product_laws.proofs.StripShapes.{size-padded}
use Rattle.expand_in_families.specs.SpecialHooks.{SpecialHook, below_row, special_hooks}
use Rattle.expand_in_families.proofs.HookShapes.{lowered_size}
use lib.IntN.{+ℤ_idl, +ℤ_idr, *ℤ-zero}

-- ---- lists x₁, x₂, .. and y₁, y₂, .. that interlace: x₁ ≥ y₁ ≥ x₂ ≥ y₂ ≥ ..

-- whether x ≥ κ₁ ≥ y₁ ≥ κ₂ ≥ y₂ ≥ .., for a number x and two lists y₁, y₂, .. and κ₁, κ₂, .., as far as both lists go
abbrev pub between : ℕ → List ℕ → List ℕ → Bool
between x [] κ = true
between x (y ∷ ys) [] = true
between x (y ∷ ys) (c ∷ κ) = nat_le c x && (nat_le y c && between y ys κ)

-- whether the numbers of the two lists, alternating and beginning with the first list, are weakly decreasing
abbrev pub interlaces : List ℕ → List ℕ → Bool
interlaces [] κ = true
interlaces (x ∷ xs) κ = between x xs κ

-- 1 if the test holds, else 0
abbrev pub indicator : Bool → ℤ
indicator b = cond b (pos 1) (pos 0)

-- the sum of the signs of the special rim hooks of a ∷ bs whose remaining shapes interlace with the rows x ∷ xs
abbrev pub signs_over : ℕ → List ℕ → ℕ → List ℕ → ℤ
signs_over x xs a bs = total (λ (h : SpecialHook). h.sign *ℤ indicator (between x xs (resize (length bs) h.rest))) (special_hooks (a ∷ bs))

-- ---- the sum of the signs of the special rim hooks whose remaining shapes interlace with given rows

combined_signs : (s z v : ℤ) → neg_ℤ s *ℤ v +ℤ (z +ℤ s *ℤ v) ≡ z +ℤ neg_ℤ s *ℤ pos 0
combined_signs s z v = simp ring (omega (arith, ints))

zero_aside : (z : ℤ) → z +ℤ pos 0 ≡ pos 0 +ℤ z
zero_aside z = +ℤ_idr z ∙ sym (+ℤ_idl z)

one_row_more : (p q r z t u w : Bool) (s : ℤ) → (p ≡ true → t ≡ true) → (u ≡ true → q ≡ true) → u ≡ not r
    → neg_ℤ s *ℤ indicator (t && (u && w)) +ℤ cond (p && q) (indicator (r && z) +ℤ s *ℤ indicator (not r && w)) (pos 0)
    ≡ indicator (p && (q && (r && z))) +ℤ neg_ℤ s *ℤ indicator (not p && (t && (u && w)))
one_row_more false q r z t u w s h k e = zero_aside (neg_ℤ s *ℤ indicator (t && (u && w)))
one_row_more true q r z false u w s h k e = absurd (false≢true (h refl))
one_row_more true false r z true true w s h k e = absurd (false≢true (k refl))
one_row_more true false r z true false w s h k e = zero_aside (neg_ℤ s *ℤ pos 0)
one_row_more true true true z true true w s h k e = absurd (true≢false e)
one_row_more true true true z true false w s h k e = combined_signs s (indicator z) (pos 0)
one_row_more true true false z true true w s h k e = combined_signs s (pos 0) (indicator w)
one_row_more true true false z true false w s h k e = absurd (false≢true e)

one_row : (p : Bool) → pos 1 *ℤ pos 1 +ℤ pos 0 ≡ indicator (p && true) +ℤ pos 1 *ℤ indicator (not p && true)
one_row true = refl
one_row false = refl

scaled_test : (p q : Bool) (s : ℤ) (b : Bool) → s *ℤ indicator (p && (q && b)) ≡ cond (p && q) (s *ℤ indicator b) (pos 0)
scaled_test true true s b = refl
scaled_test true false s b = *ℤ-zero s
scaled_test false q s b = *ℤ-zero s

turned_test : (y b : ℕ) → 0 < b → nat_le y (b - 1) ≡ not (nat_le b y)
turned_test y b h = elim (cases_lt y b) [
  | inl l ↦ rw (le-leb y (b - 1) (omega arith), lt-leb b y l) refl
  | inr l ↦ rw (lt-leb y (b - 1) (omega arith), le-leb b y l) refl
]

-- let cs be the numbers of bs, each less 1. The sum of the signs of the special rim hooks of a ∷ bs whose remaining shapes interlace with x ∷ ys
-- (`signs_over`) is 1 if a ≤ x and `between a bs ys`; it is (-1)^(length bs) if x < a and `between x ys cs`; otherwise it is 0
pub sum_of_signs : (a x : ℕ) (bs ys : List ℕ) → Falls (a ∷ bs) → ArePositive bs → length ys ≡ length bs
    → signs_over x ys a bs
    ≡ indicator (nat_le a x && between a bs ys) +ℤ minus_one_to (length bs) *ℤ indicator (not (nat_le a x) && between x ys (map (λ b. b - 1) bs))
sum_of_signs a x [] [] f p e = one_row (nat_le a x)
sum_of_signs a x [] (y ∷ ys) f p e = absurd (omega arith)
sum_of_signs a x (b ∷ bs) [] f p e = absurd (omega arith)
sum_of_signs a x (b ∷ bs) (y ∷ ys) f p e =
    let lowered : List ℕ = map (λ c. c - 1) (b ∷ bs) in
    let s : ℤ = minus_one_to (length bs) in
    let first = ap (λ l. neg_ℤ s *ℤ indicator (between x (y ∷ ys) l)) (resize-without_last_zeros (suc (length bs)) lowered (length-map (b ∷ bs) (λ c. c - 1))) in
    let others =
    total_map (λ (h : SpecialHook). h.sign *ℤ indicator (between x (y ∷ ys) (resize (suc (length bs)) h.rest))) (below_row a) (special_hooks (b ∷ bs))
    ∙ total_ext (λ (h : SpecialHook). h.sign *ℤ indicator (nat_le a x && (nat_le y a && between y ys (resize (length bs) h.rest))))
    (λ (h : SpecialHook). cond (nat_le a x && nat_le y a) (h.sign *ℤ indicator (between y ys (resize (length bs) h.rest))) (pos 0))
    (λ h. scaled_test (nat_le a x) (nat_le y a) h.sign (between y ys (resize (length bs) h.rest))) (special_hooks (b ∷ bs))
    ∙ total_cond (nat_le a x && nat_le y a) (λ (h : SpecialHook). h.sign *ℤ indicator (between y ys (resize (length bs) h.rest))) (special_hooks (b ∷ bs))
    ∙ ap (λ z. cond (nat_le a x && nat_le y a) z (pos 0)) (sum_of_signs b y bs ys f.1 p.1 (omega arith)) in
    ap₂ ◌+ℤ◌ first others
    ∙ one_row_more (nat_le a x) (nat_le y a) (nat_le b y) (between b bs ys) (nat_le (b - 1) x) (nat_le y (b - 1)) (between y ys (map (λ c. c - 1) bs)) s
    (λ t. le-leb (b - 1) x (omega (arith, leb-true a x t, f.0)))
    (λ t. le-leb y a (omega (arith, leb-true y (b - 1) t, f.0)))
    (turned_test y b p.0)

-- ---- the sizes of two lists that interlace

held_size : (x : ℕ) (ys κ : List ℕ) → length ys ≡ length κ → between x ys κ ≡ true → size ys ≤ size κ
held_size x [] κ e t = omega arith
held_size x (y ∷ ys) [] e t = absurd (omega arith)
held_size x (y ∷ ys) (c ∷ κ) e t =
    let p = and_parts (nat_le c x) (nat_le y c && between y ys κ) t in
    let q = and_parts (nat_le y c) (between y ys κ) p.1 in
    omega (arith, leb-true y c q.0, held_size y ys κ (omega arith) q.1)

held_same : (x : ℕ) (ys κ : List ℕ) → length ys ≡ length κ → between x ys κ ≡ true → size κ ≤ size ys → ys ≡ κ
held_same x [] [] e t s = refl
held_same x [] (c ∷ κ) e t s = absurd (omega arith)
held_same x (y ∷ ys) [] e t s = absurd (omega arith)
held_same x (y ∷ ys) (c ∷ κ) e t s =
    let p = and_parts (nat_le c x) (nat_le y c && between y ys κ) t in
    let q = and_parts (nat_le y c) (between y ys κ) p.1 in
    let one = leb-true y c q.0 in
    let all = held_size y ys κ (omega arith) q.1 in
    ap₂ (λ (n : ℕ) l. n ∷ l) (let g : y ≡ c = omega arith in g) (held_same y ys κ (omega arith) q.1 (omega arith))

between_itself : (a : ℕ) (bs : List ℕ) → Falls (a ∷ bs) → between a bs bs ≡ true
between_itself a [] f = refl
between_itself a (b ∷ bs) f =
    and_from (nat_le b a) (nat_le b b && between b bs bs) (le-leb b a f.0)
    (and_from (nat_le b b) (between b bs bs) (le-leb b b (omega arith)) (between_itself b bs f.1))

both_hold : (t w v : Bool) (s : ℤ) → t ≡ true → w ≡ true → indicator (t && w) +ℤ s *ℤ indicator (not t && v) ≡ pos 1
both_hold true true v s e g = ap (λ z. pos 1 +ℤ z) (*ℤ-zero s)
both_hold true false v s e g = absurd (false≢true g)
both_hold false w v s e g = absurd (false≢true e)

none_holds : (b c : Bool) (s : ℤ) → (b ≡ true → ⊥) → (c ≡ true → ⊥) → indicator b +ℤ s *ℤ indicator c ≡ pos 0
none_holds true c s h k = absurd (h refl)
none_holds false true s h k = absurd (k refl)
none_holds false false s h k = +ℤ_idl (s *ℤ pos 0) ∙ *ℤ-zero s

signs_here : (a : ℕ) (bs : List ℕ) → Falls (a ∷ bs) → ArePositive bs → signs_over a bs a bs ≡ pos 1
signs_here a bs f p =
    sum_of_signs a a bs bs f p refl
    ∙ both_hold (nat_le a a) (between a bs bs) (between a bs (map (λ b. b - 1) bs)) (minus_one_to (length bs)) (le-leb a a (omega arith)) (between_itself a bs f)

signs_elsewhere : (a x : ℕ) (bs ys : List ℕ) → Falls (a ∷ bs) → ArePositive bs → length ys ≡ length bs
    → x + size ys ≡ a + size bs → (x ∷ ys ≡ a ∷ bs → ⊥) → signs_over x ys a bs ≡ pos 0
signs_elsewhere a x bs ys f p e s other =
    sum_of_signs a x bs ys f p e
    ∙ none_holds (nat_le a x && between a bs ys) (not (nat_le a x) && between x ys (map (λ b. b - 1) bs)) (minus_one_to (length bs)) above below
  where
    above : (nat_le a x && between a bs ys) ≡ true → ⊥
    above t =
        let q = and_parts (nat_le a x) (between a bs ys) t in
        let one = leb-true a x q.0 in
        let all = held_size a bs ys (sym e) q.1 in
        other (ap₂ (λ (n : ℕ) l. n ∷ l) (let g : x ≡ a = omega arith in g) (sym (held_same a bs ys (sym e) q.1 (omega arith))))

    below : (not (nat_le a x) && between x ys (map (λ b. b - 1) bs)) ≡ true → ⊥
    below t =
        let q = and_parts (not (nat_le a x)) (between x ys (map (λ b. b - 1) bs)) t in
        let one = leb-false a x (not-true (nat_le a x) q.0) in
        let all = held_size x ys (map (λ b. b - 1) bs) (e ∙ sym (length-map bs (λ b. b - 1))) q.1 in
        let low = lowered_size bs p in
        absurd (omega arith)

-- for inner with at most m rows: whether outer has at most m + 1 rows and outer/inner is a horizontal strip, as a test of interlacing rows
abbrev pub covers : ℕ → List ℕ → List ℕ → Bool
covers m outer inner = nat_le (rows outer) (suc m) && interlaces (resize (suc m) outer) (resize m inner)

-- the sum of the signs of those special rim hooks h of a ∷ bs such that `outer` is the remaining shape of h with a horizontal strip added (`covers`)
abbrev pub signs_covered : List ℕ → ℕ → List ℕ → ℤ
signs_covered outer a bs = total (λ (h : SpecialHook). h.sign *ℤ indicator (covers (length bs) outer h.rest)) (special_hooks (a ∷ bs))

pub covered_here : (a : ℕ) (bs : List ℕ) → IsPartition (a ∷ bs) → signs_covered (a ∷ bs) a bs ≡ pos 1
covered_here a bs p =
    total_ext (λ (h : SpecialHook). h.sign *ℤ indicator (covers (length bs) (a ∷ bs) h.rest)) (λ (h : SpecialHook). h.sign *ℤ indicator (between a bs (resize (length bs) h.rest)))
    (λ h. ap₂ (λ t l. h.sign *ℤ indicator (t && between a l (resize (length bs) h.rest))) (le-leb (suc (length bs)) (suc (length bs)) (omega arith)) (resize_same (length bs) bs refl))
    (special_hooks (a ∷ bs))
    ∙ signs_here a bs p.falls p.positive.1

pub covered_elsewhere : (outer : List ℕ) (a : ℕ) (bs : List ℕ) → IsPartition outer → IsPartition (a ∷ bs) → size outer ≡ size (a ∷ bs)
    → (outer ≡ a ∷ bs → ⊥) → signs_covered outer a bs ≡ pos 0
covered_elsewhere outer a bs o p s other = elim (cases_lt (suc (length bs)) (rows outer)) [
  | inl l ↦ total_none (λ (h : SpecialHook). h.sign *ℤ indicator (covers (length bs) outer h.rest)) (special_hooks (a ∷ bs))
      (λ h m. ap (λ t. h.sign *ℤ indicator (t && interlaces (resize (suc (length bs)) outer) (resize (length bs) h.rest))) (lt-leb (rows outer) (suc (length bs)) l) ∙ *ℤ-zero h.sign)
  | inr l ↦ padded l (resize (suc (length bs)) outer) refl
]
  where
    padded : rows outer ≤ suc (length bs) → (r : List ℕ) → resize (suc (length bs)) outer ≡ r → signs_covered outer a bs ≡ pos 0
    padded l [] e = let n = ap length e in let k = length-resize (suc (length bs)) outer in absurd (omega arith)
    padded l (x ∷ ys) e =
        let n = ap length e in
        let k = length-resize (suc (length bs)) outer in
        let t = ap size e in
        let u = size-padded (suc (length bs)) outer o.positive l in
        total_ext (λ (h : SpecialHook). h.sign *ℤ indicator (covers (length bs) outer h.rest)) (λ (h : SpecialHook). h.sign *ℤ indicator (between x ys (resize (length bs) h.rest)))
        (λ h. ap₂ (λ t l. h.sign *ℤ indicator (t && interlaces l (resize (length bs) h.rest))) (le-leb (rows outer) (suc (length bs)) l) e)
        (special_hooks (a ∷ bs))
        ∙ signs_elsewhere a x bs ys p.falls p.positive.1 (omega arith) (omega arith)
        (λ g. other (sym (without_last_zeros-resize (suc (length bs)) outer o.positive l) ∙ ap without_last_zeros (e ∙ g) ∙ without_last_zeros-positive (a ∷ bs) p.positive))

factor_out : (s : ℤ) (b : Bool) (z : ℤ) → s *ℤ cond b z (pos 0) ≡ z *ℤ (s *ℤ indicator b)
factor_out s true z = simp ring (omega (arith, ints))
factor_out s false z = simp ring (omega (arith, ints))

-- for a special rim hook h of a shape, let G(h) be the sum of F over the partitions of the size of the shape that cover the remaining shape of h
-- (`covers`). The sum of sign(h)·G(h) over all these hooks is F of the shape itself
pub signed_sum : (F : List ℕ → ℤ) (a : ℕ) (bs : List ℕ) → IsPartition (a ∷ bs)
    → total (λ (h : SpecialHook). h.sign *ℤ total F (filter (λ ν. covers (length bs) ν h.rest) (partitions_of (size (a ∷ bs))))) (special_hooks (a ∷ bs))
    ≡ F (a ∷ bs)
signed_sum F a bs p =
    total_ext (λ (h : SpecialHook). h.sign *ℤ total F (filter (λ ν. covers (length bs) ν h.rest) shapes))
    (λ (h : SpecialHook). total (λ (ν : List ℕ). F ν *ℤ (h.sign *ℤ indicator (covers (length bs) ν h.rest))) shapes)
    (λ h.
    ap (λ z. h.sign *ℤ z) (total_select F (λ ν. covers (length bs) ν h.rest) shapes)
    ∙ sym (total_scale h.sign (λ (ν : List ℕ). cond (covers (length bs) ν h.rest) (F ν) (pos 0)) shapes)
    ∙ total_ext (λ (ν : List ℕ). h.sign *ℤ cond (covers (length bs) ν h.rest) (F ν) (pos 0)) (λ (ν : List ℕ). F ν *ℤ (h.sign *ℤ indicator (covers (length bs) ν h.rest)))
    (λ ν. factor_out h.sign (covers (length bs) ν h.rest) (F ν)) shapes)
    (special_hooks (a ∷ bs))
    ∙ total_exchange (λ (h : SpecialHook) (ν : List ℕ). F ν *ℤ (h.sign *ℤ indicator (covers (length bs) ν h.rest))) (special_hooks (a ∷ bs)) shapes
    ∙ total_ext (λ (ν : List ℕ). total (λ (h : SpecialHook). F ν *ℤ (h.sign *ℤ indicator (covers (length bs) ν h.rest))) (special_hooks (a ∷ bs))) (λ (ν : List ℕ). F ν *ℤ signs_covered ν a bs)
    (λ ν. total_scale (F ν) (λ (h : SpecialHook). h.sign *ℤ indicator (covers (length bs) ν h.rest)) (special_hooks (a ∷ bs))) shapes
    ∙ total_only (λ (ν : List ℕ). F ν *ℤ signs_covered ν a bs) (a ∷ bs) shapes (Once-partitions_of d) (Among-partitions_of d (a ∷ bs) p refl)
    (λ ν m other. let q = partitions_of-tells d ν m in ap (λ z. F ν *ℤ z) (covered_elsewhere ν a bs q.0 p q.1 other) ∙ *ℤ-zero (F ν))
    ∙ ap (λ z. F (a ∷ bs) *ℤ z) (covered_here a bs p)
    ∙ product-one (F (a ∷ bs))
  where
    d : ℕ
    d = size (a ∷ bs)

    shapes : List (List ℕ)
    shapes = partitions_of d
