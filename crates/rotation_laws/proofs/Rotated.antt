-- A partition with r columns of k rows in front of it is reduced by rim hooks of n cells: the result is the rotated partition.
use Rattle.std.proofs.Common.{◌≡◌, ◌⊎◌, inl, inr, ℕ, zero, suc, ◌+◌, ◌-◌, ◌*◌, ◌%◌, ◌/◌, ◌<◌, ◌≤◌, true, false, cond, nat_lt, List, [], ◌∷◌, ◌++◌, length, drop, refl, sym, ◌∙◌, ap, ap₂, subst, arith, pos, Some, rules, append-nil}
use Rattle.std.proofs.lemmas.Bool.{cases_lt}
use Rattle.std.proofs.lemmas.Bool.Decides.{nat_tests}
use Rattle.std.proofs.lemmas.List.{length-map, length-append}
use Rattle.std.proofs.Math.Nat.{mod-lt, mod-eq_of_lt, mod-eq-sub-mod, add-mod-mod, mul-mod_left}
use Rattle.std.proofs.lemmas.Nat.{div-add-mod'}
use Rattle.sym_model.specs.Partition.{columns, size, part}
use Rattle.sym_model.specs.Bounded.{AreBelow}
use Rattle.sym_model.specs.Alternant.{staircase}
use Rattle.sym_model.specs.PlaceOrders.{minus_one_to}
use Rattle.sym_model.specs.BetaList.{beta, from_beta, greater, put_falling, sorted_falling, rising_pairs}
use Rattle.sym_model.proofs.Signs.{sign-even}
use Rattle.beta_list_laws.specs.StrictFall.{FallsStrictly}
use Rattle.beta_list_laws.specs.AlcoveEnd.{remainders}
use Rattle.beta_list_laws.specs.LowestList.{alike, lowest, end_of, end_sign, power_of, reduction_by_remainders}
use Rattle.beta_list_laws.proofs.Remainders.{alike-past, between_unlike}
use Rattle.beta_list_laws.proofs.NeighbourExchanges.{sorted-exchange, sorted-falling}
use Rattle.beta_list_laws.proofs.BetaLists.{length-beta, beta_strict, beta-from_beta, from_beta-beta, rest_within, part-from_beta, size-from_beta, strict_tail}
use Rattle.beta_list_laws.proofs.Lowest.{strict_falls, strict_second, strict_pairs}
use Rattle.beta_list_laws.proofs.Windows.{LieIn}
use Rattle.beta_list_laws.proofs.Ends.{goes_to_end, goes_cells, narrow}
use Rattle.product_laws.proofs.Straightened.{IsShape, shape_of_strict}
use Rattle.rotation_laws.specs.Rotation.{IsInside, raised, kept, wrapped, widened, rotated, wraps}

-- ---- the rotated list

pub kept_case : (n r x : ℕ) (b : List ℕ) → x + r < n → (kept n r (x ∷ b) ≡ (x + r) ∷ kept n r b) × (wrapped n r (x ∷ b) ≡ wrapped n r b)
kept_case n r x b h =
    let e : nat_lt (x + r) n ≡ true = grind (arith, nat_tests) in
    (ap (λ t. cond t ((x + r) ∷ kept n r b) (kept n r b)) e, ap (λ t. cond t (wrapped n r b) ((x + r - n) ∷ wrapped n r b)) e)

pub wrapped_case : (n r x : ℕ) (b : List ℕ) → n ≤ x + r → (kept n r (x ∷ b) ≡ kept n r b) × (wrapped n r (x ∷ b) ≡ (x + r - n) ∷ wrapped n r b)
wrapped_case n r x b h =
    let e : nat_lt (x + r) n ≡ false = grind (arith, nat_tests) in
    (ap (λ t. cond t ((x + r) ∷ kept n r b) (kept n r b)) e, ap (λ t. cond t (wrapped n r b) ((x + r - n) ∷ wrapped n r b)) e)

-- each entry of the list is greater than a
abbrev pub AreAbove : ℕ → List ℕ → Type 0
AreAbove a [] = Unit {0}
AreAbove a (x ∷ l) = (a < x) × AreAbove a l

below_join : (a : ℕ) (l m : List ℕ) → AreBelow a l → AreBelow a m → AreBelow a (l ++ m)
below_join a [] m p q = q
below_join a (x ∷ l) m p q = (p.0, below_join a l m p.1 q)

pub below_first : (a : ℕ) (b : List ℕ) → FallsStrictly (a ∷ b) → AreBelow a b
below_first a [] f = tt
below_first a (c ∷ b) f = let h : c < a = f.0 in (f.0, lower c b h (below_first c b f.1))
  where
    lower : (c : ℕ) (b : List ℕ) → c < a → AreBelow c b → AreBelow a b
    lower c [] h p = tt
    lower c (d ∷ b) h p = let g : d < c = p.0 in (omega arith, lower c b h p.1)

pub strict_front : (a : ℕ) (l : List ℕ) → AreBelow a l → FallsStrictly l → FallsStrictly (a ∷ l)
strict_front a [] p f = tt
strict_front a (x ∷ l) p f = (p.0, f)

kept_below : (n r a : ℕ) (b : List ℕ) → AreBelow a b → AreBelow (a + r) (kept n r b)
kept_below n r a [] p = tt
kept_below n r a (x ∷ b) p = elim (cases_lt (x + r) n) [
  | inl h ↦ let l : x < a = p.0 in subst (AreBelow (a + r)) (sym (kept_case n r x b h).0) (omega arith, kept_below n r a b p.1)
  | inr h ↦ subst (AreBelow (a + r)) (sym (wrapped_case n r x b h).0) (kept_below n r a b p.1)
]

kept_small : (n r : ℕ) (b : List ℕ) → AreBelow n (kept n r b)
kept_small n r [] = tt
kept_small n r (x ∷ b) = elim (cases_lt (x + r) n) [
  | inl h ↦ subst (AreBelow n) (sym (kept_case n r x b h).0) (h, kept_small n r b)
  | inr h ↦ subst (AreBelow n) (sym (wrapped_case n r x b h).0) (kept_small n r b)
]

wrapped_below : (n r a : ℕ) (b : List ℕ) → AreBelow a b → n ≤ a + r → AreBelow (a + r - n) (wrapped n r b)
wrapped_below n r a [] p g = tt
wrapped_below n r a (x ∷ b) p g = elim (cases_lt (x + r) n) [
  | inl h ↦ subst (AreBelow (a + r - n)) (sym (kept_case n r x b h).1) (wrapped_below n r a b p.1 g)
  | inr h ↦ let l : x < a = p.0 in subst (AreBelow (a + r - n)) (sym (wrapped_case n r x b h).1) (omega arith, wrapped_below n r a b p.1 g)
]

wrapped_low : (n r a : ℕ) (b : List ℕ) → AreBelow n b → r ≤ a → AreBelow a (wrapped n r b)
wrapped_low n r a [] p g = tt
wrapped_low n r a (x ∷ b) p g = elim (cases_lt (x + r) n) [
  | inl h ↦ subst (AreBelow a) (sym (kept_case n r x b h).1) (wrapped_low n r a b p.1 g)
  | inr h ↦ let l : x < n = p.0 in subst (AreBelow a) (sym (wrapped_case n r x b h).1) (omega arith, wrapped_low n r a b p.1 g)
]

kept_above : (n r a : ℕ) (b : List ℕ) → a < r → AreAbove a (kept n r b)
kept_above n r a [] g = tt
kept_above n r a (x ∷ b) g = elim (cases_lt (x + r) n) [
  | inl h ↦ subst (AreAbove a) (sym (kept_case n r x b h).0) (omega arith, kept_above n r a b g)
  | inr h ↦ subst (AreAbove a) (sym (wrapped_case n r x b h).0) (kept_above n r a b g)
]

strict_middle : (h : ℕ) (l m : List ℕ) → AreAbove h l → AreBelow h m → FallsStrictly (l ++ m) → FallsStrictly (l ++ (h ∷ m))
strict_middle h [] m p q f = strict_front h m q f
strict_middle h (a ∷ []) m p q f = (p.0, strict_front h m q (strict_tail a m f))
strict_middle h (a ∷ c ∷ l) m p q f = (f.0, strict_middle h (c ∷ l) m p.1 q f.1)

pub rotated_strict : (n r : ℕ) (b : List ℕ) → FallsStrictly b → AreBelow n b → FallsStrictly (kept n r b ++ wrapped n r b)
rotated_strict n r [] f u = tt
rotated_strict n r (x ∷ b) f u = by (cases_lt (x + r) n) (rotated_strict n r b (strict_tail x b f) u.1)
  where
    p : AreBelow x b
    p = below_first x b f

    low : x < n
    low = u.0

    by : (x + r < n) ⊎ (n ≤ x + r) → FallsStrictly (kept n r b ++ wrapped n r b) → FallsStrictly (kept n r (x ∷ b) ++ wrapped n r (x ∷ b))
    by (inl h) s =
        let e = kept_case n r x b h in
        subst FallsStrictly (sym (ap₂ ◌++◌ e.0 e.1))
        (strict_front (x + r) (kept n r b ++ wrapped n r b) (below_join (x + r) (kept n r b) (wrapped n r b) (kept_below n r x b p) (wrapped_low n r (x + r) b u.1 (omega arith))) s)
    by (inr h) s =
        let e = wrapped_case n r x b h in
        let g : x + r - n < r = omega arith in
        subst FallsStrictly (sym (ap₂ ◌++◌ e.0 e.1))
        (strict_middle (x + r - n) (kept n r b) (wrapped n r b) (kept_above n r (x + r - n) b g) (wrapped_below n r x b p h) s)

pub rotated_below : (n r : ℕ) (b : List ℕ) → AreBelow n b → r ≤ n → AreBelow n (kept n r b ++ wrapped n r b)
rotated_below n r b u h = below_join n (kept n r b) (wrapped n r b) (kept_small n r b) (wrapped_low n r n b u h)

pub none_wrapped : (n r x : ℕ) (b : List ℕ) → x + r < n → AreBelow x b → wrapped n r b ≡ []
none_wrapped n r x [] h p = refl
none_wrapped n r x (y ∷ b) h p =
    let l : y < x = p.0 in
    (kept_case n r y b (omega arith)).1 ∙ none_wrapped n r x b h p.1

rotated_remainders : (n r : ℕ) (b : List ℕ) → r ≤ n → FallsStrictly b → AreBelow n b → remainders n (raised r b) ≡ wrapped n r b ++ kept n r b
rotated_remainders n r [] g f u = refl
rotated_remainders n r (x ∷ b) g f u = by (cases_lt (x + r) n) (rotated_remainders n r b g (strict_tail x b f) u.1)
  where
    low : x < n
    low = u.0

    by : (x + r < n) ⊎ (n ≤ x + r) → remainders n (raised r b) ≡ wrapped n r b ++ kept n r b → remainders n (raised r (x ∷ b)) ≡ wrapped n r (x ∷ b) ++ kept n r (x ∷ b)
    by (inl h) e =
        let c = kept_case n r x b h in
        let none = none_wrapped n r x b h (below_first x b f) in
        ap₂ ◌∷◌ (mod-eq_of_lt h) (e ∙ ap (λ l. l ++ kept n r b) none)
        ∙ sym (ap₂ ◌++◌ (c.1 ∙ none) c.0)
    by (inr h) e =
        let c = wrapped_case n r x b h in
        let m : (x + r) % n ≡ x + r - n = mod-eq-sub-mod h ∙ mod-eq_of_lt (omega arith) in
        ap₂ ◌∷◌ m e ∙ sym (ap₂ ◌++◌ c.1 c.0)

-- ---- sorting the remainders of the raised list gives the rotated list; the number of increasing pairs of the remainders

pub sorted_moved : (x : ℕ) (l m : List ℕ) → sorted_falling (x ∷ (l ++ m)) ≡ sorted_falling (l ++ (x ∷ m))
sorted_moved x [] m = refl
sorted_moved x (c ∷ l) m = sorted-exchange [] x c (l ++ m) ∙ ap (put_falling c) (sorted_moved x l m)

pub sorted_turned : (l m : List ℕ) → sorted_falling (l ++ m) ≡ sorted_falling (m ++ l)
sorted_turned [] m = ap sorted_falling (sym (append-nil m))
sorted_turned (x ∷ l) m = ap (put_falling x) (sorted_turned l m) ∙ sorted_moved x m l

pub greater_above : (a : ℕ) (l : List ℕ) → AreAbove a l → greater a l ≡ length l
greater_above a [] p = refl
greater_above a (x ∷ l) p =
    let h = p.0 in
    let e : nat_lt a x ≡ true = grind (arith, nat_tests) in
    let c = ap (λ t. cond {A = ℕ} t 1 0) e in
    let r = greater_above a l p.1 in
    omega arith

pub greater_past : (a : ℕ) (m l : List ℕ) → AreBelow a m → greater a (m ++ l) ≡ greater a l
greater_past a [] l p = refl
greater_past a (x ∷ m) l p =
    let h : x < a = p.0 in
    let e : nat_lt a x ≡ false = grind (arith, nat_tests) in
    let c = ap (λ t. cond {A = ℕ} t 1 0) e in
    let r = greater_past a m l p.1 in
    omega arith

below_parts : (a h : ℕ) (l m : List ℕ) → AreBelow a (l ++ (h ∷ m)) → (h < a) × AreBelow a (l ++ m)
below_parts a h [] m p = p
below_parts a h (x ∷ l) m p = let q = below_parts a h l m p.1 in (q.0, (p.0, q.1))

-- the parts of a strictly decreasing list before and after one of its entries h
pub record AreParts (h : ℕ) (l m : List ℕ) : Type 0 where
  pub above : AreAbove h l
  pub below : AreBelow h m
  pub strict : FallsStrictly (l ++ m)

pub strict_parts : (h : ℕ) (l m : List ℕ) → FallsStrictly (l ++ (h ∷ m)) → AreParts h l m
strict_parts h [] m f = record { above = tt; below = below_first h m f; strict = strict_tail h m f }
strict_parts h (a ∷ l) m f =
    let r = strict_parts h l m (strict_tail a (l ++ (h ∷ m)) f) in
    let p = below_parts a h l m (below_first a (l ++ (h ∷ m)) f) in
    record { above = (p.0, r.above); below = r.below; strict = strict_front a (l ++ m) p.1 r.strict }

turned_pairs : (l m : List ℕ) → FallsStrictly (l ++ m) → rising_pairs (m ++ l) ≡ length m * length l
turned_pairs l [] f = let e = strict_pairs l (subst FallsStrictly (append-nil l) f) in omega arith
turned_pairs l (h ∷ m) f =
    let p = strict_parts h l m f in
    let e = greater_past h m l p.below ∙ greater_above h l p.above in
    let r = turned_pairs l m p.strict in
    omega arith

-- ---- the reduction of a partition whose beta list lies in a window of n numbers

none_alike : (n t x : ℕ) (b : List ℕ) → FallsStrictly (x ∷ b) → LieIn n t (x ∷ b) → alike n x b ≡ 0
none_alike n t x [] f w = refl
none_alike n t x (y ∷ b) f w =
    let h : y < x = f.0 in
    let a = w.1 in
    let c = w.2.0 in
    alike-past n x y b (λ e. between_unlike n x y h (omega arith) (sym e))
    ∙ none_alike n t x b (strict_second x y b f) (w.0, w.1, w.2.2)

window_lowest : (n t : ℕ) (b : List ℕ) → FallsStrictly b → LieIn n t b → lowest n b ≡ remainders n b
window_lowest n t [] f w = refl
window_lowest n t (x ∷ b) f w =
    let e = ap (λ a. x % n + a * n) (none_alike n t x b f w) in
    ap₂ ◌∷◌ (e ∙ omega arith) (window_lowest n t b (strict_tail x b f) w.2)

pub narrow_columns : (k n : ℕ) (l : List ℕ) → k ≤ n → length l ≡ k → FallsStrictly l → AreBelow n l → k + columns (from_beta l) ≤ n
narrow_columns k n [] h e f u = omega arith
narrow_columns k n (a ∷ l) h e f u =
    let r = rest_within a l f in
    let p : part (from_beta (a ∷ l)) 1 ≡ a - length l = part-from_beta (a ∷ l) 1 in
    let b : a < n = u.0 in
    omega arith

pub same_multiple : (n p q : ℕ) → 1 ≤ n → p * n ≡ q * n → p ≡ q
same_multiple n p q h e = search rules

pub window_reduced : (k n t w : ℕ) (c e : List ℕ) → 1 ≤ n → k ≤ n → length c ≡ k → FallsStrictly c → LieIn n t c
    → sorted_falling (remainders n c) ≡ e → FallsStrictly e → length e ≡ k → AreBelow n e → size c ≡ size e + w * n
    → reduction_by_remainders k n (from_beta c) ≡ Some (from_beta e, minus_one_to (w * (k + 1) + rising_pairs (remainders n c)), w)
window_reduced k n t w c e h g long f lies sorts strict short below sum =
    narrow k n (from_beta c) few
    ∙ ap₂ (λ x y. Some (x, minus_one_to (y * (k + 1) + rising_pairs (lowest n (beta k (from_beta c)))), y)) end power
    ∙ ap (λ l. Some (from_beta e, minus_one_to (w * (k + 1) + rising_pairs l), w)) low
  where
    shape : IsShape k (from_beta c)
    shape = shape_of_strict k c long f

    own : beta k (from_beta c) ≡ c
    own = ap (λ m. beta m (from_beta c)) (sym long) ∙ beta-from_beta c f

    low : lowest n (beta k (from_beta c)) ≡ remainders n c
    low = ap (lowest n) own ∙ window_lowest n t c f lies

    end : end_of k n (from_beta c) ≡ from_beta e
    end = ap (λ l. from_beta (sorted_falling l)) low ∙ ap from_beta sorts

    few : k + columns (end_of k n (from_beta c)) ≤ n
    few = subst (λ l. k + columns l ≤ n) (sym end) (narrow_columns k n e g short strict below)

    power : power_of k n (from_beta c) ≡ w
    power =
        let cells = goes_cells k n (from_beta c) (end_of k n (from_beta c)) (end_sign k n (from_beta c)) (power_of k n (from_beta c)) (goes_to_end k n (from_beta c) h shape.partition shape.few) in
        let first = size-from_beta c f in
        let second = size-from_beta e strict in
        let rho : size (staircase (length c)) ≡ size (staircase (length e)) = ap (λ m. size (staircase m)) (long ∙ sym short) in
        let ends : size (end_of k n (from_beta c)) ≡ size (from_beta e) = ap size end in
        same_multiple n (power_of k n (from_beta c)) w h (omega arith)

-- ---- the reduction of a partition with r columns of k rows in front of it

pub raised_strict : (r : ℕ) (b : List ℕ) → FallsStrictly b → FallsStrictly (raised r b)
raised_strict r [] f = tt
raised_strict r (a ∷ []) f = tt
raised_strict r (a ∷ c ∷ b) f = let h : c < a = f.0 in (omega arith, raised_strict r (c ∷ b) f.1)

raised_lies : (n r : ℕ) (b : List ℕ) → AreBelow n b → LieIn n r (raised r b)
raised_lies n r [] u = tt
raised_lies n r (x ∷ b) u = let h : x < n = u.0 in (omega arith, omega arith, raised_lies n r b u.1)

raised_size : (r : ℕ) (b : List ℕ) → size (raised r b) ≡ size b + r * length b
raised_size r [] = omega arith
raised_size r (x ∷ b) = let e = raised_size r b in omega arith

raised_again : (n r : ℕ) (b : List ℕ) → remainders n (raised r b) ≡ remainders n (raised (r % n) b)
raised_again n r [] = refl
raised_again n r (x ∷ b) = ap₂ ◌∷◌ (sym (add-mod-mod x r n)) (raised_again n r b)

pub size_append : (l m : List ℕ) → size (l ++ m) ≡ size l + size m
size_append [] m = omega arith
size_append (x ∷ l) m = let e = size_append l m in omega arith

-- the numbers of entries, and the sums
pub rotated_length : (n r : ℕ) (b : List ℕ) → length (kept n r b) + length (wrapped n r b) ≡ length b
rotated_length n r [] = omega arith
rotated_length n r (x ∷ b) = elim (cases_lt (x + r) n) [
  | inl h ↦ let c = kept_case n r x b h in let k = ap length c.0 in let w = ap length c.1 in let e = rotated_length n r b in omega arith
  | inr h ↦ let c = wrapped_case n r x b h in let k = ap length c.0 in let w = ap length c.1 in let e = rotated_length n r b in omega arith
]

rotated_size : (n r : ℕ) (b : List ℕ) → size b + r * length b ≡ (size (kept n r b) + size (wrapped n r b)) + length (wrapped n r b) * n
rotated_size n r [] = omega arith
rotated_size n r (x ∷ b) = elim (cases_lt (x + r) n) [
  | inl h ↦ let c = kept_case n r x b h in let k = ap size c.0 in let w = ap size c.1 in let l = ap (λ m. length m * n) c.1 in let e = rotated_size n r b in omega arith
  | inr h ↦ let c = wrapped_case n r x b h in let k = ap size c.0 in let w = ap size c.1 in let l = ap (λ m. length m * n) c.1 in let e = rotated_size n r b in omega arith
]

half_of : (w : ℕ) → (h : ℕ) × (w * (w + 1) ≡ h * 2)
half_of zero = (0, omega arith)
half_of (suc w) = let r = half_of w in let e = r.1 in (r.0 + (w + 1), omega arith)

turned_sign : (k w l j : ℕ) → l + w ≡ k → minus_one_to ((w + j * k) * (k + 1) + w * l) ≡ pos 1
turned_sign k w l j e = sign-even ((w + j * k) * (k + 1) + w * l) (ap (λ m. m % 2) is ∙ mul-mod_left (a.0 + w * l + j * b.0) 2)
  where
    a : (h : ℕ) × (w * (w + 1) ≡ h * 2)
    a = half_of w

    b : (h : ℕ) × (k * (k + 1) ≡ h * 2)
    b = half_of k

    is : (w + j * k) * (k + 1) + w * l ≡ (a.0 + w * l + j * b.0) * 2
    is =
        let c = a.1 in
        let d : j * (k * (k + 1)) ≡ j * (b.0 * 2) = ap (λ m. j * m) b.1 in
        let f : w * (k + 1) ≡ w * (l + w + 1) = ap (λ m. w * (m + 1)) (sym e) in
        omega arith

pub inside_below : (k n : ℕ) (parts : List ℕ) → IsInside k n parts → AreBelow n (beta k parts)
inside_below zero n parts p = tt
inside_below (suc k) n parts p =
    let h = p.narrow in
    below_all (part parts 1 + (suc k - 1)) n (drop 1 (beta (suc k) parts)) (omega arith) (beta_strict (suc k) parts p.partition.falls)
  where
    below_all : (a n : ℕ) (b : List ℕ) → a < n → FallsStrictly (a ∷ b) → AreBelow n (a ∷ b)
    below_all a n [] h f = (h, tt)
    below_all a n (c ∷ b) h f = let g : c < a = f.0 in (h, below_all c n b (omega arith) f.1)

pub reduced_widened : (k n r : ℕ) (parts : List ℕ) → 1 ≤ n → IsInside k n parts
    → reduction_by_remainders k n (widened k r parts) ≡ Some (rotated k n (r % n) parts, pos 1, wraps k n (r % n) parts + r / n * k)
reduced_widened k n r parts h p =
    window_reduced k n r w (raised r b) e h (let l = p.narrow in omega arith) (length-map b (λ x. x + r) ∙ length-beta k parts) (raised_strict r b f) (raised_lies n r b u)
    (ap sorted_falling rest ∙ sorted_turned (wrapped n s b) (kept n s b) ∙ sorted-falling e (strict_falls e strict)) strict
    (length-append (kept n s b) (wrapped n s b) ∙ rotated_length n s b ∙ length-beta k parts) (rotated_below n s b u small) sum
    ∙ ap (λ z. Some (from_beta e, z, w))
    (ap (λ m. minus_one_to (w * (k + 1) + m)) (ap rising_pairs rest ∙ turned_pairs (kept n s b) (wrapped n s b) strict)
    ∙ turned_sign k (length (wrapped n s b)) (length (kept n s b)) (r / n) (rotated_length n s b ∙ length-beta k parts))
  where
    b : List ℕ
    b = beta k parts

    s : ℕ
    s = r % n

    w : ℕ
    w = wraps k n (r % n) parts + r / n * k

    e : List ℕ
    e = kept n (r % n) (beta k parts) ++ wrapped n (r % n) (beta k parts)

    f : FallsStrictly (beta k parts)
    f = beta_strict k parts p.partition.falls

    u : AreBelow n (beta k parts)
    u = inside_below k n parts p

    small : r % n ≤ n
    small = let l = mod-lt r h in omega arith

    strict : FallsStrictly (kept n (r % n) (beta k parts) ++ wrapped n (r % n) (beta k parts))
    strict = rotated_strict n (r % n) (beta k parts) f u

    rest : remainders n (raised r (beta k parts)) ≡ wrapped n (r % n) (beta k parts) ++ kept n (r % n) (beta k parts)
    rest = raised_again n r (beta k parts) ∙ rotated_remainders n (r % n) (beta k parts) small f u

    sum : size (raised r (beta k parts)) ≡ size (kept n (r % n) (beta k parts) ++ wrapped n (r % n) (beta k parts)) + (wraps k n (r % n) parts + r / n * k) * n
    sum =
        let a = raised_size r b in
        let c = rotated_size n s b in
        let d = size_append (kept n s b) (wrapped n s b) in
        let q = div-add-mod' r n in
        let z : length b ≡ k = length-beta k parts in
        let v : r * length b ≡ (r / n * n + r % n) * length b = ap (λ m. m * length b) (sym q) in
        let y : (r / n * n) * length b ≡ (r / n * n) * k = ap (λ m. (r / n * n) * m) z in
        omega arith

pub inside_rotated : (k n r : ℕ) (parts : List ℕ) → r ≤ n → IsInside k n parts → IsInside k n (rotated k n r parts)
inside_rotated k n r parts h p = record {
  partition = shape.partition;
  few = shape.few;
  narrow = narrow_columns k n e (let l = p.narrow in omega arith) long strict (rotated_below n r (beta k parts) u h);
}
  where
    e : List ℕ
    e = kept n r (beta k parts) ++ wrapped n r (beta k parts)

    u : AreBelow n (beta k parts)
    u = inside_below k n parts p

    strict : FallsStrictly (kept n r (beta k parts) ++ wrapped n r (beta k parts))
    strict = rotated_strict n r (beta k parts) (beta_strict k parts p.partition.falls) u

    long : length (kept n r (beta k parts) ++ wrapped n r (beta k parts)) ≡ k
    long = length-append (kept n r (beta k parts)) (wrapped n r (beta k parts)) ∙ rotated_length n r (beta k parts) ∙ length-beta k parts

    shape : IsShape k (rotated k n r parts)
    shape = shape_of_strict k (kept n r (beta k parts) ++ wrapped n r (beta k parts)) long strict

pub below_itself : (n : ℕ) (b : List ℕ) → AreBelow n b → remainders n b ≡ b
below_itself n [] u = refl
below_itself n (x ∷ b) u = ap₂ ◌∷◌ (mod-eq_of_lt u.0) (below_itself n b u.1)

pub below_lies : (n : ℕ) (b : List ℕ) → AreBelow n b → LieIn n 0 b
below_lies n [] u = tt
below_lies n (x ∷ b) u = let h : x < n = u.0 in (omega arith, omega arith, below_lies n b u.1)

pub reduced_itself : (k n : ℕ) (parts : List ℕ) → 1 ≤ n → IsInside k n parts → reduction_by_remainders k n parts ≡ Some (parts, pos 1, 0)
reduced_itself k n parts h p =
    let b = beta k parts in
    let f = beta_strict k parts p.partition.falls in
    let u = inside_below k n parts p in
    let rest = below_itself n b u in
    let own = from_beta-beta k parts p.partition p.few in
    ap (reduction_by_remainders k n) (sym own)
    ∙ window_reduced k n 0 0 b b h (let l = p.narrow in omega arith) (length-beta k parts) f (below_lies n b u)
    (ap sorted_falling rest ∙ sorted-falling b (strict_falls b f)) f (length-beta k parts) u (omega arith)
    ∙ ap₂ (λ e m. Some (e, minus_one_to (0 * (k + 1) + m), 0)) own (ap rising_pairs rest ∙ strict_pairs b f)
    ∙ ap (λ m. Some (parts, minus_one_to m, 0)) (let e : 0 * (k + 1) + 0 ≡ 0 = omega arith in e)

pub remainders_small : (n : ℕ) (b : List ℕ) → 1 ≤ n → AreBelow n (remainders n b)
remainders_small n [] h = tt
remainders_small n (x ∷ b) h = (mod-lt x h, remainders_small n b h)
