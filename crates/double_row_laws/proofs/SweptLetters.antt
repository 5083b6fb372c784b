-- Products of all T - x_j with j at most c, for an operator T, and a double Schubert polynomial, letter by letter: the letters m, m - 1, .., 1 of w are
-- taken in turn. A letter at one of the first c places gives T minus its variable y, and another letter gives 1 minus the sum over the covers that exchange
-- it with one at the first c places (`swept`). φ(E, β, v) stands for T^E·y^β·S_v. Expanded in powers of T, this is the sum over d of (-1)^d·T^(c-d) times
-- the sums of DoubleChainSums with d covers or variables y (`swept_expanded`). Places are counted from 0.
use Rattle.std.proofs.Common.{◌≡◌, ℕ, zero, suc, ◌+◌, ◌<◌, ◌≤◌, List, length, refl, sym, ◌∙◌, ap, ap₂, arith, inl, inr, ◌⊎◌, cond, nat_lt, Bool, true, false, ℤ, pos, ◌+ℤ◌, ◌-ℤ◌, neg_ℤ}
use Rattle.std.proofs.lemmas.Int.{ints}
use Rattle.std.proofs.lemmas.Bool.{cases_eq, cases_lt, lt-ltb, le-ltb}
use Rattle.sym_model.specs.Permutation.{IsOneLine}
use Rattle.sym_model.specs.DividedDifference.{raised}
use Rattle.schubert_laws.specs.Chains.{letters_before}
use Rattle.schubert_laws.proofs.ChainSums.{place_below, letter_there, if_less, if_not_less, up_none, lift, lift_none, lift_some}
use Rattle.schubert_laws.proofs.CoverTests.{letter_at, different, exchanged_at, covers_only_if, up}
use Rattle.schubert_laws.proofs.MonkFromOne.{one_line_swap}
use Rattle.schubert_laws.proofs.MonkStep.{is_cover}
use Rattle.schubert_laws.proofs.PlaceSums.{sum_below_none}
use Rattle.schubert_laws.proofs.Swaps.{swap_at, length-swap_at, among_get}
use Rattle.double_schubert_laws.proofs.InverseSteps.{turned}
use Rattle.double_pieri_laws.proofs.DoubleChainSums.{double_sum, lift_sum}
use Rattle.double_pieri_laws.proofs.UnmovedLetters.{split_sum, split_ext, split_left, lift_at_covers, lift_split}
use Rattle.double_row_laws.proofs.ExpandedRows.{turned_none, turned_plus, turned_next}

-- ---- the number of letters at most m among the first c

abbrev one_if : Bool → ℕ
one_if true = 0
one_if false = 1

abbrev pub small : ℕ → ℕ → List ℕ → ℕ
small zero m w = 0
small (suc c) m w = small c m w + one_if (nat_lt m (letter_at w c))

one_less : (m x : ℕ) → m < x → one_if (nat_lt m x) ≡ 0
one_less m x h = ap one_if (lt-ltb m x h)

one_more : (m x : ℕ) → x ≤ m → one_if (nat_lt m x) ≡ 1
one_more m x h = ap one_if (le-ltb m x h)

one_same : (m x : ℕ) → (x ≡ suc m → ⊥) → one_if (nat_lt (suc m) x) ≡ one_if (nat_lt m x)
one_same m x n = elim (cases_lt m x) [
  | inl h ↦ one_less (suc m) x (omega (arith, n)) ∙ sym (one_less m x h)
  | inr h ↦ one_more (suc m) x (omega arith) ∙ sym (one_more m x h)
]

small_same : (c m b : ℕ) (w : List ℕ) → IsOneLine w → letter_at w b ≡ suc m → c ≤ b → small c (suc m) w ≡ small c m w
small_same zero m b w o t h = refl
small_same (suc c) m b w o t h = ap₂ ◌+◌ (small_same c m b w o t (omega arith)) (one_same m (letter_at w c) (λ e. let d = different w o c b (e ∙ sym t) in omega arith))

small_more : (c m b : ℕ) (w : List ℕ) → IsOneLine w → letter_at w b ≡ suc m → b < c → small c (suc m) w ≡ suc (small c m w)
small_more zero m b w o t h = absurd (omega arith)
small_more (suc c) m b w o t h = elim (cases_eq c b) [
  | inl e ↦
      let l : letter_at w c ≡ suc m = ap (letter_at w) e ∙ t in
      let p = small_same c m b w o t (omega arith) in
      let q = one_more (suc m) (letter_at w c) (omega arith) in
      let r = one_less m (letter_at w c) (omega arith) in
      omega arith
  | inr n ↦
      let p = small_more c m b w o t (omega arith) in
      let q = one_same m (letter_at w c) (λ e. n (different w o c b (e ∙ sym t))) in
      omega arith
]

small_swapped : (c m a b : ℕ) (w : List ℕ) → a < length w → b < length w → c ≤ b → c ≤ a → small c m (swap_at a b w) ≡ small c m w
small_swapped zero m a b w h l p q = refl
small_swapped (suc c) m a b w h l p q =
    ap₂ ◌+◌ (small_swapped c m a b w h l (omega arith) (omega arith))
    (ap (λ x. one_if (nat_lt m x)) ((exchanged_at a b w h l).2 c (λ e. omega arith) (λ e. omega arith)))

small_covered : (c m a b : ℕ) (w : List ℕ) → a < length w → b < length w → c ≤ b → a < c → letter_at w a ≤ m → m < letter_at w b → small c m w ≡ suc (small c m (swap_at a b w))
small_covered zero m a b w h l p q x y = absurd (omega arith)
small_covered (suc c) m a b w h l p q x y = elim (cases_eq c a) [
  | inl e ↦
      let s = small_swapped c m a b w h l (omega arith) (omega arith) in
      let u : letter_at (swap_at a b w) c ≡ letter_at w b = ap (letter_at (swap_at a b w)) e ∙ (exchanged_at a b w h l).0 in
      let v : letter_at w c ≡ letter_at w a = ap (letter_at w) e in
      let r = one_more m (letter_at w c) (omega arith) in
      let t = one_less m (letter_at (swap_at a b w) c) (omega arith) in
      omega arith
  | inr n ↦
      let s = small_covered c m a b w h l (omega arith) (omega arith) x y in
      let u = ap (λ z. one_if (nat_lt m z)) ((exchanged_at a b w h l).2 c n (λ e. omega arith)) in
      omega arith
]

small_none : (c : ℕ) (w : List ℕ) → IsOneLine w → c ≤ length w → small c 0 w ≡ 0
small_none zero w o h = refl
small_none (suc c) w o h =
    let p = small_none c w o (omega arith) in
    let q = (o.letters (letter_at w c) (among_get c (suc c) w (omega arith))).0 in
    let r = one_less 0 (letter_at w c) (omega arith) in
    omega arith

pub small_all : (c m : ℕ) (w : List ℕ) → ((a : ℕ) → a < c → letter_at w a ≤ m) → small c m w ≡ c
small_all zero m w h = refl
small_all (suc c) m w h =
    let p = small_all c m w (λ a i. h a (omega arith)) in
    let q = one_more m (letter_at w c) (h c (omega arith)) in
    omega arith

-- no chain has more covers and variables y than there are such letters
too_many : (m d c : ℕ) (φ : List ℕ → List ℕ → ℤ) (β w : List ℕ) → IsOneLine w → m ≤ length w → c ≤ length w → small c m w < d → double_sum m d c φ β w ≡ pos 0
too_many m zero c φ β w o l g h = absurd (omega arith)
too_many zero (suc d) c φ β w o l g h = refl
too_many (suc m) (suc d) c φ β w o l g h = by (cases_lt (letters_before (suc m) w) c) (λ e x. too_many m (suc d) c φ β w o (omega arith) g e) (λ e. too_many m d c φ (raised (suc m) β) w o (omega arith) g e)
    (λ v x y e. too_many m d c φ β v x (omega arith) (omega arith) e)
  where
    b : ℕ
    b = letters_before (suc m) w

    inside : letters_before (suc m) w < length w
    inside = place_below (suc m) w o (omega arith) l

    top : letter_at w (letters_before (suc m) w) ≡ suc m
    top = letter_there (suc m) w o (omega arith) l

    by : (letters_before (suc m) w < c) ⊎ (c ≤ letters_before (suc m) w) → (small c m w < suc d → ℕ → double_sum m (suc d) c φ β w ≡ pos 0) → (small c m w < d → double_sum m d c φ (raised (suc m) β) w ≡ pos 0)
        → ((v : List ℕ) → IsOneLine v → length v ≡ length w → small c m v < d → double_sum m d c φ β v ≡ pos 0) → double_sum (suc m) (suc d) c φ β w ≡ pos 0
    by (inl f) r s t =
        let n = small_more c m (letters_before (suc m) w) w o top f in
        let x = r (omega arith) 0 in
        let y = s (omega arith) in
        let z = if_less (letters_before (suc m) w) c (double_sum m d c φ (raised (suc m) β) w) (pos 0) f in
        let u = lift_none (λ v. double_sum m d c φ β v) w c (letters_before (suc m) w) f in
        omega (arith, ints)
    by (inr f) r s t =
        let n = small_same c m (letters_before (suc m) w) w o top f in
        let x = r (omega arith) 0 in
        let z = if_not_less (letters_before (suc m) w) c (double_sum m d c φ (raised (suc m) β) w) (pos 0) f in
        let u = lift_some (λ v. double_sum m d c φ β v) w c (letters_before (suc m) w) f
        ∙ sum_below_none c (λ a. up (λ v. double_sum m d c φ β v) w a (letters_before (suc m) w)) (λ a i. up_none (λ v. double_sum m d c φ β v) w a (letters_before (suc m) w) (λ q.
        let p = inside in
        let k = (covers_only_if a (letters_before (suc m) w) w o (omega arith) p q).0 in
        let e = top in
        let j = small_covered c m a (letters_before (suc m) w) w (omega arith) p f i (omega arith) (omega arith) in
        t (swap_at a (letters_before (suc m) w) w) (one_line_swap a (letters_before (suc m) w) w (omega arith) p o) (length-swap_at a (letters_before (suc m) w) w) (omega arith))) in
        omega (arith, ints)

-- ---- letter by letter

abbrev pub swept_sum : ℕ → ℕ → (ℕ → List ℕ → List ℕ → ℤ) → ℕ → List ℕ → List ℕ → ℤ
swept_sum zero c φ E β w = φ E β w
swept_sum (suc m) c φ E β w =
    cond (nat_lt (letters_before (suc m) w) c)
    (swept_sum m c φ (suc E) β w -ℤ swept_sum m c φ E (raised (suc m) β) w)
    (swept_sum m c φ E β w -ℤ lift (λ v. swept_sum m c φ E β v) w c (letters_before (suc m) w))

-- (-1)^d·T^(e + E) times the sum with d covers or variables
abbrev pub power_term : ℕ → ℕ → (ℕ → List ℕ → List ℕ → ℤ) → ℕ → List ℕ → List ℕ → ℕ → ℕ → ℤ
power_term m c φ E β w d e = turned d (double_sum m d c (φ (e + E)) β w)

split_minus : (d : ℕ) (g h : ℕ → ℕ → ℤ) → split_sum d (λ j e. g j e -ℤ h j e) ≡ split_sum d g -ℤ split_sum d h
split_minus zero g h = refl
split_minus (suc d) g h = let r = split_minus d (λ j e. g j (suc e)) (λ j e. h j (suc e)) in omega (arith, ints)

lift_turned : (d : ℕ) (F : List ℕ → ℤ) (w : List ℕ) (k b : ℕ) → lift (λ v. turned d (F v)) w k b ≡ turned d (lift F w k b)
lift_turned zero F w k b = refl
lift_turned (suc d) F w k b = lift_turned d (λ v. neg_ℤ (F v)) w k b ∙ ap (turned d) negated
  where
    negated : lift (λ v. neg_ℤ (F v)) w k b ≡ neg_ℤ (lift F w k b)
    negated =
        let a = lift_sum (λ v. neg_ℤ (F v)) F w k b in
        let c = lift_at_covers (λ v. neg_ℤ (F v) +ℤ F v) (λ v. pos 0) w k b (λ a i j t. omega (arith, ints)) in
        let z = lift_sum (λ v. pos 0) (λ v. pos 0) w k b in
        omega (arith, ints)

pub swept_expanded : (m c : ℕ) (φ : ℕ → List ℕ → List ℕ → ℤ) (E : ℕ) (β w : List ℕ) → IsOneLine w → m ≤ length w → c ≤ length w
    → swept_sum m c φ E β w ≡ split_sum (small c m w) (power_term m c φ E β w)
swept_expanded zero c φ E β w o l g =
    let z : 0 + E ≡ E = omega arith in
    ap (λ i. φ i β w) (sym z) ∙ ap (λ n. split_sum n (power_term zero c φ E β w)) (sym (small_none c w o g))
swept_expanded (suc m) c φ E β w o l g =
    by (cases_lt (letters_before (suc m) w) c) (swept_expanded m c φ (suc E) β w o (omega arith) g) (swept_expanded m c φ E (raised (suc m) β) w o (omega arith) g)
    (swept_expanded m c φ E β w o (omega arith) g) (λ v x y. swept_expanded m c φ E β v x (omega arith) (omega arith))
  where
    inside : letters_before (suc m) w < length w
    inside = place_below (suc m) w o (omega arith) l

    top : letter_at w (letters_before (suc m) w) ≡ suc m
    top = letter_there (suc m) w o (omega arith) l

    stays : letters_before (suc m) w < c → (d e : ℕ) → power_term (suc m) c φ E β w (suc d) e ≡ power_term m c φ E β w (suc d) e -ℤ power_term m c φ E (raised (suc m) β) w d e
    stays f d e =
        let x = if_less (letters_before (suc m) w) c (double_sum m d c (φ (e + E)) (raised (suc m) β) w) (pos 0) f in
        let u = lift_none (λ v. double_sum m d c (φ (e + E)) β v) w c (letters_before (suc m) w) f in
        let s : double_sum (suc m) (suc d) c (φ (e + E)) β w ≡ double_sum m (suc d) c (φ (e + E)) β w +ℤ double_sum m d c (φ (e + E)) (raised (suc m) β) w = omega (arith, ints) in
        let a = ap (turned (suc d)) s ∙ turned_plus (suc d) (double_sum m (suc d) c (φ (e + E)) β w) (double_sum m d c (φ (e + E)) (raised (suc m) β) w) in
        let t = turned_next d (double_sum m d c (φ (e + E)) (raised (suc m) β) w) in
        omega (arith, ints)

    moves : c ≤ letters_before (suc m) w → (d e : ℕ) → power_term (suc m) c φ E β w (suc d) e
        ≡ power_term m c φ E β w (suc d) e -ℤ lift (λ v. power_term m c φ E β v d e) w c (letters_before (suc m) w)
    moves f d e =
        let x = if_not_less (letters_before (suc m) w) c (double_sum m d c (φ (e + E)) (raised (suc m) β) w) (pos 0) f in
        let s : double_sum (suc m) (suc d) c (φ (e + E)) β w ≡ double_sum m (suc d) c (φ (e + E)) β w +ℤ lift (λ v. double_sum m d c (φ (e + E)) β v) w c (letters_before (suc m) w) = omega (arith, ints) in
        let a = ap (turned (suc d)) s ∙ turned_plus (suc d) (double_sum m (suc d) c (φ (e + E)) β w) (lift (λ v. double_sum m d c (φ (e + E)) β v) w c (letters_before (suc m) w)) in
        let t = turned_next d (lift (λ v. double_sum m d c (φ (e + E)) β v) w c (letters_before (suc m) w)) in
        let u = lift_turned d (λ v. double_sum m d c (φ (e + E)) β v) w c (letters_before (suc m) w) in
        omega (arith, ints)

    by : (letters_before (suc m) w < c) ⊎ (c ≤ letters_before (suc m) w)
        → swept_sum m c φ (suc E) β w ≡ split_sum (small c m w) (power_term m c φ (suc E) β w)
        → swept_sum m c φ E (raised (suc m) β) w ≡ split_sum (small c m w) (power_term m c φ E (raised (suc m) β) w)
        → swept_sum m c φ E β w ≡ split_sum (small c m w) (power_term m c φ E β w)
        → ((v : List ℕ) → IsOneLine v → length v ≡ length w → swept_sum m c φ E β v ≡ split_sum (small c m v) (power_term m c φ E β v))
        → swept_sum (suc m) c φ E β w ≡ split_sum (small c (suc m) w) (power_term (suc m) c φ E β w)
    by (inl f) r s t u =
        let n = small c m w in
        let x = if_less (letters_before (suc m) w) c (swept_sum m c φ (suc E) β w -ℤ swept_sum m c φ E (raised (suc m) β) w) (swept_sum m c φ E β w -ℤ lift (λ v. swept_sum m c φ E β v) w c (letters_before (suc m) w)) f in
        let a = split_left (small c m w) (power_term (suc m) c φ E β w) in
        let b = split_ext (small c m w) (λ d e. power_term (suc m) c φ E β w (suc d) e) (λ d e. power_term m c φ E β w (suc d) e -ℤ power_term m c φ E (raised (suc m) β) w d e) (λ d e q. stays f d e) in
        let k = split_minus (small c m w) (λ d e. power_term m c φ E β w (suc d) e) (power_term m c φ E (raised (suc m) β) w) in
        let h = split_left (small c m w) (power_term m c φ E β w) in
        let z = ap (turned (suc (small c m w))) (too_many m (suc (small c m w)) c (φ (0 + E)) β w o (omega arith) g (omega arith)) ∙ turned_none (suc (small c m w)) in
        let y = split_ext (small c m w) (λ d e. power_term m c φ E β w d (suc e)) (power_term m c φ (suc E) β w) (λ d e q. let i : suc e + E ≡ e + suc E = omega arith in ap (λ j. turned d (double_sum m d c (φ j) β w)) i) in
        let p = ap (λ i. split_sum i (power_term (suc m) c φ E β w)) (small_more c m (letters_before (suc m) w) w o top f) in
        omega (arith, ints)
    by (inr f) r s t u =
        if_not_less (letters_before (suc m) w) c _ _ f
        ∙ count (small c m w) refl
        ∙ ap (λ i. split_sum i (power_term (suc m) c φ E β w)) (sym (small_same c m (letters_before (suc m) w) w o top f))
      where
        fewer : (a : ℕ) → a < c → is_cover w a (letters_before (suc m) w) ≡ true → small c m w ≡ suc (small c m (swap_at a (letters_before (suc m) w) w))
        fewer a i q =
            let p = inside in
            let k = (covers_only_if a (letters_before (suc m) w) w o (omega arith) p q).0 in
            let e = top in
            small_covered c m a (letters_before (suc m) w) w (omega arith) p f i (omega arith) (omega arith)

        count : (n : ℕ) → small c m w ≡ n → swept_sum m c φ E β w -ℤ lift (λ v. swept_sum m c φ E β v) w c (letters_before (suc m) w) ≡ split_sum (small c m w) (power_term (suc m) c φ E β w)
        count zero e =
            let x = lift_some (λ v. swept_sum m c φ E β v) w c (letters_before (suc m) w) f
            ∙ sum_below_none c (λ a. up (λ v. swept_sum m c φ E β v) w a (letters_before (suc m) w)) (λ a i. up_none (λ v. swept_sum m c φ E β v) w a (letters_before (suc m) w) (λ q.
            absurd (let k = fewer a i q in omega arith))) in
            let y = ap (λ i. split_sum i (power_term m c φ E β w)) e in
            let z = ap (λ i. split_sum i (power_term (suc m) c φ E β w)) e in
            omega (arith, ints)
        count (suc n) e =
            let p = inside in
            let x = lift_at_covers (λ v. swept_sum m c φ E β v) (λ v. split_sum n (power_term m c φ E β v)) w c (letters_before (suc m) w) (λ a i j q.
            let r = fewer a i q in
            let k : small c m (swap_at a (letters_before (suc m) w) w) ≡ n = omega arith in
            u (swap_at a (letters_before (suc m) w) w) (one_line_swap a (letters_before (suc m) w) w (omega arith) p o) (length-swap_at a (letters_before (suc m) w) w)
            ∙ ap (λ i. split_sum i (power_term m c φ E β (swap_at a (letters_before (suc m) w) w))) k) in
            let y = lift_split n (λ d e v. power_term m c φ E β v d e) w c (letters_before (suc m) w) in
            let a = split_left n (power_term (suc m) c φ E β w) in
            let b = split_ext n (λ d e. power_term (suc m) c φ E β w (suc d) e) (λ d e. power_term m c φ E β w (suc d) e -ℤ lift (λ v. power_term m c φ E β v d e) w c (letters_before (suc m) w)) (λ d e q. moves f d e) in
            let k = split_minus n (λ d e. power_term m c φ E β w (suc d) e) (λ d e. lift (λ v. power_term m c φ E β v d e) w c (letters_before (suc m) w)) in
            let h = split_left n (power_term m c φ E β w) in
            let z = ap (λ i. split_sum i (power_term m c φ E β w)) e in
            let q = ap (λ i. split_sum i (power_term (suc m) c φ E β w)) e in
            omega (arith, ints)
