-- The number of inversions of a list after two of its letters are exchanged: with d = 1 + 2·(the number of letters between them both in place and in
-- value), it increases by d if the left one of the two letters is smaller, and otherwise decreases by d.
use Rattle.std.proofs.Common.{◌≡◌, ℕ, zero, suc, ◌+◌, ◌-◌, ◌*◌, ◌<◌, ◌≤◌, ◌&&◌, ◌||◌, ◌==◌, nat_lt, Bool, true, false, not, List, [], ◌∷◌, length, take, drop, get_or, set, refl, sym, ap, ap₂, ◌∙◌, subst, arith, cond, inl, inr, eq-eqb, add-one, count_by}
use Rattle.std.specs.List.{swap, list_any}
use Rattle.std.proofs.lemmas.List.{take-set-le, get_or_default}
use Rattle.std.proofs.lemmas.List.Sums.{sum_by-cons}
use Rattle.std.proofs.lemmas.Bool.{cases_lt, lt-ltb, ne_eqb, le-ltb, cond_below}
use Rattle.sym_model.specs.Sum.{Among, Once}
use Rattle.sym_model.specs.PlaceOrders.{smaller, inversions}
use Rattle.sym_model.proofs.Numbers.{counts-not_less}
use Rattle.schubert_laws.proofs.MonkFromOne.{swap_is}
use Rattle.schubert_laws.proofs.Transition.{once_get}
use Rattle.schubert_laws.proofs.Swaps.{swap_at, length-swap_at, smaller_swap, once_swap, swap_twice, get_swap_left, get_swap_right, among_get}

-- whether the letter a is greater than low and smaller than high
abbrev pub lies_between : ℕ → ℕ → ℕ → Bool
lies_between low high a = nat_lt low a && nat_lt a high

-- the number of the first n letters of w that are greater than low and smaller than high
abbrev between : ℕ → ℕ → ℕ → List ℕ → ℕ
between low high n w = count_by (lies_between low high) (take n w)

within_both : (low high a : ℕ) → low < a → a < high → cond {A = ℕ} (lies_between low high a) 1 0 ≡ 1
within_both low high a h l = ap₂ (λ s t. cond {A = ℕ} (s && t) 1 0) (lt-ltb low a h) (lt-ltb a high l)

below_both : (low high a : ℕ) → a ≤ low → cond {A = ℕ} (lies_between low high a) 1 0 ≡ 0
below_both low high a h = ap (λ s. cond {A = ℕ} (s && nat_lt a high) 1 0) (le-ltb low a h)

above_both : (low high a : ℕ) → low < a → high ≤ a → cond {A = ℕ} (lies_between low high a) 1 0 ≡ 0
above_both low high a h l = ap₂ (λ s t. cond {A = ℕ} (s && t) 1 0) (lt-ltb low a h) (le-ltb a high l)

one_letter : (low high a : ℕ) → low < high → (low ≡ a → ⊥) → (a ≡ high → ⊥)
    → cond {A = ℕ} (nat_lt a high) 1 0 + cond {A = ℕ} (nat_lt low a) 1 0
    ≡ cond {A = ℕ} (nat_lt a low) 1 0 + cond {A = ℕ} (nat_lt high a) 1 0 + 2 * cond {A = ℕ} (lies_between low high a) 1 0
one_letter low high a h n m = elim (cases_lt low a) [
  | inl p ↦ elim (cases_lt a high) [
    | inl q ↦
        let x = sym (cond_below {X = ℕ} a high 1 0 q) in
        let y = sym (cond_below {X = ℕ} low a 1 0 p) in
        let z = counts-not_less a low (omega arith) in
        let t = counts-not_less high a (omega arith) in
        let b = within_both low high a p q in
        omega arith
    | inr q ↦
        let x = counts-not_less a high q in
        let y = sym (cond_below {X = ℕ} low a 1 0 p) in
        let z = counts-not_less a low (omega arith) in
        let t = sym (cond_below {X = ℕ} high a 1 0 (omega (arith, m))) in
        let b = above_both low high a p q in
        omega arith
  ]
  | inr p ↦
      let x = sym (cond_below {X = ℕ} a high 1 0 (omega arith)) in
      let y = counts-not_less low a p in
      let z = sym (cond_below {X = ℕ} a low 1 0 (omega (arith, n))) in
      let t = counts-not_less high a (omega arith) in
      let b = below_both low high a p in
      omega arith
]

first_swapped : (x b : ℕ) (w : List ℕ) → b < length w → Once (x ∷ w) → x < get_or w b x
    → smaller (get_or w b x) (set w b x) + inversions (set w b x)
    ≡ smaller x w + inversions w + 1 + 2 * between x (get_or w b x) b w
first_swapped x b [] l o h = absurd (omega arith)
first_swapped x zero (y ∷ w) l o h =
    let p = sym (cond_below {X = ℕ} x y 1 0 h) in
    let q = counts-not_less y x (omega arith) in
    omega arith
first_swapped x (suc b) (z ∷ w) l o h =
    let r = first_swapped x b w (omega arith) (λ m. o.0 (inr m), o.1.1) h in
    let s = smaller_swap z zero (suc b) (x ∷ w) in
    let n = one_letter x (get_or w b x) z h (λ e. o.0 (inl e)) (λ e. o.1.0 (subst (λ v. Among v w) (sym e) (among_get b x w (omega arith)))) in
    let k = sum_by-cons (λ a. cond (lies_between x (get_or w b x) a) 1 0) z (take b w) in
    omega arith

swapped_rising : (a b n d : ℕ) (w : List ℕ) → b ≡ suc a + n → b < length w → Once w → get_or w a d < get_or w b d
    → inversions (swap_at a b w) ≡ inversions w + 1 + 2 * between (get_or w a d) (get_or w b d) n (drop (suc a) w)
swapped_rising a b n d [] e l o h = absurd (omega arith)
swapped_rising a zero n d (x ∷ w) e l o h = absurd (omega arith)
swapped_rising zero (suc b) n d (x ∷ w) e l o h =
    let inside : b < length w = omega arith in
    let g = get_or_default w b d x inside in
    let m : b ≡ n = omega arith in
    let r = first_swapped x b w inside o (subst (λ y. x < y) g h) in
    let q = ap₂ (λ y k. between x y k w) (sym g) m in
    omega arith
swapped_rising (suc a) (suc b) n d (x ∷ w) e l o h =
    let r = swapped_rising a b n d w (omega arith) (omega arith) o.1 h in
    let s = smaller_swap x a b w in
    omega arith

same_between : (a b n : ℕ) (w : List ℕ) → b ≡ suc a + n → take n (drop (suc a) (swap_at a b w)) ≡ take n (drop (suc a) w)
same_between a b n [] e = refl
same_between a zero n (x ∷ w) e = absurd (omega arith)
same_between zero (suc b) n (x ∷ w) e = take-set-le n w b x (omega arith)
same_between (suc a) (suc b) n (x ∷ w) e = same_between a b n w (omega arith)

swapped_falling : (a b n d : ℕ) (w : List ℕ) → b ≡ suc a + n → b < length w → Once w → get_or w b d < get_or w a d
    → inversions w ≡ inversions (swap_at a b w) + 1 + 2 * between (get_or w b d) (get_or w a d) n (drop (suc a) w)
swapped_falling a b n d w e l o f =
    let h : a < b = omega arith in
    let inside : a < length w = omega arith in
    let x = get_swap_left a b d w inside l in
    let y = get_swap_right a b d w inside l in
    sym (ap inversions (swap_twice a b w inside l))
    ∙ swapped_rising a b n d (swap_at a b w) e (omega (arith, length-swap_at a b w)) (once_swap a b w inside l o) (omega arith)
    ∙ ap₂ (λ low high. inversions (swap_at a b w) + 1 + 2 * between low high n (drop (suc a) (swap_at a b w))) x y
    ∙ ap (λ v. inversions (swap_at a b w) + 1 + 2 * count_by (lies_between (get_or w b d) (get_or w a d)) v) (same_between a b n w e)

-- if the letter of w at a is smaller than that at b > a, exchanging them adds 1 to the number of inversions, and 2 for each letter between them both
-- in place and in value, stated with `count_by`
pub rising_count : (a b : ℕ) (w : List ℕ) → a < b → b < length w → Once w → get_or w a 0 < get_or w b 0
    → inversions (swap w a b)
    ≡ inversions w + 1 + 2 * count_by (lies_between (get_or w a 0) (get_or w b 0)) (take (b - (a + 1)) (drop (a + 1) w))
rising_count a b w h l o f =
    ap inversions (swap_is w a b (omega arith) l) ∙ swapped_rising a b (b - suc a) 0 w (omega arith) l o f
    ∙ ap (λ k. inversions w + 1 + 2 * count_by (lies_between (get_or w a 0) (get_or w b 0)) (take (b - k) (drop k w))) (sym (add-one a))

pub falling_count : (a b : ℕ) (w : List ℕ) → a < b → b < length w → Once w → get_or w b 0 ≤ get_or w a 0
    → inversions w
    ≡ inversions (swap w a b) + 1 + 2 * count_by (lies_between (get_or w b 0) (get_or w a 0)) (take (b - (a + 1)) (drop (a + 1) w))
falling_count a b w h l o f =
    let d : get_or w a 0 ≡ get_or w b 0 → ⊥ = λ e. let q = once_get w a b o (omega arith) l e in omega arith in
    swapped_falling a b (b - suc a) 0 w (omega arith) l o (omega (arith, d))
    ∙ ap (λ k. inversions (swap_at a b w) + 1 + 2 * count_by (lies_between (get_or w b 0) (get_or w a 0)) (take (b - k) (drop k w))) (sym (add-one a))
    ∙ ap (λ v. inversions v + 1 + 2 * count_by (lies_between (get_or w b 0) (get_or w a 0)) (take (b - (a + 1)) (drop (a + 1) w))) (sym (swap_is w a b (omega arith) l))

-- ---- whether an exchange makes one more inversion, as a test of the letters between the exchanged ones

none_step : (t s : Bool) (k : ℕ) → (t || s) ≡ false → (s ≡ false → k ≡ 0) → cond t 1 0 + k ≡ 0
none_step true s k h r = cc
none_step false s k h r = omega (arith, r h)

none_counted : (p : ℕ → Bool) (w : List ℕ) → list_any p w ≡ false → count_by p w ≡ 0
none_counted p [] h = refl
none_counted p (a ∷ w) h = sum_by-cons (λ b. cond (p b) 1 0) a w ∙ none_step (p a) (list_any p w) (count_by p w) h (none_counted p w)

some_step : (t s : Bool) (k : ℕ) → (t || s) ≡ true → (s ≡ true → 0 < k) → 0 < cond t 1 0 + k
some_step true s k h r = omega arith
some_step false s k h r = omega (arith, r h)

some_counted : (p : ℕ → Bool) (w : List ℕ) → list_any p w ≡ true → 0 < count_by p w
some_counted p [] h = cc
some_counted p (a ∷ w) h =
    let s = some_step (p a) (list_any p w) (count_by p w) h (some_counted p w) in
    let k = sum_by-cons (λ b. cond (p b) 1 0) a w in
    omega arith

-- if the letter of w at a is smaller than that at b > a, exchanging them makes exactly one more inversion if and only if no letter at a place between
-- them has a value between them
pub rising_test : (a b : ℕ) (w : List ℕ) → a < b → b < length w → Once w → get_or w a 0 < get_or w b 0
    → not (list_any (lies_between (get_or w a 0) (get_or w b 0)) (take (b - (a + 1)) (drop (a + 1) w)))
    ≡ (inversions (swap w a b) == inversions w + 1)
rising_test a b w h l o f = by (list_any (lies_between (get_or w a 0) (get_or w b 0)) (take (b - (a + 1)) (drop (a + 1) w))) refl
  where
    by : (t : Bool) → list_any (lies_between (get_or w a 0) (get_or w b 0)) (take (b - (a + 1)) (drop (a + 1) w)) ≡ t
        → not t ≡ (inversions (swap w a b) == inversions w + 1)
    by true e =
        let s = some_counted (lies_between (get_or w a 0) (get_or w b 0)) (take (b - (a + 1)) (drop (a + 1) w)) e in
        let c = rising_count a b w h l o f in
        sym (ne_eqb (inversions (swap w a b)) (inversions w + 1) (λ q. omega arith))
    by false e =
        let s = none_counted (lies_between (get_or w a 0) (get_or w b 0)) (take (b - (a + 1)) (drop (a + 1) w)) e in
        let c = rising_count a b w h l o f in
        sym (eq-eqb (inversions (swap w a b)) (inversions w + 1) (omega arith))

pub falling_test : (a b : ℕ) (w : List ℕ) → a < b → b < length w → Once w → get_or w b 0 ≤ get_or w a 0
    → nat_lt (get_or w a 0) (get_or w b 0) ≡ (inversions (swap w a b) == inversions w + 1)
falling_test a b w h l o f =
    let c = falling_count a b w h l o f in
    le-ltb (get_or w a 0) (get_or w b 0) f ∙ sym (ne_eqb (inversions (swap w a b)) (inversions w + 1) (λ q. omega arith))
