-- A cover of a permutation w at a place is w with the letter at this place and another letter exchanged, if this has exactly one inversion more than
-- w. The covers are found by trying the places of the other letter one after another. Before that, *fixed letters*, which are equal to their places,
-- are added at the end of w.
use Rattle.std.proofs.Common.{◌≡◌, ℕ, zero, suc, ◌+◌, ◌-◌, ◌<◌, ◌≤◌, ◌==◌, max, Bool, true, false, cond, List, [], ◌∷◌, ◌++◌, map, length, refl, sym, ap, ap₂, ◌∙◌, arith, add-one, filter}
use Rattle.std.specs.List.{swap}
use Rattle.std.proofs.lemmas.List.{append-nil, map_push}
use Rattle.sym_model.specs.Partition.{after}
use Rattle.sym_model.specs.PlaceOrders.{inversions}
use Rattle.sym_model.specs.Permutation.{kept, with_fixed, times_swap, covers_among, covers_up, covers_down}
use Rattle.sym_model.proofs.AfterLists.{after-more}
use Rattle.schubert_laws.proofs.FixedTails.{inversions_kept}
use Rattle.schubert_laws.proofs.MonkFromOne.{swap_is}
use Rattle.schubert_laws.proofs.TransitionFromOne.{times_swap_kept, covers_down_kept, kept_swap}
use Rattle.perm_codes.specs.Limits.{IsShortPermutation, IsWithinLimits}
use Rattle.perm_codes.proofs.WithinLimits.{kept_fixed, length-with_fixed, short_fixed, short_swap}
use Rattle.std.proofs.lemmas.List.Elements.{filter-append}

-- if a < b are indices of w, `times_swap (a + 1) (b + 1) w` is w with the letters at a and b exchanged, without the
-- fixed letters at its end
pub swap_in : (w : List ℕ) (a b : ℕ) → a < b → b < length w → times_swap (a + 1) (b + 1) w ≡ kept (swap w a b)
swap_in w a b h l =
    ap₂ (λ i j. times_swap i j w) (add-one a) (add-one b) ∙ kept_swap w a b h l ∙ ap kept (sym (swap_is w a b (omega arith) l))

-- the covers of w among f(start + 1), .., f(start + n + 1) are those among the first n of these, and then the last one if it has one inversion more
-- than w
pub one_more_place :
    (w : List ℕ) (f : ℕ → List ℕ) (start n : ℕ) (t : Bool) → (inversions (f (start + n + 1)) == inversions w + 1) ≡ t
    → covers_among w (map f (after start (n + 1))) ≡ covers_among w (map f (after start n)) ++ cond t (f (start + n + 1) ∷ []) []
one_more_place w f start n t e =
    ap (λ l. covers_among w (map f l)) (after-more start n)
    ∙ ap (covers_among w) (map_push f (after start n) (start + n + 1))
    ∙ filter-append (λ (v : List ℕ). inversions v == inversions w + 1) (map f (after start n)) ((f (start + n + 1)) ∷ [])
    ∙ ap (λ s. covers_among w (map f (after start n)) ++ cond s (f (start + n + 1) ∷ []) []) e

-- for a permutation w of at most 255 letters and indices a < b, w·t_ij with i = a + 1 and j = b + 1 has one inversion more than w if and only if w
-- with the letters at a and b exchanged has one more
pub test_in :
    (w : List ℕ) (a b : ℕ) → a < b → b < length w → IsShortPermutation w
    → (inversions (times_swap (a + 1) (b + 1) w) == inversions w + 1) ≡ (inversions (swap w a b) == inversions w + 1)
test_in w a b h l s =
    ap (λ n. n == inversions w + 1)
    (ap inversions (swap_in w a b h l) ∙ inversions_kept (swap w a b) (short_swap w a b (omega arith) l s).one_line)

-- ---- fixed letters added to w do not change its covers

map_after : {B : Type 0} (f g : ℕ → B) (a k : ℕ) → ((j : ℕ) → a < j → f j ≡ g j) → map f (after a k) ≡ map g (after a k)
map_after f g a zero h = refl
map_after f g a (suc k) h = ap₂ ◌∷◌ (h (a + 1) (omega arith)) (map_after f g (a + 1) k (λ j l. h j (omega arith)))

same_swap : (w : List ℕ) (n i j : ℕ) → IsWithinLimits w → 1 ≤ i → i < j → times_swap i j (with_fixed n w) ≡ times_swap i j w
same_swap w n i j l h k = sym (times_swap_kept (with_fixed n w) i j h k) ∙ ap (times_swap i j) (kept_fixed n w l)

pub same_inversions : (w : List ℕ) (n : ℕ) → n ≤ 255 → IsWithinLimits w → inversions (with_fixed n w) ≡ inversions w
same_inversions w n h l = sym (inversions_kept (with_fixed n w) (short_fixed n w h l).one_line) ∙ ap inversions (kept_fixed n w l)

pub covers_up_fixed :
    (w : List ℕ) (r n : ℕ) → n ≤ 255 → IsWithinLimits w → 1 ≤ r → n ≡ max (length w) r + 1
    → covers_among (with_fixed n w) (map (λ j. times_swap r j (with_fixed n w)) (after r (length (with_fixed n w) - r))) ≡ covers_up r w
covers_up_fixed w r n h l p e =
    let long : length (with_fixed n w) - r ≡ max (length w) r + 1 - r = omega (arith, length-with_fixed n w) in
    ap (λ k. covers_among (with_fixed n w) (map (λ j. times_swap r j (with_fixed n w)) (after r k))) long
    ∙ ap (covers_among (with_fixed n w)) (map_after (λ j. times_swap r j (with_fixed n w)) (λ j. times_swap r j w) r (max (length w) r + 1 - r) (λ j k. same_swap w n r j l p k))
    ∙ ap (λ c. filter (λ (v : List ℕ). inversions v == c + 1) (map (λ j. times_swap r j w) (after r (max (length w) r + 1 - r)))) (same_inversions w n h l)

pub covers_down_fixed : (w : List ℕ) (r n : ℕ) → n ≤ 255 → IsWithinLimits w → covers_down r (with_fixed n w) ≡ covers_down r w
covers_down_fixed w r n h l =
    sym (covers_down_kept r (with_fixed n w) (short_fixed n w h l).one_line) ∙ ap (covers_down r) (kept_fixed n w l)

-- ---- the covers of w found so far, and after one more place is tried

-- the covers of w that exchange the letter at the index p, counted from 0, with a letter after it among the first q letters
abbrev pub found_up_to : List ℕ → ℕ → ℕ → List (List ℕ)
found_up_to w p q = covers_among w (map (λ j. times_swap (p + 1) j w) (after (p + 1) (q - (p + 1))))

step_above :
    (w : List ℕ) (p q : ℕ) (t : Bool) → p < q → q < length w → IsShortPermutation w
    → (inversions (swap w p q) == inversions w + 1) ≡ t
    → found_up_to w p (q + 1) ≡ found_up_to w p q ++ cond t (times_swap (p + 1) (q + 1) w ∷ []) []
step_above w p q t h l s e =
    let n : (p + 1) + (q - (p + 1)) + 1 ≡ q + 1 = omega arith in
    let k : (q + 1) - (p + 1) ≡ (q - (p + 1)) + 1 = omega arith in
    ap (λ m. covers_among w (map (λ j. times_swap (p + 1) j w) (after (p + 1) m))) k
    ∙ one_more_place w (λ j. times_swap (p + 1) j w) (p + 1) (q - (p + 1)) t
    (ap (λ m. inversions (times_swap (p + 1) m w) == inversions w + 1) n ∙ test_in w p q h l s ∙ e)
    ∙ ap (λ m. found_up_to w p q ++ cond t (times_swap (p + 1) m w ∷ []) []) n

pub found_above :
    (w : List ℕ) (p q : ℕ) (list : List (List ℕ)) (v : List ℕ) → p < q → q < length w → IsShortPermutation w
    → (inversions (swap w p q) == inversions w + 1) ≡ true → list ≡ found_up_to w p q → v ≡ kept (swap w p q)
    → list ++ v ∷ [] ≡ found_up_to w p (q + 1)
found_above w p q list v h l s t e f =
    ap₂ (λ x y. x ++ y ∷ []) e (f ∙ sym (swap_in w p q h l)) ∙ sym (step_above w p q true h l s t)

pub passed_above :
    (w : List ℕ) (p q : ℕ) (list : List (List ℕ)) → p < q → q < length w → IsShortPermutation w
    → (inversions (swap w p q) == inversions w + 1) ≡ false → list ≡ found_up_to w p q → list ≡ found_up_to w p (q + 1)
passed_above w p q list h l s t e = e ∙ sym (append-nil (found_up_to w p q)) ∙ sym (step_above w p q false h l s t)

-- the covers of w that exchange the letter at the index p, counted from 0, with one of the first q letters
abbrev pub found_below_to : List ℕ → ℕ → ℕ → List (List ℕ)
found_below_to w p q = covers_among w (map (λ i. times_swap i (p + 1) w) (after 0 q))

step_below :
    (w : List ℕ) (p q : ℕ) (t : Bool) → q < p → p < length w → IsShortPermutation w
    → (inversions (swap w q p) == inversions w + 1) ≡ t
    → found_below_to w p (q + 1) ≡ found_below_to w p q ++ cond t (times_swap (q + 1) (p + 1) w ∷ []) []
step_below w p q t h l s e =
    let n : 0 + q + 1 ≡ q + 1 = omega arith in
    one_more_place w (λ i. times_swap i (p + 1) w) 0 q t
    (ap (λ m. inversions (times_swap m (p + 1) w) == inversions w + 1) n ∙ test_in w q p h l s ∙ e)
    ∙ ap (λ m. found_below_to w p q ++ cond t (times_swap m (p + 1) w ∷ []) []) n

pub found_below :
    (w : List ℕ) (p q : ℕ) (list : List (List ℕ)) (v : List ℕ) → q < p → p < length w → IsShortPermutation w
    → (inversions (swap w q p) == inversions w + 1) ≡ true → list ≡ found_below_to w p q → v ≡ kept (swap w q p)
    → list ++ v ∷ [] ≡ found_below_to w p (q + 1)
found_below w p q list v h l s t e f =
    ap₂ (λ x y. x ++ y ∷ []) e (f ∙ sym (swap_in w q p h l)) ∙ sym (step_below w p q true h l s t)

pub passed_below :
    (w : List ℕ) (p q : ℕ) (list : List (List ℕ)) → q < p → p < length w → IsShortPermutation w
    → (inversions (swap w q p) == inversions w + 1) ≡ false → list ≡ found_below_to w p q → list ≡ found_below_to w p (q + 1)
passed_below w p q list h l s t e = e ∙ sym (append-nil (found_below_to w p q)) ∙ sym (step_below w p q false h l s t)
