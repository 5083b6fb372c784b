-- Pieri's formula for double Schubert polynomials of permutations with enough fixed letters at their end: e_d(x_1, .., x_k)·y^β·S_w is the sum of the
-- terms that the chains of DoubleChainSums give. By induction on k: the step for all letters is Monk's rule at the place k + 1.
use Rattle.std.proofs.Common.{◌≡◌, ℕ, zero, suc, ◌+◌, ◌-◌, ◌<◌, ◌≤◌, List, [], ◌∷◌, ◌++◌, length, map, get_or, replicate, refl, sym, ◌∙◌, ap, ap₂, subst, arith, cond, nat_lt, ◌==◌, ◌&&◌, false, ℤ, pos, ◌+ℤ◌, ◌-ℤ◌, neg_ℤ, length-append}
use Rattle.std.proofs.lemmas.Int.{ints}
use Rattle.std.proofs.lemmas.Bool.{ne_eqb}
use Rattle.std.proofs.lemmas.List.{map-append}
use Rattle.sym_model.specs.Sum.{total}
use Rattle.sym_model.specs.Partition.{after}
use Rattle.sym_model.specs.PlaceOrders.{places}
use Rattle.sym_model.specs.Polynomial.{Term, Poly, Same, one, negate, times, pair, join, resize, restrict, fits_in, all_zero}
use Rattle.sym_model.specs.BetaList.{rising_pairs}
use Rattle.sym_model.specs.Permutation.{IsOneLine, letter, covers_up, covers_down}
use Rattle.sym_model.specs.DividedDifference.{variable_in, x_to_in, raised}
use Rattle.sym_model.specs.Expansion.{beside}
use Rattle.sym_model.specs.DoubleSchubert.{difference_in, double_schubert, restrict_both, double_schubert_in, shifted_in}
use Rattle.sym_model.proofs.AfterLists.{length_after, after-last}
use Rattle.sym_model.proofs.Polynomials.{pair_plus, pair_negate, pair_times, pair_determined, same_from_pair, Same_refl, Same_sym, times_respects}
use Rattle.sym_model.proofs.PolynomialLaws.{times_assoc, times_comm}
use Rattle.schubert_laws.specs.Chains.{letters_before}
use Rattle.schubert_laws.proofs.ChainSums.{if_not_less, lift_some, later_term, monk_part, part_some}
use Rattle.schubert_laws.proofs.CoverTests.{letter_at, letter_most, up}
use Rattle.schubert_laws.proofs.FixedTails.{one_line_added, one_line_next, next_after}
use Rattle.schubert_laws.proofs.LowerPermutations.{letter_added}
use Rattle.schubert_laws.proofs.MonkFromOne.{one_line_swap, whole_longer, swap_added}
use Rattle.schubert_laws.proofs.MonkStep.{signed}
use Rattle.schubert_laws.proofs.Pieri.{cover_near, signed_split, sum_below_cut, after_factor, through_factor}
use Rattle.schubert_laws.proofs.PlaceSums.{sum_below, sum_below_ext, sum_below_add, sum_below_neg}
use Rattle.schubert_laws.proofs.Swaps.{swap_at, swap_at_sym, length-swap_at}
use Rattle.double_schubert_laws.proofs.BothRestrictions.{both, pair_restrict_both}
use Rattle.double_schubert_laws.proofs.CoverSums.{IsStable, covers_sum}
use Rattle.double_schubert_laws.proofs.DoubleFromOne.{double_added}
use Rattle.double_schubert_laws.proofs.DoubleVariables.{any_places, identity_double}
use Rattle.double_schubert_laws.proofs.ProductSteps.{product_identity}
use Rattle.double_schubert_laws.proofs.ShiftedStep.{shifted_step}
use Rattle.double_pieri_laws.specs.DoubleChains.{elementary_of, first_x}
use Rattle.double_pieri_laws.proofs.DoubleChainSums.{part_y, part_y_ext, double_sum, no_covers_left_y, one_place_more_y}

-- the pairing of f with y^β·S_v, in n variables x and n variables y
abbrev pub shown : ℕ → (List ℕ → ℤ) → List ℕ → List ℕ → ℤ
shown n f β v = pair (shifted_in (v, β) n) f

-- ---- products with one variable

too_late : (n : ℕ) (e : List ℕ) → fits_in n (join e (replicate n 0 ++ (1 ∷ []))) ≡ false
too_late zero [] = refl
too_late zero (a ∷ e) = ap (λ t. t && all_zero (join e [])) (ne_eqb (a + 1) 0 (λ z. omega arith))
too_late (suc n) [] = too_late n []
too_late (suc n) (a ∷ e) = too_late n e

abbrev x_times : ℕ → ℕ → Poly → Poly
x_times n r g = times (beside (variable_in r n) (one n)) g

abbrev y_times : ℕ → ℕ → Poly → Poly
y_times n a g = times (beside (one n) (variable_in a n)) g

difference_parts : (n r c : ℕ) (g : Poly) (f : List ℕ → ℤ) → pair (times (difference_in r c n) g) f ≡ pair (x_times n r g) f -ℤ pair (y_times n c g) f
difference_parts n r c g f =
    let a = pair_times (difference_in r c n) g f in
    let b = pair_plus (beside (variable_in r n) (one n)) (negate (beside (one n) (variable_in c n))) (λ α. pair g (λ β. f (join α β))) in
    let d = pair_negate (beside (one n) (variable_in c n)) (λ α. pair g (λ β. f (join α β))) in
    let e = pair_times (beside (variable_in r n) (one n)) g f in
    let h = pair_times (beside (one n) (variable_in c n)) g f in
    omega (arith, ints)

no_variable : (n : ℕ) → variable_in (suc n) n ≡ []
no_variable n =
    let z : suc n - 1 ≡ n = omega arith in
    ap (λ i. restrict n ((replicate i 0 ++ (1 ∷ []), pos 1) ∷ [])) z
    ∙ ap (λ t. map (λ (t : Term). (resize n t.0, t.1)) (cond t ((replicate n 0 ++ (1 ∷ []), pos 1) ∷ []) [])) (too_late n [])

no_power : (n : ℕ) (e : List ℕ) → x_to_in (raised (suc n) e) n ≡ []
no_power n e =
    let z : suc n - 1 ≡ n = omega arith in
    ap (λ i. restrict n ((join e (replicate i 0 ++ (1 ∷ [])), pos 1) ∷ [])) z
    ∙ ap (λ t. map (λ (t : Term). (resize n t.0, t.1)) (cond t ((join e (replicate n 0 ++ (1 ∷ [])), pos 1) ∷ []) [])) (too_late n e)

-- y_(n+1) is 0 in n variables y
no_product : (n : ℕ) (g : Poly) (f : List ℕ → ℤ) → pair (y_times n (suc n) g) f ≡ pos 0
no_product n g f = ap (λ h. pair (times (beside (one n) h) g) f) (no_variable n)

not_shown : (n : ℕ) (e w : List ℕ) (f : List ℕ → ℤ) → shown n f (raised (suc n) e) w ≡ pos 0
not_shown n e w f = ap (λ h. pair (times (beside (one n) h) (double_schubert_in w n)) f) (no_power n e)

x_shown : (n r : ℕ) (e w : List ℕ) (f : List ℕ → ℤ) → IsOneLine w → 1 ≤ r
    → pair (x_times n r (shifted_in (w, e) n)) f ≡ (total (shown n f e) (covers_up r w) -ℤ total (shown n f e) (covers_down r w)) +ℤ shown n f (raised (letter w r) e) w
x_shown n r e w f o h =
    let a = difference_parts n r (suc n) (shifted_in (w, e) n) f in
    let b = shifted_step n r (suc n) w e f o h in
    let c = no_product n (shifted_in (w, e) n) f in
    let d = not_shown n e w f in
    omega (arith, ints)

pub y_shown : (n a : ℕ) (e w : List ℕ) (f : List ℕ → ℤ) → IsOneLine w → pair (y_times n a (shifted_in (w, e) n)) f ≡ shown n f (raised a e) w
y_shown n a e w f o =
    let b = difference_parts n 1 a (shifted_in (w, e) n) f in
    let c = shifted_step n 1 a w e f o (omega arith) in
    let d = x_shown n 1 e w f o (omega arith) in
    omega (arith, ints)

-- ---- fixed letters at the end

pub double_in_added : (k n : ℕ) (w : List ℕ) → IsOneLine w → Same (double_schubert_in (w ++ after (length w) k) n) (double_schubert_in w n)
double_in_added k n w o =
    let m : ℕ = length (w ++ after (length w) k) in
    let l = length-append w (after (length w) k) in
    let r = length_after (length w) k in
    same_from_pair (double_schubert_in (w ++ after (length w) k) n) (double_schubert_in w n) (λ φ.
    pair_restrict_both (length (w ++ after (length w) k)) n (double_schubert (w ++ after (length w) k) (length (w ++ after (length w) k))) φ
    ∙ double_added (length (w ++ after (length w) k)) k w (both (length (w ++ after (length w) k)) n φ) o (omega arith)
    ∙ sym (pair_restrict_both (length (w ++ after (length w) k)) n (double_schubert w (length (w ++ after (length w) k))) φ)
    ∙ pair_determined (restrict_both (length (w ++ after (length w) k)) n (double_schubert w (length (w ++ after (length w) k)))) (double_schubert_in w n) φ
    (any_places w (length (w ++ after (length w) k)) n (omega arith)))

shifted_added : (k n : ℕ) (e w : List ℕ) → IsOneLine w → Same (shifted_in (w ++ after (length w) k, e) n) (shifted_in (w, e) n)
shifted_added k n e w o =
    times_respects (beside (one n) (x_to_in e n)) (beside (one n) (x_to_in e n)) (double_schubert_in (w ++ after (length w) k) n) (double_schubert_in w n)
    (Same_refl (beside (one n) (x_to_in e n))) (double_in_added k n w o)

pub shown_added : (k n : ℕ) (f : List ℕ → ℤ) (e w : List ℕ) → IsOneLine w → shown n f e (w ++ after (length w) k) ≡ shown n f e w
shown_added k n f e w o = pair_determined (shifted_in (w ++ after (length w) k, e) n) (shifted_in (w, e) n) f (shifted_added k n e w o)

stable : (m n : ℕ) (f : List ℕ → ℤ) (e : List ℕ) → IsStable m (shown n f e)
stable m n f e = record { added = λ w k o h. shown_added k n f e w o }

-- ---- Monk's rule for a permutation with a fixed letter at its end, as a sum over places

swap_either : (G : List ℕ → ℤ) (w : List ℕ) (q b : ℕ) → up G w q b ≡ up G w b q
swap_either G w q b = ap (λ v. cond (rising_pairs w == suc (rising_pairs v)) (G v) (pos 0)) (swap_at_sym q b w)

pub covers_signed : (q : ℕ) (G : List ℕ → ℤ) (w : List ℕ) → IsOneLine w → q < length w → sum_below (length w) (λ b. signed q b (up G w q b)) ≡ monk_part (length w) q G w
covers_signed q G w o h =
    let a = sum_below_ext (length w) (λ b. signed q b (up G w q b)) (λ b. later_term (length w) q G w b +ℤ cond (nat_lt b q) (neg_ℤ (up G w b q)) (pos 0)) (λ b i.
    signed_split q b (up G w q b)
    ∙ ap₂ ◌+ℤ◌ (ap (λ z. cond (nat_lt q b) z (pos 0)) (sym (if_not_less (length w) (letter_at w b) (pos 0) (up G w q b) (letter_most w b o i))))
    (ap (λ z. cond (nat_lt b q) (neg_ℤ z) (pos 0)) (swap_either G w q b))) in
    let c = sum_below_add (length w) (later_term (length w) q G w) (λ b. cond (nat_lt b q) (neg_ℤ (up G w b q)) (pos 0)) in
    let d = sum_below_cut (length w) q (λ b. neg_ℤ (up G w b q)) (omega arith) in
    let e = sum_below_neg q (λ b. up G w b q) in
    let p = part_some (length w) q G w (letter_most w q o h) in
    omega (arith, ints)

monk_y : (n q : ℕ) (e w : List ℕ) (f : List ℕ → ℤ) → IsOneLine w → q < length w
    → pair (x_times n (suc q) (shifted_in (w ++ after (length w) 1, e) n)) f ≡ part_y (length (w ++ after (length w) 1)) q (shown n f) e (w ++ after (length w) 1)
monk_y n q e w f o h =
    let l = length-append w (after (length w) 1) in
    let r = length_after (length w) 1 in
    let ow = one_line_added 1 w o in
    let a = pair_determined (x_times n (suc q) (shifted_in (w ++ after (length w) 1, e) n)) (x_times n (suc q) (shifted_in (w, e) n)) f
    (times_respects (beside (variable_in (suc q) n) (one n)) (beside (variable_in (suc q) n) (one n)) (shifted_in (w ++ after (length w) 1, e) n) (shifted_in (w, e) n)
    (Same_refl (beside (variable_in (suc q) n) (one n))) (shifted_added 1 n e w o)) in
    let b = x_shown n (suc q) e w f o (omega arith) in
    let c = covers_sum (length w + 1) (shown n f e) w 0 q (stable (length w + 1) n f e) o (omega arith) (omega arith) in
    let d = covers_signed q (shown n f e) (w ++ after (length w) 1) ow (omega arith) in
    let z : suc q - 1 ≡ q = omega arith in
    let same : letter w (suc q) ≡ letter_at (w ++ after (length w) 1) q = sym (letter_added 1 w (suc q) (omega arith)) ∙ ap (λ i. get_or (w ++ after (length w) 1) i (suc q)) z in
    let g = sym (shown_added 1 n f (raised (letter w (suc q)) e) w o) ∙ ap (λ i. shown n f (raised i e) (w ++ after (length w) 1)) same in
    let p = if_not_less (length (w ++ after (length w) 1)) (letter_at (w ++ after (length w) 1) q) (pos 0) (shown n f (raised (letter_at (w ++ after (length w) 1) q) e) (w ++ after (length w) 1))
    (letter_most (w ++ after (length w) 1) q ow (omega arith)) in
    omega (arith, ints)

-- ---- elementary polynomials of a list of polynomials

pub elementary_pair : (n d : ℕ) (h : Poly) (hs : List Poly) (f : List ℕ → ℤ) → pair (elementary_of n (suc d) (h ∷ hs)) f ≡ pair (elementary_of n (suc d) hs) f +ℤ pair (times h (elementary_of n d hs)) f
elementary_pair n d h hs f = pair_plus (elementary_of n (suc d) hs) (times h (elementary_of n d hs)) f

pub exchanged_factors : (g h p : Poly) (f : List ℕ → ℤ) → pair (times g (times h p)) f ≡ pair (times h (times g p)) f
exchanged_factors g h p f =
    sym (pair_determined (times (times g h) p) (times g (times h p)) f (times_assoc g h p))
    ∙ pair_determined (times (times g h) p) (times (times h g) p) f (times_respects (times g h) (times h g) p p (times_comm g h) (Same_refl p))
    ∙ pair_determined (times (times h g) p) (times h (times g p)) f (times_assoc h g p)

pub elementary_last : (n d : ℕ) (hs : List Poly) (g : Poly) (f : List ℕ → ℤ)
    → pair (elementary_of n (suc d) (hs ++ (g ∷ []))) f ≡ pair (elementary_of n (suc d) hs) f +ℤ pair (times g (elementary_of n d hs)) f
elementary_last n d [] g f = elementary_pair n d g [] f ∙ ap (λ z. pos 0 +ℤ z) (ends d)
  where
    ends : (d : ℕ) → pair (times g (elementary_of n d [])) f ≡ pair (times g (elementary_of n d [])) f
    ends d = refl
elementary_last n zero (h ∷ hs) g f =
    let a = elementary_pair n zero h (hs ++ (g ∷ [])) f in
    let b = elementary_last n zero hs g f in
    let c = elementary_pair n zero h hs f in
    omega (arith, ints)
elementary_last n (suc d) (h ∷ hs) g f =
    let a = elementary_pair n (suc d) h (hs ++ (g ∷ [])) f in
    let b = elementary_last n (suc d) hs g f in
    let c = elementary_pair n (suc d) h hs f in
    let r = through_factor h (elementary_of n (suc d) (hs ++ (g ∷ []))) f in
    let s = elementary_last n d hs g (after_factor h f) in
    let t = through_factor h (elementary_of n (suc d) hs) f in
    let u = through_factor h (times g (elementary_of n d hs)) f in
    let v = exchanged_factors h g (elementary_of n d hs) f in
    let x = through_factor g (elementary_of n (suc d) (h ∷ hs)) f in
    let y = elementary_pair n d h hs (after_factor g f) in
    let z = through_factor g (elementary_of n (suc d) hs) f in
    let w = through_factor g (times h (elementary_of n d hs)) f in
    omega (arith, ints)

one_variable_more : (d k n : ℕ) (g : Poly) (f : List ℕ → ℤ)
    → pair (times (elementary_of (n + n) (suc d) (first_x (suc k) n)) g) f
    ≡ pair (times (elementary_of (n + n) (suc d) (first_x k n)) g) f +ℤ pair (x_times n (suc k) g) (after_factor (elementary_of (n + n) d (first_x k n)) f)
one_variable_more d k n g f =
    let z : 0 + suc k ≡ suc k = omega arith in
    let x : Poly = beside (variable_in (suc k) n) (one n) in
    let e : Poly = elementary_of (n + n) d (first_x k n) in
    let l : first_x (suc k) n ≡ first_x k n ++ (beside (variable_in (suc k) n) (one n) ∷ []) =
    ap (map (λ i. beside (variable_in i n) (one n))) (after-last 0 k ∙ ap (λ i. after 0 k ++ (i ∷ [])) z) ∙ map-append (λ i. beside (variable_in i n) (one n)) (places k) (suc k ∷ []) in
    let a = ap (λ hs. pair (times (elementary_of (n + n) (suc d) hs) g) f) l in
    let b = pair_times (elementary_of (n + n) (suc d) (first_x k n ++ (beside (variable_in (suc k) n) (one n) ∷ []))) g f in
    let c = elementary_last (n + n) d (first_x k n) (beside (variable_in (suc k) n) (one n)) (λ α. pair g (λ β. f (join α β))) in
    let p = pair_times (elementary_of (n + n) (suc d) (first_x k n)) g f in
    let q = pair_times (times (beside (variable_in (suc k) n) (one n)) (elementary_of (n + n) d (first_x k n))) g f in
    let r = pair_determined (times (times x e) g) (times x (times e g)) f (times_assoc x e g) in
    let s = exchanged_factors x e g f in
    let t = through_factor e (times x g) f in
    omega (arith, ints)

-- ---- Pieri's formula

pub one_shown : (n : ℕ) (e w : List ℕ) (f : List ℕ → ℤ) → pair (times (one (n + n)) (shifted_in (w, e) n)) f ≡ shown n f e w
one_shown n e w f =
    pair_determined (times (one (n + n)) (shifted_in (w, e) n)) (times (double_schubert_in [] n) (shifted_in (w, e) n)) f
    (times_respects (one (n + n)) (double_schubert_in [] n) (shifted_in (w, e) n) (shifted_in (w, e) n)
    (Same_sym (double_schubert_in [] n) (one (n + n)) (identity_double [] n empty refl)) (Same_refl (shifted_in (w, e) n)))
    ∙ product_identity n f [] w e empty refl
  where
    empty : IsOneLine []
    empty = record { letters = λ a i. absurd i; once = tt }

no_places : (m d : ℕ) (φ : List ℕ → List ℕ → ℤ) (β w : List ℕ) → double_sum m (suc d) zero φ β w ≡ pos 0
no_places zero d φ β w = refl
no_places (suc m) d φ β w =
    let e = no_places m d φ β w in
    let a = lift_some (λ v. double_sum m d zero φ β v) w zero (letters_before (suc m) w) (omega arith) in
    let b = if_not_less (letters_before (suc m) w) zero (double_sum m d zero φ (raised (suc m) β) w) (pos 0) (omega arith) in
    omega (arith, ints)

abbrev PieriAt : ℕ → ℕ → ℕ → ℕ → ℕ → (List ℕ → ℤ) → List ℕ → List ℕ → Type 0
PieriAt k d j m n f β u =
    double_sum m d k (shown n f) β (u ++ after (length u) j) ≡ pair (times (elementary_of (n + n) d (first_x k n)) (shifted_in (u ++ after (length u) j, β) n)) f

pub pieri_at_y : (k d j m n : ℕ) (u : List ℕ) (β : List ℕ) (f : List ℕ → ℤ) → IsOneLine u → k ≤ length u → k ≤ j → m ≡ length u + j → PieriAt k d j m n f β u
pieri_at_y zero zero j m n u β f o h l e = no_covers_left_y m zero (shown n f) β (u ++ after (length u) j) ∙ sym (one_shown n β (u ++ after (length u) j) f)
pieri_at_y zero (suc d) j m n u β f o h l e = no_places m d (shown n f) β (u ++ after (length u) j)
pieri_at_y (suc k) zero j m n u β f o h l e = no_covers_left_y m (suc k) (shown n f) β (u ++ after (length u) j) ∙ sym (one_shown n β (u ++ after (length u) j) f)
pieri_at_y (suc k) (suc d) zero m n u β f o h l e = absurd (omega arith)
pieri_at_y (suc k) (suc d) (suc j) m n u β f o h l e =
    one_place_more_y m d k (shown n f) β (u ++ after (length u) (suc j)) (one_line_added (suc j) u o) (let q = long in omega arith) (let q = long in omega arith)
    ∙ ap₂ ◌+ℤ◌ (pieri_at_y k (suc d) (suc j) m n u β f o (omega arith) (omega arith) e)
    (part_y_ext m k (λ γ v. double_sum m d k (shown n f) γ v) (shown n (after_factor (elementary_of (n + n) d (first_x k n)) f)) β (u ++ after (length u) (suc j))
    (λ r. pieri_at_y k d (suc j) m n u (raised (letter_at (u ++ after (length u) (suc j)) k) β) f o (omega arith) (omega arith) e
    ∙ through_factor (elementary_of (n + n) d (first_x k n)) (shifted_in (u ++ after (length u) (suc j), raised (letter_at (u ++ after (length u) (suc j)) k) β) n) f)
    (λ r b i p t. let q = long in swapped k b (omega arith) (cover_near u (suc j) k b o (omega arith) i (omega arith) t) (λ v x. pieri_at_y k d j m n v β f x))
    (λ r a i t. swapped a k (omega arith) (omega arith) (λ v x. pieri_at_y k d j m n v β f x))
    ∙ sym monk)
    ∙ sym (one_variable_more d k n (shifted_in (u ++ after (length u) (suc j), β) n) f)
  where
    long : length (u ++ after (length u) (suc j)) ≡ m
    long = omega (arith, length-append u (after (length u) (suc j)), length_after (length u) (suc j))

    whole : u ++ after (length u) (suc j) ≡ (u ++ after (length u) j) ++ after (length (u ++ after (length u) j)) 1
    whole = let i : suc j ≡ j + 1 = omega arith in ap (λ i. u ++ after (length u) i) i ∙ whole_longer u j

    monk : pair (x_times n (suc k) (shifted_in (u ++ after (length u) (suc j), β) n)) (after_factor (elementary_of (n + n) d (first_x k n)) f)
        ≡ part_y m k (shown n (after_factor (elementary_of (n + n) d (first_x k n)) f)) β (u ++ after (length u) (suc j))
    monk =
        let l = length-append u (after (length u) j) in
        let r = length_after (length u) j in
        subst (λ v. pair (x_times n (suc k) (shifted_in (v, β) n)) (after_factor (elementary_of (n + n) d (first_x k n)) f)
        ≡ part_y (length v) k (shown n (after_factor (elementary_of (n + n) d (first_x k n)) f)) β v) (sym whole)
        (monk_y n k β (u ++ after (length u) j) (after_factor (elementary_of (n + n) d (first_x k n)) f) (one_line_added j u o) (omega arith))
        ∙ ap (λ i. part_y i k (shown n (after_factor (elementary_of (n + n) d (first_x k n)) f)) β (u ++ after (length u) (suc j))) long

    -- a swap of two letters of u and the first fixed letter
    swapped : (a b : ℕ) → a ≤ length u → b ≤ length u → ((v : List ℕ) → IsOneLine v → k ≤ length v → k ≤ j → m ≡ length v + j → PieriAt k d j m n f β v)
        → double_sum m d k (shown n f) β (swap_at a b (u ++ after (length u) (suc j))) ≡ shown n (after_factor (elementary_of (n + n) d (first_x k n)) f) β (swap_at a b (u ++ after (length u) (suc j)))
    swapped a b p q rec =
        let x = length-append u ((length u + 1) ∷ []) in
        let y = length-swap_at a b (u ++ ((length u + 1) ∷ [])) in
        subst (λ v. double_sum m d k (shown n f) β v ≡ shown n (after_factor (elementary_of (n + n) d (first_x k n)) f) β v)
        (sym (ap (swap_at a b) (next_after u j) ∙ swap_added (u ++ ((length u + 1) ∷ [])) j a b (omega arith) (omega arith)))
        (rec (swap_at a b (u ++ ((length u + 1) ∷ []))) (one_line_swap a b (u ++ ((length u + 1) ∷ [])) (omega arith) (omega arith) (one_line_next u o)) (omega arith) (omega arith) (omega arith)
        ∙ through_factor (elementary_of (n + n) d (first_x k n)) (shifted_in (swap_at a b (u ++ ((length u + 1) ∷ [])) ++ after (length (swap_at a b (u ++ ((length u + 1) ∷ [])))) j, β) n) f)
