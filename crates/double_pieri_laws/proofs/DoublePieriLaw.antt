-- Pieri's formula for the double Schubert polynomials of all permutations, as `double_pieri_law` states it: one fixed letter at the end is enough.
use Rattle.std.proofs.Common.{◌≡◌, ℕ, zero, suc, ◌+◌, ◌-◌, ◌<◌, ◌≤◌, max, List, [], ◌∷◌, ◌++◌, length, take, drop, flat_map, refl, sym, ◌∙◌, ap, ap₂, arith, nat_lt, ◌==◌, ◌&&◌, ℤ, pos, ◌+ℤ◌, length-append, append_assoc}
use Rattle.std.proofs.lemmas.Int.{ints}
use Rattle.std.proofs.lemmas.Bool.{lt-ltb}
use Rattle.std.proofs.lemmas.List.{replicate-append-replicate}
use Rattle.std.proofs.Math.Bool.{and-true}
use Rattle.sym_model.specs.Sum.{total}
use Rattle.sym_model.specs.Partition.{after}
use Rattle.sym_model.specs.PlaceOrders.{places}
use Rattle.sym_model.specs.Polynomial.{Term, Poly, Same, In, one, times, pair, join, resize}
use Rattle.sym_model.specs.Permutation.{IsOneLine, letter}
use Rattle.sym_model.specs.DividedDifference.{x_to_in, variable_in, raised}
use Rattle.sym_model.specs.Expansion.{beside}
use Rattle.sym_model.specs.DoubleSchubert.{double_schubert_in, shifted_in}
use Rattle.sym_model.proofs.AfterLists.{length_after, after_among, after-append}
use Rattle.sym_model.proofs.Exponents.{length-resize, resize-nil}
use Rattle.sym_model.proofs.Polynomials.{pair_each, pair_times, pair_determined, same_from_pair, same_of_equal, Same_refl, Same_trans, times_respects, In_map}
use Rattle.sym_model.proofs.PolynomialLaws.{one-times, times_assoc}
use Rattle.sym_model.proofs.Sums.{total_ext}
use Rattle.schubert_laws.specs.Chains.{letters_before, chains_from, chains}
use Rattle.schubert_laws.proofs.ChainLetters.{total_chains, chain_front}
use Rattle.schubert_laws.proofs.ChainSums.{place_is, if_not_less, lift, lift_some, up_none, chain_sum}
use Rattle.schubert_laws.proofs.CoverTests.{letter_most, up}
use Rattle.schubert_laws.proofs.FixedTails.{one_line_added}
use Rattle.schubert_laws.proofs.LowerPermutations.{letter_added}
use Rattle.schubert_laws.proofs.Pieri.{fixed_there, cover_near, through_factor, after_factor}
use Rattle.schubert_laws.proofs.PlaceSums.{sum_below_none}
use Rattle.double_pieri_laws.specs.DoubleChains.{elementary_of, first_x, these_y, unmoved, over_chains}
use Rattle.double_pieri_laws.proofs.DoubleChainSums.{double_sum, no_covers_left_y}
use Rattle.double_pieri_laws.proofs.DoublePieri.{double_in_added, shown, y_shown, shown_added, elementary_pair, exchanged_factors, one_shown, pieri_at_y}
use Rattle.double_pieri_laws.proofs.UnmovedLetters.{split_sum, split_ext, split_total, chain_ends, elementary_sum, staying, at_place, same_selected, chain_term, by_chains, sum_by_chains}

-- the list v with j fixed letters added at its end
abbrev pub longer_by : ℕ → List ℕ → List ℕ
longer_by j v = v ++ after (length v) j

long_by : (j : ℕ) (v : List ℕ) → length (longer_by j v) ≡ length v + j
long_by j v = omega (arith, length-append v (after (length v) j), length_after (length v) j)

twice_longer : (i j : ℕ) (v : List ℕ) → longer_by j (longer_by i v) ≡ longer_by (i + j) v
twice_longer i j v =
    append_assoc v (after (length v) i) (after (length (longer_by i v)) j)
    ∙ ap (λ l. v ++ (after (length v) i ++ after l j)) (long_by i v)
    ∙ ap (λ l. v ++ l) (sym (after-append (length v) i j))

-- chains from u followed by fixed letters exchange none of them but the first
pub fewer_letters : (i d k j : ℕ) (φ : List ℕ → List ℕ → ℤ) (β u : List ℕ) → IsOneLine u → k ≤ length u → i < j
    → double_sum (length u + 1 + i) d k φ β (longer_by j u) ≡ double_sum (length u + 1) d k φ β (longer_by j u)
fewer_letters zero d k j φ β u o h l = let e : length u + 1 + 0 ≡ length u + 1 = omega arith in ap (λ m. double_sum m d k φ β (longer_by j u)) e
fewer_letters (suc i) zero k j φ β u o h l =
    no_covers_left_y (length u + 1 + suc i) k φ β (longer_by j u) ∙ sym (no_covers_left_y (length u + 1) k φ β (longer_by j u))
fewer_letters (suc i) (suc d) k j φ β u o h l =
    let e : length u + 1 + suc i ≡ suc (length u + 1 + i) = omega arith in
    let r = fewer_letters i (suc d) k j φ β u o h (omega arith) in
    let p = place in
    let y = if_not_less (letters_before (suc (length u + 1 + i)) (longer_by j u)) k (double_sum (length u + 1 + i) d k φ (raised (suc (length u + 1 + i)) β) (longer_by j u)) (pos 0) (omega arith) in
    let z = none in
    ap (λ m. double_sum m (suc d) k φ β (longer_by j u)) e ∙ omega (arith, ints)
  where
    place : letters_before (suc (length u + 1 + i)) (longer_by j u) ≡ length u + 1 + i
    place =
        place_is (suc (length u + 1 + i)) (length u + 1 + i) (longer_by j u) (one_line_added j u o) (omega arith) (omega (arith, long_by j u))
        (fixed_there u j (length u + 1 + i) (omega arith) (omega arith))

    none : lift (λ v. double_sum (length u + 1 + i) d k φ β v) (longer_by j u) k (letters_before (suc (length u + 1 + i)) (longer_by j u)) ≡ pos 0
    none =
        ap (lift (λ v. double_sum (length u + 1 + i) d k φ β v) (longer_by j u) k) place
        ∙ lift_some (λ v. double_sum (length u + 1 + i) d k φ β v) (longer_by j u) k (length u + 1 + i) (omega arith)
        ∙ sum_below_none k (λ a. up (λ v. double_sum (length u + 1 + i) d k φ β v) (longer_by j u) a (length u + 1 + i)) (λ a x.
        up_none (λ v. double_sum (length u + 1 + i) d k φ β v) (longer_by j u) a (length u + 1 + i) (λ t.
        absurd (let b = cover_near u j a (length u + 1 + i) o (omega arith) (omega arith) (omega arith) t in omega arith)))

-- ---- the letters that stay, among the first k places of u

stay_unmoved : (m k i j : ℕ) (u v : List ℕ) → IsOneLine u → k ≤ length u → length u ≤ m → staying m (longer_by i u) (longer_by j v) (places k) ≡ unmoved k u v
stay_unmoved m k i j u v o h l =
    same_selected (letter (longer_by i u)) (letter u) (λ c. (letter (longer_by j v) c == letter (longer_by i u) c) && nat_lt (letter (longer_by i u) c) (suc m)) (λ c. letter v c == letter u c) (places k) (λ c x.
    let y = after_among 0 k c x in
    let y0 = y.0 in
    let y1 = y.1 in
    let p = letter_added i u c y0 in
    let q = letter_added j v c y0 in
    let r = at_place u c y0 in
    let s = letter_most u (c - 1) o (omega arith) in
    (ap₂ (λ s t. (s == t) && nat_lt t (suc m)) q p ∙ ap (λ z. (letter v c == letter u c) && z) (lt-ltb (letter u c) (suc m) (omega arith)) ∙ and-true (letter v c == letter u c), λ z. p))

unmoved_added : (k i : ℕ) (w v : List ℕ) → unmoved k (longer_by i w) v ≡ unmoved k w v
unmoved_added k i w v =
    same_selected (letter (longer_by i w)) (letter w) (λ c. letter v c == letter (longer_by i w) c) (λ c. letter v c == letter w c) (places k) (λ c x.
    let y = after_among 0 k c x in
    let p = letter_added i w c y.0 in
    (ap (λ z. letter v c == z) p, λ z. p))

-- ---- elementary polynomials of variables y

elementary_shown : (n d : ℕ) (letters β v : List ℕ) (f : List ℕ → ℤ) → IsOneLine v
    → elementary_sum d letters (shown n f) β v ≡ pair (times (elementary_of (n + n) d (these_y letters n)) (shifted_in (v, β) n)) f
elementary_shown n zero letters β v f o = sym (one_shown n β v f)
elementary_shown n (suc d) [] β v f o = refl
elementary_shown n (suc d) (a ∷ letters) β v f o =
    let r = elementary_shown n (suc d) letters β v f o in
    let s = elementary_shown n d letters (raised a β) v f o in
    let y : Poly = beside (one n) (variable_in a n) in
    let e : Poly = elementary_of (n + n) d (these_y letters n) in
    let g : Poly = shifted_in (v, β) n in
    let p = pair_times (elementary_of (n + n) (suc d) (these_y (a ∷ letters) n)) g f in
    let q = elementary_pair (n + n) d y (these_y letters n) (λ α. pair g (λ β. f (join α β))) in
    let t = pair_times (elementary_of (n + n) (suc d) (these_y letters n)) g f in
    let u = pair_times (times y e) g f in
    let x = pair_determined (times (times y e) g) (times y (times e g)) f (times_assoc y e g) in
    let z = exchanged_factors y e g f in
    let c = through_factor e (times y g) f in
    let b = y_shown n a β v (after_factor e f) o in
    let h = through_factor e (shifted_in (v, raised a β) n) f in
    omega (arith, ints)

-- ---- the exponents of y that are all 0

In_double : (n : ℕ) (w : List ℕ) → In (n + n) (double_schubert_in w n)
In_double n w =
    In_map (n + n) (λ (t : Term). (resize n (take (length w) t.0) ++ resize n (drop (length w) t.0), t.1)) _ (λ t m.
    let p = length-append (resize n (take (length w) t.0)) (resize n (drop (length w) t.0)) in
    let q = length-resize n (take (length w) t.0) in
    let r = length-resize n (drop (length w) t.0) in
    omega arith)

pub no_power_y : (n : ℕ) → x_to_in [] n ≡ one n
no_power_y zero = refl
no_power_y (suc n) = ap (λ α. (0 ∷ α, pos 1) ∷ []) (resize-nil n)

pub plain : (n : ℕ) (v : List ℕ) → Same (shifted_in (v, []) n) (double_schubert_in v n)
plain n v =
    Same_trans (shifted_in (v, []) n) (times (one (n + n)) (double_schubert_in v n)) (double_schubert_in v n)
    (same_of_equal (shifted_in (v, []) n) (times (one (n + n)) (double_schubert_in v n))
    (ap (λ h. times (beside (one n) h) (double_schubert_in v n)) (no_power_y n) ∙ ap (λ α. times ((α, pos 1) ∷ []) (double_schubert_in v n)) (replicate-append-replicate n n 0)))
    (one-times (n + n) (double_schubert_in v n) (In_double n v))

pub plain_product : (n : ℕ) (e : Poly) (v : List ℕ) (f : List ℕ → ℤ) → pair (times e (shifted_in (v, []) n)) f ≡ pair (times e (double_schubert_in v n)) f
plain_product n e v f =
    pair_determined (times e (shifted_in (v, []) n)) (times e (double_schubert_in v n)) f
    (times_respects e e (shifted_in (v, []) n) (double_schubert_in v n) (Same_refl e) (plain n v))

-- ---- Pieri's formula

-- the pairing of f with e_e(y_a, a = w(i) = v(i), i ≤ k)·S_v
abbrev end_term : ℕ → ℕ → (List ℕ → ℤ) → List ℕ → ℕ → List ℕ → ℤ
end_term n k f w e v = pair (times (elementary_of (n + n) e (these_y (unmoved k w v) n)) (double_schubert_in v n)) f

chains_to : (m k n : ℕ) (u : List ℕ) (f : List ℕ → ℤ) (j e : ℕ) → IsOneLine u → k ≤ length u → m ≡ length u + 1
    → by_chains m k (shown n f) [] (longer_by (1 + k) u) j e ≡ total (end_term n k f u e) (chains_from m j k (longer_by 1 u))
chains_to m k n u f j e o h p =
    let l = long_by 1 u in
    let o1 = one_line_added 1 u o in
    ap (chain_sum m j k (chain_term m k (shown n f) [] (longer_by (1 + k) u) e)) (sym (twice_longer 1 k u))
    ∙ chain_front m j k k (chain_term m k (shown n f) [] (longer_by (1 + k) u) e) (longer_by 1 u) o1 (omega arith)
    ∙ chain_ends m j k (λ x. chain_term m k (shown n f) [] (longer_by (1 + k) u) e (longer_by k x)) (end_term n k f u e) (longer_by 1 u) o1 (omega arith) (λ v g.
    ap (λ letters. elementary_sum e letters (shown n f) [] (longer_by k v)) (stay_unmoved m k (1 + k) k u v o h (omega arith))
    ∙ elementary_shown n e (unmoved k u v) [] (longer_by k v) f (one_line_added k v g.one_line)
    ∙ pair_determined (times (elementary_of (n + n) e (these_y (unmoved k u v) n)) (shifted_in (longer_by k v, []) n)) (times (elementary_of (n + n) e (these_y (unmoved k u v) n)) (shifted_in (v, []) n)) f
    (times_respects (elementary_of (n + n) e (these_y (unmoved k u v) n)) (elementary_of (n + n) e (these_y (unmoved k u v) n)) (shifted_in (longer_by k v, []) n) (shifted_in (v, []) n)
    (Same_refl (elementary_of (n + n) e (these_y (unmoved k u v) n))) (same_from_pair (shifted_in (longer_by k v, []) n) (shifted_in (v, []) n) (λ φ. shown_added k n φ [] v g.one_line)))
    ∙ plain_product n (elementary_of (n + n) e (these_y (unmoved k u v) n)) v f)
    ∙ sym (total_chains m j k (end_term n k f u e) (longer_by 1 u) o1 (omega arith))

pieri_from : (d k n : ℕ) (u : List ℕ) (f : List ℕ → ℤ) → IsOneLine u → k ≤ length u
    → split_sum d (λ j e. total (end_term n k f u e) (chains_from (length u + 1) j k (longer_by 1 u))) ≡ pair (times (elementary_of (n + n) d (first_x k n)) (double_schubert_in u n)) f
pieri_from d k n u f o h =
    let l = long_by (1 + k) u in
    sym (split_ext d (by_chains (length u + 1) k (shown n f) [] (longer_by (1 + k) u)) (λ j e. total (end_term n k f u e) (chains_from (length u + 1) j k (longer_by 1 u))) (λ j e q.
    chains_to (length u + 1) k n u f j e o h refl))
    ∙ sym (sum_by_chains (length u + 1) d k (shown n f) [] (longer_by (1 + k) u) (one_line_added (1 + k) u o) (omega arith) (omega arith))
    ∙ sym (fewer_letters k d k (1 + k) (shown n f) [] u o h (omega arith))
    ∙ pieri_at_y k d (1 + k) (length u + 1 + k) n u [] f o h (omega arith) (omega arith)
    ∙ pair_determined (times (elementary_of (n + n) d (first_x k n)) (shifted_in (longer_by (1 + k) u, []) n)) (times (elementary_of (n + n) d (first_x k n)) (shifted_in (u, []) n)) f
    (times_respects (elementary_of (n + n) d (first_x k n)) (elementary_of (n + n) d (first_x k n)) (shifted_in (longer_by (1 + k) u, []) n) (shifted_in (u, []) n) (Same_refl (elementary_of (n + n) d (first_x k n)))
    (same_from_pair (shifted_in (longer_by (1 + k) u, []) n) (shifted_in (u, []) n) (λ φ. shown_added (1 + k) n φ [] u o)))
    ∙ plain_product n (elementary_of (n + n) d (first_x k n)) u f

pieri_of : (d k n : ℕ) (w : List ℕ) (f : List ℕ → ℤ) → IsOneLine w
    → split_sum d (λ j e. total (end_term n k f w e) (chains j k w)) ≡ pair (times (elementary_of (n + n) d (first_x k n)) (double_schubert_in w n)) f
pieri_of d k n w f o =
    let p = max (length w) k - length w in
    let long = long_by (max (length w) k - length w) w in
    let e : max (length w) k + 1 ≡ length (longer_by (max (length w) k - length w) w) + 1 = omega arith in
    let g : max (length w) k + 1 - length w ≡ max (length w) k - length w + 1 = omega arith in
    split_ext d (λ j e. total (end_term n k f w e) (chains j k w))
    (λ j e. total (end_term n k f (longer_by (max (length w) k - length w) w) e) (chains_from (length (longer_by (max (length w) k - length w) w) + 1) j k (longer_by 1 (longer_by (max (length w) k - length w) w)))) (λ j i q.
    ap₂ (λ m v. total (end_term n k f w i) (chains_from m j k v)) e (ap (λ i. longer_by i w) g ∙ sym (twice_longer (max (length w) k - length w) 1 w))
    ∙ total_ext (end_term n k f w i) (end_term n k f (longer_by (max (length w) k - length w) w) i) (λ v.
    ap (λ letters. pair (times (elementary_of (n + n) i (these_y letters n)) (double_schubert_in v n)) f) (sym (unmoved_added k (max (length w) k - length w) w v)))
    (chains_from (length (longer_by (max (length w) k - length w) w) + 1) j k (longer_by 1 (longer_by (max (length w) k - length w) w))))
    ∙ pieri_from d k n (longer_by (max (length w) k - length w) w) f (one_line_added (max (length w) k - length w) w o) (omega arith)
    ∙ pair_determined (times (elementary_of (n + n) d (first_x k n)) (double_schubert_in (longer_by (max (length w) k - length w) w) n)) (times (elementary_of (n + n) d (first_x k n)) (double_schubert_in w n)) f
    (times_respects (elementary_of (n + n) d (first_x k n)) (elementary_of (n + n) d (first_x k n)) (double_schubert_in (longer_by (max (length w) k - length w) w) n) (double_schubert_in w n)
    (Same_refl (elementary_of (n + n) d (first_x k n))) (double_in_added (max (length w) k - length w) n w o))

pub double_pieri : (w : List ℕ) (d k n : ℕ) → IsOneLine w → Same (times (elementary_of (n + n) d (first_x k n)) (double_schubert_in w n)) (over_chains d k w n)
double_pieri w d k n o =
    same_from_pair (times (elementary_of (n + n) d (first_x k n)) (double_schubert_in w n)) (over_chains d k w n) (λ f.
    let z : d - 0 ≡ d = omega arith in
    sym (pieri_of d k n w f o)
    ∙ split_ext d (λ j e. total (end_term n k f w e) (chains j k w)) (λ j e. total (end_term n k f w e) (chains (j + 0) k w)) (λ j e q. let y : j ≡ j + 0 = omega arith in ap (λ i. total (end_term n k f w e) (chains i k w)) y)
    ∙ split_total d 0 (λ j e. total (end_term n k f w e) (chains j k w))
    ∙ ap₂ (λ x y. total (end_term n k f w x) (chains 0 k w) +ℤ y) (sym z)
    (total_ext (λ j. total (end_term n k f w (0 + d - j)) (chains j k w)) (λ j. total (end_term n k f w (d - j)) (chains j k w)) (λ j. let y : 0 + d - j ≡ d - j = omega arith in ap (λ i. total (end_term n k f w i) (chains j k w)) y) (places d))
    ∙ sym (pair_each (λ j. flat_map (λ v. times (elementary_of (n + n) (d - j) (these_y (unmoved k w v) n)) (double_schubert_in v n)) (chains j k w)) (0 ∷ places d) f
    ∙ total_ext (λ j. pair (flat_map (λ v. times (elementary_of (n + n) (d - j) (these_y (unmoved k w v) n)) (double_schubert_in v n)) (chains j k w)) f) (λ j. total (end_term n k f w (d - j)) (chains j k w))
    (λ j. pair_each (λ v. times (elementary_of (n + n) (d - j) (these_y (unmoved k w v) n)) (double_schubert_in v n)) (chains j k w) f) (0 ∷ places d)))
