-- The double Schubert polynomial of a permutation p with x and y exchanged is (-1)^ℓ times that of its inverse v, ℓ being the number of inversions
-- (Lascoux and Schützenberger; Macdonald, Notes on Schubert polynomials, VI). By induction along ascents of v, as at x = 0: an ascent of v at the place a
-- is a pair of letters a, a + 1 of p in this order, and exchanging them is a left step, which is minus a divided difference in y. Places and variables
-- are counted from 0.
use Rattle.std.proofs.Common.{◌≡◌, ℕ, zero, suc, ◌+◌, ◌-◌, ◌<◌, ◌≤◌, List, ◌++◌, length, take, drop, refl, sym, ◌∙◌, ap, ap₂, subst, arith, inl, inr, ◌⊎◌, None, ℤ, ◌*ℤ◌, neg_ℤ}
use Rattle.std.proofs.lemmas.Int.{ints}
use Rattle.std.proofs.lemmas.Bool.{cases_eq}
use Rattle.sym_model.specs.Alternant.{staircase}
use Rattle.sym_model.specs.Partition.{size}
use Rattle.sym_model.specs.PlaceOrders.{inversions, sign}
use Rattle.sym_model.specs.BetaList.{rising_pairs}
use Rattle.sym_model.specs.Polynomial.{Term, Poly, Same, negate, scale, pair}
use Rattle.sym_model.specs.Permutation.{IsOneLine, AreInverse, first_ascent}
use Rattle.sym_model.specs.DividedDifference.{differences_after}
use Rattle.sym_model.specs.DoubleSchubert.{difference_product, double_schubert}
use Rattle.sym_model.specs.Schubert.{schubert_over}
use Rattle.sym_model.proofs.Polynomials.{pair_ext, pair_negate, pair_scale, same_from_pair}
use Rattle.sym_model.proofs.Sums.{total_map}
use Rattle.schubert_laws.proofs.Codes.{inversions-code}
use Rattle.schubert_laws.proofs.CoverRelations.{Exchanged}
use Rattle.schubert_laws.proofs.CoverTests.{letter_at, letter_is, different, exchanged_at}
use Rattle.schubert_laws.proofs.Differences.{along, along_commute, pair_differences}
use Rattle.schubert_laws.proofs.Dominant.{code_no_ascent}
use Rattle.schubert_laws.proofs.DualMonk.{fallen, one_line_exchange}
use Rattle.schubert_laws.proofs.Exchanges.{exchange_at, Rises, IsFirstAscent, first_ascent_cases, rises_within, rising_pairs_exchange, length-exchange_at}
use Rattle.schubert_laws.proofs.FixedTails.{one_more_inversion}
use Rattle.schubert_laws.proofs.FixedLetters.{In_descended}
use Rattle.schubert_laws.proofs.LeftSteps.{left_step, rises_letters}
use Rattle.schubert_laws.proofs.MonkFromOne.{one_line_swap}
use Rattle.schubert_laws.proofs.MonkRule.{HasNoAscent}
use Rattle.schubert_laws.proofs.MonkStep.{pair_ascent}
use Rattle.schubert_laws.proofs.Paths.{over_top}
use Rattle.schubert_laws.proofs.Swaps.{swap_at, swap_neighbour, swap_twice, length-swap_at, among_get}
use Rattle.double_schubert_laws.proofs.DoubleDominant.{In_difference_product, pair_double_ascent}
use Rattle.double_schubert_laws.proofs.InverseSteps.{turned, both_differences}
use Rattle.double_schubert_laws.proofs.Inverses.{IsInverse, turned_is, from_one}
use Rattle.double_row_laws.specs.ExchangedAlphabets.{exchange_alphabets}
use Rattle.double_row_laws.proofs.Mirrors.{mirror, pair_mirror, mirrored_difference, along_mirrors}

later_within : (steps j : ℕ) (g : Poly) (p : List ℕ) (φ : List ℕ → ℤ) → rising_pairs p < steps → length p ≤ j
    → pair (schubert_over (negate (differences_after j g)) p) φ ≡ neg_ℤ (pair (schubert_over g p) (along j φ))
later_within zero j g p φ b l = absurd (omega arith)
later_within (suc steps) j g p φ b l = by (first_ascent_cases p) (λ q ψ s t. later_within steps j g q ψ s t)
  where
    by : ((k : ℕ) × IsFirstAscent p k) ⊎ ((first_ascent p ≡ None) × ((k : ℕ) → Rises k p → ⊥))
        → ((q : List ℕ) (ψ : List ℕ → ℤ) → rising_pairs q < steps → length q ≤ j → pair (schubert_over (negate (differences_after j g)) q) ψ ≡ neg_ℤ (pair (schubert_over g q) (along j ψ)))
        → pair (schubert_over (negate (differences_after j g)) p) φ ≡ neg_ℤ (pair (schubert_over g p) (along j φ))
    by (inl found) rec =
        let r = found.1.rises in
        let e = rising_pairs_exchange found.0 p found.1.rises in
        let n = length-exchange_at found.0 p in
        let w = rises_within found.0 p found.1.rises in
        pair_ascent (negate (differences_after j g)) p found.0 φ found.1.rises
        ∙ rec (exchange_at found.0 p) (along found.0 φ) (omega arith) (omega arith)
        ∙ ap neg_ℤ (pair_ext (schubert_over g (exchange_at found.0 p)) (along j (along found.0 φ)) (along found.0 (along j φ)) (λ α. sym (along_commute found.0 j φ α (omega arith)))
        ∙ sym (pair_ascent g p found.0 (along j φ) found.1.rises))
    by (inr none) rec =
        ap (λ u. pair u φ) (over_top (negate (differences_after j g)) (rising_pairs p) p none.0)
        ∙ pair_negate (differences_after j g) φ
        ∙ ap neg_ℤ (pair_differences j g φ ∙ ap (λ u. pair u (along j φ)) (sym (over_top g (rising_pairs p) p none.0)))

-- ---- inverse permutations

place_inside : (v : List ℕ) (i : ℕ) → IsOneLine v → i < length v → (1 ≤ letter_at v i) × (letter_at v i - 1 < length v)
place_inside v i o h =
    let p = o.letters (letter_at v i) (among_get i (suc i) v h) in
    let q = p.0 in
    let r = p.1 in
    (q, omega arith)

exchange_inverse : (p v : List ℕ) (k : ℕ) → IsInverse p v → Rises k v
    → IsInverse (swap_at (letter_at v k - 1) (letter_at v (suc k) - 1) p) (exchange_at k v)
exchange_inverse p v k s r = record {
  one_line = one_line_swap (letter_at v k - 1) (letter_at v (suc k) - 1) p pl ql s.one_line;
  other = one_line_exchange k v s.other;
  as_long = length-swap_at (letter_at v k - 1) (letter_at v (suc k) - 1) p ∙ s.as_long ∙ sym (length-exchange_at k v);
  at = λ i h. by i (let e = length-exchange_at k v in omega arith) (cases_eq i k) (cases_eq i (suc k));
}
  where
    inside : suc k < length v
    inside = rises_within k v r

    pl : letter_at v k - 1 < length p
    pl = let e = s.as_long in let n = inside in let q = (place_inside v k s.other (omega arith)).1 in omega arith

    ql : letter_at v (suc k) - 1 < length p
    ql = let e = s.as_long in let q = (place_inside v (suc k) s.other inside).1 in omega arith

    moved : Exchanged (letter_at p) (letter_at v k - 1) (letter_at v (suc k) - 1) (letter_at (swap_at (letter_at v k - 1) (letter_at v (suc k) - 1) p))
    moved = exchanged_at (letter_at v k - 1) (letter_at v (suc k) - 1) p pl ql

    turns : Exchanged (letter_at v) k (suc k) (letter_at (exchange_at k v))
    turns = subst (λ u. Exchanged (letter_at v) k (suc k) (letter_at u)) (swap_neighbour k v inside) (exchanged_at k (suc k) v (let n = inside in omega arith) inside)

    by : (i : ℕ) → i < length v → (i ≡ k) ⊎ (i ≡ k → ⊥) → (i ≡ suc k) ⊎ (i ≡ suc k → ⊥)
        → letter_at (swap_at (letter_at v k - 1) (letter_at v (suc k) - 1) p) (letter_at (exchange_at k v) i - 1) ≡ suc i
    by i h (inl e) y =
        subst (λ j. letter_at (swap_at (letter_at v k - 1) (letter_at v (suc k) - 1) p) (letter_at (exchange_at k v) j - 1) ≡ suc j) (sym e)
        (ap (λ x. letter_at (swap_at (letter_at v k - 1) (letter_at v (suc k) - 1) p) (x - 1)) turns.0 ∙ moved.1 ∙ s.at k (let n = inside in omega arith))
    by i h (inr x) (inl e) =
        subst (λ j. letter_at (swap_at (letter_at v k - 1) (letter_at v (suc k) - 1) p) (letter_at (exchange_at k v) j - 1) ≡ suc j) (sym e)
        (ap (λ x. letter_at (swap_at (letter_at v k - 1) (letter_at v (suc k) - 1) p) (x - 1)) turns.1 ∙ moved.0 ∙ s.at (suc k) inside)
    by i h (inr x) (inr y) =
        let n = inside in
        let a = place_inside v i s.other h in
        let b = place_inside v k s.other (omega arith) in
        let c = place_inside v (suc k) s.other inside in
        let a0 = a.0 in
        let b0 = b.0 in
        let c0 = c.0 in
        ap (λ t. letter_at (swap_at (letter_at v k - 1) (letter_at v (suc k) - 1) p) (t - 1)) (turns.2 i x y)
        ∙ moved.2 (letter_at v i - 1) (λ e. x (different v s.other i k (omega arith))) (λ e. y (different v s.other i (suc k) (omega arith)))
        ∙ s.at i h

inverse_falls : (p v : List ℕ) → IsInverse p v → HasNoAscent v → HasNoAscent p
inverse_falls p v s n k r =
    let h = rises_within k p r in
    let e = s.as_long in
    let f = rises_letters k p r in
    let x = at k (omega arith) in
    let y = at (suc k) (omega arith) in
    omega arith
  where
    at : (r : ℕ) → r < length v → letter_at p r + r ≡ length v
    at r h =
        let x = s.at (length v - suc r) (omega arith) in
        let y = fallen v (length v - suc r) s.other n (omega arith) in
        let z = letter_is v (length v - suc r) 0 (omega arith) in
        let e : letter_at v (length v - suc r) - 1 ≡ r = omega arith in
        let t = ap (letter_at p) (sym e) ∙ x in
        omega arith

-- ---- the double Schubert polynomial with x and y exchanged

turned_neg : (n : ℕ) (z : ℤ) → turned n (neg_ℤ z) ≡ neg_ℤ (turned n z)
turned_neg zero z = refl
turned_neg (suc n) z = turned_neg n (neg_ℤ z)

negate_twice : (n : ℕ) (z : ℤ) → neg_ℤ (turned (suc n) z) ≡ turned n z
negate_twice n z = let e = turned_neg n z in omega (arith, ints)

fewer_inversions : (k : ℕ) (v : List ℕ) → IsOneLine v → Rises k v → inversions (exchange_at k v) ≡ suc (inversions v)
fewer_inversions k v o r = one_more_inversion v (exchange_at k v) o.once (one_line_exchange k v o).once (length-exchange_at k v) (rising_pairs_exchange k v r) ∙ omega arith

abbrev IsMirrored : ℕ → List ℕ → List ℕ → (List ℕ → ℤ) → Type 0
IsMirrored n p v ψ = pair (schubert_over (difference_product n n) p) (mirror n ψ) ≡ turned (inversions v) (pair (double_schubert v n) ψ)

top_mirrored : (n : ℕ) (p v : List ℕ) (ψ : List ℕ → ℤ) → IsInverse p v → length v ≡ n → HasNoAscent v → first_ascent v ≡ None → first_ascent p ≡ None → IsMirrored n p v ψ
top_mirrored n p v ψ s e h f q =
    ap (λ u. pair u (mirror n ψ)) (over_top (difference_product n n) (rising_pairs p) p q)
    ∙ mirrored_difference n ψ
    ∙ sym (ap₂ (λ i x. turned i x)
    (inversions-code v ∙ ap size (code_no_ascent v s.other.once h ∙ ap staircase e))
    (ap (λ u. pair u ψ) (over_top (difference_product (length v) n) (rising_pairs v) v f) ∙ ap (λ i. pair (difference_product i n) ψ) e))

mirrored_within : (steps n : ℕ) (p v : List ℕ) (ψ : List ℕ → ℤ) → rising_pairs v < steps → IsInverse p v → length v ≡ n → IsMirrored n p v ψ
mirrored_within zero n p v ψ b s l = absurd (omega arith)
mirrored_within (suc steps) n p v ψ b s l = by (first_ascent_cases v) (λ q u χ x y z. mirrored_within steps n q u χ x y z)
  where
    none_of : (w : List ℕ) → HasNoAscent w → first_ascent w ≡ None
    none_of w h = elim (first_ascent_cases w) [ inl f ↦ absurd (h f.0 f.1.rises) | inr e ↦ e.0 ]

    differs : (j i : ℕ) → n ≡ suc (suc (i + j)) → Same (differences_after i (difference_product n n)) (negate (differences_after (n + j) (difference_product n n)))
    differs j i e = same_from_pair (differences_after i (difference_product n n)) (negate (differences_after (n + j) (difference_product n n))) (λ φ.
        let x = both_differences i j n φ e in
        let y = pair_differences i (difference_product n n) φ in
        let z = pair_differences (n + j) (difference_product n n) φ in
        let t = pair_negate (differences_after (n + j) (difference_product n n)) φ in
        omega (arith, ints))

    at_ascent : (k : ℕ) → Rises k v → ((q u : List ℕ) (χ : List ℕ → ℤ) → rising_pairs u < steps → IsInverse q u → length u ≡ n → IsMirrored n q u χ) → IsMirrored n p v ψ
    at_ascent k r rec =
        let inside = rises_within k v r in
        let up = rises_letters k v r in
        let a = place_inside v k s.other (omega arith) in
        let z = place_inside v (suc k) s.other inside in
        let a0 = a.0 in
        let a1 = a.1 in
        let z1 = z.1 in
        let e = s.as_long in
        let i = exchange_inverse p v k s r in
        let m = exchanged_at (letter_at v k - 1) (letter_at v (suc k) - 1) p (omega arith) (omega arith) in
        let lq = length-swap_at (letter_at v k - 1) (letter_at v (suc k) - 1) p in
        let f = rising_pairs_exchange k v r in
        let bound = b in
        ap (λ w. pair (schubert_over (difference_product n n) w) (mirror n ψ)) (sym (swap_twice (letter_at v k - 1) (letter_at v (suc k) - 1) p (omega arith) (omega arith)))
        ∙ sym (left_step (suc k) (letter_at v k - 1) (letter_at v (suc k) - 1) (difference_product n n) (negate (differences_after (n + k) (difference_product n n)))
        (swap_at (letter_at v k - 1) (letter_at v (suc k) - 1) p) (mirror n ψ) i.one_line
        (record { order = omega arith; within = omega arith; greater = m.0 ∙ s.at (suc k) inside; less = m.1 ∙ s.at k (omega arith) })
        (differs k (length (swap_at (letter_at v k - 1) (letter_at v (suc k) - 1) p) - suc (suc k)) (omega arith)))
        ∙ later_within (suc (rising_pairs (swap_at (letter_at v k - 1) (letter_at v (suc k) - 1) p))) (n + k) (difference_product n n) (swap_at (letter_at v k - 1) (letter_at v (suc k) - 1) p) (mirror n ψ) (omega arith) (omega arith)
        ∙ ap neg_ℤ
        (pair_mirror n (schubert_over (difference_product n n) (swap_at (letter_at v k - 1) (letter_at v (suc k) - 1) p)) (along (n + k) (mirror n ψ)) (along k ψ)
        (In_descended (difference_product n n) (n + n) (rising_pairs (swap_at (letter_at v k - 1) (letter_at v (suc k) - 1) p)) (swap_at (letter_at v k - 1) (letter_at v (suc k) - 1) p) (In_difference_product n n))
        (along_mirrors n k ψ (omega arith))
        ∙ rec (swap_at (letter_at v k - 1) (letter_at v (suc k) - 1) p) (exchange_at k v) (along k ψ) (omega arith) i (length-exchange_at k v ∙ l)
        ∙ ap₂ (λ j z. turned j z) (fewer_inversions k v s.other r) (sym (pair_double_ascent n v k ψ r)))
        ∙ negate_twice (inversions v) (pair (double_schubert v n) ψ)

    by : ((k : ℕ) × IsFirstAscent v k) ⊎ ((first_ascent v ≡ None) × HasNoAscent v)
        → ((q u : List ℕ) (χ : List ℕ → ℤ) → rising_pairs u < steps → IsInverse q u → length u ≡ n → IsMirrored n q u χ) → IsMirrored n p v ψ
    by (inl found) rec = at_ascent found.0 found.1.rises rec
    by (inr none) rec = top_mirrored n p v ψ s l none.1 none.0 (none_of p (inverse_falls p v s none.1))

pub mirrored : (p v : List ℕ) (ψ : List ℕ → ℤ) → IsInverse p v → IsMirrored (length v) p v ψ
mirrored p v ψ s = mirrored_within (suc (rising_pairs v)) (length v) p v ψ (omega arith) s refl

pub pair_exchanged : (n : ℕ) (f : Poly) (ψ : List ℕ → ℤ) → pair (exchange_alphabets n f) ψ ≡ pair f (mirror n ψ)
pair_exchanged n f ψ = total_map (λ (t : Term). t.1 *ℤ ψ t.0) (λ (t : Term). (drop n t.0 ++ take n t.0, t.1)) f

pub inverse_exchanged : (v w : List ℕ) → IsOneLine v → IsOneLine w → AreInverse v w
    → Same (exchange_alphabets (length w) (double_schubert w (length w))) (scale (sign v) (double_schubert v (length v)))
inverse_exchanged v w o u a =
    same_from_pair (exchange_alphabets (length w) (double_schubert w (length w))) (scale (sign v) (double_schubert v (length v))) (λ ψ.
    pair_exchanged (length w) (double_schubert w (length w)) ψ
    ∙ ap (λ n. pair (schubert_over (difference_product n n) w) (mirror n ψ)) (sym a.as_long)
    ∙ mirrored w v ψ (from_one v w o u a)
    ∙ turned_is (inversions v) (pair (double_schubert v (length v)) ψ)
    ∙ sym (pair_scale (sign v) (double_schubert v (length v)) ψ))
