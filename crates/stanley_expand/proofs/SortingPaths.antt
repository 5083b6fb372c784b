-- For a list w of m first letters, the sum of c·A(α + d) over the terms c·x^α of a Schubert polynomial in m variables, with d = `rising_code w`. A is
-- a function that changes its sign if two neighbouring entries of its argument are exchanged. The proof goes along the exchanges that sort w.
--     along_lowered      if d is c with 1 added to the first of two equal neighbouring entries, and ∂ is the divided difference in the variables of
--                        these entries, then the sum of b·A(d + γ) over the terms b·x^γ of ∂x^α is A(c + α)
--     grassmannian_path  the sum of c·A(α + d) over the terms c·x^α is the value of A at the list w sorted to be decreasing, each letter minus 1
use Rattle.std.proofs.Common.{◌≡◌, ℕ, zero, suc, ◌+◌, ◌-◌, ◌<◌, ◌≤◌, List, [], ◌∷◌, ◌++◌, map, length, replicate, refl, sym, ◌∙◌, ap, ap₂, subst, arith, inl, inr, ◌⊎◌, cond, Bool, true, false, None, ℤ, pos, neg_ℤ, length-append}
use Rattle.std.proofs.lemmas.Int.{ints}
use Rattle.std.proofs.lemmas.Bool.{cases_lt, cond_below}
use Rattle.std.proofs.lemmas.List.{length-map}
use Rattle.sym_model.specs.Sum.{Among, Once}
use Rattle.sym_model.specs.Polynomial.{pair, join, resize, fits_in}
use Rattle.sym_model.specs.Partition.{Falls}
use Rattle.sym_model.specs.PlaceOrders.{smaller}
use Rattle.sym_model.specs.Alternant.{staircase}
use Rattle.sym_model.specs.BetaList.{greater, rising_pairs, put_falling, sorted_falling}
use Rattle.sym_model.specs.Permutation.{code, first_ascent}
use Rattle.sym_model.specs.DividedDifference.{x_to}
use Rattle.sym_model.specs.Schubert.{schubert}
use Rattle.sym_model.proofs.SortedParts.{Falls_tail}
use Rattle.sym_model.proofs.Parts.{Falls-zeros}
use Rattle.sym_model.proofs.Exponents.{join_zeros, length-resize, all_zero_zeros}
use Rattle.sym_model.proofs.Polynomials.{pair_in}
use Rattle.sym_model.proofs.Numbers.{counts-not_less}
use Rattle.schubert_laws.proofs.Climbs.{across, across_ext, across_alternating}
use Rattle.schubert_laws.proofs.Differences.{along, along_zero}
use Rattle.schubert_laws.proofs.Exchanges.{exchange_at, Rises, IsFirstAscent, first_ascent_cases, rises_within, rising_pairs_exchange, length-exchange_at, greater_exchange}
use Rattle.schubert_laws.proofs.FixedTails.{greater_or_smaller, once_front}
use Rattle.schubert_laws.proofs.Dominant.{IsOneUp, one_up, falls_exchange, over_exchange, once_exchange, among_exchange, smaller_exchange, greater_head}
use Rattle.schubert_laws.proofs.FixedLetters.{In_schubert}
use Rattle.schubert_laws.proofs.MonkStep.{pair_ascent, jump_first}
use Rattle.schubert_laws.proofs.MonkRule.{HasNoAscent, pair_dominant, greater_of_none}
use Rattle.beta_list_laws.proofs.NeighbourExchanges.{sorted-exchange, sorted-falling}
use Rattle.alternant_laws.proofs.Alternating.{inserting, alternating, alternating_swap}
use Rattle.sym_model.proofs.PolynomialLaws.{restricted_test}

-- ---- divided differences of alternating functions

abbrev pub Alternates : (List ℕ → ℤ) → Type 0
Alternates A = (k : ℕ) (α : List ℕ) → suc k < length α → A (exchange_at k α) ≡ neg_ℤ (A α)

pub alternates : (ψ : List ℕ → ℤ) → Alternates (λ α. alternating α ψ)
alternates ψ k [] h = absurd (omega arith)
alternates ψ zero (a ∷ []) h = absurd (omega arith)
alternates ψ zero (a ∷ b ∷ α) h = alternating_swap b a α ψ
alternates ψ (suc k) (a ∷ α) h = alternates (inserting a ψ) k α (omega arith)

lowered_first : (A : ℕ → ℕ → ℤ) → ((p q : ℕ) → A q p ≡ neg_ℤ (A p q)) → (c x y : ℕ) → across (λ p q. A (suc c + p) (c + q)) x y ≡ A (c + x) (c + y)
lowered_first A h c x y =
    let e = across_ext (λ p q. A (suc c + p) (c + q)) (λ p q. A (c + suc p) (c + q)) (λ p q. let d : suc c + p ≡ c + suc p = omega arith in ap (λ n. A n (c + q)) d) x y in
    let j = jump_first (λ p q. A (c + p) (c + q)) x y in
    let z = across_alternating (λ p q. A (c + p) (c + q)) (λ p q. h (c + p) (c + q)) x (suc y) in
    omega (arith, ints)

along_lowered : (k : ℕ) (c d α : List ℕ) (A : List ℕ → ℤ) → IsOneUp k c d → Alternates A → length α ≡ length c → along k (λ γ. A (join d γ)) α ≡ A (join c α)
along_lowered k [] d α A u h l = absurd u
along_lowered zero (a ∷ []) d α A u h l = absurd u
along_lowered zero (a ∷ b ∷ c) d [] A u h l = absurd (omega arith)
along_lowered zero (a ∷ b ∷ c) d (x ∷ []) A u h l = absurd (omega arith)
along_lowered zero (a ∷ b ∷ c) d (x ∷ y ∷ α) A u h l =
    ap (λ t. along 0 (λ γ. A (join t γ)) (x ∷ y ∷ α)) (u.1 ∙ ap (λ t. suc t ∷ b ∷ c) u.0)
    ∙ lowered_first (λ p q. A (p ∷ q ∷ join c α)) (λ p q. h 0 (p ∷ q ∷ join c α) (omega arith)) b x y
    ∙ ap (λ t. A ((t + x) ∷ (b + y) ∷ join c α)) (sym u.0)
along_lowered (suc k) (a ∷ c) [] α A u h l = absurd u
along_lowered (suc k) (a ∷ c) (b ∷ d) [] A u h l = absurd (omega arith)
along_lowered (suc k) (a ∷ c) (b ∷ d) (x ∷ α) A u h l =
    along_lowered k c d α (λ β. A ((b + x) ∷ β)) u.1 (λ j β m. h (suc j) ((b + x) ∷ β) (omega arith)) (omega arith)
    ∙ ap (λ t. A ((t + x) ∷ join c α)) (sym u.0)

across_if : (t : Bool) (φ : ℕ → ℕ → ℤ) (a b : ℕ) → across (λ c d. cond t (φ c d) (pos 0)) a b ≡ cond t (across φ a b) (pos 0)
across_if true φ a b = refl
across_if false φ a b = along_zero 0 (a ∷ b ∷ [])

pub along_within : (k n : ℕ) (φ : List ℕ → ℤ) (α : List ℕ) → suc k < n → suc k < length α → along k (restricted_test n φ) α ≡ restricted_test n (along k φ) α
along_within k n φ [] h l = absurd (omega arith)
along_within k zero φ (a ∷ α) h l = absurd (omega arith)
along_within zero (suc zero) φ (a ∷ α) h l = absurd (omega arith)
along_within zero (suc (suc n)) φ (a ∷ []) h l = absurd (omega arith)
along_within zero (suc (suc n)) φ (a ∷ b ∷ α) h l = across_if (fits_in n α) (λ c d. φ (c ∷ d ∷ resize n α)) a b
along_within (suc k) (suc n) φ (a ∷ α) h l = along_within k n (λ β. φ (a ∷ β)) α (omega arith) (omega arith)

-- ---- the numbers of greater entries after each entry of a list (`rising_code`), and the code of a prefix of a list

abbrev pub rising_code : List ℕ → List ℕ
rising_code [] = []
rising_code (a ∷ w) = greater a w ∷ rising_code w

length-rising_code : (w : List ℕ) → length (rising_code w) ≡ length w
length-rising_code [] = refl
length-rising_code (a ∷ w) = ap suc (length-rising_code w)

rising_up : (k : ℕ) (w : List ℕ) → Once w → Falls (code w) → Rises k w → IsOneUp k (rising_code (exchange_at k w)) (rising_code w)
rising_up k [] o f r = absurd r
rising_up zero (a ∷ []) o f r = absurd r
rising_up zero (a ∷ b ∷ w) o f r =
    let u = (one_up zero (a ∷ b ∷ w) f r).0 in
    let p = sym (cond_below {X = ℕ} a b 1 0 r) in
    let q = counts-not_less b a (omega arith) in
    let x = greater_or_smaller a w (λ m. o.0 (inr m)) in
    let y = greater_or_smaller b w o.1.0 in
    (omega arith, ap₂ (λ s t. s ∷ t ∷ rising_code w) (omega arith) (omega arith))
rising_up (suc k) (a ∷ w) o f r = (greater_exchange a k w, rising_up k w o.1 (Falls_tail (smaller a w) (code w) f) r)

exchange_front : (k : ℕ) (w z : List ℕ) → Rises k w → exchange_at k (w ++ z) ≡ exchange_at k w ++ z
exchange_front k [] z r = absurd r
exchange_front zero (a ∷ []) z r = absurd r
exchange_front zero (a ∷ b ∷ w) z r = refl
exchange_front (suc k) (a ∷ w) z r = ap (λ v. a ∷ v) (exchange_front k w z r)

pub rises_front : (k : ℕ) (w z : List ℕ) → Rises k w → Rises k (w ++ z)
rises_front k [] z r = absurd r
rises_front zero (a ∷ []) z r = absurd r
rises_front zero (a ∷ b ∷ w) z r = r
rises_front (suc k) (a ∷ w) z r = rises_front k w z r

sorted_exchange_at : (k : ℕ) (w : List ℕ) → sorted_falling (exchange_at k w) ≡ sorted_falling w
sorted_exchange_at zero [] = refl
sorted_exchange_at zero (a ∷ []) = refl
sorted_exchange_at zero (a ∷ b ∷ w) = sorted-exchange [] b a w
sorted_exchange_at (suc k) [] = refl
sorted_exchange_at (suc k) (a ∷ w) = ap (put_falling a) (sorted_exchange_at k w)

-- w is the list of the letters at the first places, and z the list of the letters after them; all these letters are different, and z is increasing.
-- For each letter x of w, exactly x - 1 letters of w and z are smaller than x.
pub record IsFront (w z : List ℕ) : Type 0 where
  pub once : Once (w ++ z)
  pub counts : (x : ℕ) → Among x w → 1 ≤ x
  pub smaller_ones : (x : ℕ) → Among x w → smaller x (w ++ z) ≡ x - 1
  pub rest : code z ≡ replicate (length z) 0

front_exchange : (k : ℕ) (w z : List ℕ) → Rises k w → IsFront w z → IsFront (exchange_at k w) z
front_exchange k w z r f = record {
  once = subst Once (exchange_front k w z r) (once_exchange k (w ++ z) f.once);
  counts = λ x m. f.counts x (among_exchange x k w m);
  smaller_ones = λ x m. ap (smaller x) (sym (exchange_front k w z r)) ∙ smaller_exchange x k (w ++ z) ∙ f.smaller_ones x (among_exchange x k w m);
  rest = f.rest;
}

falls_without_ascent : (w : List ℕ) → HasNoAscent w → Falls w
falls_without_ascent [] n = tt
falls_without_ascent (a ∷ []) n = tt
falls_without_ascent (a ∷ b ∷ w) n = (elim (cases_lt a b) [ inl l ↦ absurd (n 0 l) | inr l ↦ l ], falls_without_ascent (b ∷ w) (λ k. n (suc k)))

abbrev pub pred : ℕ → ℕ
pred a = a - 1

code_front : (w z : List ℕ) → Once w → HasNoAscent w → ((x : ℕ) → Among x w → smaller x (w ++ z) ≡ x - 1) → code (w ++ z) ≡ map pred w ++ code z
code_front [] z o n h = refl
code_front (a ∷ w) z o n h =
    let s = h a (inl refl) in
    let own = counts-not_less a a (omega arith) in
    ap₂ ◌∷◌ (omega arith) (code_front w z o.1 (λ k. n (suc k)) (λ x m.
    let b = greater_head a w o n x m in
    let t = h x (inr m) in
    let c = counts-not_less a x (omega arith) in
    omega arith))

falls_front : (w : List ℕ) (k : ℕ) → Falls w → Falls (map pred w ++ replicate k 0)
falls_front [] k f = Falls-zeros k
falls_front (a ∷ []) zero f = tt
falls_front (a ∷ []) (suc k) f = (omega arith, Falls-zeros (suc k))
falls_front (a ∷ b ∷ w) k f = let h : b ≤ a = f.0 in (omega arith, falls_front (b ∷ w) k f.1)

fits_front : (w : List ℕ) (k : ℕ) → fits_in (length w) (map pred w ++ replicate k 0) ≡ true
fits_front [] k = all_zero_zeros k
fits_front (a ∷ w) k = fits_front w k

resize_front : (w z : List ℕ) → resize (length w) (map pred w ++ z) ≡ map pred w
resize_front [] z = refl
resize_front (a ∷ w) z = ap (λ l. pred a ∷ l) (resize_front w z)

rising_code_falling : (w : List ℕ) → Once w → HasNoAscent w → rising_code w ≡ replicate (length w) 0
rising_code_falling [] o n = refl
rising_code_falling (a ∷ w) o n =
    ap₂ ◌∷◌ (greater_of_none a w (λ y m. let b = greater_head a w o n y m in omega arith)) (rising_code_falling w o.1 (λ k. n (suc k)))

grassmannian_within : (n : ℕ) (w z : List ℕ) (A : List ℕ → ℤ) → rising_pairs w < n → Alternates A → IsFront w z → Falls (code w)
    → pair (schubert (w ++ z)) (restricted_test (length w) (λ α. A (join (rising_code w) α))) ≡ A (map pred (sorted_falling w))
grassmannian_within zero w z A b h i f = absurd (omega arith)
grassmannian_within (suc n) w z A b h i f = by (first_ascent_cases w) (λ v c j g. grassmannian_within n v z A c h j g)
  where
    by : ((j : ℕ) × IsFirstAscent w j) ⊎ ((first_ascent w ≡ None) × HasNoAscent w)
        → ((v : List ℕ) → rising_pairs v < n → IsFront v z → Falls (code v) → pair (schubert (v ++ z)) (restricted_test (length v) (λ α. A (join (rising_code v) α))) ≡ A (map pred (sorted_falling v)))
        → pair (schubert (w ++ z)) (restricted_test (length w) (λ α. A (join (rising_code w) α))) ≡ A (map pred (sorted_falling w))
    by (inl found) rec =
        let k : ℕ = found.0 in
        let r = found.1.rises in
        let e = rising_pairs_exchange k w r in
        let l = length-exchange_at k w in
        let m = rises_within k w r in
        let o = once_front w z i.once in
        let all = length-append (exchange_at k w) z in
        pair_ascent (x_to (staircase (length (w ++ z)))) (w ++ z) k (restricted_test (length w) (λ α. A (join (rising_code w) α))) (rises_front k w z r)
        ∙ ap (λ p. pair p (along k (restricted_test (length w) (λ α. A (join (rising_code w) α))))) (over_exchange (w ++ z) k ∙ ap schubert (exchange_front k w z r))
        ∙ pair_in (length (exchange_at k w ++ z)) (schubert (exchange_at k w ++ z)) (along k (restricted_test (length w) (λ α. A (join (rising_code w) α))))
        (restricted_test (length w) (λ α. A (join (rising_code (exchange_at k w)) α))) (In_schubert (exchange_at k w ++ z)) (λ α t.
        along_within k (length w) (λ γ. A (join (rising_code w) γ)) α m (omega arith)
        ∙ ap (λ x. cond (fits_in (length w) α) x (pos 0)) (along_lowered k (rising_code (exchange_at k w)) (rising_code w) (resize (length w) α) A (rising_up k w o f r) h
        (length-resize (length w) α ∙ sym (length-rising_code (exchange_at k w) ∙ l))))
        ∙ ap (λ x. pair (schubert (exchange_at k w ++ z)) (restricted_test x (λ α. A (join (rising_code (exchange_at k w)) α)))) (sym l)
        ∙ rec (exchange_at k w) (omega arith) (front_exchange k w z r i) (falls_exchange k w o f r found.1.first)
        ∙ ap (λ x. A (map pred x)) (sorted_exchange_at k w)
    by (inr none) rec =
        let o = once_front w z i.once in
        let falls = falls_without_ascent w none.1 in
        let c = code_front w z o none.1 i.smaller_ones ∙ ap (λ x. map pred w ++ x) i.rest in
        let long = length-map w pred in
        pair_dominant (w ++ z) (restricted_test (length w) (λ α. A (join (rising_code w) α))) i.once (subst Falls (sym c) (falls_front w (length z) falls))
        ∙ ap (restricted_test (length w) (λ α. A (join (rising_code w) α))) c
        ∙ ap₂ (λ b x. cond b (A (join (rising_code w) x)) (pos 0)) (fits_front w (length z)) (resize_front w (replicate (length z) 0))
        ∙ ap (λ x. A (join x (map pred w))) (rising_code_falling w o none.1)
        ∙ ap A (join_zeros (length w) (map pred w) (omega arith))
        ∙ ap (λ x. A (map pred x)) (sym (sorted-falling w falls))

pub grassmannian_path : (w z : List ℕ) (A : List ℕ → ℤ) → Alternates A → IsFront w z → Falls (code w)
    → pair (schubert (w ++ z)) (restricted_test (length w) (λ α. A (join (rising_code w) α))) ≡ A (map pred (sorted_falling w))
grassmannian_path w z A h i f = grassmannian_within (suc (rising_pairs w)) w z A (omega arith) h i f
