-- If a permutation is increasing at places 1 to m and after place m, its Schubert polynomial in m variables is a Schur polynomial.
--     symmetric_front  the Schubert polynomial in n variables is symmetric, if the permutation is increasing at places 1 to n
--     grassmannian     the Schubert polynomial is a Schur polynomial, since the products of a_ρ with these two polynomials are the same alternant
use Rattle.std.proofs.Common.{◌≡◌, ℕ, zero, suc, ◌<◌, ◌≤◌, List, [], ◌∷◌, ◌++◌, map, reverse, length, replicate, refl, sym, ◌∙◌, ap, ap₂, subst, arith, inl, inr, ◌⊎◌, cond, nat_le, false, ℤ, pos, length-append}
use Rattle.std.proofs.lemmas.Bool.{cases_eq, cond_below}
use Rattle.std.proofs.lemmas.Bool.Decides.{nat_tests}
use Rattle.std.proofs.lemmas.List.{length-map, length-reverse, reverse-append}
use Rattle.sym_model.specs.Sum.{Among}
use Rattle.sym_model.specs.Polynomial.{Same, same, times, pair, join, coefficient, resize, fits_in}
use Rattle.sym_model.specs.Partition.{Falls}
use Rattle.sym_model.specs.PlaceOrders.{smaller}
use Rattle.sym_model.specs.Symmetric.{Symmetric}
use Rattle.sym_model.specs.Alternant.{staircase, alternant, alternants_over}
use Rattle.sym_model.specs.Schur.{schur}
use Rattle.sym_model.specs.BetaList.{greater, put_falling, sorted_falling, from_beta}
use Rattle.sym_model.specs.Permutation.{code}
use Rattle.sym_model.specs.DividedDifference.{x_to}
use Rattle.sym_model.specs.Schubert.{schubert, schubert_in}
use Rattle.sym_model.proofs.Sums.{among_reverse}
use Rattle.sym_model.proofs.Exponents.{tests_agree, same_true, same_from}
use Rattle.sym_model.proofs.Polynomials.{In_restrict, at_only, coefficient_pair, coefficient_outside, pair_ext, pair_in, pair_restrict, pair_determined, same_from_pair}
use Rattle.sym_model.proofs.Numbers.{counts-not_less}
use Rattle.sym_model.proofs.Parts.{length-staircase, Falls-zeros}
use Rattle.schubert_laws.proofs.Climbs.{across_exchanged}
use Rattle.schubert_laws.proofs.Differences.{along}
use Rattle.schubert_laws.proofs.Exchanges.{exchange_at, Rises, exchange_twice, length-exchange_at}
use Rattle.schubert_laws.proofs.Dominant.{over_exchange}
use Rattle.schubert_laws.proofs.FixedLetters.{In_schubert}
use Rattle.schubert_laws.proofs.MonkStep.{pair_ascent}
use Rattle.beta_list_laws.specs.StrictFall.{FallsStrictly}
use Rattle.beta_list_laws.proofs.BetaLists.{from_beta_partition, rows-from_beta}
use Rattle.alternant_laws.proofs.Alternating.{alternating}
use Rattle.alternant_laws.proofs.OrderSums.{pair_alternant}
use Rattle.alternant_laws.proofs.AlternantProducts.{pair_alternants_over, alternant_times}
use Rattle.alternant_laws.proofs.Staircase.{staircase_cancels}
use Rattle.alternant_laws.proofs.GoodAlternants.{In-skew_schur}
use Rattle.alternant_laws.proofs.SchurProducts.{bialternant}
use Rattle.alternant_laws.proofs.SortedAlternants.{from_beta-join}
use Rattle.stanley_expand.proofs.SortingPaths.{alternates, along_within, rising_code, rises_front, IsFront, pred, grassmannian_path}
use Rattle.sym_model.proofs.PolynomialLaws.{restricted_test}

-- ---- lists whose letters are increasing

abbrev pub AllRise : List ℕ → Type 0
AllRise w = (k : ℕ) → suc k < length w → Rises k w

tail_rises : (a : ℕ) (w : List ℕ) → AllRise (a ∷ w) → AllRise w
tail_rises a w r k h = r (suc k) (omega arith)

rising_head : (a : ℕ) (w : List ℕ) → AllRise (a ∷ w) → (x : ℕ) → Among x w → a < x
rising_head a [] r x m = absurd m
rising_head a (b ∷ w) r x (inl e) = let h : a < b = r 0 (omega arith) in omega arith
rising_head a (b ∷ w) r x (inr m) = let h : a < b = r 0 (omega arith) in let g = rising_head b w (tail_rises a (b ∷ w) r) x m in omega arith

pub smaller_of_none : (a : ℕ) (w : List ℕ) → ((x : ℕ) → Among x w → a < x) → smaller a w ≡ 0
smaller_of_none a [] h = refl
smaller_of_none a (b ∷ w) h = let g = h b (inl refl) in let c = counts-not_less b a (omega arith) in let e = smaller_of_none a w (λ x m. h x (inr m)) in omega arith

greater_of_all : (a : ℕ) (w : List ℕ) → ((x : ℕ) → Among x w → a < x) → greater a w ≡ length w
greater_of_all a [] h = refl
greater_of_all a (b ∷ w) h = let c = sym (cond_below {X = ℕ} a b 1 0 (h b (inl refl))) in let e = greater_of_all a w (λ x m. h x (inr m)) in omega arith

pub code_rising : (w : List ℕ) → AllRise w → code w ≡ replicate (length w) 0
code_rising [] r = refl
code_rising (a ∷ w) r = ap₂ ◌∷◌ (smaller_of_none a w (rising_head a w r)) (code_rising w (tail_rises a w r))

rising_code_rising : (w : List ℕ) → AllRise w → rising_code w ≡ staircase (length w)
rising_code_rising [] r = refl
rising_code_rising (a ∷ w) r = ap₂ ◌∷◌ (greater_of_all a w (rising_head a w r)) (rising_code_rising w (tail_rises a w r))

put_last : (a : ℕ) (l : List ℕ) → ((x : ℕ) → Among x l → a < x) → put_falling a l ≡ l ++ (a ∷ [])
put_last a [] h = refl
put_last a (b ∷ l) h =
    let g = h b (inl refl) in
    let e : nat_le b a ≡ false = grind (arith, nat_tests) in
    ap (λ t. cond t (a ∷ b ∷ l) (b ∷ put_falling a l)) e ∙ ap (λ v. b ∷ v) (put_last a l (λ x m. h x (inr m)))

sorted_rising : (w : List ℕ) → AllRise w → sorted_falling w ≡ reverse w
sorted_rising [] r = refl
sorted_rising (a ∷ w) r =
    ap (put_falling a) (sorted_rising w (tail_rises a w r))
    ∙ put_last a (reverse w) (λ x m. rising_head a w r x (among_reverse x w m))
    ∙ sym (reverse-append (a ∷ []) w)

strict_added : (a : ℕ) (l : List ℕ) → FallsStrictly (map pred l) → 1 ≤ a → ((x : ℕ) → Among x l → a < x) → FallsStrictly (map pred (l ++ (a ∷ [])))
strict_added a [] f c h = tt
strict_added a (b ∷ []) f c h = let g = h b (inl refl) in (omega arith, tt)
strict_added a (b ∷ d ∷ l) f c h = (f.0, strict_added a (d ∷ l) f.1 c (λ x m. h x (inr m)))

strict_reverse : (w : List ℕ) → AllRise w → ((x : ℕ) → Among x w → 1 ≤ x) → FallsStrictly (map pred (reverse w))
strict_reverse [] r c = tt
strict_reverse (a ∷ w) r c =
    subst (λ l. FallsStrictly (map pred l)) (sym (reverse-append (a ∷ []) w))
    (strict_added a (reverse w) (strict_reverse w (tail_rises a w r) (λ x m. c x (inr m))) (c a (inl refl)) (λ x m. rising_head a w r x (among_reverse x w m)))

length-reverse_map : (w : List ℕ) → length (map pred (reverse w)) ≡ length w
length-reverse_map w = length-map (reverse w) pred ∙ length-reverse w

-- ---- Schubert polynomials are symmetric in the variables of places at which the letters are increasing

along_exchanged : (k : ℕ) (φ : List ℕ → ℤ) (α : List ℕ) → along k (λ γ. φ (exchange_at k γ)) α ≡ along k φ α
along_exchanged zero φ [] = refl
along_exchanged zero φ (a ∷ []) = refl
along_exchanged zero φ (a ∷ b ∷ α) = across_exchanged (λ c d. φ (c ∷ d ∷ α)) a b
along_exchanged (suc k) φ [] = refl
along_exchanged (suc k) φ (a ∷ α) = along_exchanged k (λ β. φ (a ∷ β)) α

pair_front_exchanged : (k n : ℕ) (u : List ℕ) (φ : List ℕ → ℤ) → suc k < n → suc k < length u → Rises k u → pair (schubert_in u n) (λ α. φ (exchange_at k α)) ≡ pair (schubert_in u n) φ
pair_front_exchanged k n u φ h l r =
    pair_restrict n (schubert u) (λ α. φ (exchange_at k α))
    ∙ pair_ascent (x_to (staircase (length u))) u k (restricted_test n (λ α. φ (exchange_at k α))) r
    ∙ ap (λ p. pair p (along k (restricted_test n (λ α. φ (exchange_at k α))))) (over_exchange u k)
    ∙ pair_in (length (exchange_at k u)) (schubert (exchange_at k u)) (along k (restricted_test n (λ α. φ (exchange_at k α)))) (along k (restricted_test n φ)) (In_schubert (exchange_at k u)) (λ α e.
    let i = length-exchange_at k u in
    along_within k n (λ γ. φ (exchange_at k γ)) α h (omega arith)
    ∙ ap (λ x. cond (fits_in n α) x (pos 0)) (along_exchanged k φ (resize n α))
    ∙ sym (along_within k n φ α h (omega arith)))
    ∙ ap (λ p. pair p (along k (restricted_test n φ))) (sym (over_exchange u k))
    ∙ sym (pair_restrict n (schubert u) φ ∙ pair_ascent (x_to (staircase (length u))) u k (restricted_test n φ) r)

exchanged_there : (left : List ℕ) (a b : ℕ) (right : List ℕ) → exchange_at (length left) (left ++ (a ∷ b ∷ right)) ≡ left ++ (b ∷ a ∷ right)
exchanged_there [] a b right = refl
exchanged_there (c ∷ left) a b right = ap (λ l. c ∷ l) (exchanged_there left a b right)

at_exchanged : (k : ℕ) (α γ : List ℕ) → at_only α (exchange_at k γ) ≡ at_only (exchange_at k α) γ
at_exchanged k α γ = ap (λ b. cond b (pos 1) (pos 0)) (tests_agree (same (exchange_at k γ) α) (same γ (exchange_at k α))
    (λ t. same_from γ (exchange_at k α) (sym (exchange_twice k γ) ∙ ap (exchange_at k) (same_true (exchange_at k γ) α t)))
    (λ t. same_from (exchange_at k γ) α (ap (exchange_at k) (same_true γ (exchange_at k α) t) ∙ exchange_twice k α)))

pub symmetric_front : (n : ℕ) (u : List ℕ) → n ≤ length u → ((k : ℕ) → suc k < n → Rises k u) → Symmetric (schubert_in u n)
symmetric_front n u l r left a b right = by (cases_eq (length (left ++ (a ∷ b ∷ right))) n)
  where
    by : (length (left ++ (a ∷ b ∷ right)) ≡ n) ⊎ (length (left ++ (a ∷ b ∷ right)) ≡ n → ⊥)
        → coefficient (schubert_in u n) (left ++ (a ∷ b ∷ right)) ≡ coefficient (schubert_in u n) (left ++ (b ∷ a ∷ right))
    by (inl e) =
        let k : ℕ = length left in
        let x = length-append left (a ∷ b ∷ right) in
        coefficient_pair (schubert_in u n) (left ++ (a ∷ b ∷ right))
        ∙ sym (pair_front_exchanged (length left) n u (at_only (left ++ (a ∷ b ∷ right))) (omega arith) (omega arith) (r (length left) (omega arith)))
        ∙ pair_ext (schubert_in u n) (λ γ. at_only (left ++ (a ∷ b ∷ right)) (exchange_at (length left) γ)) (at_only (left ++ (b ∷ a ∷ right))) (λ γ.
        at_exchanged (length left) (left ++ (a ∷ b ∷ right)) γ ∙ ap (λ α. at_only α γ) (exchanged_there left a b right))
        ∙ sym (coefficient_pair (schubert_in u n) (left ++ (b ∷ a ∷ right)))
    by (inr d) =
        let x = length-append left (a ∷ b ∷ right) in
        let y = length-append left (b ∷ a ∷ right) in
        coefficient_outside n (schubert_in u n) (left ++ (a ∷ b ∷ right)) (In_restrict n (schubert u)) d
        ∙ sym (coefficient_outside n (schubert_in u n) (left ++ (b ∷ a ∷ right)) (In_restrict n (schubert u)) (λ e. d (omega arith)))

-- for an increasing list w of m letters, the partition of the parts w(i) - i for i from m down to 1
abbrev pub front_parts : List ℕ → List ℕ
front_parts w = from_beta (map pred (reverse w))

pub grassmannian : (w z : List ℕ) → IsFront w z → AllRise w → Same (schubert_in (w ++ z) (length w)) (schur (front_parts w) (length w))
grassmannian w z i r =
    let n : ℕ = length w in
    let f = schubert_in (w ++ z) (length w) in
    let long = length-append w z in
    let inside = In_restrict (length w) (schubert (w ++ z)) in
    let strict = strict_reverse w r i.counts in
    let rl = length-reverse_map w in
    let rows_fit = rows-from_beta (map pred (reverse w)) in
    let sl = length-staircase (length w) in
    let sym_f = symmetric_front (length w) (w ++ z) (omega arith) (λ k h. rises_front k w z (r k h)) in
    let falls = subst Falls (sym (code_rising w r)) (Falls-zeros (length w)) in
    staircase_cancels (length w) (schubert_in (w ++ z) (length w)) (schur (front_parts w) (length w)) inside (In-skew_schur (length w) (front_parts w) [])
    (same_from_pair (times (alternant (staircase (length w))) (schubert_in (w ++ z) (length w))) (times (alternant (staircase (length w))) (schur (front_parts w) (length w))) (λ φ.
    pair_determined (times (alternant (staircase (length w))) (schubert_in (w ++ z) (length w))) (alternants_over (staircase (length w)) (schubert_in (w ++ z) (length w))) φ
    (alternant_times (length w) (staircase (length w)) (schubert_in (w ++ z) (length w)) sl inside sym_f)
    ∙ pair_alternants_over (length w) (staircase (length w)) (schubert_in (w ++ z) (length w)) φ sl inside
    ∙ pair_ext (schubert_in (w ++ z) (length w)) (λ α. pair (alternant (join (staircase (length w)) α)) φ) (λ α. alternating (join (rising_code w) α) φ) (λ α.
    pair_alternant (join (staircase (length w)) α) φ ∙ ap (λ c. alternating (join c α) φ) (sym (rising_code_rising w r)))
    ∙ pair_restrict (length w) (schubert (w ++ z)) (λ α. alternating (join (rising_code w) α) φ)
    ∙ grassmannian_path w z (λ α. alternating α φ) (alternates φ) i falls
    ∙ ap (λ l. alternating (map pred l) φ) (sorted_rising w r)
    ∙ sym (pair_alternant (map pred (reverse w)) φ)
    ∙ ap (λ β. pair (alternant β) φ) (sym (from_beta-join (map pred (reverse w)) strict) ∙ ap (λ k. join (front_parts w) (staircase k)) rl)
    ∙ sym (pair_determined (times (alternant (staircase (length w))) (schur (front_parts w) (length w))) (alternant (join (front_parts w) (staircase (length w)))) φ
    (bialternant (length w) (front_parts w) (from_beta_partition (map pred (reverse w)) strict) (omega arith)))))
