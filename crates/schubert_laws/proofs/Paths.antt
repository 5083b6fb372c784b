-- Every path of divided differences gives the same polynomial S_w = `schubert_over g w`, for any polynomial g from which the paths start.
--     over_first      S_w is ∂ S_v at the first ascent of w; here v is w with the letters of this ascent exchanged
--     any_ascent      S_w is ∂ S_v at each ascent of w; here v is w with the letters of this ascent exchanged
use Rattle.std.proofs.Common.{◌≡◌, ℕ, zero, suc, ◌+◌, ◌-◌, ◌<◌, ◌≤◌, List, [], ◌∷◌, length, get_or, refl, sym, ◌∙◌, ap, subst, arith, inl, inr, ◌⊎◌, Some, None, rules}
use Rattle.std.specs.Option.{option_map_or}
use Rattle.std.proofs.lemmas.Bool.{cases_eq, cases_lt}
use Rattle.sym_model.specs.Polynomial.{Poly, Same, coefficient}
use Rattle.sym_model.specs.BetaList.{rising_pairs}
use Rattle.sym_model.specs.Permutation.{exchanged, first_ascent, IsDescent}
use Rattle.sym_model.specs.DividedDifference.{differences_after, divided_difference}
use Rattle.sym_model.specs.Schubert.{descended, schubert_over}
use Rattle.sym_model.proofs.Polynomials.{Same_trans, same_of_equal}
use Rattle.schubert_laws.proofs.Exchanges.{exchange_at, Rises, IsFirstAscent, exchanged_is, rises_within, rising_pairs_exchange, first_ascent_cases, exchange_twice}
use Rattle.schubert_laws.proofs.DifferenceLaws.{differences_respect, differences_commute, differences_braid}

-- ---- `schubert_over g w` is g if w has no ascent, and otherwise the divided difference at the first ascent

pub over_top : (g : Poly) (n : ℕ) (w : List ℕ) → first_ascent w ≡ None → descended g n w ≡ g
over_top g zero w e = refl
over_top g (suc n) w e = ap (λ o. option_map_or (λ i. divided_difference i (descended g n (exchanged i w))) o g) e

pub over_first : (g : Poly) (w : List ℕ) (k : ℕ) → IsFirstAscent w k → schubert_over g w ≡ differences_after k (schubert_over g (exchange_at k w))
over_first g w k f = search (rules, rising_pairs_exchange, exchange_at, exchanged_is, rises_within)

pub exchange_far : (j k : ℕ) (w : List ℕ) → j + 2 ≤ k → exchange_at j (exchange_at k w) ≡ exchange_at k (exchange_at j w)
exchange_far j zero w h = absurd (omega arith)
exchange_far zero (suc zero) w h = absurd (omega arith)
exchange_far zero (suc (suc k)) [] h = refl
exchange_far zero (suc (suc k)) (a ∷ []) h = refl
exchange_far zero (suc (suc k)) (a ∷ b ∷ w) h = refl
exchange_far (suc j) (suc k) [] h = refl
exchange_far (suc j) (suc k) (a ∷ w) h = ap (λ v. a ∷ v) (exchange_far j k w (omega arith))

pub exchange_braid : (k : ℕ) (w : List ℕ) → Rises (suc k) w → exchange_at k (exchange_at (suc k) (exchange_at k w)) ≡ exchange_at (suc k) (exchange_at k (exchange_at (suc k) w))
exchange_braid k [] r = absurd r
exchange_braid zero (a ∷ []) r = absurd r
exchange_braid zero (a ∷ b ∷ []) r = absurd r
exchange_braid zero (a ∷ b ∷ c ∷ w) r = refl
exchange_braid (suc k) (a ∷ w) r = ap (λ v. a ∷ v) (exchange_braid k w r)

rises_later : (j k : ℕ) (w : List ℕ) → j + 2 ≤ k → Rises k w → Rises k (exchange_at j w)
rises_later j zero w h r = absurd (omega arith)
rises_later zero (suc zero) w h r = absurd (omega arith)
rises_later zero (suc (suc k)) [] h r = absurd r
rises_later zero (suc (suc k)) (a ∷ []) h r = absurd r
rises_later zero (suc (suc k)) (a ∷ b ∷ w) h r = r
rises_later (suc j) (suc k) [] h r = absurd r
rises_later (suc j) (suc k) (a ∷ w) h r = rises_later j k w (omega arith) r

rises_earlier : (j k : ℕ) (w : List ℕ) → j + 2 ≤ k → Rises j w → Rises j (exchange_at k w)
rises_earlier j zero w h r = absurd (omega arith)
rises_earlier zero (suc zero) w h r = absurd (omega arith)
rises_earlier zero (suc (suc k)) [] h r = absurd r
rises_earlier zero (suc (suc k)) (a ∷ []) h r = absurd r
rises_earlier zero (suc (suc k)) (a ∷ b ∷ w) h r = r
rises_earlier (suc j) (suc k) [] h r = absurd r
rises_earlier (suc j) (suc k) (a ∷ w) h r = rises_earlier j k w (omega arith) r

rises_ends : (k : ℕ) (w : List ℕ) → Rises k w → Rises (suc k) w → Rises (suc k) (exchange_at k w) × Rises k (exchange_at (suc k) w)
rises_ends k [] r s = absurd r
rises_ends zero (a ∷ []) r s = absurd r
rises_ends zero (a ∷ b ∷ []) r s = absurd s
rises_ends zero (a ∷ b ∷ c ∷ w) r s = (omega arith, omega arith)
rises_ends (suc k) (a ∷ w) r s = rises_ends k w r s

rises_upper : (k : ℕ) (w : List ℕ) → Rises (suc k) w → Rises k (exchange_at (suc k) (exchange_at k w))
rises_upper k [] r = absurd r
rises_upper zero (a ∷ []) r = absurd r
rises_upper zero (a ∷ b ∷ []) r = absurd r
rises_upper zero (a ∷ b ∷ c ∷ w) r = r
rises_upper (suc k) (a ∷ w) r = rises_upper k w r

rises_lower : (k : ℕ) (w : List ℕ) → Rises k w → Rises (suc k) w → Rises (suc k) (exchange_at k (exchange_at (suc k) w))
rises_lower k [] r s = absurd r
rises_lower zero (a ∷ []) r s = absurd r
rises_lower zero (a ∷ b ∷ []) r s = absurd s
rises_lower zero (a ∷ b ∷ c ∷ w) r s = r
rises_lower (suc k) (a ∷ w) r s = rises_lower k w r s

-- S_w is ∂_(k+1) of S_v, v being w with the entries at the places k and k + 1, counted from 0, exchanged; S is `schubert_over g`
abbrev pub StepsAt : Poly → List ℕ → ℕ → Type 0
StepsAt g w k = Same (schubert_over g w) (differences_after k (schubert_over g (exchange_at k w)))

steps_far : (g : Poly) (w : List ℕ) (j k : ℕ) → j + 2 ≤ k → IsFirstAscent w j → StepsAt g (exchange_at j w) k → StepsAt g (exchange_at k w) j → StepsAt g w k
steps_far g w j k h f p q α =
    ap (λ u. coefficient u α) (over_first g w j f)
    ∙ differences_respect j (schubert_over g (exchange_at j w)) (differences_after k (schubert_over g (exchange_at k (exchange_at j w)))) p α
    ∙ differences_commute j k (schubert_over g (exchange_at k (exchange_at j w))) h α
    ∙ ap (λ v. coefficient (differences_after k (differences_after j (schubert_over g v))) α) (sym (exchange_far j k w h))
    ∙ sym (differences_respect k (schubert_over g (exchange_at k w)) (differences_after j (schubert_over g (exchange_at j (exchange_at k w)))) q α)

steps_near : (g : Poly) (w : List ℕ) (k : ℕ) → IsFirstAscent w k → Rises (suc k) w
    → StepsAt g (exchange_at k w) (suc k) → StepsAt g (exchange_at (suc k) (exchange_at k w)) k
    → StepsAt g (exchange_at (suc k) w) k → StepsAt g (exchange_at k (exchange_at (suc k) w)) (suc k) → StepsAt g w (suc k)
steps_near g w k f r p₁ p₂ q₁ q₂ α =
    ap (λ u. coefficient u α) (over_first g w k f)
    ∙ differences_respect k (schubert_over g (exchange_at k w)) (differences_after (suc k) (differences_after k (schubert_over g (exchange_at k (exchange_at (suc k) (exchange_at k w))))))
    (Same_trans (schubert_over g (exchange_at k w)) (differences_after (suc k) (schubert_over g (exchange_at (suc k) (exchange_at k w)))) (differences_after (suc k) (differences_after k (schubert_over g (exchange_at k (exchange_at (suc k) (exchange_at k w))))))
    p₁ (differences_respect (suc k) (schubert_over g (exchange_at (suc k) (exchange_at k w))) (differences_after k (schubert_over g (exchange_at k (exchange_at (suc k) (exchange_at k w))))) p₂)) α
    ∙ differences_braid k (schubert_over g (exchange_at k (exchange_at (suc k) (exchange_at k w)))) α
    ∙ ap (λ v. coefficient (differences_after (suc k) (differences_after k (differences_after (suc k) (schubert_over g v)))) α) (exchange_braid k w r)
    ∙ sym (differences_respect (suc k) (schubert_over g (exchange_at (suc k) w)) (differences_after k (differences_after (suc k) (schubert_over g (exchange_at (suc k) (exchange_at k (exchange_at (suc k) w))))))
    (Same_trans (schubert_over g (exchange_at (suc k) w)) (differences_after k (schubert_over g (exchange_at k (exchange_at (suc k) w)))) (differences_after k (differences_after (suc k) (schubert_over g (exchange_at (suc k) (exchange_at k (exchange_at (suc k) w))))))
    q₁ (differences_respect k (schubert_over g (exchange_at k (exchange_at (suc k) w))) (differences_after (suc k) (schubert_over g (exchange_at (suc k) (exchange_at k (exchange_at (suc k) w))))) q₂)) α)

any_ascent_within : (n : ℕ) (g : Poly) (w : List ℕ) (k : ℕ) → rising_pairs w < n → Rises k w → StepsAt g w k
any_ascent_within zero g w k h r = absurd (omega arith)
any_ascent_within (suc n) g w k h r = by (first_ascent_cases w) (λ v j b s. any_ascent_within n g v j b s)
  where
    fewer : (j : ℕ) (v : List ℕ) → Rises j v → rising_pairs v < suc n → rising_pairs (exchange_at j v) < n
    fewer j v s b = let e = rising_pairs_exchange j v s in omega arith

    at_first : (j : ℕ) → IsFirstAscent w j → ((v : List ℕ) (i : ℕ) → rising_pairs v < n → Rises i v → StepsAt g v i) → (j ≡ k) ⊎ (j ≡ k → ⊥) → (suc j ≡ k) ⊎ (suc j ≡ k → ⊥) → StepsAt g w k
    at_first j f rec (inl e) c = subst (λ i. StepsAt g w i) e (same_of_equal (schubert_over g w) (differences_after j (schubert_over g (exchange_at j w))) (over_first g w j f))
    at_first j f rec (inr d) (inl e) =
        let s : Rises (suc j) w = subst (λ i. Rises i w) (sym e) r in
        let ends = rises_ends j w f.rises s in
        let b = fewer j w f.rises h in
        let c = fewer (suc j) w s h in
        subst (λ i. StepsAt g w i) e (steps_near g w j f s
        (rec (exchange_at j w) (suc j) b ends.0)
        (rec (exchange_at (suc j) (exchange_at j w)) j (fewer (suc j) (exchange_at j w) ends.0 (omega arith)) (rises_upper j w s))
        (rec (exchange_at (suc j) w) j c ends.1)
        (rec (exchange_at j (exchange_at (suc j) w)) (suc j) (fewer j (exchange_at (suc j) w) ends.1 (omega arith)) (rises_lower j w f.rises s)))
    at_first j f rec (inr d) (inr c) =
        elim (cases_lt k j) [
          | inl l ↦ absurd (f.first k l r)
          | inr l ↦
              let far : j + 2 ≤ k = apart j k d c l in
              steps_far g w j k far f (rec (exchange_at j w) k (fewer j w f.rises h) (rises_later j k w far r)) (rec (exchange_at k w) j (fewer k w r h) (rises_earlier j k w far f.rises))
        ]
      where
        apart : (x y : ℕ) → (x ≡ y → ⊥) → (suc x ≡ y → ⊥) → x ≤ y → x + 2 ≤ y
        apart x y p q m = omega arith

    by : ((j : ℕ) × IsFirstAscent w j) ⊎ ((first_ascent w ≡ None) × ((j : ℕ) → Rises j w → ⊥)) → ((v : List ℕ) (i : ℕ) → rising_pairs v < n → Rises i v → StepsAt g v i) → StepsAt g w k
    by (inl found) rec = at_first found.0 found.1 rec (cases_eq found.0 k) (cases_eq (suc found.0) k)
    by (inr none) rec = absurd (none.1 k r)

pub any_ascent : (g : Poly) (w : List ℕ) (k : ℕ) → Rises k w → StepsAt g w k
any_ascent g w k r = any_ascent_within (suc (rising_pairs w)) g w k (omega arith) r

pub rises_back : (k : ℕ) (w : List ℕ) (c d : ℕ) → suc k < length w → get_or w (suc k) c < get_or w k d → Rises k (exchange_at k w)
rises_back k [] c d h l = absurd (omega arith)
rises_back zero (a ∷ []) c d h l = absurd (omega arith)
rises_back zero (a ∷ b ∷ w) c d h l = l
rises_back (suc k) (a ∷ w) c d h l = rises_back k w c d (omega arith) l

pub any_descent : (g : Poly) (w : List ℕ) (i : ℕ) → IsDescent w i → Same (divided_difference i (schubert_over g w)) (schubert_over g (exchanged i w))
any_descent g w zero d = λ α. absurd (let h = d.counts in omega arith)
any_descent g w (suc k) d = λ α.
    ap (λ v. coefficient (differences_after k (schubert_over g v)) α) (sym (exchange_twice k w))
    ∙ sym (any_ascent g (exchange_at k w) k rises α)
    ∙ ap (λ v. coefficient (schubert_over g v) α) (sym (exchanged_is k w d.within))
  where
    rises : Rises k (exchange_at k w)
    rises =
        let e : suc k + 1 - 1 ≡ suc k = omega arith in
        let f : suc k - 1 ≡ k = omega arith in
        let l = rw (e, f) at d.falls in
        rises_back k w (suc k + 1) (suc k) d.within l

-- if i is the first ascent of w, counted from 1, then `schubert_over g w` is ∂_i of `schubert_over g v`; here v is w with the letters of the ascent
-- exchanged
pub over_step : (g : Poly) (w : List ℕ) (i : ℕ) → first_ascent w ≡ Some i → schubert_over g w ≡ divided_difference i (schubert_over g (exchanged i w))
over_step g w i e = search (rules, first_ascent_cases, over_first, exchanged_is, rises_within)
