-- The words after a given word w in the list of the words that pass a test: `later` gives the same words as the part of the list after w
-- (`later_than`).
use Rattle.std.proofs.Common.{◌≡◌, ◌⊎◌, ℕ, zero, suc, ◌+◌, ◌-◌, ◌<◌, ◌≤◌, Bool, true, false, ◌&&◌, cond, List, [], ◌∷◌, ◌++◌, map, length, ◌∙◌, ap, ap₂, sym, refl, inl, inr, arith, append_assoc}
use Rattle.std.proofs.lemmas.Bool.{eq-eqb, ne_eqb, false_from_ne_true}
use Rattle.sym_model.specs.Sum.{Among}
use Rattle.sym_model.specs.Polynomial.{same}
use Rattle.sym_model.specs.Schur.{words}
use Rattle.sym_model.specs.GoodTableau.{is_among}
use Rattle.sym_model.specs.TableauList.{later_than}
use Rattle.sym_model.proofs.Exponents.{same_false}
use Rattle.sym_model.proofs.Sums.{Among-select, Among_from_select}
use Rattle.tableau_laws.proofs.GoodReadings.{is_among-tells}
use Rattle.tableau_iter.specs.Walks.{completions, continued, later}
use Rattle.tableau_iter.proofs.GoodWords.{word_from}
use Rattle.tableau_iter.proofs.Walking.{completions-first, continued-next}
use Rattle.sym_model.specs.Bounded.{AreLetters}
use Rattle.sym_model.proofs.Tableaux.{word_tells}

pub not_among-completions :
    (test : List ℕ → Bool) (k n : ℕ) (w : List ℕ) → ((length w ≡ n) × AreLetters k w → ⊥) → is_among w (completions test k n []) ≡ false
not_among-completions test k n w h =
    false_from_ne_true (is_among w (completions test k n []))
    (λ e. h (word_tells k n w (Among_from_select (λ v. test ([] ++ v)) w (words k n) (is_among-tells w (completions test k n []) e)).0))

-- ---- the part of a list after a given word (`later_than`)

later_than-append : (w : List ℕ) (xs ys : List (List ℕ)) → Among w xs → later_than w (xs ++ ys) ≡ later_than w xs ++ ys
later_than-append w [] ys m = absurd m
later_than-append w (x ∷ xs) ys m = by (same w x) refl m (λ n. later_than-append w xs ys n)
  where
    by : (b : Bool) → same w x ≡ b → (w ≡ x) ⊎ Among w xs → (Among w xs → later_than w (xs ++ ys) ≡ later_than w xs ++ ys)
        → cond b (xs ++ ys) (later_than w (xs ++ ys)) ≡ cond b xs (later_than w xs) ++ ys
    by true e m r = refl
    by false e (inl s) r = absurd (same_false w x e s)
    by false e (inr n) r = r n

later_than-map : (b : ℕ) (v : List ℕ) (xs : List (List ℕ)) → later_than (b ∷ v) (map (λ w. b ∷ w) xs) ≡ map (λ w. b ∷ w) (later_than v xs)
later_than-map b v [] = refl
later_than-map b v (x ∷ xs) =
    ap (λ c. cond (c && same v x) (map (λ w. b ∷ w) xs) (later_than (b ∷ v) (map (λ w. b ∷ w) xs))) (eq-eqb b b refl)
    ∙ by (same v x) (later_than-map b v xs)
  where
    by : (c : Bool) → later_than (b ∷ v) (map (λ w. b ∷ w) xs) ≡ map (λ w. b ∷ w) (later_than v xs)
        → cond c (map (λ w. b ∷ w) xs) (later_than (b ∷ v) (map (λ w. b ∷ w) xs)) ≡ map (λ w. b ∷ w) (cond c xs (later_than v xs))
    by true e = refl
    by false e = e

later_than-other :
    (a b : ℕ) (v : List ℕ) (xs ys : List (List ℕ)) → (b ≡ a → ⊥) → later_than (b ∷ v) (map (λ w. a ∷ w) xs ++ ys) ≡ later_than (b ∷ v) ys
later_than-other a b v [] ys n = refl
later_than-other a b v (x ∷ xs) ys n =
    ap (λ c. cond (c && same v x) (map (λ w. a ∷ w) xs ++ ys) (later_than (b ∷ v) (map (λ w. a ∷ w) xs ++ ys))) (ne_eqb b a n)
    ∙ later_than-other a b v xs ys n

later_than-continued :
    (test : List ℕ → Bool) (k n : ℕ) (front : List ℕ) (a gap b : ℕ) (v : List ℕ) → a + gap + 1 ≡ b → b ≤ k
    → Among v (completions test k n (front ++ b ∷ []))
    → later_than (b ∷ v) (continued test k n front a)
    ≡ map (λ w. b ∷ w) (later_than v (completions test k n (front ++ b ∷ []))) ++ continued test k n front b
later_than-continued test k n front a zero b v e h m =
    let next : a + 1 ≡ b = omega arith in
    let C = completions test k n (front ++ b ∷ []) in
    ap (later_than (b ∷ v)) (continued-next test k n front a (omega arith))
    ∙ ap (λ c. later_than (b ∷ v) (map (λ w. c ∷ w) (completions test k n (front ++ c ∷ [])) ++ continued test k n front c)) next
    ∙ later_than-append (b ∷ v) (map (λ w. b ∷ w) C) (continued test k n front b) (within v C m)
    ∙ ap (λ l. l ++ continued test k n front b) (later_than-map b v C)
  where
    within : (v : List ℕ) (xs : List (List ℕ)) → Among v xs → Among (b ∷ v) (map (λ w. b ∷ w) xs)
    within v [] m = absurd m
    within v (x ∷ xs) (inl e) = inl (ap (λ w. b ∷ w) e)
    within v (x ∷ xs) (inr n) = inr (within v xs n)
later_than-continued test k n front a (suc gap) b v e h m =
    let apart : b ≡ a + 1 → ⊥ = λ (f : b ≡ a + 1). omega arith in
    let less : a < k = omega arith in
    ap (later_than (b ∷ v)) (continued-next test k n front a less)
    ∙ later_than-other (a + 1) b v (completions test k n (front ++ (a + 1) ∷ [])) (continued test k n front (a + 1)) apart
    ∙ later_than-continued test k n front (a + 1) gap b v (omega arith) h m

-- if w is in the list of the words that complete the prefix `front`, the part of the list after w is `later test k front w`
pub later_than-completions :
    (test : List ℕ → Bool) (k n : ℕ) (front w : List ℕ) → Among w (completions test k n front)
    → later_than w (completions test k n front) ≡ later test k front w
unfolding later
later_than-completions test k zero front [] m = by (test (front ++ []))
  where
    by : (b : Bool) → later_than [] (cond b ([] ∷ []) []) ≡ []
    by true = refl
    by false = refl
later_than-completions test k zero front (a ∷ w) m =
    absurd (omega (arith, (word_tells k 0 (a ∷ w) (Among_from_select (λ v. test (front ++ v)) (a ∷ w) (words k 0) m).0).0))
later_than-completions test k (suc n) front [] m =
    absurd (omega (arith, (word_tells k (suc n) [] (Among_from_select (λ v. test (front ++ v)) [] (words k (suc n)) m).0).0))
later_than-completions test k (suc n) front (b ∷ v) m =
    let found = Among_from_select (λ v. test (front ++ v)) (b ∷ v) (words k (suc n)) m in
    let letters = word_tells k (suc n) (b ∷ v) found.0 in
    let count : length v ≡ n = omega (arith, letters.0) in
    let low = letters.1.0.0 in
    let high = letters.1.0.1 in
    let inner : Among v (completions test k n (front ++ b ∷ [])) =
    Among-select (λ u. test ((front ++ b ∷ []) ++ u)) v (words k n) (word_from k n v count letters.1.1)
    (ap test (append_assoc front (b ∷ []) v) ∙ found.1) in
    ap (later_than (b ∷ v)) (completions-first test k n front)
    ∙ later_than-continued test k n front 0 (b - 1) b v (omega (arith, low)) high inner
    ∙ ap₂ (λ xs m. map (λ w. b ∷ w) xs ++ continued test k m front b) (later_than-completions test k n (front ++ b ∷ []) v inner) (sym count)
