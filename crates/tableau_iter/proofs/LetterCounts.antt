-- Words in which no letter occurs more often than a given number of times (the rule `Limited`), and the numbers of occurrences of the letters in
-- their prefixes.
use Rattle.std.proofs.Common.{◌≡◌, ℕ, zero, suc, ◌+◌, ◌-◌, ◌<◌, ◌≤◌, true, ◌==◌, cond, List, [], ◌∷◌, ◌++◌, length, take, drop, get_or, ◌∙◌, ap, ap₂, sym, refl, inl, inr, arith}
use Rattle.std.proofs.lemmas.Bool.{cases_eq, eq-eqb, ne_eqb, lt-ltb, ltb-true}
use Rattle.std.proofs.lemmas.List.{length-map, take_more, take_all, take-append-drop, get_or_past}
use Rattle.sym_model.specs.Partition.{after, size}
use Rattle.sym_model.specs.Polynomial.{join, same}
use Rattle.sym_model.specs.Schur.{content, times_in}
use Rattle.sym_model.proofs.AfterLists.{length_after}
use Rattle.sym_model.proofs.Exponents.{same_true, same_from}
use Rattle.sym_model.proofs.Contents.{times_in-append, size-content}
use Rattle.skew_shapes.proofs.CellRows.{map_after-at}
use Rattle.tableau_iter.specs.Fits.{allows}
use Rattle.tableau_iter.specs.declared.rule.Rule.TheVariants.{Limited}
use Rattle.tableau_iter.proofs.FrontContents.{sum-at, times_in-one}
use Rattle.sym_model.specs.Bounded.{AreLetters}

size-less : (xs ys : List ℕ) → length xs ≡ length ys → ((i : ℕ) → i < length xs → get_or xs i 0 ≤ get_or ys i 0) → size xs ≤ size ys
size-less [] [] l h = omega arith
size-less [] (y ∷ ys) l h = omega arith
size-less (x ∷ xs) [] l h = absurd (omega arith)
size-less (x ∷ xs) (y ∷ ys) l h =
    let first : x ≤ y = h 0 (omega arith) in
    omega (arith, first, size-less xs ys (omega arith) (λ i m. h (suc i) (omega arith)))

same-size : (xs ys : List ℕ) → length xs ≡ length ys → ((i : ℕ) → i < length xs → get_or xs i 0 ≤ get_or ys i 0) → size xs ≡ size ys → xs ≡ ys
same-size [] [] l h s = refl
same-size [] (y ∷ ys) l h s = absurd (omega arith)
same-size (x ∷ xs) [] l h s = absurd (omega arith)
same-size (x ∷ xs) (y ∷ ys) l h s =
    let first : x ≤ y = h 0 (omega arith) in
    let rest = size-less xs ys (omega arith) (λ i m. h (suc i) (omega arith)) in
    ap₂ ◌∷◌ (omega arith) (same-size xs ys (omega arith) (λ i m. h (suc i) (omega arith)) (omega arith))

-- ---- the rule `Limited` as a bound on the number of occurrences of each letter in the word

content-at : (k i : ℕ) (w : List ℕ) → i < k → get_or (content k w) i 0 ≡ times_in (i + 1) w
content-at k i w h =
    let letter : 0 + i + 1 ≡ i + 1 = omega arith in
    map_after-at (λ j. times_in j w) 0 k i 0 h ∙ ap (λ j. times_in j w) letter

pub content-allows :
    (k : ℕ) (counts w : List ℕ) (p : ℕ) → length counts ≡ k → same (content k w) counts ≡ true → p < length w → 1 ≤ get_or w p 0 → get_or w p 0 ≤ k
    → allows Limited counts (join [] (content k (take p w))) (get_or w p 0) ≡ true
content-allows k counts w p l e h low high =
    let a = get_or w p 0 in
    let i = get_or w p 0 - 1 in
    let letter : get_or w p 0 ≡ get_or w p 0 - 1 + 1 = omega arith in
    let one : cond {A = ℕ} (get_or w p 0 == get_or w p 0 - 1 + 1) 1 0 ≡ 1 = ap (λ b. cond b 1 0) (eq-eqb (get_or w p 0) (get_or w p 0 - 1 + 1) letter) in
    let all = ap (times_in (get_or w p 0 - 1 + 1)) (take-append-drop (p + 1) w) in
    let split = times_in-append (get_or w p 0 - 1 + 1) (take (p + 1) w) (drop (p + 1) w) in
    let front = ap (times_in (get_or w p 0 - 1 + 1)) (take_more w p 0 h) in
    lt-ltb (get_or (join [] (content k (take p w))) (get_or w p 0 - 1) 0) (get_or counts (get_or w p 0 - 1) 0)
    (omega (
      arith,
      ap (λ xs. get_or xs (get_or w p 0 - 1) 0) (same_true (content k w) counts e),
      content-at k (get_or w p 0 - 1) w (omega arith),
      sum-at [] (take p w) k (get_or w p 0 - 1) (omega arith) (omega arith),
      get_or_past {X = ℕ} [] (get_or w p 0 - 1) 0 (omega arith),
      times_in-one (get_or w p 0 - 1 + 1) (get_or w p 0) (take p w),
      one,
      all,
      split,
      front,
    ))

fronts_limited :
    (k : ℕ) (counts w : List ℕ) (e i : ℕ) → length counts ≡ k
    → ((p : ℕ) → p < length w → (1 ≤ get_or w p 0) × (get_or w p 0 ≤ k) × (allows Limited counts (join [] (content k (take p w))) (get_or w p 0) ≡ true))
    → e ≤ length w → i < k → times_in (i + 1) (take e w) ≤ get_or counts i 0
fronts_limited k counts w zero i l allowed h m = omega arith
fronts_limited k counts w (suc e) i l allowed h m =
    let next : e + 1 ≡ suc e = omega arith in
    let more : take (suc e) w ≡ take e w ++ get_or w e 0 ∷ [] = ap (λ n. take n w) (sym next) ∙ take_more w e 0 (omega arith) in
    let before = fronts_limited k counts w e i l allowed (omega arith) m in
    let step = allowed e (omega arith) in
    elim (cases_eq (get_or w e 0) (i + 1)) [
      | inl s ↦
          let one : cond {A = ℕ} (get_or w e 0 == i + 1) 1 0 ≡ 1 = ap (λ b. cond b 1 0) (eq-eqb (get_or w e 0) (i + 1) s) in
          let place : get_or w e 0 - 1 ≡ i = omega arith in
          let less = ltb-true (get_or (join [] (content k (take e w))) (get_or w e 0 - 1) 0) (get_or counts (get_or w e 0 - 1) 0) step.2 in
          omega (
            arith,
            less,
            ap (λ n. get_or (join [] (content k (take e w))) n 0) place,
            ap (λ n. get_or counts n 0) place,
            sum-at [] (take e w) k i (omega arith) m,
            times_in-one (i + 1) (get_or w e 0) (take e w),
            ap (times_in (i + 1)) more,
            one,
          )
      | inr n ↦
          let none : cond {A = ℕ} (get_or w e 0 == i + 1) 1 0 ≡ 0 = ap (λ b. cond b 1 0) (ne_eqb (get_or w e 0) (i + 1) n) in
          omega (arith, before, times_in-one (i + 1) (get_or w e 0) (take e w), ap (times_in (i + 1)) more, none)
    ]

pub content-from :
    (k : ℕ) (counts w : List ℕ) → length counts ≡ k → length w ≡ size counts → AreLetters k w
    → ((p : ℕ) → p < length w → (1 ≤ get_or w p 0) × (get_or w p 0 ≤ k) × (allows Limited counts (join [] (content k (take p w))) (get_or w p 0) ≡ true))
    → same (content k w) counts ≡ true
content-from k counts w l s within allowed =
    let long : length (content k w) ≡ k = length-map (after 0 k) (λ j. times_in j w) ∙ length_after 0 k in
    same_from (content k w) counts
    (same-size (content k w) counts (omega arith)
    (λ i h.
    omega (
      arith,
      content-at k i w (omega arith),
      fronts_limited k counts w (length w) i l allowed (omega arith) (omega arith),
      ap (times_in (i + 1)) (take_all (length w) w (omega arith)),
    ))
    (omega (arith, size-content k w within)))
