-- The sum of a function over the labels (w, β) of the terms y^β·S_w that chains of covers give, and the step from k to k + 1 for all chains in which the
-- greater letters are at most m (`one_place_more_y`). A letter that stands at one of the first k places, and is not exchanged, gives its variable y or
-- none. The step is proved by induction on m, as that of ChainSums without y, whose two kinds of terms are got from it (`first`, `second`). Places are
-- counted from 0.
use Rattle.std.proofs.Common.{◌≡◌, ℕ, zero, suc, ◌<◌, ◌≤◌, List, [], ◌∷◌, ◌++◌, length, replicate, ◌-◌, refl, sym, ◌∙◌, ap, ap₂, subst, arith, inl, inr, ◌⊎◌, cond, nat_lt, Bool, true, false, ℤ, pos, ◌+ℤ◌, neg_ℤ}
use Rattle.std.proofs.lemmas.Int.{ints}
use Rattle.std.proofs.lemmas.Bool.{cases_eq, cases_lt}
use Rattle.sym_model.specs.Permutation.{IsOneLine}
use Rattle.sym_model.specs.Polynomial.{join}
use Rattle.sym_model.specs.DividedDifference.{raised}
use Rattle.sym_model.proofs.Exponents.{join_comm, join_assoc}
use Rattle.schubert_laws.specs.Chains.{letters_before}
use Rattle.schubert_laws.proofs.ChainSums.{place_below, letter_there, place_is, if_less, if_not_less, up_ext, up_none, lift, lift_none, lift_some, lift_ext, chain_sum, later_term, later_ext, monk_part, part_some, part_add, no_covers_left, one_place_more}
use Rattle.schubert_laws.proofs.CoverTests.{letter_at, different, exchanged_at, covers_only_if, up}
use Rattle.schubert_laws.proofs.MonkFromOne.{one_line_swap}
use Rattle.schubert_laws.proofs.MonkStep.{is_cover}
use Rattle.schubert_laws.proofs.Pieri.{part_ext}
use Rattle.schubert_laws.proofs.PlaceSums.{sum_below, sum_below_ext, sum_below_add, sum_below_none, sum_below_last}
use Rattle.schubert_laws.proofs.Swaps.{swap_at, length-swap_at, among_get}

-- ---- the terms with one cover and with two covers of ChainSums

record IsSetting (m k : ℕ) (w : List ℕ) : Type 0 where
  pub one_line : IsOneLine w
  pub place : k < length w
  pub letters : suc m ≤ length w

swapped_setting : (m k a b : ℕ) (w : List ℕ) → IsSetting m k w → a < length w → b < length w → IsSetting m k (swap_at a b w)
swapped_setting m k a b w s h l =
    let e = length-swap_at a b w in
    let p = s.place in
    let q = s.letters in
    record { one_line = one_line_swap a b w h l s.one_line; place = omega arith; letters = omega arith }

pub lift_sum : (F G : List ℕ → ℤ) (w : List ℕ) (k b : ℕ) → lift (λ v. F v +ℤ G v) w k b ≡ lift F w k b +ℤ lift G w k b
lift_sum F G w k b = elim (cases_lt b k) [
  | inl h ↦
      let x = lift_none (λ v. F v +ℤ G v) w k b h in
      let y = lift_none F w k b h in
      let z = lift_none G w k b h in
      omega (arith, ints)
  | inr h ↦
      let x = lift_some (λ v. F v +ℤ G v) w k b h in
      let y = lift_some F w k b h in
      let z = lift_some G w k b h in
      let s = sum_below_ext k (λ a. up (λ v. F v +ℤ G v) w a b) (λ a. up F w a b +ℤ up G w a b) (λ a i. at (is_cover w a b) (F (swap_at a b w)) (G (swap_at a b w))) in
      let t = sum_below_add k (λ a. up F w a b) (λ a. up G w a b) in
      omega (arith, ints)
]
  where
    at : (t : Bool) (x y : ℤ) → cond t (x +ℤ y) (pos 0) ≡ cond t x (pos 0) +ℤ cond t y (pos 0)
    at true x y = refl
    at false x y = refl

-- F at each list, by the covers that swap the letter m + 1 with one at the first k places
abbrev lifted_top : ℕ → ℕ → (List ℕ → ℤ) → List ℕ → ℤ
lifted_top m k F v = lift F v k (letters_before (suc m) v)

first : (m k : ℕ) (F : List ℕ → ℤ) (w : List ℕ) → IsSetting m k w
    → monk_part m k F w +ℤ lift F w (suc k) (letters_before (suc m) w) ≡ lift F w k (letters_before (suc m) w) +ℤ monk_part (suc m) k F w
first m k F w s =
    let l = s.letters in
    let b : ℕ = letters_before (suc m) w in
    let a = one_place_more m zero k F w s.one_line s.place (omega arith) in
    let c = one_place_more (suc m) zero k F w s.one_line s.place l in
    let x = lift_ext (λ v. chain_sum m zero (suc k) F v) F w (suc k) (letters_before (suc m) w) (λ a i j. no_covers_left m (suc k) F (swap_at a (letters_before (suc m) w) w)) in
    let y = lift_ext (λ v. chain_sum m zero k F v) F w k (letters_before (suc m) w) (λ a i j. no_covers_left m k F (swap_at a (letters_before (suc m) w) w)) in
    let z = part_ext m k (λ v. chain_sum m zero k F v) F w (λ c i r t. no_covers_left m k F (swap_at k c w)) (λ a i. no_covers_left m k F (swap_at a k w)) in
    let t = part_ext (suc m) k (λ v. chain_sum m zero k F v) F w (λ c i r t. no_covers_left m k F (swap_at k c w)) (λ a i. no_covers_left m k F (swap_at a k w)) in
    omega (arith, ints)

second : (m k : ℕ) (F : List ℕ → ℤ) (w : List ℕ) → IsSetting m k w
    → lift (monk_part m k F) w (suc k) (letters_before (suc m) w) ≡ monk_part (suc m) k (lifted_top m k F) w
second m k F w s =
    let l = s.letters in
    let inside = place_below (suc m) w s.one_line (omega arith) l in
    let a = one_place_more m (suc zero) k F w s.one_line s.place (omega arith) in
    let c = one_place_more (suc m) (suc zero) k F w s.one_line s.place l in
    let x = lift_ext (λ v. chain_sum m (suc zero) (suc k) F v) (λ v. chain_sum m (suc zero) k F v +ℤ monk_part m k F v) w (suc k) (letters_before (suc m) w) (λ a i j.
    let p = s.place in
    let t = swapped_setting m k a (letters_before (suc m) w) w s (omega arith) inside in
    let tl = t.letters in
    one_place_more m zero k F (swap_at a (letters_before (suc m) w) w) t.one_line t.place (omega arith)
    ∙ ap (λ z. chain_sum m (suc zero) k F (swap_at a (letters_before (suc m) w) w) +ℤ z)
    (part_ext m k (λ v. chain_sum m zero k F v) F (swap_at a (letters_before (suc m) w) w)
    (λ c i r t. no_covers_left m k F (swap_at k c (swap_at a (letters_before (suc m) w) w)))
    (λ c i. no_covers_left m k F (swap_at c k (swap_at a (letters_before (suc m) w) w))))) in
    let y = lift_sum (λ v. chain_sum m (suc zero) k F v) (monk_part m k F) w (suc k) (letters_before (suc m) w) in
    let p = part_add (suc m) k (λ v. chain_sum m (suc zero) k F v) (λ v. lift (λ u. chain_sum m zero k F u) v k (letters_before (suc m) v)) w in
    let q = part_ext (suc m) k (λ v. lift (λ u. chain_sum m zero k F u) v k (letters_before (suc m) v)) (lifted_top m k F) w
    (λ c i r t. one_lift (swap_at k c w)) (λ a i. one_lift (swap_at a k w)) in
    let f = first m k (λ v. chain_sum m (suc zero) k F v) w s in
    omega (arith, ints)
  where
    one_lift : (v : List ℕ) → lift (λ u. chain_sum m zero k F u) v k (letters_before (suc m) v) ≡ lifted_top m k F v
    one_lift v = lift_ext (λ u. chain_sum m zero k F u) F v k (letters_before (suc m) v) (λ a i j. no_covers_left m k F (swap_at a (letters_before (suc m) v) v))

-- ---- the letter m + 1

record IsTop (m : ℕ) (w : List ℕ) (b : ℕ) : Type 0 where
  pub within : b < length w
  pub letter : letter_at w b ≡ suc m
  pub is : letters_before (suc m) w ≡ b

the_top : (m k : ℕ) (w : List ℕ) → IsSetting m k w → IsTop m w (letters_before (suc m) w)
the_top m k w s =
    let l = s.letters in
    record {
      within = place_below (suc m) w s.one_line (omega arith) l;
      letter = letter_there (suc m) w s.one_line (omega arith) l;
      is = refl;
    }

not_top : (m k b c : ℕ) (w : List ℕ) → IsSetting m k w → IsTop m w b → (c ≡ b → ⊥) → letter_at w c ≡ suc m → ⊥
not_top m k b c w s t n e = n (different w s.one_line c b (e ∙ sym t.letter))

top_stays : (m k b c d : ℕ) (w : List ℕ) → IsSetting m k w → IsTop m w b → c < length w → d < length w → (b ≡ c → ⊥) → (b ≡ d → ⊥)
    → letters_before (suc m) (swap_at c d w) ≡ b
top_stays m k b c d w s t h l n o =
    let u = swapped_setting m k c d w s h l in
    let v = u.letters in
    place_is (suc m) b (swap_at c d w) u.one_line (omega arith) v ((exchanged_at c d w h l).2 b n o ∙ t.letter)

top_goes : (m k b c : ℕ) (w : List ℕ) → IsSetting m k w → IsTop m w b → c < length w → letters_before (suc m) (swap_at c b w) ≡ c
top_goes m k b c w s t h =
    let u = swapped_setting m k c b w s h t.within in
    let v = u.letters in
    place_is (suc m) c (swap_at c b w) u.one_line (omega arith) v ((exchanged_at c b w h t.within).0 ∙ t.letter)

rises_only : (w : List ℕ) (a b : ℕ) → IsOneLine w → a < b → b < length w → is_cover w a b ≡ true → letter_at w a < letter_at w b
rises_only w a b o h l t = (covers_only_if a b w o h l t).0

-- Monk's sums over two functions that agree at the covers
part_at_covers : (m k : ℕ) (F G : List ℕ → ℤ) (w : List ℕ) → (letter_at w k ≤ m → (b : ℕ) → k < b → b < length w → is_cover w k b ≡ true → F (swap_at k b w) ≡ G (swap_at k b w))
    → (letter_at w k ≤ m → (a : ℕ) → a < k → is_cover w a k ≡ true → F (swap_at a k w) ≡ G (swap_at a k w)) → monk_part m k F w ≡ monk_part m k G w
part_at_covers m k F G w later earlier = elim (cases_lt m (letter_at w k)) [
  | inl h ↦ if_less m (letter_at w k) _ _ h ∙ sym (if_less m (letter_at w k) (pos 0) (sum_below (length w) (later_term m k G w) +ℤ neg_ℤ (sum_below k (λ a. up G w a k))) h)
  | inr h ↦
      part_some m k F w h
      ∙ ap₂ (λ x y. x +ℤ neg_ℤ y)
      (sum_below_ext (length w) (later_term m k F w) (later_term m k G w) (λ b i. later_ext m k F G w b (λ r l. up_ext F G w k b (later h b r i))))
      (sum_below_ext k (λ a. up F w a k) (λ a. up G w a k) (λ a i. up_ext F G w a k (earlier h a i)))
      ∙ sym (part_some m k G w h)
]

part_of_none : (m k : ℕ) (w : List ℕ) → monk_part m k (λ v. pos 0) w ≡ pos 0
part_of_none m k w = let e = part_add m k (λ v. pos 0) (λ v. pos 0) w in omega (arith, ints)

-- ---- the same with variables y: the value of G at the exponents β and the list w belongs to y^β·S_w

pub raised_twice : (a b : ℕ) (β : List ℕ) → raised a (raised b β) ≡ raised b (raised a β)
raised_twice a b β =
    let x : List ℕ = replicate (a - 1) 0 ++ (1 ∷ []) in
    let y : List ℕ = replicate (b - 1) 0 ++ (1 ∷ []) in
    join_assoc β y x ∙ ap (join β) (join_comm y x) ∙ sym (join_assoc β x y)

abbrev pub lift_y : ℕ → (List ℕ → List ℕ → ℤ) → List ℕ → List ℕ → ℕ → ℕ → ℤ
lift_y m G β w k b = cond (nat_lt b k) (G (raised m β) w) (pos 0) +ℤ lift (G β) w k b

-- the sum of φ over the labels that the chains give
abbrev pub double_sum : ℕ → ℕ → ℕ → (List ℕ → List ℕ → ℤ) → List ℕ → List ℕ → ℤ
double_sum zero zero k φ β w = φ β w
double_sum zero (suc d) k φ β w = pos 0
double_sum (suc m) zero k φ β w = double_sum m zero k φ β w
double_sum (suc m) (suc d) k φ β w = double_sum m (suc d) k φ β w +ℤ lift_y (suc m) (λ γ v. double_sum m d k φ γ v) β w k (letters_before (suc m) w)

-- the term of Monk's rule with the variable y of the letter at the place k; 0 if this letter is greater than m
abbrev pub own : ℕ → ℕ → (List ℕ → List ℕ → ℤ) → List ℕ → List ℕ → ℤ
own m k G β w = cond (nat_lt m (letter_at w k)) (pos 0) (G (raised (letter_at w k) β) w)

abbrev pub part_y : ℕ → ℕ → (List ℕ → List ℕ → ℤ) → List ℕ → List ℕ → ℤ
part_y m k G β w = own m k G β w +ℤ monk_part m k (G β) w

-- ---- terms with one cover

first_own : (m k b : ℕ) (G : List ℕ → List ℕ → ℤ) (β w : List ℕ) → IsSetting m k w → IsTop m w b
    → own m k G β w +ℤ cond (nat_lt b (suc k)) (G (raised (suc m) β) w) (pos 0) ≡ cond (nat_lt b k) (G (raised (suc m) β) w) (pos 0) +ℤ own (suc m) k G β w
first_own m k b G β w s t = elim (cases_eq b k) [
  | inl e ↦
      let l : letter_at w k ≡ suc m = ap (letter_at w) (sym e) ∙ t.letter in
      let x = if_less m (letter_at w k) (pos 0) (G (raised (letter_at w k) β) w) (omega arith) in
      let y = if_less b (suc k) (G (raised (suc m) β) w) (pos 0) (omega arith) in
      let z = if_not_less b k (G (raised (suc m) β) w) (pos 0) (omega arith) in
      let u = if_not_less (suc m) (letter_at w k) (pos 0) (G (raised (letter_at w k) β) w) (omega arith) in
      let v = ap (λ i. G (raised i β) w) l in
      omega (arith, ints)
  | inr n ↦
      let x = same_side (cases_lt b k) n in
      let y = same_own n in
      omega (arith, ints)
]
  where
    same_side : (b < k) ⊎ (k ≤ b) → (b ≡ k → ⊥) → cond (nat_lt b (suc k)) (G (raised (suc m) β) w) (pos 0) ≡ cond (nat_lt b k) (G (raised (suc m) β) w) (pos 0)
    same_side (inl h) n = if_less b (suc k) _ _ (omega arith) ∙ sym (if_less b k (G (raised (suc m) β) w) (pos 0) h)
    same_side (inr h) n = if_not_less b (suc k) _ _ (omega (arith, n)) ∙ sym (if_not_less b k (G (raised (suc m) β) w) (pos 0) h)

    same_own : (b ≡ k → ⊥) → own m k G β w ≡ own (suc m) k G β w
    same_own n = elim (cases_lt m (letter_at w k)) [
      | inl h ↦
          let x = not_top m k b k w s t (λ e. n (sym e)) in
          if_less m (letter_at w k) _ _ h ∙ sym (if_less (suc m) (letter_at w k) (pos 0) (G (raised (letter_at w k) β) w) (omega (arith, x)))
      | inr h ↦ if_not_less m (letter_at w k) _ _ h ∙ sym (if_not_less (suc m) (letter_at w k) (pos 0) (G (raised (letter_at w k) β) w) (omega arith))
    ]

first_y : (m k : ℕ) (G : List ℕ → List ℕ → ℤ) (β w : List ℕ) → IsSetting m k w
    → part_y m k G β w +ℤ lift_y (suc m) G β w (suc k) (letters_before (suc m) w) ≡ lift_y (suc m) G β w k (letters_before (suc m) w) +ℤ part_y (suc m) k G β w
first_y m k G β w s =
    let a = first m k (G β) w s in
    let b = first_own m k (letters_before (suc m) w) G β w s (the_top m k w s) in
    omega (arith, ints)

-- ---- terms with two covers

-- H at the lists in which the letter m + 1 stands at one of the first k places
abbrev when_left : ℕ → ℕ → (List ℕ → ℤ) → List ℕ → ℤ
when_left m k H v = cond (nat_lt (letters_before (suc m) v) k) (H v) (pos 0)

when_left_at : (m k b : ℕ) (H : List ℕ → ℤ) (v : List ℕ) → letters_before (suc m) v ≡ b → when_left m k H v ≡ cond (nat_lt b k) (H v) (pos 0)
when_left_at m k b H v e = ap (λ i. cond (nat_lt i k) (H v) (pos 0)) e

abbrev SecondOwn : ℕ → ℕ → (List ℕ → List ℕ → ℤ) → List ℕ → List ℕ → ℕ → Type 0
SecondOwn m k G β w b =
    cond (nat_lt b (suc k)) (part_y m k G (raised (suc m) β) w) (pos 0) +ℤ lift (λ v. own m k G β v) w (suc k) b
    ≡ cond (nat_lt (suc m) (letter_at w k)) (pos 0) (lift_y (suc m) G (raised (letter_at w k) β) w k b) +ℤ monk_part (suc m) k (when_left m k (G (raised (suc m) β))) w

own_before : (m k b : ℕ) (G : List ℕ → List ℕ → ℤ) (β w : List ℕ) → IsSetting m k w → IsTop m w b → b < k → SecondOwn m k G β w b
own_before m k b G β w s t h =
    let H : List ℕ → ℤ = G (raised (suc m) β) in
    let x = if_less b (suc k) (part_y m k G (raised (suc m) β) w) (pos 0) (omega arith) in
    let y = lift_none (λ v. own m k G β v) w (suc k) b (omega arith) in
    let o = same_own in
    let z = sames in
    omega (arith, ints)
  where
    inside : k < length w
    inside = s.place

    same_own : own m k G (raised (suc m) β) w ≡ cond (nat_lt (suc m) (letter_at w k)) (pos 0) (lift_y (suc m) G (raised (letter_at w k) β) w k b)
    same_own = elim (cases_lt m (letter_at w k)) [
      | inl l ↦
          let n = not_top m k b k w s t (λ e. omega arith) in
          if_less m (letter_at w k) _ _ l ∙ sym (if_less (suc m) (letter_at w k) (pos 0) (lift_y (suc m) G (raised (letter_at w k) β) w k b) (omega (arith, n)))
      | inr l ↦
          let a = if_not_less m (letter_at w k) (pos 0) (G (raised (letter_at w k) (raised (suc m) β)) w) l in
          let c = if_not_less (suc m) (letter_at w k) (pos 0) (lift_y (suc m) G (raised (letter_at w k) β) w k b) (omega arith) in
          let d = if_less b k (G (raised (suc m) (raised (letter_at w k) β)) w) (pos 0) h in
          let e = lift_none (G (raised (letter_at w k) β)) w k b h in
          let f = ap (λ γ. G γ w) (raised_twice (letter_at w k) (suc m) β) in
          omega (arith, ints)
    ]

    sames : monk_part m k (G (raised (suc m) β)) w ≡ monk_part (suc m) k (when_left m k (G (raised (suc m) β))) w
    sames =
        let f = first m k (G (raised (suc m) β)) w s in
        let i = t.is in
        let y = lift_none (G (raised (suc m) β)) w (suc k) (letters_before (suc m) w) (omega arith) in
        let z = lift_none (G (raised (suc m) β)) w k (letters_before (suc m) w) (omega arith) in
        let e = part_at_covers (suc m) k (G (raised (suc m) β)) (when_left m k (G (raised (suc m) β))) w
        (λ l c r j u. sym (when_left_at m k b (G (raised (suc m) β)) (swap_at k c w) (top_stays m k b k c w s t inside j (λ q. omega arith) (λ q. omega arith))
        ∙ if_less b k (G (raised (suc m) β) (swap_at k c w)) (pos 0) h))
        (λ l a r u. elim (cases_eq b a) [
          | inl q ↦ absurd (let v = rises_only w a k s.one_line r inside u in let x = t.letter in let y = ap (letter_at w) q in omega arith)
          | inr n ↦
              sym (when_left_at m k b (G (raised (suc m) β)) (swap_at a k w) (top_stays m k b a k w s t (let p = inside in omega arith) inside n (λ q. omega arith))
              ∙ if_less b k (G (raised (suc m) β) (swap_at a k w)) (pos 0) h)
        ]) in
        omega (arith, ints)

own_here : (m k : ℕ) (G : List ℕ → List ℕ → ℤ) (β w : List ℕ) → IsSetting m k w → IsTop m w k → SecondOwn m k G β w k
own_here m k G β w s t =
    let l = t.letter in
    let H : List ℕ → ℤ = G (raised (suc m) β) in
    let x = if_less k (suc k) (part_y m k G (raised (suc m) β) w) (pos 0) (omega arith) in
    let a = if_less m (letter_at w k) (pos 0) (G (raised (letter_at w k) (raised (suc m) β)) w) (omega arith) in
    let c = if_less m (letter_at w k) (pos 0) (sum_below (length w) (later_term m k (G (raised (suc m) β)) w) +ℤ neg_ℤ (sum_below k (λ a. up (G (raised (suc m) β)) w a k))) (omega arith) in
    let y = lift_none (λ v. own m k G β v) w (suc k) k (omega arith) in
    let d = if_not_less (suc m) (letter_at w k) (pos 0) (lift_y (suc m) G (raised (letter_at w k) β) w k k) (omega arith) in
    let e = if_not_less k k (G (raised (suc m) (raised (letter_at w k) β)) w) (pos 0) (omega arith) in
    let f = lift_some (G (raised (letter_at w k) β)) w k k (omega arith) in
    let g = ap (λ i. sum_below k (λ a. up (G (raised i β)) w a k)) l in
    let p = part_some (suc m) k (when_left m k (G (raised (suc m) β))) w (omega arith) in
    let q = sum_below_none (length w) (later_term (suc m) k (when_left m k (G (raised (suc m) β))) w) (λ b i.
    let n = later_ext (suc m) k (when_left m k (G (raised (suc m) β))) (λ v. pos 0) w b (λ r j. up_ext (when_left m k (G (raised (suc m) β))) (λ v. pos 0) w k b (λ u.
    absurd (let v = rises_only w k b s.one_line r i u in omega arith))) in
    n ∙ none (nat_lt k b) (nat_lt (suc m) (letter_at w b)) (is_cover w k b)) in
    let r = sum_below_ext k (λ a. up (when_left m k (G (raised (suc m) β))) w a k) (λ a. up (G (raised (suc m) β)) w a k) (λ a i. up_ext (when_left m k (G (raised (suc m) β))) (G (raised (suc m) β)) w a k (λ u.
    let p = s.place in
    when_left_at m k a (G (raised (suc m) β)) (swap_at a k w) (top_goes m k k a w s t (omega arith)) ∙ if_less a k (G (raised (suc m) β) (swap_at a k w)) (pos 0) i)) in
    omega (arith, ints)
  where
    none : (x y z : Bool) → cond x (cond y (pos 0) (cond z (pos 0) (pos 0))) (pos 0) ≡ pos 0
    none true true z = refl
    none true false true = refl
    none true false false = refl
    none false y z = refl

own_high : (m k b : ℕ) (G : List ℕ → List ℕ → ℤ) (β w : List ℕ) → IsSetting m k w → IsTop m w b → k < b → suc m < letter_at w k → SecondOwn m k G β w b
own_high m k b G β w s t h f =
    let l = t.letter in
    let inside = t.within in
    let x = if_not_less b (suc k) (part_y m k G (raised (suc m) β) w) (pos 0) (omega arith) in
    let y = lift_some (λ v. own m k G β v) w (suc k) b (omega arith) in
    let z = sum_below_none (suc k) (λ a. up (λ v. own m k G β v) w a b) (λ a i. up_none (λ v. own m k G β v) w a b (λ u. elim (cases_eq a k) [
      | inl e ↦ absurd (let r = rises_only w a b s.one_line (omega arith) inside u in let v = ap (letter_at w) e in omega arith)
      | inr n ↦
          let r = (exchanged_at a b w (omega arith) inside).2 k (λ e. omega arith) (λ e. omega arith) in
          if_less m (letter_at (swap_at a b w) k) _ _ (omega arith)
    ])) in
    let c = if_less (suc m) (letter_at w k) (pos 0) (lift_y (suc m) G (raised (letter_at w k) β) w k b) f in
    let d = if_less (suc m) (letter_at w k) (pos 0) (sum_below (length w) (later_term (suc m) k (when_left m k (G (raised (suc m) β))) w) +ℤ neg_ℤ (sum_below k (λ a. up (when_left m k (G (raised (suc m) β))) w a k))) f in
    omega (arith, ints)

own_low : (m k b : ℕ) (G : List ℕ → List ℕ → ℤ) (β w : List ℕ) → IsSetting m k w → IsTop m w b → k < b → letter_at w k ≤ m → SecondOwn m k G β w b
own_low m k b G β w s t h f =
    let l = t.letter in
    let x = if_not_less b (suc k) (part_y m k G (raised (suc m) β) w) (pos 0) (omega arith) in
    let y = lift_some (λ v. own m k G β v) w (suc k) b (omega arith) in
    let z = sum_below_last k (λ a. up (λ v. own m k G β v) w a b) in
    let u = up_none (λ v. own m k G β v) w k b (λ r.
    let g = (exchanged_at k b w s.place inside).0 in
    if_less m (letter_at (swap_at k b w) k) _ _ (omega arith)) in
    let v = sum_below_ext k (λ a. up (λ v. own m k G β v) w a b) (λ a. up (G (raised (letter_at w k) β)) w a b) (λ a i. up_ext (λ v. own m k G β v) (G (raised (letter_at w k) β)) w a b (λ r.
    let g = (exchanged_at a b w (omega arith) inside).2 k (λ e. omega arith) (λ e. omega arith) in
    if_not_less m (letter_at (swap_at a b w) k) (pos 0) (G (raised (letter_at (swap_at a b w) k) β) (swap_at a b w)) (omega arith)
    ∙ ap (λ j. G (raised j β) (swap_at a b w)) g)) in
    let c = if_not_less (suc m) (letter_at w k) (pos 0) (lift_y (suc m) G (raised (letter_at w k) β) w k b) (omega arith) in
    let d = if_not_less b k (G (raised (suc m) (raised (letter_at w k) β)) w) (pos 0) (omega arith) in
    let e = lift_some (G (raised (letter_at w k) β)) w k b (omega arith) in
    let n = nothing_left in
    omega (arith, ints)
  where
    inside : b < length w
    inside = t.within

    nothing_left : monk_part (suc m) k (when_left m k (G (raised (suc m) β))) w ≡ pos 0
    nothing_left =
        part_at_covers (suc m) k (when_left m k (G (raised (suc m) β))) (λ v. pos 0) w
        (λ l c r j u. elim (cases_eq b c) [
          | inl q ↦
              subst (λ i. when_left m k (G (raised (suc m) β)) (swap_at k i w) ≡ pos 0) q
              (when_left_at m k k (G (raised (suc m) β)) (swap_at k b w) (top_goes m k b k w s t s.place) ∙ if_not_less k k (G (raised (suc m) β) (swap_at k b w)) (pos 0) (omega arith))
          | inr n ↦
              when_left_at m k b (G (raised (suc m) β)) (swap_at k c w) (top_stays m k b k c w s t s.place j (λ q. omega arith) n)
              ∙ if_not_less b k (G (raised (suc m) β) (swap_at k c w)) (pos 0) (omega arith)
        ])
        (λ l a r u.
        when_left_at m k b (G (raised (suc m) β)) (swap_at a k w) (top_stays m k b a k w s t (let p = inside in omega arith) s.place (λ q. omega arith) (λ q. omega arith))
        ∙ if_not_less b k (G (raised (suc m) β) (swap_at a k w)) (pos 0) (omega arith))
        ∙ part_of_none (suc m) k w

second_own : (m k b : ℕ) (G : List ℕ → List ℕ → ℤ) (β w : List ℕ) → IsSetting m k w → IsTop m w b → SecondOwn m k G β w b
second_own m k b G β w s t = elim (cases_lt b k) [
  | inl h ↦ own_before m k b G β w s t h
  | inr h ↦ elim (cases_eq b k) [
    | inl e ↦ subst (SecondOwn m k G β w) (sym e) (own_here m k G β w s (subst (IsTop m w) e t))
    | inr n ↦
        let r : k < b = omega arith in
        let x = not_top m k b k w s t (λ z. n (sym z)) in
        elim (cases_lt (suc m) (letter_at w k)) [ inl f ↦ own_high m k b G β w s t r f | inr f ↦ own_low m k b G β w s t r (omega (arith, x)) ]
  ]
]

-- G at each label, by the covers that swap the letter m + 1, or by the variable y of this letter
abbrev lifted_y : ℕ → ℕ → (List ℕ → List ℕ → ℤ) → List ℕ → List ℕ → ℤ
lifted_y m k G β v = lift_y (suc m) G β v k (letters_before (suc m) v)

second_y : (m k : ℕ) (G : List ℕ → List ℕ → ℤ) (β w : List ℕ) → IsSetting m k w
    → lift_y (suc m) (λ γ v. part_y m k G γ v) β w (suc k) (letters_before (suc m) w) ≡ part_y (suc m) k (lifted_y m k G) β w
second_y m k G β w s =
    let a = lift_sum (λ v. own m k G β v) (monk_part m k (G β)) w (suc k) (letters_before (suc m) w) in
    let b = second m k (G β) w s in
    let c = second_own m k (letters_before (suc m) w) G β w s (the_top m k w s) in
    let d = part_add (suc m) k (when_left m k (G (raised (suc m) β))) (lifted_top m k (G β)) w in
    omega (arith, ints)

-- ---- the step from k to k + 1

pub no_covers_left_y : (m k : ℕ) (φ : List ℕ → List ℕ → ℤ) (β w : List ℕ) → double_sum m zero k φ β w ≡ φ β w
no_covers_left_y zero k φ β w = refl
no_covers_left_y (suc m) k φ β w = no_covers_left_y m k φ β w

lift_y_ext : (m : ℕ) (F G : List ℕ → List ℕ → ℤ) (β w : List ℕ) (k b : ℕ) → (F (raised m β) w ≡ G (raised m β) w) → ((a : ℕ) → a < k → k ≤ b → F β (swap_at a b w) ≡ G β (swap_at a b w))
    → lift_y m F β w k b ≡ lift_y m G β w k b
lift_y_ext m F G β w k b e f = ap₂ (λ x y. cond (nat_lt b k) x (pos 0) +ℤ y) e (lift_ext (F β) (G β) w k b f)

lift_y_add : (m : ℕ) (F G : List ℕ → List ℕ → ℤ) (β w : List ℕ) (k b : ℕ) → lift_y m (λ γ v. F γ v +ℤ G γ v) β w k b ≡ lift_y m F β w k b +ℤ lift_y m G β w k b
lift_y_add m F G β w k b =
    let a = lift_sum (F β) (G β) w k b in
    let c = at (nat_lt b k) (F (raised m β) w) (G (raised m β) w) in
    omega (arith, ints)
  where
    at : (t : Bool) (x y : ℤ) → cond t (x +ℤ y) (pos 0) ≡ cond t x (pos 0) +ℤ cond t y (pos 0)
    at true x y = refl
    at false x y = refl

part_y_add : (m k : ℕ) (F G : List ℕ → List ℕ → ℤ) (β w : List ℕ) → part_y m k (λ γ v. F γ v +ℤ G γ v) β w ≡ part_y m k F β w +ℤ part_y m k G β w
part_y_add m k F G β w =
    let a = part_add m k (F β) (G β) w in
    let c = at (nat_lt m (letter_at w k)) (F (raised (letter_at w k) β) w) (G (raised (letter_at w k) β) w) in
    omega (arith, ints)
  where
    at : (t : Bool) (x y : ℤ) → cond t (pos 0) (x +ℤ y) ≡ cond t (pos 0) x +ℤ cond t (pos 0) y
    at true x y = refl
    at false x y = refl

pub part_y_ext : (m k : ℕ) (F G : List ℕ → List ℕ → ℤ) (β w : List ℕ) → (letter_at w k ≤ m → F (raised (letter_at w k) β) w ≡ G (raised (letter_at w k) β) w)
    → (letter_at w k ≤ m → (b : ℕ) → k < b → b < length w → is_cover w k b ≡ true → F β (swap_at k b w) ≡ G β (swap_at k b w))
    → (letter_at w k ≤ m → (a : ℕ) → a < k → is_cover w a k ≡ true → F β (swap_at a k w) ≡ G β (swap_at a k w)) → part_y m k F β w ≡ part_y m k G β w
part_y_ext m k F G β w e later earlier = ap₂ ◌+ℤ◌ (owns (cases_lt m (letter_at w k))) (part_at_covers m k (F β) (G β) w later earlier)
  where
    owns : (m < letter_at w k) ⊎ (letter_at w k ≤ m) → own m k F β w ≡ own m k G β w
    owns (inl h) = if_less m (letter_at w k) _ _ h ∙ sym (if_less m (letter_at w k) (pos 0) (G (raised (letter_at w k) β) w) h)
    owns (inr h) = ap (λ z. cond (nat_lt m (letter_at w k)) (pos 0) z) (e h)

pub one_place_more_y : (m d k : ℕ) (φ : List ℕ → List ℕ → ℤ) (β w : List ℕ) → IsOneLine w → k < length w → m ≤ length w
    → double_sum m (suc d) (suc k) φ β w ≡ double_sum m (suc d) k φ β w +ℤ part_y m k (λ γ v. double_sum m d k φ γ v) β w
one_place_more_y zero d k φ β w o h l =
    let p = o.letters (letter_at w k) (among_get k (suc k) w h) in
    let q = p.0 in
    let a = if_less zero (letter_at w k) (pos 0) (double_sum zero d k φ (raised (letter_at w k) β) w) (omega arith) in
    let e = if_less zero (letter_at w k) (pos 0) (sum_below (length w) (later_term zero k (λ v. double_sum zero d k φ β v) w) +ℤ neg_ℤ (sum_below k (λ a. up (λ v. double_sum zero d k φ β v) w a k))) (omega arith) in
    omega (arith, ints)
one_place_more_y (suc m) zero k φ β w o h l =
    let s : IsSetting m k w = record { one_line = o; place = h; letters = l } in
    let r = one_place_more_y m zero k φ β w o h (omega arith) in
    let f = first_y m k (λ γ v. double_sum m zero k φ γ v) β w s in
    let e = lift_y_ext (suc m) (λ γ v. double_sum m zero (suc k) φ γ v) (λ γ v. double_sum m zero k φ γ v) β w (suc k) (letters_before (suc m) w)
    (same (raised (suc m) β) w) (λ a i j. same β (swap_at a (letters_before (suc m) w) w)) in
    omega (arith, ints)
  where
    same : (γ v : List ℕ) → double_sum m zero (suc k) φ γ v ≡ double_sum m zero k φ γ v
    same γ v = no_covers_left_y m (suc k) φ γ v ∙ sym (no_covers_left_y m k φ γ v)
one_place_more_y (suc m) (suc d) k φ β w o h l =
    let s : IsSetting m k w = record { one_line = o; place = h; letters = l } in
    let r = one_place_more_y m (suc d) k φ β w o h (omega arith) in
    let f = first_y m k (λ γ v. double_sum m (suc d) k φ γ v) β w s in
    let g = second_y m k (λ γ v. double_sum m d k φ γ v) β w s in
    let within = place_below (suc m) w o (omega arith) l in
    let e = lift_y_ext (suc m) (λ γ v. double_sum m (suc d) (suc k) φ γ v) (λ γ v. double_sum m (suc d) k φ γ v +ℤ part_y m k (λ δ u. double_sum m d k φ δ u) γ v) β w (suc k) (letters_before (suc m) w)
    (one_place_more_y m d k φ (raised (suc m) β) w o h (omega arith)) (λ a i j.
    let z = swapped_setting m k a (letters_before (suc m) w) w s (omega arith) within in
    let zl = z.letters in
    one_place_more_y m d k φ β (swap_at a (letters_before (suc m) w) w) z.one_line z.place (omega arith)) in
    let x = lift_y_add (suc m) (λ γ v. double_sum m (suc d) k φ γ v) (λ γ v. part_y m k (λ δ u. double_sum m d k φ δ u) γ v) β w (suc k) (letters_before (suc m) w) in
    let y = part_y_add (suc m) k (λ γ v. double_sum m (suc d) k φ γ v) (lifted_y m k (λ δ u. double_sum m d k φ δ u)) β w in
    omega (arith, ints)
