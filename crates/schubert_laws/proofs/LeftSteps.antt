-- Divided differences of the polynomial g from which U_p(g) = `schubert_over g p` starts, p being a list of the letters 1, .., M: if the letter a + 1
-- stands before a in p, then U_p(∂_(M-a) g) is U_q(g), with q the list p with the letters a and a + 1 exchanged (`left_step`). So U_q(g) = 0 if a
-- stands before a + 1 in q and ∂_(M-a) g = 0 (`left_none`). Places and variables are counted from 0.
use Rattle.std.proofs.Common.{◌≡◌, ℕ, zero, suc, ◌-◌, ◌<◌, List, [], ◌∷◌, length, get_or, refl, sym, ◌∙◌, ap, subst, arith, inl, inr, ◌⊎◌, Some, None, Option, ℤ, pos}
use Rattle.std.specs.Option.{option_map_or}
use Rattle.std.proofs.lemmas.List.{get_or_default}
use Rattle.std.proofs.lemmas.Bool.{cases_eq}
use Rattle.sym_model.specs.Polynomial.{Poly, Same, nothing, pair}
use Rattle.sym_model.specs.BetaList.{rising_pairs}
use Rattle.sym_model.specs.Permutation.{IsOneLine, first_ascent, exchanged}
use Rattle.sym_model.specs.DividedDifference.{differences_after, divided_difference}
use Rattle.sym_model.specs.Schubert.{descended, schubert_over}
use Rattle.sym_model.proofs.Polynomials.{pair_determined}
use Rattle.schubert_laws.proofs.CoverRelations.{Exchanged}
use Rattle.schubert_laws.proofs.CoverTests.{letter_at, letter_is, exchanged_at, different}
use Rattle.schubert_laws.proofs.Differences.{along, pair_differences}
use Rattle.schubert_laws.proofs.DualMonk.{fallen, one_line_exchange}
use Rattle.schubert_laws.proofs.Exchanges.{exchange_at, Rises, IsFirstAscent, first_ascent_cases, rises_within, rising_pairs_exchange, length-exchange_at, exchange_twice}
use Rattle.schubert_laws.proofs.MonkFromOne.{one_line_swap}
use Rattle.schubert_laws.proofs.MonkRule.{HasNoAscent}
use Rattle.schubert_laws.proofs.MonkStep.{pair_ascent}
use Rattle.schubert_laws.proofs.Paths.{over_top, rises_back}
use Rattle.schubert_laws.proofs.Swaps.{swap_at, get_swap_left, get_swap_right, length-swap_at, moved, moved_within, moved_order, get_moved, exchange_swap, swap_neighbour, swap_twice}

pub rises_at : (k : ℕ) (w : List ℕ) → suc k < length w → letter_at w k < letter_at w (suc k) → Rises k w
rises_at k w h l = subst (Rises k) (twice k w) (rises_back k (exchange_at k w) 0 0 (let e = length-exchange_at k w in omega arith) falls)
  where
    twice : (j : ℕ) (v : List ℕ) → exchange_at j (exchange_at j v) ≡ v
    twice j v = exchange_twice j v

    falls : get_or (exchange_at k w) (suc k) 0 < get_or (exchange_at k w) k 0
    falls =
        let s = sym (swap_neighbour k w h) in
        let a = ap (λ v. get_or v (suc k) 0) s ∙ get_swap_right k (suc k) 0 w (omega arith) h in
        let b = ap (λ v. get_or v k 0) s ∙ get_swap_left k (suc k) 0 w (omega arith) h in
        let c = letter_is w k 0 (omega arith) in
        let d = letter_is w (suc k) 0 h in
        omega arith

pub rises_letters : (k : ℕ) (w : List ℕ) → Rises k w → letter_at w k < letter_at w (suc k)
rises_letters k [] r = absurd r
rises_letters zero (a ∷ []) r = absurd r
rises_letters zero (a ∷ b ∷ w) r = r
rises_letters (suc k) (a ∷ w) r =
    let h = rises_within k w r in
    let e = get_or_default w k (suc k) (suc (suc k)) (omega arith) in
    let f = get_or_default w (suc k) (suc (suc k)) (suc (suc (suc k))) (omega arith) in
    let i = rises_letters k w r in
    omega arith

-- the letter a + 1 stands at the place c of p, and a at the later place e
pub record StandAt (a c e : ℕ) (p : List ℕ) : Type 0 where
  pub order : c < e
  pub within : e < length p
  pub greater : letter_at p c ≡ suc a
  pub less : letter_at p e ≡ a

still_rises : (a c e k : ℕ) (p : List ℕ) → IsOneLine p → StandAt a c e p → Rises k p → Rises k (swap_at c e p)
still_rises a c e k p o s r =
    let inside = rises_within k p r in
    let order = s.order in
    let within = s.within in
    rises_at k (swap_at c e p) (let l = length-swap_at c e p in omega arith) (rising (cases_eq k c) (cases_eq k e) (cases_eq (suc k) c) (cases_eq (suc k) e))
  where
    rise : letter_at p k < letter_at p (suc k)
    rise = rises_letters k p r

    cl : c < length p
    cl = let x = s.order in let y = s.within in omega arith

    swapped : Exchanged (letter_at p) c e (letter_at (swap_at c e p))
    swapped = exchanged_at c e p cl s.within

    not_at : (i j : ℕ) → (i ≡ j → ⊥) → letter_at p i ≡ letter_at p j → ⊥
    not_at i j n q = n (different p o i j q)

    rising : (k ≡ c) ⊎ (k ≡ c → ⊥) → (k ≡ e) ⊎ (k ≡ e → ⊥) → (suc k ≡ c) ⊎ (suc k ≡ c → ⊥) → (suc k ≡ e) ⊎ (suc k ≡ e → ⊥)
        → letter_at (swap_at c e p) k < letter_at (swap_at c e p) (suc k)
    rising (inl x) y z (inl t) = absurd (let u = ap (letter_at p) x in let v = ap (letter_at p) t in let g = s.greater in let l = s.less in let q = rise in omega arith)
    rising (inl x) y z (inr t) =
        let order = s.order in
        let u = ap (letter_at p) x in
        let v = ap (letter_at (swap_at c e p)) x ∙ swapped.0 in
        let m = swapped.2 (suc k) (λ i. omega arith) t in
        let g = s.greater in let l = s.less in let q = rise in
        omega arith
    rising (inr x) (inl y) z t =
        let order = s.order in
        let u = ap (letter_at p) y in
        let v = ap (letter_at (swap_at c e p)) y ∙ swapped.1 in
        let m = swapped.2 (suc k) (λ i. omega arith) (λ i. omega arith) in
        let n = not_at (suc k) c (λ i. omega arith) in
        let g = s.greater in let l = s.less in let q = rise in
        omega (arith, n)
    rising (inr x) (inr y) (inl z) t =
        let u = ap (letter_at p) z in
        let v = ap (letter_at (swap_at c e p)) z ∙ swapped.0 in
        let m = swapped.2 k x y in
        let n = not_at k e y in
        let g = s.greater in let l = s.less in let q = rise in
        omega (arith, n)
    rising (inr x) (inr y) (inr z) (inl t) =
        let u = ap (letter_at p) t in
        let v = ap (letter_at (swap_at c e p)) t ∙ swapped.1 in
        let m = swapped.2 k x y in
        let g = s.greater in let l = s.less in let q = rise in
        omega arith
    rising (inr x) (inr y) (inr z) (inr t) =
        let m = swapped.2 k x y in
        let n = swapped.2 (suc k) z t in
        let q = rise in
        omega arith

-- h is the divided difference of g at the place k
abbrev pub DiffersTo : ℕ → Poly → Poly → Type 0
DiffersTo k g h = Same (differences_after k g) h

letter_moved : (k c : ℕ) (p : List ℕ) → suc k < length p → c < length p → letter_at (exchange_at k p) (moved k c) ≡ letter_at p c
letter_moved k c p h l =
    letter_is (exchange_at k p) (moved k c) 0 (let e = length-exchange_at k p in let m = moved_within k c (length p) h l in omega arith)
    ∙ get_moved k c 0 p h ∙ sym (letter_is p c 0 l)

stand_moved : (a c e k : ℕ) (p : List ℕ) → StandAt a c e p → Rises k p → StandAt a (moved k c) (moved k e) (exchange_at k p)
stand_moved a c e k p s r =
    let inside = rises_within k p r in
    let order = s.order in
    let within = s.within in
    let g = s.greater in
    let l = s.less in
    let rise = rises_letters k p r in
    record {
      order = moved_order k c e s.order (λ x y. let u = ap (letter_at p) x in let v = ap (letter_at p) y in omega arith);
      within = (let n = length-exchange_at k p in let m = moved_within k e (length p) inside within in omega arith);
      greater = letter_moved k c p inside (omega arith) ∙ s.greater;
      less = letter_moved k e p inside within ∙ s.less;
    }

left_at_top : (a c e : ℕ) (g h : Poly) (p : List ℕ) (φ : List ℕ → ℤ) → IsOneLine p → HasNoAscent p → first_ascent p ≡ None → StandAt a c e p
    → DiffersTo c g h → pair (schubert_over h p) φ ≡ pair (schubert_over g (swap_at c e p)) φ
left_at_top a c e g h p φ o n f s d =
    ap (λ u. pair u φ) (over_top h (rising_pairs p) p f)
    ∙ sym (pair_determined (differences_after c g) h φ d)
    ∙ pair_differences c g φ
    ∙ ap (λ u. pair u (along c φ)) (sym (over_top g (rising_pairs p) p f))
    ∙ ap (λ v. pair (schubert_over g v) (along c φ)) (sym back)
    ∙ sym (pair_ascent g (swap_at c e p) c φ ascent)
  where
    cl : c < length p
    cl = let x = s.order in let y = s.within in omega arith

    next : e ≡ suc c
    next =
        let x = fallen p c o n cl in
        let y = fallen p e o n s.within in
        let u = letter_is p c 0 cl in
        let v = letter_is p e 0 s.within in
        let g = s.greater in let l = s.less in
        omega arith

    inside : suc c < length p
    inside = let x = next in let y = s.within in omega arith

    back : exchange_at c (swap_at c e p) ≡ p
    back = ap (λ i. exchange_at c (swap_at c i p)) next ∙ ap (exchange_at c) (swap_neighbour c p inside) ∙ exchange_twice c p

    ascent : Rises c (swap_at c e p)
    ascent = rises_at c (swap_at c e p) (let x = inside in let l = length-swap_at c e p in omega arith) (
        let x = exchanged_at c e p cl s.within in
        let u = x.0 in
        let v = ap (letter_at (swap_at c e p)) (sym next) ∙ x.1 in
        let g = s.greater in let l = s.less in
        omega arith)

left_within : (steps : ℕ) (a c e m : ℕ) (g h : Poly) (p : List ℕ) (φ : List ℕ → ℤ) → rising_pairs p < steps → IsOneLine p → StandAt a c e p
    → length p ≡ m → DiffersTo (m - suc a) g h → pair (schubert_over h p) φ ≡ pair (schubert_over g (swap_at c e p)) φ
left_within zero a c e m g h p φ b o s l d = absurd (omega arith)
left_within (suc steps) a c e m g h p φ b o s l d =
    by (first_ascent_cases p) (λ x y q ψ t u v w. left_within steps a x y m g h q ψ t u v w d)
  where
    by : ((k : ℕ) × IsFirstAscent p k) ⊎ ((first_ascent p ≡ None) × HasNoAscent p)
        → ((x y : ℕ) (q : List ℕ) (ψ : List ℕ → ℤ) → rising_pairs q < steps → IsOneLine q → StandAt a x y q → length q ≡ m
        → pair (schubert_over h q) ψ ≡ pair (schubert_over g (swap_at x y q)) ψ)
        → pair (schubert_over h p) φ ≡ pair (schubert_over g (swap_at c e p)) φ
    by (inl found) rec =
        let k : ℕ = found.0 in
        let r = found.1.rises in
        let inside = rises_within found.0 p found.1.rises in
        let f = rising_pairs_exchange found.0 p found.1.rises in
        pair_ascent h p found.0 φ found.1.rises
        ∙ rec (moved found.0 c) (moved found.0 e) (exchange_at found.0 p) (along found.0 φ) (omega arith) (one_line_exchange found.0 p o)
        (stand_moved a c e found.0 p s found.1.rises) (length-exchange_at found.0 p ∙ l)
        ∙ ap (λ v. pair (schubert_over g v) (along found.0 φ)) (sym (exchange_swap found.0 c e p inside))
        ∙ sym (pair_ascent g (swap_at c e p) found.0 φ (still_rises a c e found.0 p o s found.1.rises))
    by (inr none) rec = left_at_top a c e g h p φ o none.1 none.0 s (subst (λ k. DiffersTo k g h) place d)
      where
        place : m - suc a ≡ c
        place =
            let x = s.order in
            let y = s.within in
            let z = fallen p c o none.1 (omega arith) in
            let u = letter_is p c 0 (omega arith) in
            let t = s.greater in
            omega arith

pub left_step : (a c e : ℕ) (g h : Poly) (p : List ℕ) (φ : List ℕ → ℤ) → IsOneLine p → StandAt a c e p → DiffersTo (length p - suc a) g h
    → pair (schubert_over h p) φ ≡ pair (schubert_over g (swap_at c e p)) φ
left_step a c e g h p φ o s d = left_within (suc (rising_pairs p)) a c e (length p) g h p φ (omega arith) o s refl d

pub over_nothing : (n : ℕ) (w : List ℕ) → descended nothing n w ≡ nothing
over_nothing zero w = refl
over_nothing (suc n) w = by (first_ascent w) (λ v. over_nothing n v)
  where
    by : (o : Option ℕ) → ((v : List ℕ) → descended nothing n v ≡ nothing) → option_map_or (λ i. divided_difference i (descended nothing n (exchanged i w))) o nothing ≡ nothing
    by None rec = refl
    by (Some zero) rec = refl
    by (Some (suc i)) rec = ap (differences_after i) (rec (exchanged (suc i) w))

-- a stands at the place c of q, and a + 1 at the later place e: then U_q(g) = 0 if the divided difference of g is 0
pub left_none : (a c e : ℕ) (g : Poly) (q : List ℕ) (φ : List ℕ → ℤ) → IsOneLine q → c < e → e < length q → letter_at q c ≡ a → letter_at q e ≡ suc a
    → DiffersTo (length q - suc a) g nothing → pair (schubert_over g q) φ ≡ pos 0
left_none a c e g q φ o h l x y d =
    let cl : c < length q = omega arith in
    let n = length-swap_at c e q in
    let z = exchanged_at c e q cl l in
    ap (λ v. pair (schubert_over g v) φ) (sym (swap_twice c e q cl l))
    ∙ sym (left_step a c e g nothing (swap_at c e q) φ (one_line_swap c e q cl l o)
    (record { order = h; within = omega arith; greater = z.0 ∙ y; less = z.1 ∙ x })
    (subst (λ k. DiffersTo (k - suc a) g nothing) (sym n) d))
    ∙ ap (λ u. pair u φ) (over_nothing (rising_pairs (swap_at c e q)) (swap_at c e q))
