-- Weakly increasing words, described by the number of their letters that are at most k, for each k.
use Rattle.std.proofs.Common.{◌≡◌, ℕ, zero, suc, ◌+◌, ◌-◌, ◌<◌, ◌≤◌, ◌⊎◌, ◌==◌, max, true, cond, List, [], ◌∷◌, length, drop, nat_le, sym, ◌∙◌, ap, ap₂, refl, inl, inr, arith, rules}
use Rattle.std.proofs.lemmas.Bool.Decides.{nat_tests}
use Rattle.std.proofs.lemmas.Bool.{cases_lt, cases_eq, and_parts, and_from, leb-true, ltb-true, lt-ltb}
use Rattle.sym_model.specs.Schur.{times_in}
use Rattle.tableau_laws.specs.Grid.{is_chain, pass_by_place, may_precede, may_stand_above}

-- `up_to_letter k w`: the number of letters of the word w that are at most k
abbrev pub up_to_letter : ℕ → List ℕ → ℕ
up_to_letter k [] = 0
up_to_letter k (a ∷ w) = cond {A = ℕ} (nat_le a k) 1 0 + up_to_letter k w

one_letter : (a k : ℕ) → cond {A = ℕ} (a == suc k) 1 0 + cond {A = ℕ} (nat_le a k) 1 0 ≡ cond {A = ℕ} (nat_le a (suc k)) 1 0
one_letter a k = grind (arith, nat_tests)

pub one_more_letter : (k : ℕ) (w : List ℕ) → times_in (suc k) w + up_to_letter k w ≡ up_to_letter (suc k) w
one_more_letter k [] = refl
one_more_letter k (a ∷ w) = let e = one_more_letter k w in let f = one_letter a k in omega arith

pub zeros_up_to : (w : List ℕ) → up_to_letter 0 w ≡ times_in 0 w
zeros_up_to [] = refl
zeros_up_to (a ∷ w) = let e = zeros_up_to w in let f : cond {A = ℕ} (nat_le a 0) 1 0 ≡ cond {A = ℕ} (a == 0) 1 0 = grind (arith, nat_tests) in omega arith

abbrev pub Rises : List ℕ → Type 0
Rises w = is_chain nat_le w ≡ true

pub rises_rest : (a : ℕ) (w : List ℕ) → Rises (a ∷ w) → Rises w
rises_rest a w h = (and_parts (may_precede nat_le a w) (is_chain nat_le w) h).1

pub none_up_to : (k a : ℕ) (w : List ℕ) → Rises (a ∷ w) → k < a → up_to_letter k (a ∷ w) ≡ 0
none_up_to k a [] h l = let f : cond {A = ℕ} (nat_le a k) 1 0 ≡ 0 = grind (arith, nat_tests) in omega arith
none_up_to k a (b ∷ w) h l =
    let p = and_parts (nat_le a b) (is_chain nat_le (b ∷ w)) h in
    let q = leb-true a b p.0 in
    let e = none_up_to k b w p.1 (omega arith) in
    let f : cond {A = ℕ} (nat_le a k) 1 0 ≡ 0 = grind (arith, nat_tests) in
    omega arith

-- let w be weakly increasing, with b letters up to k and c letters up to k + 1: the number of letters k + 1 after the first j places of w is max(c,
-- j) - max(b, j)
pub right_of_place : (k j : ℕ) (w : List ℕ) → Rises w → times_in (suc k) (drop j w) + max (up_to_letter k w) j ≡ max (up_to_letter (suc k) w) j
right_of_place k zero w h = let e = one_more_letter k w in let f : drop 0 w ≡ w = grind arith in ap (λ v. times_in (suc k) v + max (up_to_letter k w) 0) f ∙ omega arith
right_of_place k (suc j) [] h = omega arith
right_of_place k (suc j) (a ∷ w) h = search (rules, cases_lt, rises_rest, cases_eq, nat_tests, none_up_to, (right_of_place k j w (rises_rest a w h)))

pub below_counts : (k : ℕ) (v w : List ℕ) → pass_by_place may_stand_above v w ≡ true → length w ≤ length v → up_to_letter (suc k) w ≤ up_to_letter k v
below_counts k v [] h l = omega arith
below_counts k [] (b ∷ w) h l = absurd (omega arith)
below_counts k (a ∷ v) (b ∷ w) h l =
    let p = and_parts (may_stand_above a b) (pass_by_place may_stand_above v w) h in
    let q = ltb-true a (b + (1 - a)) p.0 in
    let e = below_counts k v w p.1 (omega arith) in
    let f : cond {A = ℕ} (nat_le b (suc k)) 1 0 ≤ cond {A = ℕ} (nat_le a k) 1 0 = grind (arith, nat_tests) in
    omega arith

pub counts_below : (v w : List ℕ) → Rises v → Rises w → ((k : ℕ) → up_to_letter (suc k) w ≤ up_to_letter k v) → pass_by_place may_stand_above v w ≡ true
counts_below [] w r s h = refl
counts_below (a ∷ v) [] r s h = refl
counts_below (a ∷ v) (b ∷ w) r s h =
    and_from (may_stand_above a b) (pass_by_place may_stand_above v w) (lt-ltb a (b + (1 - a)) (first a r h)) (counts_below v w (rises_rest a v r) (rises_rest b w s) later)
  where
    first : (x : ℕ) → Rises (x ∷ v) → ((k : ℕ) → up_to_letter (suc k) (b ∷ w) ≤ up_to_letter k (x ∷ v)) → x < b + (1 - x)
    first zero r' h' = omega arith
    first (suc x) r' h' = elim (cases_lt x b) [ inl l ↦ above l (cases_eq b (suc x)) | inr l ↦ falls (omega arith) ]
      where
        falls : b ≤ suc x → suc x < b + (1 - suc x)
        falls d =
            let n = none_up_to x (suc x) v r' (omega arith) in
            let m = h' x in
            let f : cond {A = ℕ} (nat_le b (suc x)) 1 0 ≡ 1 = grind (arith, nat_tests) in
            absurd (omega arith)

        above : x < b → (b ≡ suc x) ⊎ (b ≡ suc x → ⊥) → suc x < b + (1 - suc x)
        above l (inl e) = falls (omega arith)
        above l (inr d) = omega arith

    later : (k : ℕ) → up_to_letter (suc k) w ≤ up_to_letter k v
    later k = by (cases_lt (suc k) b)
      where
        by : (suc k < b) ⊎ (b ≤ suc k) → up_to_letter (suc k) w ≤ up_to_letter k v
        by (inl l) = let n = none_up_to (suc k) b w s l in omega arith
        by (inr l) =
            let m = h k in
            let f : cond {A = ℕ} (nat_le b (suc k)) 1 0 ≡ 1 = grind (arith, nat_tests) in
            let g : cond {A = ℕ} (nat_le a k) 1 0 ≤ 1 = grind (arith, nat_tests) in
            omega arith

pub few_times : (k : ℕ) (w : List ℕ) → times_in k w ≤ up_to_letter k w
few_times zero w = let e = zeros_up_to w in omega arith
few_times (suc k) w = let e = one_more_letter k w in omega arith

pub rising_same : (v w : List ℕ) → Rises v → Rises w → ((k : ℕ) → times_in k v ≡ times_in k w) → v ≡ w
rising_same [] [] r s h = refl
rising_same [] (b ∷ w) r s h = let e = h b in let f : cond {A = ℕ} (b == b) 1 0 ≡ 1 = grind (arith, nat_tests) in absurd (omega arith)
rising_same (a ∷ v) [] r s h = let e = h a in let f : cond {A = ℕ} (a == a) 1 0 ≡ 1 = grind (arith, nat_tests) in absurd (omega arith)
rising_same (a ∷ v) (b ∷ w) r s h =
    let e = equal in
    ap₂ ◌∷◌ e (rising_same v w (rises_rest a v r) (rises_rest b w s) (λ k. let g = h k in let f : cond {A = ℕ} (a == k) 1 0 ≡ cond {A = ℕ} (b == k) 1 0 = ap (λ x. cond {A = ℕ} (x == k) 1 0) e in omega arith))
  where
    lower : (x y : ℕ) (p q : List ℕ) → Rises (y ∷ q) → x < y → times_in x (x ∷ p) ≡ times_in x (y ∷ q) → ⊥
    lower x y p q t l e =
        let n = none_up_to x y q t l in
        let m = few_times x (y ∷ q) in
        let f : cond {A = ℕ} (x == x) 1 0 ≡ 1 = grind (arith, nat_tests) in
        omega arith

    equal : a ≡ b
    equal = elim (cases_eq a b) [ inl e ↦ e | inr d ↦ elim (cases_lt a b) [ inl l ↦ absurd (lower a b v w s l (h a)) | inr l ↦ absurd (lower b a w v r (omega arith) (sym (h b))) ] ]
