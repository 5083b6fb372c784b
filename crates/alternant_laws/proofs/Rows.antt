-- One row of a tableau in the Bender–Knuth involution. For a number s, the letters k and k + 1 of the row are replaced: those in the first s places
-- of the row by k, and those in later places by k + 1.
use Rattle.std.proofs.Common.{◌≡◌, ℕ, suc, ◌+◌, ◌-◌, ◌<◌, ◌≤◌, ◌⊎◌, ◌==◌, Bool, true, false, cond, List, [], ◌∷◌, length, nat_le, nat_lt, sym, ◌∙◌, ap, ap₂, refl, inl, inr, arith}
use Rattle.std.proofs.lemmas.Bool.{cases_lt, and_parts, and_from, leb-true, le-leb, lt-ltb, le-ltb, eq-eqb, ne_eqb, cases_eq, cond_below}
use Rattle.sym_model.specs.PlaceOrders.{smaller}
use Rattle.sym_model.specs.Schur.{times_in}
use Rattle.tableau_laws.specs.Grid.{is_chain}
use Rattle.tableau_laws.proofs.PatternFillings.{MayStand, Fits}
use Rattle.sym_model.specs.Bounded.{AreAtMost}
use Rattle.tableau_laws.specs.Rows.{RisesFrom}
use Rattle.sym_model.proofs.Numbers.{counts-not_less}

-- ---- weakly increasing rows, as defined by `RisesFrom` and as tested by `is_chain`

chain_from : (a : ℕ) (w : List ℕ) → is_chain nat_le (a ∷ w) ≡ true → RisesFrom a w
chain_from a [] e = tt
chain_from a (b ∷ w) e = let p = and_parts (nat_le a b) (is_chain nat_le (b ∷ w)) e in (leb-true a b p.0, chain_from b w p.1)

pub chain_tells : (w : List ℕ) → is_chain nat_le w ≡ true → RisesFrom 0 w
chain_tells [] e = tt
chain_tells (a ∷ w) e = (omega arith, chain_from a w e)

chain_back : (a : ℕ) (w : List ℕ) → RisesFrom a w → is_chain nat_le (a ∷ w) ≡ true
chain_back a [] r = refl
chain_back a (b ∷ w) r = and_from (nat_le a b) (is_chain nat_le (b ∷ w)) (le-leb a b r.0) (chain_back b w r.1)

pub rises_chain : (w : List ℕ) → RisesFrom 0 w → is_chain nat_le w ≡ true
rises_chain [] r = refl
rises_chain (a ∷ w) r = chain_back a w r.1

-- ---- the number of letters of a row that are smaller than j (`smaller j`)

-- 1 if the letter a is smaller than j, and 0 otherwise
abbrev pub is_smaller : ℕ → ℕ → ℕ
is_smaller j a = cond (nat_lt a j) 1 0

pub none_smaller : (j lo : ℕ) (w : List ℕ) → RisesFrom lo w → j ≤ lo → smaller j w ≡ 0
none_smaller j lo [] r h = refl
none_smaller j lo (a ∷ w) r h =
    let l = r.0 in
    let e = none_smaller j a w r.1 (omega arith) in
    let p = counts-not_less a j (omega arith) in
    omega arith

pub smaller_next : (j : ℕ) (w : List ℕ) → smaller (suc j) w ≡ smaller j w + times_in j w
smaller_next j [] = omega arith
smaller_next j (a ∷ w) = let e = smaller_next j w in let o = by (cases_lt a j) (cases_eq a j) in omega arith
  where
    equals : a ≡ j → cond {A = ℕ} (a == j) 1 0 ≡ 1
    equals h = ap (λ (b : Bool). cond {A = ℕ} b 1 0) (eq-eqb a j h)

    differs : (a ≡ j → ⊥) → cond {A = ℕ} (a == j) 1 0 ≡ 0
    differs h = ap (λ (b : Bool). cond {A = ℕ} b 1 0) (ne_eqb a j h)

    by : (a < j) ⊎ (j ≤ a) → (a ≡ j) ⊎ (a ≡ j → ⊥) → is_smaller (suc j) a ≡ is_smaller j a + cond {A = ℕ} (a == j) 1 0
    by (inl h) (inl e) = absurd (omega arith)
    by (inl h) (inr d) = omega (arith, sym (cond_below {X = ℕ} a (suc j) 1 0 (omega arith)), sym (cond_below {X = ℕ} a j 1 0 h), differs d)
    by (inr h) (inl e) = omega (arith, sym (cond_below {X = ℕ} a (suc j) 1 0 (omega arith)), counts-not_less a j h, equals e)
    by (inr h) (inr d) = omega (arith, counts-not_less a (suc j) (omega arith), counts-not_less a j h, differs d)

-- `cut k s a`: the letter a if it is neither k nor k + 1; otherwise k if s > 0, and k + 1 if s = 0
abbrev pub cut : ℕ → ℕ → ℕ → ℕ
cut k s a = cond (nat_lt a k) a (cond (nat_lt (suc k) a) a (cond (s == 0) (suc k) k))

abbrev pub recut : ℕ → ℕ → List ℕ → List ℕ
recut k s [] = []
recut k s (a ∷ w) = cut k s a ∷ recut k (s - 1) w

cut-low : (k s a : ℕ) → a < k → cut k s a ≡ a
cut-low k s a h = ap (λ (b : Bool). cond b a (cond (nat_lt (suc k) a) a (cond (s == 0) (suc k) k))) (lt-ltb a k h)

cut-high : (k s a : ℕ) → suc k < a → cut k s a ≡ a
cut-high k s a h =
    ap (λ (b : Bool). cond b a (cond (nat_lt (suc k) a) a (cond (s == 0) (suc k) k))) (le-ltb a k (omega arith))
    ∙ ap (λ (b : Bool). cond b a (cond (s == 0) (suc k) k)) (lt-ltb (suc k) a h)

cut-between : (k s a : ℕ) → k ≤ a → a ≤ suc k → cut k s a ≡ cond (s == 0) (suc k) k
cut-between k s a h g =
    ap (λ (b : Bool). cond b a (cond (nat_lt (suc k) a) a (cond (s == 0) (suc k) k))) (le-ltb a k h)
    ∙ ap (λ (b : Bool). cond b a (cond (s == 0) (suc k) k)) (le-ltb (suc k) a g)

cut-first : (k s a : ℕ) → k ≤ a → a ≤ suc k → 0 < s → cut k s a ≡ k
cut-first k s a h g l = cut-between k s a h g ∙ ap (λ (b : Bool). cond b (suc k) k) (ne_eqb s 0 (λ e. absurd (omega arith)))

cut-second : (k s a : ℕ) → k ≤ a → a ≤ suc k → s ≡ 0 → cut k s a ≡ suc k
cut-second k s a h g e = cut-between k s a h g ∙ ap (λ (b : Bool). cond b (suc k) k) (eq-eqb s 0 e)

-- the possible values c of `cut k s a`: a, if a < k; k, if a is k or k + 1 and s > 0; k + 1, if a is k or k + 1 and s = 0; a, if a > k + 1
pub data Cut (k s a c : ℕ) : Type 0 where
  low : a < k → c ≡ a → Cut k s a c
  first : k ≤ a → a ≤ suc k → 0 < s → c ≡ k → Cut k s a c
  second : k ≤ a → a ≤ suc k → s ≡ 0 → c ≡ suc k → Cut k s a c
  high : suc k < a → c ≡ a → Cut k s a c

pub cases_cut : (k s a : ℕ) → Cut k s a (cut k s a)
cases_cut k s a = elim (cases_lt a k) [
  | inl h ↦ low h (cut-low k s a h)
  | inr h ↦ elim (cases_lt (suc k) a) [
    | inl g ↦ high g (cut-high k s a g)
    | inr g ↦ elim (cases_eq s 0) [
      | inl e ↦ second h g e (cut-second k s a h g e)
      | inr d ↦ first h g (omega arith) (cut-first k s a h g (omega arith))
    ]
  ]
]

cut_rises : (k s lo a : ℕ) → lo ≤ a → cut k s lo ≤ cut k (s - 1) a
cut_rises k s lo a h = by (cut k s lo) (cut k (s - 1) a) (cases_cut k s lo) (cases_cut k (s - 1) a)
  where
    by : (x y : ℕ) → Cut k s lo x → Cut k (s - 1) a y → x ≤ y
    by x y (low p e) (low q d) = omega arith
    by x y (low p e) (first q r t d) = omega arith
    by x y (low p e) (second q r t d) = omega arith
    by x y (low p e) (high q d) = omega arith
    by x y (first p r t e) (low q d) = omega arith
    by x y (first p r t e) (first q u v d) = omega arith
    by x y (first p r t e) (second q u v d) = omega arith
    by x y (first p r t e) (high q d) = omega arith
    by x y (second p r t e) (low q d) = omega arith
    by x y (second p r t e) (first q u v d) = omega arith
    by x y (second p r t e) (second q u v d) = omega arith
    by x y (second p r t e) (high q d) = omega arith
    by x y (high p e) (low q d) = omega arith
    by x y (high p e) (first q u v d) = omega arith
    by x y (high p e) (second q u v d) = omega arith
    by x y (high p e) (high q d) = omega arith

-- `recut k s w`: the row w with its letters k and k + 1 replaced by k in the first s places, and by k + 1 in the later places

pub length-recut : (k s : ℕ) (w : List ℕ) → length (recut k s w) ≡ length w
length-recut k s [] = refl
length-recut k s (a ∷ w) = ap suc (length-recut k (s - 1) w)

recut_from : (k s lo : ℕ) (w : List ℕ) → RisesFrom lo w → RisesFrom (cut k s lo) (recut k (s - 1) w)
recut_from k s lo [] r = tt
recut_from k s lo (a ∷ w) r = (cut_rises k s lo a r.0, recut_from k (s - 1) a w r.1)

pub recut_rises : (k s : ℕ) (w : List ℕ) → RisesFrom 0 w → RisesFrom 0 (recut k s w)
recut_rises k s [] r = tt
recut_rises k s (a ∷ w) r = (omega arith, recut_from k s a w r.1)

smaller-cut : (j k s a : ℕ) → (j ≤ k) ⊎ (suc k < j) → is_smaller j (cut k s a) ≡ is_smaller j a
smaller-cut j k s a h = by (cut k s a) (cases_cut k s a) h
  where
    by : (c : ℕ) → Cut k s a c → (j ≤ k) ⊎ (suc k < j) → is_smaller j c ≡ is_smaller j a
    by c (low p e) g = ap (is_smaller j) e
    by c (high p e) g = ap (is_smaller j) e
    by c (first p q t e) (inl g) = ap (is_smaller j) e ∙ counts-not_less k j g ∙ sym (counts-not_less a j (omega arith))
    by c (first p q t e) (inr g) = ap (is_smaller j) e ∙ sym (cond_below {X = ℕ} k j 1 0 (omega arith)) ∙ sym (sym (cond_below {X = ℕ} a j 1 0 (omega arith)))
    by c (second p q t e) (inl g) = ap (is_smaller j) e ∙ counts-not_less (suc k) j (omega arith) ∙ sym (counts-not_less a j (omega arith))
    by c (second p q t e) (inr g) = ap (is_smaller j) e ∙ sym (cond_below {X = ℕ} (suc k) j 1 0 g) ∙ sym (sym (cond_below {X = ℕ} a j 1 0 (omega arith)))

pub smaller-recut : (j k s : ℕ) (w : List ℕ) → (j ≤ k) ⊎ (suc k < j) → smaller j (recut k s w) ≡ smaller j w
smaller-recut j k s [] h = refl
smaller-recut j k s (a ∷ w) h = ap₂ ◌+◌ (smaller-cut j k s a h) (smaller-recut j k (s - 1) w h)

-- if a weakly increasing row has at most s letters smaller than k, and at least s letters smaller than k + 2, then `recut k s` of the row has s
-- letters smaller than k + 1
pub smaller-recut_middle : (k s lo : ℕ) (w : List ℕ) → RisesFrom lo w → smaller k w ≤ s → s ≤ smaller (suc (suc k)) w → smaller (suc k) (recut k s w) ≡ s
smaller-recut_middle k s lo [] r h g = omega arith
smaller-recut_middle k s lo (a ∷ w) r h g = by (cut k s a) (cases_cut k s a) (smaller-recut_middle k (s - 1) a w r.1)
  where
    by : (c : ℕ) → Cut k s a c → (smaller k w ≤ s - 1 → s - 1 ≤ smaller (suc (suc k)) w → smaller (suc k) (recut k (s - 1) w) ≡ s - 1)
        → is_smaller (suc k) c + smaller (suc k) (recut k (s - 1) w) ≡ s
    by c (low p e) later =
        let x = sym (cond_below {X = ℕ} a k 1 0 p) in
        let y = sym (cond_below {X = ℕ} a (suc (suc k)) 1 0 (omega arith)) in
        let z = later (omega arith) (omega arith) in
        let t = sym (cond_below {X = ℕ} c (suc k) 1 0 (omega arith)) in
        omega arith
    by c (first p q l e) later =
        let x = none_smaller k a w r.1 p in
        let y = sym (cond_below {X = ℕ} a (suc (suc k)) 1 0 (omega arith)) in
        let z = later (omega arith) (omega arith) in
        let t = sym (cond_below {X = ℕ} c (suc k) 1 0 (omega arith)) in
        omega arith
    by c (second p q l e) later =
        let x = none_smaller k a w r.1 p in
        let z = later (omega arith) (omega arith) in
        let t = counts-not_less c (suc k) (omega arith) in
        omega arith
    by c (high p e) later =
        let x = none_smaller (suc (suc k)) a w r.1 (omega arith) in
        let y = counts-not_less a (suc (suc k)) (omega arith) in
        let v = none_smaller k a w r.1 (omega arith) in
        let z = later (omega arith) (omega arith) in
        let t = counts-not_less c (suc k) (omega arith) in
        omega arith

-- let the row w be weakly increasing, with t letters smaller than k + 1: `recut k t` of `recut k s w` is w, for any s
pub recut_twice : (k s lo : ℕ) (w : List ℕ) → RisesFrom lo w → recut k (smaller (suc k) w) (recut k s w) ≡ w
recut_twice k s lo [] r = refl
recut_twice k s lo (a ∷ w) r =
    ap₂ ◌∷◌ (by (cut k s a) (cases_cut k s a) (cut k (is_smaller (suc k) a + smaller (suc k) w) (cut k s a)) (cases_cut k (is_smaller (suc k) a + smaller (suc k) w) (cut k s a)))
    (ap (λ t. recut k t (recut k (s - 1) w)) (one_less (cases_lt k a)) ∙ recut_twice k (s - 1) a w r.1)
  where
    one_less : (k < a) ⊎ (a ≤ k) → is_smaller (suc k) a + smaller (suc k) w - 1 ≡ smaller (suc k) w
    one_less (inl h) = let x = none_smaller (suc k) a w r.1 (omega arith) in let y = counts-not_less a (suc k) (omega arith) in omega arith
    one_less (inr h) = let y = sym (cond_below {X = ℕ} a (suc k) 1 0 (omega arith)) in omega arith

    places : (k < a) ⊎ (a ≤ k) → ((k < a) × (is_smaller (suc k) a + smaller (suc k) w ≡ 0)) ⊎ ((a ≤ k) × (0 < is_smaller (suc k) a + smaller (suc k) w))
    places (inl h) = let x = none_smaller (suc k) a w r.1 (omega arith) in let y = counts-not_less a (suc k) (omega arith) in inl (h, omega arith)
    places (inr h) = let y = sym (cond_below {X = ℕ} a (suc k) 1 0 (omega arith)) in inr (h, omega arith)

    twice : (S c d : ℕ) → Cut k s a c → Cut k S c d → ((k < a) × (S ≡ 0)) ⊎ ((a ≤ k) × (0 < S)) → d ≡ a
    twice S c d (low p e) (low q f) g = omega arith
    twice S c d (low p e) (first q u v f) g = absurd (omega arith)
    twice S c d (low p e) (second q u v f) g = absurd (omega arith)
    twice S c d (low p e) (high q f) g = omega arith
    twice S c d (high p e) (low q f) g = omega arith
    twice S c d (high p e) (first q u v f) g = absurd (omega arith)
    twice S c d (high p e) (second q u v f) g = absurd (omega arith)
    twice S c d (high p e) (high q f) g = omega arith
    twice S c d (first p x t e) (low q f) g = absurd (omega arith)
    twice S c d (first p x t e) (high q f) g = absurd (omega arith)
    twice S c d (first p x t e) (first q u v f) (inl g) = let z = g.1 in absurd (omega arith)
    twice S c d (first p x t e) (first q u v f) (inr g) = let z = g.0 in omega arith
    twice S c d (first p x t e) (second q u v f) (inl g) = let z = g.0 in omega arith
    twice S c d (first p x t e) (second q u v f) (inr g) = let z = g.1 in absurd (omega arith)
    twice S c d (second p x t e) (low q f) g = absurd (omega arith)
    twice S c d (second p x t e) (high q f) g = absurd (omega arith)
    twice S c d (second p x t e) (first q u v f) (inl g) = let z = g.1 in absurd (omega arith)
    twice S c d (second p x t e) (first q u v f) (inr g) = let z = g.0 in omega arith
    twice S c d (second p x t e) (second q u v f) (inl g) = let z = g.0 in omega arith
    twice S c d (second p x t e) (second q u v f) (inr g) = let z = g.1 in absurd (omega arith)

    by : (c : ℕ) → Cut k s a c → (d : ℕ) → Cut k (is_smaller (suc k) a + smaller (suc k) w) c d → d ≡ a
    by c x d y = twice (is_smaller (suc k) a + smaller (suc k) w) c d x y (places (cases_lt k a))

letter_fits : (n k s : ℕ) (p : Bool) (a : ℕ) → 0 < k → k < n → MayStand n p a → MayStand n p (cut k s a)
letter_fits n k s false a h g m = cut-low k s a (omega arith) ∙ m
letter_fits n k s true a h g m = by (cut k s a) (cases_cut k s a)
  where
    by : (c : ℕ) → Cut k s a c → (0 < c) × (c ≤ n)
    by c (low p e) = let x = m.0 in let y = m.1 in (omega arith, omega arith)
    by c (first p q t e) = (omega arith, omega arith)
    by c (second p q t e) = (omega arith, omega arith)
    by c (high p e) = let x = m.0 in let y = m.1 in (omega arith, omega arith)

pub recut_fits : (n k s : ℕ) (line : List Bool) (w : List ℕ) → 0 < k → k < n → Fits n line w → Fits n line (recut k s w)
recut_fits n k s [] [] h g f = tt
recut_fits n k s [] (a ∷ w) h g f = absurd f
recut_fits n k s (p ∷ line) [] h g f = absurd f
recut_fits n k s (p ∷ line) (a ∷ w) h g f = (letter_fits n k s p a h g f.0, recut_fits n k (s - 1) line w h g f.1)

pub recut_at_most : (k s c : ℕ) (w : List ℕ) → (c ≡ k → ⊥) → AreAtMost c w → AreAtMost c (recut k s w)
recut_at_most k s c [] d b = tt
recut_at_most k s c (a ∷ w) d b = (by (cut k s a) (cases_cut k s a), recut_at_most k (s - 1) c w d b.1)
  where
    by : (x : ℕ) → Cut k s a x → x ≤ c
    by x (low p e) = let l = b.0 in omega arith
    by x (first p q t e) = let l = b.0 in omega arith
    by x (second p q t e) = let l = b.0 in omega arith
    by x (high p e) = let l = b.0 in omega arith
