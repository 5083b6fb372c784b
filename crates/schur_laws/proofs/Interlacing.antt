-- The cells of two letters k and k + 1 in the rows of a tableau, described by numbers A, B, C for each row: row r has the letter k in the y(r) cells
-- from place A(r) + 1 to place B(r), and the letter k + 1 in the x(r) cells from place B(r) + 1 to place C(r). The number of these cells after place
-- j is Y(j, r) for the letter k, and X(j, r) for the letter k + 1.
use Rattle.std.proofs.Common.{◌≡◌, ℕ, zero, suc, ◌+◌, ◌<◌, ◌≤◌, ◌⊎◌, max, ◌∙◌, ap, ap₂, refl, inl, inr, arith, rules}
use Rattle.std.proofs.lemmas.Bool.{cases_lt}

-- f(a) + f(a + 1) + .. + f(a + k - 1)
abbrev pub add_up : (ℕ → ℕ) → ℕ → ℕ → ℕ
add_up f a zero = 0
add_up f a (suc k) = f a + add_up f (suc a) k

pub add_up-last : (f : ℕ → ℕ) (a k : ℕ) → add_up f a (suc k) ≡ add_up f a k + f (a + k)
add_up-last f a zero = let e : a + 0 ≡ a = omega arith in let g = ap f e in omega arith
add_up-last f a (suc k) = let h = add_up-last f (suc a) k in let e : suc a + k ≡ a + suc k = omega arith in let g = ap f e in omega arith

pub add_up-same : (f g : ℕ → ℕ) (a k : ℕ) → ((i : ℕ) → f i ≡ g i) → add_up f a k ≡ add_up g a k
add_up-same f g a zero e = refl
add_up-same f g a (suc k) e = ap₂ ◌+◌ (e a) (add_up-same f g (suc a) k e)

pub add_up-none : (f : ℕ → ℕ) (a k : ℕ) → ((i : ℕ) → a ≤ i → f i ≡ 0) → add_up f a k ≡ 0
add_up-none f a zero e = refl
add_up-none f a (suc k) e = let h = e a (omega arith) in let g = add_up-none f (suc a) k (λ i l. e i (omega arith)) in omega arith

pub add_up-longer : (f : ℕ → ℕ) (a m k : ℕ) → ((i : ℕ) → a + m ≤ i → f i ≡ 0) → add_up f a (m + k) ≡ add_up f a m
add_up-longer f a zero k e = let d : 0 + k ≡ k = omega arith in ap (add_up f a) d ∙ add_up-none f a k (λ i l. e i (omega arith))
add_up-longer f a (suc m) k e =
    let d : suc m + k ≡ suc (m + k) = omega arith in
    let h = add_up-longer f (suc a) m k (λ i l. e i (omega arith)) in
    ap (add_up f a) d ∙ ap (λ n. f a + n) h

-- for each row r, B(r) = A(r) + y(r) and C(r) = B(r) + x(r), and for the next row B(r + 1) ≤ A(r) and C(r + 1) ≤ B(r)
pub record Places (A B C x y : ℕ → ℕ) : Type 0 where
  pub first : (r : ℕ) → A r + y r ≡ B r
  pub second : (r : ℕ) → B r + x r ≡ C r
  pub left : (r : ℕ) → B (suc r) ≤ A r
  pub right : (r : ℕ) → C (suc r) ≤ B r

-- Y(j, r) is the number of the places A(r) + 1, .., B(r) of row r that are after place j, and X(j, r) is the number of the places B(r) + 1, .., C(r)
-- that are after place j
pub record RightOf (A B C : ℕ → ℕ) (X Y : ℕ → ℕ → ℕ) : Type 0 where
  pub first : (j r : ℕ) → Y j r + max (A r) j ≡ max (B r) j
  pub second : (j r : ℕ) → X j r + max (B r) j ≡ max (C r) j

none_right : (A B C x y : ℕ → ℕ) (X Y : ℕ → ℕ → ℕ) → Places A B C x y → RightOf A B C X Y → (j a m : ℕ) → C a ≤ j → add_up (X j) a m ≡ 0
none_right A B C x y X Y p q j a zero l = refl
none_right A B C x y X Y p q j a (suc m) l = search (rules, (none_right A B C x y X Y p q j (suc a) m (omega arith)))

none_left : (A B C x y : ℕ → ℕ) (X Y : ℕ → ℕ → ℕ) → Places A B C x y → RightOf A B C X Y → (j a m : ℕ) → B a ≤ j → add_up (Y j) a m ≡ 0
none_left A B C x y X Y p q j a zero l = refl
none_left A B C x y X Y p q j a (suc m) l = search (rules, (none_left A B C x y X Y p q j (suc a) m (omega arith)))

-- if s + x(a) + .. + x(a + i) ≤ t + y(a) + .. + y(a + i - 1) for each i, then, for each j, s plus the sum of X(j, r) is at most t plus the sum of
-- Y(j, r); both sums are over the m rows r from a on
pub by_columns : (A B C x y : ℕ → ℕ) (X Y : ℕ → ℕ → ℕ) → Places A B C x y → RightOf A B C X Y → (j m a s t : ℕ)
    → ((i : ℕ) → s + add_up x a (suc i) ≤ t + add_up y a i)
    → s + add_up (X j) a m ≤ t + add_up (Y j) a m
by_columns A B C x y X Y p q j zero a s t h = let k = h 0 in omega arith
by_columns A B C x y X Y p q j (suc m) a s t h =
    elim (cases_lt j (B a)) [ inl l ↦ above (by_columns A B C x y X Y p q j m (suc a) (s + x a) (t + y a) (λ i. let k = h (suc i) in omega arith)) l (cases_lt (A a) j) | inr l ↦ beyond l ]
  where
    beyond : B a ≤ j → s + add_up (X j) a (suc m) ≤ t + add_up (Y j) a (suc m)
    beyond l =
        let k = h 0 in let f = q.second j a in let g = p.second a in let u = p.right a in
        let n = none_right A B C x y X Y p q j (suc a) m (omega arith) in
        omega arith

    between : (n : ℕ) → j < B a → A a < j → s + (X j a + add_up (X j) (suc a) n) ≤ t + (Y j a + add_up (Y j) (suc a) n)
    between zero l d = let k = h 0 in let f = q.second j a in let g = p.second a in omega arith
    between (suc n) l d =
        let k = h 0 in let f = q.second j a in let g = p.second a in let f' = q.first j a in
        let f'' = q.second j (suc a) in let g'' = p.second (suc a) in
        let u = p.right a in let v = p.left a in let w = p.right (suc a) in
        let none = none_right A B C x y X Y p q j (suc (suc a)) n (omega arith) in
        omega arith

    above : (s + x a) + add_up (X j) (suc a) m ≤ (t + y a) + add_up (Y j) (suc a) m → j < B a → (A a < j) ⊎ (j ≤ A a) → s + add_up (X j) a (suc m) ≤ t + add_up (Y j) a (suc m)
    above rest l (inl d) = between m l d
    above rest l (inr d) =
        let f = q.second j a in let g = p.second a in let f' = q.first j a in let g' = p.first a in
        omega arith

-- suppose that, for each j up to some number ≥ B(a), s plus the sum of X(j, r) is at most t plus the sum of Y(j, r), both over the m rows r from a
-- on. Then s + x(a) + .. + x(a + i) ≤ t + y(a) + .. + y(a + i - 1) for each i < m
pub by_rows : (A B C x y : ℕ → ℕ) (X Y : ℕ → ℕ → ℕ) → Places A B C x y → RightOf A B C X Y → (i m a s t most : ℕ) → i < m → B a ≤ most
    → ((j : ℕ) → j ≤ most → s + add_up (X j) a m ≤ t + add_up (Y j) a m)
    → s + add_up x a (suc i) ≤ t + add_up y a i
by_rows A B C x y X Y p q i zero a s t most l b h = absurd (omega arith)
by_rows A B C x y X Y p q zero (suc m) a s t most l b h =
    let k = h (B a) b in
    let f = q.second (B a) a in let g = p.second a in let u = p.left a in let v = p.first a in
    let none = none_left A B C x y X Y p q (B a) a (suc m) (omega arith) in
    omega arith
by_rows A B C x y X Y p q (suc i) (suc m) a s t most l b h =
    let v = p.first a in let u = p.left a in let g = p.second a in
    let rest = by_rows A B C x y X Y p q i m (suc a) (s + x a) (t + y a) (A a) (omega arith) u
    (λ j d. let k = h j (omega arith) in let f = q.second j a in let f' = q.first j a in omega arith) in
    omega arith
