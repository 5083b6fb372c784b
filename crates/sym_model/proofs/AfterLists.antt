-- The lists `after a k` of the k numbers a + 1, .., a + k (specs/Partition): their lengths, members and pieces.
use Rattle.std.proofs.Common.{◌≡◌, ℕ, zero, suc, ◌+◌, ◌<◌, ◌≤◌, Bool, cond, nat_le, [], ◌∷◌, ◌++◌, length, ℤ, pos, refl, ◌∙◌, ap, inl, inr, arith, add-one, rules}
use Rattle.std.proofs.lemmas.Bool.{cases_eq, le-leb, lt-leb}
use Rattle.sym_model.specs.Sum.{Among, Once, total}
use Rattle.sym_model.specs.Partition.{after}
use Rattle.sym_model.proofs.Sums.{total_none}

pub length_after : (a k : ℕ) → length (after a k) ≡ k
length_after a zero = refl
length_after a (suc k) = ap suc (length_after (a + 1) k)

pub after_among : (a k z : ℕ) → Among z (after a k) → (a < z) × (z ≤ a + k)
after_among a zero z m = absurd m
after_among a (suc k) z (inl e) = (omega arith, omega arith)
after_among a (suc k) z (inr m) = let h = after_among (a + 1) k z m in (omega arith, omega arith)

pub among_after : (a k z : ℕ) → a < z → z ≤ a + k → Among z (after a k)
among_after a zero z h l = absurd (omega arith)
among_after a (suc k) z h l = elim (cases_eq z (a + 1)) [ inl e ↦ inl e | inr d ↦ inr (among_after (a + 1) k z (omega arith) (omega arith)) ]

pub once_after : (a k : ℕ) → Once (after a k)
once_after a zero = tt
once_after a (suc k) = ((λ m. let h = after_among (a + 1) k (a + 1) m in absurd (omega arith)), once_after (a + 1) k)

pub after-last : (a n : ℕ) → after a (suc n) ≡ after a n ++ ((a + suc n) ∷ [])
after-last a zero = refl
after-last a (suc n) =
    ap (λ l. (a + 1) ∷ l) (after-last (a + 1) n ∙ ap (λ k. after (a + 1) n ++ (k ∷ [])) (let e : a + 1 + suc n ≡ a + suc (suc n) = omega arith in e))

pub total_after : (a k n : ℕ) (g : ℕ → ℤ) → k ≤ n → total (λ (x : ℕ). cond (nat_le x (a + k)) (g x) (pos 0)) (after a n) ≡ total g (after a k)
total_after a zero n g h =
    total_none (λ (x : ℕ). cond (nat_le x (a + 0)) (g x) (pos 0)) (after a n)
    (λ x m. let r = after_among a n x m in let l = r.0 in ap (λ (b : Bool). cond b (g x) (pos 0)) (lt-leb x (a + 0) (omega arith)))
total_after a (suc k) zero g h = absurd (omega arith)
total_after a (suc k) (suc n) g h = search (rules, le-leb, (total_after (a + 1) k n g (omega arith)))

pub after-append : (a m k : ℕ) → after a (m + k) ≡ after a m ++ after (a + m) k
after-append a zero k = let e : zero + k ≡ k = omega arith in let d : a ≡ a + 0 = omega arith in ap (after a) e ∙ ap (λ c. after c k) d
after-append a (suc m) k =
    let e : suc m + k ≡ suc (m + k) = omega arith in
    let d : a + 1 + m ≡ a + suc m = omega arith in
    ap (after a) e ∙ ap (λ l. (a + 1) ∷ l) (after-append (a + 1) m k) ∙ ap (λ c. (a + 1) ∷ (after (a + 1) m ++ after c k)) d

pub after-more : (a k : ℕ) → after a (k + 1) ≡ after a k ++ (a + k + 1) ∷ []
after-more a zero = rw (add-one 0) (ap (λ n. n ∷ []) (omega arith))
after-more a (suc k) = search (rules, add-one, (after-more (a + 1) k))
