-- The number of letters before a place that are greater than a given letter.
use Rattle.std.proofs.Common.{ℕ, zero, suc, ◌+◌, ◌-◌, ◌<◌, ◌≤◌, ◌≡◌, inl, inr, ap, ◌∙◌, List, [], ◌∷◌, take, length, get_or, cond, arith}
use Rattle.std.proofs.Common.{nat_lt, count_by, refl}
use Rattle.std.proofs.lemmas.List.Recursion.{is_count_by}
use Rattle.sym_model.specs.BetaList.{greater}
use Rattle.std.proofs.lemmas.Bool.{cases_lt}
use Rattle.sym_model.proofs.Numbers.{counts-not_less, greater_fewer}
use Rattle.stanley_expand.proofs.GreaterBefore.{before}
use Rattle.perm_codes.proofs.Prefixes.{one_more}

pub greater-count_by : (a : ℕ) (w : List ℕ) → greater a w ≡ count_by (λ b. nat_lt a b) w
greater-count_by a w = is_count_by (greater a) (λ b. nat_lt a b) refl (λ b v. one_more (nat_lt a b) (greater a v)) w

-- before place k + 1 there are as many letters greater than x as before place k, and one more if the letter at place k is greater than x
pub greater_next : (x k : ℕ) (w : List ℕ) → k < length w → greater x (take (suc k) w) ≡ greater x (take k w) + cond (nat_lt x (get_or w k 0)) 1 0
greater_next x k [] h = absurd (omega arith)
greater_next x zero (y ∷ w) h = omega arith
greater_next x (suc k) (y ∷ w) h = let e = greater_next x k w (omega arith) in omega arith

-- if w(p) ≤ w(p + 1), w(p + 1) has at most as many greater letters before it as w(p) has before it
pub before_rising : (w : List ℕ) (p : ℕ) → p < length w → get_or w p 0 ≤ get_or w (suc p) 0 → before w (suc p) ≤ before w p
before_rising w p h l =
    let a = greater_next (get_or w (suc p) 0) p w h in
    let b = counts-not_less (get_or w (suc p) 0) (get_or w p 0) l in
    let c = greater_fewer (get_or w (suc p) 0) (get_or w p 0) (take p w) l in
    omega arith

-- if the letter at place `at` is at least the one before it, and no letter before `at` has more than m greater letters before it, then no letter up
-- to `at` has more than m greater letters before it
pub before_next : (m at last : ℕ) (w : List ℕ) → ((p : ℕ) → p < at → before w p ≤ m) → (0 < at → last ≡ get_or w (at - 1) 0) → at < length w → last ≤ get_or w at 0
    → (p : ℕ) → p < at + 1 → before w p ≤ m
before_next m at last w few is inside rises p h = elim (cases_lt p at) [ inl l ↦ few p l | inr l ↦ here p (omega arith) ]
  where
    here : (k : ℕ) → k ≡ at → before w k ≤ m
    here zero e = omega arith
    here (suc k) e =
        let i : at - 1 ≡ k = omega arith in
        let a = is (omega arith) ∙ ap (λ n. get_or w n 0) i in
        let b = ap (λ n. get_or w n 0) e in
        let c = before_rising w k (omega arith) (omega arith) in
        let d = few k (omega arith) in
        omega arith
