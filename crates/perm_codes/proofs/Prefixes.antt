-- Lists of letters: the number of letters smaller than a given one as a `count_by`, and the first n letters of a list without the fixed letters at
-- their end. A letter is *fixed* if it is equal to its place, counted from 1.
use Rattle.std.proofs.Common.{◌≡◌, ℕ, ◌+◌, ◌-◌, ◌<◌, ◌≤◌, nat_lt, List, [], ◌∷◌, ◌++◌, length, take, get_or, refl, sym, ap, ◌∙◌, arith, cond, true, false, inl, inr, Bool, length-take, count_by}
use Rattle.std.proofs.lemmas.List.{take_more}
use Rattle.std.proofs.lemmas.List.Recursion.{is_count_by}
use Rattle.std.proofs.lemmas.Bool.{cases_eq, ne_eqb}
use Rattle.sym_model.specs.PlaceOrders.{smaller}
use Rattle.sym_model.specs.Permutation.{kept, without_fixed_from, in_front_unless_fixed}
use Rattle.schubert_laws.proofs.FixedTails.{kept_added}

pub one_more : (t : Bool) (n : ℕ) → cond t 1 0 + n ≡ cond t (1 + n) n
one_more true n = refl
one_more false n = omega arith

pub smaller-count_by : (a : ℕ) (w : List ℕ) → smaller a w ≡ count_by (λ b. nat_lt b a) w
smaller-count_by a w = is_count_by (smaller a) (λ b. nat_lt b a) refl (λ b v. one_more (nat_lt b a) (smaller a v)) w

stays_in_front : (i a b : ℕ) (v : List ℕ) → in_front_unless_fixed i a (v ++ b ∷ []) ≡ a ∷ (v ++ b ∷ [])
stays_in_front i a b [] = refl
stays_in_front i a b (c ∷ v) = refl

unfixed_last : (i b : ℕ) (v : List ℕ) → (b ≡ i + length v → ⊥) → without_fixed_from i (v ++ b ∷ []) ≡ v ++ b ∷ []
unfixed_last i b [] n = elim (cases_eq b i) [
  | inl e ↦ absurd (n (omega arith))
  | inr d ↦ ap (λ t. cond t [] (b ∷ [])) (ne_eqb b i d)
]
unfixed_last i b (c ∷ v) n =
    ap (in_front_unless_fixed i c) (unfixed_last (i + 1) b v (λ e. n (omega arith))) ∙ stays_in_front i c b v

kept_unfixed_last : (v : List ℕ) (b : ℕ) → (b ≡ length v + 1 → ⊥) → kept (v ++ b ∷ []) ≡ v ++ b ∷ []
kept_unfixed_last [] b n = refl
kept_unfixed_last (a ∷ v) b n = ap (λ u. a ∷ u) (unfixed_last 2 b v (λ e. n (omega arith)))

last_of : (w : List ℕ) (n : ℕ) → 0 < n → n ≤ length w → take n w ≡ take (n - 1) w ++ get_or w (n - 1) 0 ∷ []
last_of w n p l =
    let e : n - 1 + 1 ≡ n = omega arith in
    ap (λ m. take m w) (sym e) ∙ take_more w (n - 1) 0 (omega arith)

-- if the letter of w at place n > 1 is n, the first n - 1 and the first n letters of w are the same list once the fixed letters at the end are
-- removed
pub kept_without : (w : List ℕ) (n : ℕ) → 1 < n → n ≤ length w → get_or w (n - 1) 0 ≡ n → kept (take (n - 1) w) ≡ kept (take n w)
kept_without w n p l e =
    let long : length (take (n - 1) w) ≡ n - 1 = omega (arith, length-take (n - 1) w) in
    let fixed : get_or w (n - 1) 0 ≡ length (take (n - 1) w) + 1 = omega arith in
    sym (ap kept (last_of w n (omega arith) l) ∙ ap (λ a. kept (take (n - 1) w ++ a ∷ [])) fixed
    ∙ kept_added (take (n - 1) w) 1 (omega arith))

pub kept_here : (w : List ℕ) (n : ℕ) → 1 < n → n ≤ length w → (get_or w (n - 1) 0 ≡ n → ⊥) → kept (take n w) ≡ take n w
kept_here w n p l d =
    let long : length (take (n - 1) w) ≡ n - 1 = omega (arith, length-take (n - 1) w) in
    ap kept (last_of w n (omega arith) l) ∙ kept_unfixed_last (take (n - 1) w) (get_or w (n - 1) 0) (λ e. d (omega arith))
    ∙ sym (last_of w n (omega arith) l)
