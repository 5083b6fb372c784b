-- Tests, place by place, whether a list is a permutation and whether a list is a code.
use Rattle.std.proofs.Common.{◌≡◌, ℕ, zero, suc, ◌+◌, ◌<◌, ◌≤◌, List, [], ◌∷◌, length, take, get_or, sym, ap, subst, arith, inl, inr, true, ◌==◌, ◌||◌, ◌∙◌, eq-eqb}
use Rattle.std.specs.List.{list_any}
use Rattle.std.proofs.Math.Bool.{or-true}
use Rattle.std.proofs.lemmas.Bool.{cases_eq, ne_eqb}
use Rattle.sym_model.specs.Sum.{Among, Once}
use Rattle.sym_model.specs.Permutation.{IsOneLine, IsCode}
use Rattle.schubert_laws.proofs.Swaps.{among_get}
use Rattle.perm_codes.specs.Limits.{ExceedsFirstAt, IsNewLetter, IsShortPermutation, OffendsFirstAt}

-- ---- a list of letters is a permutation if and only if each of its letters is new (`IsNewLetter`)

place_of : (a : ℕ) (w : List ℕ) → Among a w → (k : ℕ) × (k < length w) × (get_or w k 0 ≡ a)
place_of a [] m = absurd m
place_of a (b ∷ w) (inl e) = (zero, omega arith, sym e)
place_of a (b ∷ w) (inr m) = let r = place_of a w m in let p = r.1 in (suc r.0, omega arith, r.2)

abbrev ComesNew : List ℕ → Type 0
ComesNew w = (k : ℕ) → k < length w → Among (get_or w k 0) (take k w) → ⊥

once_new : (w : List ℕ) → ComesNew w → Once w
once_new [] h = tt
once_new (a ∷ w) h = (
  λ m.
      let r = place_of a w m in
      let p = r.1 in
      h (suc r.0) (omega arith) (inl r.2),
  once_new w (λ k l m. h (suc k) (omega arith) (inr m)),
)

new_once : (w : List ℕ) → Once w → ComesNew w
new_once [] o k l m = absurd (omega arith)
new_once (a ∷ w) o zero l m = absurd m
new_once (a ∷ w) o (suc k) l (inl e) = o.0 (subst (λ b. Among b w) e (among_get k 0 w (omega arith)))
new_once (a ∷ w) o (suc k) l (inr m) = new_once w o.1 k (omega arith) m

-- if each letter of w is one of 1, .., length w and differs from those before it, w is a permutation
pub one_line_from_new : (w : List ℕ) → ((k : ℕ) → k < length w → IsNewLetter w k) → IsOneLine w
one_line_from_new w h = record {
  letters = λ a m.
      let r = place_of a w m in
      let n = h r.0 r.1 in
      (subst (λ b. 1 ≤ b) r.2 n.positive, subst (λ b. b ≤ length w) r.2 n.within);
  once = once_new w (λ k l m. (h k l).new m);
}

pub new_letter : (w : List ℕ) (k : ℕ) → IsOneLine w → k < length w → IsNewLetter w k
new_letter w k o l =
    let r = o.letters (get_or w k 0) (among_get k 0 w l) in
    record { positive = r.0; within = r.1; new = new_once w o.once k l }

pub among_from_any : (a : ℕ) (w : List ℕ) → list_any (λ b. b == a) w ≡ true → Among a w
among_from_any a [] h = cc
among_from_any a (b ∷ w) h = elim (cases_eq b a) [
  | inl e ↦ inl (sym e)
  | inr n ↦ inr (among_from_any a w (ap (λ t. t || list_any (λ c. c == a) w) (sym (ne_eqb b a n)) ∙ h))
]

pub any_from_among : (a : ℕ) (w : List ℕ) → Among a w → list_any (λ b. b == a) w ≡ true
any_from_among a [] m = absurd m
any_from_among a (b ∷ w) (inl e) = ap (λ t. t || list_any (λ c. c == a) w) (eq-eqb b a (sym e))
any_from_among a (b ∷ w) (inr m) = ap (λ t. (b == a) || t) (any_from_among a w m) ∙ or-true (b == a)

pub no_offence : (w : List ℕ) (at : ℕ) → IsOneLine w → OffendsFirstAt w at → ⊥
no_offence w at o f = f.offends (new_letter w at o f.inside)

pub short_letter : (w : List ℕ) (k d : ℕ) → IsShortPermutation w → k < length w → get_or w k d ≤ 255
short_letter w k d s l =
    let few = s.few in
    let r = (s.one_line.letters (get_or w k d) (among_get k d w l)).1 in
    omega arith

pub is_code_from : (cs : List ℕ) → ((k : ℕ) → k < length cs → get_or cs k 0 + k + 1 ≤ length cs) → IsCode cs
is_code_from [] h = tt
is_code_from (c ∷ cs) h =
    let first = h 0 (omega arith) in
    (omega arith, is_code_from cs (λ k l. let e = h (suc k) (omega arith) in omega arith))

code_entry : (cs : List ℕ) (k : ℕ) → IsCode cs → k < length cs → get_or cs k 0 + k + 1 ≤ length cs
code_entry [] k i l = absurd (omega arith)
code_entry (c ∷ cs) zero i l = let e = i.0 in omega arith
code_entry (c ∷ cs) (suc k) i l = let e = code_entry cs k i.1 (omega arith) in omega arith

pub no_excess : (cs : List ℕ) (at : ℕ) → IsCode cs → ExceedsFirstAt cs at → ⊥
no_excess cs at i f =
    let e = code_entry cs at i f.inside in
    let x = f.exceeds in
    omega arith
