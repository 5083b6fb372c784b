-- Waiting permutations, that is, those that the transition rule has not yet replaced, each with the list of terms by
-- which its Schubert polynomial is multiplied; and terms added to these lists.
use Rattle.std.specs.Prelude.{◌≡◌, ℕ, ◌+◌, ◌^◌, ◌≤◌, ℤ, ◌+ℤ◌, Bool, List, [], ◌∷◌, ◌++◌}
use Rattle.std.specs.Prelude.{length}
use Rattle.sym_model.specs.Permutation.{times_swap, covers_down}
use Rattle.sym_model.specs.PlaceOrders.{inversions}
use Rattle.sym_model.specs.Sum.{total, Among}
use Rattle.linear_combinations.specs.Gains.{WholeTermsOf, over, replaced, HaveLabels, RefusesFirst}
use Rattle.transition_walk.specs.declared.todo.Waiting.{Waiting}
use Rattle.sym_model.specs.Sum.{sum_by}
use Rattle.linear_combinations.specs.Gains.{weighed}
use Rattle.transition_walk.specs.Todo.{load, AreInOrder}

-- a permutation with the list of terms by which its Schubert polynomial is multiplied
abbrev pub WithList : Type 0 → Type 0
WithList L = Waiting (WholeTermsOf L)

-- the sum of c·φ(w, label) over the terms (label, c) in the list of each waiting permutation w
abbrev pub value_of : {L : Type 0} → (List ℕ → L → ℤ) → List (WithList L) → ℤ
value_of {L} φ todo = total (λ (w : WithList L). over (φ w.perm) w.factor) todo

-- the sum of |c|·share(w, label) over the terms (label, c) in the list of each waiting permutation w
abbrev pub growth : {L : Type 0} → (List ℕ → L → ℕ) → List (WithList L) → ℕ
growth {L} share todo = sum_by (λ (w : WithList L). weighed (share w.perm) w.factor) todo

-- the permutation of w has at most n letters; with l its number of inversions, n + l ≤ top, and extent x + l ≤ top
-- for each label x of the list of w
pub record IsWaiting {L : Type 0} (extent : L → ℕ) (n top : ℕ) (w : WithList L) : Type 0 where
  pub few : length w.perm ≤ n
  pub inside : n + inversions w.perm ≤ top
  pub labels : HaveLabels (λ label. extent label + inversions w.perm ≤ top) w.factor

abbrev pub AreWaiting : {L : Type 0} → (L → ℕ) → ℕ → ℕ → List (WithList L) → Type 0
AreWaiting {L} extent n top todo = (w : WithList L) → Among w todo → IsWaiting extent n top w

-- an entry for each permutation of a list, all with the same list of terms
abbrev pub each_waits : {L : Type 0} → WholeTermsOf L → List (List ℕ) → List (WithList L)
each_waits list [] = []
each_waits list (x ∷ xs) = (record { perm = x; factor = list }) ∷ each_waits list xs

-- the entries by which the transition rule at r and s replaces w. With v the permutation w·t_rs, they are an entry for
-- each cover v·t_ir, with the list of w; and an entry for v, with the list of w in which each label is replaced by its
-- image under the factor (`image`).
abbrev pub stepped : {L : Type 0} → (List ℕ → L → WholeTermsOf L) → ℕ → ℕ → WithList L
    → List (WithList L)
stepped image r s w = each_waits w.factor (covers_down r (times_swap r s w.perm))
    ++ (record {
      perm = times_swap r s w.perm;
      factor = replaced (image (times_swap r s w.perm)) w.factor;
    }) ∷ []

-- VALUE: the entries of `more` have been added to `old`, which gives `new`. For each φ, the value of `new` is the sum of the values of `old` and
-- `more` (`value_of`). For each function share, `growth share new` is at most the sum of `growth` of `old` and `more`, and `load new` is at most the
-- sum of their loads. The bounds (`AreWaiting`) and the order of `old` are kept
pub record Joins {L : Type 0} (old more new : List (WithList L)) : Type 0 where
  pub value : (φ : List ℕ → L → ℤ) → value_of φ new ≡ value_of φ old +ℤ value_of φ more
  pub grows : (share : List ℕ → L → ℕ) → growth share new ≤ growth share old + growth share more
  pub waiting : (extent : L → ℕ) (n top : ℕ) → AreWaiting extent n top old
      → AreWaiting extent n top more → AreWaiting extent n top new
  pub ordered : AreInOrder old → AreInOrder new
  pub loaded : load new ≤ load old + load more

-- OVERFLOW: there are an entry of `more` and a label such that `growth share old` + `growth share more` is at least 2^127 for every function share
-- that is at least 1 at the permutation of this entry and this label
pub record WaitingOverflows {L : Type 0} (old more : List (WithList L)) : Type 0 where
  pub entry : WithList L
  pub added : Among entry more
  pub label : L
  pub large : (share : List ℕ → L → ℕ) → 1 ≤ share entry.perm label
      → 2 ^ 127 ≤ growth share old + growth share more

-- REFUSAL: `old` is in order and has an entry with the permutation of `more`, and the list of this entry refuses the first term of the list of
-- `more`: the sum of the coefficients at its label does not fit i128 (`RefusesFirst`)
pub record WaitingRefuses {L : Type 0} (eq : L → L → Bool) (old : List (WithList L))
    (more : WithList L) : Type 0 where
  pub ordered : AreInOrder old
  pub entry : WithList L
  pub waits : Among entry old
  pub same : entry.perm ≡ more.perm
  pub refuses : RefusesFirst eq entry.factor more.factor
