-- Bounds for the lists of terms of waiting permutations, that is, of those that the transition rule has not yet replaced. A *share* is a function of
-- a permutation and a label that no step of the rule increases (`IsShare`); the *extent* of a label is a number that each step increases by at most
-- 1.
use Rattle.std.specs.Prelude.{◌≡◌, ℕ, ◌+◌, ◌*◌, ◌^◌, ◌<◌, ◌≤◌, max, nat_abs, ℤ, ◌+ℤ◌, List, [], ◌∷◌}
use Rattle.std.specs.Prelude.{length}
use Rattle.sym_model.specs.PastLimit.{value_at_ones}
use Rattle.sym_model.specs.Permutation.{IsTransition, times_swap, covers_down}
use Rattle.sym_model.specs.PlaceOrders.{inversions}
use Rattle.sym_model.specs.Schubert as polynomials
use Rattle.linear_combinations.specs.Gains.{WholeTermsOf, over, mass, HaveLabels}
use Rattle.transition_walk.specs.Todo.{load, AreInOrder}
use Rattle.transition_walk.specs.Transitions.{IsShort, weight}
use Rattle.transition_walk.specs.Waiting.{WithList, value_of, growth, IsWaiting}
use Rattle.sym_model.specs.Sum.{sum_by}
use Rattle.linear_combinations.specs.Gains.{weighed}
use Rattle.transition_walk.specs.Waiting.{AreWaiting}

-- the label satisfies `takes`: a factor can be applied to it. The image of the label is a list of terms whose labels
-- have an extent of at most k + 1 and whose coefficients have absolute values with a sum of at most k + extra.
pub record GrowsBy {L : Type 0} (extent : L → ℕ) (takes : L → Type 0) (image : L → WholeTermsOf L)
    (k extra : ℕ) (label : L) : Type 0 where
  pub taken : takes label
  pub labels : HaveLabels (λ x. extent x ≤ k + 1) (image label)
  pub few : mass (image label) ≤ k + extra

-- each term of the list has the label `label`, and the sum of the absolute values of its coefficients is at most 1
pub record IsSingle {L : Type 0} (label : L) (list : WholeTermsOf L) : Type 0 where
  pub one : (f : L → ℕ) → weighed f list ≤ f label
  pub labels : HaveLabels (λ x. x ≡ label) list

-- max(length of w, extent) + l, with l the number of inversions of w: a bound for the extent of each label while the
-- transition rule expands S_w times a label of the given extent
abbrev pub top_of : List ℕ → ℕ → ℕ
top_of w extent = max (length w) extent + inversions w

-- `share w label` is a bound that no step of the transition rule increases: if the rule replaces w by v = w·t_rs and
-- the covers v·t_ir, the sum of |c|·share(v, x) over the terms (x, c) of the image of the label, plus the shares of
-- the label at these covers, is at most share(w, label). This is asked for w with at most n and at most 255 letters,
-- n + l ≤ top and extent label + l ≤ top, with l the number of inversions of w
pub record IsShare {L : Type 0} (image : ℕ → List ℕ → L → WholeTermsOf L) (extent : L → ℕ)
    (n top : ℕ) (share : List ℕ → L → ℕ) : Type 0 where
  pub falls : (r s : ℕ) (w : List ℕ) (label : L) → IsShort n w → length w ≤ 255 → IsTransition w r s
      → n + inversions w ≤ top → extent label + inversions w ≤ top
      → weighed (share (times_swap r s w)) (image r (times_swap r s w) label)
      + sum_by (λ (x : List ℕ). share x label) (covers_down r (times_swap r s w)) ≤ share w label

-- max(length of w, extent of the label) + l ≤ most + 1, with l the number of inversions of w, so that no factor is
-- applied to a label of an extent over `most` while the transition rule expands S_w times the label
abbrev pub StaysWithin : {L : Type 0} → (L → ℕ) → ℕ → List ℕ → L → Type 0
StaysWithin extent most w label = top_of w (extent label) ≤ most + 1

-- for every share (`IsShare`: no step of the transition rule increases it), the sum of |c|·share(id, x) over the
-- terms (x, c) of the list is at most share(w, label); id is the identity
abbrev pub KeepsShares : {L : Type 0} → (ℕ → List ℕ → L → WholeTermsOf L) → (L → ℕ) → List ℕ → L
    → WholeTermsOf L → Type 0
KeepsShares {L} image extent w label list =
    (share : List ℕ → L → ℕ) → IsShare image extent (length w) (top_of w (extent label)) share
    → weighed (share (1 ∷ [])) list ≤ share w label

-- OVERFLOW: there are a permutation with at most n letters and a label such that `whole share` is at least 2^127 for
-- every share (`IsShare`) that is at least 1 at this permutation and label
pub record SharesOverflow {L : Type 0} (image : ℕ → List ℕ → L → WholeTermsOf L) (extent : L → ℕ)
    (n top : ℕ)
    (whole : (List ℕ → L → ℕ) → ℕ) : Type 0 where
  pub perm : List ℕ
  pub label : L
  pub short : IsShort n perm
  pub large : (share : List ℕ → L → ℕ) → IsShare image extent n top share → 1 ≤ share perm label
      → 2 ^ 127 ≤ whole share

-- OVERFLOW: there are a permutation with at most as many letters as w and a label x such that `share w label` is at
-- least 2^127 for every share (`IsShare`) that is at least 1 at this permutation and x
abbrev pub OverflowsFrom : {L : Type 0} → (ℕ → List ℕ → L → WholeTermsOf L) → (L → ℕ) → List ℕ → L
    → Type 0
OverflowsFrom image extent w label =
    SharesOverflow image extent (length w) (top_of w (extent label)) (λ share. share w label)

-- `limit_of w extent extra`: S_w(1, .., 1)·(m + l + extra)^l, with S_w the Schubert polynomial, m = max(length of w,
-- extent), and l the number of inversions of w; it bounds all coefficients while the transition rule expands S_w
-- times a label of this extent
abbrev pub limit_of : List ℕ → ℕ → ℕ → ℕ
limit_of w extent extra =
    nat_abs (value_at_ones (polynomials.schubert w)) * (top_of w extent + extra) ^ inversions w

-- the sum of |c|·share(v, x) over all terms (x, c): those of `sum` with v the identity, those of the list of each
-- waiting permutation v of `todo`, and those of the list of w with v = w
abbrev pub all_of : {L : Type 0} → WholeTermsOf L → List (WithList L) → WithList L
    → (List ℕ → L → ℕ) → ℕ
all_of sum todo w share =
    weighed (share (1 ∷ [])) sum + growth share todo + weighed (share w.perm) w.factor

-- one step of the transition rule for w, by which `sum` becomes `sum2`, and `todo` becomes `todo2`: the sum of the products of all terms stays the
-- same, the sum of their shares does not increase, the waiting lists keep their bounds and their order, and the sum of the weights of the waiting
-- permutations, w included, decreases
pub record WorksOff {L : Type 0} (product : ℕ → (List ℕ → ℤ) → List ℕ → L → ℤ)
    (image : ℕ → List ℕ → L → WholeTermsOf L) (extent : L → ℕ) (most : ℕ)
    (sum : WholeTermsOf L) (todo : List (WithList L)) (w : WithList L) (sum2 : WholeTermsOf L)
    (todo2 : List (WithList L)) : Type 0 where
  pub value : (n : ℕ) (φ : List ℕ → ℤ)
      → over (product n φ (1 ∷ [])) sum2 +ℤ value_of (product n φ) todo2
      ≡ over (product n φ (1 ∷ [])) sum +ℤ value_of (product n φ) todo
      +ℤ over (product n φ w.perm) w.factor
  pub grows : (n top : ℕ) (share : List ℕ → L → ℕ) → IsWaiting extent n top w
      → IsShare image extent n top share
      → weighed (share (1 ∷ [])) sum2 + growth share todo2 ≤ all_of sum todo w share
  pub waiting : (n top : ℕ) → IsWaiting extent n top w → top ≤ most + 1
      → AreWaiting extent n top todo → AreWaiting extent n top todo2
  pub ordered : AreInOrder todo → AreInOrder todo2
  pub lighter : load todo2 < load todo + weight w.perm

-- OVERFLOW: for all n and top with top ≤ most + 1 that bound w (`IsWaiting`), there are a permutation with at most n
-- letters and a label such that the shares of `sum`, of the waiting lists and of w have a sum of at least 2^127
-- (`all_of`) for every share (`IsShare`) that is at least 1 at this permutation and label
abbrev pub OverflowsAt : {L : Type 0} → (ℕ → List ℕ → L → WholeTermsOf L) → (L → ℕ) → ℕ
    → WholeTermsOf L → List (WithList L) → WithList L → Type 0
OverflowsAt image extent most sum todo w =
    (n top : ℕ) → IsWaiting extent n top w → top ≤ most + 1
    → SharesOverflow image extent n top (all_of sum todo w)
