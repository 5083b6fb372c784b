use Rattle.std.proofs.Common.{◌≡◌, true, false, get_or, arith, sym, ap, ◌∙◌, subst}
use Rattle.std.proofs.lemmas.Bool.{and_from}
use Rattle.std.specs.List.{IsDistinct}
use Rattle.std.specs.List.Sorted.{IsPermutation}
use Rattle.std.specs.Map.{keys_of}
use Rattle.std.specs.Ordering.{is_lt}
use Rattle.std.specs.Option.{unwrap_or}
use Rattle.linear_combinations.specs.Entries.{coefficient, are_terms, is_ordered, AreHeld}
use Rattle.linear_combinations.specs.Entries.{IsCombination}
use Rattle.linear_combinations.proofs.Tables.{held_same, are_terms-found, is_term-found}
use Rattle.linear_combinations.proofs.Sorted.{is_ordered-sorted, distinct-moved, lookup-moved}
use Rattle.linear_combinations.proofs.lin.Lin.sorted_terms.Goals as goal

pub from_sorted-requires : goal.from_sorted-requires
from_sorted-requires g c =
    let value = g.R.Scalar.value in
    let is_label = g.L.Label.is_label in
    let laws = g.met.L.Eq.laws in
    let same = g.met.L.Label.same_label in
    let old = c.self.inside.table.entries in
    let new = c.sort_labels.new.pairs.items in
    let moved : IsPermutation old new = subst (λ es. IsPermutation es new) c.in_ok-pairs.ensures
    c.sort_labels.ensures.permutation in
    let was : IsDistinct g.L.PartialEq.eq (keys_of old) = c.self.invariant.combination.distinct in
    let distinct = distinct-moved laws same old new moved was in
    let proper : are_terms value is_label new ≡ true =
    are_terms-found laws same is_label value new distinct
    (λ k v found. is_term-found laws same is_label value old c.self.invariant.combination.proper k v
    (sym (lookup-moved laws same old new moved was k) ∙ found)) in
    let sorted : is_ordered g.L.Label.order new ≡ true =
    is_ordered-sorted laws g.met.L.Label.order_total g.met.L.Label.order_equal value new distinct
    proper
    (λ i j d e h. subst (λ n. is_lt (g.L.Label.order (get_or new n d).0 (get_or new i d).0) ≡ false)
    (sym e) (c.sort_labels.ensures.sorted i d (omega arith) (omega arith))) in
    and_from _ _ sorted proper

pub returns-clause-same : goal.returns-clause-same
returns-clause-same g c =
    let eq = g.L.PartialEq.eq in
    let value = g.R.Scalar.value in
    let old = c.self.inside.table.entries in
    let new = c.sort_labels.new.pairs.items in
    let moved : IsPermutation old new = subst (λ es. IsPermutation es new) c.in_ok-pairs.ensures
    c.sort_labels.ensures.permutation in
    let was : IsDistinct eq (keys_of old) = c.self.invariant.combination.distinct in
    λ label. ap (λ terms. coefficient eq g.R.Scalar.zero terms label) c.from_sorted.ensures
    ∙ ap (λ o. unwrap_or o g.R.Scalar.zero) (lookup-moved g.met.L.Eq.laws g.met.L.Label.same_label
    old new moved was label)
    ∙ ap (λ terms. coefficient eq g.R.Scalar.zero terms label) c.self.view_is

pub returns-clause-combination : goal.returns-clause-combination
returns-clause-combination g c =
    let eq = g.L.PartialEq.eq in
    let value = g.R.Scalar.value in
    let is_label = g.L.Label.is_label in
    let laws = g.met.L.Eq.laws in
    let same = g.met.L.Label.same_label in
    let old = c.self.inside.table.entries in
    let new = c.sort_labels.new.pairs.items in
    let moved : IsPermutation old new = subst (λ es. IsPermutation es new) c.in_ok-pairs.ensures
    c.sort_labels.ensures.permutation in
    let was : IsDistinct eq (keys_of old) = c.self.invariant.combination.distinct in
    let distinct = distinct-moved laws same old new moved was in
    let proper : are_terms value is_label new ≡ true =
    are_terms-found laws same is_label value new distinct
    (λ k v found. is_term-found laws same is_label value old c.self.invariant.combination.proper k v
    (sym (lookup-moved laws same old new moved was k) ∙ found)) in
    let all : IsCombination eq is_label value new = record { distinct = distinct; proper = proper }
    in
    subst (IsCombination eq is_label value) (sym c.from_sorted.ensures) all

pub returns-clause-was : goal.returns-clause-was
returns-clause-was g c = subst (IsCombination g.L.PartialEq.eq g.L.Label.is_label g.R.Scalar.value)
    c.self.view_is c.self.invariant.combination

pub returns-clause-held : goal.returns-clause-held
returns-clause-held g c =
    held_same g.L.PartialEq.eq g.R.Scalar.zero g.R.Scalar.is_held c.args.self c.from_sorted.result
    (returns-clause-same g c)
    (subst (AreHeld g.L.PartialEq.eq g.R.Scalar.zero g.R.Scalar.is_held) c.self.view_is
    c.self.invariant.held)
