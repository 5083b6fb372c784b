use Rattle.std.proofs.Common.{◌≡◌, [], ◌∷◌, ◌++◌, map, sym, ap, ◌∙◌, subst, refl, append_assoc}
use Rattle.std.specs.Prelude.{None, Some, Err}
use Rattle.std.specs.List.{IsDistinct}
use Rattle.std.specs.Map.{lookup, keys_of}
use Rattle.std.specs.Map.Iter.{deref_pair}
use Rattle.std.proofs.lemmas.List.{map-append}
use Rattle.std.specs.Option.{unwrap_or}
use Rattle.linear_combinations.specs.Entries.{coefficient, IsSumOf, HasMoreAt, IsRefused}
use Rattle.linear_combinations.proofs.Tables.{lowest-coefficient}
use Rattle.linear_combinations.proofs.Steps.{absent_before, found_next, error_is, sum-before}
use Rattle.linear_combinations.proofs.Steps.{IsSumOf-next, fits-next, fits-zero_right, sum_zero}
use Rattle.linear_combinations.proofs.lin.Lin.add_all.Goals as goal

pub loop-label-init : goal.loop-label-init
loop-label-init g c =
    let eq = g.L.PartialEq.eq in
    let first = c.args.self in
    let neutral : (q : g.row.L.Denot) → g.R.Scalar.sum (coefficient eq g.R.Scalar.zero first q)
    g.R.Scalar.zero ≡ coefficient eq g.R.Scalar.zero first q =
    λ q. sum_zero g.R.Scalar.value g.R.Scalar.zero g.R.Scalar.sum g.met.R.Scalar.same_value
    g.met.R.Scalar.sum_value g.met.R.Scalar.zero_value.0
    (coefficient eq g.R.Scalar.zero first q)
    (lowest-coefficient g.met.L.Eq.laws g.met.L.Label.same_label g.L.Label.is_label g.R.Scalar.value
    g.R.Scalar.zero (g.met.R.Scalar.lowest g.R.Scalar.zero g.met.R.Scalar.zero_value.1) first
    c.is_combination.ensures.combination.proper q) in
    record {
      was = c.is_combination.ensures.combination;
      is = c.is_combination.ensures.combination;
      sums = λ q. sym (neutral q);
      fits = λ q. fits-zero_right g.met.R.Scalar.sum_answers
          (coefficient eq g.R.Scalar.zero first q) g.R.Scalar.zero g.met.R.Scalar.zero_value.0;
      so_far = refl;
    }

pub loop-label-preserved : goal.loop-label-preserved
loop-label-preserved g c =
    let eq = g.L.PartialEq.eq in
    let value = g.R.Scalar.value in
    let laws = g.met.L.Eq.laws in
    let same = g.met.L.Label.same_label in
    let inv = c.loop-label.invariant in
    let first = c.args.self in
    let cur = c.loop-label.self in
    let new = c.add_term.new.self in
    let done = map deref_pair c.loop-label.yielded in
    let rest = c.next.new.self in
    let k = c.in-Some.label.now in
    let v = c.in-Some.c.now in
    let given = c.into_iter-label-iterator.ensures.into_iter_gives in
    let so_far : done ++ (k, v) ∷ rest ≡ c.into_iter-label-iterator.result =
    ap (λ es. done ++ es) (sym c.in-Some.ensures.steps) ∙ inv.so_far in
    let distinct : IsDistinct eq (keys_of (done ++ (k, v) ∷ rest)) =
    subst (λ es. IsDistinct eq (keys_of es)) (sym (so_far ∙ given.0)) given.4 in
    let none : lookup (eq k) done ≡ None = absent_before laws done (k, v) rest distinct in
    let neutral : (q : g.row.L.Denot) → g.R.Scalar.sum (coefficient eq g.R.Scalar.zero first q)
    g.R.Scalar.zero ≡ coefficient eq g.R.Scalar.zero first q =
    λ q. sum_zero g.R.Scalar.value g.R.Scalar.zero g.R.Scalar.sum g.met.R.Scalar.same_value
    g.met.R.Scalar.sum_value g.met.R.Scalar.zero_value.0
    (coefficient eq g.R.Scalar.zero first q)
    (lowest-coefficient g.met.L.Eq.laws g.met.L.Label.same_label g.L.Label.is_label g.R.Scalar.value
    g.R.Scalar.zero (g.met.R.Scalar.lowest g.R.Scalar.zero g.met.R.Scalar.zero_value.1) first
    inv.was.proper q) in
    let zero = g.R.Scalar.zero in
    let sum = g.R.Scalar.sum in
    let says = c.in_ok-add_term.ensures in
    let copied : c.in_ok-copy.field-0 ≡ k = c.in_ok-copy.ensures.ok in
    let more : HasMoreAt eq zero sum cur k v new = subst (λ (l : g.row.L.Denot).
    HasMoreAt eq zero sum cur l v new) copied says.ok in
    let before : coefficient eq zero first k ≡ coefficient eq zero cur k =
    sym (sum-before laws same zero sum done k v none first cur (neutral k) inv.sums) in
    let P = λ (a b : g.row.R.Denot). IsRefused g.R.Scalar.is_held g.R.Scalar.checked_sum a b in
    let here : P (coefficient eq zero first k) v → ⊥ = λ h. let refused = says.large.1
    (subst (λ (l : g.row.L.Denot). P (coefficient eq zero cur l) v) (sym copied)
    (subst (λ (r : g.row.R.Denot). P r v) before h)) in cc in
    let pushed : done ++ (k, v) ∷ [] ≡ map deref_pair (c.loop-label.yielded ++ (
      c.in-Some.label,
      c.in-Some.c,
    ) ∷ []) =
    sym (map-append deref_pair c.loop-label.yielded ((c.in-Some.label, c.in-Some.c) ∷ [])) in
    record {
      was = inv.was;
      is = says.tables.after.combination;
      sums = subst (λ es. IsSumOf eq zero sum first es new) pushed
          (IsSumOf-next laws same zero sum done k v none first cur new (neutral k) inv.sums more);
      fits = λ q. subst (λ es. P (coefficient eq zero first q) (coefficient eq zero es q) → ⊥)
          pushed (fits-next laws same zero sum done k v none P first inv.fits here q);
      so_far = ap (λ es. es ++ rest) (sym pushed) ∙ append_assoc done ((k, v) ∷ []) rest ∙ so_far;
    }

pub returns-in_err-add_term-clause-large : goal.returns-in_err-add_term-clause-large
returns-in_err-add_term-clause-large g c =
    let eq = g.L.PartialEq.eq in
    let value = g.R.Scalar.value in
    let laws = g.met.L.Eq.laws in
    let same = g.met.L.Label.same_label in
    let inv = c.loop-label.invariant in
    let first = c.args.self in
    let cur = c.loop-label.self in
    let done = map deref_pair c.loop-label.yielded in
    let rest = c.next.new.self in
    let k = c.in-Some.label.now in
    let v = c.in-Some.c.now in
    let given = c.into_iter-label-iterator.ensures.into_iter_gives in
    let all : done ++ (k, v) ∷ rest ≡ c.other.inside.table.entries =
    ap (λ es. done ++ es) (sym c.in-Some.ensures.steps) ∙ inv.so_far ∙ given.0 in
    let distinct : IsDistinct eq (keys_of (done ++ (k, v) ∷ rest)) =
    subst (λ es. IsDistinct eq (keys_of es)) (sym all) given.4 in
    let none : lookup (eq k) done ≡ None = absent_before laws done (k, v) rest distinct in
    let neutral : (q : g.row.L.Denot) → g.R.Scalar.sum (coefficient eq g.R.Scalar.zero first q)
    g.R.Scalar.zero ≡ coefficient eq g.R.Scalar.zero first q =
    λ q. sum_zero g.R.Scalar.value g.R.Scalar.zero g.R.Scalar.sum g.met.R.Scalar.same_value
    g.met.R.Scalar.sum_value g.met.R.Scalar.zero_value.0
    (coefficient eq g.R.Scalar.zero first q)
    (lowest-coefficient g.met.L.Eq.laws g.met.L.Label.same_label g.L.Label.is_label g.R.Scalar.value
    g.R.Scalar.zero (g.met.R.Scalar.lowest g.R.Scalar.zero g.met.R.Scalar.zero_value.1) first
    inv.was.proper q) in
    let zero = g.R.Scalar.zero in
    let sum = g.R.Scalar.sum in
    let before : coefficient eq zero cur k ≡ coefficient eq zero first k = sum-before laws same zero
    sum done k v none first cur (neutral k) inv.sums in
    let found : lookup (eq k) c.other.inside.table.entries ≡ Some v =
    ap (lookup (eq k)) (sym all) ∙ found_next laws done (k, v) rest distinct in
    let second : v ≡ coefficient eq zero c.args.other.now k =
    sym (ap (λ es. coefficient eq zero es k) (sym c.other.view_is) ∙ ap (λ o. unwrap_or o zero)
    found) in
    let P = λ (a b : g.row.R.Denot). IsRefused g.R.Scalar.is_held g.R.Scalar.checked_sum a b in
    λ large.
    let refused = subst (λ (l : g.row.L.Denot). P (coefficient eq zero cur l) v)
    c.in_ok-copy.ensures.ok (c.in_err-add_term.ensures.large.0
    (ap Err (error_is _ _ _ c.from_residual-in_err-add_term.ensures.1 large))) in (
      k,
      subst (P (coefficient eq zero first k)) second (subst (λ (r : g.row.R.Denot). P r v) before
          refused),
    )
