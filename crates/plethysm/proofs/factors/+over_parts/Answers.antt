use Rattle.std.proofs.Common.{◌≡◌, ◌+◌, ◌-◌, ◌*◌, ◌<◌, ◌≤◌, List, ℕ, length, get_or, take, drop}
use Rattle.std.proofs.Common.{sym, subst, ap, arith, Err}
use Rattle.sym_model.specs.Partition.{ArePositive, size}
use Rattle.sym_model.proofs.Parts.{split_first}
use Rattle.sparse_polys.specs.MonomialProducts.{greatest_size}
use Rattle.linear_combinations.proofs.Steps.{if_answered, error_is}
use Rattle.sparse_polys.proofs.Bounds.{greatest-within}
use Rattle.sparse_polys.proofs.WholeLists.{Once-labels}
use Rattle.plethysm.specs.PathSums.{IsProductPast}
use Rattle.plethysm.proofs.FactorLists.{list-dilated, list-none, list-more, within-product}
use Rattle.plethysm.proofs.FactorLists.{within-dilated, large-factor, large-later}
use Rattle.plethysm.proofs.factors.+over_parts.Goals as goal

split_positive : (parts : List ℕ) → 1 ≤ length parts → ArePositive parts → (0 < get_or parts 0 0)
    × ArePositive (take (length parts - 1) (drop 1 parts))
split_positive parts h p = subst ArePositive (sym (split_first parts h)) p

split_size : (parts : List ℕ) (b : ℕ) → 1 ≤ length parts →
    get_or parts 0 0 * b + size (take (length parts - 1) (drop 1 parts)) * b ≡ size parts * b
split_size parts b h =
    let e = ap (λ (p : List ℕ). size p * b) (split_first parts h) in
    omega (arith, e)

pub returns-in_default-clause-value : goal.returns-in_default-clause-value
returns-in_default-clause-value t c =
    if_answered c.single.result c.single.ensures.value
    (λ list e. list-none c.args.inner.now list c.args.parts.now c.in_default.len_below e)

pub returns-in_default-clause-labels : goal.returns-in_default-clause-labels
returns-in_default-clause-labels t c =
    if_answered c.single.result c.single.ensures.labels (λ list w t m. let s = w t m in
    omega (arith, s))

pub over_parts-requires : goal.over_parts-requires
over_parts-requires t c =
    let sizes = split_size c.args.parts.now (greatest_size c.args.inner.now)
    c.in-len1-up.len_at_least in
    let shorter = ap length (split_first c.args.parts.now c.in-len1-up.len_at_least) in (
      omega arith,
      (
        (split_positive c.args.parts.now c.in-len1-up.len_at_least
            c.requires.positive).1,
        omega (arith, c.requires.low),
      ),
    )

pub dilated-requires-clause-positive : goal.dilated-requires-clause-positive
dilated-requires-clause-positive t c =
    (split_positive c.args.parts.now c.in-len1-up.len_at_least c.requires.positive).0

pub dilated-requires-clause-low : goal.dilated-requires-clause-low
dilated-requires-clause-low t c =
    let sizes = split_size c.args.parts.now (greatest_size c.args.inner.now)
    c.in-len1-up.len_at_least in
    omega (arith, c.requires.low)

pub returns-in_err-others-clause-large : goal.returns-in_err-others-clause-large
returns-in_err-others-clause-large t c = λ large K b h.
    subst (IsProductPast K b) (split_first c.args.parts.now c.in-len1-up.len_at_least)
    (large-later c.args.inner.now K b h
    (get_or c.args.parts.now 0 0) (take (length c.args.parts.now - 1) (drop 1 c.args.parts.now))
    (c.in_err-others.ensures.large (ap Err (error_is _ _ _ c.from_residual.ensures.1 large)) K b h))

pub times_whole_in_m-requires : goal.times_whole_in_m-requires
times_whole_in_m-requires t c =
    let k = get_or c.args.parts.now 0 0 in
    let rest = take (length c.args.parts.now - 1) (drop 1 c.args.parts.now) in
    let first =
    greatest-within (k * greatest_size c.args.inner.now) c.in_ok-first.first
    (within-dilated k c.args.inner.now c.in_ok-first.first c.in_ok-first.ensures.table
    c.in_ok-first.ensures.value) in
    let others = greatest-within (size rest * greatest_size c.args.inner.now) c.in_ok-others.others
    c.in_ok-others.ensures.labels in
    let sizes = split_size c.args.parts.now (greatest_size c.args.inner.now)
    c.in-len1-up.len_at_least in
    omega (arith, c.requires.low)

pub returns-clause-labels : goal.returns-clause-labels
returns-clause-labels t c =
    let k = get_or c.args.parts.now 0 0 in
    let rest = take (length c.args.parts.now - 1) (drop 1 c.args.parts.now) in
    let sizes = split_size c.args.parts.now (greatest_size c.args.inner.now)
    c.in-len1-up.len_at_least in
    if_answered c.times_whole_in_m.result c.times_whole_in_m.ensures.labels
    (λ list s. within-product c.in_ok-first.first c.in_ok-others.others list
    (k * greatest_size c.args.inner.now) (size rest * greatest_size c.args.inner.now)
    (size c.args.parts.now * greatest_size c.args.inner.now)
    (within-dilated k c.args.inner.now c.in_ok-first.first c.in_ok-first.ensures.table
    c.in_ok-first.ensures.value) c.in_ok-others.ensures.labels (omega arith) s)

pub returns-clause-value : goal.returns-clause-value
returns-clause-value t c =
    let k = get_or c.args.parts.now 0 0 in
    let rest = take (length c.args.parts.now - 1) (drop 1 c.args.parts.now) in
    let p = split_positive c.args.parts.now c.in-len1-up.len_at_least c.requires.positive in
    if_answered c.times_whole_in_m.result c.times_whole_in_m.ensures.coefficients
    (λ list e. list-more c.args.inner.now k rest c.args.parts.now c.in_ok-first.first
    c.in_ok-others.others list (split_first c.args.parts.now c.in-len1-up.len_at_least)
    (list-dilated k c.args.inner.now c.in_ok-first.first p.0 c.in_ok-first.ensures.value)
    c.in_ok-others.ensures.value e)

pub returns-clause-large : goal.returns-clause-large
returns-clause-large t c = λ large K b h.
    let k = get_or c.args.parts.now 0 0 in
    let rest = take (length c.args.parts.now - 1) (drop 1 c.args.parts.now) in
    let p = split_positive c.args.parts.now c.in-len1-up.len_at_least c.requires.positive in
    subst (IsProductPast K b) (split_first c.args.parts.now c.in-len1-up.len_at_least)
    (large-factor c.args.inner.now K b h k rest c.in_ok-first.first c.in_ok-others.others p.0 p.1
    (Once-labels c.in_ok-first.first c.in_ok-first.ensures.table)
    (Once-labels c.in_ok-others.others c.in_ok-others.ensures.table)
    (list-dilated k c.args.inner.now c.in_ok-first.first p.0 c.in_ok-first.ensures.value)
    c.in_ok-others.ensures.value (c.times_whole_in_m.ensures.large large))
