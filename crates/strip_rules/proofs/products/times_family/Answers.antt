use Rattle.std.proofs.Common.{◌≡◌, ℕ, ◌+◌, [], ◌∷◌, ◌++◌, List, map, sym, ◌∙◌, ap, subst, rules}
use Rattle.std.specs.Prelude.{Err, nat_eq}
use Rattle.std.specs.Cmp.Lexicographic.{pointwise}
use Rattle.std.specs.Map.Iter.{deref_pair}
use Rattle.std.proofs.lemmas.List.{map-append}
use Rattle.sym_model.specs.Sum.{Among}
use Rattle.sym_model.specs.Canonical.{is_label}
use Rattle.sym_model.specs.Expansion.{Terms, denominators}
use Rattle.sym_model.specs.ListWeight.{common_denominator}
use Rattle.linear_combinations.proofs.Cleared.{denominator_among}
use Rattle.linear_combinations.proofs.Gains.{all_pairs, so_far_next}
use Rattle.linear_combinations.proofs.Steps.{all_done, error_is}
use Rattle.sparse_polys.specs.Combination.{terms_of}
use Rattle.sparse_polys.specs.MonomialProducts.{greatest_size}
use Rattle.sparse_polys.proofs.Expansions.{common-denominators, least-denominators}
use Rattle.sparse_polys.proofs.Steps.{among-next}
use Rattle.sparse_polys.proofs.ValueLists.{combination_values}
use Rattle.sparse_polys.specs.Families.{polynomial_of}
use Rattle.strip_rules.proofs.TermProducts.{list_value, expansion}
use Rattle.strip_rules.proofs.ListProducts.{AddsList, AddsList-none, AddsList-next, refused_large}
use Rattle.strip_rules.proofs.ListProducts.{list_large, list_table, list_divides, list_sums}
use Rattle.strip_rules.proofs.ListProducts.{list_grows, list_small, weight_within, within_values}
use Rattle.strip_rules.proofs.ListProducts.{values_within, entry_term, pair_here}
use Rattle.strip_rules.proofs.products.times_family.Goals as goal

pub loop-label-init : goal.loop-label-init
loop-label-init g c = search (rules, AddsList-none)

pub add_strips-requires-clause-partition : goal.add_strips-requires-clause-partition
add_strips-requires-clause-partition g c =
    (entry_term g.R.Scalar.value _ c.iter-label-items.ensures.combination _
    (pair_here (map deref_pair c.loop-label.yielded) _ _ _ _ _ _ c.in-Some.ensures.steps
    c.loop-label.invariant.so_far
    c.into_iter-label-iterator.ensures.into_iter_gives c.iter-label-items.ensures.rest)).0

pub add_strips-requires-clause-lowest : goal.add_strips-requires-clause-lowest
add_strips-requires-clause-lowest g c =
    (entry_term g.R.Scalar.value _ c.iter-label-items.ensures.combination _
    (pair_here (map deref_pair c.loop-label.yielded) _ _ _ _ _ _ c.in-Some.ensures.steps
    c.loop-label.invariant.so_far
    c.into_iter-label-iterator.ensures.into_iter_gives c.iter-label-items.ensures.rest)).1

pub add_strips-requires-clause-cells : goal.add_strips-requires-clause-cells
add_strips-requires-clause-cells g c =
    (c.requires.room _ (pair_here (map deref_pair c.loop-label.yielded) _ _ _ _ _ _
    c.in-Some.ensures.steps c.loop-label.invariant.so_far
    c.into_iter-label-iterator.ensures.into_iter_gives c.iter-label-items.ensures.rest)).0

pub add_strips-requires-clause-rows : goal.add_strips-requires-clause-rows
add_strips-requires-clause-rows g c =
    (c.requires.room _ (pair_here (map deref_pair c.loop-label.yielded) _ _ _ _ _ _
    c.in-Some.ensures.steps c.loop-label.invariant.so_far
    c.into_iter-label-iterator.ensures.into_iter_gives c.iter-label-items.ensures.rest)).1

pub loop-label-preserved : goal.loop-label-preserved
loop-label-preserved g c =
    let value = g.R.Scalar.value in
    let done = map deref_pair c.loop-label.yielded in
    let rest = c.next.new.self in
    let label = c.in-Some.label.now in
    let v = c.in-Some.c.now in
    let list = c.args.list.now in
    let whole =
    all_pairs done rest c.loop-label.label-iterator _ _ list (label, v)
    c.in-Some.ensures.steps c.loop-label.invariant.so_far
    c.into_iter-label-iterator.ensures.into_iter_gives c.iter-label-items.ensures.rest in
    let among = subst (Among (label, value v)) (ap (terms_of value) whole)
    (among-next value done label v rest) in
    let k = c.args.k in
    let f = polynomial_of c.args.family k in
    let cur = terms_of value c.loop-label.sum in
    let new = terms_of value c.add_strips.new.sum in
    let made = c.in_ok-add_strips.ensures.ok in
    let pushed : done ++ (label, v) ∷ [] ≡ map deref_pair (c.loop-label.yielded ++ (
      c.in-Some.label,
      c.in-Some.c,
    ) ∷ []) =
    sym (map-append deref_pair c.loop-label.yielded ((c.in-Some.label, c.in-Some.c) ∷ [])) in
    record {
      sums =
          λ q common.
          subst (λ es. AddsList f k q (terms_of value list) (terms_of value es) new) pushed
          (AddsList-next value f k q done (terms_of value list) cur label v
          (c.loop-label.invariant.sums q common) made.0 made.1 new among
          (denominator_among common (label, value v) among)
          made.2);
      so_far = so_far_next done rest c.loop-label.label-iterator _ _ (label, v) pushed
          c.in-Some.ensures.steps c.loop-label.invariant.so_far;
    }

pub returns-in_err-add_strips-clause-large : goal.returns-in_err-add_strips-clause-large
returns-in_err-add_strips-clause-large g c err =
    let value = g.R.Scalar.value in
    let done = map deref_pair c.loop-label.yielded in
    let rest = c.next.new.self in
    let label = c.in-Some.label.now in
    let v = c.in-Some.c.now in
    let list = c.args.list.now in
    let whole =
    all_pairs done rest c.loop-label.label-iterator _ _ list (label, v)
    c.in-Some.ensures.steps c.loop-label.invariant.so_far
    c.into_iter-label-iterator.ensures.into_iter_gives c.iter-label-items.ensures.rest in
    let among = subst (Among (label, value v)) (ap (terms_of value) whole)
    (among-next value done label v rest) in
    let is = combination_values value (pointwise nat_eq) is_label list
    c.iter-label-items.ensures.combination in
    let k = c.args.k in
    let terms = terms_of value list in
    let q = common_denominator terms in
    let common = least-denominators terms is in
    let refused = c.in_err-add_strips.ensures.large
    (ap Err (error_is _ _ _ c.from_residual.ensures.1 err)) in
    list_large terms is
    (λ small.
    refused_large value (polynomial_of c.args.family k) k q done terms
    (terms_of value c.loop-label.sum) label v (c.loop-label.invariant.sums q common)
    refused.0 refused.1 rest (ap (terms_of value) whole)
    (denominator_among common (label, value v) among)
    small refused.2)

pub returns-clause-value : goal.returns-clause-value
returns-clause-value g c n =
    let value = g.R.Scalar.value in
    let list = terms_of value c.args.list.now in
    let sum = terms_of value c.loop-label.sum in
    let k = c.args.k in
    let f = polynomial_of c.args.family k in
    let done = map deref_pair c.loop-label.yielded in
    let is = combination_values value (pointwise nat_eq) is_label c.args.list.now
    c.iter-label-items.ensures.combination in
    let all : terms_of value done ≡ list =
    ap (terms_of value)
    (all_done done c.loop-label.label-iterator _ _ c.in-None.ensures.steps.0
    c.loop-label.invariant.so_far c.into_iter-label-iterator.ensures.into_iter_gives
    ∙ c.iter-label-items.ensures.rest) in
    let q = denominators list in
    let common = common-denominators list is in
    let made = subst (λ (l : Terms (List ℕ)). AddsList f k q list l sum) all
    (c.loop-label.invariant.sums q common) in
    expansion sum q n _ (list_table common.positive made) (list_divides common.positive made)
    (λ φ. list_sums common.positive made n φ ∙ list_value (f n) n list φ)

pub returns-clause-labels : goal.returns-clause-labels
returns-clause-labels g c cells lengths within =
    let value = g.R.Scalar.value in
    let list = terms_of value c.args.list.now in
    let q = denominators list in
    let common = common-denominators list (combination_values value (pointwise nat_eq) is_label
    c.args.list.now c.iter-label-items.ensures.combination) in
    values_within value (cells + c.args.k) (lengths + c.args.k) c.loop-label.sum
    (list_small common.positive (c.loop-label.invariant.sums q common) cells lengths
    (within_values value cells lengths c.args.list.now within))

pub returns-clause-weight : goal.returns-clause-weight
returns-clause-weight g c =
    let value = g.R.Scalar.value in
    let list = terms_of value c.args.list.now in
    let sum = terms_of value c.loop-label.sum in
    let k = c.args.k in
    let f = polynomial_of c.args.family k in
    let done = map deref_pair c.loop-label.yielded in
    let is = combination_values value (pointwise nat_eq) is_label c.args.list.now
    c.iter-label-items.ensures.combination in
    let all : terms_of value done ≡ list =
    ap (terms_of value)
    (all_done done c.loop-label.label-iterator _ _ c.in-None.ensures.steps.0
    c.loop-label.invariant.so_far c.into_iter-label-iterator.ensures.into_iter_gives
    ∙ c.iter-label-items.ensures.rest) in
    let q = common_denominator list in
    let common = least-denominators list is in
    let made = subst (λ (l : Terms (List ℕ)). AddsList f k q list l sum) all
    (c.loop-label.invariant.sums q common) in
    weight_within list sum (greatest_size list) k is (list_table common.positive made)
    (list_divides common.positive made)
    (list_grows common.positive made)
