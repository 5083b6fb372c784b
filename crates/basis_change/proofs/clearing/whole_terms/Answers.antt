use Rattle.std.proofs.Common.{◌≡◌, ◌++◌, ◌∷◌, [], ℕ, List, pos, map, sym, ◌∙◌, ap, rules}
use Rattle.std.proofs.Common.{subst, Err}
use Rattle.std.specs.Map.Iter.{deref_pair}
use Rattle.std.proofs.lemmas.List.{map-append}
use Rattle.sym_model.specs.Sum.{Among}
use Rattle.sym_model.specs.Expansion.{Fraction, Terms}
use Rattle.sym_model.specs.Polynomial.{Same, coefficient}
use Rattle.monomial_laws.specs.ExpressionTerms.{over}
use Rattle.monomial_laws.proofs.DividedTerms.{labels_of, over-missing, over-append}
use Rattle.linear_combinations.specs.Gains.{Gains}
use Rattle.linear_combinations.proofs.Found.{coefficient_found, gains_same}
use Rattle.linear_combinations.proofs.Gains.{all_pairs, gains_none, next_among, pairs_gain}
use Rattle.linear_combinations.proofs.Gains.{so_far_next}
use Rattle.linear_combinations.proofs.Steps.{all_done, error_is, IsCombination-empty}
use Rattle.sparse_polys.specs.Tables.{IsFractionTable}
use Rattle.sparse_polys.proofs.PartitionTerms.{once_before}
use Rattle.sparse_polys.proofs.WholeLists.{Once-keys, not_refused}
use Rattle.basis_change.proofs.clearing.whole_terms.Goals as goal

missing : (den : ℕ) (all done rest : Terms (List ℕ)) (x : List ℕ × Fraction) → IsFractionTable all
    → done ++ x ∷ rest ≡ all → coefficient (over den done) x.0 ≡ pos 0
missing den all done rest x is e =
    search (rules, over-missing, once_before, labels_of, map-append, Once-keys)

pub loop-label-init : goal.loop-label-init
loop-label-init c = search (rules, gains_none, IsCombination-empty)

pub returns-in_default-clause-large : goal.returns-in_default-clause-large
returns-in_default-clause-large c err =
    let done = map deref_pair c.loop-label.yielded in
    let rest = c.next.new.self in
    let x : List ℕ × Fraction = (c.in-Some.label.now, c.in-Some.c.now) in
    let list =
    all_pairs done rest c.loop-label.label-iterator _ _ c.args.list.now x c.in-Some.ensures.steps
    c.loop-label.invariant.so_far c.into_iter-label-iterator.ensures.into_iter_gives
    c.iter-label-items.ensures.rest in
    (x, subst (λ (es : Terms (List ℕ)). Among x es) list (next_among done x rest), c.in_default.ensures)

pub loop-label-preserved : goal.loop-label-preserved
loop-label-preserved c =
    let inv = c.loop-label.invariant in
    let den = c.args.den in
    let done = map deref_pair c.loop-label.yielded in
    let rest = c.next.new.self in
    let x : List ℕ × Fraction = (c.in-Some.label.now, c.in-Some.c.now) in
    let pushed : done ++ (c.in-Some.label.now, c.in-Some.c.now) ∷ [] ≡ map deref_pair
    (c.loop-label.yielded ++ (c.in-Some.label, c.in-Some.c) ∷ []) =
    sym (map-append deref_pair c.loop-label.yielded ((c.in-Some.label, c.in-Some.c) ∷ [])) in
    record {
      gains =
          pairs_gain (over den) (over-append den) done x [] c.loop-label.terms inv.gains _
          c.add_at_label.new.self pushed
          (subst (λ z. Gains c.loop-label.terms ((c.in-Some.label.now, z) ∷ [])
          c.add_at_label.new.self) c.in-Some-scaled_number.ensures
          c.in_ok-add_at_label.ensures.gains);
      table = c.in_ok-add_at_label.ensures.table;
      so_far = so_far_next done rest c.loop-label.label-iterator _ _ x pushed
          c.in-Some.ensures.steps inv.so_far;
    }

pub returns-in_err-add_at_label-clause-large : goal.returns-in_err-add_at_label-clause-large
returns-in_err-add_at_label-clause-large c err =
    let inv = c.loop-label.invariant in
    let done = map deref_pair c.loop-label.yielded in
    let rest = c.next.new.self in
    let x : List ℕ × Fraction = (c.in-Some.label.now, c.in-Some.c.now) in
    let list =
    all_pairs done rest c.loop-label.label-iterator _ _ c.args.list.now x c.in-Some.ensures.steps
    inv.so_far c.into_iter-label-iterator.ensures.into_iter_gives c.iter-label-items.ensures.rest in
    absurd
    (not_refused _ c.in-Some-scaled_number.number
    (sym (coefficient_found c.loop-label.terms inv.table.distinct x.0)
    ∙ gains_same [] (over c.args.den done) c.loop-label.terms inv.gains x.0
    ∙ missing c.args.den c.args.list.now done rest x c.iter-label-items.ensures.combination list)
    (c.in_err-add_at_label.ensures.refused.0 (ap Err (error_is _ _ _ c.from_residual.ensures.1 err))))

pub returns-clause-value : goal.returns-clause-value
returns-clause-value c =
    let done = map deref_pair c.loop-label.yielded in
    let entries = all_done done c.loop-label.label-iterator _ _ c.in-None.ensures.steps.0
    c.loop-label.invariant.so_far c.into_iter-label-iterator.ensures.into_iter_gives in
    let all : map deref_pair c.loop-label.yielded ≡ c.args.list.now =
    entries ∙ c.iter-label-items.ensures.rest in
    subst (λ (es : Terms (List ℕ)). Same c.loop-label.terms (over c.args.den es)) all
    (gains_same [] (over c.args.den done) c.loop-label.terms c.loop-label.invariant.gains)
