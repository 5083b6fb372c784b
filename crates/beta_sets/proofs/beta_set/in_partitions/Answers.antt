use Rattle.std.proofs.Common.{◌≡◌, ◌++◌, ◌∷◌, [], sym, ◌∙◌, ap, subst, refl, Err, List, ℕ, ℤ}
use Rattle.std.proofs.Common.{append_assoc, append-nil, arith, inl}
use Rattle.std.specs.Vec.Iter.{into_iter_items}
use Rattle.std.proofs.lemmas.Grind.{common_steps}
use Rattle.std.proofs.lemmas.List.{map-append}
use Rattle.fraction_laws.specs.Fractions.{lowest_terms}
use Rattle.sym_model.specs.Expansion.{Fraction}
use Rattle.sym_model.specs.LabelLimits.{is_label}
use Rattle.sym_model.specs.Sum.{Among}
use Rattle.sym_model.proofs.Sums.{Among-append_right}
use Rattle.sym_model.specs.WholeTerms.{WholeTermsOf}
use Rattle.sparse_polys.specs.Combination.{HasMoreAt}
use Rattle.sparse_polys.proofs.Steps.{error_is, IsCombination-empty}
use Rattle.sparse_polys.specs.Tables.{equal, found, IsFractionTable}
use Rattle.sparse_polys.proofs.Quotients.{Quotients, Quotients-none, Quotients-next}
use Rattle.sparse_polys.proofs.Quotients.{not_refused_quotient}
use Rattle.beta_sets.specs.BetaSets.{shape, shapes, IsInRows}
use Rattle.beta_sets.proofs.SetNumbers.{rows_limits}
use Rattle.beta_sets.proofs.WrittenSets.{coefficient-before, same_quotients, same_labels}
use Rattle.beta_sets.proofs.beta_set.in_partitions.Goals as goal

pub loop-set-init : goal.loop-set-init
loop-set-init c = record {
  quotients = subst (λ terms. Quotients c.args.den terms []) (sym c.new-answer.ensures)
      (Quotients-none c.args.den c.requires.den.0);
  table = subst IsFractionTable (sym c.new-answer.ensures) (IsCombination-empty equal is_label);
  so_far = refl;
}

pub partition-requires : goal.partition-requires
partition-requires c =
    let terms = c.in_ok-items.items in
    let k = c.in-Some.set in
    let v = c.in-Some.c in
    let rest = into_iter_items c.next.new.self in
    let all : c.loop-set.yielded ++ (k, v) ∷ rest ≡ terms =
    ap (λ (xs : WholeTermsOf ℕ). c.loop-set.yielded ++ xs) (sym c.in-Some.ensures.steps.0) ∙ c.loop-set.invariant.so_far
    ∙ c.into_iter-set-iterator.ensures.into_iter_gives in
    let e = c.in_ok-items.ensures in
    rows_limits k
    (same_labels (IsInRows 20 20) c.args.list terms e.was e.combination e.same c.requires.within (k, v)
    (subst (Among (k, v)) all (Among-append_right (k, v) c.loop-set.yielded ((k, v) ∷ rest) (inl refl))))

pub loop-set-preserved : goal.loop-set-preserved
loop-set-preserved c =
    let done = c.loop-set.yielded in
    let k = c.in-Some.set in
    let v = c.in-Some.c in
    let old = c.loop-set.answer in
    let new = c.add_term.new.self in
    let more : HasMoreAt equal old (shape k) (lowest_terms v c.args.den) new =
    subst (λ (r : Fraction). HasMoreAt equal old (shape k) r new) c.quotient_of.ensures
    (subst (λ (l : List ℕ). HasMoreAt equal old l c.quotient_of.result new) c.in_ok-partition.ensures
    c.in_ok-add_term.ensures.ok) in
    record {
      quotients = subst (Quotients c.args.den new) (sym (map-append (λ (t : ℕ × ℤ). (shape t.0, t.1)) done ((k, v) ∷ [])))
          (Quotients-next c.args.den old new (shapes done) (shape k) v c.requires.den.0 c.loop-set.invariant.quotients more);
      table = c.in_ok-add_term.ensures.tables.after.combination;
      so_far =
          append_assoc done ((k, v) ∷ []) (into_iter_items c.next.new.self)
          ∙ ap (λ (xs : WholeTermsOf ℕ). done ++ xs) (sym c.in-Some.ensures.steps.0)
          ∙ c.loop-set.invariant.so_far;
    }

pub returns-in_err-add_term-clause-small : goal.returns-in_err-add_term-clause-small
returns-in_err-add_term-clause-small c = λ large.
    let terms = c.in_ok-items.items in
    let done = c.loop-set.yielded in
    let k = c.in-Some.set in
    let v = c.in-Some.c in
    let rest = into_iter_items c.next.new.self in
    let all : done ++ (k, v) ∷ rest ≡ terms =
    ap (λ (xs : WholeTermsOf ℕ). done ++ xs) (sym c.in-Some.ensures.steps.0) ∙ c.loop-set.invariant.so_far
    ∙ c.into_iter-set-iterator.ensures.into_iter_gives in
    let e = c.in_ok-items.ensures in
    let within = same_labels (IsInRows 20 20) c.args.list terms e.was e.combination e.same c.requires.within in
    let refused = c.in_err-add_term.ensures.large.0
    (ap Err (error_is _ _ _ c.from_residual-in_err-add_term.ensures.1 large)) in
    not_refused_quotient c.args.den (found c.loop-set.answer c.in_ok-partition.field-0)
    c.quotient_of.result _ c.requires.den.0
    (coefficient-before terms e.combination within done rest k v all)
    (ap (found c.loop-set.answer) c.in_ok-partition.ensures ∙ c.loop-set.invariant.quotients (shape k))
    refused

pub returns-clause-value : goal.returns-clause-value
returns-clause-value c =
    let terms = c.in_ok-items.items in
    let none : into_iter_items c.loop-set.set-iterator ≡ [] = grind (arith, common_steps) in
    let all : c.loop-set.yielded ≡ terms =
    sym (append-nil c.loop-set.yielded) ∙ ap (λ (xs : WholeTermsOf ℕ). c.loop-set.yielded ++ xs) (sym none)
    ∙ c.loop-set.invariant.so_far ∙ c.into_iter-set-iterator.ensures.into_iter_gives in
    let e = c.in_ok-items.ensures in
    same_quotients c.args.den c.args.list terms c.loop-set.answer e.was e.combination e.same
    (subst (λ (l : WholeTermsOf ℕ). Quotients c.args.den c.loop-set.answer (shapes l)) all c.loop-set.invariant.quotients)
