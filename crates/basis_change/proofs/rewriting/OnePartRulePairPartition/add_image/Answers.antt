use Rattle.std.proofs.Common.{◌≡◌, ◌-◌, ◌<◌, ◌+◌, ℕ, List, [], ◌∷◌, length, get_or, refl, sym, ap, rules}
use Rattle.std.proofs.Common.{subst, ◌∙◌, arith}
use Rattle.std.specs.Prelude.{Some, slice_get}
use Rattle.sym_model.specs.Partition.{size}
use Rattle.sym_model.specs.WholeTerms.{WholeTerms}
use Rattle.linear_combinations.specs.Gains.{Gains, Overflows, scaled}
use Rattle.sparse_polys.specs.LabelSizes.{AreWithin}
use Rattle.sparse_polys.specs.Tables.{equal}
use Rattle.sparse_polys.proofs.Bounds.{greatest-within}
use Rattle.family_lists.specs.FactorLists.{list_at}
use Rattle.family_lists.proofs.PlacedLists.{list_at-index}
use Rattle.basis_change.specs.AugmentedProducts.{MixedLabel, IsReady, in_target}
use Rattle.basis_change.proofs.Conversions.{target_terms}
use Rattle.basis_change.proofs.Costs.{list_of}
use Rattle.basis_change.proofs.rewriting.OnePartRulePairPartition.add_image.Goals as goal
use Rattle.std.proofs.lemmas.Result.{on_ok_weaker}

first_part : (parts : List ℕ) (a : ℕ) → Some a ≡ slice_get parts 0 →
    (rest : List ℕ) × (parts ≡ a ∷ rest)
first_part [] a e = cc
first_part (b ∷ parts) a e = (parts, ap (λ x. x ∷ parts) (let h : b ≡ a = cc in h))

has-list : (d : ℕ) (label : MixedLabel) (a : ℕ) (rest : List ℕ) → IsReady d 1 label →
    label.1 ≡ a ∷ rest → (0 < a) × (size label.0 + a < d + 1)
has-list d label a rest r e = search rules

pub add_row-requires : goal.add_row-requires
add_row-requires c =
    let factors = c.args.self.now.factors.now in
    let f = first_part c.parts.result.now c.in-Some.part.now c.in-Some.ensures.value in
    let e = sym c.parts.ensures.value ∙ f.1 in
    let h = has-list (length factors) (c.label.inside.first, c.label.inside.second)
    c.in-Some.part.now f.0 (subst (IsReady (length c.args.self.now.factors.now) 1)
    (sym c.label.view_is) c.requires.ready) e in
    let positive = h.0 in
    let low = h.1 in
    let lists = c.requires.lists in
    let from = c.from.ensures in
    let i : c.from.result - 1 < length c.args.self.now.factors.now = omega arith in
    let is = sym (ap (λ k. list_at c.args.self.now.factors.now (k - 1)) from) ∙ list_at-index
    factors (c.from.result - 1) c.index-self-from.result (get_or c.args.self.now.factors.now
    (c.from.result - 1) c.index-self-from.result) i refl in
    let small = list_of factors c.in-Some.part.now c.requires.small positive (omega arith) in
    let g = greatest-within c.in-Some.part.now (get_or c.args.self.now.factors.now
    (c.from.result - 1) c.index-self-from.result)
    (subst (λ (x : WholeTerms). AreWithin c.in-Some.part.now x) is (λ t m. (small.low t m).low))
    in
    omega arith

pub returns-clause-gains : goal.returns-clause-gains
returns-clause-gains c =
    let factors = c.args.self.now.factors.now in
    let f = first_part c.parts.result.now c.in-Some.part.now c.in-Some.ensures.value in
    let e = sym c.parts.ensures.value ∙ f.1 in
    let h = has-list (length factors) (c.label.inside.first, c.label.inside.second)
    c.in-Some.part.now f.0 (subst (IsReady (length c.args.self.now.factors.now) 1)
    (sym c.label.view_is) c.requires.ready) e in
    let positive = h.0 in
    let low = h.1 in
    let from = c.from.ensures in
    let i : c.from.result - 1 < length c.args.self.now.factors.now = omega arith in
    let is = sym (ap (λ k. list_at c.args.self.now.factors.now (k - 1)) from) ∙ list_at-index
    factors (c.from.result - 1) c.index-self-from.result (get_or c.args.self.now.factors.now
    (c.from.result - 1) c.index-self-from.result) i refl in
    let all = target_terms factors (c.label.inside.first, c.label.inside.second)
    (get_or c.args.self.now.factors.now (c.from.result - 1) c.index-self-from.result)
    c.in-Some.part.now is f.0 c.args.c e ∙ ap (λ (l : MixedLabel). scaled c.args.c
    (in_target c.args.self.now.factors.now l)) c.label.view_is in
    on_ok_weaker c.add_row.result (λ more. subst (λ (l : WholeTerms). Gains c.args.sum.now l c.add_row.new.sum) all more) c.add_row.ensures.gains

pub returns-clause-large : goal.returns-clause-large
returns-clause-large c err =
    let factors = c.args.self.now.factors.now in
    let f = first_part c.parts.result.now c.in-Some.part.now c.in-Some.ensures.value in
    let e = sym c.parts.ensures.value ∙ f.1 in
    let h = has-list (length factors) (c.label.inside.first, c.label.inside.second)
    c.in-Some.part.now f.0 (subst (IsReady (length c.args.self.now.factors.now) 1)
    (sym c.label.view_is) c.requires.ready) e in
    let positive = h.0 in
    let low = h.1 in
    let from = c.from.ensures in
    let i : c.from.result - 1 < length c.args.self.now.factors.now = omega arith in
    let is = sym (ap (λ k. list_at c.args.self.now.factors.now (k - 1)) from) ∙ list_at-index
    factors (c.from.result - 1) c.index-self-from.result (get_or c.args.self.now.factors.now
    (c.from.result - 1) c.index-self-from.result) i refl in
    let all = target_terms factors (c.label.inside.first, c.label.inside.second)
    (get_or c.args.self.now.factors.now (c.from.result - 1) c.index-self-from.result)
    c.in-Some.part.now is f.0 c.args.c e ∙ ap (λ (l : MixedLabel). scaled c.args.c
    (in_target c.args.self.now.factors.now l)) c.label.view_is in
    subst (λ (l : WholeTerms). Overflows equal c.args.sum.now l) all (c.add_row.ensures.large err)
