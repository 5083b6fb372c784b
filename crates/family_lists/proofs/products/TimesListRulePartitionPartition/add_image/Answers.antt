use Rattle.std.proofs.Common.{◌≡◌, [], ◌∷◌, length, ap, sym, subst, ◌∙◌, ℤ, List, ℕ, ◌*ℤ◌, arith}
use Rattle.sym_model.specs.WholeTerms.{WholeTerms}
use Rattle.linear_combinations.specs.Gains.{Gains, Overflows, scaled}
use Rattle.linear_combinations.proofs.Gains.{gains_none}
use Rattle.sparse_polys.specs.Tables.{equal}
use Rattle.basis_change_laws.specs.JoinedLists.{row}
use Rattle.family_lists.proofs.RowSteps.{row-gained, large-row}
use Rattle.family_lists.proofs.products.TimesListRulePartitionPartition.add_image.Goals as goal
use Rattle.std.proofs.lemmas.Result.{on_ok_weaker}

nothing : (old : WholeTerms) (k : List ℕ) (x c : ℤ) (V : WholeTerms) → length V ≡ 0 → Gains old
    (scaled x (row k c V)) old
nothing old k x c [] e = gains_none old
nothing old k x c (t ∷ V) e = absurd (omega arith)

pub returns-then-len-eq0-clause-gains : goal.returns-then-len-eq0-clause-gains
returns-then-len-eq0-clause-gains c =
    nothing c.args.sum.now c.args.label.now c.args.x c.args.self.now.c c.args.self.now.list.now
    (sym c.len.ensures.len ∙ c.if-len-eq0.true)

pub returns-in_err-c-clause-large : goal.returns-in_err-c-clause-large
returns-in_err-c-clause-large c err =
    large-row c.args.sum.now c.args.label.now c.args.x c.args.self.now.c c.args.self.now.list.now
    c.len.ensures.combination
    (λ e. c.if-len-eq0.false (c.len.ensures.len ∙ e)) c.in_err-c.ensures

image : (k : List ℕ) (x c z : ℤ) (V : WholeTerms) → z ≡ x *ℤ c → row k z V ≡ scaled x (row k c V)
image k x c z V e = ap (λ y. row k y V) e ∙ row-gained k x c V

pub returns-clause-gains : goal.returns-clause-gains
returns-clause-gains c =
    on_ok_weaker c.add_row.result (λ more.
    subst (λ (l : WholeTerms). Gains c.args.sum.now l c.add_row.new.sum)
    (image c.args.label.now c.args.x c.args.self.now.c c.in_ok-c.c c.args.self.now.list.now
    c.in_ok-c.ensures) more) c.add_row.ensures.gains

pub returns-clause-large : goal.returns-clause-large
returns-clause-large c err =
    subst (λ (l : WholeTerms). Overflows equal c.args.sum.now l)
    (image c.args.label.now c.args.x c.args.self.now.c c.in_ok-c.c c.args.self.now.list.now
    c.in_ok-c.ensures)
    (c.add_row.ensures.large err)
