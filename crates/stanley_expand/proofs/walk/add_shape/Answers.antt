use Rattle.std.proofs.Common.{ℕ, List, [], ◌∷◌, length, ap, ◌∙◌, subst, arith}
use Rattle.std.specs.Prelude.{nat_eq}
use Rattle.std.specs.Cmp.Lexicographic.{pointwise}
use Rattle.sym_model.specs.BetaList.{from_beta}
use Rattle.linear_combinations.specs.Gains.{Gains, Overflows}
use Rattle.stanley_expand.proofs.SchurPositive.{length_front}
use Rattle.stanley_expand.proofs.walk.add_shape.Goals as goal
use Rattle.std.proofs.lemmas.Result.{on_ok_weaker}

pub from_beta-requires-clause-few : goal.from_beta-requires-clause-few
from_beta-requires-clause-few c =
    let few = c.requires.few in
    let l = ap length (c.as_slice.ensures.value ∙ c.in_ok-beta.ensures) ∙ length_front c.args.rows
    c.args.perm.now in
    omega arith

pub returns-clause-gains : goal.returns-clause-gains
returns-clause-gains c =
    on_ok_weaker c.add_owned.result (λ more. subst (λ (x : List ℕ). Gains c.args.sum.now ((x, c.args.count) ∷ [])
    c.add_owned.new.self) (c.in_ok-shape.ensures.value ∙ ap from_beta (c.as_slice.ensures.value
    ∙ c.in_ok-beta.ensures)) more) c.add_owned.ensures.gains

pub returns-clause-large : goal.returns-clause-large
returns-clause-large c err = subst (λ (x : List ℕ). Overflows (pointwise nat_eq) c.args.sum.now
    ((x, c.args.count) ∷ [])) (c.in_ok-shape.ensures.value ∙ ap from_beta (c.as_slice.ensures.value
    ∙ c.in_ok-beta.ensures)) (c.add_owned.ensures.large err)
