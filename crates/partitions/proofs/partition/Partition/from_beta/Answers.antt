use Rattle.std.proofs.Common.{◌≡◌, ℕ, List, length, ap, ◌∙◌}
use Rattle.std.specs.Prelude.{Result, Ok, Err, IfOk}
use Rattle.sym_model.specs.BetaList.{beta, less_the_rest}
use Rattle.sym_model.specs.Partition.{without_last_zeros}
use Rattle.beta_list_laws.specs.StrictFall.{FallsStrictly}
use Rattle.beta_list_laws.proofs.BetaLists.{beta-from_beta}
use Rattle.partitions.proofs.partition.Partition.from_beta.Goals as goal

beta_of : {E : Type 0} (r : Result (List ℕ) E) (b xs : List ℕ) → FallsStrictly b
    → xs ≡ less_the_rest b → IfOk r (λ p. p ≡ without_last_zeros xs)
    → IfOk r (λ p. beta (length b) p ≡ b)
beta_of (Ok p) b xs strict is h =
    ap (beta (length b)) (h ∙ ap without_last_zeros is) ∙ beta-from_beta b strict
beta_of (Err e) b xs strict is h = tt

pub returns-clause-beta : goal.returns-clause-beta
returns-clause-beta c strict =
    beta_of c.from_valid_numbers.result c.args.b.now c.as_slice.result.now strict
    (c.as_slice.ensures ∙ c.in_ok-numbers.ensures) c.from_valid_numbers.ensures.ok
