use Rattle.std.proofs.Common.{◌≡◌, ℕ, zero, suc, ◌+◌, [], ◌∷◌, ◌++◌, length, rules}
use Rattle.std.proofs.Common.{refl, ap, ◌∙◌, inr, arith, append_assoc}
use Rattle.sym_model.proofs.Parts.{get_or-le-size}
use Rattle.sparse_polys.proofs.Raising.{set-raised, refilled}
use Rattle.std.proofs.lemmas.List.{length-set, length-append}
use Rattle.sym_model.specs.Polynomial.{no_exponents}
use Rattle.sparse_polys.proofs.monomial.raise.Goals as goal
use Rattle.sym_model.proofs.Restrictions.{size-padded}

more_zeros : (k : ℕ) → no_exponents k ++ (0 ∷ []) ≡ no_exponents (suc k)
more_zeros zero = refl
more_zeros (suc k) = ap (λ x. 0 ∷ x) (more_zeros k)

pub loop-exponents-preserved : goal.loop-exponents-preserved
loop-exponents-preserved c =
    let inv = c.loop-exponents.invariant in
    let pushed = c.in_ok-push.ensures.ok in
    let old = c.args.exponents.now.items in
    let e : c.push.new.self.items ≡ old ++ no_exponents (suc inv.0) =
    pushed ∙ ap (λ x. x ++ (0 ∷ [])) inv.1 ∙ append_assoc old (no_exponents inv.0) (0 ∷ [])
    ∙ ap (λ x. old ++ x) (more_zeros inv.0) in (
      suc inv.0,
      e,
      inr (omega (
        arith,
        ap length pushed,
        length-append c.loop-exponents.exponents.items (0 ∷ []),
      )),
    )

pub add_one-requires-clause-small : goal.add_one-requires-clause-small
add_one-requires-clause-small c = search (rules, get_or-le-size, size-padded)

pub returns : goal.returns
returns c = search (rules, set-raised, length-set, refilled)
