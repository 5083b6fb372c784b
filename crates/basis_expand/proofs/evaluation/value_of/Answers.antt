use Rattle.std.proofs.Common.{[], ◌∷◌, refl}
use Rattle.basis_expand.specs.Postorder.{operands}
use Rattle.expression_reading.specs.Trees.{tree_of}
use Rattle.basis_expand.proofs.Making.{operands-taken}
use Rattle.basis_expand.proofs.Parts.{taken-plain, taken-inner}
use Rattle.basis_expand.proofs.evaluation.value_of.Goals as goal

pub negated-requires : goal.negated-requires
negated-requires g c =
    let is = operands-taken (λ e. g.T.Target.stands c.args.target.now (tree_of e)) c.args.node.now
    (c.in-Negation.inner.value ∷ []) c.requires.operands.0 c.args.values.now.items
    c.take_operand.new.values.items
    (c.take_operand.result ∷ []) (rw c.in-Negation.is refl) refl c.requires.operands.1
    c.take_operand.ensures in
    let taken = rw c.in-Negation.is at (taken-plain g.T.Target.limit c.args.node.now
    c.requires.plain c.requires.low) in (
      tree_of c.in-Negation.inner.value,
      taken-inner g.T.Target.limit
          (tree_of c.in-Negation.inner.value) taken,
      is.0,
    )

pub returns-in-Negation-clause-value : goal.returns-in-Negation-clause-value
returns-in-Negation-clause-value g c =
    let is = operands-taken (λ e. g.T.Target.stands c.args.target.now (tree_of e)) c.args.node.now
    (c.in-Negation.inner.value ∷ []) c.requires.operands.0 c.args.values.now.items
    c.take_operand.new.values.items
    (c.take_operand.result ∷ []) (rw c.in-Negation.is refl) refl c.requires.operands.1
    c.take_operand.ensures in
    let taken = rw c.in-Negation.is at (taken-plain g.T.Target.limit c.args.node.now
    c.requires.plain c.requires.low) in
    rw c.in-Negation.is (c.negated.ensures (tree_of c.in-Negation.inner.value)
    (taken-inner g.T.Target.limit (tree_of c.in-Negation.inner.value) taken) is.0)

pub added-requires : goal.added-requires
added-requires g c =
    let is = operands-taken (λ e. g.T.Target.stands c.args.target.now (tree_of e)) c.args.node.now
    (c.in-Sum.left.value ∷ c.in-Sum.right.value ∷ []) c.requires.operands.0
    c.args.values.now.items c.take_operands-left.new.values.items
    (c.take_operands-left.result.0 ∷ c.take_operands-left.result.1 ∷ []) (rw c.in-Sum.is refl) refl
    c.requires.operands.1 c.take_operands-left.ensures in
    let taken = rw c.in-Sum.is at (taken-plain g.T.Target.limit c.args.node.now c.requires.plain
    c.requires.low) in
    (tree_of c.in-Sum.left.value, tree_of c.in-Sum.right.value, taken, is.0, is.1.0)

pub returns-in-Sum-clause-value : goal.returns-in-Sum-clause-value
returns-in-Sum-clause-value g c =
    let is = operands-taken (λ e. g.T.Target.stands c.args.target.now (tree_of e)) c.args.node.now
    (c.in-Sum.left.value ∷ c.in-Sum.right.value ∷ []) c.requires.operands.0
    c.args.values.now.items c.take_operands-left.new.values.items
    (c.take_operands-left.result.0 ∷ c.take_operands-left.result.1 ∷ []) (rw c.in-Sum.is refl) refl
    c.requires.operands.1 c.take_operands-left.ensures in
    let taken = rw c.in-Sum.is at (taken-plain g.T.Target.limit c.args.node.now c.requires.plain
    c.requires.low) in
    rw c.in-Sum.is (c.added.ensures (tree_of c.in-Sum.left.value) (tree_of c.in-Sum.right.value)
    taken is.0 is.1.0)

pub returns-in-Sum-clause-taken : goal.returns-in-Sum-clause-taken
returns-in-Sum-clause-taken g c =
    let is = operands-taken (λ e. g.T.Target.stands c.args.target.now (tree_of e)) c.args.node.now
    (operands c.args.node.now) c.requires.operands.0 c.args.values.now.items
    c.take_operands-left.new.values.items
    (c.take_operands-left.result.0 ∷ c.take_operands-left.result.1 ∷ []) refl (rw c.in-Sum.is refl)
    c.requires.operands.1 c.take_operands-left.ensures in
    (_, c.take_operands-left.ensures, is)

pub subtracted-requires : goal.subtracted-requires
subtracted-requires g c =
    let is = operands-taken (λ e. g.T.Target.stands c.args.target.now (tree_of e)) c.args.node.now
    (c.in-Difference.left.value ∷ c.in-Difference.right.value ∷ []) c.requires.operands.0
    c.args.values.now.items c.take_operands-left-in-Difference.new.values.items
    (c.take_operands-left-in-Difference.result.0 ∷ c.take_operands-left-in-Difference.result.1 ∷ [])
    (rw c.in-Difference.is refl) refl c.requires.operands.1
    c.take_operands-left-in-Difference.ensures in
    let taken = rw c.in-Difference.is at (taken-plain g.T.Target.limit c.args.node.now
    c.requires.plain c.requires.low) in
    (tree_of c.in-Difference.left.value, tree_of c.in-Difference.right.value, taken, is.0, is.1.0)

pub returns-in-Difference-clause-value : goal.returns-in-Difference-clause-value
returns-in-Difference-clause-value g c =
    let is = operands-taken (λ e. g.T.Target.stands c.args.target.now (tree_of e)) c.args.node.now
    (c.in-Difference.left.value ∷ c.in-Difference.right.value ∷ []) c.requires.operands.0
    c.args.values.now.items c.take_operands-left-in-Difference.new.values.items
    (c.take_operands-left-in-Difference.result.0 ∷ c.take_operands-left-in-Difference.result.1 ∷ [])
    (rw c.in-Difference.is refl) refl c.requires.operands.1
    c.take_operands-left-in-Difference.ensures in
    let taken = rw c.in-Difference.is at (taken-plain g.T.Target.limit c.args.node.now
    c.requires.plain c.requires.low) in
    rw c.in-Difference.is (c.subtracted.ensures (tree_of c.in-Difference.left.value)
    (tree_of c.in-Difference.right.value) taken is.0 is.1.0)

pub returns-in-Difference-clause-taken : goal.returns-in-Difference-clause-taken
returns-in-Difference-clause-taken g c =
    let is = operands-taken (λ e. g.T.Target.stands c.args.target.now (tree_of e)) c.args.node.now
    (operands c.args.node.now) c.requires.operands.0 c.args.values.now.items
    c.take_operands-left-in-Difference.new.values.items
    (c.take_operands-left-in-Difference.result.0 ∷ c.take_operands-left-in-Difference.result.1 ∷ [])
    refl (rw c.in-Difference.is refl) c.requires.operands.1
    c.take_operands-left-in-Difference.ensures in
    (_, c.take_operands-left-in-Difference.ensures, is)

pub multiplied-requires : goal.multiplied-requires
multiplied-requires g c =
    let is = operands-taken (λ e. g.T.Target.stands c.args.target.now (tree_of e)) c.args.node.now
    (c.in-Product.left.value ∷ c.in-Product.right.value ∷ []) c.requires.operands.0
    c.args.values.now.items c.take_operands-left-in-Product.new.values.items
    (c.take_operands-left-in-Product.result.0 ∷ c.take_operands-left-in-Product.result.1 ∷ [])
    (rw c.in-Product.is refl) refl c.requires.operands.1 c.take_operands-left-in-Product.ensures
    in
    let taken = rw c.in-Product.is at (taken-plain g.T.Target.limit c.args.node.now c.requires.plain
    c.requires.low) in
    (tree_of c.in-Product.left.value, tree_of c.in-Product.right.value, taken, is.0, is.1.0)

pub returns-in-Product-clause-value : goal.returns-in-Product-clause-value
returns-in-Product-clause-value g c =
    let is = operands-taken (λ e. g.T.Target.stands c.args.target.now (tree_of e)) c.args.node.now
    (c.in-Product.left.value ∷ c.in-Product.right.value ∷ []) c.requires.operands.0
    c.args.values.now.items c.take_operands-left-in-Product.new.values.items
    (c.take_operands-left-in-Product.result.0 ∷ c.take_operands-left-in-Product.result.1 ∷ [])
    (rw c.in-Product.is refl) refl c.requires.operands.1 c.take_operands-left-in-Product.ensures
    in
    let taken = rw c.in-Product.is at (taken-plain g.T.Target.limit c.args.node.now c.requires.plain
    c.requires.low) in
    rw c.in-Product.is (c.multiplied.ensures (tree_of c.in-Product.left.value)
    (tree_of c.in-Product.right.value) taken is.0 is.1.0)

pub returns-in-Product-clause-taken : goal.returns-in-Product-clause-taken
returns-in-Product-clause-taken g c =
    let is = operands-taken (λ e. g.T.Target.stands c.args.target.now (tree_of e)) c.args.node.now
    (operands c.args.node.now) c.requires.operands.0 c.args.values.now.items
    c.take_operands-left-in-Product.new.values.items
    (c.take_operands-left-in-Product.result.0 ∷ c.take_operands-left-in-Product.result.1 ∷ []) refl
    (rw c.in-Product.is refl) c.requires.operands.1 c.take_operands-left-in-Product.ensures in
    (_, c.take_operands-left-in-Product.ensures, is)
