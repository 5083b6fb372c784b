-- Correct results of evaluating an expression e (`IsMade S H e`): a value v with S e v, or an error, which is `Large` only if e is heavy (H e).
use Rattle.std.proofs.Common.{◌≡◌, List, ◌++◌, length, subst, ap, Ok, Err}
use Rattle.std.specs.Prelude.{Result, IsErr, IsErrAnd}
use Rattle.calc_base.specs.declared.faults.SumFault.{SumFault}
use Rattle.calc_base.specs.declared.faults.SumFault.TheVariants.{Large}
use Rattle.sym_model.specs.Expression.{Tree}
use Rattle.expression_reading.specs.declared.expr.Expr.{Expr}
use Rattle.basis_expand.specs.Postorder.{operands, AreValues, EndsWith}
use Rattle.basis_expand.proofs.Evaluations.{values-taken}
use Rattle.basis_expand.specs.Values.{IsMade}

module _ {V : Type 0} (S : Tree → V → Type 0) (H : Tree → Type 0) where
  pub failed : (e : Tree) (r : Result V SumFault) (fault : SumFault) → IsErr r → IsErrAnd r (λ y. y ≡ fault) → (fault ≡ Large → H e) → IsMade S H e r
  failed e (Ok v) fault h k l = cc
  failed e (Err x) fault h k l = record { ok = tt; large = λ i. l (let j : x ≡ fault = k in let m = i in cc) }

  pub done : (e : Tree) (v : V) → S e v → IsMade S H e (Ok v)
  done e v h = record { ok = h; large = λ i. cc }

  pub failed-part : (e part : Tree) (r : Result V SumFault) (fault : SumFault) → IsErr r → IsErrAnd r (λ y. y ≡ fault) → IsMade S H part (Err fault) → (H part → H e)
      → IsMade S H e r
  failed-part e part r fault h k p w = failed e r fault h k (λ i. w (p.large (ap Err i)))

  pub made-again : (e f : Tree) (r : Result V SumFault) → ((v : V) → S e v → S f v) → (H e → H f) → IsMade S H e r → IsMade S H f r
  made-again e f (Ok v) s h m = record { ok = s v m.ok; large = λ i. h (m.large i) }
  made-again e f (Err x) s h m = record { ok = tt; large = λ i. h (m.large i) }

module _ {V : Type 0} (R : Expr → V → Type 0) where
  pub operands-taken : (node : Expr) (exprs : List Expr) (below values after taken : List V) → operands node ≡ exprs → length taken ≡ length exprs
      → EndsWith R (operands node) below values → values ≡ after ++ taken → AreValues R exprs taken
  operands-taken node exprs below values after taken is n ends e =
      values-taken R exprs below values after taken n (subst (λ es. EndsWith R es below values) is ends) e
