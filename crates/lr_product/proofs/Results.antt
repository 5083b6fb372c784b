-- Results and options: if a statement P holds, then `OnOk r P` holds, that is, P holds if the result r is `Ok`; and what holds of the value of an option.
use Rattle.std.specs.Prelude.{◌≡◌, Result, Ok, Err, Option, Some, OnOk, IfSome}
use Rattle.std.proofs.Common.{subst}

pub on_any : {T E P : Type 0} (r : Result T E) → P → OnOk r P
on_any (Ok x) p = p
on_any (Err e) p = tt

pub told : {A : Type 0} (P : A → Type 0) (o : Option A) (x : A) → o ≡ Some x → IfSome o P → P x
told P o x e h = subst (λ q. IfSome q P) e h
