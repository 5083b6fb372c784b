-- Exponents within the limits of the type `Monomial` pass the test `is_monomial_label`.
use Rattle.std.proofs.Common.{◌≡◌, ℕ, true, List, rules}
use Rattle.std.proofs.lemmas.Bool.{and_from, le-leb}
use Rattle.sym_model.specs.LabelLimits.{is_monomial_label}
use Rattle.sym_model.proofs.Exponents.{same_from}
use Rattle.sparse_polys.specs.Limits.{IsWithinLimits}

pub is_monomial_label-from : (exponents : List ℕ) → IsWithinLimits exponents → is_monomial_label exponents ≡ true
is_monomial_label-from e l = search (rules, and_from, same_from, le-leb)
