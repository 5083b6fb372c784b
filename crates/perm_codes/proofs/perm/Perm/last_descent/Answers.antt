use Rattle.std.proofs.Common.{◌≡◌, ap, sym, ◌∙◌}
use Rattle.sym_model.specs.Permutation.{last_descent}
use Rattle.schubert_laws.proofs.Codes.{identity_without_descent}
use Rattle.perm_codes.proofs.perm.Perm.last_descent.Goals as goal

pub returns-clause-identity : goal.returns-clause-identity
returns-clause-identity c =
    let is = c.letters.ensures.limits.kept in
    let value : c.find_last_descent.result ≡ last_descent c.args.self.now =
    c.find_last_descent.ensures ∙ ap last_descent c.letters.ensures.value in
    let law = identity_without_descent c.args.self.now is.one_line is.some in
    (λ none. sym is.unfixed ∙ law.0 (sym value ∙ none), λ one. value ∙ law.1 (is.unfixed ∙ one))
