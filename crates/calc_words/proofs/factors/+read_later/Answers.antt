use Rattle.std.proofs.Common.{◌≡◌, ℕ, ◌+◌, ◌++◌, List, map, length, length-append, refl, sym, ap, rules}
use Rattle.std.proofs.Common.{subst, None}
use Rattle.std.specs.Prelude.{string_bytes}
use Rattle.std.proofs.lemmas.List.{append-nil, length-map}
use Rattle.std.proofs.lemmas.Result.{err_from_is_err_and}
use Rattle.sym_model.specs.CommandOffence.{first_offence, factor_offences}
use Rattle.sym_model.specs.WordForms.{numbers, partition}
use Rattle.calc_words.specs.Reading.{IsJudged, IsFirst}
use Rattle.calc_words.proofs.FactorCuts.{next_cut, nothing_behind}
use Rattle.calc_words.proofs.FactorJudging.{next_faulty, next_fine}
use Rattle.calc_words.proofs.FactorLimits.{next_written}
use Rattle.calc_words.proofs.factors.+read_later.Goals as goal

pub returns-in_default : goal.returns-in_default
returns-in_default t c =
    λ others e n.
    let factors = c.args.factors in
    subst (λ os. (factors ≡ factors ++ map partition os)
    × (first_offence (factor_offences (length factors) (c.args.at + 1) (map numbers os))
    ≡ None))
    (sym (nothing_behind (map string_bytes c.args.words.now) others e c.in_default.ensures))
    (sym (append-nil factors), refl)

pub read_later-requires : goal.read_later-requires
read_later-requires t c = search (rules, length-map, length-append, next_written)

pub returns-in_err-factors : goal.returns-in_err-factors
returns-in_err-factors t c =
    λ others e n.
    let factors = c.args.factors in
    let list = map string_bytes c.list_first.result.0.now in
    let k = next_cut (map string_bytes c.args.words.now) (map string_bytes c.in-Some.later.now) list
    (map string_bytes c.list_first.result.1.now) others e n
    c.in-Some.ensures c.list_first.ensures.parts c.list_first.ensures.list c.list_first.ensures.rest
    in
    let p = err_from_is_err_and c.from_residual.result c.from_residual.ensures.1 in
    rw (p.1, p.2)
    (subst (λ os. IsFirst (first_offence (factor_offences (length factors) (c.args.at + 1)
    (map numbers os))) c.in_err-factors.field-0.0) (sym k.others_are)
    (next_faulty (length factors) c.args.at list k.more _ c.in_err-factors.ensures))

pub returns : goal.returns
returns t c =
    λ others e n.
    let factors = c.args.factors in
    let list = map string_bytes c.list_first.result.0.now in
    let after = c.args.at + 1 + length c.list_first.result.0.now in
    let k = next_cut (map string_bytes c.args.words.now) (map string_bytes c.in-Some.later.now) list
    (map string_bytes c.list_first.result.1.now) others e n
    c.in-Some.ensures c.list_first.ensures.parts c.list_first.ensures.list c.list_first.ensures.rest
    in
    subst
    (λ os. IsJudged (λ (f : List (List ℕ)). f ≡ factors ++ map partition os)
    (first_offence (factor_offences (length factors) (c.args.at + 1) (map numbers os)))
    c.read_later.result)
    (sym k.others_are)
    (next_fine factors c.in_ok-factors.factors c.args.at after list k.more c.read_later.result
    c.in_ok-factors.ensures.0
    (ap (λ m. c.args.at + 1 + m) (sym (length-map c.list_first.result.0.now string_bytes)))
    c.in_ok-factors.ensures.1
    (c.read_later.ensures k.more k.rest_are k.more_numbers))
