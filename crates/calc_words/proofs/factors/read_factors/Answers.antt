use Rattle.std.proofs.Common.{◌≡◌, ℕ, ◌+◌, ◌++◌, List, [], ◌∷◌, map, length, length-append, sym, ap, rules}
use Rattle.std.proofs.Common.{◌∙◌, subst, arith}
use Rattle.std.specs.Prelude.{string_bytes}
use Rattle.std.proofs.lemmas.List.{length-map}
use Rattle.sym_model.specs.CommandOffence.{first_offence, factor_offences}
use Rattle.sym_model.specs.Grammar.{two_partitions}
use Rattle.sym_model.specs.WordForms.{numbers, partition}
use Rattle.std.proofs.lemmas.Result.{err_from_is_err_and}
use Rattle.calc_words.specs.Reading.{IsJudged, IsFirst}
use Rattle.calc_words.proofs.WrittenLists.{two_written}
use Rattle.calc_words.proofs.FactorCuts.{run_cut}
use Rattle.calc_words.proofs.FactorJudging.{two_faulty, two_fine}
use Rattle.calc_words.proofs.factors.read_factors.Goals as goal

pub paired-requires-clause-left : goal.paired-requires-clause-left
paired-requires-clause-left c = search (rules, two_written)

pub paired-requires-clause-right : goal.paired-requires-clause-right
paired-requires-clause-right c = search (rules, two_written)

pub read_later-requires-clause-place : goal.read_later-requires-clause-place
read_later-requires-clause-place c = search (rules, length-map, length-append)

pub read_later-requires-clause-written : goal.read_later-requires-clause-written
read_later-requires-clause-written c = search (rules, two_written)

pub returns-in_err-first : goal.returns-in_err-first
returns-in_err-first c =
    λ second others e n o.
    let at = c.args.at in
    let first = map string_bytes c.args.first.now in
    let list = map string_bytes c.list_first.result.0.now in
    let k = run_cut (map string_bytes c.args.later.now) second list
    (map string_bytes c.list_first.result.1.now) others e n
    c.list_first.ensures.parts c.list_first.ensures.list c.list_first.ensures.rest in
    let p = err_from_is_err_and c.from_residual.result c.from_residual.ensures.1 in
    rw (p.1, p.2) (two_faulty at first second others _
    (subst (λ ws. IsFirst (first_offence (two_partitions at first ws)) c.in_err-first.field-0.0)
    (sym k.0) c.in_err-first.ensures))

pub returns : goal.returns
returns c =
    λ second others e n o.
    let at = c.args.at in
    let first = map string_bytes c.args.first.now in
    let list = map string_bytes c.list_first.result.0.now in
    let after = at + length c.args.first.now + 1 + length c.list_first.result.0.now in
    let k = run_cut (map string_bytes c.args.later.now) second list
    (map string_bytes c.list_first.result.1.now) others e n
    c.list_first.ensures.parts c.list_first.ensures.list c.list_first.ensures.rest in
    let f = length-map c.args.first.now string_bytes in
    let l = length-map c.list_first.result.0.now string_bytes in
    let s = ap length k.0 in
    let fs : c.in_ok-factors.factors ≡ partition first ∷ partition second ∷ [] =
    c.in_ok-factors.ensures.0
    ∙ ap (λ p. p ∷ c.in_ok-first.second ∷ []) (ap (λ p. p.0) c.in_ok-first.ensures.0)
    ∙ ap (λ p. partition first ∷ p ∷ []) ((ap (λ p. p.1) c.in_ok-first.ensures.0) ∙ ap partition
    (sym k.0)) in
    two_fine (λ (g : List (List ℕ)). g ≡ partition first ∷ partition second ∷ map partition others)
    at after first second others c.read_later.result
    (omega (arith, f, l, s))
    (ap (λ ws. first_offence (two_partitions at first ws)) k.0 ∙ c.in_ok-first.ensures.1)
    (subst
    (λ gs. IsJudged (λ (g : List (List ℕ)). g ≡ gs ++ map partition others)
    (first_offence (factor_offences (length gs) (after + 1) (map numbers others)))
    c.read_later.result)
    fs (c.read_later.ensures others k.1 o))
