use Rattle.std.proofs.Common.{Ok, Err, sym, subst}
use Rattle.expression_reading.specs.Reading.{IsReadBy}
use Rattle.sym_model.specs.ExpressionOffence.{inner_offences}
use Rattle.expression_reading.proofs.SignJudging.{no_sign-read, sign-alone, sign-refused}
use Rattle.expression_reading.proofs.plethysm_words.read_inner.Goals as goal

pub returns-in-None-clause-read : goal.returns-in-None-clause-read
returns-in-None-clause-read c = no_sign-read c.args.word.now (Ok c.in-Ok.formula) c.in-None.ensures
    c.in-Ok.ensures.read

pub returns-in-Some-clause-read : goal.returns-in-Some-clause-read
returns-in-Some-clause-read c = sign-alone c.args.word.now c.in-Ok.formula c.in-Some.byte
    c.in-Some.ensures c.in-Ok.ensures.read

pub returns-in-None-first_sign-clause-read : goal.returns-in-None-first_sign-clause-read
returns-in-None-first_sign-clause-read c = no_sign-read c.args.word.now (Err c.in-Err.fault)
    c.in-None-first_sign.ensures c.in-Err.ensures.read

pub returns-in-Some-first_sign-clause-read : goal.returns-in-Some-first_sign-clause-read
returns-in-Some-first_sign-clause-read c =
    subst (λ f. IsReadBy inner_offences c.args.word.now (Err f)) (sym c.first_refusal.ensures)
    (sign-refused c.args.word.now c.in-Err.fault c.in-Some-first_sign.byte
    c.in-Some-first_sign.ensures c.in-Err.ensures.read)
