use Rattle.std.proofs.Common.{rules, ◌≡◌, ◌≤◌, ℕ, List, [], map, subst, sym, refl, inl}
use Rattle.std.specs.Prelude.{string_bytes}
use Rattle.calc_words.specs.LineBytes.{seen}
use Rattle.sym_model.specs.BatchLine.{words_of_line}
use Rattle.calc_app.proofs.Outcomes.{cut_answers}
use Rattle.calc_app.specs.Top.{AnswersWords, RunsLines}
use Rattle.calc_base.specs.Status.{code_of}
use Rattle.calc_base.specs.declared.status.Status.TheVariants as statuses
use Rattle.calc_c.specs.Calls.{LeavesText, StandsIn}
use Rattle.calc_c.proofs.Carried.{went_through}
use Rattle.calc_c.proofs.calc_run.Goals as goal

pub returns-in_default-clause-answers : goal.returns-in_default-clause-answers
returns-in_default-clause-answers c = record {
  status = statuses.NoMemory;
  is = c.code.ensures;
  holds = cut_answers (map seen (words_of_line c.args.line.now)) _ statuses.NoMemory (inl refl);
}

pub returns-in_default-clause-leaves : goal.returns-in_default-clause-leaves
returns-in_default-clause-leaves c = record {
  status = statuses.NoMemory;
  is = c.code.ensures;
  holds = record {
    text = [];
    is_left = inl refl;
    needs = refl;
    stands = λ room. refl;
    untouched =
        λ none. refl;
  };
}

pub returns-in_default-clause-ends : goal.returns-in_default-clause-ends
returns-in_default-clause-ends c = record {
  status = statuses.NoMemory;
  is = c.code.ensures;
  holds =
      search rules;
}

pub returns-clause-lines : goal.returns-clause-lines
returns-clause-lines c = λ runs small room.
    let same : map seen (words_of_line c.args.line.now) ≡ map string_bytes c.deref.result.now =
    search rules in
    c.run_words.ensures.lines (subst RunsLines same runs)
    (went_through c.run_words.result (subst (λ k. k ≤ code_of statuses.SomeRefused) c.code-2.ensures
    small)) room

pub returns-clause-answers : goal.returns-clause-answers
returns-clause-answers c =
    let same : map seen (words_of_line c.args.line.now) ≡ map string_bytes c.deref.result.now =
    search rules in
    record {
      status = c.run_words.result;
      is = c.code-2.ensures;
      holds = subst (λ (words : List (List ℕ)). AnswersWords words
          (StandsIn c.run_words.new.needed c.run_words.new.out) c.run_words.result)
          (sym same) c.run_words.ensures.answers;
    }

pub returns-clause-leaves : goal.returns-clause-leaves
returns-clause-leaves c =
    let same : map seen (words_of_line c.args.line.now) ≡ map string_bytes c.deref.result.now =
    search rules in
    record {
      status = c.run_words.result;
      is = c.code-2.ensures;
      holds = subst (λ (words : List (List ℕ)). LeavesText words c.args.input.now
          c.run_words.new.needed c.args.out.now c.run_words.new.out c.run_words.result)
          (sym same) c.run_words.ensures.leaves;
    }

pub returns-clause-ends : goal.returns-clause-ends
returns-clause-ends c = record {
  status = c.run_words.result;
  is = c.code-2.ensures;
  holds =
      c.run_words.ensures.ends;
}
