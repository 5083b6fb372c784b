use Rattle.std.proofs.Common.{refl, [], ◌∷◌, arith}
use Rattle.std.specs.Fmt.{digits}
use Rattle.worked_examples.proofs.answers.outcome_texts_law.Goals as goal

pub returns-clause-lattice_tableaux : goal.returns-clause-lattice_tableaux
unfolding digits
returns-clause-lattice_tableaux c = (refl, refl)

pub returns-clause-tableaux_after : goal.returns-clause-tableaux_after
unfolding digits
returns-clause-tableaux_after c = (refl, refl)

pub returns-clause-none_after : goal.returns-clause-none_after
unfolding digits
returns-clause-none_after c = (refl, refl)

pub returns-clause-insertion : goal.returns-clause-insertion
unfolding digits
returns-clause-insertion c = (refl, refl)

pub returns-clause-insertion_of_nothing : goal.returns-clause-insertion_of_nothing
unfolding digits
returns-clause-insertion_of_nothing c = (refl, refl)

pub returns-clause-word_of_pair : goal.returns-clause-word_of_pair
unfolding digits
returns-clause-word_of_pair c = (
  record { word = 3 ∷ 1 ∷ 2 ∷ []; inserts = refl; printed = refl },
  refl,
)

pub returns-clause-rectified : goal.returns-clause-rectified
unfolding digits
returns-clause-rectified c = (
  record {
    straight = record { outer = 2 ∷ 1 ∷ []; inner = []; rows = (1 ∷ 1 ∷ []) ∷ (2 ∷ []) ∷ [] };
    reached = record {
      chosen = 1 ∷ [];
      slides = ((omega arith, omega arith), refl);
      straight =
          refl;
    };
    printed = refl;
  },
  refl,
)

pub returns-clause-syntax_line : goal.returns-clause-syntax_line
unfolding digits
returns-clause-syntax_line c = refl

pub returns-clause-range_line : goal.returns-clause-range_line
unfolding digits
returns-clause-range_line c = refl

pub returns-clause-literal_ends : goal.returns-clause-literal_ends
returns-clause-literal_ends c = refl

pub returns-clause-range_ends : goal.returns-clause-range_ends
returns-clause-range_ends c = refl

pub returns-clause-shape_ends : goal.returns-clause-shape_ends
returns-clause-shape_ends c = refl

pub returns-clause-batch : goal.returns-clause-batch
unfolding digits
returns-clause-batch c = refl

pub returns-clause-batch_with_refusal : goal.returns-clause-batch_with_refusal
unfolding digits
returns-clause-batch_with_refusal c = refl

pub returns-clause-empty_batch : goal.returns-clause-empty_batch
unfolding digits
returns-clause-empty_batch c = record { blocks = []; are_blocks = tt; joined = refl; ends = refl }

pub returns-clause-long_line : goal.returns-clause-long_line
unfolding digits
returns-clause-long_line c = record {
  blocks = _ ∷ [];
  are_blocks = (refl, tt);
  joined = refl;
  ends = refl;
}
