use Rattle.std.proofs.Common.{◌≡◌, ℕ, List, [], ◌∷◌, map, refl, ap, ◌∙◌}
use Rattle.std.specs.Prelude.{string_bytes}
use Rattle.std.proofs.lemmas.List.{take_all}
use Rattle.sym_model.specs.PrintedBlock.{decimal_value}
use Rattle.calc_language.specs.FoundOffences.{at_most_entry}
use Rattle.calc_language.proofs.row_numbers.row_numbers.Goals as goal

mapped : {A : Type 0} (f : A → List ℕ) (xs : List A) →
    map (λ w. at_most_entry (decimal_value (f w))) xs ≡ map at_most_entry
    (map decimal_value (map f xs))
mapped f [] = refl
mapped f (x ∷ xs) = ap (λ ys. at_most_entry (decimal_value (f x)) ∷ ys) (mapped f xs)

pub returns : goal.returns
returns c =
    c.loop-word.invariant
    ∙ ap (map (λ w. at_most_entry (decimal_value (string_bytes w))))
    (take_all c.loop-word.word-index c.args.row.now c.loop-word-test.false)
    ∙ mapped string_bytes c.args.row.now
