use Rattle.std.proofs.Common.{subst, sym, true, ◌≡◌, ℕ, List}
use Rattle.sym_model.specs.Tableau.{are_letters}
use Rattle.sym_model.proofs.Sums.{letters_among}
use Rattle.calc_replies.proofs.insertion.rsk.Goals as goal

pub insert_word-requires-clause-letters : goal.insert_word-requires-clause-letters
insert_word-requires-clause-letters c =
    let P : List ℕ → Type 0 = λ w. are_letters w ≡ true in
    subst P (sym c.as_slice.ensures) (letters_among c.args.letters.now (λ a stands.
    (c.requires.letters a stands).0))
