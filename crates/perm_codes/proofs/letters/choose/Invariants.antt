-- The letters chosen so far, followed by those that the rest of the code chooses from the remaining letters, are the letters of the permutation with
-- this code.
use Rattle.std.proofs.Common.{◌≡◌, ◌+◌, ◌++◌, length, drop}
use Rattle.sym_model.specs.PlaceOrders.{places}
use Rattle.sym_model.specs.Permutation.{IsCode, letters_by_code}
use Rattle.perm_codes.proofs.letters.choose.Given as goal

abbrev pub invariant-loop-entry : goal.invariant-loop-entry
invariant-loop-entry l = record {
  count : length l.left.items + l.entry-index ≡ length l.code;
  code : IsCode (drop l.entry-index l.code);
  letters : l.list.items ++ letters_by_code (drop l.entry-index l.code) l.left.items
      ≡ letters_by_code l.code (places (length l.code));
}
