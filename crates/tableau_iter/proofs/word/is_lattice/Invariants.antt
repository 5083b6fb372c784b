-- Loop invariant: the letters before the current index are a lattice word, and `counts` is the content of these letters.
use Rattle.std.proofs.Common.{◌≡◌, true, [], take}
use Rattle.sym_model.specs.Schur.{content}
use Rattle.tableau_iter.specs.Fits.{all_fit}
use Rattle.tableau_iter.specs.LatticeWords.{may_follow}
use Rattle.tableau_iter.proofs.word.is_lattice.Given as goal

abbrev pub invariant-loop-place : goal.invariant-loop-place
invariant-loop-place l = record {
  counted : l.counts.items ≡ content l.letters (take l.place l.word);
  allowed : all_fit (may_follow l.letters) [] (take l.place l.word) ≡ true;
}
