-- The entries computed so far, followed by the code of the letters from the current place on, are the code of all letters.
use Rattle.std.proofs.Common.{◌≡◌, ◌++◌, length, take, drop}
use Rattle.sym_model.specs.Permutation.{code}
use Rattle.perm_codes.proofs.perm.Perm.code.Given as goal

abbrev pub invariant-loop-i : goal.invariant-loop-i
invariant-loop-i l = (length l.code ≡ 255) × (take l.i l.code ++ code (drop l.i l.letters) ≡ code l.letters)
