use Rattle.std.proofs.Common.{◌*◌, ◌≤◌, length, take}
use Rattle.rotation_laws.specs.Rotation.{AreTurned}
use Rattle.rim_hooks.proofs.rotated_factors.bases_of.Given as goal

-- the bases are those of the factors before the index `at`
abbrev pub invariant-loop-at : goal.invariant-loop-at
invariant-loop-at l = record {
  turned : AreTurned l.k l.n (take l.at l.factors) l.bases.factors l.bases.turns l.bases.power;
  least : 2 ≤ l.at;
  most : l.at ≤ length l.factors;
  turns : l.bases.turns ≤ 128 * l.at;
  power : l.bases.power ≤ 64 * l.at;
}
