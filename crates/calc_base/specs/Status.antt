-- The exit codes.
use Rattle.std.specs.Prelude.{◌≡◌, ℕ}
use Rattle.calc_base.specs.declared.status.Status.{Status}
use Rattle.calc_base.specs.declared.status.Status.TheVariants.{Done, SomeRefused, Syntax, Range}
use Rattle.calc_base.specs.declared.status.Status.TheVariants.{Past, SinkFault, SourceFault}
use Rattle.calc_base.specs.declared.status.Status.TheVariants.{NoMemory}

-- the exit code of the program for a status
abbrev pub code_of : Status → ℕ
code_of Done = 0
code_of SomeRefused = 1
code_of Syntax = 2
code_of Range = 3
code_of Past = 4
code_of SinkFault = 5
code_of SourceFault = 6
code_of NoMemory = 7

-- `code` is the exit code of a status with the property P
pub record IsCodeOf (P : Status → Type 0) (code : ℕ) : Type 0 where
  pub status : Status
  pub is : code ≡ code_of status
  pub holds : P status
