-- The words of a command, each as the list of its bytes.
use Rattle.std.specs.Prelude.{ℕ, List}

abbrev pub Words : Type 0
Words = List (List ℕ)
