-- The lists of numbers that the vectors of this crate hold.
use Rattle.std.specs.Prelude.{ℕ, List, map, Vec}
use Rattle.std.specs.declared.alloc.Global.{Global}

-- the lists of numbers that a list of vectors holds
abbrev pub words_of : List (Vec ℕ Global) → List (List ℕ)
words_of list = map (λ word. word.items) list

-- the fillings that a list of lists of vectors holds
abbrev pub fillings_in : List (Vec (Vec ℕ Global) Global) → List (List (List ℕ))
fillings_in list = map (λ filling. words_of filling.items) list
