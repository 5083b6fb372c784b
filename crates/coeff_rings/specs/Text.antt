-- The decimal text of fractions.
use Rattle.std.specs.Prelude.{ℕ, List, ◌++◌, codes, decimal, ◌==◌, if◌then◌else◌}
use Rattle.std.specs.Fmt.{signed_decimal}
use Rattle.sym_model.specs.Expansion.{Fraction}

-- the decimal text of a fraction: NUM/DEN, or only NUM if the denominator is 1
abbrev pub decimal_text : Fraction → List ℕ
decimal_text r =
    if r.1 == 1 then signed_decimal r.0 else (signed_decimal r.0 ++ (codes "/" ++ decimal r.1))
