-- Lists of terms q^d·ν that have the same total coefficient at each label (d, ν).
use Rattle.std.specs.Prelude.{◌≡◌, ℕ, List}
use Rattle.sym_model.specs.WholeTerms.{WholeTermsOf, coefficient_by, same_power}

-- for each label (d, ν), the coefficients of its terms in the first list have the same sum as those in the second
abbrev pub HaveSameSums : WholeTermsOf (ℕ × List ℕ) → WholeTermsOf (ℕ × List ℕ) → Type 0
HaveSameSums terms others =
    (label : ℕ × List ℕ) → coefficient_by same_power terms label ≡
    coefficient_by same_power others label
