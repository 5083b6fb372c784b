-- Labels q^p·ν of quantum products read as partitions of fusion products: p times n is added to the last entry of the beta list, which is then the
-- first one.
use Rattle.std.specs.Prelude.{ℕ, zero, suc, ◌+◌, ℤ, List, [], ◌∷◌, map}
use Rattle.sym_model.specs.BetaList.{beta, from_beta}
use Rattle.sym_model.specs.WholeTerms.{WholeTerms, WholeTermsOf}

-- the last entry of the list a ∷ b
abbrev pub last_entry : ℕ → List ℕ → ℕ
last_entry a [] = a
last_entry a (c ∷ b) = last_entry c b

-- the list a ∷ b without its last entry
abbrev pub first_entries : ℕ → List ℕ → List ℕ
first_entries a [] = []
first_entries a (c ∷ b) = a ∷ first_entries c b

-- n is added to the last entry of the list, which is moved to the front
abbrev pub lifted_once : ℕ → List ℕ → List ℕ
lifted_once n [] = []
lifted_once n (a ∷ b) = (last_entry a b + n) ∷ first_entries a b

-- `lifted_once`, p times
abbrev pub lifted : ℕ → ℕ → List ℕ → List ℕ
lifted n zero b = b
lifted n (suc p) b = lifted_once n (lifted n p b)

-- the partition of a fusion product for the label q^p·ν of a quantum product
abbrev pub lifted_label : ℕ → ℕ → ℕ × List ℕ → List ℕ
lifted_label k n label = from_beta (lifted n label.0 (beta k label.1))

-- the terms with each label q^p·ν replaced by this partition
abbrev pub all_lifted : ℕ → ℕ → WholeTermsOf (ℕ × List ℕ) → WholeTerms
all_lifted k n terms = map (λ (t : (ℕ × List ℕ) × ℤ). (lifted_label k n t.0, t.1)) terms
