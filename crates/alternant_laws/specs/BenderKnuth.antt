-- Bender–Knuth involutions (Bender and Knuth; Stembridge, A concise proof of the
-- Littlewood–Richardson rule).
use Rattle.std.specs.Prelude.{◌≡◌, ◌⊎◌, ℕ, suc, List, [], ◌∷◌}
use Rattle.sym_model.specs.Sum.{Among}
use Rattle.sym_model.specs.Schur.{tableaux, times_in, letters_of}

-- `IsEither k a`: the letter a is k or k + 1
abbrev pub IsEither : ℕ → ℕ → Type 0
IsEither k a = (a ≡ k) ⊎ (a ≡ suc k)

-- the letters a and b are equal, or each of them is k or k + 1
abbrev pub AgreeBut : ℕ → ℕ → ℕ → Type 0
AgreeBut k a b = (a ≡ b) ⊎ (IsEither k a × IsEither k b)

-- the two rows have the same length, and at each place their letters are equal or each is k or k + 1
abbrev pub RowsAgreeBut : ℕ → List ℕ → List ℕ → Type 0
RowsAgreeBut k [] [] = Unit {0}
RowsAgreeBut k (a ∷ v) (b ∷ w) = AgreeBut k a b × RowsAgreeBut k v w
RowsAgreeBut k _ _ = ⊥

-- the two fillings have rows of the same lengths, and in each cell their letters are equal or each is k or k + 1
abbrev pub FillingsAgreeBut : ℕ → List (List ℕ) → List (List ℕ) → Type 0
FillingsAgreeBut k [] [] = Unit {0}
FillingsAgreeBut k (v ∷ T) (w ∷ U) = RowsAgreeBut k v w × FillingsAgreeBut k T U
FillingsAgreeBut k _ _ = ⊥

-- an involution on the semistandard tableaux of outer/inner with entries from 1 to n: it exchanges the number of entries k and the number of entries
-- k + 1, and leaves every other entry in its cell
pub record BenderKnuth (n k : ℕ) (outer inner : List ℕ) : Type 0 where
  pub exchange : List (List ℕ) → List (List ℕ)
  pub into : (T : List (List ℕ)) → Among T (tableaux n outer inner)
      → Among (exchange T) (tableaux n outer inner)
  pub twice : (T : List (List ℕ)) → Among T (tableaux n outer inner) → exchange (exchange T) ≡ T
  pub lower : (T : List (List ℕ)) → Among T (tableaux n outer inner)
      → times_in k (letters_of (exchange T)) ≡ times_in (suc k) (letters_of T)
  pub upper : (T : List (List ℕ)) → Among T (tableaux n outer inner)
      → times_in (suc k) (letters_of (exchange T)) ≡ times_in k (letters_of T)
  pub others : (T : List (List ℕ)) → Among T (tableaux n outer inner)
      → FillingsAgreeBut k T (exchange T)
