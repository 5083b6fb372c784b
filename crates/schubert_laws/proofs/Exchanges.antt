-- Two neighbouring entries of a list exchanged, and one entry increased by 1, defined by recursion on the place, counted from 0.
--     exchange_at k w     w with the entries at the places k and k + 1 exchanged; it is `exchanged (k + 1) w`
--     raise k α           α with 1 added to the entry at place k: the exponents of x^α times a variable
--     `Rises k w`         the entry of w at place k is smaller than the next one
use Rattle.std.proofs.Common.{◌≡◌, ℕ, zero, suc, ◌+◌, ◌<◌, List, [], ◌∷◌, ◌++◌, length, replicate, set, get_or, refl, ap, ap₂, arith, inr, ◌⊎◌, cond, nat_lt, Some, None, rules}
use Rattle.std.specs.List.{swap}
use Rattle.std.proofs.lemmas.Bool.{ltb-true, ltb-false}
use Rattle.sym_model.specs.Polynomial.{join}
use Rattle.sym_model.specs.BetaList.{greater, rising_pairs}
use Rattle.sym_model.specs.Permutation.{exchanged, first_ascent}

abbrev pub exchange_at : ℕ → List ℕ → List ℕ
exchange_at zero [] = []
exchange_at zero (a ∷ []) = a ∷ []
exchange_at zero (a ∷ b ∷ w) = b ∷ a ∷ w
exchange_at (suc k) [] = []
exchange_at (suc k) (a ∷ w) = a ∷ exchange_at k w

abbrev pub raise : ℕ → List ℕ → List ℕ
raise k [] = []
raise zero (a ∷ α) = suc a ∷ α
raise (suc k) (a ∷ α) = a ∷ raise k α

abbrev pub Rises : ℕ → List ℕ → Type 0
Rises k [] = ⊥
Rises zero (a ∷ []) = ⊥
Rises zero (a ∷ b ∷ w) = a < b
Rises (suc k) (a ∷ w) = Rises k w

pub length-exchange_at : (k : ℕ) (w : List ℕ) → length (exchange_at k w) ≡ length w
length-exchange_at zero [] = refl
length-exchange_at zero (a ∷ []) = refl
length-exchange_at zero (a ∷ b ∷ w) = refl
length-exchange_at (suc k) [] = refl
length-exchange_at (suc k) (a ∷ w) = ap suc (length-exchange_at k w)

pub exchange_twice : (k : ℕ) (w : List ℕ) → exchange_at k (exchange_at k w) ≡ w
exchange_twice zero [] = refl
exchange_twice zero (a ∷ []) = refl
exchange_twice zero (a ∷ b ∷ w) = refl
exchange_twice (suc k) [] = refl
exchange_twice (suc k) (a ∷ w) = ap (λ v. a ∷ v) (exchange_twice k w)

pub length-raise : (k : ℕ) (α : List ℕ) → length (raise k α) ≡ length α
length-raise k [] = refl
length-raise zero (a ∷ α) = refl
length-raise (suc k) (a ∷ α) = ap suc (length-raise k α)

-- multiplying x^α by x_(k+1) adds 1 to the exponent at place k, counted from 0
pub join_raise : (k : ℕ) (α : List ℕ) → k < length α → join (replicate k 0 ++ (1 ∷ [])) α ≡ raise k α
join_raise k [] h = absurd (omega arith)
join_raise zero (a ∷ α) h = let e : 1 + a ≡ suc a = omega arith in ap (λ b. b ∷ α) e
join_raise (suc k) (a ∷ α) h = let e : 0 + a ≡ a = omega arith in ap₂ ◌∷◌ e (join_raise k α (omega arith))

set_two : (k : ℕ) (w : List ℕ) (d : ℕ) → suc k < length w → set (set w k (get_or w (suc k) d)) (suc k) (get_or w k d) ≡ exchange_at k w
set_two k [] d h = absurd (omega arith)
set_two zero (a ∷ []) d h = absurd (omega arith)
set_two zero (a ∷ b ∷ w) d h = refl
set_two (suc k) (a ∷ w) d h = ap (λ v. a ∷ v) (set_two k w d (omega arith))

swap_neighbours : (k : ℕ) (w : List ℕ) → suc k < length w → swap w k (suc k) ≡ exchange_at k w
swap_neighbours k [] h = absurd (omega arith)
swap_neighbours k (d ∷ w) h = set_two k (d ∷ w) d h

pub exchanged_is : (k : ℕ) (w : List ℕ) → suc k < length w → exchanged (suc k) w ≡ exchange_at k w
exchanged_is k w h = search (rules, swap_neighbours)

pub rises_within : (k : ℕ) (w : List ℕ) → Rises k w → suc k < length w
rises_within k [] r = absurd r
rises_within zero (a ∷ []) r = absurd r
rises_within zero (a ∷ b ∷ w) r = omega arith
rises_within (suc k) (a ∷ w) r = let h = rises_within k w r in omega arith

pub greater_exchange : (x k : ℕ) (w : List ℕ) → greater x (exchange_at k w) ≡ greater x w
greater_exchange x zero [] = refl
greater_exchange x zero (a ∷ []) = refl
greater_exchange x zero (a ∷ b ∷ w) = omega arith
greater_exchange x (suc k) [] = refl
greater_exchange x (suc k) (a ∷ w) = ap (λ n. cond (nat_lt x a) 1 0 + n) (greater_exchange x k w)

pub rising_pairs_exchange : (k : ℕ) (w : List ℕ) → Rises k w → rising_pairs w ≡ suc (rising_pairs (exchange_at k w))
rising_pairs_exchange k [] r = absurd r
rising_pairs_exchange zero (a ∷ []) r = absurd r
rising_pairs_exchange zero (a ∷ b ∷ w) r = search rules
rising_pairs_exchange (suc k) (a ∷ w) r = search (rules, greater_exchange, (rising_pairs_exchange k w r))

-- k + 1 is the first ascent of w, counted from 1: the entries at the places k and k + 1, counted from 0, increase, and no two neighbours before them
-- do
pub record IsFirstAscent (w : List ℕ) (k : ℕ) : Type 0 where
  pub is : first_ascent w ≡ Some (suc k)
  pub rises : Rises k w
  pub first : (j : ℕ) → j < k → Rises j w → ⊥

pub first_ascent_cases : (w : List ℕ) → ((k : ℕ) × IsFirstAscent w k) ⊎ ((first_ascent w ≡ None) × ((k : ℕ) → Rises k w → ⊥))
first_ascent_cases [] = inr (refl, λ k r. r)
first_ascent_cases (a ∷ []) = search rules
first_ascent_cases (a ∷ b ∷ w) = search (rules, ltb-true, ltb-false, (first_ascent_cases (b ∷ w)))
