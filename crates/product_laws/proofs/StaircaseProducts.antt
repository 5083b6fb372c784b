-- The expansion of a product f·s_λ in Schur polynomials is determined by the product a_ρ·f·s_λ.
use Rattle.std.proofs.Common.{◌≡◌, ◌⊎◌, ℕ, ◌<◌, ◌≤◌, cond, nat_le, List, length, sym, ◌∙◌, ap, inl, inr, arith, ℤ, pos, ◌*ℤ◌, filter, flat_map}
use Rattle.std.proofs.lemmas.Bool.{cases_lt, lt-leb, le-leb}
use Rattle.sym_model.specs.Sum.{total, Among}
use Rattle.sym_model.specs.Partition.{IsPartition, Holds, rows}
use Rattle.sym_model.specs.Polynomial.{Poly, Same, In, nothing, join, pair, times}
use Rattle.sym_model.specs.Symmetric.{Symmetric}
use Rattle.sym_model.specs.Schur.{schur}
use Rattle.sym_model.specs.Alternant.{alternant, alternants_over, staircase}
use Rattle.sym_model.proofs.Sums.{total_among, total_none, total_select}
use Rattle.sym_model.proofs.Exponents.{length-join}
use Rattle.sym_model.proofs.Polynomials.{pair_times_each, pair_ext, pair_zero, pair_factor, pair_each, pair_times, pair_determined, same_from_pair, times_respects, Same_refl, Same_sym, Same_trans, In_each, In_times}
use Rattle.sym_model.proofs.PolynomialLaws.{times_assoc, times_comm}
use Rattle.sym_model.proofs.Parts.{length-staircase, rows_held}
use Rattle.monomial_laws.proofs.SchurMajorants.{In-schur}
use Rattle.alternant_laws.proofs.AlternantProducts.{alternant_times, pair_alternants_over}
use Rattle.alternant_laws.proofs.Staircase.{staircase_cancels}
use Rattle.alternant_laws.proofs.SchurProducts.{bialternant, schur_few_variables}
use lib.IntN.{*ℤ-zero}
use Rattle.strip_laws.proofs.Containment.{Holds-get_or}

staircase_first : (n : ℕ) (parts : List ℕ) (f : Poly) (φ : List ℕ → ℤ) → IsPartition parts → rows parts ≤ n → In n f → Symmetric f
    → pair (times (alternant (staircase n)) (times f (schur parts n))) φ ≡ pair f (λ α. pair (alternant (join (join parts (staircase n)) α)) φ)
staircase_first n parts f φ p h i s =
    pair_determined (times (alternant (staircase n)) (times f (schur parts n))) (times (alternant (join parts (staircase n))) f) φ same
    ∙ pair_determined (times (alternant (join parts (staircase n))) f) (alternants_over (join parts (staircase n)) f) φ (alternant_times n (join parts (staircase n)) f long i s)
    ∙ pair_alternants_over n (join parts (staircase n)) f φ long i
  where
    A : Poly
    A = alternant (staircase n)

    S : Poly
    S = schur parts n

    long : length (join parts (staircase n)) ≡ n
    long = let a = length-join parts (staircase n) in let b = length-staircase n in omega arith

    same : Same (times A (times f S)) (times (alternant (join parts (staircase n))) f)
    same =
        Same_trans (times A (times f S)) (times A (times S f)) (times (alternant (join parts (staircase n))) f)
        (times_respects A A (times f S) (times S f) (Same_refl A) (times_comm f S))
        (Same_trans (times A (times S f)) (times (times A S) f) (times (alternant (join parts (staircase n))) f)
        (Same_sym (times (times A S) f) (times A (times S f)) (times_assoc A S f))
        (times_respects (times A S) (alternant (join parts (staircase n))) f f (bialternant n parts p h) (Same_refl f)))

-- let λ be `parts`, f be symmetric, and `list` be a list of partitions that contain λ: if a_ρ·f·s_λ is the sum of c(ν)·a_(ν + ρ) over the ν of `list`
-- with at most n rows, then f·s_λ is the sum of c(ν)·s_ν over `list`
pub strip_product : (n : ℕ) (parts : List ℕ) (f : Poly) (h : List ℕ → Poly) (c : List ℕ → ℤ) (list : List (List ℕ)) → IsPartition parts → In n f → Symmetric f
    → ((ν : List ℕ) → In n (h ν)) → ((ν : List ℕ) (φ : List ℕ → ℤ) → pair (h ν) φ ≡ c ν *ℤ pair (schur ν n) φ)
    → ((ν : List ℕ) → Among ν list → IsPartition ν × Holds ν parts)
    → (rows parts ≤ n → (φ : List ℕ → ℤ) → pair f (λ α. pair (alternant (join (join parts (staircase n)) α)) φ)
    ≡ total (λ (ν : List ℕ). c ν *ℤ pair (alternant (join ν (staircase n))) φ) (filter (λ (ν : List ℕ). nat_le (rows ν) n) list))
    → Same (times f (schur parts n)) (flat_map h list)
strip_product n parts f h c list p i s inside multiple shapes sums = by (cases_lt n (rows parts))
  where
    A : Poly
    A = alternant (staircase n)

    none : (ν : List ℕ) (φ : List ℕ → ℤ) → IsPartition ν → n < rows ν → pair (h ν) φ ≡ pos 0
    none ν φ q l = multiple ν φ ∙ ap (λ z. c ν *ℤ z) (pair_determined (schur ν n) nothing φ (schur_few_variables n ν q l)) ∙ *ℤ-zero (c ν)

    many_rows : n < rows parts → Same (times f (schur parts n)) (flat_map h list)
    many_rows l = same_from_pair (times f (schur parts n)) (flat_map h list) (λ φ.
        pair_times f (schur parts n) φ
        ∙ pair_ext f (λ α. pair (schur parts n) (λ β. φ (join α β))) (λ α. pos 0) (λ α. pair_determined (schur parts n) nothing (λ β. φ (join α β)) (schur_few_variables n parts p l))
        ∙ pair_zero f
        ∙ sym (pair_each h list φ ∙ total_none (λ (ν : List ℕ). pair (h ν) φ) list
        (λ ν m. let q = shapes ν m in let r = rows_held parts ν p.positive (Holds-get_or ν parts q.1) in none ν φ q.0 (omega arith))))

    one_shape : (φ : List ℕ → ℤ) (ν : List ℕ) → IsPartition ν → cond (nat_le (rows ν) n) (c ν *ℤ pair (alternant (join ν (staircase n))) φ) (pos 0) ≡ pair (times A (h ν)) φ
    one_shape φ ν q = sides (cases_lt n (rows ν))
      where
        sides : (n < rows ν) ⊎ (rows ν ≤ n) → cond (nat_le (rows ν) n) (c ν *ℤ pair (alternant (join ν (staircase n))) φ) (pos 0) ≡ pair (times A (h ν)) φ
        sides (inl l) =
            ap (λ b. cond b (c ν *ℤ pair (alternant (join ν (staircase n))) φ) (pos 0)) (lt-leb (rows ν) n l)
            ∙ sym (pair_times A (h ν) φ ∙ pair_ext A (λ α. pair (h ν) (λ β. φ (join α β))) (λ α. pos 0) (λ α. none ν (λ β. φ (join α β)) q l) ∙ pair_zero A)
        sides (inr l) =
            ap (λ b. cond b (c ν *ℤ pair (alternant (join ν (staircase n))) φ) (pos 0)) (le-leb (rows ν) n l)
            ∙ sym (pair_times A (h ν) φ
            ∙ pair_ext A (λ α. pair (h ν) (λ β. φ (join α β))) (λ α. c ν *ℤ pair (schur ν n) (λ β. φ (join α β))) (λ α. multiple ν (λ β. φ (join α β)))
            ∙ pair_factor (c ν) A (λ α. pair (schur ν n) (λ β. φ (join α β)))
            ∙ ap (λ z. c ν *ℤ z) (sym (pair_times A (schur ν n) φ) ∙ pair_determined (times A (schur ν n)) (alternant (join ν (staircase n))) φ (bialternant n ν q l)))

    few_rows : rows parts ≤ n → Same (times f (schur parts n)) (flat_map h list)
    few_rows l = staircase_cancels n (times f (schur parts n)) (flat_map h list) (In_times n f (schur parts n) i (In-schur parts n)) (In_each n h list (λ ν m. inside ν))
        (same_from_pair (times A (times f (schur parts n))) (times A (flat_map h list)) (λ φ.
        staircase_first n parts f φ p l i s
        ∙ sums l φ
        ∙ total_select (λ (ν : List ℕ). c ν *ℤ pair (alternant (join ν (staircase n))) φ) (λ (ν : List ℕ). nat_le (rows ν) n) list
        ∙ total_among (λ (ν : List ℕ). cond (nat_le (rows ν) n) (c ν *ℤ pair (alternant (join ν (staircase n))) φ) (pos 0)) (λ (ν : List ℕ). pair (times A (h ν)) φ) list (λ ν m. one_shape φ ν (shapes ν m).0)
        ∙ sym (pair_times_each A h list φ)))

    by : (n < rows parts) ⊎ (rows parts ≤ n) → Same (times f (schur parts n)) (flat_map h list)
    by (inl l) = many_rows l
    by (inr l) = few_rows l
