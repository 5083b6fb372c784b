-- A label is a pair of partitions λ and μ. It denotes the basis polynomial of λ in the basis e, h or p times the augmented monomial of μ, which is
-- m_μ times the factorials of the multiplicities of the parts of μ. The conversion of a label is the list of terms that replace the label; it removes
-- the last part of μ.
--     conversion-cases                  the label is converted at the last part of its augmented monomial, or it replaces itself
--     converted_terms, target_terms     the terms that the program adds are those of the conversion
use Rattle.std.proofs.Common.{◌≡◌, ◌⊎◌, ℕ, ◌-◌, ◌<◌, ◌≤◌, cond, List, [], ◌∷◌, ◌++◌, length, refl, sym, ap, ap₂, ◌∙◌, inl, inr, arith, ℤ, pos, negsuc, neg_ℤ}
use Rattle.std.proofs.lemmas.Bool.{cases_eq, cases_lt, eq-eqb, ne_eqb}
use Rattle.sym_model.specs.Partition.{IsPartition}
use Rattle.sym_model.specs.WholeTerms.{WholeTerms}
use Rattle.sym_model.proofs.Integers.{product-neg_one}
use Rattle.sym_model.proofs.Ring.{product-one}
use Rattle.basis_change_laws.specs.JoinedLists.{row}
use Rattle.linear_combinations.specs.Gains.{each_with, scaled}
use Rattle.linear_combinations.proofs.Gains.{scaled_append}
use Rattle.linear_combinations.proofs.Masses.{scaled_each}
use Rattle.family_lists.specs.FactorLists.{list_at}
use Rattle.family_lists.proofs.RowSteps.{row-gained}
use Rattle.basis_change.specs.AugmentedProducts.{MixedLabel, Mixed, products, raised, conversion_of, conversion, in_target}
use Rattle.basis_change.proofs.LastParts.{IsEnded, last_part, part-end, take-before}

-- the terms that replace the label of `converted` and `rest` ++ [a]: the terms of p_a times `converted`, each with the second partition `rest`; and,
-- for each part of `rest`, the label of `converted` and `rest` with this part increased by a, with the coefficient -1
abbrev pub at_last : List WholeTerms → List ℕ → ℕ → List ℕ → Mixed
at_last factors converted a rest = products (list_at factors (a - 1)) converted rest ++ each_with (negsuc 0) (raised converted a rest rest)

-- the label replaces itself, since its augmented monomial has no parts or a number of parts other than `count`
pub record Stays (factors : List WholeTerms) (count : ℕ) (label : MixedLabel) : Type 0 where
  pub is : conversion factors count label ≡ (label, pos 1) ∷ []
  pub none : length label.1 ≡ count → count ≡ 0

-- the label is replaced by its conversion at the last part a of its augmented monomial
pub record Ends (factors : List WholeTerms) (count : ℕ) (label : MixedLabel) : Type 0 where
  pub a : ℕ
  pub rest : List ℕ
  pub ended : IsEnded a rest label.1
  pub is : conversion factors count label ≡ at_last factors label.0 a rest

last : (factors : List WholeTerms) (converted : List ℕ) (a : ℕ) (rest : List ℕ) → conversion_of factors converted (rest ++ a ∷ []) ≡ at_last factors converted a rest
last factors converted a [] = refl
last factors converted a (b ∷ rest) =
    ap₂ (λ k l. at_last factors converted k l) (part-end (b ∷ rest) a) (take-before (b ∷ rest) a)

stay : (factors : List WholeTerms) (count : ℕ) (label : MixedLabel) → (length label.1 ≡ count → ⊥) → conversion factors count label ≡ (label, pos 1) ∷ []
stay factors count label n = ap (λ b. cond b (conversion_of factors label.0 label.1) ((label, pos 1) ∷ [])) (ne_eqb (length label.1) count n)

here : (factors : List WholeTerms) (count : ℕ) (label : MixedLabel) → length label.1 ≡ count → conversion factors count label ≡ conversion_of factors label.0 label.1
here factors count label e = ap (λ b. cond b (conversion_of factors label.0 label.1) ((label, pos 1) ∷ [])) (eq-eqb (length label.1) count e)

pub not_counted : (factors : List WholeTerms) (count : ℕ) (label : MixedLabel) → (length label.1 ≡ count → ⊥) → Stays factors count label
not_counted factors count label n = record { is = stay factors count label n; none = λ e. absurd (n e) }

pub nothing_left : (factors : List WholeTerms) (count : ℕ) (label : MixedLabel) → length label.1 ≡ count → length label.1 ≡ 0 → Stays factors count label
nothing_left factors count (converted, []) e n = record { is = here factors count (converted, []) e; none = λ k. omega arith }
nothing_left factors count (converted, (b ∷ rest)) e n = absurd (omega arith)

pub converts : (factors : List WholeTerms) (count : ℕ) (label : MixedLabel) (a : ℕ) (rest : List ℕ) → length label.1 ≡ count → IsEnded a rest label.1 → conversion factors count label ≡ at_last factors label.0 a rest
converts factors count label a rest e p = here factors count label e ∙ ap (conversion_of factors label.0) p.is ∙ last factors label.0 a rest

pub conversion-cases : (factors : List WholeTerms) (count : ℕ) (label : MixedLabel) → IsPartition label.1 → Stays factors count label ⊎ Ends factors count label
conversion-cases factors count label p = by (cases_eq (length label.1) count) (cases_lt 0 (length label.1))
  where
    by : (length label.1 ≡ count) ⊎ (length label.1 ≡ count → ⊥) → (0 < length label.1) ⊎ (length label.1 ≤ 0) → Stays factors count label ⊎ Ends factors count label
    by (inr n) k = inl (not_counted factors count label n)
    by (inl e) (inr k) = inl (nothing_left factors count label e (omega arith))
    by (inl e) (inl k) = let s = last_part label.1 p k in inr (record { a = s.0; rest = s.1; ended = s.2; is = converts factors count label s.0 s.1 e s.2 })

module _ (factors : List WholeTerms) (label : MixedLabel) (factor : WholeTerms) (a : ℕ) (is : list_at factors (a - 1) ≡ factor) (rest : List ℕ) (c : ℤ) where
  pub converted_terms : (count : ℕ) → length label.1 ≡ count → IsEnded a rest label.1
      → scaled c (products factor label.0 rest) ++ each_with (neg_ℤ c) (raised label.0 a rest rest) ≡ scaled c (conversion factors count label)
  converted_terms count e p =
      sym
      (ap (scaled c) (converts factors count label a rest e p)
      ∙ scaled_append c (products (list_at factors (a - 1)) label.0 rest) (each_with (negsuc 0) (raised label.0 a rest rest))
      ∙ ap₂ (λ (xs ys : Mixed). xs ++ ys) (ap (λ v. scaled c (products v label.0 rest)) is)
      (scaled_each c (negsuc 0) (raised label.0 a rest rest) ∙ ap (λ z. each_with z (raised label.0 a rest rest)) (product-neg_one c)))

  pub target_terms : label.1 ≡ a ∷ rest → row label.0 c factor ≡ scaled c (in_target factors label)
  target_terms e =
      ap (λ z. row label.0 z factor) (sym (product-one c)) ∙ row-gained label.0 c (pos 1) factor
      ∙ ap (λ v. scaled c (row label.0 (pos 1) v)) (sym is) ∙ ap (scaled c) (sym (one label e))
    where
      one : (label : MixedLabel) → label.1 ≡ a ∷ rest → in_target factors label ≡ row label.0 (pos 1) (list_at factors (a - 1))
      one (converted, []) e = cc
      one (converted, (b ∷ others)) e = ap (λ x. row converted (pos 1) (list_at factors (x - 1))) (let h : b ≡ a = cc in h)
