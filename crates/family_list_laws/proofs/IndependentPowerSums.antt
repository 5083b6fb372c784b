-- Power sums: p_λ is a positive multiple of m_λ plus multiples of m_ν with fewer rows. So the p_λ are linearly
-- independent.
use Rattle.std.proofs.Common.{◌≡◌, ◌⊎◌, ℕ, suc, ◌+◌, ◌<◌, ◌≤◌, Bool, true, false, cond, List, [], ◌∷◌, ◌++◌, map}
use Rattle.std.proofs.Common.{flat_map, length, replicate, refl, sym, ap, ap₂, ◌∙◌, subst, inl, inr, arith, ℤ, pos}
use Rattle.std.proofs.Common.{◌*ℤ◌, ◌+ℤ◌}
use Rattle.std.proofs.lemmas.Bool.{cases_lt}
use Rattle.std.proofs.lemmas.Int.{ints}
use lib.IntN.{*ℤ-zero, +ℤ_assoc}
use Rattle.sym_model.specs.Sum.{Among, total}
use Rattle.sym_model.specs.Polynomial.{pair, same, join, times, plus, one, resize}
use Rattle.sym_model.specs.Partition.{IsPartition, rows, sorted_parts, insert_part}
use Rattle.sym_model.specs.RaisedPart.{raise, without_one}
use Rattle.sym_model.specs.Bases.{monomial, power_sum, power_sum_of}
use Rattle.basis_change_laws.specs.AugmentedMonomial.{augmented, multiplicity_factorials}
use Rattle.sym_model.proofs.Ring.{one-product, product-one}
use Rattle.sym_model.proofs.Sums.{total_append, total_map, total_each, total_ext, total_among, total_none}
use Rattle.sym_model.proofs.Sums.{Among_from_append, Among_from_map, Among_from_each}
use Rattle.sym_model.proofs.Exponents.{same_true, same_from, same_apart}
use Rattle.sym_model.proofs.Polynomials.{at_only, pair_determined, pair_plus, pair_each, pair_times, pair_ext}
use Rattle.sym_model.proofs.Polynomials.{pair_add, pair_total, pair_scale}
use Rattle.sym_model.proofs.SortedParts.{sorted_parts-zeros, insert_part-front, IsPartition-insert_part}
use Rattle.sym_model.proofs.SortedParts.{IsPartition-raise, IsPartition_tail, rows-insert_part, has-among}
use Rattle.basis_change_laws.proofs.AugmentedMonomials.{power_sum_times_augmented}
use Rattle.basis_change_laws.proofs.NewtonLists.{one-monomials}
use Rattle.family_list_laws.proofs.PartQuotients.{taken-length, multiplicities-positive}
use Rattle.independence_laws.proofs.LeastLabels.{FindsLeast, independent_by_least}
use Rattle.independence_laws.specs.Independence.{AreIndependent, HasRows}
use Rattle.independence_laws.proofs.Entries.{same-decides}
use Rattle.monomial_laws.proofs.IndependentMonomials.{monomial-dual}

-- p_x is the augmented monomial polynomial of x plus those of partitions with fewer rows
record IsRaised (x : List ℕ) : Type 0 where
  rest : List (List ℕ)
  fewer : (ν : List ℕ) → Among ν rest → IsPartition ν × (rows ν < rows x)
  sum : (n : ℕ) (ψ : List ℕ → ℤ)
      → pair (power_sum x n) ψ ≡ pair (augmented x n) ψ +ℤ total (λ (ν : List ℕ). pair (augmented ν n) ψ) rest

times_augmented : (a n : ℕ) (parts : List ℕ) (ψ : List ℕ → ℤ) → 0 < a → IsPartition parts
    → pair (times (power_sum_of a n) (augmented parts n)) ψ ≡ pair (augmented (insert_part a parts) n) ψ +ℤ total (λ (b : ℕ). pair (augmented (raise a b parts) n) ψ) parts
times_augmented a n parts ψ h p =
    pair_determined (times (power_sum_of a n) (augmented parts n)) (plus (augmented (insert_part a parts) n) (flat_map (λ b. augmented (raise a b parts) n) parts)) ψ (power_sum_times_augmented a n parts h p)
    ∙ pair_plus (augmented (insert_part a parts) n) (flat_map (λ b. augmented (raise a b parts) n) parts) ψ
    ∙ ap (λ z. pair (augmented (insert_part a parts) n) ψ +ℤ z) (pair_each (λ (b : ℕ). augmented (raise a b parts) n) parts ψ)

pub rows-raise : (a b : ℕ) (parts : List ℕ) → Among b parts → rows (raise a b parts) ≤ rows parts
rows-raise a b parts m =
    let t = taken-length b parts (has-among b parts m) in
    let r = rows-insert_part (a + b) (without_one b parts) in
    omega arith

-- the labels of p_a times the augmented monomial polynomials of the labels ν
next : ℕ → List (List ℕ) → List (List ℕ)
next a rest = flat_map (λ ν. insert_part a ν ∷ map (λ b. raise a b ν) ν) rest

next-total : (a : ℕ) (f : List ℕ → ℤ) (rest : List (List ℕ))
    → total f (next a rest) ≡ total (λ (ν : List ℕ). f (insert_part a ν) +ℤ total (λ (b : ℕ). f (raise a b ν)) ν) rest
unfolding next
next-total a f rest =
    total_each f (λ (ν : List ℕ). insert_part a ν ∷ map (λ b. raise a b ν) ν) rest
    ∙ total_ext (λ (ν : List ℕ). total f (insert_part a ν ∷ map (λ b. raise a b ν) ν)) (λ (ν : List ℕ). f (insert_part a ν) +ℤ total (λ (b : ℕ). f (raise a b ν)) ν)
    (λ ν. ap (λ z. f (insert_part a ν) +ℤ z) (total_map f (λ b. raise a b ν) ν)) rest

raised : (x : List ℕ) → IsPartition x → IsRaised x
unfolding next
raised [] p = record {
  rest = [];
  fewer = λ ν m. absurd m;
  sum = λ n ψ.
      let unit = pair_scale (pos 1) (monomial [] n) ψ ∙ one-product (pair (monomial [] n) ψ) in
      let is = pair_determined (monomial [] n) (one n) ψ (one-monomials (λ α. same (sorted_parts α) []) n (same_from (sorted_parts (replicate n 0)) [] (sorted_parts-zeros n))) in
      omega (arith, ints);
}
raised (a ∷ parts) p = by (raised parts (IsPartition_tail a parts p))
  where
    q : IsPartition parts
    q = IsPartition_tail a parts p

    by : IsRaised parts → IsRaised (a ∷ parts)
    by r = record { rest = map (λ b. raise a b parts) parts ++ next a r.rest; fewer = fewer; sum = sum }
      where
        fewer : (ν : List ℕ) → Among ν (map (λ b. raise a b parts) parts ++ next a r.rest)
            → IsPartition ν × (rows ν < suc (rows parts))
        fewer ν m = elim (Among_from_append ν (map (λ b. raise a b parts) parts) (next a r.rest) m) [
          | inl i ↦
              let s = Among_from_map (λ b. raise a b parts) ν parts i in
              let l = rows-raise a s.0 parts s.1 in
              let e = ap length s.2 in
              (subst IsPartition (sym s.2) (IsPartition-raise a s.0 parts q), omega arith)
          | inr i ↦
              let s = Among_from_each (λ (κ : List ℕ). insert_part a κ ∷ map (λ b. raise a b κ) κ) ν r.rest i in
              let f = r.fewer s.0 s.1 in
              let few = f.1 in
              elim s.2 [
                | inl e ↦ let l = rows-insert_part a s.0 in let d = ap length e in (subst IsPartition (sym e) (IsPartition-insert_part a s.0 f.0), omega arith)
                | inr j ↦
                    let u = Among_from_map (λ b. raise a b s.0) ν s.0 j in
                    let l = rows-raise a u.0 s.0 u.1 in
                    let d = ap length u.2 in
                    (subst IsPartition (sym u.2) (IsPartition-raise a u.0 s.0 f.0), omega arith)
              ]
        ]

        sum : (n : ℕ) (ψ : List ℕ → ℤ) → pair (times (power_sum_of a n) (power_sum parts n)) ψ
            ≡ pair (augmented (a ∷ parts) n) ψ +ℤ total (λ (ν : List ℕ). pair (augmented ν n) ψ) (map (λ b. raise a b parts) parts ++ next a r.rest)
        sum n ψ =
            let F : List ℕ → ℤ = λ (ν : List ℕ). pair (augmented ν n) ψ in
            let A = total (λ (b : ℕ). pair (augmented (raise a b parts) n) ψ) parts in
            let first : pair (times (power_sum_of a n) (augmented parts n)) ψ ≡ pair (augmented (a ∷ parts) n) ψ +ℤ A =
            times_augmented a n parts ψ p.positive.0 q
            ∙ ap (λ l. pair (augmented l n) ψ +ℤ A) (insert_part-front a parts p.positive.0 p.falls) in
            let others : total (λ (ν : List ℕ). pair (times (power_sum_of a n) (augmented ν n)) ψ) r.rest ≡ total F (next a r.rest) =
            total_among (λ (ν : List ℕ). pair (times (power_sum_of a n) (augmented ν n)) ψ) (λ (ν : List ℕ). F (insert_part a ν) +ℤ total (λ (b : ℕ). F (raise a b ν)) ν) r.rest
            (λ ν m. times_augmented a n ν ψ p.positive.0 (r.fewer ν m).0) ∙ sym (next-total a F r.rest) in
            let whole : total F (map (λ b. raise a b parts) parts ++ next a r.rest) ≡ A +ℤ total F (next a r.rest) =
            total_append F (map (λ b. raise a b parts) parts) (next a r.rest)
            ∙ ap (λ z. z +ℤ total F (next a r.rest)) (total_map F (λ b. raise a b parts) parts) in
            let split = product_is n ψ in
            split ∙ ap₂ (λ x y. x +ℤ y) first others
            ∙ +ℤ_assoc (pair (augmented (a ∷ parts) n) ψ) A (total F (next a r.rest))
            ∙ ap (λ z. pair (augmented (a ∷ parts) n) ψ +ℤ z) (sym whole)
          where
            product_is : (n : ℕ) (ψ : List ℕ → ℤ) → pair (times (power_sum_of a n) (power_sum parts n)) ψ
                ≡ pair (times (power_sum_of a n) (augmented parts n)) ψ +ℤ total (λ (ν : List ℕ). pair (times (power_sum_of a n) (augmented ν n)) ψ) r.rest
            product_is n ψ =
                pair_times (power_sum_of a n) (power_sum parts n) ψ
                ∙ pair_ext (power_sum_of a n) (λ α. pair (power_sum parts n) (λ β. ψ (join α β)))
                (λ α. pair (augmented parts n) (λ β. ψ (join α β)) +ℤ total (λ (ν : List ℕ). pair (augmented ν n) (λ β. ψ (join α β))) r.rest) (λ α. r.sum n (λ β. ψ (join α β)))
                ∙ pair_add (power_sum_of a n) (λ α. pair (augmented parts n) (λ β. ψ (join α β))) (λ α. total (λ (ν : List ℕ). pair (augmented ν n) (λ β. ψ (join α β))) r.rest)
                ∙ ap₂ (λ x y. x +ℤ y) (sym (pair_times (power_sum_of a n) (augmented parts n) ψ))
                (pair_total (power_sum_of a n) (λ (ν : List ℕ) (α : List ℕ). pair (augmented ν n) (λ β. ψ (join α β))) r.rest
                ∙ total_ext (λ (ν : List ℕ). pair (power_sum_of a n) (λ α. pair (augmented ν n) (λ β. ψ (join α β)))) (λ (ν : List ℕ). pair (times (power_sum_of a n) (augmented ν n)) ψ)
                (λ ν. sym (pair_times (power_sum_of a n) (augmented ν n) ψ)) r.rest)

augmented-dual : (n : ℕ) (x label : List ℕ) → HasRows n x → HasRows n label
    → pair (augmented x n) (at_only (resize n label)) ≡ pos (multiplicity_factorials x) *ℤ cond (same x label) (pos 1) (pos 0)
augmented-dual n x label p q =
    pair_scale (pos (multiplicity_factorials x)) (monomial x n) (at_only (resize n label))
    ∙ ap (λ z. pos (multiplicity_factorials x) *ℤ z) (monomial-dual n x label p q)

-- x has at most as many rows as `label`
abbrev pub HasFewer : List ℕ → List ℕ → Type 0
HasFewer label x = rows x ≤ rows label

pub power_sum-finds : (n : ℕ) (label : List ℕ) → HasRows n label
    → FindsLeast same (HasRows n) HasFewer (λ parts. power_sum parts n) label
power_sum-finds n label q = record { φ = at_only (resize n label); u = multiplicity_factorials label; some = multiplicities-positive label; finds = finds }
  where
    counted : (x : List ℕ) (b : Bool) → (b ≡ true → x ≡ label)
        → pos (multiplicity_factorials x) *ℤ cond b (pos 1) (pos 0) ≡ cond b (pos (multiplicity_factorials label)) (pos 0)
    counted x true e =
        product-one (pos (multiplicity_factorials x)) ∙ ap (λ l. pos (multiplicity_factorials l)) (e refl)
    counted x false e = *ℤ-zero (pos (multiplicity_factorials x))

    finds : (x : List ℕ) → HasRows n x → rows x ≤ rows label
        → pair (power_sum x n) (at_only (resize n label)) ≡ cond (same x label) (pos (multiplicity_factorials label)) (pos 0)
    finds x p h =
        let r = raised x p.0 in
        let few = p.1 in
        r.sum n (at_only (resize n label))
        ∙ ap₂ (λ a b. a +ℤ b) (augmented-dual n x label p q ∙ counted x (same x label) (λ e. same_true x label e))
        (total_none (λ (ν : List ℕ). pair (augmented ν n) (at_only (resize n label))) r.rest
        (λ ν m.
        let f = r.fewer ν m in
        let less = f.1 in
        augmented-dual n ν label (f.0, omega arith) q
        ∙ ap (λ b. pos (multiplicity_factorials ν) *ℤ cond b (pos 1) (pos 0)) (same_apart ν label (λ e. let d = ap length e in absurd (omega arith)))
        ∙ *ℤ-zero (pos (multiplicity_factorials ν))))
        ∙ omega (arith, ints)

pub rows_total : (x y : List ℕ) → HasFewer x y ⊎ HasFewer y x
rows_total x y = elim (cases_lt (rows x) (rows y)) [ inl h ↦ inr (omega arith) | inr h ↦ inl h ]

pub power_sums-independent : (n : ℕ) → AreIndependent same (HasRows n) (λ parts. power_sum parts n)
power_sums-independent n =
    independent_by_least same same-decides (HasRows n) HasFewer rows_total (λ x y z h k. omega arith) (λ parts. power_sum parts n) (power_sum-finds n)
