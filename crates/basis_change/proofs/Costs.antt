-- Bounds for the coefficients while labels are converted. A label is a pair of partitions; it denotes the basis polynomial of the first one times the
-- augmented monomial of the second one. If the second one has l parts and the size s, the cost of the label is l!·(2^s - 1), or 1 if s = 0;
-- converting a label does not increase the cost.
--     cost-conversion      the sum of |c|·cost, over the terms with the coefficients c that replace a label, is at most the cost of the label
--     ready-conversion     if the second partition has at most k + 1 parts, those of the labels that replace the label have at most k parts, and the
--                          bound d for the sum of the sizes of the two partitions is kept
--     mass-target, low-target    if the second partition has at most one part, the label is replaced by terms in the basis: the absolute values of
--                                their coefficients add up to at most the cost of the label, and their labels have at most d cells
use Rattle.std.proofs.Common.{◌≡◌, ◌⊎◌, ℕ, zero, suc, ◌+◌, ◌-◌, ◌*◌, ◌^◌, ◌<◌, ◌≤◌, List, [], ◌∷◌, ◌++◌, length, refl, sym, ap, ap₂, ◌∙◌, subst, inl, inr, arith, ℤ, pos, negsuc, rules}
use Rattle.std.specs.Prelude.{nat_abs}
use Rattle.std.proofs.lemmas.Bool.{cases_eq}
use Rattle.std.proofs.lemmas.Nat.{pow-add}
use Rattle.std.proofs.Common.{pow-suc}
use Rattle.sym_model.specs.Sum.{Among}
use Rattle.sym_model.specs.Partition.{IsPartition, size}
use Rattle.sym_model.specs.RaisedPart.{raise, without_one}
use Rattle.sym_model.specs.Weight.{factorial}
use Rattle.sym_model.specs.WholeTerms.{WholeTerms}
use Rattle.sym_model.proofs.Numbers.{power-positive}
use Rattle.sym_model.proofs.SortedParts.{IsPartition-raise, size-raise, rows-insert_part, has-zero_or, without_one_here, without_one_past, has-among}
use Rattle.monomial_laws.proofs.Growths.{factorial-positive, factorial-mono}
use Rattle.basis_change_laws.specs.JoinedLists.{merged, row, IsLow}
use Rattle.basis_change_laws.proofs.MergedParts.{IsPartition-merged, size-merged}
use Rattle.linear_combinations.specs.Gains.{HaveLabels, each_with, mass}
use Rattle.sym_model.proofs.WholeTerms.{labels_append}
use Rattle.linear_combinations.proofs.Masses.{labels_each}
use Rattle.family_lists.specs.FactorLists.{list_at}
use Rattle.basis_change.specs.AugmentedProducts.{MixedLabel, Mixed, IsReady, IsSmall, AreSmall, products, raised, conversion, in_target}
use Rattle.basis_change.specs.Costs.{doubled, cost}
use Rattle.basis_change.proofs.LastParts.{IsEnded}
use Rattle.basis_change.proofs.Conversions.{Stays, Ends, conversion-cases}
use Rattle.linear_combinations.specs.Gains.{weighed}
use Rattle.linear_combinations.proofs.Weighed.{weighed_append}
use native.Mathlib.Nat.{mul-pos, mul-le-mul_left, mul-le-mul_right}
use Rattle.std.proofs.Math.Nat.{one-mul}
use Rattle.sym_model.proofs.Ring.{one-product}
use Rattle.family_list_laws.proofs.IndependentPowerSums.{rows-raise}

doubled-positive : (s : ℕ) → 0 < doubled s
doubled-positive zero = omega arith
doubled-positive (suc s) = let h = power-positive 2 s (omega arith) in let e = pow-suc 2 s in omega arith

pub cost-positive : (l : MixedLabel) → 1 ≤ cost l
cost-positive l = mul-pos (factorial-positive (length l.1)) (doubled-positive (size l.1))

doubled-is : (n : ℕ) → 0 < n → doubled n ≡ 2 ^ n - 1
doubled-is zero h = absurd (omega arith)
doubled-is (suc n) h = refl

doubled-times : (P a s : ℕ) → P + 1 ≤ 2 ^ a → 0 < a → P * doubled s ≤ doubled (a + s)
doubled-times P a zero h p = let e : a + 0 ≡ a = omega arith in let d = ap doubled e ∙ doubled-is a p in omega arith
doubled-times P a (suc s) h p =
    let e = doubled-is (a + suc s) (omega arith) in
    let q = pow-add 2 a (suc s) in
    let u = power-positive 2 (suc s) (omega arith) in
    let m : (P + 1) * 2 ^ suc s ≤ 2 ^ a * 2 ^ suc s = mul-le-mul_right (2 ^ suc s) h in
    let l : P * doubled (suc s) ≤ P * 2 ^ suc s = mul-le-mul_left P (let t : 2 ^ suc s - 1 ≤ 2 ^ suc s = omega arith in t) in
    let g : (P + 1) * 2 ^ suc s ≡ P * 2 ^ suc s + 2 ^ suc s = omega arith in
    omega arith

cost-products : (factor : WholeTerms) (converted rest : List ℕ) → weighed cost (products factor converted rest) ≡ mass factor * (factorial (length rest) * doubled (size rest))
cost-products [] converted rest = omega arith
cost-products (t ∷ factor) converted rest = search (rules, (cost-products factor converted rest))

cost-each : (converted : List ℕ) (a : ℕ) (rest numbers : List ℕ) (B : ℕ) → ((b : ℕ) → Among b numbers → cost (converted, raise a b rest) ≤ B)
    → weighed cost (each_with (negsuc 0) (raised converted a rest numbers)) ≤ length numbers * B
cost-each converted a rest [] B h = omega arith
cost-each converted a rest (b ∷ numbers) B h = search (rules, one-mul, (cost-each converted a rest numbers B))

rows-without : (b : ℕ) (l : List ℕ) → Among b l → length (without_one b l) + 1 ≡ length l
rows-without b [] m = absurd m
rows-without b (d ∷ l) m = search (rules, cases_eq, without_one_here, without_one_past, (rows-without b l))

raise-size : (a b : ℕ) (rest : List ℕ) → IsPartition rest → Among b rest → size (raise a b rest) ≡ a + size rest
raise-size a b rest p m = size-raise a b rest p (has-zero_or b rest (inr (has-among b rest m)))

cost-raised : (converted : List ℕ) (a b : ℕ) (rest : List ℕ) → IsPartition rest → Among b rest → cost (converted, raise a b rest) ≤ factorial (length rest) * doubled (a + size rest)
cost-raised converted a b rest p m = search (rules, factorial-mono, rows-raise, raise-size, mul-le-mul_right)

cost-last : (factor : WholeTerms) (converted : List ℕ) (a : ℕ) (rest parts : List ℕ) → IsSmall a factor → IsEnded a rest parts
    → weighed cost (products factor converted rest ++ each_with (negsuc 0) (raised converted a rest rest)) ≤ cost (converted, parts)
cost-last factor converted a rest parts is p =
    let P = mass factor in
    let F = factorial (length rest) in
    let D = doubled (a + size rest) in
    let x = weighed_append cost (products factor converted rest) (each_with (negsuc 0) (raised converted a rest rest)) in
    let y = cost-products factor converted rest in
    let z = cost-each converted a rest rest (F * D) (λ b m. cost-raised converted a b rest p.before m) in
    let d = doubled-times P a (size rest) is.few p.positive in
    let e : F * (P * doubled (size rest)) ≤ F * D = mul-le-mul_left F d in
    let same : cost (converted, parts) ≡ suc (length rest) * F * D = ap₂ (λ r s. factorial r * doubled s) p.count p.cells in
    subst (λ k. weighed cost (products factor converted rest ++ each_with (negsuc 0) (raised converted a rest rest)) ≤ k) (sym same)
    (closing (weighed cost (products factor converted rest)) (weighed cost (each_with (negsuc 0) (raised converted a rest rest))) (weighed cost (products factor converted rest ++ each_with (negsuc 0) (raised converted a rest rest))) P F (doubled (size rest)) D (length rest) x y z e)
  where
    closing : (u v t P F d D r : ℕ) → t ≡ u + v → u ≡ P * (F * d) → v ≤ r * (F * D) → F * (P * d) ≤ F * D → t ≤ suc r * F * D
    closing u v t P F d D r x y z e =
        let m : P * (F * d) ≡ F * (P * d) = omega arith in
        let n : suc r * F * D ≡ F * D + r * (F * D) = omega arith in
        omega arith

pub list_of : (factors : List WholeTerms) (a : ℕ) → AreSmall factors → 0 < a → a ≤ length factors → IsSmall a (list_at factors (a - 1))
list_of factors a small p l = search rules

pub cost-conversion : (most count : ℕ) (factors : List WholeTerms) (l : MixedLabel) → AreSmall factors → IsReady (length factors) most l → weighed cost (conversion factors count l) ≤ cost l
cost-conversion most count factors l small ready = search (rules, conversion-cases, cost-last, list_of)

labels-products : (P : MixedLabel → Type 0) (factor : WholeTerms) (converted rest : List ℕ) → ((t : List ℕ × ℤ) → Among t factor → P (merged converted t.0, rest)) → HaveLabels P (products factor converted rest)
labels-products P [] converted rest h t m = absurd m
labels-products P (u ∷ factor) converted rest h t (inl e) = subst P (sym (ap (λ (x : MixedLabel × ℤ). x.0) e)) (h u (inl refl))
labels-products P (u ∷ factor) converted rest h t (inr m) = labels-products P factor converted rest (λ v n. h v (inr n)) t m

among-raised : (converted : List ℕ) (a : ℕ) (rest numbers : List ℕ) (P : MixedLabel → Type 0) → ((b : ℕ) → Among b numbers → P (converted, raise a b rest)) → (x : MixedLabel) → Among x (raised converted a rest numbers) → P x
among-raised converted a rest [] P h x m = absurd m
among-raised converted a rest (b ∷ numbers) P h x (inl e) = subst P (sym e) (h b (inl refl))
among-raised converted a rest (b ∷ numbers) P h x (inr m) = among-raised converted a rest numbers P (λ d n. h d (inr n)) x m

pub ready-conversion : (most : ℕ) (factors : List WholeTerms) (l : MixedLabel) → AreSmall factors → IsReady (length factors) (suc most) l
    → HaveLabels (IsReady (length factors) most) (conversion factors (suc most) l)
ready-conversion most factors l small ready = by (conversion-cases factors (suc most) l ready.augmented)
  where
    by : Stays factors (suc most) l ⊎ Ends factors (suc most) l → HaveLabels (IsReady (length factors) most) (conversion factors (suc most) l)
    by (inl s) = subst (λ (x : Mixed). HaveLabels (IsReady (length factors) most) x) (sym s.is) one
      where
        fewer : (length l.1 ≡ suc most) ⊎ (length l.1 ≡ suc most → ⊥) → length l.1 ≤ most
        fewer (inl e) = absurd (let z = s.none e in omega arith)
        fewer (inr n) = let few = ready.few in omega arith

        one : HaveLabels (IsReady (length factors) most) ((l, pos 1) ∷ [])
        one t (inl e) =
            subst (IsReady (length factors) most) (sym (ap (λ (x : MixedLabel × ℤ). x.0) e))
            (record { converted = ready.converted; augmented = ready.augmented; low = ready.low; few = fewer (cases_eq (length l.1) (suc most)) })
        one t (inr m) = absurd m
    by (inr e) =
        let p = e.ended in
        let cells = p.cells in
        let count = p.count in
        let low = ready.low in
        let few = ready.few in
        let is = list_of factors e.a small p.positive (omega arith) in
        subst (λ (x : Mixed). HaveLabels (IsReady (length factors) most) x) (sym e.is)
        (labels_append (IsReady (length factors) most) (products (list_at factors (e.a - 1)) l.0 e.rest) (each_with (negsuc 0) (raised l.0 e.a e.rest e.rest))
        (labels-products (IsReady (length factors) most) (list_at factors (e.a - 1)) l.0 e.rest
        (λ t m.
        let k : IsLow e.a t.0 = is.low t m in
        let small_label = k.low in
        let both = size-merged l.0 t.0 in
        record { converted = IsPartition-merged l.0 t.0 k.partition; augmented = p.before; low = omega arith; few = omega arith }))
        (labels_each (IsReady (length factors) most) (negsuc 0) (raised l.0 e.a e.rest e.rest)
        (among-raised l.0 e.a e.rest e.rest (IsReady (length factors) most)
        (λ b m.
        let x = raise-size e.a b e.rest p.before m in
        let y = rows-raise e.a b e.rest m in
        record { converted = ready.converted; augmented = IsPartition-raise e.a b e.rest p.before; low = omega arith; few = omega arith }))))

pub mass-target : (factors : List WholeTerms) (l : MixedLabel) → AreSmall factors → IsReady (length factors) 1 l → weighed (λ x. 1) (in_target factors l) ≤ cost l
mass-target factors (converted, []) small ready = let p = cost-positive (converted, []) in (let one : 1 * 1 + 0 ≤ 1 = omega arith in omega arith)
mass-target factors (converted, (a ∷ rest)) small ready =
    let low = ready.low in
    let is = list_of factors a small ready.augmented.positive.0 (omega arith) in
    subst (λ r. weighed (λ x. 1) (row converted (pos 1) (list_at factors (a - 1))) ≤ factorial (suc (length r)) * doubled (a + size r)) (sym (none rest ready.few))
    (let m = mass-row (list_at factors (a - 1)) in
    let d = doubled-is (a + 0) (let p = ready.augmented.positive.0 in omega arith) in
    let e : a + 0 ≡ a = omega arith in
    let g = ap (λ k. 2 ^ k) e in
    let few = is.few in
    let f : factorial 1 * doubled (a + 0) ≡ doubled (a + 0) = one-mul (doubled (a + 0)) in
    omega arith)
  where
    none : (rest : List ℕ) → suc (length rest) ≤ 1 → rest ≡ []
    none [] h = refl
    none (b ∷ rest) h = absurd (omega arith)

    mass-row : (V : WholeTerms) → weighed (λ x. 1) (row converted (pos 1) V) ≡ mass V
    mass-row [] = refl
    mass-row (t ∷ V) = let r = mass-row V in let o = ap nat_abs (one-product t.1) in omega arith

pub low-target : (d : ℕ) (factors : List WholeTerms) (l : MixedLabel) → AreSmall factors → length factors ≡ d → IsReady (length factors) 1 l → HaveLabels (λ label. size label ≤ d) (in_target factors l)
low-target d factors (converted, []) small is ready t (inl e) = search rules
low-target d factors (converted, []) small is ready t (inr m) = absurd m
low-target d factors (converted, (a ∷ rest)) small is ready t m =
    let low = ready.low in
    let list = list_of factors a small ready.augmented.positive.0 (omega arith) in
    row-low (list_at factors (a - 1)) list.low m
  where
    row-low : (V : WholeTerms) → HaveLabels (IsLow a) V → Among t (row converted (pos 1) V) → size t.0 ≤ d
    row-low [] h n = absurd n
    row-low (u ∷ V) h (inl e) =
        let low = ready.low in
        let k = (h u (inl refl)).low in
        let b = size-merged converted u.0 in
        let s = ap (λ (x : List ℕ × ℤ). size x.0) e in
        omega arith
    row-low (u ∷ V) h (inr n) = row-low V (λ v o. h v (inr o)) n
