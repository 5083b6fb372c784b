-- The multinomial coefficients of all arrangements of all partitions of s in n places add up to at most n^s.
--     total-mono             if f(x) ≤ g(x) for each x, the sum of f is at most the sum of g
--     multinomial            the coefficient of x^α in the power of x_1 + .. + x_n with the exponent |α|
--     multinomials-within    the coefficients of the arrangements of different partitions of s add up to at most n^s
--     arranged-within        the sum of a number N over the arrangements of a partition, if N is at most C times the multinomial coefficient
use Rattle.std.proofs.Common.{◌≡◌, ◌⊎◌, ℕ, zero, suc, ◌*◌, ◌^◌, ◌≤◌, Bool, true, false, cond, eqb, List, [], ◌∷◌, map, refl, sym, ap, ◌∙◌, subst, inl, inr, arith, pow-suc, ℤ, pos, ◌+ℤ◌, ◌*ℤ◌}
use Rattle.std.specs.Prelude.{◌≤ℤ◌}
use Rattle.std.proofs.Common.{negsuc}
use Rattle.std.proofs.lemmas.Int.{ints}
use Rattle.std.proofs.lemmas.Bool.{cases_eq, eq-eqb, ne_eqb}
use Rattle.std.proofs.Math.Nat.{pow-zero, mul_assoc}
use Rattle.sym_model.specs.Sum.{total, Among, Once}
use Rattle.sym_model.specs.Polynomial.{same, coefficient, pair}
use Rattle.sym_model.specs.Partition.{size, after, sorted_parts}
use Rattle.sym_model.specs.Bases.{exponent_lists}
use Rattle.sym_model.specs.Schur.{words, content}
use Rattle.sym_model.specs.Arrangement.{arrangements}
use Rattle.sym_model.specs.Weight.{factorial}
use Rattle.sym_model.specs.ListWeight.{factorials}
use Rattle.sym_model.proofs.AfterLists.{length_after}
use Rattle.sym_model.proofs.Sums.{total_ext, total_map, total_each, total_select, total_exchange, total_scale, total_constant, total_zero}
use Rattle.sym_model.proofs.Exponents.{same_true, same_sym}
use Rattle.sym_model.proofs.Monomials.{is_exponent_list, total_exponent_lists-only}
use Rattle.sym_model.proofs.Polynomials.{at_only, coefficient_pair, pair_total}
use Rattle.monomial_laws.specs.Majorant.{power}
use Rattle.monomial_laws.proofs.Powers.{coefficient_power, power-nonnegative, factorials-positive, factorials-sorted}
use Rattle.monomial_laws.proofs.SchurMajorants.{pair-power}
use Rattle.basis_change.proofs.LastPlaces.{IsArrangement, arrangement}
use Rattle.basis_change.proofs.CostTable.{cancel-le}
use lib.IntN.{+ℤ_idl}

pub total-mono : {A : Type 0} (f g : A → ℤ) (xs : List A) → ((x : A) → Among x xs → f x ≤ℤ g x) → total f xs ≤ℤ total g xs
total-mono f g [] h = omega (arith, ints)
total-mono f g (x ∷ xs) h = let a = h x (inl refl) in let r = total-mono f g xs (λ y m. h y (inr m)) in omega (arith, ints)

total-one : (x : List ℕ) (y : ℤ) (lists : List (List ℕ)) → pos 0 ≤ℤ y → Once lists → total (λ l. cond (same x l) y (pos 0)) lists ≤ℤ y
total-one x y [] p o = p
total-one x y (l ∷ lists) p o = by (same x l) refl (total-one x y lists p o.1)
  where
    others : (ls : List (List ℕ)) → (Among x ls → ⊥) → total (λ l. cond (same x l) y (pos 0)) ls ≡ pos 0
    others [] n = refl
    others (k ∷ ls) n = here (same x k) refl (others ls (λ m. n (inr m)))
      where
        here : (t : Bool) → same x k ≡ t → total (λ l. cond (same x l) y (pos 0)) ls ≡ pos 0 → cond t y (pos 0) +ℤ total (λ l. cond (same x l) y (pos 0)) ls ≡ pos 0
        here true e r = absurd (n (inl (same_true x k e)))
        here false e r = +ℤ_idl (total (λ l. cond (same x l) y (pos 0)) ls) ∙ r

    by : (t : Bool) → same x l ≡ t → total (λ l. cond (same x l) y (pos 0)) lists ≤ℤ y → (cond t y (pos 0) +ℤ total (λ l. cond (same x l) y (pos 0)) lists) ≤ℤ y
    by true e r = let z = others lists (λ m. o.0 (subst (λ k. Among k lists) (same_true x l e) m)) in omega (arith, ints)
    by false e r = omega (arith, ints)

-- ---- the multinomial coefficients of all lists of n exponents with the sum s add up to n^s

count-words : (n s : ℕ) → total (λ (w : List ℕ). pos 1) (words n s) ≡ pos (n ^ s)
count-words n zero = ap pos (sym (pow-zero n))
count-words n (suc s) =
    total_each (λ (w : List ℕ). pos 1) (λ a. map (λ (w : List ℕ). a ∷ w) (words n s)) (after 0 n)
    ∙ total_ext (λ (a : ℕ). total (λ (w : List ℕ). pos 1) (map (λ (w : List ℕ). a ∷ w) (words n s))) (λ (a : ℕ). pos (n ^ s)) (λ a. total_map (λ (w : List ℕ). pos 1) (λ (w : List ℕ). a ∷ w) (words n s) ∙ count-words n s) (after 0 n)
    ∙ total_constant (pos (n ^ s)) (after 0 n)
    ∙ ap (λ k. pos (n ^ s) *ℤ pos k) (length_after 0 n)
    ∙ ap pos (sym (pow-suc n s))

-- the coefficient of x^α in (x_1 + .. + x_n)^s
abbrev pub multinomial : ℕ → ℕ → List ℕ → ℤ
multinomial s n α = coefficient (power s n) α

all-within : (s n : ℕ) → total (multinomial s n) (exponent_lists n s) ≤ℤ pos (n ^ s)
all-within s n =
    let e =
    total_ext (multinomial s n) (λ (α : List ℕ). pair (power s n) (at_only α)) (λ α. coefficient_pair (power s n) α) (exponent_lists n s)
    ∙ sym (pair_total (power s n) (λ (α β : List ℕ). at_only α β) (exponent_lists n s))
    ∙ pair-power s n (λ β. total (λ α. at_only α β) (exponent_lists n s)) in
    let m = total-mono (λ (w : List ℕ). total (λ α. at_only α (content n w)) (exponent_lists n s)) (λ (w : List ℕ). pos 1) (words n s) (λ w i. one (content n w)) in
    let c = count-words n s in
    omega (arith, ints)
  where
    at_most : (b : Bool) → cond b (pos 1) (pos 0) ≤ℤ pos 1
    at_most true = omega (arith, ints)
    at_most false = omega (arith, ints)

    one : (β : List ℕ) → total (λ α. at_only α β) (exponent_lists n s) ≤ℤ pos 1
    one β =
        subst (λ z. z ≤ℤ pos 1)
        (sym (total_ext (λ (α : List ℕ). at_only α β) (λ (α : List ℕ). cond (same α β) (pos 1) (pos 0)) (λ α. ap (λ b. cond b (pos 1) (pos 0)) (same_sym β α)) (exponent_lists n s)
        ∙ total_exponent_lists-only (λ α. pos 1) β n s))
        (at_most (is_exponent_list n s β))

-- the sum of the multinomial coefficients of the arrangements of a partition in n places if it has the size s, otherwise 0
abbrev pub arranged : ℕ → ℕ → List ℕ → ℤ
arranged s n parts = cond (eqb (size parts) s) (total (multinomial s n) (arrangements parts n)) (pos 0)

pub multinomials-within : (s n : ℕ) (lists : List (List ℕ)) → Once lists → total (arranged s n) lists ≤ℤ pos (n ^ s)
multinomials-within s n lists o =
    let a = total-mono (arranged s n) (λ (l : List ℕ). total (λ α. cond (same (sorted_parts α) l) (multinomial s n α) (pos 0)) (exponent_lists n s)) lists (λ l m. by l (cases_eq (size l) s)) in
    let b = total_exchange (λ (l α : List ℕ). cond (same (sorted_parts α) l) (multinomial s n α) (pos 0)) lists (exponent_lists n s) in
    let c = total-mono (λ (α : List ℕ). total (λ l. cond (same (sorted_parts α) l) (multinomial s n α) (pos 0)) lists) (multinomial s n) (exponent_lists n s)
    (λ α m. total-one (sorted_parts α) (multinomial s n α) lists (power-nonnegative s n α) o) in
    let d = all-within s n in
    omega (arith, ints)
  where
    not_negative : (l : List ℕ) (α : List ℕ) (b : Bool) → pos 0 ≤ℤ cond b (multinomial s n α) (pos 0)
    not_negative l α true = power-nonnegative s n α
    not_negative l α false = omega (arith, ints)

    by : (l : List ℕ) → (size l ≡ s) ⊎ (size l ≡ s → ⊥) → arranged s n l ≤ℤ total (λ α. cond (same (sorted_parts α) l) (multinomial s n α) (pos 0)) (exponent_lists n s)
    by l (inl e) =
        let x = ap (λ b. cond b (total (multinomial s n) (arrangements l n)) (pos 0)) (eq-eqb (size l) s e) in
        let y = total_select (multinomial s n) (λ α. same (sorted_parts α) l) (exponent_lists n (size l)) in
        let z = ap (λ k. total (λ α. cond (same (sorted_parts α) l) (multinomial s n α) (pos 0)) (exponent_lists n k)) e in
        omega (arith, ints)
    by l (inr d) =
        let x = ap (λ b. cond b (total (multinomial s n) (arrangements l n)) (pos 0)) (ne_eqb (size l) s d) in
        let y = total-mono (λ (α : List ℕ). pos 0) (λ (α : List ℕ). cond (same (sorted_parts α) l) (multinomial s n α) (pos 0)) (exponent_lists n s) (λ α m. not_negative l α (same (sorted_parts α) l)) in
        let z = total_zero {A = List ℕ} (exponent_lists n s) in
        omega (arith, ints)

bounded_at : (x N n : ℕ) (parts α : List ℕ) → IsArrangement parts n α → x * factorials parts ≤ N * factorial (size parts) → pos x ≤ℤ (pos N *ℤ multinomial (size parts) n α)
bounded_at x N n parts α a h = by (multinomial (size parts) n α) (power-nonnegative (size parts) n α) whole
  where
    f : ℕ
    f = factorials α

    same_f : factorials α ≡ factorials parts
    same_f = sym (factorials-sorted α) ∙ ap factorials a.sorts

    whole : multinomial (size parts) n α *ℤ pos (factorials α) ≡ pos (factorial (size parts))
    whole = coefficient_power (size parts) n α a.long ∙ ap (λ b. cond b (pos (factorial (size parts))) (pos 0)) (eq-eqb (size α) (size parts) a.sum)

    by : (z : ℤ) → pos 0 ≤ℤ z → z *ℤ pos (factorials α) ≡ pos (factorial (size parts)) → pos x ≤ℤ (pos N *ℤ z)
    by (pos m) p e =
        let k : m * factorials α ≡ factorial (size parts) = let u = e in omega (arith, ints) in
        let l : x * factorials α ≤ (N * m) * factorials α =
        subst (λ q. x * q ≤ (N * m) * q) (sym same_f) (let v : N * factorial (size parts) ≡ (N * m) * factorials parts = ap (λ q. N * q) (sym k ∙ ap (λ q. m * q) same_f) ∙ sym (mul_assoc N m (factorials parts)) in omega arith) in
        let c = cancel-le x (N * m) (factorials α) (factorials-positive α) l in
        omega (arith, ints)
    by (negsuc m) p e = absurd (omega (arith, ints))

-- if x·Π λ_i! ≤ N·|λ|!, then x, added once for each arrangement of λ, is at most N times the sum of the multinomial coefficients of these
-- arrangements
pub arranged-within : (x N n : ℕ) (parts : List ℕ) → x * factorials parts ≤ N * factorial (size parts)
    → total (λ (α : List ℕ). pos x) (arrangements parts n) ≤ℤ (pos N *ℤ total (multinomial (size parts) n) (arrangements parts n))
arranged-within x N n parts h =
    let m = total-mono (λ (α : List ℕ). pos x) (λ (α : List ℕ). pos N *ℤ multinomial (size parts) n α) (arrangements parts n) (λ α i. bounded_at x N n parts α (arrangement parts n α i) h) in
    let s = total_scale (pos N) (multinomial (size parts) n) (arrangements parts n) in
    omega (arith, ints)
