-- An alternant with strictly decreasing exponents β has the coefficient 0 at each strictly decreasing list other than β. The file also compares
-- weakly decreasing lists, without the zeros at their ends, with partitions.
use Rattle.std.proofs.Common.{◌≡◌, ℕ, zero, suc, ◌+◌, ◌<◌, ◌≤◌, true, cond, List, [], ◌∷◌, length, nat_le, sym, ◌∙◌, ap, ap₂, subst, refl, inl, inr, arith, ℤ, pos, ◌-ℤ◌}
use Rattle.std.proofs.lemmas.Int.{ints}
use Rattle.std.proofs.lemmas.Bool.{and_parts, leb-true}
use Rattle.sym_model.specs.Sum.{Among}
use Rattle.sym_model.specs.Partition.{Falls, ArePositive, IsPartition, in_front, without_last_zeros}
use Rattle.sym_model.specs.Polynomial.{same, join, coefficient, resize}
use Rattle.sym_model.specs.GoodTableau.{is_falling}
use Rattle.sym_model.specs.Alternant.{alternant, staircase}
use Rattle.sym_model.proofs.Exponents.{same_apart, same_true, same_from, tests_agree, join_comm, join_cancel_left, length-resize, resize-nil, join_zeros}
use Rattle.sym_model.proofs.Polynomials.{at_only, coefficient_pair}
use Rattle.sym_model.proofs.Parts.{length-staircase}
use Rattle.alternant_laws.proofs.Alternating.{inserting, alternating}
use Rattle.alternant_laws.proofs.OrderSums.{pair_alternant}
use Rattle.alternant_laws.proofs.Staircase.{alternating_below, below_weaken}
use Rattle.sym_model.specs.Bounded.{AreAtMost, AreBelow}

-- ---- strictly decreasing lists of exponents, and functions that are 0 at all lists that are not strictly decreasing

abbrev pub Descends : List ℕ → Type 0
Descends [] = Unit {0}
Descends (a ∷ α) = AreBelow a α × Descends α

inserting_none : (x : ℕ) (χ : List ℕ → ℤ) → ((l : List ℕ) → Among x l → χ l ≡ pos 0) → (l : List ℕ) → inserting x χ l ≡ pos 0
inserting_none x χ e [] = e (x ∷ []) (inl refl)
inserting_none x χ e (y ∷ ys) = ap₂ ◌-ℤ◌ (e (x ∷ y ∷ ys) (inl refl)) (inserting_none x (λ l. χ (y ∷ l)) (λ l m. e (y ∷ l) (inr m)) ys)

is_below : (a x : ℕ) (l : List ℕ) → AreBelow a l → Among x l → x < a
is_below a x [] b m = absurd m
is_below a x (y ∷ l) b (inl e) = let h = b.0 in omega arith
is_below a x (y ∷ l) b (inr m) = is_below a x l b.1 m

-- the function φ is 0 at each list that is not strictly decreasing
abbrev OnlyDescending : (List ℕ → ℤ) → Type 0
OnlyDescending φ = (l : List ℕ) → (Descends l → ⊥) → φ l ≡ pos 0

inserting_first : (x : ℕ) (φ : List ℕ → ℤ) → OnlyDescending φ → (l : List ℕ) → AreBelow x l → inserting x φ l ≡ φ (x ∷ l)
inserting_first x φ o [] b = refl
inserting_first x φ o (y ∷ ys) b =
    let e = inserting_none x (λ l. φ (y ∷ l)) (λ l m. o (y ∷ l) (λ d. let h = is_below y x l d.0 m in let g = b.0 in absurd (omega arith))) ys in
    omega (arith, ints)

alternating_descending : (β : List ℕ) (φ : List ℕ → ℤ) → Descends β → OnlyDescending φ → alternating β φ ≡ φ β
alternating_descending [] φ d o = refl
alternating_descending (x ∷ β) φ d o =
    alternating_below x β (inserting x φ) (λ l. φ (x ∷ l)) d.0 (inserting_first x φ o)
    ∙ alternating_descending β (λ l. φ (x ∷ l)) d.1 (λ l n. o (x ∷ l) (λ e. n e.1))

pub coefficient_descending : (α β : List ℕ) → Descends α → Descends β → coefficient (alternant β) α ≡ cond (same β α) (pos 1) (pos 0)
coefficient_descending α β d e =
    coefficient_pair (alternant β) α
    ∙ pair_alternant β (at_only α)
    ∙ alternating_descending β (at_only α) e (λ l n. ap (λ b. cond b (pos 1) (pos 0)) (same_apart l α (λ i. n (subst Descends (sym i) d))))

-- ---- a weakly decreasing list plus the staircase is strictly decreasing

up_to_first : (a : ℕ) (α : List ℕ) → is_falling (a ∷ α) ≡ true → AreAtMost a α
up_to_first a [] e = tt
up_to_first a (b ∷ α) e =
    let p = and_parts (nat_le b a) (is_falling (b ∷ α)) e in
    let h = leb-true b a p.0 in
    (h, weaken b α h (up_to_first b α p.1))
  where
    weaken : (c : ℕ) (β : List ℕ) → c ≤ a → AreAtMost c β → AreAtMost a β
    weaken c [] h u = tt
    weaken c (d ∷ β) h u = let g = u.0 in (omega arith, weaken c β h u.1)

pub falling_rest : (a : ℕ) (α : List ℕ) → is_falling (a ∷ α) ≡ true → is_falling α ≡ true
falling_rest a [] e = refl
falling_rest a (b ∷ α) e = let p = and_parts (nat_le b a) (is_falling (b ∷ α)) e in p.1

below_sum : (c n : ℕ) (α : List ℕ) → length α ≡ n → AreAtMost c α → AreBelow (c + n) (join α (staircase n))
below_sum c zero [] l u = tt
below_sum c zero (a ∷ α) l u = absurd (omega arith)
below_sum c (suc n) [] l u = absurd (omega arith)
below_sum c (suc n) (a ∷ α) l u =
    let h = u.0 in
    let e : suc (c + n) ≡ c + suc n = omega arith in
    (omega arith, subst (λ k. AreBelow k (join α (staircase n))) e (below_weaken (c + n) (join α (staircase n)) (below_sum c n α (omega arith) u.1)))

pub descends_sum : (n : ℕ) (α : List ℕ) → length α ≡ n → is_falling α ≡ true → Descends (join α (staircase n))
descends_sum zero [] l e = tt
descends_sum zero (a ∷ α) l e = absurd (omega arith)
descends_sum (suc n) [] l e = absurd (omega arith)
descends_sum (suc n) (a ∷ α) l e = (below_sum a n α (omega arith) (up_to_first a α e), descends_sum n α (omega arith) (falling_rest a α e))

pub join_padded : (n : ℕ) (parts : List ℕ) → length parts ≤ n → join (resize n parts) (staircase n) ≡ join parts (staircase n)
join_padded n [] h = ap (λ z. join z (staircase n)) (resize-nil n) ∙ join_zeros n (staircase n) (omega (arith, length-staircase n))
join_padded zero (a ∷ parts) h = absurd (omega arith)
join_padded (suc n) (a ∷ parts) h = ap (λ l. (a + n) ∷ l) (join_padded n parts (omega arith))

-- ---- lists padded with zeros to n entries

resize-in_front : (n a : ℕ) (l : List ℕ) → resize (suc n) (in_front a l) ≡ a ∷ resize n l
resize-in_front n zero [] = refl
resize-in_front n zero (b ∷ l) = refl
resize-in_front n (suc a) l = refl

pub resize-without_last_zeros : (n : ℕ) (α : List ℕ) → length α ≡ n → resize n (without_last_zeros α) ≡ α
resize-without_last_zeros zero [] l = refl
resize-without_last_zeros zero (a ∷ α) l = absurd (omega arith)
resize-without_last_zeros (suc n) [] l = absurd (omega arith)
resize-without_last_zeros (suc n) (a ∷ α) l = resize-in_front n a (without_last_zeros α) ∙ ap (λ β. a ∷ β) (resize-without_last_zeros n α (omega arith))

pub without_last_zeros-resize : (n : ℕ) (parts : List ℕ) → ArePositive parts → length parts ≤ n → without_last_zeros (resize n parts) ≡ parts
without_last_zeros-resize zero [] p h = refl
without_last_zeros-resize (suc n) [] p h = ap (in_front 0) (without_last_zeros-resize n [] tt (omega arith))
without_last_zeros-resize zero (a ∷ parts) p h = absurd (omega arith)
without_last_zeros-resize (suc n) (zero ∷ parts) p h = let g = p.0 in absurd (omega arith)
without_last_zeros-resize (suc n) (suc a ∷ parts) p h = ap (λ l. suc a ∷ l) (without_last_zeros-resize n parts p.1 (omega arith))

pub falls_from_test : (α : List ℕ) → is_falling α ≡ true → Falls α
falls_from_test [] e = tt
falls_from_test (a ∷ []) e = tt
falls_from_test (a ∷ b ∷ α) e = let p = and_parts (nat_le b a) (is_falling (b ∷ α)) e in (leb-true b a p.0, falls_from_test (b ∷ α) p.1)

same_sums : (n : ℕ) (α parts : List ℕ) → length α ≡ n → IsPartition parts → length parts ≤ n
    → same (join α (staircase n)) (join parts (staircase n)) ≡ same (without_last_zeros α) parts
same_sums n α parts l p h =
    tests_agree (same (join α (staircase n)) (join parts (staircase n))) (same (without_last_zeros α) parts)
    (λ e. same_from (without_last_zeros α) parts (
    ap without_last_zeros (join_cancel_left (staircase n) α (resize n parts) (l ∙ sym (length-resize n parts))
    (join_comm (staircase n) α ∙ same_true (join α (staircase n)) (join parts (staircase n)) e ∙ sym (join_padded n parts h) ∙ join_comm (resize n parts) (staircase n)))
    ∙ without_last_zeros-resize n parts p.positive h))
    (λ e. same_from (join α (staircase n)) (join parts (staircase n)) (
    ap (λ β. join β (staircase n)) (sym (resize-without_last_zeros n α l) ∙ ap (resize n) (same_true (without_last_zeros α) parts e))
    ∙ join_padded n parts h))

-- if α is weakly decreasing and has n entries, and ν (`parts`) is a partition of at most n parts, the coefficient of x^(ν + ρ) in a_(α + ρ) is 1 if ν
-- is α without the zeros at its end, and 0 otherwise
pub coefficient_at_partition : (n : ℕ) (α parts : List ℕ) → length α ≡ n → is_falling α ≡ true → IsPartition parts → length parts ≤ n → is_falling (resize n parts) ≡ true
    → coefficient (alternant (join α (staircase n))) (join parts (staircase n)) ≡ cond (same (without_last_zeros α) parts) (pos 1) (pos 0)
coefficient_at_partition n α parts l f p h g =
    coefficient_descending (join parts (staircase n)) (join α (staircase n))
    (subst Descends (join_padded n parts h) (descends_sum n (resize n parts) (length-resize n parts) g)) (descends_sum n α l f)
    ∙ ap (λ b. cond b (pos 1) (pos 0)) (same_sums n α parts l p h)
