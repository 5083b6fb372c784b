-- Sums of Schur polynomials to which more is added (`IsAdded`), and their products.
--     none_added, both_added    no step, and two steps one after the other
--     term_added                one term is added
--     product_value             the product of two sums, pair by pair
--     product_sum               a list to which all pairs have been added is the product
--     over_next, multiple_next  one more term of a list that a loop adds
--     added_as                  a list added whose sum is a given polynomial
use Rattle.std.proofs.Common.{◌≡◌, ℕ, ◌≤◌, List, [], ◌∷◌, ◌++◌, sym, ◌∙◌, ap, subst, arith, inl, inr, ℤ, pos, ◌+ℤ◌, ◌*ℤ◌}
use Rattle.std.specs.Cmp.Lexicographic.{nat_list_eq_equiv}
use Rattle.std.proofs.lemmas.Int.{ints}
use Rattle.sym_model.specs.Sum.{Among}
use Rattle.sym_model.specs.Expansion.{Fraction}
use Rattle.sym_model.specs.Partition.{rows}
use Rattle.sym_model.specs.Polynomial.{Poly, Same, pair, times, join}
use Rattle.sym_model.specs.Schur.{schur}
use Rattle.sym_model.specs.WholeTerms.{WholeTerms, as_fractions}
use Rattle.sym_model.proofs.Sums.{Among-map}
use Rattle.sym_model.proofs.Ring.{distributes_left, product_assoc}
use Rattle.sym_model.proofs.Polynomials.{pair_times, pair_exchange, pair_ext, pair_determined}
use Rattle.linear_combinations.specs.Entries.{IsWholeTable}
use Rattle.linear_combinations.specs.Gains.{over, Gains, HaveLabels}
use Rattle.linear_combinations.proofs.Gains.{over_append}
use Rattle.linear_combinations.proofs.Labels.{same_partition}
use Rattle.linear_combinations.proofs.Masses.{labels_gained}
use Rattle.stanley_expand.specs.Walk.{IsHeld}
use Rattle.stanley_expand.specs.Blocks.{IsAdded, IsSumFor, summed}
use Rattle.stanley_expand.proofs.Tables.{no_shapes}

pub none_added : (m : ℕ) (sum : WholeTerms) (more : (List ℕ → ℤ) → ℤ) → ((φ : List ℕ → ℤ) → more φ ≡ pos 0) → IsAdded m sum more sum
none_added m sum more none = record { value = λ φ. let e = none φ in omega (arith, ints); labels = λ l. l }

pub both_added : (m : ℕ) (sum : WholeTerms) (f : (List ℕ → ℤ) → ℤ) (sum2 : WholeTerms) (g : (List ℕ → ℤ) → ℤ) (sum3 : WholeTerms) (h : (List ℕ → ℤ) → ℤ)
    → ((φ : List ℕ → ℤ) → f φ +ℤ g φ ≡ h φ) → IsAdded m sum f sum2 → IsAdded m sum2 g sum3 → IsAdded m sum h sum3
both_added m sum f sum2 g sum3 h e a b = record {
  value = λ φ. let x = a.value φ in let y = b.value φ in let z = e φ in omega (arith, ints);
  labels = λ l. b.labels (a.labels l);
}

pub term_added : (m : ℕ) (κ : List ℕ) (c : ℤ) (old new : WholeTerms) → rows κ ≤ m → Gains old ((κ, c) ∷ []) new → IsWholeTable new → IsHeld new
    → IsAdded m old (λ φ. c *ℤ pair (schur κ m) φ) new
term_added m κ c old new few gains table held = record {
  value = λ φ. let a = gains.sums (λ ν. pair (schur ν m) φ) in omega (arith, ints);
  labels = λ l. record {
    table = table;
    held = held;
    few = labels_gained nat_list_eq_equiv same_partition old ((κ, c) ∷ []) new table gains (λ ν. rows ν ≤ m) l.few
        (λ t k. elim k [ inl e ↦ subst (λ ν. rows ν ≤ m) (sym (ap (λ (u : List ℕ × ℤ). u.0) e)) few | inr none ↦ absurd none ]);
  };
}

-- the sum of the products of the Schur polynomials of `left` and `right` is the product of the two sums
pub product_value : (m : ℕ) (left right : WholeTerms) (f g : Poly) (φ : List ℕ → ℤ)
    → ((ψ : List ℕ → ℤ) → summed m ψ left ≡ pair f ψ) → ((ψ : List ℕ → ℤ) → summed m ψ right ≡ pair g ψ)
    → over (λ κ. over (λ ν. pair (times (schur κ m) (schur ν m)) φ) right) left ≡ pair (times f g) φ
product_value m left right f g φ a b =
    pair_ext left (λ κ. over (λ ν. pair (times (schur κ m) (schur ν m)) φ) right) (λ κ. pair (schur κ m) (λ α. pair g (λ β. φ (join α β)))) row
    ∙ a (λ α. pair g (λ β. φ (join α β)))
    ∙ sym (pair_times f g φ)
  where
    row : (κ : List ℕ) → over (λ ν. pair (times (schur κ m) (schur ν m)) φ) right ≡ pair (schur κ m) (λ α. pair g (λ β. φ (join α β)))
    row κ =
        pair_ext right (λ ν. pair (times (schur κ m) (schur ν m)) φ) (λ ν. pair (schur κ m) (λ α. pair (schur ν m) (λ β. φ (join α β)))) (λ ν. pair_times (schur κ m) (schur ν m) φ)
        ∙ pair_exchange right (schur κ m) (λ ν α. pair (schur ν m) (λ β. φ (join α β)))
        ∙ pair_ext (schur κ m) (λ α. over (λ ν. pair (schur ν m) (λ β. φ (join α β))) right) (λ α. pair g (λ β. φ (join α β))) (λ α. b (λ β. φ (join α β)))

pub product_sum : (m : ℕ) (left right : WholeTerms) (f g : Poly) (sum : WholeTerms) → IsSumFor m f left → IsSumFor m g right
    → IsAdded m [] (λ φ. over (λ κ. over (λ ν. pair (times (schur κ m) (schur ν m)) φ) right) left) sum → IsSumFor m (times f g) sum
product_sum m left right f g sum a b e = record {
  value = λ φ. let v = e.value φ in let p = product_value m left right f g φ a.value b.value in omega (arith, ints);
  labels = e.labels (let s = no_shapes m in record { table = s.table; held = s.held; few = s.few });
}

-- ---- one more term of a list that a loop adds

pub over_next : (g : List ℕ → ℤ) (done next : WholeTerms) (κ : List ℕ) (c : ℤ) → done ++ (κ, c) ∷ [] ≡ next → over g done +ℤ c *ℤ g κ ≡ over g next
over_next g done next κ c e =
    let a = over_append g done ((κ, c) ∷ []) in
    let b = ap (over g) e in
    omega (arith, ints)

pub multiple_next : (count z : ℤ) (g : List ℕ → ℤ) (done next : WholeTerms) (κ : List ℕ) (c : ℤ) → z ≡ count *ℤ c → done ++ (κ, c) ∷ [] ≡ next
    → count *ℤ over g done +ℤ z *ℤ g κ ≡ count *ℤ over g next
multiple_next count z g done next κ c is e =
    ap (λ x. count *ℤ over g done +ℤ x *ℤ g κ) is
    ∙ ap (λ x. count *ℤ over g done +ℤ x) (product_assoc count c (g κ))
    ∙ sym (distributes_left count (over g done) (c *ℤ g κ))
    ∙ ap (λ x. count *ℤ x) (over_next g done next κ c e)

-- ---- a list that is the sum of a polynomial

pub added_as : (m : ℕ) (sum list : WholeTerms) (count : ℤ) (f : Poly) (sum2 : WholeTerms) → ((φ : List ℕ → ℤ) → summed m φ list ≡ pair f φ)
    → IsAdded m sum (λ φ. count *ℤ summed m φ list) sum2 → IsAdded m sum (λ φ. count *ℤ pair f φ) sum2
added_as m sum list count f sum2 e a = record { value = λ φ. a.value φ ∙ ap (λ z. summed m φ sum +ℤ count *ℤ z) (e φ); labels = a.labels }

pub rows_listed : (m : ℕ) (list : WholeTerms) → ((t : List ℕ × Fraction) → Among t (as_fractions list) → rows t.0 ≤ m) → HaveLabels (λ κ. rows κ ≤ m) list
rows_listed m list h t i = h (t.0, (t.1, 1)) (Among-map (λ (u : List ℕ × ℤ). let term : List ℕ × Fraction = (u.0, (u.1, 1)) in term) t list i)

pub sum_as : (m : ℕ) (f g : Poly) (sum : WholeTerms) → Same f g → IsSumFor m g sum → IsSumFor m f sum
sum_as m f g sum e is = record { value = λ φ. is.value φ ∙ sym (pair_determined f g φ e); labels = is.labels }
