-- The beta list of a list α of n exponents has the entries α_i + n - i. Straightening sorts a beta list: if two entries are equal, the result is 0;
-- otherwise it is the partition of the sorted list, with the sign of the sorting. Here this is done in two turns: first all entries but the last one,
-- then the result with the last one. The value of a function g of partitions at a straightening is 0, or the sign times the value at the partition.
--     value-sorted       an alternating function, by its value at the sorted list
--     value-equal        the value of g at the straightening is 0 if two entries are equal
--     value-strict       the value of g at the straightening of a strictly decreasing list
--     value-front        all entries but the last one straightened first
--     value-zero         the beta list in one more row, with the last entry 0, has the same value
use Rattle.std.proofs.Common.{◌≡◌, ◌⊎◌, ℕ, suc, ◌-◌, Bool, true, false, cond, List, [], ◌∷◌, ◌++◌, map, length, refl, sym, ap, ap₂, ◌∙◌, inl, inr, arith, append_assoc, ℤ, pos, neg_ℤ, ◌*ℤ◌, rules}
use Rattle.std.proofs.lemmas.Int.{ints}
use Rattle.std.proofs.lemmas.Bool.{cases_eq}
use Rattle.std.proofs.lemmas.List.{map-append}
use Rattle.sym_model.specs.Partition.{without_last_zeros}
use Rattle.sym_model.specs.Bases.{has}
use Rattle.sym_model.specs.BetaList.{beta, has_equal_entries, sorted_falling, sorting_sign, less_the_rest, from_beta}
use Rattle.sym_model.specs.PlaceOrders.{minus_one_to}
use Rattle.sym_model.proofs.Parts.{without_last_zeros-zero}
use Rattle.sym_model.proofs.Ring.{ring, one-product, double_negation-product}
use Rattle.beta_list_laws.specs.StrictFall.{FallsStrictly}
use Rattle.beta_list_laws.proofs.NeighbourExchanges.{sort_back, sorted-exchange, equal-exchange, sorted-falling, sorting_sign-exchange, length-sorted}
use Rattle.beta_list_laws.proofs.SortedLists.{sorted_strict}
use Rattle.beta_list_laws.proofs.BetaLists.{beta-from_beta}
use Rattle.beta_list_laws.proofs.Lowest.{strict_pairs, strict_falls}
use Rattle.basis_change.specs.SpecialRimHooks.{straight_value}
use Rattle.beta_list_laws.proofs.BetaLowerings.{strict_distinct}
use Rattle.std.proofs.Math.Dec.{eqb-suc-suc}
use Rattle.std.proofs.Math.Bool.{or-true}
use Rattle.alternant_laws.proofs.EnoughPlaces.{less-raised}

-- exchanging two different neighbouring entries of a list negates the value of the function
abbrev pub Alternates : (List ℕ → ℤ) → Type 0
Alternates H = (left : List ℕ) (a b : ℕ) (right : List ℕ) → (a ≡ b → ⊥) → H (left ++ (a ∷ b ∷ right)) ≡ neg_ℤ (H (left ++ (b ∷ a ∷ right)))

value-sorted : (H : List ℕ → ℤ) → Alternates H → (s : List ℕ) → has_equal_entries s ≡ false → H s ≡ sorting_sign s *ℤ H (sorted_falling s)
value-sorted H t s h =
    sort_back (λ l. H l ≡ sorting_sign l *ℤ H (sorted_falling s)) s (λ left a b right e. by left a b right e (cases_eq a b))
    (sym (ap (λ k. minus_one_to k *ℤ H (sorted_falling s)) (strict_pairs (sorted_falling s) (sorted_strict s h)) ∙ one-product (H (sorted_falling s))))
  where
    turned : (x y p q h : ℤ) → x ≡ p *ℤ h → x ≡ neg_ℤ y → p ≡ neg_ℤ q → y ≡ q *ℤ h
    turned x y p q h e f g =
        let d : y ≡ neg_ℤ x = omega (arith, ints, f) in
        d ∙ ap neg_ℤ (e ∙ ap (λ z. z *ℤ h) g) ∙ double_negation-product q h

    by : (left : List ℕ) (a b : ℕ) (right : List ℕ) → H (left ++ (a ∷ b ∷ right)) ≡ sorting_sign (left ++ (a ∷ b ∷ right)) *ℤ H (sorted_falling s) → (a ≡ b) ⊎ (a ≡ b → ⊥)
        → H (left ++ (b ∷ a ∷ right)) ≡ sorting_sign (left ++ (b ∷ a ∷ right)) *ℤ H (sorted_falling s)
    by left a b right e (inl i) =
        let same : left ++ (b ∷ a ∷ right) ≡ left ++ (a ∷ b ∷ right) = ap₂ (λ (x y : ℕ). left ++ (x ∷ y ∷ right)) (sym i) i in
        ap H same ∙ e ∙ ap (λ l. sorting_sign l *ℤ H (sorted_falling s)) (sym same)
    by left a b right e (inr n) =
        turned (H (left ++ (a ∷ b ∷ right))) (H (left ++ (b ∷ a ∷ right))) (sorting_sign (left ++ (a ∷ b ∷ right))) (sorting_sign (left ++ (b ∷ a ∷ right))) (H (sorted_falling s))
        e (t left a b right n) (sorting_sign-exchange left a b right n)

pub value-equal : (g : List ℕ → ℤ) (s : List ℕ) → has_equal_entries s ≡ true → straight_value g s ≡ pos 0
value-equal g s h = ap (λ t. cond t (pos 0) (sorting_sign s *ℤ g (from_beta (sorted_falling s)))) h

pub value-different : (g : List ℕ → ℤ) (s : List ℕ) → has_equal_entries s ≡ false → straight_value g s ≡ sorting_sign s *ℤ g (from_beta (sorted_falling s))
value-different g s h = ap (λ t. cond t (pos 0) (sorting_sign s *ℤ g (from_beta (sorted_falling s)))) h

value-alternates : (g : List ℕ → ℤ) → Alternates (straight_value g)
value-alternates g left a b right n = search (rules, equal-exchange, sorting_sign-exchange, sorted-exchange, neg_ℤ, ring)

pub value-strict : (g : List ℕ → ℤ) (s : List ℕ) → FallsStrictly s → straight_value g s ≡ g (from_beta s)
value-strict g s f = search (rules, value-different, strict_distinct, strict_pairs, one-product, sorted-falling, strict_falls)

-- ---- a list s with one more entry a, straightened in two turns: s first, and then with a

-- the list s with each entry increased by 1, and a appended: a beta list in one more row
abbrev pub above : ℕ → List ℕ → List ℕ
above a s = map suc s ++ a ∷ []

above-exchange : (x : ℕ) (left : List ℕ) (a b : ℕ) (right : List ℕ) → above x (left ++ (a ∷ b ∷ right)) ≡ map suc left ++ (suc a ∷ suc b ∷ above x right)
above-exchange x left a b right = ap (λ l. l ++ x ∷ []) (map-append suc left (a ∷ b ∷ right)) ∙ append_assoc (map suc left) (suc a ∷ suc b ∷ map suc right) (x ∷ [])

above-alternates : (g : List ℕ → ℤ) (x : ℕ) → Alternates (λ s. straight_value g (above x s))
above-alternates g x left a b right n = search (rules, above-exchange, value-alternates, neg_ℤ)

has-above : (x a : ℕ) (s : List ℕ) → has a s ≡ true → has (suc a) (above x s) ≡ true
has-above x a [] h = absurd (cc)
has-above x a (b ∷ s) h = search (rules, eqb-suc-suc, (has-above x a s))

equal-above : (x : ℕ) (s : List ℕ) → has_equal_entries s ≡ true → has_equal_entries (above x s) ≡ true
equal-above x [] h = absurd (cc)
equal-above x (a ∷ s) h = search (rules, has-above, or-true, (equal-above x s))

-- straightening `above a s` in two turns: first s straightens to a partition ν with a sign, or to 0; then `above a (beta (length s) ν)` is
-- straightened. The value of g at the result is the same
pub value-front : (g : List ℕ → ℤ) (a : ℕ) (s : List ℕ) → straight_value g (above a s) ≡ straight_value (λ ν. straight_value g (above a (beta (length s) ν))) s
value-front g a s = by (has_equal_entries s) refl
  where
    by : (t : Bool) → has_equal_entries s ≡ t → straight_value g (above a s) ≡ straight_value (λ ν. straight_value g (above a (beta (length s) ν))) s
    by true h = value-equal g (above a s) (equal-above a s h) ∙ sym (value-equal (λ ν. straight_value g (above a (beta (length s) ν))) s h)
    by false h =
        value-sorted (λ l. straight_value g (above a l)) (above-alternates g a) s h
        ∙ ap (λ l. sorting_sign s *ℤ straight_value g (above a l)) (sym (ap (λ k. beta k (from_beta (sorted_falling s))) (sym (length-sorted s)) ∙ beta-from_beta (sorted_falling s) (sorted_strict s h)))
        ∙ sym (value-different (λ ν. straight_value g (above a (beta (length s) ν))) s h)

strict-above : (s : List ℕ) → FallsStrictly s → FallsStrictly (above 0 s)
strict-above [] f = tt
strict-above (a ∷ []) f = (omega arith, tt)
strict-above (a ∷ b ∷ s) f = (let h = f.0 in omega arith, strict-above (b ∷ s) f.1)

pub value-zero : (g : List ℕ → ℤ) (s : List ℕ) → straight_value g (above 0 s) ≡ straight_value g s
value-zero g s = by (has_equal_entries s) refl
  where
    by : (t : Bool) → has_equal_entries s ≡ t → straight_value g (above 0 s) ≡ straight_value g s
    by true h = value-equal g (above 0 s) (equal-above 0 s h) ∙ sym (value-equal g s h)
    by false h =
        value-sorted (λ l. straight_value g (above 0 l)) (above-alternates g 0) s h
        ∙ ap (λ z. sorting_sign s *ℤ z)
        (value-strict g (above 0 (sorted_falling s)) (strict-above (sorted_falling s) (sorted_strict s h))
        ∙ ap g (ap without_last_zeros (less-raised (sorted_falling s)) ∙ without_last_zeros-zero (less_the_rest (sorted_falling s))))
        ∙ sym (value-different g s h)
