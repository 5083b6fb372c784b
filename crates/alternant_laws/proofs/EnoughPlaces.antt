-- An arrangement of the partition λ in k places is a list of k exponents whose entries are the parts of λ and zeros. It straightens to 0 or, up to
-- sign, to a Schur polynomial. Arrangements in k + 1 places are compared with those in k places: if k is at least the size of λ, or at least the
-- number of variables, the arrangements with a part in the last place straighten to 0, or to a Schur polynomial that is 0.
use Rattle.std.proofs.Common.{◌≡◌, ◌⊎◌, ℕ, zero, suc, ◌+◌, ◌-◌, ◌<◌, ◌≤◌, Bool, true, false, ◌||◌, ◌==◌, cond, nat_le, nat_lt, List, [], ◌∷◌, ◌++◌, map, length, refl, sym, ◌∙◌, ap, ap₂, inl, inr, arith, ℤ, pos, ◌+ℤ◌, ◌*ℤ◌}
use Rattle.std.specs.Prelude.{Some, None}
use Rattle.std.proofs.lemmas.Bool.{cases_lt}
use Rattle.std.proofs.lemmas.Bool.Decides.{nat_tests}
use Rattle.sym_model.specs.Sum.{total}
use Rattle.sym_model.specs.Partition.{IsPartition, ArePositive, size, rows, sorted_parts, without_last_zeros}
use Rattle.sym_model.specs.Polynomial.{Same, same, join, pair, nothing}
use Rattle.sym_model.specs.Arrangement.{arrangements}
use Rattle.sym_model.specs.Bases.{has, monomial, exponent_lists, down_from}
use Rattle.sym_model.specs.Schur.{schur}
use Rattle.sym_model.specs.Alternant.{staircase}
use Rattle.sym_model.specs.Straightening.{shifted, straightened}
use Rattle.sym_model.specs.BetaList.{has_equal_entries, put_falling, sorted_falling, greater, rising_pairs, sorting_sign, less_the_rest, from_beta}
use Rattle.sym_model.specs.PlaceOrders.{minus_one_to}
use Rattle.sym_model.specs.WholeTerms.{combined}
use Rattle.sym_model.proofs.Sums.{total_ext, total_among, total_map, total_each, total_select, total_none, down_from-below}
use Rattle.sym_model.proofs.SortedParts.{sorted_parts-padded, rows_within_size}
use Rattle.sym_model.proofs.Exponents.{length-join_same, size-join}
use Rattle.sym_model.proofs.Polynomials.{pair_determined, same_from_pair, Same_trans}
use Rattle.sym_model.proofs.Monomials.{members_of-exponent_lists}
use Rattle.sym_model.proofs.WholeTerms.{pair_of_combined}
use Rattle.sym_model.proofs.Parts.{without_last_zeros-zero, without_last_zeros-positive, length-staircase}
use Rattle.beta_list_laws.specs.StrictFall.{FallsStrictly}
use Rattle.beta_list_laws.proofs.NeighbourExchanges.{length-sorted, size-sorted, has-sorted}
use Rattle.beta_list_laws.proofs.SortedLists.{sorted_strict}
use Rattle.beta_list_laws.proofs.BetaLists.{strict_tail, from_beta_partition, size-from_beta, length-less}
use Rattle.alternant_laws.proofs.SchurProducts.{schur_few_variables}
use lib.IntN.{*ℤ-zero}
use Rattle.alternant_laws.specs.StraightenedTerms.{straightened_term, straightened_terms}
use Rattle.alternant_laws.proofs.StraightenedMonomials.{straightens}
use Rattle.std.proofs.Math.Dec.{leb-suc-suc, eqb-suc-suc}
use Rattle.sym_model.proofs.Numbers.{positive-test, nat_lt-suc}

-- ---- appending 0 to α changes the list α + ρ to `raised (α + ρ)`: each entry is increased by 1, and 0 is appended

abbrev pub raised : List ℕ → List ℕ
raised s = map suc s ++ 0 ∷ []

pub staircase-raised : (k : ℕ) → staircase (suc k) ≡ raised (staircase k)
staircase-raised zero = refl
staircase-raised (suc k) = ap (λ l. suc k ∷ l) (staircase-raised k)

join-raised : (α β : List ℕ) → length α ≡ length β → join (α ++ 0 ∷ []) (raised β) ≡ raised (join α β)
join-raised [] [] e = refl
join-raised [] (b ∷ β) e = absurd (omega arith)
join-raised (a ∷ α) [] e = absurd (omega arith)
join-raised (a ∷ α) (b ∷ β) e = ap₂ (λ x l. x ∷ l) (let s : a + suc b ≡ suc (a + b) = omega arith in s) (join-raised α β (omega arith))

length-pushed : (α : List ℕ) → length (α ++ 0 ∷ []) ≡ suc (length α)
length-pushed [] = refl
length-pushed (a ∷ α) = ap suc (length-pushed α)

shifted-pushed : (α : List ℕ) → shifted (α ++ 0 ∷ []) ≡ raised (shifted α)
shifted-pushed α =
    ap (λ k. join (α ++ 0 ∷ []) (staircase k)) (length-pushed α)
    ∙ ap (join (α ++ 0 ∷ [])) (staircase-raised (length α))
    ∙ join-raised α (staircase (length α)) (sym (length-staircase (length α)))

zero_apart : (a : ℕ) → (0 == suc a) ≡ false
zero_apart a = grind (arith, nat_tests)

not_below : (a : ℕ) → nat_lt (suc a) 0 ≡ false
not_below a = grind (arith, nat_tests)

has-raised : (a : ℕ) (s : List ℕ) → has (suc a) (raised s) ≡ has a s
has-raised a [] = ap (λ b. b || false) (zero_apart a)
has-raised a (b ∷ s) = ap₂ (λ x y. x || y) (eqb-suc-suc b a) (has-raised a s)

equal-raised : (s : List ℕ) → has_equal_entries (raised s) ≡ has_equal_entries s
equal-raised [] = refl
equal-raised (a ∷ s) = ap₂ (λ x y. x || y) (has-raised a s) (equal-raised s)

greater-raised : (a : ℕ) (s : List ℕ) → greater (suc a) (raised s) ≡ greater a s
greater-raised a [] = ap (λ b. cond {A = ℕ} b 1 0 + 0) (not_below a)
greater-raised a (b ∷ s) = ap₂ (λ x k. cond {A = ℕ} x 1 0 + k) (nat_lt-suc a b) (greater-raised a s)

rising-raised : (s : List ℕ) → rising_pairs (raised s) ≡ rising_pairs s
rising-raised [] = refl
rising-raised (a ∷ s) = ap₂ ◌+◌ (greater-raised a s) (rising-raised s)

put-raised : (a : ℕ) (s : List ℕ) → put_falling (suc a) (raised s) ≡ raised (put_falling a s)
put-raised a [] = by (nat_le 0 (suc a)) (zero_le a)
  where
    zero_le : (a : ℕ) → nat_le 0 (suc a) ≡ true
    zero_le a = grind (arith, nat_tests)

    by : (t : Bool) → t ≡ true → cond t (suc a ∷ 0 ∷ []) (0 ∷ put_falling (suc a) []) ≡ suc a ∷ 0 ∷ []
    by true e = refl
    by false e = cc
put-raised a (b ∷ s) = ap (λ t. cond t (suc a ∷ suc b ∷ raised s) (suc b ∷ put_falling (suc a) (raised s))) (leb-suc-suc b a) ∙ by (nat_le b a) (put-raised a s)
  where
    by : (t : Bool) → put_falling (suc a) (raised s) ≡ raised (put_falling a s) → cond t (suc a ∷ suc b ∷ raised s) (suc b ∷ put_falling (suc a) (raised s)) ≡ raised (cond t (a ∷ b ∷ s) (b ∷ put_falling a s))
    by true r = refl
    by false r = ap (λ l. suc b ∷ l) r

sorted-raised : (s : List ℕ) → sorted_falling (raised s) ≡ raised (sorted_falling s)
sorted-raised [] = refl
sorted-raised (a ∷ s) = ap (put_falling (suc a)) (sorted-raised s) ∙ put-raised a (sorted_falling s)

length-raised : (s : List ℕ) → length (raised s) ≡ suc (length s)
length-raised [] = refl
length-raised (a ∷ s) = ap suc (length-raised s)

pub less-raised : (s : List ℕ) → less_the_rest (raised s) ≡ less_the_rest s ++ 0 ∷ []
less-raised [] = refl
less-raised (a ∷ s) = ap₂ (λ x l. x ∷ l) (let e = length-raised s in let d : suc a - length (raised s) ≡ a - length s = omega arith in d) (less-raised s)

from_beta-raised : (s : List ℕ) → from_beta (raised s) ≡ from_beta s
from_beta-raised s = ap without_last_zeros (less-raised s) ∙ without_last_zeros-zero (less_the_rest s)

straightened-pushed : (α : List ℕ) → straightened (α ++ 0 ∷ []) ≡ straightened α
straightened-pushed α =
    ap (λ b. cond (has_equal_entries b) None (Some (sorting_sign b, from_beta (sorted_falling b)))) (shifted-pushed α)
    ∙ ap₂ (λ t o. cond t None o) (equal-raised (shifted α))
    (ap₂ (λ k l. Some (minus_one_to k, l)) (rising-raised (shifted α)) (ap from_beta (sorted-raised (shifted α)) ∙ from_beta-raised (sorted_falling (shifted α))))

-- ---- a list of n exponents whose last one is positive straightens to 0, or to a partition with n rows

positive_entries : (b : List ℕ) → has 0 b ≡ false → ArePositive b
positive_entries [] h = tt
positive_entries (zero ∷ b) h = absurd (cc)
positive_entries (suc a ∷ b) h = (omega arith, positive_entries b (sym (ap (λ t. t || has 0 b) (positive-test (suc a) (omega arith))) ∙ h))

full_rows : (b : List ℕ) → FallsStrictly b → ArePositive b → ArePositive (less_the_rest b)
full_rows [] f p = tt
full_rows (a ∷ b) f p = (let h = above a b f p in omega arith, full_rows b (strict_tail a b f) p.1)
  where
    above : (a : ℕ) (b : List ℕ) → FallsStrictly (a ∷ b) → ArePositive (a ∷ b) → length b < a
    above a [] f p = p.0
    above a (c ∷ b) f p = let h = above c b f.1 p.1 in let g = f.0 in omega arith

pub rows-full : (b : List ℕ) → FallsStrictly b → ArePositive b → rows (from_beta b) ≡ length b
rows-full b f p = ap length (without_last_zeros-positive (less_the_rest b) (full_rows b f p)) ∙ length-less b

no_zero : (α : List ℕ) (x : ℕ) → has 0 (shifted (α ++ suc x ∷ [])) ≡ false
no_zero [] x = ap (λ b. b || false) (alone x)
  where
    alone : (x : ℕ) → (suc x + 0 == 0) ≡ false
    alone x = let e : suc x + 0 ≡ suc x = omega arith in ap (λ k. k == 0) e ∙ positive-test (suc x) (omega arith)
no_zero (a ∷ α) x = ap (λ b. b || has 0 (shifted (α ++ suc x ∷ []))) (first a (length (α ++ suc x ∷ [])) (long α)) ∙ no_zero α x
  where
    long : (α : List ℕ) → 0 < length (α ++ suc x ∷ [])
    long [] = omega arith
    long (a ∷ α) = omega arith

    first : (a k : ℕ) → 0 < k → (a + k == 0) ≡ false
    first a k h = grind (arith, nat_tests)

-- if α straightens to plus or minus a Schur polynomial, the sum of c·φ(β) over the terms c·x^β of this signed polynomial in n variables; if α
-- straightens to 0, the number 0
abbrev straight_value : ℕ → (List ℕ → ℤ) → List ℕ → ℤ
straight_value n φ α = pair (combined (λ label. schur label n) (straightened_term (straightened α))) φ

last_part : (n k : ℕ) (φ : List ℕ → ℤ) (β : List ℕ) → length β ≡ suc k → has 0 (shifted β) ≡ false → (n ≤ k) ⊎ (size β ≤ k) → straight_value n φ β ≡ pos 0
last_part n k φ β e zero_free few = by (has_equal_entries (shifted β)) refl
  where
    long : length (shifted β) ≡ suc k
    long = length-join_same (suc k) β (staircase (length β)) e (length-staircase (length β) ∙ e)

    by : (t : Bool) → has_equal_entries (shifted β) ≡ t
        → pair (combined (λ label. schur label n) (straightened_term (cond t None (Some (sorting_sign (shifted β), from_beta (sorted_falling (shifted β))))))) φ ≡ pos 0
    by true h = refl
    by false h =
        let b = sorted_falling (shifted β) in
        let strict = sorted_strict (shifted β) h in
        let ν = from_beta (sorted_falling (shifted β)) in
        let p = from_beta_partition (sorted_falling (shifted β)) strict in
        let full : rows (from_beta (sorted_falling (shifted β))) ≡ suc k = rows-full (sorted_falling (shifted β)) strict (positive_entries (sorted_falling (shifted β)) (has-sorted 0 (shifted β) ∙ zero_free)) ∙ length-sorted (shifted β) ∙ long in
        pair_of_combined (λ label. schur label n) ((ν, sorting_sign (shifted β)) ∷ []) φ
        ∙ alone (sorting_sign (shifted β)) (pair (schur ν n) φ) (vanish strict p full few)
      where
        alone : (c x : ℤ) → x ≡ pos 0 → c *ℤ x +ℤ pos 0 ≡ pos 0
        alone c x e = ap (λ z. c *ℤ z +ℤ pos 0) e ∙ ap (λ z. z +ℤ pos 0) (*ℤ-zero c)

        vanish : FallsStrictly (sorted_falling (shifted β)) → IsPartition (from_beta (sorted_falling (shifted β))) → rows (from_beta (sorted_falling (shifted β))) ≡ suc k → (n ≤ k) ⊎ (size β ≤ k) → pair (schur (from_beta (sorted_falling (shifted β))) n) φ ≡ pos 0
        vanish strict p full (inl l) = pair_determined (schur (from_beta (sorted_falling (shifted β))) n) nothing φ (schur_few_variables n (from_beta (sorted_falling (shifted β))) p (omega arith))
        vanish strict p full (inr l) =
            absurd
            (let a = size-from_beta (sorted_falling (shifted β)) strict in
            let c = size-sorted (shifted β) in
            let d = size-join β (staircase (length β)) in
            let r = rows_within_size (from_beta (sorted_falling (shifted β))) p.positive in
            let u : length (sorted_falling (shifted β)) ≡ length β = length-sorted (shifted β) ∙ long ∙ sym e in
            let v = ap (λ j. size (staircase j)) u in
            omega arith)

last_zero : (F : List ℕ → ℤ) (k s : ℕ) → ((α : List ℕ) (x : ℕ) → length α ≡ k → size (α ++ suc x ∷ []) ≡ s → F (α ++ suc x ∷ []) ≡ pos 0)
    → total F (exponent_lists (suc k) s) ≡ total (λ α. F (α ++ 0 ∷ [])) (exponent_lists k s)
last_zero F zero zero h = refl
last_zero F zero (suc s) h =
    total_none F (exponent_lists 1 (suc s)) (λ α m. let t = members_of-exponent_lists α 1 (suc s) m in alone α t.0 t.1)
    ∙ sym (ap (λ b. total (λ α. F (α ++ 0 ∷ [])) (cond b ([] ∷ []) [])) (positive-test (suc s) (omega arith)))
  where
    alone : (α : List ℕ) → length α ≡ 1 → size α ≡ suc s → F α ≡ pos 0
    alone [] e f = absurd (omega arith)
    alone (a ∷ b ∷ α) e f = absurd (omega arith)
    alone (a ∷ []) e f = let same : a ≡ suc s = omega arith in ap (λ c. F (c ∷ [])) same ∙ h [] s refl (omega arith)
last_zero F (suc k) s h =
    total_each F (λ a. map (λ α. a ∷ α) (exponent_lists (suc k) (s - a))) (down_from s)
    ∙ total_among (λ (a : ℕ). total F (map (λ α. a ∷ α) (exponent_lists (suc k) (s - a)))) (λ (a : ℕ). total (λ α. F (α ++ 0 ∷ [])) (map (λ α. a ∷ α) (exponent_lists k (s - a)))) (down_from s)
    (λ a m. let l = down_from-below s a m in
    total_map F (λ (α : List ℕ). a ∷ α) (exponent_lists (suc k) (s - a))
    ∙ last_zero (λ α. F (a ∷ α)) k (s - a) (λ α x e f. h (a ∷ α) x (omega arith) (omega arith))
    ∙ sym (total_map (λ α. F (α ++ 0 ∷ [])) (λ (α : List ℕ). a ∷ α) (exponent_lists k (s - a))))
    ∙ sym (total_each (λ α. F (α ++ 0 ∷ [])) (λ a. map (λ α. a ∷ α) (exponent_lists k (s - a))) (down_from s))

arrangements-more : (parts : List ℕ) (k : ℕ) (g : List ℕ → ℤ) → ((α : List ℕ) (x : ℕ) → length α ≡ k → size (α ++ suc x ∷ []) ≡ size parts → g (α ++ suc x ∷ []) ≡ pos 0)
    → total g (arrangements parts (suc k)) ≡ total (λ α. g (α ++ 0 ∷ [])) (arrangements parts k)
arrangements-more parts k g h =
    total_select g test (exponent_lists (suc k) (size parts))
    ∙ last_zero (λ α. cond (test α) (g α) (pos 0)) k (size parts) (λ α x e f. by (test (α ++ suc x ∷ [])) (h α x e f))
    ∙ total_ext (λ (α : List ℕ). cond (test (α ++ 0 ∷ [])) (g (α ++ 0 ∷ [])) (pos 0)) (λ (α : List ℕ). cond (test α) (g (α ++ 0 ∷ [])) (pos 0))
    (λ α. ap (λ l. cond (same l parts) (g (α ++ 0 ∷ [])) (pos 0)) (sorted_parts-padded α 1)) (exponent_lists k (size parts))
    ∙ sym (total_select (λ (α : List ℕ). g (α ++ 0 ∷ [])) test (exponent_lists k (size parts)))
  where
    test : List ℕ → Bool
    test α = same (sorted_parts α) parts

    by : (t : Bool) {x : ℤ} → x ≡ pos 0 → cond t x (pos 0) ≡ pos 0
    by true e = e
    by false e = refl

-- ---- the signed Schur polynomials of the arrangements of λ in k and in k + 1 places have the same sum, if k is at least the size of λ or the number
-- of variables

terms-value : (n : ℕ) (φ : List ℕ → ℤ) (lists : List (List ℕ)) → pair (combined (λ label. schur label n) (straightened_terms lists)) φ ≡ total (straight_value n φ) lists
terms-value n φ lists =
    pair_of_combined (λ label. schur label n) (straightened_terms lists) φ
    ∙ total_each (λ (t : List ℕ × ℤ). t.1 *ℤ pair (schur t.0 n) φ) (λ (α : List ℕ). straightened_term (straightened α)) lists
    ∙ total_ext (λ (α : List ℕ). total (λ (t : List ℕ × ℤ). t.1 *ℤ pair (schur t.0 n) φ) (straightened_term (straightened α))) (straight_value n φ)
    (λ α. sym (pair_of_combined (λ label. schur label n) (straightened_term (straightened α)) φ)) lists

one_more : (n k : ℕ) (φ : List ℕ → ℤ) (parts : List ℕ) → (n ≤ k) ⊎ (size parts ≤ k)
    → total (straight_value n φ) (arrangements parts (suc k)) ≡ total (straight_value n φ) (arrangements parts k)
one_more n k φ parts few =
    arrangements-more parts k (straight_value n φ)
    (λ α x e f. last_part n k φ (α ++ suc x ∷ []) (long α x ∙ ap suc e) (no_zero α x) (same_size f few))
    ∙ total_ext (λ (α : List ℕ). straight_value n φ (α ++ 0 ∷ [])) (straight_value n φ) (λ α. ap (λ o. pair (combined (λ label. schur label n) (straightened_term o)) φ) (straightened-pushed α)) (arrangements parts k)
  where
    long : (α : List ℕ) (x : ℕ) → length (α ++ suc x ∷ []) ≡ suc (length α)
    long [] x = refl
    long (a ∷ α) x = ap suc (long α x)

    same_size : {s : ℕ} → s ≡ size parts → (n ≤ k) ⊎ (size parts ≤ k) → (n ≤ k) ⊎ (s ≤ k)
    same_size e (inl l) = inl l
    same_size e (inr l) = inr (omega arith)

more : (n k j : ℕ) (φ : List ℕ → ℤ) (parts : List ℕ) → (n ≤ k) ⊎ (size parts ≤ k)
    → total (straight_value n φ) (arrangements parts (j + k)) ≡ total (straight_value n φ) (arrangements parts k)
more n k zero φ parts few = let e : 0 + k ≡ k = omega arith in ap (λ i. total (straight_value n φ) (arrangements parts i)) e
more n k (suc j) φ parts few =
    let e : suc j + k ≡ suc (j + k) = omega arith in
    ap (λ i. total (straight_value n φ) (arrangements parts i)) e
    ∙ one_more n (j + k) φ parts (further few)
    ∙ more n k j φ parts few
  where
    further : (n ≤ k) ⊎ (size parts ≤ k) → (n ≤ j + k) ⊎ (size parts ≤ j + k)
    further (inl l) = inl (omega arith)
    further (inr l) = inr (omega arith)

pub enough_places : (n d : ℕ) (parts : List ℕ) → IsPartition parts → size parts ≤ d → Same (monomial parts n) (combined (λ label. schur label n) (straightened_terms (arrangements parts d)))
enough_places n d parts p h =
    Same_trans (monomial parts n) (combined (λ label. schur label n) (straightened_terms (arrangements parts n))) (combined (λ label. schur label n) (straightened_terms (arrangements parts d)))
    (straightens n parts p)
    (same_from_pair (combined (λ label. schur label n) (straightened_terms (arrangements parts n))) (combined (λ label. schur label n) (straightened_terms (arrangements parts d))) (λ φ.
    terms-value n φ (arrangements parts n) ∙ by φ (cases_lt n d) ∙ sym (terms-value n φ (arrangements parts d))))
  where
    by : (φ : List ℕ → ℤ) → (n < d) ⊎ (d ≤ n) → total (straight_value n φ) (arrangements parts n) ≡ total (straight_value n φ) (arrangements parts d)
    by φ (inl l) = let e : (d - n) + n ≡ d = omega arith in sym (more n n (d - n) φ parts (inl (omega arith))) ∙ ap (λ i. total (straight_value n φ) (arrangements parts i)) e
    by φ (inr l) = let e : (n - d) + d ≡ n = omega arith in ap (λ i. total (straight_value n φ) (arrangements parts i)) (sym e) ∙ more n d (n - d) φ parts (inr h)
