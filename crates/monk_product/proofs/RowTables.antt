-- Lists of Schubert polynomials that are values of the first rows of a diagram (`IsValueAt`), and products with elementary polynomials.
--     times_over     a list times a polynomial, in place of a polynomial that has the same sums
--     values_next    the sum over the summands of a row is the value of one row more
--     signs_cancel   the value of all rows, times the sign of v, is the product of the two Schubert polynomials
use Rattle.std.proofs.Common.{◌≡◌, ℕ, zero, suc, ◌+◌, ◌<◌, ◌≤◌, List, [], ◌∷◌, ◌++◌, length, get_or, take, refl, sym, ap, ◌∙◌, subst, inl, inr, arith, ℤ, pos, ◌+ℤ◌, ◌*ℤ◌, neg_ℤ}
use Rattle.std.proofs.lemmas.Int.{ints}
use Rattle.std.proofs.lemmas.List.{take_all}
use Rattle.sym_model.specs.Sum.{total, Among}
use Rattle.sym_model.specs.PlaceOrders.{minus_one_to, sign, inversions}
use Rattle.sym_model.specs.Polynomial.{Poly, join, pair, times}
use Rattle.sym_model.specs.Permutation.{with_fixed}
use Rattle.sym_model.specs.Schubert.{schubert, schubert_in}
use Rattle.sym_model.specs.WholeTerms.{WholeTerms}
use Rattle.sym_model.proofs.Polynomials.{pair_determined, pair_ext, pair_factor, pair_scale, pair_times, pair_total, In_map, In_restrict}
use Rattle.sym_model.proofs.Ring.{ring}
use Rattle.sym_model.proofs.Sums.{total_ext, Among_from_append}
use Rattle.sym_model.proofs.PolynomialLaws.{times_comm}
use Rattle.schubert_laws.specs.Chains.{elementary_in}
use Rattle.double_schubert_laws.specs.DiagramRows.{times_rows}
use Rattle.double_schubert_laws.proofs.RowsFromOne.{rows_start}
use Rattle.linear_combinations.specs.Gains.{over, Gains}
use Rattle.monk_product.specs.RowPaths.{AreIn, AreValues, IsLongest, IsPathFor, signed_by}
use Rattle.monk_product.specs.RowProducts.{IsValueAt, AreSummandsAt}
use Rattle.monk_product.specs.declared.row_summands.Summand.{Summand}
use Rattle.monk_product.specs.declared.row_table.Entry.{Entry}

-- a list of polynomials S(w), each times E: if the list has the sums of X, the products have those of E·X
pub times_over : (E X : Poly) (S : List ℕ → Poly) (list : WholeTerms) (φ : List ℕ → ℤ)
    → ((ψ : List ℕ → ℤ) → over (λ w. pair (S w) ψ) list ≡ pair X ψ)
    → over (λ w. pair (times E (S w)) φ) list ≡ pair (times E X) φ
times_over E X S list φ h =
    total_ext (λ (t : List ℕ × ℤ). t.1 *ℤ pair (times E (S t.0)) φ) (λ (t : List ℕ × ℤ). pair E (λ α. t.1 *ℤ pair (S t.0) (λ β. φ (join α β))))
    (λ t. ap (λ z. t.1 *ℤ z) (pair_times E (S t.0) φ) ∙ sym (pair_factor t.1 E (λ α. pair (S t.0) (λ β. φ (join α β))))) list
    ∙ sym (pair_total E (λ (t : List ℕ × ℤ) α. t.1 *ℤ pair (S t.0) (λ β. φ (join α β))) list)
    ∙ pair_ext E (λ α. over (λ w. pair (S w) (λ β. φ (join α β))) list) (λ α. pair X (λ β. φ (join α β))) (λ α. h (λ β. φ (join α β)))
    ∙ sym (pair_times E X φ)

-- z·E times the list of one entry, added to a list
pub entry_gains : (k d c : ℕ) (z : ℤ) (φ : List ℕ → ℤ) (value : List ℕ → Poly) (old new list : WholeTerms) (q v : List ℕ)
    → ((ψ : List ℕ → ℤ) → over (λ w. pair (schubert_in w k) ψ) list ≡ pair (value q) ψ) → q ≡ v
    → over (λ w. pair (schubert_in w k) φ) new
    ≡ over (λ w. pair (schubert_in w k) φ) old +ℤ z *ℤ over (λ w. pair (times (elementary_in d c k) (schubert_in w k)) φ) list
    → over (λ w. pair (schubert_in w k) φ) new
    ≡ over (λ w. pair (schubert_in w k) φ) old +ℤ z *ℤ pair (times (elementary_in d c k) (value v)) φ
entry_gains k d c z φ value old new list q v h e g =
    g
    ∙ ap (λ x. over (λ w. pair (schubert_in w k) φ) old +ℤ z *ℤ x)
    (times_over (elementary_in d c k) (value q) (λ w. schubert_in w k) list φ h ∙ ap (λ u. pair (times (elementary_in d c k) (value u)) φ) e)

-- ---- the sum over the summands

pub total_more : {A : Type 0} (f : A → ℤ) (xs : List A) (x : A) → total f (xs ++ x ∷ []) ≡ total f xs +ℤ f x
total_more f [] x = omega (arith, ints)
total_more f (y ∷ xs) x = let r = total_more f xs x in omega (arith, ints)

-- the list is the sum over these summands, if `value` has the values of the rows before
abbrev pub IsSumOver : ℕ → (List ℕ → Poly) → ℕ → List Summand → WholeTerms → Type 0
IsSumOver k value c summands sum =
    (φ : List ℕ → ℤ) → over (λ w. pair (schubert_in w k) φ) sum
    ≡ total (λ (x : Summand). x.coefficient *ℤ pair (times (elementary_in x.degree c k) (value x.perm)) φ) summands

pub no_sum : (k : ℕ) (value : List ℕ → Poly) (c : ℕ) → IsSumOver k value c [] []
no_sum k value c φ = refl

pub sum_more : (k : ℕ) (value : List ℕ → Poly) (c : ℕ) (done : List Summand) (x : Summand) (all : List Summand) (old new : WholeTerms) → done ++ x ∷ [] ≡ all
    → IsSumOver k value c done old
    → ((φ : List ℕ → ℤ) → over (λ w. pair (schubert_in w k) φ) new
    ≡ over (λ w. pair (schubert_in w k) φ) old +ℤ x.coefficient *ℤ pair (times (elementary_in x.degree c k) (value x.perm)) φ)
    → IsSumOver k value c all new
sum_more k value c done x all old new e h g φ =
    let f = λ (y : Summand). y.coefficient *ℤ pair (times (elementary_in y.degree c k) (value y.perm)) φ in
    g φ ∙ ap (λ z. z +ℤ f x) (h φ) ∙ sym (total_more f done x) ∙ ap (total f) e

pub values_next : (s : ℕ → Poly) (n i c : ℕ) (rows q : List ℕ) (summands : List Summand) (sum : WholeTerms) → AreIn s → get_or rows i 0 ≡ c
    → AreSummandsAt n i rows q summands → ((k : ℕ) → IsSumOver k (λ v. times_rows k (s k) (take i rows) (with_fixed n v)) c summands sum)
    → IsValueAt s n (take (i + 1) rows) q sum
values_next s n i c rows q summands sum j e a h = record {
  value = λ k φ.
      h k φ
      ∙ ap (λ r. total (λ (x : Summand). x.coefficient
      *ℤ pair (times (elementary_in x.degree r k) (times_rows k (s k) (take i rows) (with_fixed n x.perm))) φ) summands) (sym e)
      ∙ sym (a.value k (s k) φ (j k));
}

-- ---- entries of tables

pub entry_there : {A : Type 0} (xs : List A) (i : ℕ) (x : A) → i < length xs → x ≡ get_or xs i x → Among x xs
entry_there [] i x h e = absurd (omega arith)
entry_there (y ∷ xs) zero x h e = inl e
entry_there (y ∷ xs) (suc i) x h e = inr (entry_there xs i x (omega arith) e)

pub among_last : {A : Type 0} (xs : List A) (x : A) → Among x (xs ++ x ∷ [])
among_last [] x = inl refl
among_last (y ∷ xs) x = inr (among_last xs x)

-- the value of all rows at the last entry of a table
pub last_value : (s : ℕ → Poly) (n i : ℕ) (rows q : List ℕ) (table rest : List Entry) (e : Entry) → AreValues s n (take i rows) table → length rows ≤ i
    → table ≡ rest ++ e ∷ [] → e.perm ≡ q → IsValueAt s n rows q e.sum
last_value s n i rows q table rest e h l t p =
    subst (λ (v : List ℕ). IsValueAt s n rows v e.sum) p
    (subst (λ (r : List ℕ). IsValueAt s n r e.perm e.sum) (take_all i rows l) (h e (subst (Among e) (sym t) (among_last rest e))))

pub values_none : (s : ℕ → Poly) (n : ℕ) (rows : List ℕ) → AreValues s n rows []
values_none s n rows e m = absurd m

pub values_push : (s : ℕ → Poly) (n : ℕ) (rows : List ℕ) (table : List Entry) (e : Entry) → AreValues s n rows table → IsValueAt s n rows e.perm e.sum
    → AreValues s n rows (table ++ e ∷ [])
values_push s n rows table e h v x m =
    elim (Among_from_append x table (e ∷ []) m) [
      | inl k ↦ h x k
      | inr k ↦ elim k [ inl f ↦ subst (λ (y : Entry). IsValueAt s n rows y.perm y.sum) (sym f) v | inr a ↦ absurd a ]
    ]

-- ---- the first table, and the end

pub signed_in : (v u : List ℕ) → AreIn (signed_by v u)
signed_in v u k = In_map k (λ (t : List ℕ × ℤ). (t.0, sign v *ℤ t.1)) (schubert_in u k) (λ t m. In_restrict k (schubert u) t m)

pub first_value : (v u q : List ℕ) (n : ℕ) (z : ℤ) (sum : WholeTerms) → IsLongest n q → z ≡ minus_one_to (inversions v) *ℤ pos 1
    → Gains [] ((u, z) ∷ []) sum → IsValueAt (signed_by v u) n [] q sum
first_value v u q n z sum l e g = record {
  value = λ k φ.
      let a = g.sums (λ w. pair (schubert_in w k) φ) in
      let b = pair_determined (times_rows k (signed_by v u k) [] (with_fixed n q)) (signed_by v u k) φ
      (rows_start k (signed_by v u k) (with_fixed n q) (signed_in v u k) l.falls) in
      let c = pair_scale (sign v) (schubert_in u k) φ in
      let d : z *ℤ pair (schubert_in u k) φ ≡ sign v *ℤ pair (schubert_in u k) φ = ap (λ x. x *ℤ pair (schubert_in u k) φ) (e ∙ omega (arith, ints)) in
      omega (arith, ints);
}

neg_twice : (z x : ℤ) → neg_ℤ z *ℤ (neg_ℤ z *ℤ x) ≡ z *ℤ (z *ℤ x)
neg_twice z x = simp ring (omega (arith, ints))

sign_squared : (k : ℕ) (x : ℤ) → minus_one_to k *ℤ (minus_one_to k *ℤ x) ≡ x
sign_squared zero x = omega (arith, ints)
sign_squared (suc k) x = neg_twice (minus_one_to k) x ∙ sign_squared k x

pub signs_cancel : (v u rows q : List ℕ) (n : ℕ) (sum : WholeTerms) → IsPathFor v n rows q → IsValueAt (signed_by v u) n rows q sum
    → (k : ℕ) (φ : List ℕ → ℤ) → over (λ w. pair (schubert_in w k) φ) sum ≡ pair (times (schubert_in u k) (schubert_in v k)) φ
signs_cancel v u rows q n sum p a k φ =
    let f = λ (α : List ℕ). pair (schubert_in v k) (λ β. φ (join α β)) in
    a.value k φ
    ∙ p.value k (signed_by v u k) φ
    ∙ ap (λ x. sign v *ℤ x)
    (pair_times (signed_by v u k) (schubert_in v k) φ ∙ pair_scale (sign v) (schubert_in u k) f
    ∙ ap (λ x. sign v *ℤ x) (sym (pair_times (schubert_in u k) (schubert_in v k) φ)))
    ∙ sign_squared (inversions v) (pair (times (schubert_in u k) (schubert_in v k)) φ)

-- the two factors exchanged
pub factors_swapped : (u v : List ℕ) (sum : WholeTerms)
    → ((k : ℕ) (φ : List ℕ → ℤ) → over (λ w. pair (schubert_in w k) φ) sum ≡ pair (times (schubert_in v k) (schubert_in u k)) φ)
    → (k : ℕ) (φ : List ℕ → ℤ) → over (λ w. pair (schubert_in w k) φ) sum ≡ pair (times (schubert_in u k) (schubert_in v k)) φ
factors_swapped u v sum h k φ =
    h k φ
    ∙ pair_determined (times (schubert_in v k) (schubert_in u k)) (times (schubert_in u k) (schubert_in v k)) φ
    (times_comm (schubert_in v k) (schubert_in u k))
