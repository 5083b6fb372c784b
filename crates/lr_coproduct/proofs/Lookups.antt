-- The coefficient of a label in a canonical list of terms (the labels are strictly increasing, and no coefficient is 0), found by binary search.
use Rattle.std.proofs.Common.{◌≡◌, ℕ, zero, suc, ◌<◌, ◌≤◌, ◌⊎◌, List, [], ◌∷◌, length, get_or, refl, sym, ap, ◌∙◌, subst, inl, inr, arith, ℤ, pos}
use Rattle.std.specs.Prelude.{Err}
use Rattle.std.specs.List.Sorted.{IsNonDecreasingBy, IsBinarySearchResult}
use Rattle.std.specs.Ordering.{ordering_index}
use Rattle.std.specs.declared.cmp.Ordering.{Ordering}
use Rattle.std.specs.declared.cmp.Ordering.TheVariants.{Less, Equal, Greater}
use Rattle.std.proofs.lemmas.Bool.{and_parts, cases_lt}
use Rattle.std.proofs.lemmas.Cmp.{tied_itself}
use Rattle.fraction_laws.specs.Fractions.{whole}
use Rattle.sym_model.specs.Sum.{Among}
use Rattle.sym_model.specs.Partition.{IsPartition}
use Rattle.sym_model.specs.Polynomial.{coefficient}
use Rattle.sym_model.specs.LabelLimits.{is_label}
use Rattle.sym_model.specs.PrintedOrder.{printed_order}
use Rattle.sym_model.specs.WholeTerms.{WholeTerms}
use Rattle.sym_model.proofs.Orders.{printed_order-total, printed_order-equal, is_label-tells}
use Rattle.linear_combinations.specs.Entries.{IsCanonicalList}
use Rattle.linear_combinations.proofs.Found.{coefficient_of_term}
use Rattle.linear_combinations.proofs.Ordered.{IsOrdered, stands_before-among, canonical-ordered}
use Rattle.linear_combinations.proofs.Totals.{term-among}
use Rattle.lr_product.proofs.Placed.{table_of}
use Rattle.lr_product.proofs.GoodCounts.{no_label}

pub ordered_in : (terms : WholeTerms) → IsCanonicalList printed_order is_label whole terms → IsOrdered printed_order terms
ordered_in terms c = canonical-ordered printed_order is_label whole printed_order-total.trans terms c

pub label_in : (terms : WholeTerms) → IsCanonicalList printed_order is_label whole terms → (t : List ℕ × ℤ) → Among t terms → IsPartition t.0
label_in terms c t m = (is_label-tells t.0 (and_parts _ (is_label t.0) (term-among is_label whole terms (table_of terms c).proper t m)).1).partition

pub not_before : (x y : List ℕ) → printed_order x y ≡ Less → x ≡ y → ⊥
not_before x y h e =
    let itself = tied_itself printed_order-total y in
    let less : printed_order y y ≡ Less = subst (λ (z : List ℕ). printed_order z y ≡ Less) e h in
    cc

-- ---- a binary search for a label in a canonical list

pub member_at : {A : Type 0} (xs : List A) (i : ℕ) (d : A) → i < length xs → Among (get_or xs i d) xs
member_at [] i d l = absurd (omega arith)
member_at (x ∷ xs) zero d l = inl refl
member_at (x ∷ xs) (suc i) d l = inr (member_at xs i d (omega arith))

member_index : {A : Type 0} (xs : List A) (x : A) → Among x xs → (i : ℕ) × (i < length xs) × ((d : A) → get_or xs i d ≡ x)
member_index [] x m = absurd m
member_index (y ∷ xs) x (inl e) = (0, omega arith, λ d. sym e)
member_index (y ∷ xs) x (inr m) = let r = member_index xs x m in let l = r.1 in (suc r.0, omega arith, r.2)

-- the result of comparing the label of a term with `label` in the printed order
abbrev pub to_label : List ℕ → List ℕ × ℤ → Ordering
to_label label term = printed_order term.0 label

rising : (x y label : List ℕ) → printed_order x y ≡ Less → ordering_index (printed_order x label) ≤ ordering_index (printed_order y label)
rising x y label h = by (printed_order y label) refl
  where
    most : (o : Ordering) → ordering_index o ≤ 2
    most Less = omega arith
    most Equal = omega arith
    most Greater = omega arith

    before : printed_order x label ≡ Less → (n : ℕ) → ordering_index (printed_order x label) ≤ n
    before e n = let z = ap ordering_index e in omega arith

    by : (o : Ordering) → printed_order y label ≡ o → ordering_index (printed_order x label) ≤ ordering_index o
    by Less e = before (printed_order-total.trans x y label h e) 0
    by Equal e =
        let back : printed_order y x ≡ printed_order label x = printed_order-total.congr y label x e in
        let a = printed_order-total.antisymm x y in
        let b = printed_order-total.antisymm x label in
        before (cc) 1
    by Greater e = most (printed_order x label)

-- in a list in the printed order, the results of comparing the labels of the terms, one after another, with `label` are weakly increasing from Less
-- to Greater
pub terms_rise : (xs : List (List ℕ × ℤ)) (label : List ℕ) → IsOrdered printed_order xs → IsNonDecreasingBy (λ (y : List ℕ × ℤ). ordering_index (to_label label y)) xs
terms_rise [] label h i j d l k = absurd (omega arith)
terms_rise (x ∷ xs) label h zero zero d l k = omega arith
terms_rise (x ∷ xs) label h zero (suc j) d l k =
    rising x.0 (get_or xs j d).0 label (stands_before-among printed_order x.0 xs (get_or xs j d) h.0 (member_at xs j d (omega arith)))
terms_rise (x ∷ xs) label h (suc i) zero d l k = absurd (omega arith)
terms_rise (x ∷ xs) label h (suc i) (suc j) d l k = terms_rise xs label h.1 i j d (omega arith) (omega arith)

pub found : (xs : List (List ℕ × ℤ)) (label : List ℕ) (i : ℕ) (x : List ℕ × ℤ) → IsCanonicalList printed_order is_label whole xs → IsPartition label
    → i < length xs → x ≡ get_or xs i x → printed_order x.0 label ≡ Equal → coefficient xs label ≡ x.1
found xs label i x c p l is e =
    let there : Among x xs = subst (λ (y : List ℕ × ℤ). Among y xs) (sym is) (member_at xs i x l) in
    let q = label_in xs c x there in
    subst (λ (ν : List ℕ). coefficient xs ν ≡ x.1) (printed_order-equal x.0 label q.positive p.positive e)
    (coefficient_of_term xs (table_of xs c).distinct x there)

pub not_found : (xs : List (List ℕ × ℤ)) (label : List ℕ) (i : ℕ) → IsCanonicalList printed_order is_label whole xs → IsBinarySearchResult (to_label label) xs (Err i)
    → coefficient xs label ≡ pos 0
not_found xs label i c r =
    no_label xs label nowhere
  where
    parted : ((k : ℕ) (d : List ℕ × ℤ) → 0 ≤ k → k < i → to_label label (get_or xs k d) ≡ Less) × ((k : ℕ) (d : List ℕ × ℤ) → i ≤ k → k < length xs → to_label label (get_or xs k d) ≡ Greater)
    parted = r (terms_rise xs label (ordered_in xs c))

    at_place : (k : ℕ) (x : List ℕ × ℤ) → k < length xs → get_or xs k x ≡ x → x.0 ≡ label → (k < i) ⊎ (i ≤ k) → ⊥
    at_place k x l g e (inl h) =
        let less = parted.0 k x (omega arith) h in
        let itself = tied_itself printed_order-total label in
        let here : to_label label (get_or xs k x) ≡ printed_order label label = ap (to_label label) g ∙ ap (λ (ν : List ℕ). printed_order ν label) e in
        cc
    at_place k x l g e (inr h) =
        let greater = parted.1 k x h l in
        let itself = tied_itself printed_order-total label in
        let here : to_label label (get_or xs k x) ≡ printed_order label label = ap (to_label label) g ∙ ap (λ (ν : List ℕ). printed_order ν label) e in
        cc

    nowhere : (x : List ℕ × ℤ) → Among x xs → x.0 ≡ label → ⊥
    nowhere x m e = let k = member_index xs x m in at_place k.0 x k.1 (k.2 x) e (cases_lt k.0 i)
