-- The list of terms that `coprod` returns for the coproduct of a Schur polynomial: the polynomial that is the sum of the terms, and the coefficients
-- of the terms. Each term is labelled by a pair of partitions.
use Rattle.std.proofs.Common.{◌≡◌, ℕ, ◌+◌, List, [], ◌∷◌, ◌++◌, refl, sym, ap, ◌∙◌, arith, ℤ, pos, ◌+ℤ◌, ◌*ℤ◌, flat_map}
use Rattle.std.specs.Prelude.{None}
use Rattle.std.proofs.lemmas.Int.{ints}
use Rattle.sym_model.specs.Sum.{total, Among}
use Rattle.sym_model.specs.Partition.{IsPartition, columns, without_last_zeros}
use Rattle.sym_model.specs.Polynomial.{Poly, Same, pair, plus, scale, coefficient as coefficient_of}
use Rattle.sym_model.specs.Schur.{schur, skew_schur}
use Rattle.sym_model.specs.Expansion.{Represents, beside, pair_polynomial, denominators}
use Rattle.sym_model.specs.WholeTerms.{WholeTermsOf, WholeTerms, as_fractions, combined}
use Rattle.sym_model.proofs.Polynomials.{pair_beside, coefficient_plus, coefficient_scale, pair_ext, pair_total, pair_factor, pair_determined, same_from_pair}
use Rattle.sym_model.proofs.Ring.{one-product}
use Rattle.sym_model.proofs.Sums.{total_ext, total_same_members}
use Rattle.sym_model.proofs.WholeTerms.{pair_of_combined, denominators-as_fractions, value_by-as_fractions}
use Rattle.sym_model.specs.PastLimit.{HasPast, IsCoefficientOfSkew, IsCoproductCoefficient}
use Rattle.sym_model.specs.Products.{IsCoproductOf}
use Rattle.linear_combinations.proofs.Masses.{represents_sums}
use Rattle.schur_laws.specs.InnerShapes.{shapes_inside}
use Rattle.schur_laws.proofs.Coproducts.{coproduct}
use Rattle.lr_coproduct.specs.PairTerms.{pair_sum, second_sum}
use Rattle.lr_coproduct.specs.InnerShapeList.{ListsShapesInside}
use Rattle.lr_coproduct.proofs.InnerLists.{partitions_inside, part_among, among_part, once_partitions_inside}
use Rattle.lr_coproduct.proofs.SortedShapes.{once_listed}
use Rattle.tableau_laws.proofs.Padding.{each_map}

pub sum_of_terms : (P : List ℕ → Poly) (list : WholeTerms) (f : Poly) → Represents P (as_fractions list) f 1 → Same (combined P list) f
sum_of_terms P list f r α =
    let one : denominators (as_fractions list) ≡ 1 = denominators-as_fractions list in
    let e = r.equal α in
    sym (one-product (coefficient_of (combined P list) α))
    ∙ sym (coefficient_scale (pos 1) (combined P list) α)
    ∙ sym (ap (λ (g : Poly). coefficient_of (scale (pos 1) g) α) (value_by-as_fractions P list))
    ∙ e
    ∙ ap (λ d. coefficient_of (scale (pos d) f) α) one
    ∙ coefficient_scale (pos 1) f α ∙ one-product (coefficient_of f α)

pub second_is : (n k : ℕ) (first : List ℕ) (f : Poly) (list : WholeTerms) → Represents (λ (label : List ℕ). schur label k) (as_fractions list) f 1 → Same (second_sum n k first list) (beside (schur first n) f)
second_is n k first f list r =
    let g = schur first n in
    same_from_pair (second_sum n k first list) (beside g f) (λ φ.
    pair_of_combined (λ (second : List ℕ). pair_polynomial n k (first, second)) list φ
    ∙ total_ext (λ (t : List ℕ × ℤ). t.1 *ℤ pair (beside g (schur t.0 k)) φ) (λ (t : List ℕ × ℤ). pair g (λ α. t.1 *ℤ pair (schur t.0 k) (λ β. φ (α ++ β))))
    (λ t. ap (λ z. t.1 *ℤ z) (pair_beside g (schur t.0 k) φ) ∙ sym (pair_factor t.1 g (λ α. pair (schur t.0 k) (λ β. φ (α ++ β))))) list
    ∙ sym (pair_total g (λ (t : List ℕ × ℤ) (α : List ℕ). t.1 *ℤ pair (schur t.0 k) (λ β. φ (α ++ β))) list)
    ∙ pair_ext g (λ α. total (λ (t : List ℕ × ℤ). t.1 *ℤ pair (schur t.0 k) (λ β. φ (α ++ β))) list) (λ α. pair f (λ β. φ (α ++ β)))
    (λ α. sym (pair_of_combined (λ (label : List ℕ). schur label k) list (λ β. φ (α ++ β)))
    ∙ pair_determined (combined (λ (label : List ℕ). schur label k) list) f (λ β. φ (α ++ β)) (sum_of_terms (λ (label : List ℕ). schur label k) list f r))
    ∙ sym (pair_beside g f φ))

pub plus_same : (new old f g : Poly) → Same f g → Same new (plus old f) → Same new (plus old g)
plus_same new old f g e h α =
    let p = coefficient_plus old f α in
    let q = coefficient_plus old g α in
    let i = h α in
    let j = e α in
    omega (arith, ints)

each_next : (f : List ℕ → Poly) (xs : List (List ℕ)) (x : List ℕ) (α : List ℕ) → coefficient_of (flat_map f (xs ++ (x ∷ []))) α ≡ coefficient_of (flat_map f xs) α +ℤ coefficient_of (f x) α
each_next f [] x α = let p = coefficient_plus (f x) [] α in omega (arith, ints)
each_next f (y ∷ xs) x α =
    let p = coefficient_plus (f y) (flat_map f (xs ++ (x ∷ []))) α in
    let q = coefficient_plus (f y) (flat_map f xs) α in
    let r = each_next f xs x α in
    omega (arith, ints)

pub sum_next : (f : List ℕ → Poly) (xs next : List (List ℕ)) (x : List ℕ) (old new : Poly) → next ≡ xs ++ (x ∷ []) → Same old (flat_map f xs) → Same new (plus old (f x)) → Same new (flat_map f next)
sum_next f xs next x old new e h k α =
    let p = k α in
    let q = coefficient_plus old (f x) α in
    let r = h α in
    let s = each_next f xs x α in
    let t : coefficient_of (flat_map f next) α ≡ coefficient_of (flat_map f (xs ++ (x ∷ []))) α = ap (λ l. coefficient_of (flat_map f l) α) e in
    omega (arith, ints)

coefficient_of_each : (f : List ℕ → Poly) (xs : List (List ℕ)) (α : List ℕ) → coefficient_of (flat_map f xs) α ≡ total (λ x. coefficient_of (f x) α) xs
coefficient_of_each f [] α = refl
coefficient_of_each f (x ∷ xs) α =
    let p = coefficient_plus (f x) (flat_map f xs) α in
    let r = coefficient_of_each f xs α in
    omega (arith, ints)

each_listed : (f : List ℕ → Poly) (shape : List ℕ) (inners : List (List ℕ)) → ListsShapesInside shape inners → Same (flat_map f inners) (flat_map f (partitions_inside shape))
each_listed f shape inners l α =
    coefficient_of_each f inners α
    ∙ total_same_members (λ x. coefficient_of (f x) α) inners (partitions_inside shape) (once_listed shape inners l) (once_partitions_inside shape)
    (λ x m. among_part shape x (l.partitions x m) (l.inside x m))
    (λ x m. let r = part_among shape x m in l.all x r.partition r.inside)
    ∙ sym (coefficient_of_each f (partitions_inside shape) α)

pub coproduct_meets : (shape : List ℕ) (inners : List (List ℕ)) (terms : WholeTermsOf (List ℕ × List ℕ)) → IsPartition shape → ListsShapesInside shape inners
    → ((n k : ℕ) → Same (pair_sum n k terms) (flat_map (λ inner. beside (schur inner n) (skew_schur shape inner k)) inners))
    → IsCoproductOf shape (as_fractions terms)
coproduct_meets shape inners terms p l sums n k =
    represents_sums (pair_polynomial n k) terms (schur shape (n + k)) (λ φ.
    sym (pair_of_combined (pair_polynomial n k) terms φ) ∙ pair_determined (pair_sum n k terms) (schur shape (n + k)) φ (λ α.
    sums n k α
    ∙ each_listed (λ inner. beside (schur inner n) (skew_schur shape inner k)) shape inners l α
    ∙ ap (λ (f : Poly). coefficient_of f α) (each_map (λ inner. beside (schur inner n) (skew_schur shape inner k)) without_last_zeros (shapes_inside shape (columns shape)))
    ∙ sym (coproduct n k shape p α)))

pub past_of_inner : (shape inner : List ℕ) (inners : List (List ℕ)) → ListsShapesInside shape inners → Among inner inners → HasPast (IsCoefficientOfSkew None shape inner) → HasPast (IsCoproductCoefficient shape)
past_of_inner shape inner inners l m (c, s, past) =
    (c, record { part = inner; partition = l.partitions inner m; inside = l.inside inner m; is = s }, past)

pub none_past : (shape : List ℕ) (inners : List (List ℕ)) → ListsShapesInside shape inners → ((inner : List ℕ) → Among inner inners → HasPast (IsCoefficientOfSkew None shape inner) → ⊥) → HasPast (IsCoproductCoefficient shape) → ⊥
none_past shape inners l fits (c, d, past) = fits d.part (l.all d.part d.partition d.inside) (c, d.is, past)
