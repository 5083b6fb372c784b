-- Homogeneous polynomials: the degrees of products, alternants and Schur polynomials.
use Rattle.std.proofs.Common.{◌≡◌, ℕ, ◌+◌, cond, List, [], ◌∷◌, ◌++◌, map, length, length-append, pos, ◌*ℤ◌, refl, sym, ap, ◌∙◌, subst, inl, inr, arith}
use Rattle.std.proofs.lemmas.Bool.{cond-false}
use Rattle.sym_model.specs.Sum.{Among}
use Rattle.sym_model.specs.Polynomial.{Term, Poly, same, join, coefficient, one, times}
use Rattle.sym_model.specs.Partition.{size, part}
use Rattle.sym_model.specs.PlaceOrders.{insertions, orders, places, sign}
use Rattle.sym_model.specs.Schur.{words, row_lengths, fillings_of, semistandard, letters_of, content, schur}
use Rattle.sym_model.specs.Alternant.{rearranged, alternant}
use Rattle.sym_model.specs.Products.{schur_product}
use Rattle.sym_model.proofs.Sums.{total_none, Among_from_map, Among_from_each, Among_from_select}
use Rattle.sym_model.proofs.Exponents.{same_apart, size-join}
use Rattle.alternant_laws.proofs.OrderSums.{rearranged_places}
use Rattle.sym_model.specs.Bounded.{AreLetters}
use Rattle.sym_model.proofs.Contents.{size-content}
use Rattle.sym_model.proofs.Tableaux.{word_tells}
use Rattle.sym_model.proofs.Parts.{size-zeros}
pub use Rattle.independence_laws.proofs.Degrees.{times-of_degree}
use Rattle.independence_laws.proofs.Degrees.{OfDegree, one-of_degree}

pub coefficient-other_degree : (d : ℕ) (f : Poly) (α : List ℕ) → OfDegree d f → (size α ≡ d → ⊥) → coefficient f α ≡ pos 0
coefficient-other_degree d f α h other =
    total_none (λ (t : Term). cond (same t.0 α) t.1 (pos 0)) f
    (λ t m. cond-false (same t.0 α) t.1 (pos 0) (same_apart t.0 α (λ e. other (ap size (sym e) ∙ h t m))))

insertions-size : (f : ℕ → ℕ) (x : ℕ) (ys w : List ℕ) → Among w (insertions x ys) → size (map f w) ≡ f x + size (map f ys)
insertions-size f x [] w (inl e) = ap (λ v. size (map f v)) e
insertions-size f x [] w (inr m) = absurd m
insertions-size f x (y ∷ ys) w (inl e) = ap (λ v. size (map f v)) e
insertions-size f x (y ∷ ys) w (inr m) =
    let z = Among_from_map (λ (zs : List ℕ). y ∷ zs) w (insertions x ys) m in
    let h = insertions-size f x ys z.0 z.1 in
    let first : size (map f w) ≡ f y + size (map f z.0) = ap (λ v. size (map f v)) z.2 in
    omega arith

orders-size : (f : ℕ → ℕ) (xs w : List ℕ) → Among w (orders xs) → size (map f w) ≡ size (map f xs)
orders-size f [] w (inl e) = ap (λ v. size (map f v)) e
orders-size f [] w (inr m) = absurd m
orders-size f (x ∷ xs) w m =
    let v = Among_from_each (insertions x) w (orders xs) m in
    let h = orders-size f xs v.0 v.1 in
    let k = insertions-size f x v.0 w v.2 in
    omega arith

pub alternant-of_degree : (β : List ℕ) → OfDegree (size β) (alternant β)
alternant-of_degree β t m =
    let w = Among_from_map (λ (w : List ℕ). (rearranged w β, sign w)) t (orders (places (length β))) m in
    ap (λ (v : Term). size v.0) w.2 ∙ (orders-size (part β) (places (length β)) w.0 w.1 ∙ ap size (rearranged_places (length β) β refl))

-- ---- the degree of a Schur polynomial is the size of its partition

are_letters-append : (n : ℕ) (v w : List ℕ) → AreLetters n v → AreLetters n w → AreLetters n (v ++ w)
are_letters-append n [] w h k = k
are_letters-append n (a ∷ v) w h k = (h.0, are_letters-append n v w h.1 k)

fillings-letters : (n : ℕ) (lengths : List ℕ) (filling : List (List ℕ)) → Among filling (fillings_of n lengths) → (length (letters_of filling) ≡ size lengths) × AreLetters n (letters_of filling)
fillings-letters n [] filling (inl e) = subst (λ v. (length (letters_of v) ≡ 0) × AreLetters n (letters_of v)) (sym e) (refl, tt)
fillings-letters n [] filling (inr m) = absurd m
fillings-letters n (k ∷ lengths) filling m =
    let row = Among_from_each (λ (row : List ℕ). map (λ (rest : List (List ℕ)). row ∷ rest) (fillings_of n lengths)) filling (words n k) m in
    let rest = Among_from_map (λ (rest : List (List ℕ)). row.0 ∷ rest) filling (fillings_of n lengths) row.2 in
    let first = word_tells n k row.0 row.1 in
    let others = fillings-letters n lengths rest.0 rest.1 in
    let long : length (row.0 ++ letters_of rest.0) ≡ k + size lengths = length-append row.0 (letters_of rest.0) ∙ (let a = first.0 in let b = others.0 in omega arith) in
    subst (λ v. (length (letters_of v) ≡ k + size lengths) × AreLetters n (letters_of v)) (sym rest.2) (long, are_letters-append n row.0 (letters_of rest.0) first.1 others.1)

row_lengths-size : (parts : List ℕ) → size (row_lengths parts []) ≡ size parts
row_lengths-size [] = refl
row_lengths-size (a ∷ parts) = let h = row_lengths-size parts in omega arith

pub schur-of_degree : (parts : List ℕ) (n : ℕ) → OfDegree (size parts) (schur parts n)
schur-of_degree parts n t m =
    let filling = Among_from_map (λ (filling : List (List ℕ)). (content n (letters_of filling), pos 1)) t _ m in
    let letters = fillings-letters n (row_lengths parts []) filling.0 (Among_from_select (semistandard []) filling.0 (fillings_of n (row_lengths parts [])) filling.1).0 in
    ap (λ (v : Term). size v.0) filling.2
    ∙ (size-content n (letters_of filling.0) letters.1 ∙ (letters.0 ∙ row_lengths-size parts))

pub schur_product-of_degree : (factors : List (List ℕ)) (n : ℕ) → OfDegree (size (map size factors)) (schur_product factors n)
schur_product-of_degree [] n t m = one-of_degree n t m
schur_product-of_degree (parts ∷ []) n t m = schur-of_degree parts n t m ∙ (omega arith)
schur_product-of_degree (parts ∷ next ∷ factors) n t m =
    times-of_degree (size parts) _ (schur parts n) (schur_product (next ∷ factors) n) (schur-of_degree parts n) (schur_product-of_degree (next ∷ factors) n) t m
