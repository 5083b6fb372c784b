-- The greatest size of a label, and the pairs before, at and after the current position of a loop over a list (specs/MonomialProducts).
use Rattle.std.proofs.Common.{◌≡◌, ℕ, ◌≤◌, List, [], ◌∷◌, ◌++◌, sym, ◌∙◌, ap, subst, refl, inl, inr, arith}
use Rattle.std.specs.Prelude.{max}
use Rattle.sym_model.specs.Sum.{Among}
use Rattle.sym_model.specs.Partition.{size}
use Rattle.sym_model.specs.Expansion.{Fraction, Terms}
use Rattle.sparse_polys.specs.Combination.{terms_of}
use Rattle.sparse_polys.proofs.Steps.{among-next}
use Rattle.sparse_polys.specs.MonomialProducts.{greatest_size}

pub greatest_size-among : {R : Type 0} (terms : List (List ℕ × R)) (t : List ℕ × R) → Among t terms → size t.0 ≤ greatest_size terms
greatest_size-among [] t m = absurd m
greatest_size-among {R} (u ∷ terms) t (inl e) = let s = ap (λ (v : List ℕ × R). size v.0) e in omega arith
greatest_size-among (u ∷ terms) t (inr m) = let s = greatest_size-among terms t m in omega arith

pub greatest_size-values : {R : Type 0} (value : R → Fraction) (pairs : List (List ℕ × R)) → greatest_size (terms_of value pairs) ≡ greatest_size pairs
greatest_size-values value [] = refl
greatest_size-values value (p ∷ pairs) = ap (λ n. max (size p.0) n) (greatest_size-values value pairs)

-- if a loop over a list of pairs with the values `terms` has visited `done`, and the pairs `left` to come are (k, v) and then `rest`, then done ++
-- (k, v) ∷ rest has the values `terms`
pub list_whole : {R : Type 0} (value : R → Fraction) (done rest left begun items : List (List ℕ × R)) (k : List ℕ) (v : R) (terms : Terms (List ℕ))
    → left ≡ (k, v) ∷ rest → done ++ left ≡ begun → begun ≡ items → terms_of value items ≡ terms
    → terms_of value (done ++ (k, v) ∷ rest) ≡ terms
list_whole value done rest left begun items k v terms steps so_far given shown =
    ap (terms_of value) (ap (λ es. done ++ es) (sym steps) ∙ so_far ∙ given) ∙ shown

pub list_among : {R : Type 0} (value : R → Fraction) (done rest : List (List ℕ × R)) (k : List ℕ) (v : R) (terms : Terms (List ℕ))
    → terms_of value (done ++ (k, v) ∷ rest) ≡ terms → Among (k, (value v)) terms
list_among value done rest k v terms e = subst (λ (l : Terms (List ℕ)). Among (k, (value v)) l) e (among-next value done k v rest)
