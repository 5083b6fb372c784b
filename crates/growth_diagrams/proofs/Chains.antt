-- The tableau of a chain of shapes (`tableau_of_chain`): each number k is appended to the row in which the shape k of the chain is longer than the
-- shape before it.
use Rattle.std.proofs.Common.{◌≡◌, ℕ, suc, ◌+◌, ◌≤◌, List, length, ◌∙◌, ap, ap₂, sym, arith}
use Rattle.std.proofs.lemmas.List.{length-map}
use Rattle.sym_model.specs.Growth.{grown, tableau_of_chain, with_end}
use Rattle.sym_model.specs.Tableau.{shape_of}
use Rattle.insertion_laws.proofs.Removals.{grown-within}

pub row_there :
    (rows : List (List ℕ)) (large small : List ℕ) (i count : ℕ) → shape_of rows ≡ small → i ≡ grown large small → count ≡ length rows
    → i ≤ count
row_there rows large small i count e f g =
    omega (arith, grown-within large small, ap (λ (s : List ℕ). length s) e, length-map rows (λ (w : List ℕ). length w))

pub chain-more :
    (shape : ℕ → List ℕ) (k i : ℕ) (rows more : List (List ℕ)) (large small : List ℕ) → rows ≡ tableau_of_chain shape k
    → large ≡ shape (k + 1) → small ≡ shape k → i ≡ grown large small → more ≡ with_end i (k + 1) rows
    → more ≡ tableau_of_chain shape (k + 1)
chain-more shape k i rows more large small r l s e m =
    let n : k + 1 ≡ suc k = omega arith in
    m ∙ ap₂ (λ (x : ℕ) (t : List (List ℕ)). with_end x (k + 1) t) (e ∙ ap₂ grown (l ∙ ap shape n) s) r
    ∙ ap (λ x. with_end (grown (shape (suc k)) (shape k)) x (tableau_of_chain shape k)) n ∙ ap (tableau_of_chain shape) (sym n)
