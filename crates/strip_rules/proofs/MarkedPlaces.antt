-- The splits of a list ν, that is, the pairs of lists that add up to ν place by place, with one place of the first list marked.
--     marking            a sum over the splits and over the places of a number b in the first list, as a sum over the places of ν
--     marked-equal, marked-from      the sum of a constant z over the places of ν with the number v, or with a number of at least v
use Rattle.std.proofs.Common.{◌≡◌, ℕ, ◌+◌, ◌-◌, cond, eqb, leb, List, [], ◌∷◌, sym, ◌∙◌, ap, ap₂, refl, inl, inr, arith, ℤ, pos, ◌+ℤ◌, ◌*ℤ◌, rules}
use Rattle.sym_model.specs.Sum.{total, Among}
use Rattle.sym_model.specs.Partition.{insert_part, sorted_parts}
use Rattle.sym_model.specs.Bases.{down_from}
use Rattle.sym_model.specs.Schur.{times_in}
use Rattle.sym_model.specs.Conjugate.{count_from}
use Rattle.sym_model.proofs.Ring.{distributes_left, counted-product}
use Rattle.sym_model.proofs.Sums.{total_ext, total_add, total_zero, total_cond}
use Rattle.sym_model.proofs.SortedParts.{insert_part_comm}
use Rattle.sym_model.proofs.Monomials.{total_down_from-only}
use Rattle.monomial_laws.specs.MonomialProduct.{splits}
use Rattle.monomial_laws.proofs.Splits.{total_splits, sorted_total}
use lib.IntN.{+ℤ_idr, zero-*ℤ, *ℤ-zero}

-- the sum of f(d, rest) over the places of a list ν, where d is the number at the place and `rest` is the list of the other numbers of ν
abbrev pub marked : (ℕ → List ℕ → ℤ) → List ℕ → ℤ
marked f [] = pos 0
marked f (d ∷ ν) = f d ν +ℤ marked (λ (e : ℕ) (rest : List ℕ). f e (d ∷ rest)) ν

-- d is one of the numbers of ν, and `rest` has the other numbers of ν, in any order
pub record IsTaken (d : ℕ) (rest ν : List ℕ) : Type 0 where
  pub among : Among d ν
  pub parts : insert_part d (sorted_parts rest) ≡ sorted_parts ν
  pub counts : (k : ℕ) → count_from k ν ≡ cond (leb k d) 1 0 + count_from k rest

pub marked_taken : (f g : ℕ → List ℕ → ℤ) (ν : List ℕ)
    → ((d : ℕ) (rest : List ℕ) → IsTaken d rest ν → f d rest ≡ g d rest) → marked f ν ≡ marked g ν
marked_taken f g [] h = refl
marked_taken f g (d ∷ ν) h =
    ap₂ ◌+ℤ◌ (h d ν (record { among = inl refl; parts = refl; counts = λ k. refl }))
    (marked_taken (λ (e : ℕ) (rest : List ℕ). f e (d ∷ rest))
    (λ (e : ℕ) (rest : List ℕ). g e (d ∷ rest)) ν
    (λ e rest t. h e (d ∷ rest)
    (record {
      among = inr t.among;
      parts = insert_part_comm e d (sorted_parts rest) ∙ ap (insert_part d) t.parts;
      counts = λ k. let c = t.counts k in omega arith;
    })))

marked_ext : (f g : ℕ → List ℕ → ℤ) (ν : List ℕ) → ((d : ℕ) (rest : List ℕ) → f d rest ≡ g d rest)
    → marked f ν ≡ marked g ν
marked_ext f g ν h = marked_taken f g ν (λ d rest t. h d rest)

marked_total : (F : ℕ → ℕ → List ℕ → ℤ) (xs : List ℕ) (ν : List ℕ)
    → marked (λ (e : ℕ) (rest : List ℕ). total (λ (x : ℕ). F x e rest) xs) ν
    ≡ total (λ (x : ℕ). marked (F x) ν) xs
marked_total F xs [] = sym (total_zero xs)
marked_total F xs (d ∷ ν) =
    ap (λ z. total (λ (x : ℕ). F x d ν) xs +ℤ z)
    (marked_total (λ (x e : ℕ) (rest : List ℕ). F x e (d ∷ rest)) xs ν)
    ∙ sym (total_add (λ (x : ℕ). F x d ν)
    (λ (x : ℕ). marked (λ (e : ℕ) (rest : List ℕ). F x e (d ∷ rest)) ν) xs)

pub marked_scale : (c : ℤ) (f : ℕ → List ℕ → ℤ) (ν : List ℕ) → c *ℤ marked f ν
    ≡ marked (λ (d : ℕ) (rest : List ℕ). c *ℤ f d rest) ν
marked_scale c f [] = *ℤ-zero c
marked_scale c f (d ∷ ν) =
    distributes_left c (f d ν) (marked (λ (e : ℕ) (rest : List ℕ). f e (d ∷ rest)) ν)
    ∙ ap (λ z. c *ℤ f d ν +ℤ z) (marked_scale c (λ (e : ℕ) (rest : List ℕ). f e (d ∷ rest)) ν)

pub marked-equal : (v : ℕ) (z : ℤ) (ν : List ℕ)
    → marked (λ (d : ℕ) (rest : List ℕ). cond (eqb d v) z (pos 0)) ν ≡ pos (times_in v ν) *ℤ z
marked-equal v z [] = sym (zero-*ℤ z)
marked-equal v z (d ∷ ν) = search (rules, counted-product, (marked-equal v z ν))

pub marked-from : (v : ℕ) (z : ℤ) (ν : List ℕ)
    → marked (λ (d : ℕ) (rest : List ℕ). cond (leb v d) z (pos 0)) ν ≡ pos (count_from v ν) *ℤ z
marked-from v z [] = sym (zero-*ℤ z)
marked-from v z (d ∷ ν) = search (rules, counted-product, (marked-from v z ν))

pub marking : (ν : List ℕ) (b : ℕ) (ψ : List ℕ → List ℕ → ℤ)
    → total (λ (s : List ℕ × List ℕ). pos (times_in b s.0) *ℤ ψ (sorted_parts s.0)
    (sorted_parts s.1)) (splits ν)
    ≡ marked (λ (d : ℕ) (rest : List ℕ). cond (leb b d)
    (sorted_total (λ x y. ψ (insert_part b x) (insert_part (d - b) y)) rest) (pos 0)) ν
marking [] b ψ = +ℤ_idr (pos 0 *ℤ ψ [] []) ∙ zero-*ℤ (ψ [] [])
marking (d ∷ ν) b ψ =
    total_splits (λ x y. pos (times_in b x) *ℤ ψ (sorted_parts x) (sorted_parts y)) d ν
    ∙ total_ext
    (λ (x : ℕ). total
    (λ (s : List ℕ × List ℕ). pos (times_in b (x ∷ s.0)) *ℤ with x (sorted_parts s.0)
    (sorted_parts s.1)) (splits ν))
    (λ (x : ℕ). cond (eqb x b) (sorted_total (with x) ν) (pos 0) +ℤ marked (taken x) ν)
    (λ x. row x (marking ν b (with x)))
    (down_from d)
    ∙ total_add (λ (x : ℕ). cond (eqb x b) (sorted_total (with x) ν) (pos 0))
    (λ (x : ℕ). marked (taken x) ν) (down_from d)
    ∙ ap₂ ◌+ℤ◌ (total_down_from-only (λ (x : ℕ). sorted_total (with x) ν) b d)
    (sym (marked_total taken (down_from d) ν)
    ∙ marked_ext
    (λ (e : ℕ) (rest : List ℕ). total (λ (x : ℕ). taken x e rest) (down_from d))
    (λ (e : ℕ) (rest : List ℕ). cond (leb b e)
    (sorted_total (λ x y. ψ (insert_part b x) (insert_part (e - b) y)) (d ∷ rest)) (pos 0))
    ν
    place)
  where
    with : ℕ → List ℕ → List ℕ → ℤ
    with x u w = ψ (insert_part x u) (insert_part (d - x) w)

    taken : ℕ → ℕ → List ℕ → ℤ
    taken x e rest = cond (leb b e)
        (sorted_total (λ u w. with x (insert_part b u) (insert_part (e - b) w)) rest) (pos 0)

    row : (x : ℕ)
        → total (λ (s : List ℕ × List ℕ). pos (times_in b s.0) *ℤ with x (sorted_parts s.0)
        (sorted_parts s.1)) (splits ν) ≡ marked (taken x) ν
        → total (λ (s : List ℕ × List ℕ). pos (times_in b (x ∷ s.0)) *ℤ with x (sorted_parts s.0)
        (sorted_parts s.1)) (splits ν)
        ≡ cond (eqb x b) (sorted_total (with x) ν) (pos 0) +ℤ marked (taken x) ν
    row x e =
        total_ext
        (λ (s : List ℕ × List ℕ). pos (times_in b (x ∷ s.0)) *ℤ with x (sorted_parts s.0)
        (sorted_parts s.1))
        (λ (s : List ℕ × List ℕ). cond (eqb x b) (with x (sorted_parts s.0) (sorted_parts s.1))
        (pos 0) +ℤ pos (times_in b s.0) *ℤ with x (sorted_parts s.0) (sorted_parts s.1))
        (λ s. counted-product (eqb x b) (times_in b s.0) (with x (sorted_parts s.0) (sorted_parts s.1)))
        (splits ν)
        ∙ total_add
        (λ (s : List ℕ × List ℕ). cond (eqb x b) (with x (sorted_parts s.0) (sorted_parts s.1))
        (pos 0))
        (λ (s : List ℕ × List ℕ). pos (times_in b s.0) *ℤ with x (sorted_parts s.0)
        (sorted_parts s.1))
        (splits ν)
        ∙ ap₂ ◌+ℤ◌ (total_cond (eqb x b)
        (λ (s : List ℕ × List ℕ). with x (sorted_parts s.0) (sorted_parts s.1)) (splits ν)) e

    place : (e : ℕ) (rest : List ℕ) → total (λ (x : ℕ). taken x e rest) (down_from d)
        ≡ cond (leb b e)
        (sorted_total (λ x y. ψ (insert_part b x) (insert_part (e - b) y)) (d ∷ rest)) (pos 0)
    place e rest =
        total_cond (leb b e)
        (λ (x : ℕ). sorted_total (λ u w. with x (insert_part b u) (insert_part (e - b) w)) rest)
        (down_from d)
        ∙ ap (λ z. cond (leb b e) z (pos 0))
        (total_ext
        (λ (x : ℕ). sorted_total (λ u w. with x (insert_part b u) (insert_part (e - b) w)) rest)
        (λ (x : ℕ). total
        (λ (s : List ℕ × List ℕ). ψ (insert_part b (sorted_parts (x ∷ s.0)))
        (insert_part (e - b) (sorted_parts ((d - x) ∷ s.1)))) (splits rest))
        (λ x.
        total_ext
        (λ (s : List ℕ × List ℕ). with x (insert_part b (sorted_parts s.0))
        (insert_part (e - b) (sorted_parts s.1)))
        (λ (s : List ℕ × List ℕ). ψ (insert_part b (sorted_parts (x ∷ s.0)))
        (insert_part (e - b) (sorted_parts ((d - x) ∷ s.1))))
        (λ s. ap₂ ψ (insert_part_comm x b (sorted_parts s.0))
        (insert_part_comm (d - x) (e - b) (sorted_parts s.1)))
        (splits rest))
        (down_from d)
        ∙ sym (total_splits
        (λ x y. ψ (insert_part b (sorted_parts x)) (insert_part (e - b) (sorted_parts y))) d rest))
