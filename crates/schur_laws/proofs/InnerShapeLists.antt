-- The members of `shapes_inside`: without the zeros at their ends they are partitions inside the given shape.
use Rattle.std.proofs.Common.{◌≡◌, ℕ, zero, suc, ◌≤◌, nat_le, ◌==◌, true, List, [], ◌∷◌, map, length, min, refl, sym, ap, subst, inl, inr, arith}
use Rattle.std.proofs.lemmas.Bool.{and_parts, and_from, le-leb}
use Rattle.sym_model.specs.Sum.{Among}
use Rattle.sym_model.specs.Partition.{IsPartition, Falls, columns, in_front, without_last_zeros}
use Rattle.sym_model.specs.Schur.{contains}
use Rattle.sym_model.proofs.AfterLists.{after_among}
use Rattle.sym_model.proofs.SortedParts.{IsPartition-without_last_zeros}
use Rattle.sym_model.proofs.Sums.{Among_from_each, Among_from_map}
use Rattle.sym_model.proofs.Parts.{get_or-without_last_zeros}
use Rattle.tableau_laws.proofs.ColumnCounts.{contains_nothing}
use Rattle.schur_laws.specs.InnerShapes.{up_to, shapes_inside}
use Rattle.schur_laws.proofs.CutRows.{SameParts}

pub record IsInside (outer : List ℕ) (m : ℕ) (inner : List ℕ) : Type 0 where
  pub rows : length inner ≡ length outer
  pub falls : Falls inner
  pub first : columns inner ≤ m
  pub inside : contains outer inner ≡ true

pub among_up_to : (j b : ℕ) → Among b (up_to j) → b ≤ j
among_up_to j b (inl e) = omega arith
among_up_to j b (inr m) = let r = after_among 0 j b m in let l = r.1 in omega arith

in_front_falls : (b : ℕ) (inner : List ℕ) → Falls inner → columns inner ≤ b → Falls (b ∷ inner)
in_front_falls b [] f h = tt
in_front_falls b (x ∷ inner) f h = (h, f)

pub inside-tells : (outer : List ℕ) (m : ℕ) (inner : List ℕ) → Among inner (shapes_inside outer m) → IsInside outer m inner
inside-tells [] m inner (inl e) = subst (λ l. IsInside [] m l) (sym e) (record { rows = refl; falls = tt; first = omega arith; inside = refl })
inside-tells [] m inner (inr k) = absurd k
inside-tells (a ∷ outer) m inner k =
    let b = Among_from_each (λ b. map (λ l. b ∷ l) (shapes_inside outer b)) inner (up_to (min a m)) k in
    let l = Among_from_map (λ l. b.0 ∷ l) inner (shapes_inside outer b.0) b.2 in
    let r = inside-tells outer b.0 l.0 l.1 in
    let few = among_up_to (min a m) b.0 b.1 in
    subst (λ i. IsInside (a ∷ outer) m i) (sym l.2) (record {
      rows = ap suc r.rows;
      falls = in_front_falls b.0 l.0 r.falls r.first;
      first = omega arith;
      inside = and_from (nat_le b.0 a) (contains outer l.0) (le-leb b.0 a (omega arith)) r.inside;
    })

pub same-without_last_zeros : (inner : List ℕ) → SameParts (without_last_zeros inner) inner
same-without_last_zeros inner = get_or-without_last_zeros inner

pub contains-without_last_zeros : (outer inner : List ℕ) → contains outer inner ≡ true → contains outer (without_last_zeros inner) ≡ true
contains-without_last_zeros outer [] h = contains_nothing outer
contains-without_last_zeros [] (b ∷ inner) h = let p = and_parts (b == 0) (contains [] inner) h in by b (without_last_zeros inner) p.0 (contains-without_last_zeros [] inner p.1)
  where
    by : (x : ℕ) (l : List ℕ) → (x == 0) ≡ true → contains [] l ≡ true → contains [] (in_front x l) ≡ true
    by zero [] e k = refl
    by zero (y ∷ l) e k = and_from (0 == 0) (contains [] (y ∷ l)) e k
    by (suc x) l e k = and_from (suc x == 0) (contains [] l) e k
contains-without_last_zeros (a ∷ outer) (b ∷ inner) h = let p = and_parts (nat_le b a) (contains outer inner) h in by b (without_last_zeros inner) p.0 (contains-without_last_zeros outer inner p.1)
  where
    by : (x : ℕ) (l : List ℕ) → nat_le x a ≡ true → contains outer l ≡ true → contains (a ∷ outer) (in_front x l) ≡ true
    by zero [] e k = refl
    by zero (y ∷ l) e k = and_from (nat_le 0 a) (contains outer (y ∷ l)) e k
    by (suc x) l e k = and_from (nat_le (suc x) a) (contains outer l) e k

pub partition_inside : (outer : List ℕ) (m : ℕ) (inner : List ℕ) → IsInside outer m inner → IsPartition (without_last_zeros inner)
partition_inside outer m inner r = IsPartition-without_last_zeros inner r.falls
