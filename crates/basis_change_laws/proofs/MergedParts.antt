-- The partition whose parts are those of two partitions together (`merged`), and products of polynomials over its parts.
use Rattle.std.proofs.Common.{◌≡◌, ℕ, zero, suc, ◌+◌, ◌<◌, Bool, true, false, cond, nat_le, List, [], ◌∷◌, arith}
use Rattle.sym_model.specs.Polynomial.{Poly, Same, In, times, one}
use Rattle.sym_model.specs.Partition.{IsPartition, ArePositive, size, insert_part}
use Rattle.sym_model.specs.Bases.{product_over}
use Rattle.sym_model.proofs.Polynomials.{Same_refl, Same_sym, Same_trans, times_respects, In_times}
use Rattle.sym_model.proofs.PolynomialLaws.{times_comm, times_assoc, one-times}
use Rattle.sym_model.proofs.SortedParts.{IsPartition-insert_part, size-insert_part}
use Rattle.monomial_laws.proofs.Powers.{In-product_over}
use Rattle.basis_change_laws.specs.JoinedLists.{merged}

pub IsPartition-merged : (more parts : List ℕ) → IsPartition parts → IsPartition (merged more parts)
IsPartition-merged [] parts p = p
IsPartition-merged (a ∷ more) parts p = IsPartition-merged more (insert_part a parts) (IsPartition-insert_part a parts p)

pub size-merged : (more parts : List ℕ) → size (merged more parts) ≡ size more + size parts
size-merged [] parts = omega arith
size-merged (a ∷ more) parts = omega (arith, size-merged more (insert_part a parts), size-insert_part a parts)

pub front : (f g h : Poly) → Same (times f (times g h)) (times g (times f h))
front f g h =
    Same_trans (times f (times g h)) (times (times f g) h) (times g (times f h))
    (Same_sym (times (times f g) h) (times f (times g h)) (times_assoc f g h))
    (Same_trans (times (times f g) h) (times (times g f) h) (times g (times f h))
    (times_respects (times f g) (times g f) h h (times_comm f g) (Same_refl h))
    (times_assoc g f h))

pub product_over-insert_part : (f : ℕ → ℕ → Poly) (n a : ℕ) (parts : List ℕ) → 0 < a → Same (product_over f (insert_part a parts) n) (times (f a n) (product_over f parts n))
product_over-insert_part f n zero parts h = absurd (omega arith)
product_over-insert_part f n (suc a) [] h = Same_refl (times (f (suc a) n) (one n))
product_over-insert_part f n (suc a) (b ∷ parts) h = by (nat_le b (suc a)) (product_over-insert_part f n (suc a) parts h)
  where
    by : (t : Bool) → Same (product_over f (insert_part (suc a) parts) n) (times (f (suc a) n) (product_over f parts n))
        → Same (product_over f (cond t (suc a ∷ b ∷ parts) (b ∷ insert_part (suc a) parts)) n) (times (f (suc a) n) (times (f b n) (product_over f parts n)))
    by true r = Same_refl (times (f (suc a) n) (times (f b n) (product_over f parts n)))
    by false r =
        Same_trans (times (f b n) (product_over f (insert_part (suc a) parts) n)) (times (f b n) (times (f (suc a) n) (product_over f parts n))) (times (f (suc a) n) (times (f b n) (product_over f parts n)))
        (times_respects (f b n) (f b n) (product_over f (insert_part (suc a) parts) n) (times (f (suc a) n) (product_over f parts n)) (Same_refl (f b n)) r)
        (front (f b n) (f (suc a) n) (product_over f parts n))

pub product_over-merged : (f : ℕ → ℕ → Poly) (n : ℕ) → ((k : ℕ) → In n (f k n)) → (more parts : List ℕ) (rest : Poly) → In n rest → ArePositive more → Same (times (product_over f (merged more parts) n) rest) (times (product_over f more n) (times (product_over f parts n) rest))
product_over-merged f n h [] parts rest i p =
    Same_sym (times (one n) (times (product_over f parts n) rest)) (times (product_over f parts n) rest)
    (one-times n (times (product_over f parts n) rest) (In_times n (product_over f parts n) rest (In-product_over f parts n h) i))
product_over-merged f n h (a ∷ more) parts rest i p =
    let M = product_over f more n in
    let P = product_over f parts n in
    Same_trans (times (product_over f (merged more (insert_part a parts)) n) rest) (times M (times (product_over f (insert_part a parts) n) rest)) (times (times (f a n) M) (times P rest))
    (product_over-merged f n h more (insert_part a parts) rest i p.1)
    (Same_trans (times M (times (product_over f (insert_part a parts) n) rest)) (times M (times (f a n) (times P rest))) (times (times (f a n) M) (times P rest))
    (times_respects M M (times (product_over f (insert_part a parts) n) rest) (times (f a n) (times P rest)) (Same_refl M)
    (Same_trans (times (product_over f (insert_part a parts) n) rest) (times (times (f a n) P) rest) (times (f a n) (times P rest))
    (times_respects (product_over f (insert_part a parts) n) (times (f a n) P) rest rest (product_over-insert_part f n a parts p.0) (Same_refl rest))
    (times_assoc (f a n) P rest)))
    (Same_trans (times M (times (f a n) (times P rest))) (times (f a n) (times M (times P rest))) (times (times (f a n) M) (times P rest))
    (front M (f a n) (times P rest))
    (Same_sym (times (times (f a n) M) (times P rest)) (times (f a n) (times M (times P rest))) (times_assoc (f a n) M (times P rest)))))
