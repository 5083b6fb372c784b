-- If a content has, for some k, more letters from 1 to k than the columns of a skew shape can hold (`IsOverfull`), then no tableau of the shape has
-- this content. So the coefficient that counts such tableaux in a product of two Schur polynomials (`product_count`) is 0.
use Rattle.std.proofs.Common.{◌≡◌, ℕ, zero, suc, ◌+◌, ◌-◌, ◌<◌, ◌≤◌, ◌⊎◌, inl, inr, min, true, cond, List, [], ◌∷◌, length, get_or, refl, sym, ap, ◌∙◌, subst, arith, rules}
use Rattle.std.proofs.lemmas.Bool.{cases_lt, lt-ltb, le-ltb}
use Rattle.std.proofs.lemmas.Int.{ints}
use Rattle.sym_model.specs.Sum.{Among}
use Rattle.sym_model.specs.Partition.{IsPartition, rows}
use Rattle.sym_model.specs.Schur.{times_in, contains}
use Rattle.sym_model.specs.GoodTableau.{product_count}
use Rattle.sym_model.proofs.SortedParts.{IsPartition-none}
use Rattle.schur_laws.proofs.Interlacing.{add_up, add_up-last, add_up-none}
use Rattle.schur_laws.proofs.RisingRows.{up_to_letter, zeros_up_to}
use Rattle.schur_laws.proofs.TableauPlaces.{row}
use Rattle.schur_laws.proofs.GoodTableaux.{IsTableau, letters_up_to}
use Rattle.schur_laws.proofs.Duality.{counted, counted_tells, counted_by_columns}
use Rattle.schur_laws.proofs.ProductCounts.{product_by_shape, product_exchanged}
use Rattle.lr_product.specs.LetterRoom.{room_in_row, letter_room, letters_within, IsOverfull}
use Rattle.sym_model.proofs.Conjugates.{one_at_most}
use Rattle.std.proofs.lemmas.List.{get_or_past}

add_up-plus : (f g : ℕ → ℕ) (a k : ℕ) → add_up (λ i. f i + g i) a k ≡ add_up f a k + add_up g a k
add_up-plus f g a zero = omega arith
add_up-plus f g a (suc k) = let e = add_up-plus f g (suc a) k in omega arith

add_up-most : (f g : ℕ → ℕ) (a k : ℕ) → ((i : ℕ) → f i ≤ g i) → add_up f a k ≤ add_up g a k
add_up-most f g a zero h = omega arith
add_up-most f g a (suc k) h = let e = add_up-most f g (suc a) k h in let l = h a in omega arith

add_up-exchange : (f : ℕ → ℕ → ℕ) (a m b k : ℕ) → add_up (λ i. add_up (f i) a m) b k ≡ add_up (λ r. add_up (λ i. f i r) b k) a m
add_up-exchange f a m b zero = sym (add_up-none (λ r. 0) a m (λ i l. omega arith))
add_up-exchange f a m b (suc k) =
    ap (λ n. add_up (f b) a m + n) (add_up-exchange f a m (suc b) k)
    ∙ sym (add_up-plus (f b) (λ r. add_up (λ i. f i r) (suc b) k) a m)

up_to_most : (k : ℕ) (w : List ℕ) → up_to_letter k w ≤ length w
up_to_most k [] = omega arith
up_to_most k (a ∷ w) = search (rules, cases_lt, up_to_letter, one_at_most, (up_to_most k w))

module _ (n : ℕ) (ν λ' μ : List ℕ) (P : List (List ℕ)) (T : IsTableau n [] ν λ' μ P) where
  below : (k r s : ℕ) → s ≡ k + r → up_to_letter k (row P s) ≤ get_or λ' r 0
  below zero r s e = search (rules, zeros_up_to, row)
  below (suc k) r zero e = absurd (omega arith)
  below (suc k) r (suc s) e = let h = below k r s (omega arith) in let c = T.columns s k in omega arith

  row_most : (k r : ℕ) → add_up (λ i. times_in (suc i) (row P r)) 0 k ≤ room_in_row k ν λ' r
  row_most k r = by (cases_lt r k)
    where
      w : List ℕ
      w = row P r

      by : (r < k) ⊎ (k ≤ r) → add_up (λ i. times_in (suc i) (row P r)) 0 k ≤ room_in_row k ν λ' r
      by (inl l) =
          let t = lt-ltb r k l in
          let room : room_in_row k ν λ' r ≡ get_or ν r 0 - get_or λ' r 0 = ap (λ b. cond b (get_or ν r 0) (min (get_or ν r 0) (get_or λ' (r - k) 0)) - get_or λ' r 0) t in
          let u = letters_up_to k (row P r) in
          let m = up_to_most k (row P r) in
          let z = T.zeros r in
          let s = T.long r in
          omega arith
      by (inr l) =
          let t = le-ltb r k l in
          let room : room_in_row k ν λ' r ≡ min (get_or ν r 0) (get_or λ' (r - k) 0) - get_or λ' r 0 = ap (λ b. cond b (get_or ν r 0) (min (get_or ν r 0) (get_or λ' (r - k) 0)) - get_or λ' r 0) t in
          let u = letters_up_to k (row P r) in
          let m = up_to_most k (row P r) in
          let z = T.zeros r in
          let s = T.long r in
          let b = below k (r - k) r (omega arith) in
          omega arith

  letters_most : (k : ℕ) → letters_within μ k ≤ letter_room k ν λ' (length ν)
  letters_most k =
      let a = add_up-most (λ i. get_or μ i 0) (λ i. add_up (λ r. times_in (suc i) (row P r)) 0 (length P)) 0 k (λ i. let e = T.sums i in let z : get_or {A = ℕ} [] i 0 ≡ 0 = get_or_past {X = ℕ} [] i 0 (omega arith) in omega arith) in
      let b = add_up-exchange (λ i r. times_in (suc i) (row P r)) 0 (length P) 0 k in
      let c = add_up-most (λ r. add_up (λ i. times_in (suc i) (row P r)) 0 k) (room_in_row k ν λ') 0 (length P) (row_most k) in
      let d : letter_room k ν λ' (length P) ≡ letter_room k ν λ' (length ν) = ap (letter_room k ν λ') T.size in
      omega arith

-- ---- the loops of letter_room.rt: one more row, and one more letter

pub room_next : (k : ℕ) (outer inner : List ℕ) (row room next : ℕ) → room ≡ letter_room k outer inner row → next ≡ room_in_row k outer inner row → room + next ≡ letter_room k outer inner (row + 1)
room_next k outer inner row room next e f = search (rules, add_up-last, row)

pub letters_next : (content : List ℕ) (at letters next : ℕ) → letters ≡ letters_within content at → next ≡ get_or content at 0 → letters + next ≡ letters_within content (at + 1)
letters_next content at letters next e f = search (rules, add_up-last)

pub enough_next : (outer inner content : List ℕ) (at : ℕ) → ((k : ℕ) → k ≤ at → letters_within content k ≤ letter_room k outer inner (length outer))
    → letters_within content (at + 1) ≤ letter_room (at + 1) outer inner (length outer)
    → (k : ℕ) → k ≤ at + 1 → letters_within content k ≤ letter_room k outer inner (length outer)
enough_next outer inner content at h here k l = search rules

pub no_room : (ν λ' μ : List ℕ) → IsPartition λ' → IsPartition μ → IsPartition ν → contains ν λ' ≡ true → IsOverfull ν λ' μ → product_count (rows ν) λ' μ ν ≡ 0
no_room ν λ' μ p q r h over =
    let a = product_by_shape λ' μ ν p q r h in
    let b = counted_by_columns (rows μ) [] ν λ' μ IsPartition-none (omega arith) in
    let c = none (counted (rows μ) [] ν λ' μ) (λ P m. m) in
    omega (arith, ints)
  where
    none : (xs : List (List (List ℕ))) → ((P : List (List ℕ)) → Among P xs → Among P (counted (rows μ) [] ν λ' μ)) → length xs ≡ 0
    none [] m = omega arith
    none (P ∷ xs) m =
        let T = counted_tells (rows μ) [] ν λ' μ P r.falls h (omega arith) (omega arith) (m P (inl refl)) in
        let l = letters_most (rows μ) ν λ' μ P T over.0 in
        let g = over.2 in
        absurd (omega arith)

pub overfull_tells : (outer inner content a b c : List ℕ) → a ≡ outer → b ≡ inner → c ≡ content → IsOverfull a b c → IsOverfull outer inner content
overfull_tells outer inner content a b c e f g h = subst (λ x. IsOverfull x inner content) e (subst (λ y. IsOverfull a y content) f (subst (λ z. IsOverfull a b z) g h))

-- if μ lies inside ν, and the content λ' has, for some k, more letters from 1 to k than the columns of ν/μ can hold (`IsOverfull`), the coefficient
-- `product_count` of ν in the product of λ' and μ is 0
pub no_room_exchanged : (ν λ' μ : List ℕ) → IsPartition λ' → IsPartition μ → IsPartition ν → contains ν μ ≡ true → IsOverfull ν μ λ' → product_count (rows ν) λ' μ ν ≡ 0
no_room_exchanged ν λ' μ p q r h over = product_exchanged λ' μ ν p q r ∙ no_room ν μ λ' q p r h over
