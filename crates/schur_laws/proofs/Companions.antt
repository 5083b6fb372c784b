-- A tableau P is good for the partition `start` if, for each column, start plus the content of this column and of the columns to its right is a
-- partition. The companion Q of P is the skew tableau that has the letter r + 1 in row k + 1 as often as P has the letter k + 1 in row r + 1; its
-- inner partition is `start`, and its outer partition is start plus the content of P. Each row of a skew tableau begins with a zero for each cell of
-- the inner partition.
use Rattle.std.proofs.Common.{◌≡◌, ℕ, zero, suc, ◌+◌, ◌<◌, ◌≤◌, ◌⊎◌, List, [], ◌∷◌, map, length, drop, get_or, sym, ◌∙◌, ap, ap₂, subst, refl, inl, inr, arith}
use Rattle.std.proofs.lemmas.Bool.{cases_lt}
use Rattle.std.proofs.lemmas.List.{get_or_past, get_or-map, length-map}
use Rattle.sym_model.specs.Schur.{times_in}
use Rattle.sym_model.proofs.Lists.{drop-none}
use Rattle.schur_laws.proofs.RisingRows.{up_to_letter, one_more_letter, right_of_place, Rises, rising_same}
use Rattle.schur_laws.proofs.Interlacing.{add_up, add_up-same, add_up-longer, Places, RightOf, by_columns, by_rows}
use Rattle.schur_laws.proofs.SpelledWords.{spelled, spelled_rises, times_spelled}
use Rattle.schur_laws.proofs.TableauPlaces.{row}
use Rattle.schur_laws.proofs.GoodTableaux.{sum_of, IsTableau, letters_up_to, all_up_to}

companion_row : List ℕ → List (List ℕ) → ℕ → List ℕ
companion_row start P k = spelled 0 (get_or start k 0 ∷ map (λ (w : List ℕ). times_in (suc k) w) P)

listed : (ℕ → List ℕ) → ℕ → ℕ → List (List ℕ)
listed f a zero = []
listed f a (suc n) = f a ∷ listed f (suc a) n

length_listed : (f : ℕ → List ℕ) (a n : ℕ) → length (listed f a n) ≡ n
unfolding listed
length_listed f a zero = refl
length_listed f a (suc n) = ap suc (length_listed f (suc a) n)

listed_at : (f : ℕ → List ℕ) (a n i : ℕ) → i < n → row (listed f a n) i ≡ f (a + i)
unfolding listed
listed_at f a zero i l = absurd (omega arith)
listed_at f a (suc n) zero l = let e : a ≡ a + 0 = omega arith in ap f e
listed_at f a (suc n) (suc i) l = let e : suc a + i ≡ a + suc i = omega arith in listed_at f (suc a) n i (omega arith) ∙ ap f e

pub companion : ℕ → List ℕ → List (List ℕ) → List (List ℕ)
companion n start P = listed (companion_row start P) 0 n

pub length_companion : (n : ℕ) (start : List ℕ) (P : List (List ℕ)) → length (companion n start P) ≡ n
unfolding companion
length_companion n start P = length_listed (companion_row start P) 0 n

-- Q is a companion of P: row k of Q, counted from 0, is weakly increasing and has start_k zeros, and the letter r + 1 as often as row r of P has the
-- letter k + 1
pub record IsCompanion (start : List ℕ) (P Q : List (List ℕ)) : Type 0 where
  pub rises : (k : ℕ) → Rises (row Q k)
  pub zeros : (k : ℕ) → times_in 0 (row Q k) ≡ get_or start k 0
  pub letters : (k r : ℕ) → times_in (suc r) (row Q k) ≡ times_in (suc k) (row P r)

times_past : (x : ℕ) (P : List (List ℕ)) (r : ℕ) → length P ≤ r → times_in x (row P r) ≡ 0
times_past x P r l = ap (times_in x) (get_or_past {X = List ℕ} P r [] l)

pub companion_tells : (n : ℕ) (start outer inner end : List ℕ) (P : List (List ℕ)) → length start ≤ n → IsTableau n start outer inner end P
    → IsCompanion start P (companion n start P)
unfolding companion companion_row
companion_tells n start outer inner end P s T = record {
  rises = λ k. by_rises k (cases_lt k n);
  zeros = λ k. by_zeros k (cases_lt k n);
  letters = λ k r. by_letters k r (cases_lt k n);
}
  where
    is : (k : ℕ) → k < n → row (listed (companion_row start P) 0 n) k ≡ spelled 0 (get_or start k 0 ∷ map (λ (w : List ℕ). times_in (suc k) w) P)
    is k l = let e : 0 + k ≡ k = omega arith in listed_at (companion_row start P) 0 n k l ∙ ap (λ i. spelled 0 (get_or start i 0 ∷ map (λ (w : List ℕ). times_in (suc i) w) P)) e

    past : (k : ℕ) → n ≤ k → row (listed (companion_row start P) 0 n) k ≡ []
    past k l = let e = length_listed (companion_row start P) 0 n in get_or_past {X = List ℕ} (listed (companion_row start P) 0 n) k [] (omega arith)

    by_rises : (k : ℕ) → (k < n) ⊎ (n ≤ k) → Rises (row (listed (companion_row start P) 0 n) k)
    by_rises k (inl l) = subst Rises (sym (is k l)) (spelled_rises 0 (get_or start k 0 ∷ map (λ (w : List ℕ). times_in (suc k) w) P))
    by_rises k (inr l) = subst Rises (sym (past k l)) refl

    by_zeros : (k : ℕ) → (k < n) ⊎ (n ≤ k) → times_in 0 (row (listed (companion_row start P) 0 n) k) ≡ get_or start k 0
    by_zeros k (inl l) = ap (times_in 0) (is k l) ∙ times_spelled 0 0 (get_or start k 0 ∷ map (λ (w : List ℕ). times_in (suc k) w) P)
    by_zeros k (inr l) = ap (times_in 0) (past k l) ∙ sym (get_or_past start k 0 (omega arith))

    spelled_letters : (k r : ℕ) → (r < length P) ⊎ (length P ≤ r) → get_or (map (λ (w : List ℕ). times_in (suc k) w) P) r 0 ≡ times_in (suc k) (row P r)
    spelled_letters k r (inl l) = get_or-map (λ (w : List ℕ). times_in (suc k) w) P r [] 0 l
    spelled_letters k r (inr l) =
        let e = length-map P (λ (w : List ℕ). times_in (suc k) w) in
        get_or_past (map (λ (w : List ℕ). times_in (suc k) w) P) r 0 (omega arith) ∙ sym (times_past (suc k) P r l)

    by_letters : (k r : ℕ) → (k < n) ⊎ (n ≤ k) → times_in (suc r) (row (listed (companion_row start P) 0 n) k) ≡ times_in (suc k) (row P r)
    by_letters k r (inl l) =
        let e : suc r ≡ 0 + suc r = omega arith in
        ap (times_in (suc r)) (is k l)
        ∙ ap (λ x. times_in x (spelled 0 (get_or start k 0 ∷ map (λ (w : List ℕ). times_in (suc k) w) P))) e
        ∙ times_spelled 0 (suc r) (get_or start k 0 ∷ map (λ (w : List ℕ). times_in (suc k) w) P)
        ∙ spelled_letters k r (cases_lt r (length P))
    by_letters k r (inr l) = ap (times_in (suc r)) (past k l) ∙ sym (T.letters r (suc k) (omega arith))

letter_places : (P : List (List ℕ)) (k : ℕ) → ((r i : ℕ) → up_to_letter (suc i) (row P (suc r)) ≤ up_to_letter i (row P r))
    → Places (λ r. up_to_letter k (row P r)) (λ r. up_to_letter (suc k) (row P r)) (λ r. up_to_letter (suc (suc k)) (row P r))
    (λ r. times_in (suc (suc k)) (row P r)) (λ r. times_in (suc k) (row P r))
letter_places P k h = record {
  first = λ r. (let e = one_more_letter k (row P r) in omega arith);
  second = λ r. (let e = one_more_letter (suc k) (row P r) in omega arith);
  left = λ r. h r k;
  right = λ r. h r (suc k);
}

letters_right_of : (P : List (List ℕ)) (k : ℕ) → ((r : ℕ) → Rises (row P r))
    → RightOf (λ r. up_to_letter k (row P r)) (λ r. up_to_letter (suc k) (row P r)) (λ r. up_to_letter (suc (suc k)) (row P r))
    (λ j r. times_in (suc (suc k)) (drop j (row P r))) (λ j r. times_in (suc k) (drop j (row P r)))
letters_right_of P k h = record {
  first = λ j r. right_of_place k j (row P r) (h r);
  second = λ j r. right_of_place (suc k) j (row P r) (h r);
}

nothing_dropped : (j x : ℕ) → times_in x (drop j []) ≡ 0
nothing_dropped zero x = refl
nothing_dropped (suc j) x = refl

right_in_more : (x j m : ℕ) (P : List (List ℕ)) → add_up (λ r. times_in x (drop j (row P r))) 0 (length P + m) ≡ add_up (λ r. times_in x (drop j (row P r))) 0 (length P)
right_in_more x j m P =
    add_up-longer (λ r. times_in x (drop j (row P r))) 0 (length P) m
    (λ r l. ap (λ (w : List ℕ). times_in x (drop j w)) (get_or_past {X = List ℕ} P r [] (omega arith)) ∙ nothing_dropped j x)

-- in a good tableau P for start, start_(k + 1) plus the number of letters k + 2 in the rows 0, .., r is at most start_k plus the number of letters k
-- + 1 in the rows 0, .., r - 1
pub rows_compare : (n : ℕ) (start outer inner end : List ℕ) (P : List (List ℕ)) → IsTableau n start outer inner end P → (k r : ℕ)
    → get_or start (suc k) 0 + add_up (λ i. times_in (suc (suc k)) (row P i)) 0 (suc r) ≤ get_or start k 0 + add_up (λ i. times_in (suc k) (row P i)) 0 r
rows_compare n start outer inner end P T k r =
    by_rows (λ i. up_to_letter k (row P i)) (λ i. up_to_letter (suc k) (row P i)) (λ i. up_to_letter (suc (suc k)) (row P i))
    (λ i. times_in (suc (suc k)) (row P i)) (λ i. times_in (suc k) (row P i))
    (λ j i. times_in (suc (suc k)) (drop j (row P i))) (λ j i. times_in (suc k) (drop j (row P i)))
    (letter_places P k T.columns) (letters_right_of P k T.rises)
    r (length P + suc r) 0 (get_or start (suc k) 0) (get_or start k 0) (up_to_letter (suc k) (row P 0)) (omega arith) (omega arith)
    (λ j l. at_column j)
  where
    at_column : (j : ℕ)
        → get_or start (suc k) 0 + add_up (λ i. times_in (suc (suc k)) (drop j (row P i))) 0 (length P + suc r)
        ≤ get_or start k 0 + add_up (λ i. times_in (suc k) (drop j (row P i))) 0 (length P + suc r)
    at_column zero =
        let e = right_in_more (suc (suc k)) 0 (suc r) P in
        let f = right_in_more (suc k) 0 (suc r) P in
        let e' = add_up-same (λ i. times_in (suc (suc k)) (drop 0 (row P i))) (λ i. times_in (suc (suc k)) (row P i)) 0 (length P) (λ i. ap (times_in (suc (suc k))) (drop-none (row P i))) in
        let f' = add_up-same (λ i. times_in (suc k) (drop 0 (row P i))) (λ i. times_in (suc k) (row P i)) 0 (length P) (λ i. ap (times_in (suc k)) (drop-none (row P i))) in
        let g = T.all_good k in
        omega arith
    at_column (suc j) =
        let e = right_in_more (suc (suc k)) (suc j) (suc r) P in
        let f = right_in_more (suc k) (suc j) (suc r) P in
        let g = T.good j k in
        omega arith

-- suppose that the rows of P are weakly increasing, that columns are strictly increasing, and that start_(k + 1) plus the number of letters k + 2 in
-- rows 0, .., r is at most start_k plus the number of letters k + 1 in rows 0, .., r - 1. Then start plus the content of the columns after the first
-- j is weakly decreasing
pub columns_compare : (start : List ℕ) (P : List (List ℕ)) → ((r : ℕ) → Rises (row P r)) → ((r i : ℕ) → up_to_letter (suc i) (row P (suc r)) ≤ up_to_letter i (row P r))
    → ((k r : ℕ) → get_or start (suc k) 0 + add_up (λ i. times_in (suc (suc k)) (row P i)) 0 (suc r) ≤ get_or start k 0 + add_up (λ i. times_in (suc k) (row P i)) 0 r)
    → (j k : ℕ) → sum_of (drop j) start P (suc k) ≤ sum_of (drop j) start P k
columns_compare start P rises columns h j k =
    by_columns (λ i. up_to_letter k (row P i)) (λ i. up_to_letter (suc k) (row P i)) (λ i. up_to_letter (suc (suc k)) (row P i))
    (λ i. times_in (suc (suc k)) (row P i)) (λ i. times_in (suc k) (row P i))
    (λ j' i. times_in (suc (suc k)) (drop j' (row P i))) (λ j' i. times_in (suc k) (drop j' (row P i)))
    (letter_places P k columns) (letters_right_of P k rises)
    j (length P) 0 (get_or start (suc k) 0) (get_or start k 0) (h k)

companion_up_to : (n : ℕ) (start outer inner end : List ℕ) (P Q : List (List ℕ)) → IsTableau n start outer inner end P → IsCompanion start P Q → (i k : ℕ)
    → up_to_letter k (row Q i) ≡ get_or start i 0 + add_up (λ r. times_in (suc i) (row P r)) 0 k
companion_up_to n start outer inner end P Q T C i k =
    let e = letters_up_to k (row Q i) in
    let f = C.zeros i in
    let g = add_up-same (λ r. times_in (suc r) (row Q i)) (λ r. times_in (suc i) (row P r)) 0 k (C.letters i) in
    omega arith

tableau_up_to : (n : ℕ) (start outer inner end : List ℕ) (P Q : List (List ℕ)) → IsTableau n start outer inner end P → IsCompanion start P Q → (r k : ℕ)
    → up_to_letter k (row P r) ≡ get_or inner r 0 + add_up (λ i. times_in (suc r) (row Q i)) 0 k
tableau_up_to n start outer inner end P Q T C r k =
    let e = letters_up_to k (row P r) in
    let f = T.zeros r in
    let g = add_up-same (λ i. times_in (suc i) (row P r)) (λ i. times_in (suc r) (row Q i)) 0 k (λ i. sym (C.letters i r)) in
    omega arith

pub companion_tableau : (n : ℕ) (start outer inner end : List ℕ) (P Q : List (List ℕ)) → length Q ≡ n → length end ≡ n
    → IsTableau n start outer inner end P → IsCompanion start P Q
    → IsTableau (length outer) inner end start outer Q
companion_tableau n start outer inner end P Q lq le T C = record {
  size = omega arith;
  rises = C.rises;
  zeros = C.zeros;
  long = λ i. (let a = all_up_to (length outer) (row Q i) (few i) in
      let b = companion_up_to n start outer inner end P Q T C i (length outer) in
      let c = T.sums i in
      let d = T.size in
      let g = ap (add_up (λ r. times_in (suc i) (row P r)) 0) d in
      omega arith);
  letters = few;
  columns = columns;
  good = λ j r. columns_compare inner Q C.rises columns compare (suc j) r;
  all_good = λ r.
      (let a = columns_compare inner Q C.rises columns compare 0 r in
      let e = add_up-same (λ i. times_in (suc (suc r)) (drop 0 (row Q i))) (λ i. times_in (suc (suc r)) (row Q i)) 0 (length Q) (λ i. ap (times_in (suc (suc r))) (drop-none (row Q i))) in
      let f = add_up-same (λ i. times_in (suc r) (drop 0 (row Q i))) (λ i. times_in (suc r) (row Q i)) 0 (length Q) (λ i. ap (times_in (suc r)) (drop-none (row Q i))) in
      omega arith);
  sums = λ r.
      (let a = tableau_up_to n start outer inner end P Q T C r n in
      let b = all_up_to n (row P r) (T.letters r) in
      let c = T.long r in
      let g = ap (add_up (λ i. times_in (suc r) (row Q i)) 0) lq in
      omega arith);
}
  where
    few : (i k : ℕ) → length outer < k → times_in k (row Q i) ≡ 0
    few i zero l = absurd (omega arith)
    few i (suc r) l = let e = T.size in C.letters i r ∙ times_past (suc i) P r (omega arith)

    columns : (i k : ℕ) → up_to_letter (suc k) (row Q (suc i)) ≤ up_to_letter k (row Q i)
    columns i k =
        let a = companion_up_to n start outer inner end P Q T C (suc i) (suc k) in
        let b = companion_up_to n start outer inner end P Q T C i k in
        let c = rows_compare n start outer inner end P T i k in
        omega arith

    compare : (r i : ℕ) → get_or inner (suc r) 0 + add_up (λ x. times_in (suc (suc r)) (row Q x)) 0 (suc i) ≤ get_or inner r 0 + add_up (λ x. times_in (suc r) (row Q x)) 0 i
    compare r i =
        let a = tableau_up_to n start outer inner end P Q T C (suc r) (suc i) in
        let b = tableau_up_to n start outer inner end P Q T C r i in
        let c = T.columns r i in
        omega arith

same_rows : (P Q : List (List ℕ)) → length P ≡ length Q → ((r : ℕ) → row P r ≡ row Q r) → P ≡ Q
same_rows [] [] l e = refl
same_rows [] (w ∷ Q) l e = absurd (omega arith)
same_rows (v ∷ P) [] l e = absurd (omega arith)
same_rows (v ∷ P) (w ∷ Q) l e = ap₂ ◌∷◌ (e 0) (same_rows P Q (omega arith) (λ r. e (suc r)))

pub told_by_companion : (n : ℕ) (start outer inner end : List ℕ) (P P' Q : List (List ℕ))
    → IsTableau n start outer inner end P → IsTableau n start outer inner end P' → IsCompanion start P Q → IsCompanion start P' Q → P ≡ P'
told_by_companion n start outer inner end P P' Q T T' C C' =
    same_rows P P' (let e = T.size in let f = T'.size in omega arith) (λ r. rising_same (row P r) (row P' r) (T.rises r) (T'.rises r) (λ k. letter r k))
  where
    letter : (r k : ℕ) → times_in k (row P r) ≡ times_in k (row P' r)
    letter r zero = T.zeros r ∙ sym (T'.zeros r)
    letter r (suc k) = sym (C.letters k r) ∙ C'.letters k r
