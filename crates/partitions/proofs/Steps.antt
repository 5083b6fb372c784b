-- The changes that the lister of partitions makes to its buffer.
use Rattle.std.proofs.Common.{◌≡◌, ◌≢◌, ℕ, suc, ◌+◌, ◌-◌, ◌<◌, ◌≤◌, min, List, [], ◌∷◌, ◌++◌, length, take, drop, get_or, sym, ◌∙◌, ap, ap₂, subst, arith}
use Rattle.std.proofs.Math.ListN.{set}
use Rattle.std.proofs.Math.Seq.{drop-cons, take-append_seam}
use Rattle.std.proofs.lemmas.List.{take-append-drop, take-take, length-set, take_more_set, length-drop, length-take, append_assoc, get_or-take}
use Rattle.sym_model.specs.Partition.{ArePositive, size}
use Rattle.sym_model.specs.PartitionList.{partitions_of}
use Rattle.sym_model.proofs.SortedParts.{rows_within_size}
use Rattle.sym_model.proofs.Parts.{size-append}
use Rattle.partitions.specs.Listing.{greatest_within, partitions_after, AreOnes, HoldsParts}
use Rattle.partitions.proofs.Listings.{greatest_within-step, size-AreOnes, partitions_after-part, partitions_after-append, ArePositive-append, size-greatest_within, ArePositive-greatest_within, partitions_within-first}

pub all_written : (n : ℕ) (xs ys : List ℕ) → length xs ≡ n → take n (xs ++ drop (length xs) ys) ≡ xs
all_written n xs ys e =
    subst (λ k. take k (xs ++ drop (length xs) ys) ≡ xs) e (take-append_seam xs (drop (length xs) ys))

-- let p = min(part, left). The first `at` numbers of the buffer xs, followed by the greatest partition of `left` with parts up to `part`, are the
-- first `at` numbers of xs, followed by p and by the greatest partition of left - p with parts up to p.
pub fill-step :
    (xs : List ℕ) (at left part p : ℕ) → at < length xs → 0 < left → p ≡ min part left
    → take (at + 1) (set xs at p) ++ greatest_within (left - p) p (length (set xs at p) - (at + 1))
    ≡ take at xs ++ greatest_within left part (length xs - at)
fill-step xs at left part p h l e =
    let room : length (set xs at p) - (at + 1) ≡ (length xs - at) - 1 = omega (arith, length-set xs at p) in
    let some : 0 < length xs - at = omega arith in
    let rest = λ (q : ℕ). greatest_within (left - q) q ((length xs - at) - 1) in
    ap₂ (λ a n. a ++ greatest_within (left - p) p n) (take_more_set xs at p h) room
    ∙ append_assoc (take at xs) (p ∷ []) (rest p)
    ∙ ap (λ q. take at xs ++ q ∷ rest q) e
    ∙ ap (λ ys. take at xs ++ ys) (sym (greatest_within-step left part (length xs - at) l some))

ArePositive-front : (xs ys : List ℕ) → ArePositive (xs ++ ys) → ArePositive xs
ArePositive-front [] ys p = tt
ArePositive-front (x ∷ xs) ys p = (p.0, ArePositive-front xs ys p.1)

ArePositive-back : (xs ys : List ℕ) → ArePositive (xs ++ ys) → ArePositive ys
ArePositive-back [] ys p = p
ArePositive-back (x ∷ xs) ys p = ArePositive-back xs ys p.1

-- the first `rows` numbers of the buffer are: above - 1 numbers, then the number at the index above - 1, which is more than 1, and then only numbers
-- 1; all are positive, and their sum is the length of the buffer
pub record Cuts (buffer : List ℕ) (rows above : ℕ) : Type 0 where
  pub parts :
      take rows buffer ≡ take (above - 1) buffer ++ get_or buffer (above - 1) 0 ∷ drop above (take rows buffer)
  pub part : 1 < get_or buffer (above - 1) 0
  pub ones : AreOnes (drop above (take rows buffer))
  pub count : length (drop above (take rows buffer)) ≡ rows - above
  pub front : ArePositive (take (above - 1) buffer)
  pub sum : size (take (above - 1) buffer) + (get_or buffer (above - 1) 0 + (rows - above)) ≡ length buffer
  pub room : (above - 1) + (get_or buffer (above - 1) 0 + (rows - above)) ≤ length buffer

pub cuts :
    (buffer : List ℕ) (rows above : ℕ) → HoldsParts buffer rows → (above ≡ 0 → ⊥) → above ≤ length (take rows buffer)
    → AreOnes (drop above (take rows buffer)) → (0 < above → get_or (take rows buffer) (above - 1) 0 ≢ 1)
    → Cuts buffer rows above
cuts buffer rows above h nonzero within ones other_part =
    let positive : 0 < above = omega (arith, nonzero) in
    let other = other_part positive in
    let k = above - 1 in
    let xs = take rows buffer in
    let tail = drop above xs in
    let long : length xs ≡ rows = omega (arith, length-take rows buffer, h.rows_in) in
    let next : suc (above - 1) ≡ above = omega arith in
    let same_front : take (above - 1) xs ≡ take (above - 1) buffer = take-take (above - 1) rows buffer (omega arith) in
    let same_part : get_or xs (above - 1) 0 ≡ get_or buffer (above - 1) 0 = get_or-take rows buffer (above - 1) 0 (omega arith) in
    let back : drop (above - 1) xs ≡ get_or buffer (above - 1) 0 ∷ tail =
    drop-cons xs (above - 1) 0 (omega arith)
    ∙ ap₂ (λ a n. a ∷ drop n xs) same_part next in
    let parts : xs ≡ take (above - 1) buffer ++ get_or buffer (above - 1) 0 ∷ tail =
    sym (take-append-drop (above - 1) xs) ∙ ap₂ (λ a b. a ++ b) same_front back in
    let all = subst ArePositive parts h.positive in
    let front : ArePositive (take (above - 1) buffer) = ArePositive-front _ _ all in
    let here = ArePositive-back (take (above - 1) buffer) _ all in
    let part : 1 < get_or buffer (above - 1) 0 = omega (arith, here.0, subst (λ n. n ≢ 1) same_part other) in
    let count : length tail ≡ rows - above = omega (arith, length-drop above xs) in
    let total : size (take (above - 1) buffer) + (get_or buffer (above - 1) 0 + (rows - above)) ≡ length buffer =
    omega (
      arith,
      ap size parts,
      size-append (take (above - 1) buffer) (get_or buffer (above - 1) 0 ∷ tail),
      size-AreOnes tail ones,
      count,
      h.sum,
    ) in
    let few : above - 1 ≤ size (take (above - 1) buffer) =
    omega (arith, rows_within_size (take (above - 1) buffer) front, length-take (above - 1) buffer, h.rows_in) in
    record {
      parts = parts;
      part = part;
      ones = ones;
      count = count;
      front = front;
      sum = total;
      room = omega arith;
    }

-- if the parts in the buffer satisfy `Cuts`, the partition that follows consists of the parts before the index above - 1 and the greatest partition
-- of the remaining sum with parts less than the one at this index
pub next_is :
    (buffer : List ℕ) (rows above : ℕ) (next : List ℕ) → Cuts buffer rows above
    → next ≡ take (above - 1) buffer
    ++ greatest_within (get_or buffer (above - 1) 0 + (rows - above)) (get_or buffer (above - 1) 0 - 1) (length buffer - (above - 1))
    → partitions_after (take rows buffer) ≡ next ∷ partitions_after next
next_is buffer rows above next c e =
    let p = get_or buffer (above - 1) 0 in
    let front = take (above - 1) buffer in
    let tail = drop above (take rows buffer) in
    let room = length buffer - (above - 1) in
    let fits : get_or buffer (above - 1) 0 + (rows - above) ≤ length buffer - (above - 1) = omega (arith, c.room) in
    let greatest = greatest_within (p + (rows - above)) (p - 1) room in
    let step : partitions_after (p ∷ tail) ≡ greatest ∷ partitions_after greatest =
    subst (λ n. partitions_after (p ∷ tail) ≡ greatest_within (p + n) (p - 1) room ∷ partitions_after (greatest_within (p + n) (p - 1) room)) c.count
    (partitions_after-part p room tail c.part c.ones (omega (arith, c.count))) in
    let sizes : size (p ∷ tail) ≡ size greatest =
    omega (
      arith,
      size-AreOnes tail c.ones,
      c.count,
      size-greatest_within room (p + (rows - above)) (p - 1) fits (λ _. omega (arith, c.part)),
    ) in
    subst (λ xs. partitions_after xs ≡ next ∷ partitions_after next) (sym c.parts)
    (subst (λ xs. partitions_after (front ++ p ∷ tail) ≡ xs ∷ partitions_after xs) (sym e)
    (partitions_after-append front (p ∷ tail) greatest step sizes))

pub next_holds :
    (buffer next : List ℕ) (rows above result : ℕ) → HoldsParts buffer rows → Cuts buffer rows above
    → length next ≡ length buffer → result ≤ length next
    → take result next ≡ take (above - 1) buffer
    ++ greatest_within (get_or buffer (above - 1) 0 + (rows - above)) (get_or buffer (above - 1) 0 - 1) (length buffer - (above - 1))
    → HoldsParts next result
next_holds buffer next rows above result h c l r e =
    let p = get_or buffer (above - 1) 0 in
    let front = take (above - 1) buffer in
    let room = length buffer - (above - 1) in
    let fits : get_or buffer (above - 1) 0 + (rows - above) ≤ length buffer - (above - 1) = omega (arith, c.room) in
    let greatest = greatest_within (p + (rows - above)) (p - 1) room in
    record {
      rows_in = r;
      few = omega (arith, h.few);
      positive = subst ArePositive (sym e)
          (ArePositive-append front greatest c.front
          (ArePositive-greatest_within room (p + (rows - above)) (p - 1) (λ _. omega (arith, c.part))));
      sum = ap size e ∙ size-append front greatest
          ∙ omega (arith, c.sum, l, size-greatest_within room (p + (rows - above)) (p - 1) fits (λ _. omega (arith, c.part)));
    }

-- if the greatest partition of d ≤ 512, which has `rows` parts, is written into a buffer of d numbers, the buffer satisfies `HoldsParts`
pub first_holds :
    (d : ℕ) (before after : List ℕ) (rows : ℕ) → d ≤ 512 → length before ≡ d → length after ≡ d → rows ≤ length after
    → take rows after ≡ take 0 before ++ greatest_within d d (length before - 0) → HoldsParts after rows
first_holds d before after rows h b a r e =
    let room : d ≤ length before - 0 = omega arith in
    record {
      rows_in = r;
      few = omega arith;
      positive = subst ArePositive (sym e) (ArePositive-greatest_within (length before - 0) d d (λ p. p));
      sum = ap size e ∙ size-greatest_within (length before - 0) d d room (λ p. p) ∙ sym a;
    }

pub first_is :
    (d : ℕ) (before after : List ℕ) (rows : ℕ) → length before ≡ d
    → take rows after ≡ take 0 before ++ greatest_within d d (length before - 0)
    → take rows after ∷ partitions_after (take rows after) ≡ partitions_of d
first_is d before after rows b e =
    let room : length before - 0 ≡ d = omega arith in
    let is : take rows after ≡ greatest_within d d d = e ∙ ap (greatest_within d d) room in
    ap (λ xs. xs ∷ partitions_after xs) is ∙ sym (partitions_within-first d d d (omega arith) (λ p. p))
