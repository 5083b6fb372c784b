-- The loop of `is_lattice`, the test of lattice words: it counts the letters of a word one after another.
use Rattle.std.proofs.Common.{◌≡◌, ℕ, ◌+◌, ◌-◌, ◌<◌, ◌≤◌, ◌==◌, nat_le, nat_lt, true, false, ◌&&◌, ◌||◌, List, [], length, take, set, get_or, sym, ap, ◌∙◌, arith}
use Rattle.std.proofs.lemmas.Bool.{and_parts, leb-true, true≢false, false_from_ne_true}
use Rattle.std.proofs.lemmas.List.{length-take, take_more}
use Rattle.sym_model.specs.Schur.{content}
use Rattle.sym_model.proofs.Contents.{times_in-most}
use Rattle.tableau_iter.specs.Fits.{all_fit}
use Rattle.tableau_iter.proofs.Boards.{sums-put}
use Rattle.tableau_iter.proofs.FittingWords.{all_fit-at}
use Rattle.tableau_iter.proofs.FrontContents.{length-sums, sum-at}
use Rattle.tableau_iter.proofs.Walking.{all_fit-one}
use Rattle.tableau_iter.specs.LatticeWords.{is_allowed, may_follow, is_lattice_word}

counts_say : (k : ℕ) (counts now v : List ℕ) (a : ℕ) → now ≡ counts → counts ≡ content k v → is_allowed (length now) now a ≡ may_follow k v a
counts_say k counts now v a n e =
    ap (λ xs. is_allowed (length xs) xs a) (n ∙ e) ∙ ap (λ m. is_allowed m (content k v) a) (length-sums [] v k (omega arith))

pub refused : (k : ℕ) (w counts now : List ℕ) (p : ℕ) → p < length w → now ≡ counts → counts ≡ content k (take p w)
    → is_allowed (length now) now (get_or w p 0) ≡ false → false ≡ is_lattice_word k w
refused k w counts now p h n e f =
    sym (false_from_ne_true (is_lattice_word k w)
    (λ t. true≢false (sym (all_fit-at (may_follow k) [] w p t h) ∙ sym (counts_say k counts now (take p w) (get_or w p 0) n e) ∙ f)))

-- the letter at the index p of w is from 1 to k, and its entry in `counts` is at most the length of w. If this entry is raised by 1, `counts` becomes
-- the content of the first p + 1 letters of w. Each of these p + 1 letters may follow the letters before it.
pub record IsNext (k : ℕ) (w counts : List ℕ) (p : ℕ) : Type 0 where
  pub low : 1 ≤ get_or w p 0
  pub high : get_or w p 0 ≤ k
  pub place : get_or w p 0 - 1 < length counts
  pub few : get_or counts (get_or w p 0 - 1) 0 ≤ length w
  pub counted : set counts (get_or w p 0 - 1) (get_or counts (get_or w p 0 - 1) 0 + 1) ≡ content k (take (p + 1) w)
  pub allowed : all_fit (may_follow k) [] (take (p + 1) w) ≡ true

pub next_letter : (k : ℕ) (w counts now : List ℕ) (p : ℕ) → p < length w → now ≡ counts → counts ≡ content k (take p w)
    → all_fit (may_follow k) [] (take p w) ≡ true → is_allowed (length now) now (get_or w p 0) ≡ true → IsNext k w counts p
next_letter k w counts now p h n e t f =
    let a = get_or w p 0 in
    let v = take p w in
    let follows : may_follow k (take p w) (get_or w p 0) ≡ true = sym (counts_say k counts now (take p w) (get_or w p 0) n e) ∙ f in
    let both =
    and_parts (nat_le 1 (get_or w p 0) && nat_le (get_or w p 0) k)
    ((get_or w p 0 == 1) || nat_lt (get_or (content k (take p w)) (get_or w p 0 - 1) 0) (get_or (content k (take p w)) (get_or w p 0 - 2) 0)) follows in
    let within = and_parts (nat_le 1 (get_or w p 0)) (nat_le (get_or w p 0) k) both.0 in
    let low = leb-true 1 (get_or w p 0) within.0 in
    let high = leb-true (get_or w p 0) k within.1 in
    let more = take_more w p 0 h in
    let long = length-take p w in
    record {
      low = low;
      high = high;
      place = omega (arith, ap length e, length-sums [] (take p w) k (omega arith), low, high);
      few =
          omega (
            arith,
            ap (λ xs. get_or xs (get_or w p 0 - 1) 0) e,
            sum-at [] (take p w) k (get_or w p 0 - 1) (omega arith) (omega (arith, low, high)),
            times_in-most (get_or w p 0 - 1 + 1) (take p w),
            long,
          );
      counted = sums-put [] counts (take p w) k (get_or w p 0) (omega arith) low high e ∙ ap (content k) (sym more);
      allowed = ap (all_fit (may_follow k) []) more ∙ all_fit-one (may_follow k) (take p w) (get_or w p 0) t follows;
    }
