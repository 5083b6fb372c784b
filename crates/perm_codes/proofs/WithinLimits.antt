-- A permutation of at most 255 letters still has at most 255 letters after two letters are exchanged, and satisfies `IsWithinLimits` after the fixed
-- letters at its end (letters that are equal to their places) are removed. The permutation of a code of at most 255 entries has at most 255 letters.
use Rattle.std.proofs.Common.{◌≡◌, ℕ, ◌+◌, ◌-◌, ◌<◌, ◌≤◌, List, [], ◌∷◌, length, sym, ap, ◌∙◌, subst, arith, length-append}
use Rattle.std.specs.List.{swap}
use Rattle.sym_model.specs.Partition.{after}
use Rattle.sym_model.specs.PlaceOrders.{places}
use Rattle.sym_model.specs.Permutation.{IsCode, kept, letters_by_code, with_fixed}
use Rattle.schubert_laws.proofs.Codes.{length-letters, one_line_letters}
use Rattle.sym_model.proofs.AfterLists.{length_after}
use Rattle.schubert_laws.proofs.FixedTails.{kept_added, one_line_added, one_line_kept}
use Rattle.schubert_laws.proofs.LowerPermutations.{kept_whole}
use Rattle.schubert_laws.proofs.MonkFromOne.{one_line_swap, swap_is}
use Rattle.schubert_laws.proofs.Swaps.{length-swap_at}
use Rattle.schubert_laws.proofs.Members.{fewer_kept}
use Rattle.perm_codes.specs.Limits.{IsShortPermutation, IsWithinLimits}

some_kept : (w : List ℕ) → 0 < length w → 0 < length (kept w)
some_kept [] h = h
some_kept (a ∷ w) h = omega arith

kept_kept : (w : List ℕ) → 0 < length w → kept (kept w) ≡ kept w
kept_kept w h = let t = kept_whole w in sym (kept_added (kept w) t.0 (some_kept w h)) ∙ ap kept (sym t.1)

pub kept_limits : (w : List ℕ) → IsShortPermutation w → IsWithinLimits (kept w)
kept_limits w s = record {
  kept = record { one_line = one_line_kept w s.one_line; some = some_kept w s.some; unfixed = kept_kept w s.some };
  few = omega (arith, fewer_kept w, s.few);
}

pub short_swap : (w : List ℕ) (a b : ℕ) → a < length w → b < length w → IsShortPermutation w → IsShortPermutation (swap w a b)
short_swap w a b h l s = subst IsShortPermutation (sym (swap_is w a b h l)) (record {
  one_line = one_line_swap a b w h l s.one_line;
  some = omega (arith, s.some, length-swap_at a b w);
  few = omega (arith, s.few, length-swap_at a b w);
})

pub length-with_fixed : (n : ℕ) (w : List ℕ) → length (with_fixed n w) ≡ length w + (n - length w)
length-with_fixed n w = length-append w (after (length w) (n - length w)) ∙ ap (λ k. length w + k) (length_after (length w) (n - length w))

pub short_fixed : (n : ℕ) (w : List ℕ) → n ≤ 255 → IsWithinLimits w → IsShortPermutation (with_fixed n w)
short_fixed n w h l =
    let few = l.few in
    let some = l.kept.some in
    let e = length-with_fixed n w in
    record { one_line = one_line_added (n - length w) w l.kept.one_line; some = omega arith; few = omega arith }

pub kept_fixed : (n : ℕ) (w : List ℕ) → IsWithinLimits w → kept (with_fixed n w) ≡ w
kept_fixed n w l = kept_added w (n - length w) l.kept.some ∙ l.kept.unfixed

pub short_letters : (cs : List ℕ) → IsCode cs → 0 < length cs → length cs ≤ 255 → IsShortPermutation (letters_by_code cs (places (length cs)))
short_letters cs i h l =
    let e = length-letters cs (places (length cs)) i (length_after 0 (length cs)) in
    let f = length_after 0 (length cs) in
    record { one_line = one_line_letters cs i; some = omega arith; few = omega arith }
