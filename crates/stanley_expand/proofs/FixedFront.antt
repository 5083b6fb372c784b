-- A permutation after m fixed letters is increasing at the places 1 to m.
use Rattle.std.proofs.Common.{◌≡◌, ℕ, zero, suc, ◌+◌, ◌-◌, ◌<◌, ◌≤◌, List, map, length, get_or, arith, inl, inr, length-append}
use Rattle.std.proofs.Math.ListN.{get_or-append}
use Rattle.std.proofs.lemmas.List.{length-map}
use Rattle.sym_model.specs.Polynomial.{Same}
use Rattle.sym_model.specs.Partition.{after}
use Rattle.sym_model.specs.Permutation.{IsOneLine, letter, kept}
use Rattle.sym_model.specs.Schubert.{schubert_in}
use Rattle.sym_model.proofs.Sums.{Among_from_append, Among_from_map, Once-append, Once-map}
use Rattle.sym_model.proofs.AfterLists.{length_after, after_among, once_after}
use Rattle.schubert_laws.proofs.Blocks.{length-behind, one_line_behind}
use Rattle.schubert_laws.proofs.FixedTails.{one_line_kept, schubert_kept}
use Rattle.schubert_laws.proofs.Members.{fewer_kept}
use Rattle.sym_model.specs.Stanley.{behind, stanley_in}
use Rattle.stanley_expand.specs.Grassmannian.{RisesTo, IsRising}
use Rattle.stanley_expand.proofs.FirstPlaces.{rises_kept}

get_after : (d t q e : ℕ) → q < t → get_or (after d t) q e ≡ suc (d + q)
get_after d zero q e h = absurd (omega arith)
get_after d (suc t) zero e h = omega arith
get_after d (suc t) (suc q) e h = let g = get_after (d + 1) t q e (omega arith) in omega arith

letter_behind : (m i : ℕ) (w : List ℕ) → 1 ≤ i → i ≤ m → letter (behind m w) i ≡ i
letter_behind m i w h l =
    let n = length_after 0 m in
    let a = get_or-append (after 0 m) (map (λ a. a + m) w) i (i - 1) (omega arith) in
    let b = get_after 0 m (i - 1) i (omega arith) in
    omega arith

pub rises_behind : (m : ℕ) (w : List ℕ) → RisesTo m (behind m w)
rises_behind m w i h l = let a = letter_behind m i w h (omega arith) in let b = letter_behind m (i + 1) w (omega arith) (omega arith) in omega arith

pub rising_behind : (m n : ℕ) (w : List ℕ) → IsOneLine w → length w ≤ n → IsRising m (m + n) (kept (behind m w))
rising_behind m n w o h =
    let a = fewer_kept (behind m w) in
    let b = length-behind m w in
    record { short = record { one_line = one_line_kept (behind m w) (one_line_behind m w o); few = omega arith }; rises = rises_kept m (behind m w) (rises_behind m w) }

pub schubert_behind : (m : ℕ) (w : List ℕ) → IsOneLine w → Same (schubert_in (kept (behind m w)) m) (stanley_in w m)
schubert_behind m w o = schubert_kept (behind m w) m (one_line_behind m w o)
