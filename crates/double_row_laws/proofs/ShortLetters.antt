-- A row of a diagram letter by letter, as SweptRowsFromOne has it, for permutations that are written without fixed letters at the end.
use Rattle.std.proofs.Common.{◌≡◌, ℕ, ◌+◌, ◌-◌, ◌<◌, ◌≤◌, List, ◌++◌, length, get_or, take, sym, ◌∙◌, ap, subst, arith}
use Rattle.sym_model.specs.Partition.{after}
use Rattle.sym_model.specs.Permutation.{with_fixed}
use Rattle.sym_model.specs.Polynomial.{Poly, Same}
use Rattle.sym_model.specs.Schubert.{schubert_over}
use Rattle.sym_model.specs.DoubleSchubert.{restrict_both, double_schubert_in}
use Rattle.sym_model.proofs.Polynomials.{Same_refl, Same_trans, times_respects}
use Rattle.schubert_laws.specs.ShortPermutations.{IsShort}
use Rattle.schubert_laws.proofs.FixedTails.{one_line_added, kept_added}
use Rattle.schubert_laws.proofs.IndependentSchuberts.{length-with_fixed}
use Rattle.double_schubert_laws.specs.DiagramRows.{AreWithin, diagram_product}
use Rattle.double_schubert_laws.proofs.DoubleVariables.{kept_in}
use Rattle.double_schubert_laws.proofs.KeptChains.{fixed_longer, fixed_one_line}
use Rattle.double_row_laws.specs.DoubleRows.{times_double_rows}
use Rattle.double_row_laws.specs.ExchangedAlphabets.{exchange_alphabets}
use Rattle.double_row_laws.specs.SweptRows.{swept}
use Rattle.double_row_laws.proofs.SweptRowsFromOne.{row_by_letters}

fixed_double : (j k m : ℕ) (w : List ℕ) → IsShort m w → Same (double_schubert_in w k) (double_schubert_in (with_fixed j w) k)
fixed_double j k m w s =
    subst (λ v. Same (double_schubert_in v k) (double_schubert_in (with_fixed j w) k)) (kept_added w (j - length w) s.some ∙ s.whole)
    (kept_in (with_fixed j w) k (one_line_added (j - length w) w s.one_line))

pub row_by_short_letters : (k i j m n : ℕ) (rows w q : List ℕ) → IsShort m w → IsShort n q → AreWithin n rows → i < n → get_or rows i 0 ≤ m → m + get_or rows i 0 < j
    → Same (times_double_rows k (double_schubert_in w k) (take (i + 1) rows) (with_fixed n q))
    (swept (m + 1) (get_or rows i 0) k (n - i) (λ v p. times_double_rows k (double_schubert_in v k) (take i rows) p) (with_fixed j w) (with_fixed n q))
row_by_short_letters k i j m n rows w q s t a h l b =
    let c : ℕ = get_or rows i 0 in
    let u : List ℕ = with_fixed m w in
    let p : List ℕ = with_fixed n q in
    let F : List ℕ → List ℕ → Poly = λ v p. times_double_rows k (double_schubert_in v k) (take i rows) p in
    let lu : length (with_fixed m w) ≡ m = length-with_fixed m w s.short in
    let lp : length (with_fixed n q) ≡ n = length-with_fixed n q t.short in
    let e : with_fixed m w ++ after (length (with_fixed m w)) (j - m) ≡ with_fixed j w =
    ap (λ x. with_fixed m w ++ after x (j - m)) lu ∙ sym (fixed_longer m j w s.short (omega arith)) in
    let R : Poly = restrict_both (length p) k (exchange_alphabets (length p) (schubert_over (diagram_product (take (i + 1) rows) (length p)) p)) in
    Same_trans (times_double_rows k (double_schubert_in w k) (take (i + 1) rows) p) (times_double_rows k (double_schubert_in (with_fixed j w) k) (take (i + 1) rows) p)
    (swept (m + 1) c k (n - i) F (with_fixed j w) p)
    (times_respects (double_schubert_in w k) (double_schubert_in (with_fixed j w) k) R R (fixed_double j k m w s) (Same_refl R))
    (subst (λ x. Same (times_double_rows k (double_schubert_in (with_fixed j w) k) (take (i + 1) rows) p) (swept (x + 1) c k (n - i) F (with_fixed j w) p)) lu
    (subst (λ x. Same (times_double_rows k (double_schubert_in (with_fixed j w) k) (take (i + 1) rows) p) (swept (length u + 1) c k (x - i) F (with_fixed j w) p)) lp
    (subst (λ v. Same (times_double_rows k (double_schubert_in v k) (take (i + 1) rows) p) (swept (length u + 1) c k (length p - i) F v p)) e
    (row_by_letters k i (j - m) rows u p (fixed_one_line m w s) (fixed_one_line n q t) (subst (λ x. AreWithin x rows) (sym lp) a) (omega arith) (omega arith) (omega arith)))))
