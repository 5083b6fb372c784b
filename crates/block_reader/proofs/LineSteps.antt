-- The terms of a text, read one line after another.
use Rattle.std.proofs.Common.{◌≡◌, ℕ, ◌<◌, length, List, ◌++◌, Bool, false, sym, ◌∙◌, ap, subst, append_assoc, append-nil}
use Rattle.sym_model.specs.Expansion.{Terms}
use Rattle.sym_model.specs.Kind.{LabelRules, after_one}
use Rattle.sym_model.specs.NumberText.{cut_at}
use Rattle.sym_model.specs.PrintedBlock.{term_of_line, terms_of_lines, terms_of}
use Rattle.block_reader.specs.Fitting.{all_fit}
use Rattle.block_reader.proofs.Cuts.{pieces_after, split-cut}
use Rattle.block_reader.proofs.NumberLists.{pieces-more, pieces-last}
use Rattle.block_reader.proofs.FittingTerms.{unfit-front, unfit-behind}

module _ {L : Type 0} (rules : LabelRules L) (has_fractions : Bool) (is_label : L → Bool) (text rest line tail : List ℕ) (done : Terms L)
    (so_far : terms_of rules text ≡ done ++ terms_of rules rest) (front : line ≡ (cut_at 10 rest).0) (back : tail ≡ (cut_at 10 rest).1) where
  pub lines-refused : all_fit has_fractions is_label (term_of_line rules (cut_at 32 line)) ≡ false → all_fit has_fractions is_label (terms_of rules text) ≡ false
  lines-refused h =
      let others = terms_of_lines rules (pieces_after 10 (cut_at 10 rest).1) in
      let first = term_of_line rules (cut_at 32 (cut_at 10 rest).0) in
      ap (all_fit has_fractions is_label) (so_far ∙ ap (λ ps. done ++ terms_of_lines rules ps) (split-cut 10 rest))
      ∙ unfit-behind has_fractions is_label done (first ++ others)
      (unfit-front has_fractions is_label first others (ap (λ l. all_fit has_fractions is_label (term_of_line rules (cut_at 32 l))) (sym front) ∙ h))

  pub lines-last : (found new : Terms L) → length tail ≡ 0 → found ≡ term_of_line rules (cut_at 32 line) → new ≡ done ++ found → new ≡ terms_of rules text
  lines-last found new none told e =
      let last : length (cut_at 10 rest).1 ≡ 0 = ap length (sym back) ∙ none in
      e ∙ ap (λ ts. done ++ ts) (told ∙ ap (λ l. term_of_line rules (cut_at 32 l)) front ∙ sym (append-nil (term_of_line rules (cut_at 32 (cut_at 10 rest).0))))
      ∙ ap (λ ps. done ++ terms_of_lines rules ps) (sym (pieces-last 10 rest last)) ∙ sym so_far

  pub lines-more : (found new : Terms L) (others : List ℕ) → 0 < length tail → others ≡ after_one tail → found ≡ term_of_line rules (cut_at 32 line) → new ≡ done ++ found
      → terms_of rules text ≡ new ++ terms_of rules others
  lines-more found new others some after told e =
      let more : 0 < length (cut_at 10 rest).1 = subst (λ (t : List ℕ). 0 < length t) back some in
      so_far ∙ ap (λ ps. done ++ terms_of_lines rules ps) (pieces-more 10 rest more)
      ∙ sym (append_assoc done (term_of_line rules (cut_at 32 (cut_at 10 rest).0)) (terms_of rules (after_one (cut_at 10 rest).1)))
      ∙ ap (λ t. (done ++ term_of_line rules (cut_at 32 (cut_at 10 rest).0)) ++ terms_of rules t) (ap after_one (sym back) ∙ sym after)
      ∙ ap (λ ts. ts ++ terms_of rules others) (sym (e ∙ ap (λ ts. done ++ ts) (told ∙ ap (λ l. term_of_line rules (cut_at 32 l)) front)))
