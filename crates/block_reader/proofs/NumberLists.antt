-- The numbers of a text that is cut at its separators.
use Rattle.std.proofs.Common.{◌≡◌, ℕ, ◌^◌, ◌<◌, length, arith, List, [], ◌∷◌, ◌++◌, refl, sym, ◌∙◌, ap, subst, map, append_assoc}
use Rattle.sym_model.specs.Kind.{after_one}
use Rattle.sym_model.specs.NumberText.{cut_at, decimal_value, split_at, numbers_of}
use Rattle.printing_laws.proofs.NumberTexts.{numbers_of-nonempty}
use Rattle.block_reader.specs.Parts.{AreSmall}
use Rattle.block_reader.proofs.Cuts.{pieces_after, split-cut}

-- if a text has a separator, its pieces are the text before the first separator and the pieces of the text after that separator
pub pieces-more : (s : ℕ) (text : List ℕ) → 0 < length (cut_at s text).1
    → split_at s text ≡ (cut_at s text).0 ∷ split_at s (after_one (cut_at s text).1)
pieces-more s text some = split-cut s text ∙ ap (λ ps. (cut_at s text).0 ∷ ps) (behind (cut_at s text).1 some)
  where
    behind : (tail : List ℕ) → 0 < length tail → pieces_after s tail ≡ split_at s (after_one tail)
    behind [] some = absurd (omega arith)
    behind (b ∷ tail) some = refl

-- if a text has no separator, its only piece is the text
pub pieces-last : (s : ℕ) (text : List ℕ) → length (cut_at s text).1 ≡ 0 → split_at s text ≡ (cut_at s text).0 ∷ []
pieces-last s text none = split-cut s text ∙ ap (λ ps. (cut_at s text).0 ∷ ps) (behind (cut_at s text).1 none)
  where
    behind : (tail : List ℕ) → length tail ≡ 0 → pieces_after s tail ≡ []
    behind [] none = refl
    behind (b ∷ tail) none = absurd (omega arith)

small-behind : (xs ys : List ℕ) → AreSmall (xs ++ ys) → AreSmall ys
small-behind [] ys h = h
small-behind (x ∷ xs) ys h = small-behind xs ys h.1

module _ (text : List ℕ) (some : 0 < length text) (numbers : List ℕ) (rest : List ℕ)
    (so_far : numbers ++ map decimal_value (split_at 44 rest) ≡ map decimal_value (split_at 44 text)) where
  all_numbers : (n : ℕ) (others : List ℕ) → map decimal_value (split_at 44 rest) ≡ n ∷ others → numbers ++ n ∷ others ≡ numbers_of text
  all_numbers n others e = ap (λ ns. numbers ++ ns) (sym e) ∙ so_far ∙ sym (numbers_of-nonempty text some)

  pub numbers-past : (piece : List ℕ) → piece ≡ (cut_at 44 rest).0 → (decimal_value piece < 2 ^ 16 → ⊥) → AreSmall (numbers_of text) → ⊥
  numbers-past piece is past small =
      let e = all_numbers (decimal_value (cut_at 44 rest).0) (map decimal_value (pieces_after 44 (cut_at 44 rest).1)) (ap (map decimal_value) (split-cut 44 rest)) in
      past (subst (λ p. decimal_value p < 2 ^ 16) (sym is) (small-behind numbers _ (subst AreSmall (sym e) small)).0)

  pub numbers-more : (piece tail others : List ℕ) (n : ℕ) → piece ≡ (cut_at 44 rest).0 → tail ≡ (cut_at 44 rest).1 → others ≡ after_one tail
      → n ≡ decimal_value piece → 0 < length tail
      → (numbers ++ n ∷ []) ++ map decimal_value (split_at 44 others) ≡ map decimal_value (split_at 44 text)
  numbers-more piece tail others n is back front value long =
      let more : 0 < length (cut_at 44 rest).1 = subst (λ t. 0 < length t) back long in
      append_assoc numbers (n ∷ []) (map decimal_value (split_at 44 others))
      ∙ ap (λ k. numbers ++ k ∷ map decimal_value (split_at 44 others)) (value ∙ ap decimal_value is)
      ∙ ap (λ t. numbers ++ decimal_value (cut_at 44 rest).0 ∷ map decimal_value (split_at 44 t)) (front ∙ ap after_one back)
      ∙ ap (λ ps. numbers ++ map decimal_value ps) (sym (pieces-more 44 rest more)) ∙ so_far

  pub numbers-last : (piece tail : List ℕ) (n : ℕ) → piece ≡ (cut_at 44 rest).0 → tail ≡ (cut_at 44 rest).1 → n ≡ decimal_value piece → length tail ≡ 0
      → numbers ++ n ∷ [] ≡ numbers_of text
  numbers-last piece tail n is back value none =
      let last : length (cut_at 44 rest).1 ≡ 0 = ap length (sym back) ∙ none in
      ap (λ k. numbers ++ k ∷ []) (value ∙ ap decimal_value is)
      ∙ all_numbers (decimal_value (cut_at 44 rest).0) [] (ap (map decimal_value) (pieces-last 44 rest last))
