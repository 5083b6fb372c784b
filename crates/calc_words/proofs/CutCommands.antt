-- Words that are divided into the parts of a command (`AreCut`): the values that they denote.
use Rattle.std.proofs.Common.{◌≡◌, ℕ, ◌+◌, List, [], ◌∷◌, drop, length, refl, ap, ◌∙◌, rules}
use Rattle.std.proofs.lemmas.List.{append-nil}
use Rattle.sym_model.specs.Form.{Written, May, Has, words_of}
use Rattle.word_laws.specs.Words.{Words}
use Rattle.calc_words.specs.Parts.{form_of_part, form_of, command_form, IsCut, written_of, AreCut}
use Rattle.calc_words.specs.declared.word_parts.Part.{Part}
use Rattle.calc_words.proofs.CutWords.{dropped}

-- the value that the words of a command denote, from the value x that the words of its parts denote
abbrev pub said_of : (name : List ℕ) (ps : List Part) → Written (form_of ps) → Written (command_form name ps)
said_of name [] x = tt
said_of name (p ∷ ps) x = (tt, x)

pub may_be_cut : (ps : List Part) (i k : ℕ) (places : List ℕ) (words : Words) (h : IsCut ps i k places words) → May (form_of ps) (written_of ps i k places words h)
may_be_cut [] i k places words h = tt
may_be_cut (p ∷ []) i k places words h = h.1
may_be_cut (p ∷ q ∷ ps) i k places words h =
    (h.1, may_be_cut (q ∷ ps) (i + 1) (k + length (words_of (form_of_part p) h.0)) places words h.3)

pub may_be_said : (name : List ℕ) (ps : List Part) (x : Written (form_of ps)) → May (form_of ps) x → May (command_form name ps) (said_of name ps x)
may_be_said name [] x m = tt
may_be_said name (p ∷ ps) x m = (tt, m)

pub cut_spelled : (ps : List Part) (i k : ℕ) (places : List ℕ) (words : Words) (h : IsCut ps i k places words)
    → drop k words ≡ words_of (form_of ps) (written_of ps i k places words h)
cut_spelled [] i k places words h = h
cut_spelled (p ∷ []) i k places words h = search (rules, dropped, append-nil)
cut_spelled (p ∷ q ∷ ps) i k places words h = search (rules, dropped, (cut_spelled (q ∷ ps) (i + 1)))

pub said_spelled : (name : List ℕ) (ps : List Part) (x : Written (form_of ps)) → name ∷ words_of (form_of ps) x ≡ words_of (command_form name ps) (said_of name ps x)
said_spelled name [] x = refl
said_spelled name (p ∷ ps) x = refl

abbrev pub has_of : (name : List ℕ) (ps : List Part) (places : List ℕ) (words : Words) (k : AreCut name ps places words) → Has (command_form name ps) words
has_of name ps places words k = record {
  written = said_of name ps (written_of ps 0 1 places words k.parts);
  allowed = may_be_said name ps (written_of ps 0 1 places words k.parts) (may_be_cut ps 0 1 places words k.parts);
  spelled =
      k.named
      ∙ ap (λ us. name ∷ us) (cut_spelled ps 0 1 places words k.parts)
      ∙ said_spelled name ps (written_of ps 0 1 places words k.parts);
}
