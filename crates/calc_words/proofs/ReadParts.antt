-- The parts of the words of a command are read one after another. The value of each part is what its words denote, and the first part with an error
-- has the first error of the command.
use Rattle.std.proofs.Common.{◌≡◌, ℕ, zero, suc, ◌+◌, ◌<◌, List, [], ◌∷◌, length, refl, sym, ap, ◌∙◌, subst, arith, Option, Some, None, Result, Ok, Err, inl, inr}
use Rattle.std.specs.Prelude.{slice_index_or, IfErr}
use Rattle.std.proofs.lemmas.Bool.{ltb-true}
use Rattle.sym_model.specs.Command.{Command}
use Rattle.sym_model.specs.CommandOffence.{Offence, first_offence}
use Rattle.sym_model.specs.Entry.{Entry, SpellsWithoutOffence}
use Rattle.sym_model.specs.Form.{Form, Written, May, words_of}
use Rattle.sym_model.specs.Grammar.{all_entries}
use Rattle.word_laws.specs.Words.{Words}
use Rattle.calc_base.specs.declared.words.WordsFault.{WordsFault}
use Rattle.calc_words.specs.Reading.{IsRefusal, IsFirst, IsJudged}
use Rattle.calc_words.specs.Parts.{form_of_part, form_of, command_form, part_offends, parts_offend, command_offends, IsPiece, IsCut, written_of, AreCut, IsFirstOf, AreFine}
use Rattle.calc_words.specs.ReadParts.{entry_named, HasParts, IsRefusalAs, FineTo, marks, after, AreFineTo, IsNext, IsPartRead}
use Rattle.calc_words.specs.declared.word_parts.Part.{Part}
use Rattle.calc_words.specs.declared.word_parts.Part.TheVariants.{Minus, Slash}
use Rattle.calc_words.proofs.Commands.{first_refused}
use Rattle.calc_words.proofs.CutCommands.{said_of, has_of}
use Rattle.calc_words.proofs.PartOffences.{parts_faulty, parts_fine}

record IsPartAt (p : Part) (ps : List Part) (i j k : ℕ) (places : List ℕ) (words : Words) (h : IsCut ps j k places words) : Type 0 where
  at : ℕ
  written : Written (form_of_part p)
  allowed : May (form_of_part p) written
  piece : (n : ℕ) → n ≡ j + i → IsPiece places words n at (words_of (form_of_part p) written)
  goes : first_offence (part_offends p at written) ≡ None → FineTo i ps k (written_of ps j k places words h)
      → FineTo (suc i) ps k (written_of ps j k places words h)
  faulty : (fault : WordsFault) → IsFirst (first_offence (part_offends p at written)) fault → FineTo i ps k (written_of ps j k places words h)
      → IsFirstOf ps k (written_of ps j k places words h) fault

part_at : (ps : List Part) (i j k : ℕ) (places : List ℕ) (words : Words) (h : IsCut ps j k places words) → i < length ps
    → IsPartAt (slice_index_or ps i Minus) ps i j k places words h
part_at [] i j k places words h l = absurd (omega (arith, l))
part_at (p ∷ []) zero j k places words h l = record {
  at = k;
  written = h.0;
  allowed = h.1;
  piece = λ n e. subst (λ m. IsPiece places words m k (words_of (form_of_part p) h.0)) (omega (arith, e)) h.2;
  goes = λ n f. n;
  faulty = λ fault a f. a;
}
part_at (p ∷ []) (suc i) j k places words h l = absurd (omega (arith, l))
part_at (p ∷ q ∷ ps) zero j k places words h l = record {
  at = k;
  written = h.0;
  allowed = h.1;
  piece = λ n e. subst (λ m. IsPiece places words m k (words_of (form_of_part p) h.0)) (omega (arith, e)) h.2;
  goes = λ n f. (n, tt);
  faulty = λ fault a f. inl a;
}
part_at (p ∷ q ∷ ps) (suc i) j k places words h l =
    let s = part_at (q ∷ ps) i (j + 1) (k + length (words_of (form_of_part p) h.0)) places words h.3 (omega (arith, l)) in
    record {
      at = s.at;
      written = s.written;
      allowed = s.allowed;
      piece = λ n e. s.piece n (omega (arith, e));
      goes = λ n f. (f.0, s.goes n f.1);
      faulty = λ fault a f. inr (f.0, s.faulty fault a f.1);
    }

marks_fine : (ps : List Part) (k : ℕ) (x : Written (form_of ps)) → FineTo (marks ps) ps k x
marks_fine [] k x = tt
marks_fine (Minus ∷ []) k x = refl
marks_fine (Minus ∷ q ∷ ps) k x = (refl, marks_fine (q ∷ ps) _ x.1)
marks_fine (Slash ∷ []) k x = refl
marks_fine (Slash ∷ q ∷ ps) k x = (refl, marks_fine (q ∷ ps) _ x.1)
marks_fine (p ∷ ps) k x = tt

fine_after : (ps : List Part) (i k : ℕ) (x : Written (form_of ps)) → FineTo (suc i) ps k x → FineTo (after ps i) ps k x
fine_after [] i k x f = tt
fine_after (p ∷ []) zero k x f = f
fine_after (p ∷ []) (suc i) k x f = f
fine_after (p ∷ q ∷ ps) zero k x f = (f.0, marks_fine (q ∷ ps) _ x.1)
fine_after (p ∷ q ∷ ps) (suc i) k x f = (f.0, fine_after (q ∷ ps) i _ x.1 f.1)

all_fine : (ps : List Part) (k : ℕ) (x : Written (form_of ps)) → FineTo (length ps) ps k x → AreFine ps k x
all_fine [] k x f = tt
all_fine (p ∷ []) k x f = f
all_fine (p ∷ q ∷ ps) k x f = (f.0, all_fine (q ∷ ps) _ x.1 f.1)

found : (p : Part) (name : List ℕ) (ps : List Part) (places : List ℕ) (words : Words) (i : ℕ) → IsNext p name ps places words i
    → (h : AreCut name ps places words) → IsPartAt p ps i 0 1 places words h.parts
found p name ps places words i next h =
    subst (λ q. IsPartAt q ps i 0 1 places words h.parts) next.is (part_at ps i 0 1 places words h.parts (ltb-true i (length ps) next.within))

offends_said : (name : List ℕ) (ps : List Part) (x : Written (form_of ps)) → command_offends name ps (said_of name ps x) ≡ parts_offend ps 1 x
offends_said name [] x = refl
offends_said name (p ∷ ps) x = refl

-- let words be the name and the parts of an entry. A fault that reports the first error of the parts is a correct refusal.
refused_as : (o : Option Entry) (name : List ℕ) (ps : List Part) (places : List ℕ) (words : Words) → HasParts o name ps
    → (h : AreCut name ps places words) (fault : WordsFault)
    → IsFirst (first_offence (parts_offend ps 1 (written_of ps 0 1 places words h.parts))) fault → IsRefusalAs o words fault
refused_as None name ps places words p h fault f = absurd p
refused_as (Some e) name ps places words p h fault f =
    subst (λ (j : (g : Form) × (Written g → List Offence)).
    (says : Written j.0 → Command) → IsRefusal (record { name = e.name; form = j.0; says = says; offends = j.1 } ∷ []) words fault) (sym p)
    (λ says. first_refused (record { name = e.name; form = command_form name ps; says = says; offends = command_offends name ps }) words (has_of name ps places words h) fault
    (subst (λ os. IsFirst (first_offence os) fault) (sym (offends_said name ps (written_of ps 0 1 places words h.parts))) f))
    e.says

-- a refusal that is correct for each entry with the form of the name and the parts is correct for the entry with these parts
pub wrong_as : {A : Type 0} (o : Option Entry) (name : List ℕ) (ps : List Part) (words : Words) (r : Result A WordsFault) → HasParts o name ps
    → IfErr r (λ fault. (e : Entry) → e.form ≡ command_form name ps → IsRefusal (e ∷ []) words fault) → IfErr r (λ fault. IsRefusalAs o words fault)
wrong_as o name ps words (Ok x) p h = tt
wrong_as None name ps words (Err fault) p h = absurd p
wrong_as (Some e) name ps words (Err fault) p h = h e (ap (λ j. j.0) p)

-- let part i be the next part. If a result is correct for what its words denote and for its first error (`IsJudged`), it is a correct result of reading
-- the part.
pub part_read : (p : Part) {V : Type 0} (said : Written (form_of_part p) → V) (name : List ℕ) (ps : List Part) (places : List ℕ) (words : Words) (i : ℕ)
    → IsNext p name ps places words i → (r : Result V WordsFault)
    → ((k : ℕ) (x : Written (form_of_part p)) → May (form_of_part p) x → IsPiece places words i k (words_of (form_of_part p) x)
    → IsJudged (λ v. v ≡ said x) (first_offence (part_offends p k x)) r)
    → IsPartRead p said name ps places words i r
part_read p said name ps places words i next (Ok v) judged = record {
  fine = record {
    fine = λ h.
        let part = found p name ps places words i next h in
        fine_after ps i 1 (written_of ps 0 1 places words h.parts)
        (part.goes (judged part.at part.written part.allowed (part.piece i (omega arith))).1 (next.fine.fine h));
  };
  value = λ k x m q. (judged k x m q).0;
}
part_read p said name ps places words i next (Err fault) judged =
    let h = next.cut in
    let part = found p name ps places words i next h in
    refused_as (entry_named name all_entries) name ps places words next.named h fault
    (parts_faulty ps 1 (written_of ps 0 1 places words h.parts) fault next.bounded
    (part.faulty fault (judged part.at part.written part.allowed (part.piece i (omega arith))) (next.fine.fine h)))

-- if the words are divided into the parts of an entry and no part has an error, they spell the command that the values of the parts spell. The
-- readers here need no more of a command: there is no condition on it (`IsSound`).
pub all_read : (e : Entry) {name : List ℕ} {ps : List Part} {places : List ℕ} {words : Words} (said : Command) (h : AreCut name ps places words)
    → AreFineTo name ps places words (length ps) → (says : Written (command_form name ps) → Command)
    → e ≡ record { name = name; form = command_form name ps; says = says; offends = command_offends name ps }
    → said ≡ says (said_of name ps (written_of ps 0 1 places words h.parts)) → SpellsWithoutOffence (e ∷ []) words said × Unit {0}
all_read e {name} {ps} {places} {words} said h f says q is =
    let x = written_of ps 0 1 places words h.parts in
    subst (λ (d : Entry). SpellsWithoutOffence (d ∷ []) words said × Unit {0}) (sym q) (
      inl (record {
        has = has_of name ps places words h;
        says_it = is;
        no_offence = ap first_offence (offends_said name ps x) ∙ parts_fine ps 1 x (all_fine ps 1 x (f.fine h));
      }),
      tt,
    )
