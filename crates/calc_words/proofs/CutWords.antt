-- Words that are divided into the parts of a command, one part after another.
use Rattle.std.proofs.lemmas.Grind.{common_steps}
use Rattle.std.proofs.Common.{◌≡◌, ℕ, ◌+◌, ◌-◌, ◌<◌, ◌≤◌, true, List, [], ◌∷◌, ◌++◌, map, take, drop, length, length-append, refl, sym, ap, ◌∙◌, subst, arith, inr}
use Rattle.std.specs.Prelude.{slice_index_or}
use Rattle.std.proofs.lemmas.Bool.{and_parts, and_from}
use Rattle.std.proofs.lemmas.List.{length-map, length-drop, length-set, take-map, drop-map, get_or-set_same, get_or-set_other}
use Rattle.std.proofs.Math.ListN.{set, drop_of_length-le}
use Rattle.std.proofs.Math.Numerals.{suc-eq-add-one}
use Rattle.std.proofs.Math.Seq.{drop-cons, take-length, take-append_seam, drop-append_seam, drop-drop}
use Rattle.sym_model.specs.Entry.{Entry}
use Rattle.sym_model.specs.Form.{Form, empty, word, formula, can_be}
use Rattle.sym_model.specs.LongestPrefix.{IsLongestPrefix}
use Rattle.sym_model.specs.Phrase.{Phrase, SpellsPhrase, BeginsExpression}
use Rattle.sym_model.specs.SyntaxPlace.{IsSyntaxPlace}
use Rattle.sym_model.specs.WordForms.{the}
use Rattle.word_laws.specs.OneReading.{are_apart, firsts, continuing}
use Rattle.word_laws.specs.Words.{Words}
use Rattle.word_laws.proofs.Cuts.{IsTaken, StopsIn, IsByte, IsWrongAt, IsSettled, none_awaited, plain_byte, wrong_at_right, wrong_at_left, wrong_at_end, left_over_at, wrong_place, expression_byte}
use Rattle.word_laws.proofs.CutParts.{the_taken, the_wrong, expression_wrong}
use Rattle.expression_reading.specs.Reading.{IsWrongByte}
use Rattle.calc_base.specs.declared.words.WordsFault.{WordsFault}
use Rattle.calc_base.specs.declared.words.WordsFault.TheVariants.{Syntax}
use Rattle.calc_words.specs.Cutting.{Takes}
use Rattle.calc_words.specs.NumberRuns.{BeginsOtherwise}
use Rattle.calc_words.specs.Parts.{form_of_part, form_of, command_form, is_clear, IsPiece, IsCut, IsCutTo, IsUnread, AreCut}
use Rattle.calc_words.specs.Reading.{IsRefusal}
use Rattle.calc_words.specs.declared.word_parts.Part.{Part}
use Rattle.calc_words.specs.declared.word_parts.Part.TheVariants.{Expression}

pub counted : {A : Type 0} (f : A → List ℕ) (g : Form) (words : List A) → StopsIn g (map f words) (length (map f words)) → StopsIn g (map f words) (length words)
counted f g words w = subst (StopsIn g (map f words)) (length-map words f) w

pub empty_map : {A : Type 0} (f : A → List ℕ) (xs : List A) → length xs ≡ 0 → map f xs ≡ []
empty_map f [] h = refl
empty_map f (x ∷ xs) h = absurd (omega (arith, h))

pub first_text : (t u : List ℕ) (ts us : Words) → t ∷ ts ≡ u ∷ us → t ≡ u
first_text t u ts us e = cc

can_be_part : (p : Part) → can_be (form_of_part p) ≡ true
can_be_part Expression = refl
can_be_part p = refl

can_be_parts : (ps : List Part) → can_be (form_of ps) ≡ true
can_be_parts [] = refl
can_be_parts (p ∷ []) = can_be_part p
can_be_parts (p ∷ q ∷ ps) = and_from (can_be (form_of_part p)) (can_be (form_of (q ∷ ps))) (can_be_part p) (can_be_parts (q ∷ ps))

settled : (p : Part) (piece rest words : Words) → IsTaken (form_of_part p) piece rest words → IsSettled (form_of_part p) piece
settled Expression piece rest words t us a = let k = sym (ap (λ ws. ws ++ us) t.piece_is) ∙ a in cc
settled p piece rest words t us a = none_awaited (form_of_part p) (piece ++ us) refl a

-- ---- the division of words into parts, one part after another

part_apart : (p q : Part) (ps : List Part) → is_clear (p ∷ q ∷ ps) ≡ true → are_apart (continuing (form_of_part p)) (firsts (form_of (q ∷ ps))) ≡ true
part_apart p q ps h = (and_parts (are_apart (continuing (form_of_part p)) (firsts (form_of (q ∷ ps)))) (is_clear (q ∷ ps)) h).0

goes_behind : (p : Part) (ps : List Part) (piece rest words : Words) (left byte : ℕ) → is_clear (p ∷ ps) ≡ true
    → IsTaken (form_of_part p) piece rest words → IsWrongAt (form_of ps) rest left byte → IsWrongAt (form_of (p ∷ ps)) words left byte
goes_behind p [] piece rest words left byte h t w =
    left_over_at (form_of_part p) piece rest words left byte t (settled p piece rest words t) w
goes_behind p (q ∷ ps) piece rest words left byte h t w =
    wrong_at_right (form_of_part p) (form_of (q ∷ ps)) piece rest words left byte (part_apart p q ps h) t (settled p piece rest words t) w

goes_here : (p : Part) (ps : List Part) (words : Words) (left byte : ℕ) → is_clear (p ∷ ps) ≡ true → (w : StopsIn (form_of_part p) words left)
    → IsByte (form_of_part p) w.0.before w.0.after byte → IsWrongAt (form_of (p ∷ ps)) words left byte
goes_here p [] words left byte h w b = (w.0, b)
goes_here p (q ∷ ps) words left byte h w b =
    wrong_at_left (form_of_part p) (form_of (q ∷ ps)) words left byte (part_apart p q ps h) (can_be_parts (q ∷ ps)) w b

parts_left : (parts : List Part) (i : ℕ) (d : Part) → i < length parts → drop i parts ≡ slice_index_or parts i d ∷ drop (i + 1) parts
parts_left parts i d l = drop-cons parts i d l ∙ ap (λ n. slice_index_or parts i d ∷ drop n parts) (suc-eq-add-one i)

pub dropped : (words piece rest : Words) (at n : ℕ) → drop at words ≡ piece ++ rest → n ≡ length piece → drop (at + n) words ≡ rest
dropped words piece rest at n e k =
    sym (drop-drop n at words) ∙ ap (drop n) e ∙ ap (λ m. drop m (piece ++ rest)) k ∙ drop-append_seam piece rest

cut_next : (parts : List Part) (i at n : ℕ) (places : List ℕ) (words : Words) (p : Part) → IsCutTo parts i at places words
    → drop i parts ≡ p ∷ drop (i + 1) parts → i < length parts → length parts ≤ 5 → Takes (form_of_part p) (drop at words) n
    → IsCutTo parts (i + 1) (at + n) (set places (i + 1) (at + n)) words
cut_next parts i at n places words p s all l five (piece, rest, t, count) =
    let clear = sym (ap is_clear all) ∙ s.clear in
    let room : i + 1 < length places = let m = s.six in omega (arith, m, l, five) in
    let behind = dropped words piece rest at n t.words_are count in
    let same = get_or-set_same places (i + 1) (at + n) 0 room in
    record {
      within =
          let a = ap length t.words_are in
          let b = length-append piece rest in
          let c = length-drop at words in
          let w = s.within in
          omega (arith, a, b, c, w, count);
      six = length-set places (i + 1) (at + n) ∙ s.six;
      here = same;
      clear = (and_parts (are_apart (continuing (form_of_part p)) (firsts (form_of (drop (i + 1) parts)))) (is_clear (drop (i + 1) parts)) clear).1;
      goes = λ left byte w.
          s.goes left byte
          (subst (λ ps. IsWrongAt (form_of ps) (drop at words) left byte) (sym all)
          (goes_behind p (drop (i + 1) parts) piece rest (drop at words) left byte clear t
          (subst (λ us. IsWrongAt (form_of (drop (i + 1) parts)) us left byte) behind w)));
      cut = λ q a h.
          s.cut q (λ j k. a j (omega (arith, k)) ∙ get_or-set_other places (i + 1) j (at + n) 0 (λ e. omega (arith, e, k)))
          (subst (λ ps. IsCut ps i at q words) (sym all) (
            t.written,
            t.allowed,
            (
              a i (omega arith) ∙ get_or-set_other places (i + 1) i (at + n) 0 (λ e. omega (arith, e)) ∙ s.here,
              a (i + 1) (omega arith) ∙ same ∙ ap (λ m. at + m) (count ∙ ap length t.piece_is),
              s.within,
              rest,
              t.words_are ∙ ap (λ us. us ++ rest) t.piece_is,
            ),
            subst (λ m. IsCut (drop (i + 1) parts) (i + 1) (at + m) q words) (count ∙ ap length t.piece_is) h,
          ));
    }

from_there : {A : Type 0} (f : A → List ℕ) (words : List A) (at : ℕ) → map f (take (length words - at) (drop at words)) ≡ drop at (map f words)
from_there f words at =
    ap (λ n. map f (take n (drop at words))) (sym (length-drop at words)) ∙ ap (map f) (take-length (drop at words)) ∙ sym (drop-map f at words)

pub cut_goes_on : {A : Type 0} (f : A → List ℕ) (parts : List Part) (i at n : ℕ) (places : List ℕ) (words : List A) (d : Part)
    → IsCutTo parts i at places (map f words) → i < length parts → length parts ≤ 5
    → Takes (form_of_part (slice_index_or parts i d)) (map f (take (length words - at) (drop at words))) n
    → IsCutTo parts (i + 1) (at + n) (set places (i + 1) (at + n)) (map f words)
cut_goes_on f parts i at n places words d s l five t =
    cut_next parts i at n places (map f words) (slice_index_or parts i d) s (parts_left parts i d l) l five
    (subst (λ us. Takes (form_of_part (slice_index_or parts i d)) us n) (from_there f words at) t)

pub cut_stops : {A : Type 0} (f : A → List ℕ) (parts : List Part) (i at left byte : ℕ) (places : List ℕ) (words : List A) (d : Part)
    → IsCutTo parts i at places (map f words) → i < length parts
    → (w : StopsIn (form_of_part (slice_index_or parts i d)) (map f (take (length words - at) (drop at words))) left)
    → IsByte (form_of_part (slice_index_or parts i d)) w.0.before w.0.after byte → IsWrongAt (form_of parts) (drop 1 (map f words)) left byte
cut_stops f parts i at left byte places words d s l w b =
    let p = slice_index_or parts i d in
    let all = parts_left parts i d l in
    s.goes left byte
    (subst (λ ps. IsWrongAt (form_of ps) (drop at (map f words)) left byte) (sym all)
    (subst (λ us. IsWrongAt (form_of (p ∷ drop (i + 1) parts)) us left byte) (from_there f words at)
    (goes_here p (drop (i + 1) parts) (map f (take (length words - at) (drop at words))) left byte (sym (ap is_clear all) ∙ s.clear) w b)))

pub cut_left : (parts : List Part) (i at left : ℕ) (places : List ℕ) (words : Words) → IsCutTo parts i at places words → length parts ≤ i
    → left ≡ length words - at → at < length words → IsWrongAt (form_of parts) (drop 1 words) left 0
cut_left parts i at left places words s l e h =
    let k = length-drop at words in
    s.goes left 0
    (subst (λ ps. IsWrongAt (form_of ps) (drop at words) left 0) (sym (drop_of_length-le parts l))
    (subst (λ n. IsWrongAt empty (drop at words) n 0) (k ∙ sym e) (wrong_at_end (drop at words) (omega (arith, k, h)))))

pub cut_done : (parts : List Part) (i at : ℕ) (places : List ℕ) (words : Words) → IsCutTo parts i at places words → length parts ≤ i → length words ≤ at
    → IsCut parts 0 1 places words
cut_done parts i at places words s l e =
    s.cut places (λ j k. refl) (subst (λ ps. IsCut ps i at places words) (sym (drop_of_length-le parts l)) (drop_of_length-le words e))

refused : (e : Entry) (name : List ℕ) (ps : List Part) (words : Words) (left byte place : ℕ) (fault : WordsFault) → e.form ≡ command_form name ps
    → IsWrongAt (command_form name ps) words left byte → place ≡ length words - left → fault ≡ Syntax (record { word = place; byte = byte })
    → IsRefusal (e ∷ []) words fault
refused e name ps words left byte place fault f w k h =
    subst (IsRefusal (e ∷ []) words) (sym h)
    (subst (λ n. IsSyntaxPlace (e ∷ []) words n byte) (sym k)
    (wrong_place e words left byte (subst (λ g. IsWrongAt g words left byte) (sym f) w)))

pub name_refused : (e : Entry) (name : List ℕ) (ps : List Part) (words : Words) (fault : WordsFault) → e.form ≡ command_form name ps
    → BeginsOtherwise (λ t. t ≡ name) words → fault ≡ Syntax (record { word = 0; byte = 0 }) → IsRefusal (e ∷ []) words fault
name_refused e name ps words fault f b h =
    refused e name ps words (length words) 0 0 fault f (by ps) (omega arith) h
  where
    w : StopsIn (the name) words (length words)
    w = the_wrong name words b

    by : (ps : List Part) → IsWrongAt (command_form name ps) words (length words) 0
    by [] = (w.0, plain_byte (the name) w.0.before w.0.after refl)
    by (p ∷ ps) =
        wrong_at_left (the name) (form_of (p ∷ ps)) words (length words) 0 refl (can_be_parts (p ∷ ps)) w
        (plain_byte (the name) w.0.before w.0.after refl)

pub parts_refused : (e : Entry) (name : List ℕ) (ps : List Part) (words rest : Words) (left byte place : ℕ) (fault : WordsFault) → e.form ≡ command_form name ps
    → words ≡ name ∷ rest → IsWrongAt (form_of ps) (drop 1 words) left byte → place ≡ length words - left
    → fault ≡ Syntax (record { word = place; byte = byte }) → IsRefusal (e ∷ []) words fault
parts_refused e name ps words rest left byte place fault f n w k h =
    refused e name ps words left byte place fault f (by ps (subst (λ us. IsWrongAt (form_of ps) us left byte) (ap (drop 1) n) w)) k h
  where
    taken : IsTaken (the name) (name ∷ []) rest words
    taken = the_taken name (name ∷ []) rest words refl n

    awaited : IsSettled (the name) (name ∷ [])
    awaited us a = absurd a

    by : (ps : List Part) → IsWrongAt (form_of ps) rest left byte → IsWrongAt (command_form name ps) words left byte
    by [] w = left_over_at (the name) (name ∷ []) rest words left byte taken awaited w
    by (p ∷ ps) w = wrong_at_right (the name) (form_of (p ∷ ps)) (name ∷ []) rest words left byte refl taken awaited w

-- ---- words of a command whose last part is one word for an expression, which is not tested here

pub some_part : (ps : List Part) → drop (length ps - 1) ps ≡ Expression ∷ [] → 0 < length ps
some_part [] e = cc
some_part (p ∷ ps) e = omega arith

one_word : (ws : Words) → length ws ≡ 1 → (t : List ℕ) × (ws ≡ t ∷ [])
one_word [] h = absurd (omega (arith, h))
one_word (t ∷ []) h = (t, refl)
one_word (t ∷ u ∷ ws) h = absurd (omega (arith, h))

pub unread : (name : List ℕ) (ps : List Part) (at : ℕ) (places : List ℕ) (words : Words) → IsCutTo ps (length ps - 1) at places words
    → drop (length ps - 1) ps ≡ Expression ∷ [] → length ps ≤ 5 → words ≡ name ∷ drop 1 words → at + 1 ≡ length words
    → IsUnread name ps (set places (length ps - 1 + 1) (length words)) words
unread name ps at places words s all five n one = record { at = at; text = t; piece = piece; spelled = spelled; wrong = wrong }
  where
    i : ℕ
    i = length ps - 1

    q : List ℕ
    q = set places (length ps - 1 + 1) (length words)

    last : (t : List ℕ) × (drop at words ≡ t ∷ [])
    last = one_word (drop at words) (let l = length-drop at words in omega (arith, l, one))

    t : List ℕ
    t = last.0

    piece : IsPiece (set places (length ps - 1 + 1) (length words)) words (length ps - 1) at (t ∷ [])
    piece = (
      get_or-set_other places (length ps - 1 + 1) (length ps - 1) (length words) 0 (λ e. omega (arith, e)) ∙ s.here,
      get_or-set_same places (length ps - 1 + 1) (length words) 0 (let m = s.six in omega (arith, m, five)) ∙ sym one,
      s.within,
      [],
      last.1,
    )

    spelled : (f : Phrase) → SpellsPhrase t f → AreCut name ps (set places (length ps - 1 + 1) (length words)) words
    spelled f p = record {
      named = n;
      parts =
          s.cut q (λ j k. get_or-set_other places (length ps - 1 + 1) j (length words) 0 (λ e. omega (arith, e, k)))
          (subst (λ ps. IsCut ps i at q words) (sym all) (
            f,
            p.allowed,
            subst (λ v. IsPiece q words i at (v ∷ [])) p.spelled piece,
            dropped words (t ∷ []) [] at 1 last.1 refl,
          ));
    }

    wrong : (byte : ℕ) → IsWrongByte t byte → (e : Entry) → e.form ≡ command_form name ps → IsSyntaxPlace (e ∷ []) words at byte
    wrong byte w e f =
        let stops : StopsIn (word formula) (t ∷ []) 1 = expression_wrong (t ∷ []) (λ p. w.0 p.0 p.1) in
        let here = expression_byte (t ∷ []) 1 byte stops (λ u rest k. inr (subst (λ v. IsLongestPrefix BeginsExpression v byte) (first_text t u [] rest k) w.1))
        (λ k. let z = k in cc) in
        parts_refused e name ps words (drop 1 words) 1 byte at (Syntax (record { word = at; byte = byte })) f n
        (s.goes 1 byte
        (subst (λ ps. IsWrongAt (form_of ps) (drop at words) 1 byte) (sym all)
        (subst (λ us. IsWrongAt (word formula) us 1 byte) (sym last.1) (stops.0, here))))
        (omega (arith, one)) refl

pub left_within : {A : Type 0} (f : A → List ℕ) (g : Form) (words : List A) (left byte : ℕ) → IsWrongAt g (drop 1 (map f words)) left byte → left ≤ length words
left_within f g words left byte (w, b) = grind (arith, common_steps)

-- let `us` be part i of the texts of `words` (f gives the text of a word), and let `at` and `end` be the entries i and i + 1 of `places`. Then `us`
-- are the texts of the words from index `at` on and before index `end`
pub piece_is : {A : Type 0} (f : A → List ℕ) (words : List A) (places : List ℕ) (i k at end : ℕ) (us : Words) → IsPiece places (map f words) i k us
    → slice_index_or places i 0 ≡ at → slice_index_or places (i + 1) 0 ≡ end
    → (at ≤ end) × (end ≤ length words) × (at ≡ k) × (map f (take (end - at) (drop at words)) ≡ us)
piece_is f words places i k at end us p a e =
    let b = ap length p.4 in
    let c = length-append us p.3 in
    let d = length-drop k (map f words) in
    let n = length-map words f in
    let w = p.2 in
    let x = p.0 in
    let y = p.1 in
    let same : at ≡ k = sym a ∙ x in
    let far : end ≡ k + length us = sym e ∙ y in (
      omega (arith, same, far),
      omega (arith, b, c, d, n, w, far),
      same,
      sym (take-map f (end - at) (drop at words))
          ∙ ap (take (end - at)) (sym (drop-map f at words) ∙ ap (λ m. drop m (map f words)) same ∙ p.4)
          ∙ ap (λ m. take m (us ++ p.3)) (omega (arith, same, far))
          ∙ take-append_seam us p.3,
    )
