-- The lines of a source that have been read so far, if the source records its bytes. Pending bytes are bytes that were taken from the source and not
-- yet read.
use Rattle.std.proofs.Common.{◌≡◌, ℕ, Bool, true, false, ◌+◌, ◌<◌, ◌≤◌, List, [], ◌∷◌, ◌++◌, append_assoc, append-nil, length, length-append, refl, sym, ap, ◌∙◌, arith, Option, Some, None, ◌⊎◌, inl, inr}
use Rattle.batch_lines.proofs.Lines.{line_first, line_last, told}
use Rattle.batch_lines.specs.Feeds.{HasNoFeed}
use Rattle.batch_lines.specs.Reading.{Took, IsAtEnd, EndsAtFeed, EndsAtEnd, TookPart}
use Rattle.sym_model.specs.BatchLine.{lines_of}
use Rattle.calc_app.specs.Top.{IsInput, IsFrontOf, IsWholeLines}

-- the text `front` ends at the end of a line: whatever text follows it, the lines are `lines`, followed by the lines of that text
abbrev pub IsEnded : List ℕ → List (List ℕ) → Type 0
IsEnded front lines = (text : List ℕ) → lines_of (front ++ text) ≡ lines ++ lines_of text

-- the text `front` has the lines `lines`; if the truth value (whether the source was found at its end) is false, `front` is empty or ends with a line
-- feed; if it is true, nothing follows `front` in the source
abbrev Stands : Bool → (front behind : List ℕ) → List (List ℕ) → Type 0
Stands false front behind lines = IsEnded front lines × IsWholeLines front
Stands true front behind lines = (behind ≡ []) × (lines_of front ≡ lines)

-- the lines `lines` of the input have been read, and the pending bytes and `rest` follow them in the input
pub record Reads (input rest : List ℕ) (lines : List (List ℕ)) (pending : List ℕ) (has_ended : Bool) : Type 0 where
  pub front : List ℕ
  pub cut : input ≡ front ++ (pending ++ rest)
  pub state : Stands has_ended front (pending ++ rest) lines

-- `Reads` for a source that may not record its bytes; whether it does is unchanged
abbrev pub ReadsTold : Option (List ℕ) → Option (List ℕ) → List (List ℕ) → List ℕ → Bool → Type 0
ReadsTold (Some input) (Some rest) lines pending has_ended = Reads input rest lines pending has_ended
ReadsTold (Some input) None lines pending has_ended = ⊥
ReadsTold None (Some rest) lines pending has_ended = ⊥
ReadsTold None None lines pending has_ended = Unit {0}

pub begin_read : (left : Option (List ℕ)) → ReadsTold left left [] [] false
begin_read None = tt
begin_read (Some input) = record { front = []; cut = refl; state = ((λ text. refl), inl refl) }

none_behind : (pending rest : List ℕ) → pending ++ rest ≡ [] → rest ≡ []
none_behind [] rest h = h
none_behind (b ∷ pending) rest h = cc

-- if lines were read of a source (`ReadsTold`), and it was found at its end, nothing is left in it
pub read_end : (left now : Option (List ℕ)) (lines : List (List ℕ)) (pending : List ℕ) (has_ended : Bool) → ReadsTold left now lines pending has_ended
    → IsAtEnd has_ended now
read_end left now lines pending false r = tt
read_end (Some input) (Some rest) lines pending true r = none_behind pending rest r.state.0
read_end (Some input) None lines pending true r = tt
read_end None (Some rest) lines pending true r = absurd r
read_end None None lines pending true r = tt

pub begin_spelled : IsEnded [] []
begin_spelled = λ text. refl

-- ---- the lines read so far, after one more line was read

-- the bytes `all` are `text`, a line feed and `behind`; or they are `text`, which is not empty, at the end of the source
abbrev pub EndsLine : Bool → (all text behind : List ℕ) → Option (List ℕ) → Type 0
EndsLine false all text behind now = EndsAtFeed all text behind
EndsLine true all text behind now = EndsAtEnd all text behind now × (0 < length text)

pub whole_more : (front line : List ℕ) → IsWholeLines (front ++ (line ++ 10 ∷ []))
whole_more front line = inr (front ++ line, sym (append_assoc front line (10 ∷ [])))

pub spelled_more : (spelled : List ℕ) (lines : List (List ℕ)) (line : List ℕ) → IsEnded spelled lines → HasNoFeed line
    → IsEnded (spelled ++ (line ++ 10 ∷ [])) (lines ++ line ∷ [])
spelled_more spelled lines line h n = λ text.
    ap lines_of (append_assoc spelled (line ++ 10 ∷ []) text ∙ ap (λ t. spelled ++ t) (append_assoc line (10 ∷ []) text))
    ∙ h (line ++ 10 ∷ text)
    ∙ ap (λ ls. lines ++ ls) (line_first line text n)
    ∙ sym (append_assoc lines (line ∷ []) (lines_of text))

not_empty : (text : List ℕ) (byte : ℕ) (more : List ℕ) → text ++ byte ∷ more ≡ [] → ⊥
not_empty [] byte more h = cc
not_empty (b ∷ text) byte more h = cc

at_feed : (input all rest taken pending text behind : List ℕ) (lines : List (List ℕ)) (had : Bool) → Reads input all lines pending had → all ≡ taken ++ rest
    → HasNoFeed text → EndsAtFeed (pending ++ taken) text behind → Reads input rest (lines ++ text ∷ []) behind false
at_feed input all rest taken pending text behind lines had r a n e =
    let bytes : pending ++ all ≡ text ++ 10 ∷ (behind ++ rest) =
    ap (λ t. pending ++ t) a ∙ sym (append_assoc pending taken rest) ∙ ap (λ t. t ++ rest) e ∙ append_assoc text (10 ∷ behind) rest in
    record {
      front = r.front ++ (text ++ 10 ∷ []);
      cut =
          r.cut ∙ ap (λ t. r.front ++ t) (bytes ∙ sym (append_assoc text (10 ∷ []) (behind ++ rest)))
          ∙ sym (append_assoc r.front (text ++ 10 ∷ []) (behind ++ rest));
      state = by had bytes r.state;
    }
  where
    by : (had : Bool) → pending ++ all ≡ text ++ 10 ∷ (behind ++ rest) → Stands had r.front (pending ++ all) lines
        → Stands false (r.front ++ (text ++ 10 ∷ [])) (behind ++ rest) (lines ++ text ∷ [])
    by false bytes s = (spelled_more r.front lines text s.0 n, whole_more r.front text)
    by true bytes s = absurd (not_empty text 10 (behind ++ rest) (sym bytes ∙ s.0))

at_end : (input all rest taken pending text behind : List ℕ) (lines : List (List ℕ)) (had : Bool) → Reads input all lines pending had → all ≡ taken ++ rest
    → HasNoFeed text → EndsAtEnd (pending ++ taken) text behind (Some rest) → 0 < length text → Reads input rest (lines ++ text ∷ []) behind true
at_end input all rest taken pending text behind lines had r a n e positive =
    let bytes : pending ++ all ≡ text =
    ap (λ t. pending ++ t) (a ∙ ap (λ t. taken ++ t) e.none_left ∙ append-nil taken) ∙ e.whole in
    let none : behind ++ rest ≡ [] = ap (λ t. t ++ rest) e.none_pending ∙ e.none_left in
    record {
      front = r.front ++ text;
      cut = r.cut ∙ ap (λ t. r.front ++ t) bytes ∙ sym (append-nil (r.front ++ text)) ∙ ap (λ t. (r.front ++ text) ++ t) (sym none);
      state = (none, by had bytes r.state);
    }
  where
    by : (had : Bool) → pending ++ all ≡ text → Stands had r.front (pending ++ all) lines → lines_of (r.front ++ text) ≡ lines ++ text ∷ []
    by false bytes s = s.0 text ∙ ap (λ ls. lines ++ ls) (line_last text n positive)
    by true bytes s = let l = ap length (sym bytes ∙ s.0) in absurd (omega (arith, l, positive))

pub read_more : (left before now : Option (List ℕ)) (taken pending text behind : List ℕ) (lines : List (List ℕ)) (had has : Bool)
    → ReadsTold left before lines pending had → Took before now taken → HasNoFeed text → EndsLine has (pending ++ taken) text behind now
    → ReadsTold left now (lines ++ text ∷ []) behind has
read_more (Some input) (Some all) (Some rest) taken pending text behind lines had false r took n e =
    at_feed input all rest taken pending text behind lines had r (told all rest taken took) n e
read_more (Some input) (Some all) (Some rest) taken pending text behind lines had true r took n e =
    at_end input all rest taken pending text behind lines had r (told all rest taken took) n e.0 e.1
read_more (Some input) (Some all) None taken pending text behind lines had has r took n e = cc
read_more (Some input) None now taken pending text behind lines had has r took n e = absurd r
read_more None None None taken pending text behind lines had has r took n e = tt
read_more None None (Some rest) taken pending text behind lines had has r took n e = cc
read_more None (Some all) now taken pending text behind lines had has r took n e = absurd r

-- after a line was read, fewer bytes are left to be read; the bytes that are left are the pending ones and those that the source may still give
pub fewer_left : (allowance less : ℕ) (taken pending text behind : List ℕ) (now : Option (List ℕ)) (has : Bool) → less + length taken ≤ allowance
    → EndsLine has (pending ++ taken) text behind now → less + length behind < allowance + length pending
fewer_left allowance less taken pending text behind now false spent e =
    let l = ap length e in let p = length-append pending taken in let t = length-append text (10 ∷ behind) in
    omega (arith, l, p, t, spent)
fewer_left allowance less taken pending text behind now true spent e =
    let l = ap length e.0.whole in let p = length-append pending taken in let b = ap length e.0.none_pending in let positive = e.1 in
    omega (arith, l, p, b, positive, spent)

-- ---- all lines of the source were read

front_lines : (front : List ℕ) (lines : List (List ℕ)) → IsEnded front lines → lines_of front ≡ lines
front_lines front lines h = ap lines_of (sym (append-nil front)) ∙ h [] ∙ append-nil lines

-- an input whose lines are `lines`; it is all that the source had left, if the source records that
pub record Whole (left : Option (List ℕ)) (lines : List (List ℕ)) : Type 0 where
  pub input : List ℕ
  pub is_input : IsInput left input
  pub are : lines_of input ≡ lines

whole_told : (input all : List ℕ) (lines : List (List ℕ)) (pending : List ℕ) (had : Bool) → Reads input all lines pending had → pending ++ all ≡ []
    → lines_of input ≡ lines
whole_told input all lines pending had r none =
    ap lines_of (r.cut ∙ ap (λ t. r.front ++ t) none ∙ append-nil r.front) ∙ by had r.state
  where
    by : (had : Bool) → Stands had r.front (pending ++ all) lines → lines_of r.front ≡ lines
    by false s = front_lines r.front lines s.0
    by true s = s.1

pub read_whole : (left before now : Option (List ℕ)) (taken pending behind spelled : List ℕ) (lines : List (List ℕ)) (had : Bool)
    → ReadsTold left before lines pending had → IsEnded spelled lines → Took before now taken → EndsAtEnd (pending ++ taken) [] behind now → Whole left lines
read_whole (Some input) (Some all) (Some rest) taken pending behind spelled lines had r ended took e = record {
  input = input;
  is_input = refl;
  are = whole_told input all lines pending had r
      (ap (λ t. pending ++ t) (told all rest taken took ∙ ap (λ t. taken ++ t) e.none_left ∙ append-nil taken) ∙ e.whole);
}
read_whole (Some input) (Some all) None taken pending behind spelled lines had r ended took e = cc
read_whole (Some input) None now taken pending behind spelled lines had r ended took e = absurd r
read_whole None before now taken pending behind spelled lines had r ended took e =
    record { input = spelled; is_input = tt; are = front_lines spelled lines ended }

-- ---- the first lines of the source were read

front_told : (input rest : List ℕ) (lines : List (List ℕ)) (pending : List ℕ) (had : Bool) → (r : Reads input rest lines pending had)
    → (lines_of r.front ≡ lines) × (more : List (List ℕ)) × (lines_of input ≡ lines_of r.front ++ more)
front_told input rest lines pending had r = by had r.state
  where
    by : (had : Bool) → Stands had r.front (pending ++ rest) lines
        → (lines_of r.front ≡ lines) × (more : List (List ℕ)) × (lines_of input ≡ lines_of r.front ++ more)
    by false s =
        let are = front_lines r.front lines s.0 in
        (are, lines_of (pending ++ rest), ap lines_of r.cut ∙ s.0 (pending ++ rest) ∙ ap (λ ls. ls ++ lines_of (pending ++ rest)) (sym are))
    by true s =
        (s.1, [], ap lines_of (r.cut ∙ ap (λ t. r.front ++ t) s.0 ∙ append-nil r.front) ∙ sym (append-nil (lines_of r.front)))

-- `front` is the text of the first lines `lines` of the source, each of which ends within the bytes read, and `piece` was read after it
pub record Cut (left now : Option (List ℕ)) (lines : List (List ℕ)) (piece : List ℕ) : Type 0 where
  pub front : List ℕ
  pub took : Took left now (front ++ piece)
  pub is_ended : IsWholeLines front ⊎ (now ≡ Some [])
  pub is_front : IsFrontOf left front
  pub are : lines_of front ≡ lines

pub read_cut : (left before now : Option (List ℕ)) (taken pending spelled : List ℕ) (lines : List (List ℕ)) (had : Bool)
    → ReadsTold left before lines pending had → IsEnded spelled lines → IsWholeLines spelled → Took before now taken
    → Cut left now lines (pending ++ taken)
read_cut (Some input) (Some all) (Some rest) taken pending spelled lines had r ended whole took =
    let f = front_told input all lines pending had r in
    let bytes = told all rest taken took in
    record {
      front = r.front;
      took =
          ap Some (r.cut ∙ ap (λ xs. r.front ++ (pending ++ xs)) bytes
          ∙ ap (λ xs. r.front ++ xs) (sym (append_assoc pending taken rest)) ∙ sym (append_assoc r.front (pending ++ taken) rest));
      is_ended = by had bytes r.state;
      is_front = (f.1, f.2);
      are = f.0;
    }
  where
    by : (had : Bool) → all ≡ taken ++ rest → Stands had r.front (pending ++ all) lines → IsWholeLines r.front ⊎ (◌≡◌ {A = Option (List ℕ)} (Some rest) (Some []))
    by false bytes s = inl s.1
    by true bytes s = inr (ap Some (none_behind taken rest (sym bytes ∙ none_behind pending all s.0)))
read_cut (Some input) (Some all) None taken pending spelled lines had r ended whole took = cc
read_cut (Some input) None now taken pending spelled lines had r ended whole took = absurd r
read_cut None None None taken pending spelled lines had r ended whole took =
    record { front = spelled; took = refl; is_ended = inl whole; is_front = tt; are = front_lines spelled lines ended }
read_cut None None (Some rest) taken pending spelled lines had r ended whole took = cc
read_cut None (Some all) now taken pending spelled lines had r ended whole took = absurd r

-- `front` is the text of the first lines `lines` of the source, and `piece`, which has no line feed, was read after it
pub record Part (left now : Option (List ℕ)) (lines : List (List ℕ)) : Type 0 where
  pub front : List ℕ
  pub piece : List ℕ
  pub took : Took left now (front ++ piece)
  pub no_feed : HasNoFeed piece
  pub is_whole : IsWholeLines front
  pub is_front : IsFrontOf left front
  pub are : lines_of front ≡ lines

pub read_part : (left before now : Option (List ℕ)) (pending spelled : List ℕ) (lines : List (List ℕ)) → ReadsTold left before lines pending false → IsEnded spelled lines
    → IsWholeLines spelled → TookPart before now pending → Part left now lines
read_part (Some input) (Some all) (Some rest) pending spelled lines r ended whole t =
    let f = front_told input all lines pending false r in
    record {
      front = r.front;
      piece = pending ++ t.taken;
      took =
          ap Some (r.cut ∙ ap (λ xs. r.front ++ (pending ++ xs)) (told all rest t.taken t.took)
          ∙ ap (λ xs. r.front ++ xs) (sym (append_assoc pending t.taken rest)) ∙ sym (append_assoc r.front (pending ++ t.taken) rest));
      no_feed = t.no_feed;
      is_whole = r.state.1;
      is_front = (f.1, f.2);
      are = f.0;
    }
read_part (Some input) (Some all) None pending spelled lines r ended whole t = let clash = t.took in cc
read_part (Some input) None now pending spelled lines r ended whole t = absurd r
read_part None None None pending spelled lines r ended whole t =
    record { front = spelled; piece = []; took = refl; no_feed = tt; is_whole = whole; is_front = tt; are = front_lines spelled lines ended }
read_part None None (Some rest) pending spelled lines r ended whole t = let clash = t.took in cc
read_part None (Some all) now pending spelled lines r ended whole t = absurd r
