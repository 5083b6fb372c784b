-- The program writes its text to a sink, and the C library copies the bytes of the sink to the caller's buffer if they fit. Here the clauses of the
-- contract of `run`, which are stated for the sink, are carried over to the bytes in the buffer.
use Rattle.std.proofs.Common.{◌≡◌, ◌≤◌, ◌⊎◌, zero, suc, Option, [], ◌∷◌, Some, ℕ, List, length, take, subst, sym, ◌∙◌, ap, inl, inr, refl, arith}
use Rattle.calc_app.proofs.Outcomes.{answers_as, cut_answers}
use Rattle.calc_app.specs.Top.{PrintsAnswerTo, PrintsLines, PutsWhole, Leaves, IsOutcome, RunsLines, AnswersWords, IsThrough}
use Rattle.calc_base.proofs.PutsLaws.{Appends-told}
use Rattle.calc_base.specs.Growing.{Growing, growing_seen}
use Rattle.calc_base.specs.Sink.{Appends, IsPrefix}
use Rattle.calc_base.specs.Source.{SourceSeen}
use Rattle.calc_base.specs.Status.{code_of}
use Rattle.calc_base.specs.declared.status.Status.{Status}
use Rattle.calc_base.specs.declared.status.Status.TheVariants as statuses
use Rattle.calc_c.specs.Calls.{slice_seen, IsLeft, IsTextOfFirst, StandsIn, status_left}
use Rattle.sym_model.specs.Ending.{Ending, done, some_refused, syntax, range, past}

pub answer_carried : (words : List (List ℕ)) (left : Option (List ℕ)) (before now text : List ℕ) → before ≡ [] → now ≡ text
    → PrintsAnswerTo words before left (Some now) → PrintsAnswerTo words [] left (Some text)
answer_carried words left before now text is_empty is_text prints =
    subst (λ (it : List ℕ). PrintsAnswerTo words [] left (Some it)) is_text
    (subst (λ (it : List ℕ). PrintsAnswerTo words it left (Some now)) is_empty prints)

pub lines_carried : (rest input before now text : List ℕ) → rest ≡ input → before ≡ [] → now ≡ text
    → PrintsLines before (Some rest) (Some now) → PrintsLines [] (Some input) (Some text)
lines_carried rest input before now text is_input is_empty is_text prints =
    subst (λ (it : List ℕ). PrintsLines [] (Some input) (Some it)) is_text
    (subst (λ (it : List ℕ). PrintsLines it (Some input) (Some now)) is_empty
    (subst (λ (it : List ℕ). PrintsLines before (Some it) (Some now)) is_input prints))

appended_bytes : (old new : Growing) (text : List ℕ) → old.bytes ≡ [] → Appends (growing_seen old) (growing_seen new) text → new.bytes ≡ text
appended_bytes old new text empty a = some_is (Appends-told {old = growing_seen old} {new = growing_seen new} [] a (ap Some empty))
  where
    some_is : ◌≡◌ {A = Option (List ℕ)} (Some new.bytes) (Some text) → new.bytes ≡ text
    some_is h = cc

-- let the sink be empty before the call, and let its bytes then be copied to the front of the buffer if they fit. If the clause `AnswersWords`
-- holds for the sink, it holds for the buffer: the line of a refusal, if there is one and it fits, is at the front of the buffer
pub answers_carried : (words : List (List ℕ)) (old new : Growing) (out : List ℕ) (needed : ℕ) (status : Status) → old.bytes ≡ []
    → (needed ≤ length out → take needed out ≡ new.bytes) → AnswersWords words (Appends (growing_seen old) (growing_seen new)) status
    → AnswersWords words (StandsIn needed out) status
answers_carried words old new out needed status empty front a =
    answers_as (Appends (growing_seen old) (growing_seen new)) (StandsIn needed out)
    (λ line put room. front room ∙ appended_bytes old new line empty put) a

whole_left : (words : List (List ℕ)) (input : List ℕ) (old new : Growing) (ending : Ending) → old.bytes ≡ []
    → PutsWhole (growing_seen old) (growing_seen new) (slice_seen input) (IsOutcome words) ending → IsOutcome words input new.bytes ending
whole_left words input old new ending empty l =
    subst (λ (text : List ℕ). IsOutcome words input text ending) (sym (appended_bytes old new l.text empty l.appended))
    (subst (λ (all : List ℕ). IsOutcome words all l.text ending) (sym l.is_input) l.outcome)

-- if the sink was empty before, the clause `Leaves` holds for it, and the status is not `SourceFault`, then the bytes of the sink are a text that a
-- call leaves (`IsLeft`)
pub left_text : (words : List (List ℕ)) (input : List ℕ) (old new : Growing) (now : SourceSeen) (Untouched : Type 0) (status : Status)
    → old.bytes ≡ [] → (Untouched → new.bytes ≡ []) → (status ≡ statuses.SourceFault → ⊥)
    → Leaves (growing_seen old) (growing_seen new) (slice_seen input) now Untouched (RunsLines words) (IsOutcome words) status
    → IsLeft words input new.bytes (status_left status (length new.bytes))
left_text words input old new now Untouched statuses.Done empty none ends l = whole_left words input old new done empty l
left_text words input old new now Untouched statuses.SomeRefused empty none ends l = (l.0, whole_left words input old new some_refused empty l.1)
left_text words input old new now Untouched statuses.Syntax empty none ends l = whole_left words input old new syntax empty l
left_text words input old new now Untouched statuses.Range empty none ends l = whole_left words input old new range empty l
left_text words input old new now Untouched statuses.Past empty none ends l = whole_left words input old new past empty l
left_text words input old new now Untouched statuses.SinkFault empty none ends l =
    by new.bytes (
      l.text,
      subst (λ (text : List ℕ). IsPrefix text l.text) (sym (appended_bytes old new l.appended.front empty l.appended.appends)) l.appended.is_prefix,
      record { front = l.front; is_front = l.is_front; ending = l.ending; outcome = l.outcome },
    )
  where
    by : (text : List ℕ) → (whole : List ℕ) × IsPrefix text whole × IsTextOfFirst words input whole
        → IsLeft words input text (status_left statuses.SinkFault (length text))
    by [] cut = inl refl
    by (byte ∷ text) cut = ((λ e. cc), cut)
left_text words input old new now Untouched statuses.SourceFault empty none ends l = absurd (ends refl)
left_text words input old new now Untouched statuses.NoMemory empty none ends (inl same) = inl (none same)
left_text words input old new now Untouched statuses.NoMemory empty none ends (inr l) = inr (
  l.0,
  subst (IsTextOfFirst words input) (sym (appended_bytes old new l.1.text empty l.1.appended))
      (record { front = l.1.front; is_front = l.1.is_front; ending = l.1.ending; outcome = l.1.outcome }),
)

-- a call tells the status of the run, unless it tells that memory ran out
pub told_same : (status : Status) (length : ℕ) → (status_left status length ≡ status) ⊎ (status_left status length ≡ statuses.NoMemory)
told_same statuses.Done length = inl refl
told_same statuses.SomeRefused length = inl refl
told_same statuses.Syntax length = inl refl
told_same statuses.Range length = inl refl
told_same statuses.Past length = inl refl
told_same statuses.SinkFault zero = inr refl
told_same statuses.SinkFault (suc length) = inl refl
told_same statuses.SourceFault length = inl refl
told_same statuses.NoMemory length = inl refl

-- a status that is not told if memory ran out is the status of the run
pub told_is : (answer status : Status) (length : ℕ) → answer ≡ status_left status length → (answer ≡ statuses.NoMemory → ⊥) → status ≡ answer
told_is answer status length is other = elim (told_same status length) [ inl e ↦ sym (is ∙ e) | inr e ↦ absurd (other (is ∙ e)) ]

pub told_answers : (words : List (List ℕ)) (IsPut : List ℕ → Type 0) (answer status : Status) (length : ℕ) → answer ≡ status_left status length
    → AnswersWords words IsPut status → AnswersWords words IsPut answer
told_answers words IsPut answer status length is a = elim (told_same status length) [
  | inl e ↦ subst (AnswersWords words IsPut) (sym (is ∙ e)) a
  | inr e ↦ cut_answers words IsPut answer (inl (is ∙ e))
]

pub went_through : (status : Status) → code_of status ≤ code_of statuses.SomeRefused → IsThrough status
went_through statuses.Done h = inl refl
went_through statuses.SomeRefused h = inr refl
went_through statuses.Syntax h = absurd (omega (arith, h))
went_through statuses.Range h = absurd (omega (arith, h))
went_through statuses.Past h = absurd (omega (arith, h))
went_through statuses.SinkFault h = absurd (omega (arith, h))
went_through statuses.SourceFault h = absurd (omega (arith, h))
went_through statuses.NoMemory h = absurd (omega (arith, h))
