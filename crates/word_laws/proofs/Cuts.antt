-- Forms are patterns of words. A list of words is cut into words of one form and then words of another one; and for words that are not of a form,
-- the place of the error is found: after their longest prefix that is also the beginning of some words of the form.
use Rattle.std.proofs.Common.{◌≡◌, ℕ, zero, suc, ◌+◌, ◌-◌, ◌<◌, ◌≤◌, Bool, true, false, ◌&&◌, cond, List, [], ◌∷◌, ◌++◌, append_assoc, length, length-append, take, refl, sym, ap, ◌∙◌, subst, arith, ◌⊎◌, inl, inr, rules}
use Rattle.std.proofs.lemmas.Bool.{and_parts}
use Rattle.std.proofs.lemmas.List.{append-nil}
use Rattle.std.proofs.Math.Seq.{take-append_seam, take-append-add, get_or-append_seam}
use Rattle.std.specs.Prelude.{slice_index_or}
use Rattle.sym_model.specs.LongestPrefix.{IsLongestPrefix}
use Rattle.sym_model.specs.Phrase.{Phrase, SpellsPhrase, BeginsExpression}
use Rattle.sym_model.specs.Entry.{Entry}
use Rattle.sym_model.specs.Form.{Class, exact, number, target, formula, Form, empty, word, sequence, either, many, Written, words_of, May, Has, Begins, Awaits, is_skippable, can_be}
use Rattle.sym_model.specs.SyntaxPlace.{IsExpressionWord, IsSyntaxByte, IsSyntaxPlace}
use Rattle.sym_model.specs.WordForms.{optional}
use Rattle.expression_laws.proofs.PhraseRuns.{one_phrase}
use Rattle.word_laws.specs.OneReading.{are_apart, firsts, continuing, is_unambiguous}
use Rattle.word_laws.specs.Words.{Words}
use Rattle.word_laws.proofs.Derivatives.{Parts, has_sequence, sequence_parts, skippable}
use Rattle.word_laws.proofs.LongestPrefixes.{some_words}
use Rattle.word_laws.proofs.Readings.{OfOne, Unlike, View, none, some, view, unlike, unlike_word, of_left, of_right, of_cond, unlike_front, first_word, never_both, reads_once}

-- the list r is empty or has the same first word as `rest`
abbrev pub StartsAs : Words → Words → Type 0
StartsAs [] rest = Unit {0}
StartsAs (t ∷ r) rest = (u : Words) × (rest ≡ t ∷ u)

-- `EndsAt f x rest`: of the words of x followed by `rest`, the form f takes exactly the words of x. Precisely: let r be empty or begin with the first
-- word of `rest`. If the words of x followed by r are also words of f followed by s, and s does not begin with a word that can continue words of f,
-- then s is r
abbrev pub EndsAt : (f : Form) → Written f → Words → Type 0
EndsAt f x rest =
    (y : Written f) (r s : Words) → May f y → StartsAs r rest → words_of f x ++ r ≡ words_of f y ++ s → Unlike (continuing f) s → r ≡ s

-- the words `words` are `piece` followed by `rest`, `piece` is of the form f, and the words of the form f end before `rest` (`EndsAt`)
pub record IsTaken (f : Form) (piece rest words : Words) : Type 0 where
  pub written : Written f
  pub allowed : May f written
  pub piece_is : piece ≡ words_of f written
  pub words_are : words ≡ piece ++ rest
  pub ends : EndsAt f written rest

-- The words are not of the form f. They are `before` followed by `after`. More words can be added to `before` so that the result is of the form f
-- (`Begins`), but not if the first word of `after` comes next. `left` is the number of words of `after`; if it is 0, further words are missing.
pub record GoesWrong (f : Form) (words : Words) (left : ℕ) : Type 0 where
  pub before : Words
  pub after : Words
  pub words_are : words ≡ before ++ after
  pub left_is : left ≡ length after
  pub begins : Begins f before
  pub stops : (t : List ℕ) (rest : Words) → after ≡ t ∷ rest → Begins f (before ++ t ∷ []) → ⊥
  pub is_none : Has f words → ⊥

-- the words fail (`GoesWrong`) inside the form f, not directly after complete words of f: if the words before the failure are us followed by vs, and
-- us is of the form f, then vs begins with a word that can continue words of f
abbrev pub StopsIn : Form → Words → ℕ → Type 0
StopsIn f words left =
    (w : GoesWrong f words left) × ((us vs : Words) → w.before ≡ us ++ vs → Has f us → Unlike (continuing f) vs → ⊥)

-- ---- lists that are empty or begin with the first word of another list (`StartsAs`)

starts_unlike : (r rest : Words) → StartsAs r rest → (f : Form) → Unlike (continuing f) rest → Unlike (continuing f) r
starts_unlike [] rest s f u = tt
starts_unlike (t ∷ r) rest s f u = subst (Unlike (continuing f)) s.1 u

starts_front : (us vs : Words) → StartsAs us (us ++ vs)
starts_front [] vs = tt
starts_front (u ∷ us) vs = (us ++ vs, refl)

starts_next : (us : Words) (t : List ℕ) (vs ws : Words) → StartsAs ((us ++ t ∷ []) ++ vs) (us ++ t ∷ ws)
starts_next [] t vs ws = (ws, refl)
starts_next (u ∷ us) t vs ws = (us ++ t ∷ ws, refl)

starts_itself : (us : Words) → StartsAs us us
starts_itself [] = tt
starts_itself (u ∷ us) = (us, refl)

-- either the words us begin with `first`, or `first` begins with us followed by the word t
data Seam (us : Words) (t : List ℕ) (first : Words) : Type 0 where
  short : (v : Words) → us ≡ first ++ v → Seam us t first
  long : (v : Words) → first ≡ (us ++ t ∷ []) ++ v → Seam us t first

seam : (us : Words) (t : List ℕ) (vs first second : Words) → (us ++ t ∷ []) ++ vs ≡ first ++ second → Seam us t first
seam us t vs [] second e = short us refl
seam [] t vs (x ∷ first) second e = let k : x ≡ t = cc in long first (ap (λ y. y ∷ first) k)
seam (u ∷ us) t vs (x ∷ first) second e = by (seam us t vs first second cc)
  where
    same : x ≡ u
    same = cc

    by : Seam us t first → Seam (u ∷ us) t (x ∷ first)
    by (short v h) = short v (ap (λ ws. u ∷ ws) h ∙ ap (λ y. y ∷ (first ++ v)) (sym same))
    by (long v h) = long v (ap (λ ws. x ∷ ws) h ∙ ap (λ y. y ∷ ((us ++ t ∷ []) ++ v)) same)

seam_rest : (us : Words) (t : List ℕ) (vs first second v : Words) → us ≡ first ++ v → (us ++ t ∷ []) ++ vs ≡ first ++ second → second ≡ v ++ t ∷ vs
seam_rest us t vs first second v i e = same first (sym e ∙ append_assoc us (t ∷ []) vs ∙ ap (λ ws. ws ++ t ∷ vs) i ∙ append_assoc first v (t ∷ vs))
  where
    same : (first : Words) → first ++ second ≡ first ++ (v ++ t ∷ vs) → second ≡ v ++ t ∷ vs
    same [] h = h
    same (x ∷ first) h = same first cc

unlike_words : (f g : Form) (ws : Words) → are_apart (continuing f) (firsts g) ≡ true → Has g ws → Unlike (continuing f) ws
unlike_words f g ws a h =
    subst (Unlike (continuing f)) (append-nil (words_of g h.written) ∙ sym h.spelled) (unlike_front (continuing f) g h.written h.allowed [] a (λ e. tt))

-- ---- words that a form takes from the front of other words (`IsTaken`)

pub ends_unlike : (f : Form) → is_unambiguous f ≡ true → (x : Written f) → May f x → (rest : Words) → Unlike (continuing f) rest → EndsAt f x rest
ends_unlike f h x a rest u =
    λ y r s b st e v. (reads_once one_phrase f h x y a b r s e (starts_unlike r rest st f u) v).1

has_right : (f g : Form) (p rest ws q : Words) → are_apart (continuing f) (firsts g) ≡ true → IsTaken f p rest ws → StartsAs q rest
    → Has (sequence f g) (p ++ q) → Has g q
has_right f g p rest ws q a k s h = search (rules, unlike_words)

taken_has : (f : Form) (p rest ws : Words) → IsTaken f p rest ws → Has f p
taken_has f p rest ws k = record { written = k.written; allowed = k.allowed; spelled = k.piece_is }

pub wrong_right : (f g : Form) (p rest ws : Words) (left : ℕ) → are_apart (continuing f) (firsts g) ≡ true → IsTaken f p rest ws
    → GoesWrong g rest left → GoesWrong (sequence f g) ws left
wrong_right f g p rest ws left a k w = record {
  before = p ++ w.before;
  after = w.after;
  words_are = k.words_are ∙ ap (λ us. p ++ us) w.words_are ∙ sym (append_assoc p w.before w.after);
  left_is = w.left_is;
  begins = (
    w.begins.0,
    subst (Has (sequence f g)) (sym (append_assoc p w.before w.begins.0)) (has_sequence f g p (w.before ++ w.begins.0) (taken_has f p rest ws k) w.begins.1),
  );
  stops = λ t more e b.
      w.stops t more e (
        b.0,
        has_right f g p rest ws ((w.before ++ t ∷ []) ++ b.0) a k
            (subst (StartsAs ((w.before ++ t ∷ []) ++ b.0)) (sym (w.words_are ∙ ap (λ us. w.before ++ us) e)) (starts_next w.before t b.0 more))
            (subst (Has (sequence f g))
            (ap (λ us. us ++ b.0) (append_assoc p w.before (t ∷ [])) ∙ append_assoc p (w.before ++ t ∷ []) b.0) b.1),
      );
  is_none = λ h. w.is_none (has_right f g p rest ws rest a k (starts_itself rest) (subst (Has (sequence f g)) k.words_are h));
}

-- let no first word of g continue words of f (`are_apart`), and let vs not begin with a word that can continue words of `sequence f g`. Then words of
-- g followed by vs do not begin with a word that can continue words of f
pub unlike_second : (f g : Form) (z : Written g) → May g z → (vs : Words) → are_apart (continuing f) (firsts g) ≡ true
    → Unlike (continuing (sequence f g)) vs → Unlike (continuing f) (words_of g z ++ vs)
unlike_second f g z m vs a u = search (rules, unlike_front, unlike, of_right, of_cond)

pub unlike_last : (f g : Form) (vs : Words) → Unlike (continuing (sequence f g)) vs → Unlike (continuing g) vs
unlike_last f g vs u = unlike (continuing g) (continuing (sequence f g)) vs (λ t o. of_left (continuing g) (cond (is_skippable g) (continuing f) []) t o) u

pub stops_right : (f g : Form) (p rest ws : Words) (left : ℕ) → are_apart (continuing f) (firsts g) ≡ true → IsTaken f p rest ws
    → StopsIn g rest left → StopsIn (sequence f g) ws left
unfolding wrong_right
stops_right f g p rest ws left a k w = (
  wrong_right f g p rest ws left a k w.0,
  λ us vs e h u.
      let s = k.ends h.written.0 w.0.before (words_of g h.written.1 ++ vs) h.allowed.0
      (subst (StartsAs w.0.before) (sym w.0.words_are) (starts_front w.0.before w.0.after))
      (ap (λ ts. ts ++ w.0.before) (sym k.piece_is) ∙ e ∙ ap (λ ts. ts ++ vs) h.spelled ∙ append_assoc (words_of f h.written.0) (words_of g h.written.1) vs)
      (unlike_second f g h.written.1 h.allowed.1 vs a u) in
      w.1 (words_of g h.written.1) vs s (record { written = h.written.1; allowed = h.allowed.1; spelled = refl }) (unlike_last f g vs u),
)

-- ---- words that fail inside a form (`StopsIn`)

none_within : (f g : Form) (words : Words) (left : ℕ) → are_apart (continuing f) (firsts g) ≡ true → (w : StopsIn f words left) (t : List ℕ) (more tail : Words)
    → w.0.after ≡ t ∷ more → Parts f g ((w.0.before ++ t ∷ []) ++ tail) → ⊥
none_within f g words left a w t more tail k p = next (seam w.0.before t tail p.before p.after p.are)
  where
    next : Seam w.0.before t p.before → ⊥
    next (short v i) =
        let behind = seam_rest w.0.before t tail p.before p.after v i p.are in
        w.1 p.before v i p.first
        (starts_unlike v p.after (subst (StartsAs v) (sym behind) (starts_front v (t ∷ tail))) f
        (unlike_words f g p.after a p.second))
    next (long v i) = w.0.stops t more k (v, subst (Has f) i p.first)

pub stops_left : (f g : Form) (words : Words) (left : ℕ) → are_apart (continuing f) (firsts g) ≡ true → can_be g ≡ true → StopsIn f words left
    → StopsIn (sequence f g) words left
stops_left f g words left a c w =
    let b = w.0.before in
    let some = some_words g c in (
      record {
        before = b;
        after = w.0.after;
        words_are = w.0.words_are;
        left_is = w.0.left_is;
        begins = (
          w.0.begins.0 ++ some.0,
          subst (Has (sequence f g)) (append_assoc b w.0.begins.0 some.0) (has_sequence f g (b ++ w.0.begins.0) some.0 w.0.begins.1 some.1),
        );
        stops = λ t more e h. none_within f g words left a w t more h.0 e (sequence_parts f g ((b ++ t ∷ []) ++ h.0) h.1);
        is_none = λ h. all w.0.after refl (subst (Has (sequence f g)) w.0.words_are h);
      },
      λ us vs e h u.
          let s = append_assoc (words_of f h.written.0) (words_of g h.written.1) vs in
          w.1 (words_of f h.written.0) (words_of g h.written.1 ++ vs) (e ∙ ap (λ ts. ts ++ vs) h.spelled ∙ s)
          (record { written = h.written.0; allowed = h.allowed.0; spelled = refl })
          (unlike_second f g h.written.1 h.allowed.1 vs a u),
    )
  where
    all : (after : Words) → w.0.after ≡ after → Has (sequence f g) (w.0.before ++ w.0.after) → ⊥
    all [] k h =
        let p = sequence_parts f g w.0.before (subst (Has (sequence f g)) (ap (λ us. w.0.before ++ us) k ∙ append-nil w.0.before) h) in
        w.1 p.before p.after p.are p.first (unlike_words f g p.after a p.second)
    all (t ∷ more) k h =
        none_within f g words left a w t more more k
        (sequence_parts f g ((w.0.before ++ t ∷ []) ++ more)
        (subst (Has (sequence f g)) (ap (λ us. w.0.before ++ us) k ∙ sym (append_assoc w.0.before (t ∷ []) more)) h))

-- if f allows some words, but not the empty list, and ws is empty or begins with a word that cannot be the first of words of f, then ws fails
-- inside f (`StopsIn`) at the first word of ws
pub stops_first : (f : Form) (ws : Words) → can_be f ≡ true → is_skippable f ≡ false → Unlike (firsts f) ws → StopsIn f ws (length ws)
stops_first f ws c n b =
    let some = some_words f c in (
      record {
        before = [];
        after = ws;
        words_are = refl;
        left_is = refl;
        begins = some;
        stops = λ t rest e h. unlike_word (firsts f) t ws rest b e (first_word f h.1.written h.1.allowed t h.0 (sym h.1.spelled));
        is_none = λ h. all ws refl h;
      },
      λ us vs e h u. nothing us vs e h,
    )
  where
    never : Has f [] → ⊥
    never h = let z = skippable f h.written (sym h.spelled) in cc

    all : (us : Words) → ws ≡ us → Has f us → ⊥
    all [] e h = never h
    all (t ∷ us) e h = unlike_word (firsts f) t ws us b e (first_word f h.written h.allowed t us (sym h.spelled))

    nothing : (us vs : Words) → [] ≡ us ++ vs → Has f us → ⊥
    nothing [] vs e h = never h
    nothing (u ∷ us) vs e h = cc

-- ---- optional forms: the words that such a form takes (`IsTaken`), and words that fail inside such a form (`StopsIn`)

pub optional_taken : (f : Form) (p rest ws : Words) → is_skippable f ≡ false → IsTaken f p rest ws → IsTaken (optional f) p rest ws
optional_taken f p rest ws n k = record { written = inr k.written; allowed = k.allowed; piece_is = k.piece_is; words_are = k.words_are; ends = ends }
  where
    more : List Class
    more = cond (is_skippable f) [] []

    ends : EndsAt (optional f) (inr k.written) rest
    ends (inl y) r s m st e u = by (view (words_of f k.written))
      where
        by : View (words_of f k.written) → r ≡ s
        by (none i) = let z = skippable f k.written i in cc
        by (some t ts i) =
            absurd (unlike_word (continuing (optional f)) t s (ts ++ r) u (sym e ∙ ap (λ us. us ++ r) i)
            (of_right (continuing f) (firsts f ++ more) t (of_left (firsts f) more t (first_word f k.written k.allowed t ts i))))
    ends (inr y) r s m st e u =
        k.ends y r s m st e (unlike (continuing f) (continuing (optional f)) s (λ t o. of_left (continuing f) (firsts f ++ more) t o) u)

pub optional_absent : (f : Form) (ws : Words) → is_skippable f ≡ false → Unlike (firsts f) ws → IsTaken (optional f) [] ws ws
optional_absent f ws n b = record { written = inl tt; allowed = tt; piece_is = refl; words_are = refl; ends = ends }
  where
    ends : EndsAt (optional f) (inl tt) ws
    ends (inl y) r s m st e u = e
    ends (inr y) r s m st e u = by (view (words_of f y))
      where
        by : View (words_of f y) → r ≡ s
        by (none i) = let z = skippable f y i in cc
        by (some t ts i) =
            let k = e ∙ ap (λ us. us ++ s) i in
            let l = subst (λ us. StartsAs us ws) k st in
            absurd (unlike_word (firsts f) t ws l.0 b l.1 (first_word f y m t ts i))

pub optional_stops : (f : Form) (ws : Words) (left : ℕ) → left < length ws → StopsIn f ws left → StopsIn (optional f) ws left
optional_stops f ws left l w = (
  record {
    before = w.0.before;
    after = w.0.after;
    words_are = w.0.words_are;
    left_is = w.0.left_is;
    begins = (w.0.begins.0, record { written = inr w.0.begins.1.written; allowed = w.0.begins.1.allowed; spelled = w.0.begins.1.spelled });
    stops = λ t rest e h. next t rest e h.0 h.1.written h.1.allowed h.1.spelled;
    is_none = λ h. all h.written h.allowed h.spelled;
  },
  λ us vs e h u. within us vs e h.written h.allowed h.spelled u,
)
  where
    some_before : 0 < length w.0.before
    some_before =
        let k = ap length w.0.words_are in
        let n = length-append w.0.before w.0.after in
        let i = w.0.left_is in
        omega (arith, k, n, i, l)

    filled : (us : Words) → 0 < length us → us ≡ [] → ⊥
    filled us k e = let n = ap length e in omega (arith, n, k)

    next : (t : List ℕ) (rest : Words) → w.0.after ≡ t ∷ rest → (tail : Words) (x : Written (optional f)) → May (optional f) x
        → (w.0.before ++ t ∷ []) ++ tail ≡ words_of (optional f) x → ⊥
    next t rest e tail (inl x) m k =
        let n = ap length k in
        let i = length-append (w.0.before ++ t ∷ []) tail in
        let j = length-append w.0.before (t ∷ []) in
        omega (arith, n, i, j)
    next t rest e tail (inr x) m k = w.0.stops t rest e (tail, record { written = x; allowed = m; spelled = k })

    all : (x : Written (optional f)) → May (optional f) x → ws ≡ words_of (optional f) x → ⊥
    all (inl x) m k = filled ws (omega (arith, l)) k
    all (inr x) m k = w.0.is_none (record { written = x; allowed = m; spelled = k })

    within : (us vs : Words) → w.0.before ≡ us ++ vs → (x : Written (optional f)) → May (optional f) x → us ≡ words_of (optional f) x
        → Unlike (continuing (optional f)) vs → ⊥
    within us vs e (inl x) m k u = by (view w.0.before) (view (words_of f w.0.begins.1.written))
      where
        by : View w.0.before → View (words_of f w.0.begins.1.written) → ⊥
        by (none i) v = filled w.0.before some_before i
        by (some t ts i) (none j) = let z = ap (λ us. us ++ w.0.begins.0) (sym i) ∙ w.0.begins.1.spelled ∙ j in cc
        by (some t ts i) (some z zs j) =
            let h = ap (λ us. us ++ w.0.begins.0) (sym i) ∙ w.0.begins.1.spelled ∙ j in
            let same : z ≡ t = cc in
            unlike_word (continuing (optional f)) z vs ts u (sym (ap (λ ts. ts ++ vs) k) ∙ sym e ∙ i ∙ ap (λ y. y ∷ ts) (sym same))
            (of_right (continuing f) (firsts f ++ cond (is_skippable f) [] []) z
            (of_left (firsts f) (cond (is_skippable f) [] []) z (first_word f w.0.begins.1.written w.0.begins.1.allowed z zs j)))
    within us vs e (inr x) m k u =
        w.1 us vs e (record { written = x; allowed = m; spelled = k })
        (unlike (continuing f) (continuing (optional f)) vs (λ t o. of_left (continuing f) (firsts f ++ cond (is_skippable f) [] []) t o) u)

pub end_wrong : (ws : Words) → 0 < length ws → GoesWrong empty ws (length ws)
end_wrong ws l = search rules

-- if the form f takes p (`IsTaken`) and words are left after p, the words fail (`GoesWrong`) at the first word after p
pub left_over : (f : Form) (p rest ws : Words) (left : ℕ) → IsTaken f p rest ws → GoesWrong empty rest left → GoesWrong f ws left
left_over f p rest ws left k w = record {
  before = p;
  after = rest;
  words_are = k.words_are;
  left_is = w.left_is ∙ ap length (sym all);
  begins = ([], subst (Has f) (sym (append-nil p)) (taken_has f p rest ws k));
  stops = λ t more e h.
      let n = k.ends h.1.written (t ∷ h.0) [] h.1.allowed (more, e)
      (ap (λ us. us ++ t ∷ h.0) (sym k.piece_is) ∙ sym (append_assoc p (t ∷ []) h.0) ∙ h.1.spelled ∙ sym (append-nil (words_of f h.1.written))) tt in
      cc;
  is_none = λ h.
      let n = k.ends h.written rest [] h.allowed (starts_itself rest)
      (ap (λ us. us ++ rest) (sym k.piece_is) ∙ sym k.words_are ∙ h.spelled ∙ sym (append-nil (words_of f h.written))) tt in
      w.is_none (record { written = tt; allowed = tt; spelled = n });
}
  where
    nothing : (us vs : Words) → us ++ vs ≡ [] → us ≡ []
    nothing [] vs e = refl
    nothing (u ∷ us) vs e = cc

    all : rest ≡ w.after
    all = w.words_are ∙ ap (λ us. us ++ w.after) (nothing w.before w.begins.0 w.begins.1.spelled)

abbrev pub is_plain : Form → Bool
is_plain empty = true
is_plain (word (exact text)) = true
is_plain (word number) = true
is_plain (word (target bases)) = true
is_plain (word formula) = false
is_plain (sequence f g) = is_plain f && is_plain g
is_plain (either f g) = is_plain f && is_plain g
is_plain (many f) = is_plain f

pub none_awaited : (f : Form) (ws : Words) → is_plain f ≡ true → Awaits f ws → ⊥
none_awaited empty ws h a = a
none_awaited (word (exact text)) ws h a = a
none_awaited (word number) ws h a = a
none_awaited (word (target bases)) ws h a = a
none_awaited (word formula) ws h a = cc
none_awaited (sequence f g) ws h (inl a) = none_awaited f ws (and_parts (is_plain f) (is_plain g) h).0 a
none_awaited (sequence f g) ws h (inr a) = none_awaited g a.1 (and_parts (is_plain f) (is_plain g) h).1 a.4
none_awaited (either f g) ws h (inl a) = none_awaited f ws (and_parts (is_plain f) (is_plain g) h).0 a
none_awaited (either f g) ws h (inr a) = none_awaited g ws (and_parts (is_plain f) (is_plain g) h).1 a
none_awaited (many f) ws h a = none_awaited f a.1 h a.4

-- ---- the byte of the error in the word at which words fail

-- `after` is not empty, and an expression can follow the words `before` in the form f
abbrev pub IsAwaited : Form → Words → Words → Type 0
IsAwaited f before after = (t : List ℕ) × (rest : Words) × (after ≡ t ∷ rest) × Awaits f before

-- the byte of the error in the first of the words `after`, which follow `before`: if an expression can follow `before` in the form f, the length of
-- the longest prefix of that word that is also the beginning of some expression; otherwise 0
abbrev pub IsByte : Form → Words → Words → ℕ → Type 0
IsByte f before after byte =
    ((a : IsAwaited f before after) × IsLongestPrefix BeginsExpression a.0 byte) ⊎ ((IsAwaited f before after → ⊥) × (byte ≡ 0))

-- the words are not of the form f, and their first error is at the byte `byte` of the first of the last `left` words (`GoesWrong`, `IsByte`)
abbrev pub IsWrongAt : Form → Words → ℕ → ℕ → Type 0
IsWrongAt f words left byte = (w : GoesWrong f words left) × IsByte f w.before w.after byte

-- in a form in which no word can be an expression, the byte of the error is 0
pub plain_byte : (f : Form) (before after : Words) → is_plain f ≡ true → IsByte f before after 0
plain_byte f before after h = inr (λ a. none_awaited f before h a.3, refl)

-- for the form of one word that is an expression, if the first word is not an expression, the byte of the error is the length of the longest prefix
-- of that word that is also the beginning of some expression
pub expression_byte : (words : Words) (left byte : ℕ) (w : StopsIn (word formula) words left)
    → ((t : List ℕ) (rest : Words) → words ≡ t ∷ rest → ((phrase : Phrase) × SpellsPhrase t phrase) ⊎ IsLongestPrefix BeginsExpression t byte)
    → (words ≡ [] → byte ≡ 0) → IsByte (word formula) w.0.before w.0.after byte
expression_byte words left byte w l z = at (view w.0.before)
  where
    none_before : (t : List ℕ) (us : Words) → w.0.before ≡ t ∷ us → ⊥
    none_before t us e =
        let k = sym (ap (λ ws. ws ++ w.0.begins.0) e) ∙ w.0.begins.1.spelled in
        w.1 w.0.before [] (sym (append-nil w.0.before))
        (record { written = w.0.begins.1.written; allowed = w.0.begins.1.allowed; spelled = e ∙ lone us w.0.begins.0 k }) tt
      where
        lone : (us rest : Words) {u : List ℕ} → (t ∷ us) ++ rest ≡ u ∷ [] → t ∷ us ≡ u ∷ []
        lone [] rest h = cc
        lone (v ∷ us) rest h = cc

    at : View w.0.before → IsByte (word formula) w.0.before w.0.after byte
    at (some t us e) = absurd (none_before t us e)
    at (none e) = by (view words)
      where
        all : words ≡ w.0.after
        all = w.0.words_are ∙ ap (λ us. us ++ w.0.after) e

        by : View words → IsByte (word formula) w.0.before w.0.after byte
        by (none i) = inr (λ a. let k = sym i ∙ all ∙ a.2 in cc, z i)
        by (some t rest i) = one (l t rest i)
          where
            one : ((phrase : Phrase) × SpellsPhrase t phrase) ⊎ IsLongestPrefix BeginsExpression t byte → IsByte (word formula) w.0.before w.0.after byte
            one (inr p) = inl ((t, rest, sym all ∙ i, e), p)
            one (inl p) =
                absurd (w.0.stops t rest (sym all ∙ i) (
                  [],
                  record { written = p.0; allowed = p.1.allowed; spelled = ap (λ us. (us ++ t ∷ []) ++ []) e ∙ ap (λ u. u ∷ []) p.1.spelled },
                ))

awaits_first : (g : Form) (ws : Words) → Awaits g ws → (t : List ℕ) (more : Words) → ws ≡ t ∷ more → OfOne (firsts g) t
awaits_first empty ws a t more e = absurd a
awaits_first (word (exact text)) ws a t more e = absurd a
awaits_first (word number) ws a t more e = absurd a
awaits_first (word (target bases)) ws a t more e = absurd a
awaits_first (word formula) ws a t more e = cc
awaits_first (either f g) ws (inl a) t more e = of_left (firsts f) (firsts g) t (awaits_first f ws a t more e)
awaits_first (either f g) ws (inr a) t more e = of_right (firsts f) (firsts g) t (awaits_first g ws a t more e)
awaits_first (sequence f g) ws (inl a) t more e =
    of_left (firsts f) (cond (is_skippable f) (firsts g) []) t (awaits_first f ws a t more e)
awaits_first (sequence f g) ws (inr (us, vs, i, h, a)) t more e = by (view (words_of f h.written)) (awaits_first g vs a)
  where
    by : View (words_of f h.written) → ((t : List ℕ) (more : Words) → vs ≡ t ∷ more → OfOne (firsts g) t) → OfOne (firsts (sequence f g)) t
    by (none j) again =
        of_right (firsts f) (cond (is_skippable f) (firsts g) []) t
        (of_cond (is_skippable f) (firsts g) t (skippable f h.written j) (again t more (sym (i ∙ ap (λ ts. ts ++ vs) (h.spelled ∙ j)) ∙ e)))
    by (some z zs j) again =
        let k = sym e ∙ i ∙ ap (λ ts. ts ++ vs) (h.spelled ∙ j) in
        let same : z ≡ t = cc in
        of_left (firsts f) (cond (is_skippable f) (firsts g) []) t (first_word f h.written h.allowed t zs (j ∙ ap (λ y. y ∷ zs) same))
awaits_first (many f) ws (us, vs, i, h, a) t more e = by (view (words_of (many f) h.written)) (awaits_first f vs a)
  where
    by : View (words_of (many f) h.written) → ((t : List ℕ) (more : Words) → vs ≡ t ∷ more → OfOne (firsts f) t) → OfOne (firsts f) t
    by (none j) again = again t more (sym (i ∙ ap (λ ts. ts ++ vs) (h.spelled ∙ j)) ∙ e)
    by (some z zs j) again =
        let k = sym e ∙ i ∙ ap (λ ts. ts ++ vs) (h.spelled ∙ j) in
        let same : z ≡ t = cc in
        first_word (many f) h.written h.allowed t zs (j ∙ ap (λ y. y ∷ zs) same)

awaits_unlike : (cs : List Class) (g : Form) (ws : Words) → are_apart cs (firsts g) ≡ true → Awaits g ws → Unlike cs ws
awaits_unlike cs g [] h a = tt
awaits_unlike cs g (t ∷ ws) h a = λ o. never_both cs (firsts g) t h o (awaits_first g (t ∷ ws) a t ws refl)

byte_on : (f g : Form) (b c after : Words) (byte : ℕ) → (Awaits f b → Awaits g c) → (Awaits g c → Awaits f b) → IsByte f b after byte → IsByte g c after byte
byte_on f g b c after byte h k (inl (a, l)) = inl ((a.0, a.1, a.2, h a.3), l)
byte_on f g b c after byte h k (inr (n, z)) = inr (λ a. n (a.0, a.1, a.2, k a.3), z)

-- in the form f, no expression can follow the words p, nor p followed by any words
abbrev pub IsSettled : Form → Words → Type 0
IsSettled f p = (us : Words) → Awaits f (p ++ us) → ⊥

pub wrong_at_right : (f g : Form) (p rest ws : Words) (left byte : ℕ) → are_apart (continuing f) (firsts g) ≡ true → IsTaken f p rest ws
    → IsSettled f p → IsWrongAt g rest left byte → IsWrongAt (sequence f g) ws left byte
unfolding wrong_right
wrong_at_right f g p rest ws left byte a k settled (w, b) = (
  wrong_right f g p rest ws left a k w,
  byte_on g (sequence f g) w.before (p ++ w.before) w.after byte (λ x. inr (p, w.before, refl, taken_has f p rest ws k, x)) back b,
)
  where
    back : Awaits (sequence f g) (p ++ w.before) → Awaits g w.before
    back (inl x) = absurd (settled w.before x)
    back (inr (us, vs, e, h, x)) =
        let s = k.ends h.written w.before vs h.allowed (subst (StartsAs w.before) (sym w.words_are) (starts_front w.before w.after))
        (ap (λ ts. ts ++ w.before) (sym k.piece_is) ∙ e ∙ ap (λ ts. ts ++ vs) h.spelled) (awaits_unlike (continuing f) g vs a x) in
        subst (Awaits g) (sym s) x

pub wrong_at_left : (f g : Form) (words : Words) (left byte : ℕ) → are_apart (continuing f) (firsts g) ≡ true → can_be g ≡ true
    → (w : StopsIn f words left) → IsByte f w.0.before w.0.after byte → IsWrongAt (sequence f g) words left byte
unfolding stops_left
wrong_at_left f g words left byte a c w b = (
  (stops_left f g words left a c w).0,
  byte_on f (sequence f g) w.0.before w.0.before w.0.after byte inl back b,
)
  where
    back : Awaits (sequence f g) w.0.before → Awaits f w.0.before
    back (inl x) = x
    back (inr (us, vs, e, h, x)) = absurd (w.1 us vs e h (awaits_unlike (continuing f) g vs a x))

pub wrong_at_end : (ws : Words) → 0 < length ws → IsWrongAt empty ws (length ws) 0
wrong_at_end ws l = (end_wrong ws l, plain_byte empty (end_wrong ws l).before (end_wrong ws l).after refl)

pub left_over_at : (f : Form) (p rest ws : Words) (left byte : ℕ) → IsTaken f p rest ws → IsSettled f p → IsWrongAt empty rest left byte
    → IsWrongAt f ws left byte
unfolding left_over
left_over_at f p rest ws left byte k settled (w, inl (a, l)) = absurd a.3
left_over_at f p rest ws left byte k settled (w, inr (n, z)) =
    (left_over f p rest ws left k w, inr (λ a. settled [] (subst (Awaits f) (sym (append-nil p)) a.3), z))

-- for a list of one command, the place at which words fail in its form is the place of the error of syntax
pub wrong_place : (e : Entry) (words : Words) (left byte : ℕ) → IsWrongAt e.form words left byte
    → IsSyntaxPlace (e ∷ []) words (length words - left) byte
wrong_place e words left byte (w, b) =
    subst (λ n. IsSyntaxPlace (e ∷ []) words n byte) place
    (record {
      no_command = λ command s. elim s [ inl h ↦ w.is_none h.has | inr h ↦ h ];
      word_is = record {
        within = let l = ap length w.words_are in let n = length-append w.before w.after in omega (arith, l, n);
        begins = inl (subst (Begins e.form) (sym front) w.begins);
        longest = λ j l b. elim b [ inl h ↦ longest j l h | inr h ↦ absurd h ];
      };
      byte_is = byte_is b;
    })
  where
    front : take (length w.before) words ≡ w.before
    front = ap (take (length w.before)) w.words_are ∙ take-append_seam w.before w.after

    there : (after : Words) → w.after ≡ after → length w.before < length words → (t : List ℕ) × (rest : Words) × (w.after ≡ t ∷ rest)
    there [] k l =
        let m = ap length w.words_are in
        let n = length-append w.before w.after in
        let o = ap length k in
        absurd (omega (arith, l, m, n, o))
    there (t ∷ rest) k l = (t, rest, k)

    byte_is : IsByte e.form w.before w.after byte → IsSyntaxByte (e ∷ []) words (length w.before) byte
    byte_is (inl (a, l)) =
        let k = ap length w.words_are in
        let n = length-append w.before w.after in
        let o = ap length a.2 in
        inl (
          record { is_there = omega (arith, k, n, o); awaited = inl (subst (Awaits e.form) (sym front) a.3) },
          subst (λ t. IsLongestPrefix BeginsExpression t byte)
              (sym (ap (λ ws. slice_index_or ws (length w.before) []) (w.words_are ∙ ap (λ us. w.before ++ us) a.2) ∙ get_or-append_seam w.before a.0 a.1 []))
              l,
        )
    byte_is (inr (n, z)) = inr (none, z)
      where
        none : IsExpressionWord (e ∷ []) words (length w.before) → ⊥
        none h =
            let t = there w.after refl h.is_there in
            elim h.awaited [ inl a ↦ n (t.0, t.1, t.2, subst (Awaits e.form) front a) | inr a ↦ a ]

    place : length w.before ≡ length words - left
    place =
        let l = ap length w.words_are in
        let n = length-append w.before w.after in
        let k = w.left_is in
        omega (arith, l, n, k)

    longest : (j : ℕ) → j ≤ length words → Begins e.form (take j words) → j ≤ length w.before
    longest j l b = by w.after (j - length w.before) refl refl
      where
        by : (after : Words) (d : ℕ) → w.after ≡ after → d ≡ j - length w.before → j ≤ length w.before
        by after zero k i = omega (arith, i)
        by [] (suc d) k i =
            let m = ap length w.words_are in
            let n = length-append w.before w.after in
            let o = ap length k in
            omega (arith, l, m, n, o)
        by (t ∷ more) (suc d) k i =
            let all = w.words_are ∙ ap (λ us. w.before ++ us) k in
            let n : j ≡ length w.before + suc d = omega (arith, i) in
            let front : take j words ≡ w.before ++ t ∷ take d more =
            ap (take j) all ∙ ap (λ m. take m (w.before ++ t ∷ more)) n ∙ take-append-add w.before (t ∷ more) (suc d) in
            absurd (w.stops t more k (
              take d more ++ b.0,
              subst (Has e.form)
                  (ap (λ us. us ++ b.0) (front ∙ sym (append_assoc w.before (t ∷ []) (take d more))) ∙ append_assoc (w.before ++ t ∷ []) (take d more) b.0)
                  b.1,
            ))
