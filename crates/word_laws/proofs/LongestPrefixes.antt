-- `taken` is the length of the longest prefix of a list of words that is also the beginning of words of one of the forms.
use Rattle.std.proofs.Common.{◌≡◌, ℕ, zero, suc, ◌+◌, ◌<◌, ◌≤◌, Bool, true, false, cond, List, [], ◌∷◌, ◌++◌, map, length, take, refl, sym, ap, ◌∙◌, subst, arith, ◌⊎◌, inl, inr, rules}
use Rattle.std.proofs.lemmas.Bool.{and_parts, and_from, or_cases, or_left, or_right}
use Rattle.std.proofs.Math.Numerals.{suc-eq-add-one}
use Rattle.sym_model.specs.Sum.{Among}
use Rattle.sym_model.proofs.Sums.{Among_from_append, Among_from_map, Among-each, Among_from_each}
use Rattle.sym_model.specs.LongestPrefix.{IsLongestPrefix}
use Rattle.sym_model.specs.Form.{Form, empty, word, sequence, either, many, word_of, SomeOf, EachOf, Has, Begins, fits, is_skippable, derivatives, after_word, one_more, taken, has_skippable, after_words, TellsExpressions, can_be}
use Rattle.word_laws.proofs.Classes.{some_word}
use Rattle.word_laws.proofs.Derivatives.{has_sequence, has_left, has_none, skipped, skippable, derivative_sound, derivative_complete}
use Rattle.word_laws.specs.Words.{Words}

pub some_words : (f : Form) → can_be f ≡ true → (ws : Words) × Has f ws
some_words empty h = ([], record { written = tt; allowed = tt; spelled = refl })
some_words (word c) h =
    let x = some_word c h in (word_of c x.0 ∷ [], record { written = x.0; allowed = x.1; spelled = refl })
some_words (sequence f g) h =
    let p = and_parts (can_be f) (can_be g) h in
    let l = some_words f p.0 in
    let r = some_words g p.1 in (l.0 ++ r.0, has_sequence f g l.0 r.0 l.1 r.1)
some_words (either f g) h =
    let p = and_parts (can_be f) (can_be g) h in let l = some_words f p.0 in (l.0, has_left f g l.0 l.1)
some_words (many f) h = ([], has_none f)

pub among_cond : {A : Type 0} (b : Bool) (x : A) (xs : List A) → Among x (cond b xs []) → Among x xs
among_cond true x xs m = m
among_cond false x xs m = absurd m

is_empty : (b : Bool) (h : Form) → Among h (cond b (empty ∷ []) []) → h ≡ empty
is_empty true h (inl e) = e
is_empty true h (inr m) = absurd m
is_empty false h m = absurd m

pub derivative_can_be : (reads : List ℕ → Bool) (f h : Form) (text : List ℕ) → can_be f ≡ true → Among h (derivatives reads f text) → can_be h ≡ true
derivative_can_be reads empty h text c m = absurd m
derivative_can_be reads (word k) h text c m = ap can_be (is_empty (fits reads k text) h m)
derivative_can_be reads (sequence f g) h text c m =
    let p = and_parts (can_be f) (can_be g) c in
    by p.1
    (Among_from_append h (map (λ h. sequence h g) (derivatives reads f text)) (cond (is_skippable f) (derivatives reads g text) []) m)
    (λ k. derivative_can_be reads f k text p.0)
    (derivative_can_be reads g h text p.1)
  where
    by : can_be g ≡ true → Among h (map (λ h. sequence h g) (derivatives reads f text)) ⊎ Among h (cond (is_skippable f) (derivatives reads g text) [])
        → ((k : Form) → Among k (derivatives reads f text) → can_be k ≡ true)
        → (Among h (derivatives reads g text) → can_be h ≡ true)
        → can_be h ≡ true
    by e (inl a) l r =
        let b = Among_from_map (λ h. sequence h g) h (derivatives reads f text) a in
        ap can_be b.2 ∙ and_from (can_be b.0) (can_be g) (l b.0 b.1) e
    by e (inr a) l r = r (among_cond (is_skippable f) h (derivatives reads g text) a)
derivative_can_be reads (either f g) h text c m =
    let p = and_parts (can_be f) (can_be g) c in
    elim (Among_from_append h (derivatives reads f text) (derivatives reads g text) m) [
      | inl a ↦ derivative_can_be reads f h text p.0 a
      | inr a ↦ derivative_can_be reads g h text p.1 a
    ]
derivative_can_be reads (many f) h text c m =
    let b = Among_from_map (λ h. sequence h (many f)) h (derivatives reads f text) m in
    ap can_be b.2 ∙ and_from (can_be b.0) (can_be f) (derivative_can_be reads f b.0 text c b.1) c

-- ---- words that are of one of several forms

pub some_in : {A : Type 0} (P : A → Type 0) (x : A) (xs : List A) → Among x xs → P x → SomeOf P xs
some_in P x [] m h = absurd m
some_in P x (y ∷ xs) (inl e) h = inl (subst P e h)
some_in P x (y ∷ xs) (inr m) h = inr (some_in P x xs m h)

pub some_out : {A : Type 0} (P : A → Type 0) (xs : List A) → SomeOf P xs → (x : A) × Among x xs × P x
some_out P [] h = absurd h
some_out P (x ∷ xs) (inl h) = (x, inl refl, h)
some_out P (x ∷ xs) (inr h) = let r = some_out P xs h in (r.0, inr r.1, r.2)

pub each_in : {A : Type 0} (P : A → Type 0) (x : A) (xs : List A) → EachOf P xs → Among x xs → P x
each_in P x [] h m = absurd m
each_in P x (y ∷ xs) h (inl e) = subst P (sym e) h.0
each_in P x (y ∷ xs) h (inr m) = each_in P x xs h.1 m

pub each_out : {A : Type 0} (P : A → Type 0) (xs : List A) → ((x : A) → Among x xs → P x) → EachOf P xs
each_out P [] h = tt
each_out P (x ∷ xs) h = (h x (inl refl), each_out P xs (λ y m. h y (inr m)))

-- the test `can_be` passes for each of the forms, so that each allows some words
abbrev pub CanBe : List Form → Type 0
CanBe forms = EachOf (λ f. can_be f ≡ true) forms

-- the words are of one of the forms
abbrev pub HasOne : List Form → Words → Type 0
HasOne forms ws = SomeOf (λ f. Has f ws) forms

abbrev pub BeginsOne : List Form → Words → Type 0
BeginsOne forms ws = SomeOf (λ f. Begins f ws) forms

pub after_can_be : (reads : List ℕ → Bool) (forms : List Form) (text : List ℕ) → CanBe forms → CanBe (after_word reads forms text)
after_can_be reads forms text c =
    each_out (λ f. can_be f ≡ true) (after_word reads forms text) (λ h m.
    let b = Among_from_each (λ f. derivatives reads f text) h forms m in
    derivative_can_be reads b.0 h text (each_in (λ f. can_be f ≡ true) b.0 forms c b.1) b.2)

pub has_after : (reads : List ℕ → Bool) → TellsExpressions reads → (forms : List Form) (text : List ℕ) (ws : Words)
    → HasOne forms (text ∷ ws) → HasOne (after_word reads forms text) ws
has_after reads tells forms text ws h =
    let f = some_out (λ f. Has f (text ∷ ws)) forms h in
    let n = derivative_complete reads tells f.0 f.2.written f.2.allowed text ws (sym f.2.spelled) in
    some_in (λ f. Has f ws) n.next (after_word reads forms text)
    (Among-each (λ f. derivatives reads f text) f.0 n.next forms f.1 n.among)
    n.has

pub has_before : (reads : List ℕ → Bool) → TellsExpressions reads → (forms : List Form) (text : List ℕ) (ws : Words)
    → HasOne (after_word reads forms text) ws → HasOne forms (text ∷ ws)
has_before reads tells forms text ws h =
    let f = some_out (λ f. Has f ws) (after_word reads forms text) h in
    let b = Among_from_each (λ f. derivatives reads f text) f.0 forms f.1 in
    some_in (λ f. Has f (text ∷ ws)) b.0 forms b.1 (derivative_sound reads tells b.0 f.0 text ws b.2 f.2)

pub begins_has : (forms : List Form) (ws : Words) → BeginsOne forms ws → (rest : Words) × HasOne forms (ws ++ rest)
begins_has forms ws h =
    let f = some_out (λ f. Begins f ws) forms h in (f.2.0, some_in (λ g. Has g (ws ++ f.2.0)) f.0 forms f.1 f.2.1)

pub has_begins : (forms : List Form) (ws rest : Words) → HasOne forms (ws ++ rest) → BeginsOne forms ws
has_begins forms ws rest h =
    let f = some_out (λ f. Has f (ws ++ rest)) forms h in some_in (λ f. Begins f ws) f.0 forms f.1 (rest, f.2)

begins_nothing : (forms : List Form) → CanBe forms → 0 < length forms → BeginsOne forms []
begins_nothing [] c n = absurd (omega (arith, n))
begins_nothing (f ∷ forms) c n = inl (some_words f c.0)

more_than_none : (reads : List ℕ → Bool) → TellsExpressions reads → (forms : List Form) (text : List ℕ) (ws : Words)
    → after_word reads forms text ≡ [] → BeginsOne forms (text ∷ ws) → ⊥
more_than_none reads tells forms text ws e h = search (rules, begins_has, has_after)

-- if there are forms and each allows some words, `taken` is the length of the longest prefix of ws that is also the beginning of words of one of the
-- forms
pub taken_longest : (reads : List ℕ → Bool) → TellsExpressions reads → (forms : List Form) → CanBe forms → 0 < length forms
    → (ws : Words) → IsLongestPrefix (BeginsOne forms) ws (taken reads forms ws)
taken_longest reads tells forms c n [] =
    record { within = omega arith; begins = begins_nothing forms c n; longest = λ j k b. k }
taken_longest reads tells forms c n (text ∷ ws) =
    by (after_word reads forms text) refl (λ m. taken_longest reads tells (after_word reads forms text) (after_can_be reads forms text c) m ws)
  where
    by : (next : List Form) → after_word reads forms text ≡ next
        → (0 < length (after_word reads forms text) → IsLongestPrefix (BeginsOne (after_word reads forms text)) ws (taken reads (after_word reads forms text) ws))
        → IsLongestPrefix (BeginsOne forms) (text ∷ ws) (one_more (after_word reads forms text) (taken reads (after_word reads forms text) ws))
    by [] e again =
        subst (λ fs. IsLongestPrefix (BeginsOne forms) (text ∷ ws) (one_more fs (taken reads (after_word reads forms text) ws))) (sym e)
        (record { within = omega arith; begins = begins_nothing forms c n; longest = longest })
      where
        longest : (j : ℕ) → j ≤ length (text ∷ ws) → BeginsOne forms (take j (text ∷ ws)) → j ≤ 0
        longest zero k b = omega arith
        longest (suc j) k b = absurd (more_than_none reads tells forms text (take j ws) e b)
    by (f ∷ next) e again =
        let some : 0 < length (after_word reads forms text) = subst (λ fs. 0 < length fs) (sym e) (omega arith) in
        let a = again some in
        let b = begins_has (after_word reads forms text) (take (taken reads (after_word reads forms text) ws) ws) a.begins in
        subst (λ fs. IsLongestPrefix (BeginsOne forms) (text ∷ ws) (one_more fs (taken reads (after_word reads forms text) ws))) (sym e)
        (record {
          within = let w = a.within in omega arith;
          begins =
              subst (λ m. BeginsOne forms (take m (text ∷ ws)))
              (suc-eq-add-one (taken reads (after_word reads forms text) ws))
              (has_begins forms (text ∷ take (taken reads (after_word reads forms text) ws) ws) b.0
              (has_before reads tells forms text (take (taken reads (after_word reads forms text) ws) ws ++ b.0) b.1));
          longest = longest a;
        })
      where
        longest : IsLongestPrefix (BeginsOne (after_word reads forms text)) ws (taken reads (after_word reads forms text) ws)
            → (j : ℕ) → j ≤ length (text ∷ ws) → BeginsOne forms (take j (text ∷ ws)) → j ≤ taken reads (after_word reads forms text) ws + 1
        longest a zero k b = omega arith
        longest a (suc j) k b =
            let p = begins_has forms (text ∷ take j ws) b in
            let q = a.longest j (omega arith)
            (has_begins (after_word reads forms text) (take j ws) p.0 (has_after reads tells forms text (take j ws ++ p.0) p.1)) in
            omega arith

-- ---- words are of one of the forms if and only if one of the derivatives of the forms by these words allows the empty list (`has_skippable`)

skippable_some : (forms : List Form) → has_skippable forms ≡ true → HasOne forms []
skippable_some [] h = cc
skippable_some (f ∷ forms) h = search (rules, or_cases, skipped, (skippable_some forms))

some_skippable : (forms : List Form) → HasOne forms [] → has_skippable forms ≡ true
some_skippable [] h = absurd h
some_skippable (f ∷ forms) (inl h) =
    or_left (is_skippable f) (has_skippable forms) (skippable f h.written (sym h.spelled))
some_skippable (f ∷ forms) (inr h) = or_right (is_skippable f) (has_skippable forms) (some_skippable forms h)

pub whole_sound : (reads : List ℕ → Bool) → TellsExpressions reads → (forms : List Form) (ws : Words)
    → has_skippable (after_words reads forms ws) ≡ true → HasOne forms ws
whole_sound reads tells forms [] h = skippable_some forms h
whole_sound reads tells forms (text ∷ ws) h =
    has_before reads tells forms text ws (whole_sound reads tells (after_word reads forms text) ws h)

pub whole_complete : (reads : List ℕ → Bool) → TellsExpressions reads → (forms : List Form) (ws : Words)
    → HasOne forms ws → has_skippable (after_words reads forms ws) ≡ true
whole_complete reads tells forms [] h = some_skippable forms h
whole_complete reads tells forms (text ∷ ws) h =
    whole_complete reads tells (after_word reads forms text) ws (has_after reads tells forms text ws h)
