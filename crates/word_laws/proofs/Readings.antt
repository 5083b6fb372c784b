-- If a form, a pattern of words, is unambiguous, then a list of words denotes at most one value of the form.
use Rattle.std.proofs.Common.{◌≡◌, ℕ, Bool, true, false, not, ◌&&◌, cond, List, [], ◌∷◌, ◌++◌, append_assoc, refl, sym, ap, ◌∙◌, subst, inl, inr, flat_map, rules}
use Rattle.std.specs.Prelude.{codes}
use Rattle.std.proofs.lemmas.Bool.{and_parts, and_from}
use Rattle.sym_model.specs.Sum.{Among}
use Rattle.sym_model.specs.Polynomial.{same}
use Rattle.sym_model.proofs.Exponents.{same_from}
use Rattle.sym_model.proofs.Sums.{Among-append_left, Among-append_right}
use Rattle.sym_model.specs.Expansion.{Basis, monomials, elementaries, completes, power_sums, schurs}
use Rattle.sym_model.specs.Phrase.{Phrase, letter, SpellsPhrase}
use Rattle.sym_model.specs.NumberWord.{IsNumberWord}
use Rattle.sym_model.specs.Form.{Class, exact, number, target, formula, WrittenWord, word_of, MayBe, Form, empty, word, sequence, either, many, Written, words_of, May, Has, is_number_word, is_letter_of, is_skippable}
use Rattle.word_laws.specs.OneReading.{is_apart, is_apart_from, are_apart, firsts, continuing, is_unambiguous}
use Rattle.word_laws.proofs.Classes.{number_complete, letter_complete}
use Rattle.word_laws.proofs.Derivatives.{skippable}
use Rattle.word_laws.specs.Words.{Words}

-- a word spells at most one phrase
abbrev pub OnePhrase : Type 0
OnePhrase = (text : List ℕ) (p q : Phrase) → SpellsPhrase text p → SpellsPhrase text q → p ≡ q

not_both : (b : Bool) → not b ≡ true → b ≡ true → ⊥
not_both true h k = cc
not_both false h k = cc

apart_sound : (c d : Class) → is_apart c d ≡ true → (x : WrittenWord c) (y : WrittenWord d) → MayBe c x → MayBe d y
    → word_of c x ≡ word_of d y → ⊥
apart_sound (exact a) (exact b) h x y m n e = not_both (same a b) h (same_from a b e)
apart_sound (exact a) number h x y m n e =
    not_both (is_number_word a) h (number_complete a (subst IsNumberWord (sym e) n))
apart_sound (exact a) (target bases) h x y m n e =
    not_both (is_letter_of bases a) h (subst (λ t. is_letter_of bases t ≡ true) (sym e) (letter_complete bases y n))
apart_sound (exact a) formula h x y m n e = cc
apart_sound number (exact b) h x y m n e =
    not_both (is_number_word b) h (number_complete b (subst IsNumberWord e m))
apart_sound number number h x y m n e = cc
apart_sound number (target bases) h x y m n e = cc
apart_sound number formula h x y m n e = cc
apart_sound (target bases) (exact b) h x y m n e =
    not_both (is_letter_of bases b) h (subst (λ t. is_letter_of bases t ≡ true) e (letter_complete bases x m))
apart_sound (target bases) number h x y m n e = cc
apart_sound (target bases) (target others) h x y m n e = cc
apart_sound (target bases) formula h x y m n e = cc
apart_sound formula d h x y m n e = cc

apart_from : (c d : Class) (ds : List Class) → is_apart_from c ds ≡ true → Among d ds → is_apart c d ≡ true
apart_from c d [] h m = absurd m
apart_from c d (k ∷ ds) h (inl e) =
    subst (λ j. is_apart c j ≡ true) (sym e) (and_parts (is_apart c k) (is_apart_from c ds) h).0
apart_from c d (k ∷ ds) h (inr m) = apart_from c d ds (and_parts (is_apart c k) (is_apart_from c ds) h).1 m

apart_each : (c d : Class) (cs ds : List Class) → are_apart cs ds ≡ true → Among c cs → Among d ds → is_apart c d ≡ true
apart_each c d [] ds h m n = absurd m
apart_each c d (k ∷ cs) ds h (inl e) n =
    subst (λ j. is_apart j d ≡ true) (sym e) (apart_from k d ds (and_parts (is_apart_from k ds) (are_apart cs ds) h).0 n)
apart_each c d (k ∷ cs) ds h (inr m) n =
    apart_each c d cs ds (and_parts (is_apart_from k ds) (are_apart cs ds) h).1 m n

-- the word is of one of the classes
pub record OfOne (cs : List Class) (text : List ℕ) : Type 0 where
  pub class : Class
  pub among : Among class cs
  pub written : WrittenWord class
  pub allowed : MayBe class written
  pub spelled : text ≡ word_of class written

pub never_both : (cs ds : List Class) (text : List ℕ) → are_apart cs ds ≡ true → OfOne cs text → OfOne ds text → ⊥
never_both cs ds text h o p = search (rules, apart_sound, apart_each)

pub of_left : (cs ds : List Class) (text : List ℕ) → OfOne cs text → OfOne (cs ++ ds) text
of_left cs ds text o = search (rules, Among-append_left)

pub of_right : (cs ds : List Class) (text : List ℕ) → OfOne ds text → OfOne (cs ++ ds) text
of_right cs ds text o = search (rules, Among-append_right)

pub of_cond : (b : Bool) (cs : List Class) (text : List ℕ) → b ≡ true → OfOne cs text → OfOne (cond b cs []) text
of_cond true cs text h o = o
of_cond false cs text h o = cc

-- the list of words is empty or begins with a word that is of none of the classes
abbrev pub Unlike : List Class → Words → Type 0
Unlike cs [] = Unit {0}
Unlike cs (text ∷ ws) = OfOne cs text → ⊥

pub unlike : (cs ds : List Class) (ws : Words) → ((text : List ℕ) → OfOne cs text → OfOne ds text) → Unlike ds ws → Unlike cs ws
unlike cs ds [] h u = tt
unlike cs ds (text ∷ ws) h u = λ o. u (h text o)

pub unlike_word : (cs : List Class) (text : List ℕ) (ws vs : Words) → Unlike cs ws → ws ≡ text ∷ vs → OfOne cs text → ⊥
unlike_word cs text [] vs u e o = cc
unlike_word cs text (t ∷ ws) vs u e o = let k : text ≡ t = cc in u (subst (OfOne cs) k o)

-- a list of words is empty, or it is a first word followed by further words
pub data View (ws : Words) : Type 0 where
  none : ws ≡ [] → View ws
  some : (text : List ℕ) (rest : Words) → ws ≡ text ∷ rest → View ws

pub view : (ws : Words) → View ws
view [] = none refl
view (text ∷ ws) = some text ws refl

-- the first word of a list of words of the form f is of one of the classes `firsts f`
pub first_word : (f : Form) (x : Written f) → May f x → (text : List ℕ) (ws : Words) → words_of f x ≡ text ∷ ws → OfOne (firsts f) text
first_word empty x a text ws h = cc
first_word (word c) x a text ws h = record { class = c; among = inl refl; written = x; allowed = a; spelled = cc }
first_word (sequence f g) x a text ws h = by (view (words_of f x.0)) (first_word f x.0 a.0) (first_word g x.1 a.1)
  where
    by : View (words_of f x.0)
        → ((text : List ℕ) (ws : Words) → words_of f x.0 ≡ text ∷ ws → OfOne (firsts f) text)
        → ((text : List ℕ) (ws : Words) → words_of g x.1 ≡ text ∷ ws → OfOne (firsts g) text)
        → OfOne (firsts f ++ cond (is_skippable f) (firsts g) []) text
    by (none e) l r =
        of_right (firsts f) (cond (is_skippable f) (firsts g) []) text
        (of_cond (is_skippable f) (firsts g) text (skippable f x.0 e)
        (r text ws (subst (λ us. us ++ words_of g x.1 ≡ text ∷ ws) e h)))
    by (some t rest e) l r =
        let k : t ∷ (rest ++ words_of g x.1) ≡ text ∷ ws = subst (λ us. us ++ words_of g x.1 ≡ text ∷ ws) e h in
        let n : t ≡ text = cc in
        of_left (firsts f) (cond (is_skippable f) (firsts g) []) text (subst (OfOne (firsts f)) n (l t rest e))
first_word (either f g) (inl x) a text ws h = of_left (firsts f) (firsts g) text (first_word f x a text ws h)
first_word (either f g) (inr x) a text ws h = of_right (firsts f) (firsts g) text (first_word g x a text ws h)
first_word (many f) xs a text ws h = of_many f (first_word f) xs a text ws h
  where
    of_many : (f : Form) → ((x : Written f) → May f x → (text : List ℕ) (ws : Words) → words_of f x ≡ text ∷ ws → OfOne (firsts f) text)
        → (xs : List (Written f)) → May (many f) xs → (text : List ℕ) (ws : Words) → flat_map (words_of f) xs ≡ text ∷ ws → OfOne (firsts f) text
    of_many f l [] a text ws h = cc
    of_many f l (x ∷ xs) a text ws h = by (view (words_of f x)) (of_many f l xs a.1 text ws)
      where
        by : View (words_of f x) → (flat_map (words_of f) xs ≡ text ∷ ws → OfOne (firsts f) text) → OfOne (firsts f) text
        by (none e) again = again (subst (λ us. us ++ flat_map (words_of f) xs ≡ text ∷ ws) e h)
        by (some t rest e) again =
            let k : t ∷ (rest ++ flat_map (words_of f) xs) ≡ text ∷ ws = subst (λ us. us ++ flat_map (words_of f) xs ≡ text ∷ ws) e h in
            let n : t ≡ text = cc in subst (OfOne (firsts f)) n (l x a.0 t rest e)

-- let no word of the classes cs be a first word of f (`are_apart`). If f allows the empty list, let r not begin with a word of these classes. Then
-- words of f followed by r do not begin with a word of these classes
pub unlike_front : (cs : List Class) (f : Form) (x : Written f) → May f x → (r : Words) → are_apart cs (firsts f) ≡ true
    → (is_skippable f ≡ true → Unlike cs r) → Unlike cs (words_of f x ++ r)
unlike_front cs f x a r h u = by (view (words_of f x))
  where
    by : View (words_of f x) → Unlike cs (words_of f x ++ r)
    by (none e) = subst (λ us. Unlike cs (us ++ r)) (sym e) (u (skippable f x e))
    by (some t rest e) =
        subst (λ us. Unlike cs (us ++ r)) (sym e) (λ o. never_both cs (firsts f) t h o (first_word f x a t rest e))

abbrev basis_of : List ℕ → Basis
basis_of [] = schurs
basis_of (b ∷ bs) = cond (same (b ∷ []) (codes "m")) monomials (cond (same (b ∷ []) (codes "e")) elementaries (cond (same (b ∷ []) (codes "h")) completes (cond (same (b ∷ []) (codes "p")) power_sums schurs)))

basis_of-letter : (b : Basis) → basis_of (letter b) ≡ b
basis_of-letter monomials = refl
basis_of-letter elementaries = refl
basis_of-letter completes = refl
basis_of-letter power_sums = refl
basis_of-letter schurs = refl

pub letter_once : (b c : Basis) → letter b ≡ letter c → b ≡ c
letter_once b c h = sym (basis_of-letter b) ∙ ap basis_of h ∙ basis_of-letter c

one_word : OnePhrase → (c : Class) (x y : WrittenWord c) → MayBe c x → MayBe c y → word_of c x ≡ word_of c y → x ≡ y
one_word one (exact w) x y a b h = refl
one_word one number x y a b h = h
one_word one (target bases) x y a b h = letter_once x y h
one_word one formula x y a b h =
    one (word_of formula x) x y (record { allowed = a; spelled = refl }) (record { allowed = b; spelled = h })

-- a list of words can be cut in only one way into words of the form f and further words, if the further words do not begin with a word that can
-- continue words of f; and the words of f denote only one value of f
abbrev pub ReadsOnce : Form → Type 0
ReadsOnce f =
    (x y : Written f) → May f x → May f y → (r s : Words) → words_of f x ++ r ≡ words_of f y ++ s
    → Unlike (continuing f) r → Unlike (continuing f) s → (x ≡ y) × (r ≡ s)

sequence_once : (f g : Form) → ReadsOnce f → ReadsOnce g → are_apart (continuing f) (firsts g) ≡ true → ReadsOnce (sequence f g)
sequence_once f g l k d x y a b r s h u v =
    let first =
    l x.0 y.0 a.0 b.0 (words_of g x.1 ++ r) (words_of g y.1 ++ s)
    (sym (append_assoc (words_of f x.0) (words_of g x.1) r) ∙ h ∙ append_assoc (words_of f y.0) (words_of g y.1) s)
    (unlike_front (continuing f) g x.1 a.1 r d (λ e. first_unlike e r u))
    (unlike_front (continuing f) g y.1 b.1 s d (λ e. first_unlike e s v)) in
    let second = k x.1 y.1 a.1 b.1 r s first.1 (second_unlike r u) (second_unlike s v) in
    (same_pair x.0 y.0 x.1 y.1 first.0 second.0, second.1)
  where
    first_unlike : is_skippable g ≡ true → (ws : Words) → Unlike (continuing g ++ cond (is_skippable g) (continuing f) []) ws → Unlike (continuing f) ws
    first_unlike e ws w =
        unlike (continuing f) (continuing g ++ cond (is_skippable g) (continuing f) []) ws
        (λ text o. of_right (continuing g) (cond (is_skippable g) (continuing f) []) text (of_cond (is_skippable g) (continuing f) text e o)) w

    second_unlike : (ws : Words) → Unlike (continuing g ++ cond (is_skippable g) (continuing f) []) ws → Unlike (continuing g) ws
    second_unlike ws w =
        unlike (continuing g) (continuing g ++ cond (is_skippable g) (continuing f) []) ws
        (λ text o. of_left (continuing g) (cond (is_skippable g) (continuing f) []) text o) w

    same_pair : (p q : Written f) (m n : Written g) → p ≡ q → m ≡ n → ◌≡◌ {A = Written f × Written g} (p, m) (q, n)
    same_pair p q m n e k = ap (λ (z : Written f). (z, m)) e ∙ ap (λ (z : Written g). (q, z)) k

-- let f and g have no first word in common, and not both allow the empty list. If f allows the empty list, let r not begin with a first word of g; if
-- g allows the empty list, let s not begin with a first word of f. Then words of f followed by r are not words of g followed by s
pub told_apart : (f g : Form) (x : Written f) (y : Written g) → May f x → May g y → (r s : Words)
    → words_of f x ++ r ≡ words_of g y ++ s → are_apart (firsts f) (firsts g) ≡ true → not (is_skippable f && is_skippable g) ≡ true
    → (is_skippable f ≡ true → Unlike (firsts g) r) → (is_skippable g ≡ true → Unlike (firsts f) s) → ⊥
told_apart f g x y a b r s h d n u v = by (view (words_of f x)) (view (words_of g y))
  where
    by : View (words_of f x) → View (words_of g y) → ⊥
    by (none e) (none k) =
        not_both (is_skippable f && is_skippable g) n (and_from (is_skippable f) (is_skippable g) (skippable f x e) (skippable g y k))
    by (none e) (some t ts k) =
        let i : r ≡ t ∷ (ts ++ s) =
        ap (λ us. us ++ r) (sym e) ∙ h ∙ ap (λ us. us ++ s) k in
        unlike_word (firsts g) t r (ts ++ s) (u (skippable f x e)) i (first_word g y b t ts k)
    by (some t ts e) (none k) =
        let i : s ≡ t ∷ (ts ++ r) =
        ap (λ us. us ++ s) (sym k) ∙ sym h ∙ ap (λ us. us ++ r) e in
        unlike_word (firsts f) t s (ts ++ r) (v (skippable g y k)) i (first_word f x a t ts e)
    by (some t ts e) (some z zs k) =
        let i : t ∷ (ts ++ r) ≡ z ∷ (zs ++ s) =
        ap (λ us. us ++ r) (sym e) ∙ h ∙ ap (λ us. us ++ s) k in
        let j : t ≡ z = cc in
        never_both (firsts f) (firsts g) t d (first_word f x a t ts e) (first_word g y b t zs (k ∙ ap (λ w. w ∷ zs) (sym j)))

either_once : (f g : Form) → ReadsOnce f → ReadsOnce g → are_apart (firsts f) (firsts g) ≡ true
    → not (is_skippable f && is_skippable g) ≡ true → ReadsOnce (either f g)
either_once f g l k d n = once
  where
    into_g : is_skippable f ≡ true → (ws : Words) → Unlike (continuing (either f g)) ws → Unlike (firsts g) ws
    into_g e ws w =
        unlike (firsts g) (continuing (either f g)) ws
        (λ text o. of_right (continuing f) _ text (of_right (continuing g) _ text
        (of_left (cond (is_skippable f) (firsts g) []) _ text (of_cond (is_skippable f) (firsts g) text e o)))) w

    into_f : is_skippable g ≡ true → (ws : Words) → Unlike (continuing (either f g)) ws → Unlike (firsts f) ws
    into_f e ws w =
        unlike (firsts f) (continuing (either f g)) ws
        (λ text o. of_right (continuing f) _ text (of_right (continuing g) _ text
        (of_right (cond (is_skippable f) (firsts g) []) _ text (of_cond (is_skippable g) (firsts f) text e o)))) w

    once : ReadsOnce (either f g)
    once (inl x) (inl y) a b r s h u v =
        let p = l x y a b r s h (left r u) (left s v) in (ap inl p.0, p.1)
      where
        left : (ws : Words) → Unlike (continuing (either f g)) ws → Unlike (continuing f) ws
        left ws w = unlike (continuing f) (continuing (either f g)) ws (λ text o. of_left (continuing f) _ text o) w
    once (inr x) (inr y) a b r s h u v =
        let p = k x y a b r s h (right r u) (right s v) in (ap inr p.0, p.1)
      where
        right : (ws : Words) → Unlike (continuing (either f g)) ws → Unlike (continuing g) ws
        right ws w =
            unlike (continuing g) (continuing (either f g)) ws
            (λ text o. of_right (continuing f) _ text (of_left (continuing g) _ text o)) w
    once (inl x) (inr y) a b r s h u v =
        absurd (told_apart f g x y a b r s h d n (λ e. into_g e r u) (λ e. into_f e s v))
    once (inr x) (inl y) a b r s h u v =
        absurd (told_apart f g y x b a s r (sym h) d n (λ e. into_g e s v) (λ e. into_f e r u))

many_once : (f : Form) → ReadsOnce f → not (is_skippable f) ≡ true → are_apart (continuing f) (firsts f) ≡ true → ReadsOnce (many f)
many_once f l n d = once
  where
    never : is_skippable f ≡ true → ⊥
    never e = not_both (is_skippable f) n e

    starts : (ws : Words) → Unlike (continuing (many f)) ws → Unlike (firsts f) ws
    starts ws w = unlike (firsts f) (continuing (many f)) ws (λ text o. of_left (firsts f) (continuing f) text o) w

    goes_on : (ws : Words) → Unlike (continuing (many f)) ws → Unlike (continuing f) ws
    goes_on ws w = unlike (continuing f) (continuing (many f)) ws (λ text o. of_right (firsts f) (continuing f) text o) w

    behind : (xs : List (Written f)) → May (many f) xs → (r : Words) → Unlike (continuing (many f)) r → Unlike (continuing f) (flat_map (words_of f) xs ++ r)
    behind [] a r u = goes_on r u
    behind (x ∷ xs) a r u =
        subst (Unlike (continuing f)) (sym (append_assoc (words_of f x) (flat_map (words_of f) xs) r))
        (unlike_front (continuing f) f x a.0 (flat_map (words_of f) xs ++ r) d (λ e. absurd (never e)))

    not_more : (x : Written f) (xs : List (Written f)) → May f x → (r s : Words) → Unlike (firsts f) r
        → r ≡ (words_of f x ++ flat_map (words_of f) xs) ++ s → ⊥
    not_more x xs a r s u h = by (view (words_of f x))
      where
        by : View (words_of f x) → ⊥
        by (none e) = never (skippable f x e)
        by (some t ts e) =
            unlike_word (firsts f) t r ((ts ++ flat_map (words_of f) xs) ++ s) u
            (h ∙ ap (λ us. (us ++ flat_map (words_of f) xs) ++ s) e)
            (first_word f x a t ts e)

    once : ReadsOnce (many f)
    once [] [] a b r s h u v = (refl, h)
    once [] (y ∷ ys) a b r s h u v = absurd (not_more y ys b.0 r s (starts r u) h)
    once (x ∷ xs) [] a b r s h u v = absurd (not_more x xs a.0 s r (starts s v) (sym h))
    once (x ∷ xs) (y ∷ ys) a b r s h u v =
        let first =
        l x y a.0 b.0 (flat_map (words_of f) xs ++ r) (flat_map (words_of f) ys ++ s)
        (sym (append_assoc (words_of f x) (flat_map (words_of f) xs) r) ∙ h ∙ append_assoc (words_of f y) (flat_map (words_of f) ys) s)
        (behind xs a.1 r u)
        (behind ys b.1 s v) in
        let second = once xs ys a.1 b.1 r s first.1 u v in
        (ap (λ z. z ∷ xs) first.0 ∙ ap (λ zs. y ∷ zs) second.0, second.1)

word_once : OnePhrase → (c : Class) → ReadsOnce (word c)
word_once one c x y a b r s e u v =
    let p : word_of c x ≡ word_of c y = cc in let q : r ≡ s = cc in (one_word one c x y a b p, q)

pub reads_once : OnePhrase → (f : Form) → is_unambiguous f ≡ true → ReadsOnce f
reads_once one empty h = λ x y a b r s e u v. (refl, e)
reads_once one (word c) h = word_once one c
reads_once one (sequence f g) h =
    let p = and_parts (is_unambiguous f) (is_unambiguous g && are_apart (continuing f) (firsts g)) h in
    let q = and_parts (is_unambiguous g) (are_apart (continuing f) (firsts g)) p.1 in
    sequence_once f g (reads_once one f p.0) (reads_once one g q.0) q.1
reads_once one (either f g) h =
    let p = and_parts (is_unambiguous f) (is_unambiguous g && (are_apart (firsts f) (firsts g) && not (is_skippable f && is_skippable g))) h in
    let q = and_parts (is_unambiguous g) (are_apart (firsts f) (firsts g) && not (is_skippable f && is_skippable g)) p.1 in
    let k = and_parts (are_apart (firsts f) (firsts g)) (not (is_skippable f && is_skippable g)) q.1 in
    either_once f g (reads_once one f p.0) (reads_once one g q.0) k.0 k.1
reads_once one (many f) h =
    let p = and_parts (is_unambiguous f) (not (is_skippable f) && are_apart (continuing f) (firsts f)) h in
    let q = and_parts (not (is_skippable f)) (are_apart (continuing f) (firsts f)) p.1 in
    many_once f (reads_once one f p.0) q.0 q.1

-- if a word spells at most one phrase, words of an unambiguous form f denote only one value of f
pub one_written : OnePhrase → (f : Form) → is_unambiguous f ≡ true → (ws : Words) (h k : Has f ws) → h.written ≡ k.written
one_written one f u ws h k =
    (reads_once one f u h.written k.written h.allowed k.allowed [] []
    (ap (λ us. us ++ []) (sym h.spelled ∙ k.spelled)) tt tt).0
