-- The first error of an expression that is a word of a command, and the words of `expand`.
use Rattle.std.proofs.Common.{◌≡◌, ℕ, ◌+◌, ◌==◌, nat_lt, Bool, true, false, ◌&&◌, ◌||◌, cond, List, [], ◌∷◌, length, map, refl, sym, ap, ◌∙◌, subst, arith, Option, Some, None, option_map, Ok, Err, inl, inr}
use Rattle.std.specs.Prelude.{codes}
use Rattle.std.proofs.lemmas.Bool.Decides.{nat_tests}
use Rattle.sym_model.specs.Expansion.{Basis}
use Rattle.sym_model.specs.Phrase.{Phrase, SpellsPhrase, spelling, tree}
use Rattle.sym_model.specs.ExpressionOffence.{WordOffence, comes_first, earlier, first_of, offences}
use Rattle.sym_model.specs.Form.{words_of}
use Rattle.sym_model.specs.WordForms.{optional, form_words, is_one_line}
use Rattle.sym_model.specs.Command.{expand}
use Rattle.sym_model.specs.CommandOffence.{Offence, is_no_later, earlier_of, first_offence, offences_in_word}
use Rattle.sym_model.specs.Grammar.{expand_entry}
use Rattle.sym_model.specs.SyntaxPlace.{IsSyntaxPlace}
use Rattle.expression_laws.proofs.PhraseRuns.{one_phrase}
use Rattle.word_laws.specs.Words.{Words}
use Rattle.calc_base.specs.declared.words.Basis.{Basis as Letter}
use Rattle.expression_reading.specs.declared.formula.Formula.{Formula}
use Rattle.expression_reading.specs.declared.reading.ExpressionFault.{ExpressionFault}
use Rattle.expression_reading.specs.declared.reading.ExpressionFault.TheVariants.{Syntax as Wrong, Literal as Wide, Range as Past, Shape as Misshapen, NoMemory as Full}
use Rattle.expression_reading.specs.Reading.{IsRead as IsReadAs, IsReadBy, IsWrongByte}
use Rattle.expression_reading.specs.Trees.{basis_of, tree_of}
use Rattle.calc_words.specs.declared.command.Command.TheVariants.{Expand}
use Rattle.calc_words.specs.Parts.{AreCut, IsUnread, AreCutUnread}
use Rattle.calc_words.specs.declared.word_parts.Part.{Part}
use Rattle.calc_words.specs.declared.word_parts.Part.TheVariants.{MaybeForm, Target, Expression}
use Rattle.calc_words.specs.Reading.{IsRead, IsRefusal, IsFirst}
use Rattle.calc_words.proofs.Commands.{first_refused, read_standing}
use Rattle.calc_words.proofs.CutCommands.{has_of}
use Rattle.calc_language.specs.Reading.{placed}

-- an error of an expression, as an error of word k of the command
abbrev pub at_word : ℕ → WordOffence → Offence
at_word k o = (k, o.0, o.1)

same_word : (k : ℕ) (r : Bool) → (nat_lt k k || ((k == k) && r)) ≡ r
same_word k r = grind (arith, nat_tests)

pub same_order : (k : ℕ) (o p : WordOffence) → is_no_later (at_word k o) (at_word k p) ≡ comes_first o p
same_order k o p = same_word k (comes_first o p)

chosen : (k : ℕ) (o p : WordOffence) (b : Bool) → cond b (Some (at_word k o)) (Some (at_word k p)) ≡ option_map (at_word k) (cond b (Some o) (Some p))
chosen k o p true = refl
chosen k o p false = refl

earlier-placed : (k : ℕ) (o : WordOffence) (rest : Option WordOffence) → earlier_of (at_word k o) (option_map (at_word k) rest) ≡ option_map (at_word k) (earlier (Some o) rest)
earlier-placed k o None = refl
earlier-placed k o (Some p) =
    ap (λ b. cond b (Some (at_word k o)) (Some (at_word k p))) (same_order k o p) ∙ chosen k o p (comes_first o p)

pub first-placed : (k : ℕ) (os : List WordOffence) → first_offence (map (at_word k) os) ≡ option_map (at_word k) (first_of os)
first-placed k [] = refl
first-placed k (o ∷ os) = ap (earlier_of (at_word k o)) (first-placed k os) ∙ earlier-placed k o (first_of os)

placed_as : (k : ℕ) (offends : Phrase → List WordOffence) (w : List ℕ) (f g : Phrase) (first : Option WordOffence) → SpellsPhrase w f → SpellsPhrase w g
    → first_of (offends g) ≡ first → first_offence (offences_in_word k (offends f)) ≡ option_map (at_word k) first
placed_as k offends w f g first s r h =
    first-placed k (offends f) ∙ ap (option_map (at_word k)) (ap (λ p. first_of (offends p)) (one_phrase w f g s r) ∙ h)

-- let the word w, which is word k of the command, spell the expression f and be correctly refused with the fault e: then e, with the place in word k,
-- reports the first error of w
pub placed_first : (k : ℕ) (offends : Phrase → List WordOffence) (w : List ℕ) (f : Phrase) (e : ExpressionFault) → SpellsPhrase w f → IsReadBy offends w (Err e)
    → IsFirst (first_offence (offences_in_word k (offends f))) (placed k e)
placed_first k offends w f (Wrong byte) s h = h.0 f s
placed_first k offends w f (Wide byte) s h = placed_as k offends w f h.0 _ s h.1 h.2
placed_first k offends w f (Past byte) s h = placed_as k offends w f h.0 _ s h.1 h.2
placed_first k offends w f (Misshapen byte) s h = placed_as k offends w f h.0 _ s h.1 h.2
placed_first k offends w f Full s h = tt

-- if the word w spells the expression f and is correctly read as a `Formula`, f has no error
pub none_placed : (k : ℕ) (offends : Phrase → List WordOffence) (w : List ℕ) (f : Phrase) (x : Formula) → SpellsPhrase w f → IsReadBy offends w (Ok x)
    → first_offence (offences_in_word k (offends f)) ≡ None
none_placed k offends w f x s h = placed_as k offends w f h.0 None s h.1 h.2

pub tree_read : (offends : Phrase → List WordOffence) (w : List ℕ) (f : Phrase) (x : Formula) → SpellsPhrase w f → IsReadBy offends w (Ok x) → tree_of x.tree ≡ tree f
tree_read offends w f x s h = h.3 ∙ sym (ap tree (one_phrase w f h.0 s h.1))

-- ---- the words of `expand`, divided into parts

abbrev pub expand_parts : List Part
expand_parts = MaybeForm ∷ Target ∷ Expression ∷ []

pub expand_faulty : (words : Words) (places : List ℕ) (k : AreCut (codes "expand") expand_parts places words) (t : Basis) (at : ℕ) (e : ExpressionFault)
    → t ≡ k.parts.3.0 → at ≡ 1 + length (words_of (optional form_words) k.parts.0) + 1 → IsReadAs t (spelling k.parts.3.3.0) (Err e)
    → IsRefusal (expand_entry ∷ []) words (placed at e)
expand_faulty words places k t at e h i read =
    let n = length (words_of (optional form_words) k.parts.0) in
    let same : 2 + n ≡ at = omega (arith, i) in
    first_refused expand_entry words (has_of (codes "expand") expand_parts places words k) (placed at e)
    (subst (λ m. IsFirst (first_offence (offences_in_word m (offences k.parts.3.0 k.parts.3.3.0))) (placed at e)) (sym same)
    (placed_first at (offences k.parts.3.0) (spelling k.parts.3.3.0) k.parts.3.3.0 e (record { allowed = k.parts.3.3.1; spelled = refl })
    (subst (λ b. IsReadAs b (spelling k.parts.3.3.0) (Err e)) h read)))

pub expand_fine : (words : Words) (places : List ℕ) (k : AreCut (codes "expand") expand_parts places words) (b : Letter) (m : Bool) (x : Formula)
    → basis_of b ≡ k.parts.3.0 → m ≡ is_one_line k.parts.0 → IsReadAs (basis_of b) (spelling k.parts.3.3.0) (Ok x)
    → IsRead (expand_entry ∷ []) words (Ok (Expand b m x))
expand_fine words places k b m x h i read =
    let f = k.parts.3.3.0 in
    let spells : SpellsPhrase (spelling f) f = record { allowed = k.parts.3.3.1; spelled = refl } in
    let n = length (words_of (optional form_words) k.parts.0) in
    read_standing expand_entry words (has_of (codes "expand") expand_parts places words k) (expand (basis_of b) m (tree f))
    (ap (λ t. expand t m (tree f)) h ∙ ap (λ l. expand k.parts.3.0 l (tree f)) i) (Ok (Expand b m x)) (
      (ap (expand (basis_of b) m) (tree_read (offences (basis_of b)) (spelling f) f x spells read), tt),
      none_placed (2 + n) (offences k.parts.3.0) (spelling f) f x spells (subst (λ t. IsReadAs t (spelling f) (Ok x)) h read),
    )

-- let the words be the name and the parts of a command, or let the last part, the word v, not have been tested (`AreCutUnread`). If v spells an
-- expression, the words are the name and the parts (`AreCut`)
pub cut_of : (name : List ℕ) (ps : List Part) (places : List ℕ) (words : Words) (v : List ℕ) → AreCutUnread name ps places words
    → ((u : IsUnread name ps places words) → v ≡ u.text) → (f : Phrase) → SpellsPhrase v f → AreCut name ps places words
cut_of name ps places words v (inl a) e f s = a
cut_of name ps places words v (inr u) e f s = u.spelled f (subst (λ w. SpellsPhrase w f) (e u) s)

pub expand_refused : (words : Words) (places : List ℕ) (k : AreCutUnread (codes "expand") expand_parts places words) (t : Basis) (at : ℕ) (v : List ℕ)
    (e : ExpressionFault) → ((u : IsUnread (codes "expand") expand_parts places words) → (at ≡ u.at) × (v ≡ u.text))
    → ((j : AreCut (codes "expand") expand_parts places words)
    → (t ≡ j.parts.3.0) × (at ≡ 1 + length (words_of (optional form_words) j.parts.0) + 1) × (v ≡ spelling j.parts.3.3.0))
    → IsReadAs t v (Err e) → IsRefusal (expand_entry ∷ []) words (placed at e)
expand_refused words places k t at v e unread cut read = by k e read
  where
    known : (j : AreCut (codes "expand") expand_parts places words) (e : ExpressionFault) → IsReadAs t v (Err e) → IsRefusal (expand_entry ∷ []) words (placed at e)
    known j e read =
        let h = cut j in expand_faulty words places j t at e h.0 h.1 (subst (λ w. IsReadAs t w (Err e)) h.2 read)

    spelled : (u : IsUnread (codes "expand") expand_parts places words) (f : Phrase) → SpellsPhrase v f → AreCut (codes "expand") expand_parts places words
    spelled u f s = u.spelled f (subst (λ w. SpellsPhrase w f) (unread u).1 s)

    by : AreCutUnread (codes "expand") expand_parts places words → (e : ExpressionFault) → IsReadAs t v (Err e)
        → IsRefusal (expand_entry ∷ []) words (placed at e)
    by (inl j) e read = known j e read
    by (inr u) (Wrong byte) read =
        let h = unread u in
        subst (λ n. IsSyntaxPlace (expand_entry ∷ []) words n byte) (sym h.0)
        (u.wrong byte (subst (λ w. IsWrongByte w byte) h.1 read) expand_entry refl)
    by (inr u) (Wide byte) read = known (spelled u read.0 read.1) (Wide byte) read
    by (inr u) (Past byte) read = known (spelled u read.0 read.1) (Past byte) read
    by (inr u) (Misshapen byte) read = known (spelled u read.0 read.1) (Misshapen byte) read
    by (inr u) Full read = tt
