-- The first error of a word that is an expression. A *mark* is a number, a denominator or an opening parenthesis of the word, with the byte at
-- which it begins.
use Rattle.std.proofs.Common.{◌≡◌, ℕ, ◌+◌, ◌<◌, ◌≤◌, nat_lt, max, Bool, true, false, ◌||◌, cond, List, [], ◌∷◌, ◌++◌, length, length-append, map, refl, sym, ap, ◌∙◌, subst, arith, Option, Some, None, option_map, ◌⊎◌, inl, inr, ⊎_elim, flat_map}
use Rattle.std.proofs.lemmas.Bool.Decides.{nat_tests}
use Rattle.std.proofs.lemmas.Bool.{cases_lt, or_cases, lt-ltb, le-ltb, ltb-true}
use Rattle.std.specs.Prelude.{codes, Result, Ok, Err, IfOk}
use Rattle.std.specs.Bool.{then_some}
use Rattle.sym_model.specs.Expansion.{Basis}
use Rattle.sym_model.specs.Partition.{size, without_last_zeros}
use Rattle.sym_model.specs.Expression.{Tree, degree, nesting}
use Rattle.sym_model.specs.PrintedBlock.{decimal_value}
use Rattle.sym_model.specs.NumberWord.{AreNumberWords, comma_separated}
use Rattle.sym_model.specs.Phrase.{Operator, plus, minus, times, Phrase, numeral, ratio, label, brackets, minus_first, operation, Level, expression, term, level_of, level_after, Is, tree, join_trees, spelling, SpellsPhrase}
use Rattle.sym_model.specs.ExpressionOffence.{OffenceKind, range, Mark, marks, entry_marks, offences_at, offences_of_whole_within, offences_within, WordOffence, earlier, first_of, comes_first}
use Rattle.sym_model.proofs.Parts.{size-in_front}
use Rattle.expression_laws.proofs.SignRuns.{joined-length}
use Rattle.expression_reading.specs.declared.reading.ExpressionFault.{ExpressionFault}
use Rattle.expression_reading.specs.declared.reading.ExpressionFault.TheVariants.{Syntax, Literal, Range as FRange, Shape, NoMemory}
use Rattle.expression_reading.specs.declared.formula.Formula.{Formula}
use Rattle.expression_reading.specs.declared.offence.Offence.{Offence as ReaderOffence}
use Rattle.expression_reading.specs.declared.offence.Kind.TheVariants.{Range}
use Rattle.expression_reading.specs.declared.scan.Scan.{Scan}
use Rattle.expression_reading.specs.declared.expr.Expr.{Expr}
use Rattle.expression_reading.specs.Trees.{tree_of, IsFormula}
use Rattle.expression_reading.specs.Reading.{IsReadBy, IsFaultOf}
use Rattle.expression_reading.specs.Offences.{first_kind, offence_in}
use Rattle.expression_reading.specs.ScanSteps.{any_high, is_high}
use Rattle.expression_reading.specs.Building.{Built, built_of, AreMild}
use Rattle.expression_reading.proofs.ScanFacts.{letter-length}
use Rattle.expression_reading.proofs.FirstOffences.{earlier-assoc, first_of-append, first-append, first-one, any_high-append}

-- ---- marks without an error and without a number of an atom over 20, the greatest degree, are mild (`IsMild`)
none_left : (a b : Option WordOffence) → earlier a b ≡ None → a ≡ None
none_left None b h = refl
none_left (Some o) None h = cc
none_left (Some o) (Some p) h = by (comes_first o p) h
  where
    by : (c : Bool) → cond c (Some o) (Some p) ≡ None → Some o ≡ None
    by true e = e
    by false e = cc

none_right : (a b : Option WordOffence) → earlier a b ≡ None → b ≡ None
none_right None b h = h
none_right (Some o) None h = refl
none_right (Some o) (Some p) h = let e = none_left (Some o) (Some p) h in cc

kind_none : (b : ℕ) (k : Option OffenceKind) → option_map {U = WordOffence} (λ kind. (b, kind)) k ≡ None → k ≡ None
kind_none b None h = refl
kind_none b (Some k) h = cc

or_left : (a b : Bool) → (a || b) ≡ false → a ≡ false
or_left true b h = cc
or_left false b h = refl

or_right : (a b : Bool) → (a || b) ≡ false → b ≡ false
or_right true b h = cc
or_right false b h = h

pub mild-from : (ms : List (ℕ × Mark)) → first_of (flat_map offences_at ms) ≡ None → any_high ms ≡ false → AreMild ms
mild-from [] h k = tt
mild-from (m ∷ ms) h k =
    let both = sym (first-append (m ∷ []) ms) ∙ h in (
      (kind_none m.0 (first_kind m.1) (sym (first-one m) ∙ none_left _ _ both), or_left (is_high m.1) (any_high ms) k),
      mild-from ms (none_right (first_of (flat_map offences_at (m ∷ []))) _ both) (or_right (is_high m.1) (any_high ms) k),
    )

high-entries : (b k : ℕ) (before : Option ℕ) (ws : List (List ℕ)) → any_high (entry_marks b k before ws) ≡ true → 20 < size (without_last_zeros (map decimal_value ws))
high-entries b k before [] h = cc
high-entries b k before (w ∷ ws) h =
    let sized = size-in_front (decimal_value w) (without_last_zeros (map decimal_value ws)) in
    ⊎_elim
    (λ here. omega (arith, ltb-true 20 (decimal_value w) here, sized))
    (λ later. omega (arith, high-entries (b + length w + 1) (k + 1) (Some (decimal_value w)) ws later, sized))
    (or_cases (nat_lt 20 (decimal_value w)) _ h)

degree-joined_left : (operator : Operator) (e f : Tree) → degree e ≤ degree (join_trees operator e f)
degree-joined_left plus e f = omega arith
degree-joined_left minus e f = omega arith
degree-joined_left times e f = omega arith

degree-joined_right : (operator : Operator) (e f : Tree) → degree f ≤ degree (join_trees operator e f)
degree-joined_right plus e f = omega arith
degree-joined_right minus e f = omega arith
degree-joined_right times e f = omega arith

pub high-degree : (d b : ℕ) (e : Phrase) → any_high (marks d b e) ≡ true → 20 < degree (tree e)
high-degree d b (numeral ds) h = cc
high-degree d b (ratio n k) h = cc
high-degree d b (label basis ws) h = high-entries (b + 2) 0 None ws h
high-degree d b (brackets e) h = high-degree (d + 1) (b + 1) e h
high-degree d b (minus_first e) h = high-degree d (b + 1) e h
high-degree d b (operation operator l r) h =
    ⊎_elim
    (λ (x : any_high (marks d b l) ≡ true). omega (arith, high-degree d b l x, degree-joined_left operator (tree l) (tree r)))
    (λ (y : any_high (marks d (b + length (spelling l) + 1) r) ≡ true).
    omega (arith, high-degree d (b + length (spelling l) + 1) r y, degree-joined_right operator (tree l) (tree r)))
    (or_cases _ _ (sym (any_high-append (marks d b l) (marks d (b + length (spelling l) + 1) r)) ∙ h))

nesting-joined : (operator : Operator) (e f : Tree) → nesting (join_trees operator e f) ≡ max (nesting e) (nesting f) + 1
nesting-joined plus e f = refl
nesting-joined minus e f = refl
nesting-joined times e f = refl

pub nesting-within : (level : Level) (e : Phrase) → Is level e → nesting (tree e) ≤ length (spelling e)
nesting-within level (numeral ds) h = omega (arith, h.nonempty)
nesting-within level (ratio n k) h = simp length-append (omega arith)
nesting-within level (label basis ws) h = simp length-append (omega arith)
nesting-within level (brackets e) h = simp length-append (omega (arith, nesting-within expression e h))
nesting-within level (minus_first e) h = omega (arith, nesting-within term e h.1)
nesting-within level (operation operator l r) h =
    omega (
      arith,
      nesting-joined operator (tree l) (tree r),
      joined-length operator l r,
      nesting-within (level_of operator) l h.1,
      nesting-within (level_after operator) r h.2,
    )

-- each mark (what begins at a byte: a number, a denominator or a parenthesis) is at a byte below n
abbrev AreBelow : ℕ → List (ℕ × Mark) → Type 0
AreBelow n [] = Unit {0}
AreBelow n (m ∷ ms) = (m.0 < n) × AreBelow n ms

below-append : (n : ℕ) (ms ns : List (ℕ × Mark)) → AreBelow n ms → AreBelow n ns → AreBelow n (ms ++ ns)
below-append n [] ns h k = k
below-append n (m ∷ ms) ns h k = (h.0, below-append n ms ns h.1 k)

below-more : (n k : ℕ) (ms : List (ℕ × Mark)) → n ≤ k → AreBelow n ms → AreBelow k ms
below-more n k [] h l = tt
below-more n k (m ∷ ms) h l = (omega (arith, h, l.0), below-more n k ms h l.1)

entries-below : (b k : ℕ) (before : Option ℕ) (ws : List (List ℕ)) → AreNumberWords ws → AreBelow (b + length (comma_separated ws)) (entry_marks b k before ws)
entries-below b k before [] h = tt
entries-below b k before (w ∷ []) h = (omega (arith, h.0.nonempty), tt)
entries-below b k before (w ∷ v ∷ ws) h =
    let rest = comma_separated (v ∷ ws) in
    let more : b + length w + 1 + length rest ≤ b + length (w ++ (codes "," ++ rest)) = simp length-append (omega arith) in
    let first : b < b + length (w ++ (codes "," ++ rest)) = simp length-append (omega (arith, h.0.nonempty)) in (
      first,
      below-more (b + length w + 1 + length rest) (b + length (w ++ (codes "," ++ rest)))
          (entry_marks (b + length w + 1) (k + 1) (Some (decimal_value w)) (v ∷ ws)) more
          (entries-below (b + length w + 1) (k + 1) (Some (decimal_value w)) (v ∷ ws) h.1),
    )

operation-below : (operator : Operator) (d b : ℕ) (l r : Phrase) → AreBelow (b + length (spelling l)) (marks d b l) → AreBelow (b + length (spelling l) + 1 + length (spelling r)) (marks d (b + length (spelling l) + 1) r)
    → AreBelow (b + length (spelling (operation operator l r))) (marks d b (operation operator l r))
operation-below operator d b l r h k =
    let whole = joined-length operator l r in
    let n = b + length (spelling (operation operator l r)) in
    below-append n (marks d b l) (marks d (b + length (spelling l) + 1) r)
    (below-more (b + length (spelling l)) n (marks d b l) (omega (arith, whole)) h)
    (below-more (b + length (spelling l) + 1 + length (spelling r)) n (marks d (b + length (spelling l) + 1) r) (omega (arith, whole)) k)

label-below : (b : ℕ) (basis : Basis) (ws : List (List ℕ)) → b + 2 + length (comma_separated ws) ≤ b + length (spelling (label basis ws))
label-below b basis ws = simp length-append (omega (arith, letter-length basis))

brackets-below : (b : ℕ) (e : Phrase) → b + 1 + length (spelling e) ≤ b + length (spelling (brackets e))
brackets-below b e = simp length-append (omega arith)

marks-below : (level : Level) (d b : ℕ) (e : Phrase) → Is level e → AreBelow (b + length (spelling e)) (marks d b e)
marks-below level d b (numeral ds) h = (omega (arith, h.nonempty), tt)
marks-below level d b (ratio n k) h =
    (simp length-append (omega (arith, h.0.nonempty)), (simp length-append (omega (arith, h.1.nonempty)), tt))
marks-below level d b (label basis ws) h =
    below-more (b + 2 + length (comma_separated ws)) (b + length (spelling (label basis ws))) (entry_marks (b + 2) 0 None ws) (label-below b basis ws)
    (entries-below (b + 2) 0 None ws h)
marks-below level d b (brackets e) h = (
  omega (arith, brackets-below b e),
  below-more (b + 1 + length (spelling e)) (b + length (spelling (brackets e))) (marks (d + 1) (b + 1) e) (brackets-below b e)
      (marks-below expression (d + 1) (b + 1) e h),
)
marks-below level d b (minus_first e) h =
    below-more (b + 1 + length (spelling e)) (b + length (spelling (minus_first e))) (marks d (b + 1) e) (omega arith) (marks-below term d (b + 1) e h.1)
marks-below level d b (operation operator l r) h =
    operation-below operator d b l r (marks-below (level_of operator) d b l h.1)
    (marks-below (level_after operator) d (b + length (spelling l) + 1) r h.2)

pub first_is : (a b : Option WordOffence) (o : WordOffence) → earlier a b ≡ Some o → (a ≡ Some o) ⊎ (b ≡ Some o)
first_is None b o h = inr h
first_is (Some p) None o h = inl h
first_is (Some p) (Some q) o h = by (comes_first p q) h
  where
    by : (c : Bool) → cond c (Some p) (Some q) ≡ Some o → (Some p ≡ Some o) ⊎ (Some q ≡ Some o)
    by true e = inl e
    by false e = inr e

some_at : (b : ℕ) (k : Option OffenceKind) (o : WordOffence) → option_map {U = WordOffence} (λ kind. (b, kind)) k ≡ Some o → o.0 ≡ b
some_at b None o h = cc
some_at b (Some k) o h = let same : ◌≡◌ {A = WordOffence} (b, k) o = cc h in sym (ap (λ (x : WordOffence). x.0) same)

first-below : (n : ℕ) (ms : List (ℕ × Mark)) (o : WordOffence) → AreBelow n ms → first_of (flat_map offences_at ms) ≡ Some o → o.0 < n
first-below n [] o h k = cc
first-below n (m ∷ ms) o h k =
    ⊎_elim
    (λ here. omega (arith, h.0, some_at m.0 (first_kind m.1) o (sym (first-one m) ∙ here)))
    (λ later. first-below n ms o h.1 later)
    (first_is (first_of (flat_map offences_at (m ∷ []))) (first_of (flat_map offences_at ms)) o (sym (first-append (m ∷ []) ms) ∙ k))

-- the error at byte 4096 of a word of n bytes, if n exceeds 4096
abbrev pub long_offence : ℕ → Option WordOffence
long_offence n = cond (nat_lt 4096 n) (Some (4096, range)) None

first_of_whole : (l h : Bool) (x y : WordOffence) → first_of (cond l (x ∷ []) [] ++ cond h (y ∷ []) []) ≡ earlier (cond l (Some x) None) (cond h (Some y) None)
first_of_whole true true x y = refl
first_of_whole true false x y = refl
first_of_whole false true x y = refl
first_of_whole false false x y = refl

abbrev pub first_before_degree : Phrase → Option WordOffence
first_before_degree e = earlier (first_of (flat_map offences_at (marks 0 0 e))) (long_offence (length (spelling e)))

-- the error at the end of the word of an expression, if its degree exceeds the limit
abbrev high_offence : ℕ → Phrase → Option WordOffence
high_offence limit e = cond (nat_lt limit (degree (tree e))) (Some (length (spelling e), range)) None

all_offences : (limit : ℕ) (e : Phrase) → first_of (offences_within limit e) ≡ earlier (first_before_degree e) (high_offence limit e)
all_offences limit e =
    first_of-append (flat_map offences_at (marks 0 0 e)) (offences_of_whole_within limit e)
    ∙ ap (earlier (first_of (flat_map offences_at (marks 0 0 e))))
    (first_of_whole (nat_lt 4096 (length (spelling e))) (nat_lt limit (degree (tree e))) (4096, range) (length (spelling e), range))
    ∙ sym (earlier-assoc (first_of (flat_map offences_at (marks 0 0 e))) (long_offence (length (spelling e))) _)

long_is : (n : ℕ) (o : WordOffence) (b : Bool) → nat_lt 4096 n ≡ b → cond b (Some (4096, range)) None ≡ Some o → o.0 < n
long_is n o true h k =
    let same : ◌≡◌ {A = WordOffence} (4096, range) o = cc k in
    let less : 4096 < n = grind (arith, nat_tests) in
    omega (arith, ap (λ (x : WordOffence). x.0) same, less)
long_is n o false h k = cc

pub before-end : (n b : ℕ) (k : OffenceKind) → b < n → comes_first (b, k) (n, range) ≡ true
before-end n b k h = grind (arith, nat_tests)

first_stays : (o : WordOffence) (n : ℕ) (h : Bool) → o.0 < n → earlier (Some o) (cond h (Some (n, range)) None) ≡ Some o
first_stays o n true l = ap (λ c. cond c (Some o) (Some (n, range))) (before-end n o.0 o.1 l)
first_stays o n false l = refl

below-end : (e : Phrase) (o : WordOffence) → Is expression e → first_before_degree e ≡ Some o → o.0 < length (spelling e)
below-end e o a h =
    let n = length (spelling e) in
    ⊎_elim
    (λ mark. first-below n (marks 0 0 e) o (below-more (0 + n) n (marks 0 0 e) (omega arith) (marks-below expression 0 0 e a)) mark)
    (λ long. long_is n o (nat_lt 4096 n) refl long)
    (first_is (first_of (flat_map offences_at (marks 0 0 e))) (long_offence n) o h)

pub judge-some : (limit : ℕ) (e : Phrase) (o : WordOffence) → Is expression e → first_before_degree e ≡ Some o → first_of (offences_within limit e) ≡ Some o
judge-some limit e o a h =
    all_offences limit e ∙ ap (λ f. earlier f (high_offence limit e)) h
    ∙ first_stays o (length (spelling e)) (nat_lt limit (degree (tree e))) (below-end e o a h)

pub judge-high : (limit : ℕ) (e : Phrase) → first_before_degree e ≡ None → limit < degree (tree e) → first_of (offences_within limit e) ≡ Some (length (spelling e), range)
judge-high limit e h k =
    all_offences limit e ∙ ap (λ f. earlier f (high_offence limit e)) h
    ∙ ap (λ b. cond b (Some (length (spelling e), range)) None) (lt-ltb limit (degree (tree e)) k)

pub judge-none : (limit : ℕ) (e : Phrase) → first_before_degree e ≡ None → degree (tree e) ≤ limit → first_of (offences_within limit e) ≡ None
judge-none limit e h k =
    all_offences limit e ∙ ap (λ f. earlier f (high_offence limit e)) h
    ∙ ap (λ b. cond b (Some (length (spelling e), range)) None) (le-ltb limit (degree (tree e)) k)

pub none-low : (limit : ℕ) (e : Phrase) → first_of (offences_within limit e) ≡ None → degree (tree e) ≤ limit
none-low limit e h = by (nat_lt limit (degree (tree e))) refl (none_right (first_before_degree e) _ (sym (all_offences limit e) ∙ h))
  where
    by : (b : Bool) → nat_lt limit (degree (tree e)) ≡ b → ◌≡◌ {A = Option WordOffence} (cond b (Some (length (spelling e), range)) None) None
        → degree (tree e) ≤ limit
    by true k n = cc
    by false k n = grind (arith, nat_tests)

pub no_mark-offence : (e : Phrase) → first_before_degree e ≡ None → first_of (flat_map offences_at (marks 0 0 e)) ≡ None
no_mark-offence e h = none_left _ _ h

long_none : (n : ℕ) (b : Bool) → nat_lt 4096 n ≡ b → ◌≡◌ {A = Option WordOffence} (cond b (Some (4096, range)) None) None → n ≤ 4096
long_none n true h k = cc
long_none n false h k = grind (arith, nat_tests)

pub short : (e : Phrase) → first_before_degree e ≡ None → length (spelling e) ≤ 4096
short e h = long_none (length (spelling e)) (nat_lt 4096 (length (spelling e))) refl (none_right (first_of (flat_map offences_at (marks 0 0 e))) _ h)

long_kept : (b : Bool) → option_map offence_in (then_some b (record { byte = 4096; kind = Range })) ≡ cond b (Some (4096, range)) None
long_kept true = refl
long_kept false = refl

pub kept-first : (w : List ℕ) (e : Phrase) (s : Scan) (l r : Option ReaderOffence) → SpellsPhrase w e
    → option_map offence_in s.first ≡ first_of (flat_map offences_at (marks 0 0 e))
    → l ≡ then_some (nat_lt 4096 (length w)) (record { byte = 4096; kind = Range })
    → option_map offence_in r ≡ earlier (option_map offence_in s.first) (option_map offence_in l)
    → option_map offence_in r ≡ first_before_degree e
kept-first w e s l r h f k m =
    m ∙ ap (λ x. earlier x (option_map offence_in l)) f
    ∙ ap (earlier (first_of (flat_map offences_at (marks 0 0 e))))
    (ap (option_map offence_in) k ∙ long_kept (nat_lt 4096 (length w)) ∙ ap (λ v. long_offence (length v)) h.spelled)

pub fault-judged : (limit : ℕ) (w : List ℕ) (e : Phrase) (o : WordOffence) (f : ExpressionFault) → SpellsPhrase w e → first_of (offences_within limit e) ≡ Some o → IsFaultOf o f → IsReadBy (offences_within limit) w (Err f)
fault-judged limit w e o (Literal byte) h k l = (e, h, k ∙ ap Some l)
fault-judged limit w e o (FRange byte) h k l = (e, h, k ∙ ap Some l)
fault-judged limit w e o (Shape byte) h k l = (e, h, k ∙ ap Some l)
fault-judged limit w e o (Syntax byte) h k l = absurd l
fault-judged limit w e o NoMemory h k l = absurd l

past-judged : (limit : ℕ) (w : List ℕ) (e : Phrase) (f : ExpressionFault) → SpellsPhrase w e → first_before_degree e ≡ None → limit < degree (tree e)
    → IsFaultOf (length w, range) f → IsReadBy (offences_within limit) w (Err f)
past-judged limit w e f h k d l =
    fault-judged limit w e (length w, range) f h (judge-high limit e k d ∙ ap (λ v. Some (length v, range)) (sym h.spelled)) l

pub high-judged : (limit : ℕ) (w : List ℕ) (e : Phrase) (f : ExpressionFault) → limit ≤ 20 → SpellsPhrase w e → first_before_degree e ≡ None → 20 < degree (tree e)
    → IsFaultOf (length w, range) f → IsReadBy (offences_within limit) w (Err f)
high-judged limit w e f m h k d l = past-judged limit w e f h k (omega (arith, m, d)) l

formula-is : (x : Expr) (e : Phrase) → built_of x ≡ (tree e, true) → Is expression e → length (spelling e) ≤ 4096 → degree (tree e) ≤ 20 → IsFormula x
formula-is x e b a h d =
    let t : tree_of x ≡ tree e = ap (λ (y : Built). y.0) b in
    record {
      numbers = ap (λ (y : Built). y.1) b;
      nested = omega (arith, ap nesting t, nesting-within expression e a, h);
      low = omega (arith, ap degree t, d);
    }

pub refused-judged : (limit : ℕ) (w : List ℕ) (e : Phrase) (x : Expr) (f : ExpressionFault) → limit ≤ 20 → SpellsPhrase w e → first_before_degree e ≡ None → built_of x ≡ (tree e, true)
    → (IsFormula x → ⊥) → IsFaultOf (length w, range) f → IsReadBy (offences_within limit) w (Err f)
refused-judged limit w e x f m h k b n l =
    ⊎_elim
    (λ d. high-judged limit w e f m h k d l)
    (λ d. absurd (n (formula-is x e b h.allowed (short e k) d)))
    (cases_lt 20 (degree (tree e)))

pub degree-judged : (limit : ℕ) (w : List ℕ) (e : Phrase) (x y : Expr) (f : ExpressionFault) → SpellsPhrase w e → first_before_degree e ≡ None → built_of x ≡ (tree e, true)
    → y ≡ x → limit < degree (tree_of y) → IsFaultOf (length w, range) f → IsReadBy (offences_within limit) w (Err f)
degree-judged limit w e x y f h k b s d l =
    let t : tree_of y ≡ tree e = ap tree_of s ∙ ap (λ (z : Built). z.0) b in
    past-judged limit w e f h k (omega (arith, ap degree t, d)) l

pub formula-judged : (limit : ℕ) (w : List ℕ) (e : Phrase) (x : Expr) (f : Formula) → SpellsPhrase w e → first_before_degree e ≡ None → built_of x ≡ (tree e, true)
    → f.tree ≡ x → degree (tree_of f.tree) ≤ limit → IsReadBy (offences_within limit) w (Ok f)
formula-judged limit w e x f h k b s d =
    let t : tree_of f.tree ≡ tree e = ap tree_of s ∙ ap (λ (z : Built). z.0) b in
    (e, h, judge-none limit e k (omega (arith, ap degree t, d)), t)

read-low : (limit : ℕ) (w : List ℕ) (f : Formula) → IsReadBy (offences_within limit) w (Ok f) → degree (tree_of f.tree) ≤ limit
read-low limit w f h = omega (arith, ap degree h.3, none-low limit h.0 h.2)

pub result-low : (limit : ℕ) (w : List ℕ) (r : Result Formula ExpressionFault) → IsReadBy (offences_within limit) w r → IfOk r (λ f. degree (tree_of f.tree) ≤ limit)
result-low limit w (Ok f) h = read-low limit w f h
result-low limit w (Err e) h = tt

end-itself : (n : ℕ) → comes_first (n, range) (n, range) ≡ true
end-itself n = grind (arith, nat_tests)

is-end : (n : ℕ) (b : Bool) (o : WordOffence) → cond b (Some (n, range)) None ≡ Some o → (n, range) ≡ o
is-end n true o h = cc
is-end n false o h = cc

pub ends-last : (limit : ℕ) (e : Phrase) (o : WordOffence) → Is expression e → first_of (offences_within limit e) ≡ Some o
    → comes_first o (length (spelling e), range) ≡ true
ends-last limit e o a h =
    let n = length (spelling e) in
    ⊎_elim
    (λ before. before-end n o.0 o.1 (below-end e o a before))
    (λ high. subst (λ x. comes_first x (n, range) ≡ true) (is-end n (nat_lt limit (degree (tree e))) o high) (end-itself n))
    (first_is (first_before_degree e) (high_offence limit e) o (sym (all_offences limit e) ∙ h))
