-- The first error of a list of numbers, and of two lists of errors, the second of which is at later words.
use Rattle.std.proofs.Common.{◌≡◌, ℕ, ◌+◌, ◌<◌, ◌≤◌, ◌==◌, nat_le, nat_lt, Bool, true, false, ◌&&◌, ◌||◌, cond, List, [], ◌∷◌, ◌++◌, append_assoc, map, length, refl, sym, ap, ◌∙◌, subst, arith, Option, Some, None, ◌⊎◌, inl, inr, rules}
use Rattle.std.proofs.lemmas.Bool.{lt-ltb}
use Rattle.sym_model.specs.Sum.{Among}
use Rattle.sym_model.proofs.Sums.{Among_from_append, Among_from_map}
use Rattle.sym_model.specs.ExpressionOffence.{OffenceKind, literal, range, shape, rank}
use Rattle.sym_model.specs.CommandOffence.{Offence, is_no_later, earlier_of, first_offence, when, Rule, offences_after}
use Rattle.word_laws.proofs.FirstOffences.{first-among, first_none}
use Rattle.word_laws.proofs.JudgedRows.{of_kind}

-- if the error o is no later than each error of the list os, the first error of o ∷ os is o
pub first-head : (o : Offence) (os : List Offence) → ((p : Offence) → Among p os → is_no_later o p ≡ true) → first_offence (o ∷ os) ≡ Some o
first-head o os h = search (rules, first-among)

pub no_later_word : (o p : Offence) → o.0 < p.0 → is_no_later o p ≡ true
no_later_word o p h = ap (λ x. x || ((o.0 == p.0) && (nat_lt o.1 p.1 || ((o.1 == p.1) && nat_le (rank o.2) (rank p.2))))) (lt-ltb o.0 p.0 h)

no_later_kind : (k : ℕ) (a b : OffenceKind) → nat_le (rank a) (rank b) ≡ true → is_no_later (k, 0, a) (k, 0, b) ≡ true
no_later_kind k a b h = search rules

-- each error of the list is at a word after word k
abbrev pub Behind : ℕ → List Offence → Type 0
Behind k os = (p : Offence) → Among p os → k < p.0

pub first-kind : (k : ℕ) (kind : OffenceKind) (kinds : List OffenceKind) (rest : List Offence)
    → ((q : OffenceKind) → Among q kinds → nat_le (rank kind) (rank q) ≡ true) → Behind k rest
    → first_offence (map (of_kind k) (kind ∷ kinds) ++ rest) ≡ Some (k, 0, kind)
first-kind k kind kinds rest h l =
    first-head (k, 0, kind) (map (of_kind k) kinds ++ rest) (λ p m. by p (Among_from_append p (map (of_kind k) kinds) rest m))
  where
    by : (p : Offence) → Among p (map (of_kind k) kinds) ⊎ Among p rest → is_no_later (k, 0, kind) p ≡ true
    by p (inl a) =
        let b = Among_from_map (of_kind k) p kinds a in
        subst (λ q. is_no_later (k, 0, kind) q ≡ true) (sym b.2) (no_later_kind k kind b.0 (h b.0 b.1))
    by p (inr a) = no_later_word (k, 0, kind) p (l p a)

-- the error at byte 0 of word k, of kind `literal` if x, otherwise of kind `range` if y, otherwise of kind `shape` if z; otherwise `rest`
abbrev pub first_of_three : ℕ → Bool → Bool → Bool → Option Offence → Option Offence
first_of_three k x y z rest =
    cond x (Some (k, 0, literal)) (cond y (Some (k, 0, range)) (cond z (Some (k, 0, shape)) rest))

pub lowest : (q : OffenceKind) → nat_le 0 (rank q) ≡ true
lowest literal = refl
lowest range = refl
lowest shape = refl

only_shape : (z : Bool) (q : OffenceKind) → Among q (when z shape) → nat_le 1 (rank q) ≡ true
only_shape true q (inl e) = ap (λ v. nat_le 1 (rank v)) e
only_shape true q (inr m) = absurd m
only_shape false q m = absurd m

pub three_kinds : (k : ℕ) (x y z : Bool) (rest : List Offence) → Behind k rest
    → first_offence (map (of_kind k) (when x literal ++ (when y range ++ when z shape)) ++ rest) ≡ first_of_three k x y z (first_offence rest)
three_kinds k true y z rest l = first-kind k literal (when y range ++ when z shape) rest (λ q m. lowest q) l
three_kinds k false true z rest l = first-kind k range (when z shape) rest (only_shape z) l
three_kinds k false false true rest l = first-kind k shape [] rest (λ q m. absurd m) l
three_kinds k false false false rest l = refl

pub three_kinds_left : (k : ℕ) (x y z : Bool) (rest : List Offence) → Behind k rest
    → first_offence (map (of_kind k) ((when x literal ++ when y range) ++ when z shape) ++ rest) ≡ first_of_three k x y z (first_offence rest)
three_kinds_left k x y z rest l = search (rules, of_kind, append_assoc, three_kinds)

-- if the first number of a list is word k, each error that a rule finds in the list is at the word of one of its numbers
pub within : (rule : Rule) (before : List ℕ) (k : ℕ) (ns : List ℕ) (p : Offence) → Among p (offences_after rule before k ns)
    → (k ≤ p.0) × (p.0 < k + length ns)
within rule before k [] p m = absurd m
within rule before k (a ∷ ns) p m =
    by (Among_from_append p (map (of_kind k) (rule before a)) (offences_after rule (a ∷ before) (k + 1) ns) m)
    (within rule (a ∷ before) (k + 1) ns p)
  where
    by : Among p (map (of_kind k) (rule before a)) ⊎ Among p (offences_after rule (a ∷ before) (k + 1) ns)
        → (Among p (offences_after rule (a ∷ before) (k + 1) ns) → (k + 1 ≤ p.0) × (p.0 < k + 1 + length ns))
        → (k ≤ p.0) × (p.0 < k + length (a ∷ ns))
    by (inl x) r =
        let b = Among_from_map (of_kind k) p (rule before a) x in
        let e : p.0 ≡ k = ap (λ (q : Offence). q.0) b.2 in
        (omega (arith, e), omega (arith, e))
    by (inr x) r = let w = r x in (omega arith, omega arith)

-- each error of xs is at an earlier word than each error of ys
abbrev pub AllBefore : List Offence → List Offence → Type 0
AllBefore xs ys = (p q : Offence) → Among p xs → Among q ys → p.0 < q.0

pub first-append : (xs ys : List Offence) (o : Offence) → first_offence xs ≡ Some o → AllBefore xs ys → first_offence (xs ++ ys) ≡ Some o
first-append [] ys o h b = cc
first-append (x ∷ xs) ys o h b =
    by (first_offence xs) refl h (λ p e. first-append xs ys p e (λ p q m. b p q (inr m)))
  where
    by : (rest : Option Offence) → first_offence xs ≡ rest → earlier_of x rest ≡ Some o
        → ((p : Offence) → first_offence xs ≡ Some p → first_offence (xs ++ ys) ≡ Some p)
        → first_offence (x ∷ (xs ++ ys)) ≡ Some o
    by None e h again =
        ap (λ zs. first_offence (x ∷ (zs ++ ys))) (first_none xs e)
        ∙ first-head x ys (λ q m. no_later_word x q (b x q (inl refl) m))
        ∙ h
    by (Some y) e h again = ap (earlier_of x) (again y e) ∙ h

pub none-append : (xs ys : List Offence) → first_offence xs ≡ None → first_offence (xs ++ ys) ≡ first_offence ys
none-append xs ys h = ap (λ zs. first_offence (zs ++ ys)) (first_none xs h)
