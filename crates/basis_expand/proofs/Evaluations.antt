-- The nodes of an expression, which are its subexpressions, in postorder: the loop that finds them, and their evaluation on a stack of values.
use Rattle.std.proofs.Common.{◌≡◌, ℕ, ◌<◌, List, [], ◌∷◌, ◌++◌, length, reverse, map, take, drop, suc, append_assoc, append-nil, sym, ◌∙◌, ap, ap₂, subst, refl, arith, rules}
use Rattle.std.specs.List.{All}
use Rattle.std.specs.Prelude.{flat_map}
use Rattle.std.proofs.lemmas.Grind.{flat_map-append}
use Rattle.std.proofs.Math.Seq.{take-append_seam, drop-append_seam}
use Rattle.std.proofs.lemmas.List.{map-append, reverse-append, length-append}
use Rattle.std.proofs.lemmas.List.Elements.{All-nil, All-cons, All-head, All-tail, All-append}
use Rattle.expression_reading.specs.declared.expr.Expr.{Expr, Number, Fraction, Atom, Negation', Sum', Difference', Product'}
use Rattle.basis_expand.specs.Postorder.{operands, postorder, AreValues, EndsWith, Evaluates}

two : (xs ys : List Expr) (e : Expr) → xs ++ (ys ++ e ∷ []) ≡ (xs ++ (ys ++ [])) ++ e ∷ []
two xs ys e = sym (append_assoc xs (ys ++ []) (e ∷ []) ∙ ap (λ (zs : List Expr). xs ++ (zs ++ e ∷ [])) (append-nil ys))

postorder-operands : (e : Expr) → postorder e ≡ flat_map postorder (operands e) ++ e ∷ []
postorder-operands (Number num) = refl
postorder-operands (Fraction num den) = refl
postorder-operands (Atom basis label) = refl
postorder-operands (Negation' p inner) = search rules
postorder-operands (Sum' p left q right) = two (postorder left) (postorder right) (Sum' p left q right)
postorder-operands (Difference' p left q right) = two (postorder left) (postorder right) (Difference' p left q right)
postorder-operands (Product' p left q right) = two (postorder left) (postorder right) (Product' p left q right)

postorder-last : (waits : List Expr) (node : Expr) → flat_map postorder (waits ++ node ∷ []) ≡ flat_map postorder (waits ++ operands node) ++ node ∷ []
postorder-last waits node = search (rules, flat_map-append, append-nil, postorder-operands, append_assoc)

-- the invariant of the loop of `postorder`: the nodes of the expressions that the loop still has to visit, in postorder, followed by the visited
-- nodes, the last one first, are the nodes of the tree in postorder
module _ {A : Type 0} (now : A → Expr) where
  pub nodes-first : (waiting nodes : List A) (tree : A) → waiting ≡ tree ∷ [] → nodes ≡ []
      → flat_map postorder (map now waiting) ++ map now (reverse nodes) ≡ postorder (now tree)
  nodes-first waiting nodes tree e f = search rules

  waiting-next : (waiting waits more : List A) (node : A) → waiting ≡ waits ++ node ∷ [] → map now more ≡ map now waits ++ operands (now node)
      → flat_map postorder (map now waiting) ≡ flat_map postorder (map now more) ++ now node ∷ []
  waiting-next waiting waits more node e f = search (rules, map-append, postorder-last)

  pub nodes-next : (waiting waits more met nodes : List A) (node : A) (all : List Expr)
      → waiting ≡ waits ++ node ∷ [] → map now more ≡ map now waits ++ operands (now node) → nodes ≡ met ++ node ∷ []
      → flat_map postorder (map now waiting) ++ map now (reverse met) ≡ all
      → flat_map postorder (map now more) ++ map now (reverse nodes) ≡ all
  nodes-next waiting waits more met nodes node all e f g h =
      ap (λ (xs : List Expr). flat_map postorder (map now more) ++ xs)
      (ap (λ (xs : List A). map now (reverse xs)) g ∙ ap (map now) (reverse-append met (node ∷ [])))
      ∙ sym (append_assoc (flat_map postorder (map now more)) (now node ∷ []) (map now (reverse met)))
      ∙ ap (λ (xs : List Expr). xs ++ map now (reverse met)) (sym (waiting-next waiting waits more node e f)) ∙ h

  pub nodes-fewer : (waiting waits more : List A) (node : A) → waiting ≡ waits ++ node ∷ [] → map now more ≡ map now waits ++ operands (now node)
      → length (flat_map postorder (map now more)) < length (flat_map postorder (map now waiting))
  nodes-fewer waiting waits more node e f =
      let is = ap length (waiting-next waiting waits more node e f) ∙ length-append (flat_map postorder (map now more)) (now node ∷ []) in omega arith

  pub nodes-all : (waiting met nodes : List A) (all : List Expr) → waiting ≡ [] → nodes ≡ reverse met
      → flat_map postorder (map now waiting) ++ map now (reverse met) ≡ all → map now nodes ≡ all
  nodes-all waiting met nodes all e f h =
      ap (map now) f ∙ ap (λ (xs : List A). flat_map postorder (map now xs) ++ map now (reverse met)) (sym e) ∙ h

both : (P : Expr → Type 0) (left right e : Expr) → All P (postorder left) → All P (postorder right) → P e → All P (postorder left ++ (postorder right ++ e ∷ []))
both P left right e h k p = All-append P (postorder left) (postorder right ++ e ∷ []) h (All-append P (postorder right) (e ∷ []) k (All-cons P e [] p (All-nil P)))

-- if each expression with the property P has only operands with the property P, each expression with P has only nodes with P
pub All-postorder : (P : Expr → Type 0) → ((e : Expr) → P e → All P (operands e)) → (e : Expr) → P e → All P (postorder e)
All-postorder P on (Number num) h = All-cons P (Number num) [] h (All-nil P)
All-postorder P on (Fraction num den) h = All-cons P (Fraction num den) [] h (All-nil P)
All-postorder P on (Atom basis label) h = All-cons P (Atom basis label) [] h (All-nil P)
All-postorder P on (Negation' p inner) h =
    All-append P (postorder inner) (Negation' p inner ∷ []) (All-postorder P on inner (All-head P inner [] (on (Negation' p inner) h)))
    (All-cons P (Negation' p inner) [] h (All-nil P))
All-postorder P on (Sum' p left q right) h =
    let s = on (Sum' p left q right) h in
    both P left right (Sum' p left q right) (All-postorder P on left (All-head P left (right ∷ []) s)) (All-postorder P on right (All-head P right [] (All-tail P left (right ∷ []) s))) h
All-postorder P on (Difference' p left q right) h =
    let s = on (Difference' p left q right) h in
    both P left right (Difference' p left q right) (All-postorder P on left (All-head P left (right ∷ []) s)) (All-postorder P on right (All-head P right [] (All-tail P left (right ∷ []) s))) h
All-postorder P on (Product' p left q right) h =
    let s = on (Product' p left q right) h in
    both P left right (Product' p left q right) (All-postorder P on left (All-head P left (right ∷ []) s)) (All-postorder P on right (All-head P right [] (All-tail P left (right ∷ []) s))) h

module _ {V : Type 0} (R : Expr → V → Type 0) where
  evaluates-two : (goal left right node : Expr) (nodes : List Expr) (below : List V) → operands node ≡ left ∷ right ∷ []
      → ((xs : List Expr) (at : List V) → ((v : V) → R left v → Evaluates R goal xs (at ++ v ∷ [])) → Evaluates R goal (postorder left ++ xs) at)
      → ((xs : List Expr) (at : List V) → ((v : V) → R right v → Evaluates R goal xs (at ++ v ∷ [])) → Evaluates R goal (postorder right ++ xs) at)
      → ((v : V) → R node v → Evaluates R goal nodes (below ++ v ∷ []))
      → Evaluates R goal ((postorder left ++ (postorder right ++ node ∷ [])) ++ nodes) below
  evaluates-two goal left right node nodes below is on_left on_right h =
      subst (λ (xs : List Expr). Evaluates R goal xs below)
      (sym (append_assoc (postorder left) (postorder right ++ node ∷ []) nodes ∙ ap (λ (xs : List Expr). postorder left ++ xs) (append_assoc (postorder right) (node ∷ []) nodes)))
      (on_left (postorder right ++ (node ∷ nodes)) below (λ v k.
      on_right (node ∷ nodes) (below ++ v ∷ []) (λ w l.
      (below, (v ∷ w ∷ [], append_assoc below (v ∷ []) (w ∷ []), subst (λ (es : List Expr). AreValues R es (v ∷ w ∷ [])) (sym is) (k, (l, tt))), h))))

  pub evaluates-part : (goal e : Expr) (nodes : List Expr) (below : List V) → ((v : V) → R e v → Evaluates R goal nodes (below ++ v ∷ []))
      → Evaluates R goal (postorder e ++ nodes) below
  evaluates-part goal (Number num) nodes below h = (below, ([], sym (append-nil below), tt), h)
  evaluates-part goal (Fraction num den) nodes below h = (below, ([], sym (append-nil below), tt), h)
  evaluates-part goal (Atom basis label) nodes below h = (below, ([], sym (append-nil below), tt), h)
  evaluates-part goal (Negation' p inner) nodes below h = search (rules, append_assoc, (evaluates-part goal inner (Negation' p inner ∷ nodes) below))
  evaluates-part goal (Sum' p left q right) nodes below h =
      evaluates-two goal left right (Sum' p left q right) nodes below refl (evaluates-part goal left) (evaluates-part goal right) h
  evaluates-part goal (Difference' p left q right) nodes below h =
      evaluates-two goal left right (Difference' p left q right) nodes below refl (evaluates-part goal left) (evaluates-part goal right) h
  evaluates-part goal (Product' p left q right) nodes below h =
      evaluates-two goal left right (Product' p left q right) nodes below refl (evaluates-part goal left) (evaluates-part goal right) h

  pub evaluates-all : (e : Expr) → Evaluates R e (postorder e) []
  evaluates-all e = subst (λ (xs : List Expr). Evaluates R e xs []) (append-nil (postorder e)) (evaluates-part e e [] [] (λ v h. (v ∷ [], refl, (h, tt))))

  length-values : (exprs : List Expr) (values : List V) → AreValues R exprs values → length values ≡ length exprs
  length-values [] [] h = refl
  length-values [] (v ∷ values) h = elim h [ ]
  length-values (e ∷ exprs) [] h = elim h [ ]
  length-values (e ∷ exprs) (v ∷ values) h = ap suc (length-values exprs values h.1)

  same_ends : (xs ys us vs : List V) → length us ≡ length vs → xs ++ us ≡ ys ++ vs → (xs ≡ ys) × (us ≡ vs)
  same_ends xs ys us vs n e =
      let m = sym (length-append xs us) ∙ ap length e ∙ length-append ys vs in
      let k : length xs ≡ length ys = omega arith in (
        sym (take-append_seam xs us) ∙ ap₂ (λ (i : ℕ) (zs : List V). take i zs) k e ∙ take-append_seam ys vs,
        sym (drop-append_seam xs us) ∙ ap₂ (λ (i : ℕ) (zs : List V). drop i zs) k e ∙ drop-append_seam ys vs,
      )

  same-below : (exprs : List Expr) (a b values : List V) → EndsWith R exprs a values → EndsWith R exprs b values → a ≡ b
  same-below exprs a b values (us, e, h) (vs, f, k) =
      (same_ends a b us vs (length-values exprs us h ∙ sym (length-values exprs vs k)) (sym e ∙ f)).0

  pub values-taken : (exprs : List Expr) (below values after taken : List V) → length taken ≡ length exprs → EndsWith R exprs below values → values ≡ after ++ taken
      → AreValues R exprs taken
  values-taken exprs below values after taken n (given, is, are) e =
      subst (AreValues R exprs) (same_ends below after given taken (length-values exprs given are ∙ sym n) (sym is ∙ e)).1 are

  pub evaluates-next : (goal node : Expr) (nodes : List Expr) (values after more : List V) (v : V) → Evaluates R goal (node ∷ nodes) values
      → EndsWith R (operands node) after values → R node v → more ≡ after ++ v ∷ [] → Evaluates R goal nodes more
  evaluates-next goal node nodes values after more v (below, ends, on) took h e =
      subst (Evaluates R goal nodes) (ap (λ (xs : List V). xs ++ v ∷ []) (same-below (operands node) below after values ends took) ∙ sym e) (on v h)
