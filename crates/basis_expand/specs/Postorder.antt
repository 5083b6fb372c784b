-- The nodes of an expression, which are its subexpressions, in postorder, and their evaluation on a stack of values.
use Rattle.std.specs.Prelude.{◌≡◌, List, [], ◌∷◌, ◌++◌}
use Rattle.expression_reading.specs.declared.expr.Expr.{Expr, Number, Fraction, Atom, Negation'}
use Rattle.expression_reading.specs.declared.expr.Expr.{Sum', Difference', Product'}

-- the operands of a node, from the left
abbrev pub operands : Expr → List Expr
operands (Number num) = []
operands (Fraction num den) = []
operands (Atom basis label) = []
operands (Negation' p inner) = inner ∷ []
operands (Sum' p left q right) = left ∷ right ∷ []
operands (Difference' p left q right) = left ∷ right ∷ []
operands (Product' p left q right) = left ∷ right ∷ []

-- the nodes of an expression in postorder: each after the nodes of its operands, those of the left operand first
abbrev pub postorder : Expr → List Expr
postorder (Number num) = Number num ∷ []
postorder (Fraction num den) = Fraction num den ∷ []
postorder (Atom basis label) = Atom basis label ∷ []
postorder (Negation' p inner) = postorder inner ++ Negation' p inner ∷ []
postorder (Sum' p left q right) = postorder left ++ (postorder right ++ Sum' p left q right ∷ [])
postorder (Difference' p left q right) =
    postorder left ++ (postorder right ++ Difference' p left q right ∷ [])
postorder (Product' p left q right) =
    postorder left ++ (postorder right ++ Product' p left q right ∷ [])

-- the two lists have the same length, and the value at each index is a value of the expression at this index, in the sense of R
abbrev pub AreValues : {V : Type 0} → (Expr → V → Type 0) → List Expr → List V → Type 0
AreValues R [] [] = Unit
AreValues R [] (v ∷ values) = ⊥
AreValues R (e ∷ exprs) [] = ⊥
AreValues R (e ∷ exprs) (v ∷ values) = R e v × AreValues R exprs values

-- `values` is `below`, followed by values of the expressions `exprs`, one for each, in the sense of R
abbrev pub EndsWith : {V : Type 0} → (Expr → V → Type 0) → List Expr → List V → List V → Type 0
EndsWith {V} R exprs below values =
    (given : List V) × (values ≡ below ++ given) × AreValues R exprs given

-- The list of nodes is evaluated on the stack `values`: each node in turn removes the values of its operands from the end of the stack and appends a
-- value of the node. Whichever values of the nodes are appended, at the end only a value of the expression `goal` is left.
abbrev pub Evaluates : {V : Type 0} → (Expr → V → Type 0) → Expr → List Expr → List V → Type 0
Evaluates {V} R goal [] values = EndsWith R (goal ∷ []) [] values
Evaluates {V} R goal (node ∷ nodes) values =
    (below : List V) × EndsWith R (operands node) below values
    × ((v : V) → R node v → Evaluates R goal nodes (below ++ v ∷ []))
