use Rattle.std.proofs.Common.{◌≤◌, ℕ, List, [], ◌∷◌, ap, arith, inl, inr, to_z-of_z, ℤ, rules}
use Rattle.sym_model.specs.Sum.{Among}
use Rattle.sym_model.specs.Partition.{size}
use Rattle.sym_model.specs.Polynomial.{Same}
use Rattle.sparse_polys.proofs.WholeLists.{Same-single, more_as, labels-same}
use Rattle.sparse_polys.proofs.whole.single.Goals as goal
use Rattle.sparse_polys.proofs.whole.single.Goals.{In_ok-add_term}

is_single : (c : In_ok-add_term) → Same c.add_term.new.self ((c.args.parts.now, c.args.c) ∷ [])
is_single c = search (rules, Same-single, more_as, to_z-of_z)

pub returns-clause-value : goal.returns-clause-value
returns-clause-value c = is_single c

one_label : (parts : List ℕ) (c : ℤ) (t : List ℕ × ℤ) → Among t ((parts, c) ∷ []) →
    size t.0 ≤ size parts
one_label parts c t (inl e) = let s = ap (λ (u : List ℕ × ℤ). size u.0) e in omega arith
one_label parts c t (inr m) = absurd m

pub returns-clause-labels : goal.returns-clause-labels
returns-clause-labels c =
    labels-same (λ (label : List ℕ). size label ≤ size c.args.parts.now) c.add_term.new.self
    ((c.args.parts.now, c.args.c) ∷ [])
    c.in_ok-add_term.ensures.tables.after.combination (is_single c) (one_label c.args.parts.now c.args.c)
