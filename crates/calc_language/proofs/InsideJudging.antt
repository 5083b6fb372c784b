-- The test of the numbers of an inner partition: none may exceed the part of the outer partition in its row.
use Rattle.std.proofs.Common.{◌≡◌, ℕ, suc, ◌+◌, ◌<◌, nat_lt, Bool, true, false, cond, List, [], ◌∷◌, ◌++◌, map, length, drop, get_or, drop-cons, refl, sym, ap, ◌∙◌, arith, Some}
use Rattle.sym_model.specs.Partition.{part}
use Rattle.sym_model.specs.ExpressionOffence.{shape}
use Rattle.sym_model.specs.CommandOffence.{Offence, first_offence, offences_after, inside_rule, when}
use Rattle.calc_language.proofs.CellJudging.{before_of, before_next, before_length, from_place}
use Rattle.calc_words.proofs.FirstOffences.{first-kind, Behind, within}
use Rattle.word_laws.proofs.JudgedRows.{of_kind}

one_kind : (k : ℕ) (b : Bool) (rest : List Offence) → Behind k rest → first_offence (map (of_kind k) (when b shape) ++ rest) ≡ cond b (Some (k, 0, shape)) (first_offence rest)
one_kind k true rest l = first-kind k shape [] rest (λ q m. absurd m) l
one_kind k false rest l = refl

pub inside_next : (o : List ℕ) (at : ℕ) (ns : List ℕ) (i : ℕ) (b : Bool) → i < length ns → nat_lt (part o (i + 1)) (get_or ns i 0) ≡ b
    → from_place (inside_rule o) at ns i ≡ cond b (Some (at + i, 0, shape)) (from_place (inside_rule o) at ns (i + 1))
inside_next o at ns i b h e =
    let rule = inside_rule o in
    let a = get_or ns i 0 in
    let bs = before_of ns i in
    let more = offences_after rule (a ∷ bs) (at + i + 1) (drop (suc i) ns) in
    ap (λ xs. first_offence (offences_after rule bs (at + i) xs)) (drop-cons ns i 0 h)
    ∙ one_kind (at + i) (nat_lt (part o (length bs + 1)) a) more
    (λ p m. let w = within rule (a ∷ bs) (at + i + 1) (drop (suc i) ns) p m in let z = w.0 in omega (arith, z))
    ∙ ap (λ n. cond (nat_lt (part o (n + 1)) a) (Some (at + i, 0, shape)) (first_offence more)) (before_length ns i (omega (arith, h)))
    ∙ ap (λ x. cond x (Some (at + i, 0, shape)) (first_offence more)) e
    ∙ ap (λ r. cond b (Some (at + i, 0, shape)) r)
    (ap (λ xs. first_offence (offences_after rule xs (at + i + 1) (drop (suc i) ns))) (sym (before_next ns i h))
    ∙ ap (λ n. first_offence (offences_after rule (before_of ns (i + 1)) n (drop (suc i) ns))) (let z : at + i + 1 ≡ at + (i + 1) = omega arith in z)
    ∙ ap (λ n. first_offence (offences_after rule (before_of ns (i + 1)) (at + (i + 1)) (drop n ns))) (let z : suc i ≡ i + 1 = omega arith in z))
