use Rattle.std.proofs.Common.{ℕ, ◌-◌, List, length, map, take, drop, get_or, sym, ap, ◌∙◌, arith}
use Rattle.std.specs.Global.{Vec}
use Rattle.std.proofs.lemmas.Result.{IfOk-weaker}
use Rattle.sym_model.specs.Partition.{size}
use Rattle.sym_model.specs.Bases.{product_over}
use Rattle.plain_programs.specs.PlainLists.{sum_of, part_polynomial}
use Rattle.plain_programs.proofs.PlainDegrees.{can_multiply, size-first, part_polynomial-degree}
use Rattle.plain_programs.proofs.PlainDegrees.{product_over-degree, product-is}
use Rattle.plain_programs.proofs.PlainDegrees.{product_polynomial-is}
use Rattle.plain_programs.proofs.bases.+plain_product.Goals as goal

abbrev held : List (Vec ℕ) → List (List ℕ)
held all = map (λ (list : Vec ℕ). list.items) all

pub times-requires : goal.times-requires
times-requires t c =
    let parts : List ℕ = c.args.parts.now in
    let rest : List ℕ = take (length parts - 1) (drop 1 parts) in
    let f = part_polynomial c.args.basis in
    let fits = size-first parts (omega arith) in
    can_multiply (get_or parts 0 0) (size rest) (f (get_or parts 0 0) c.args.n)
    (product_over f rest c.args.n) _ _ (omega arith) (part_polynomial-degree c.args.basis _ _)
    (product_over-degree f (part_polynomial-degree c.args.basis) rest c.args.n)
    (ap (λ all. sum_of (held all)) c.deref.ensures.value ∙ c.in_ok-front.ensures)
    (ap (λ all. sum_of (held all)) c.deref-2.ensures.value
    ∙ (c.in_ok-back.ensures ∙ product_polynomial-is c.args.basis _ c.args.n))

pub returns : goal.returns
returns t c =
    IfOk-weaker c.times.result _ _ (λ all h.
    (product-is (part_polynomial c.args.basis) c.args.parts.now c.args.n
    (held c.deref.result.now) (held c.deref-2.result.now) (held all.items) (omega arith)
    (ap (λ all. sum_of (held all)) c.deref.ensures.value ∙ c.in_ok-front.ensures)
    (ap (λ all. sum_of (held all)) c.deref-2.ensures.value
    ∙ (c.in_ok-back.ensures ∙ product_polynomial-is c.args.basis _ c.args.n)) h)
    ∙ sym (product_polynomial-is c.args.basis c.args.parts.now c.args.n)) c.times.ensures
