-- The list of a complement, entry by entry.
use Rattle.std.proofs.Common.{◌≡◌, ℕ, ◌+◌, ◌-◌, ◌<◌, List, [], ◌∷◌, ◌++◌, map, drop, reverse, get_or, sym, ◌∙◌, ap, ap₂, arith}
use Rattle.std.proofs.lemmas.Grind.{reverse_onto}
use Rattle.std.proofs.lemmas.List.{drop_more}
use Rattle.std.proofs.Math.Seq.{drop-length}
use Rattle.sym_model.specs.Polynomial.{resize}
use Rattle.sym_model.proofs.Exponents.{length-resize}
use Rattle.alternant_laws.proofs.StraightShapes.{at_resize}

pub turned-none : (n k at : ℕ) (parts : List ℕ) → at ≡ k → [] ≡ reverse (map (λ x. n - x) (drop at (resize k parts)))
turned-none n k at parts e =
    ap (λ l. reverse (map (λ x. n - x) l))
    (sym (ap (λ i. drop i (resize k parts)) (e ∙ sym (length-resize k parts)) ∙ drop-length (resize k parts)))

next_left : (k at : ℕ) (parts : List ℕ) → at < k → drop at (resize k parts) ≡ get_or parts at 0 ∷ drop (at + 1) (resize k parts)
next_left k at parts h =
    let l = length-resize k parts in
    drop_more (resize k parts) at 0 (omega arith) ∙ ap (λ x. x ∷ drop (at + 1) (resize k parts)) (at_resize k at parts h)

pub turned-more : (n k at next x : ℕ) (parts items more : List ℕ) → at + 1 ≡ next → at < k → x ≡ n - get_or parts at 0
    → items ≡ reverse (map (λ x. n - x) (drop next (resize k parts))) → more ≡ items ++ (x ∷ [])
    → more ≡ reverse (map (λ x. n - x) (drop at (resize k parts)))
turned-more n k at next x parts items more e h v i m =
    m
    ∙ ap₂ (λ l y. l ++ (y ∷ [])) (i ∙ ap (λ p. reverse (map (λ x. n - x) (drop p (resize k parts)))) (sym e)) v
    ∙ sym (ap (λ l. reverse (map (λ x. n - x) l)) (next_left k at parts h) ∙ reverse_onto (map (λ x. n - x) (drop (at + 1) (resize k parts))) (n - get_or parts at 0) [])
