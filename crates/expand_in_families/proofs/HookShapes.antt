-- The shapes that remain after special rim hooks of a partition are removed.
use Rattle.std.proofs.Common.{◌≡◌, ℕ, suc, ◌+◌, ◌-◌, ◌<◌, ◌≤◌, List, [], ◌∷◌, map, length, get_or, refl, sym, ◌∙◌, ap, subst, inl, inr, arith}
use Rattle.std.proofs.lemmas.List.{length-map}
use Rattle.sym_model.specs.Sum.{Among}
use Rattle.sym_model.specs.Partition.{Falls, ArePositive, IsPartition, size, rows}
use Rattle.sym_model.proofs.Sums.{Among_from_map}
use Rattle.sym_model.proofs.Parts.{get_or-without_last_zeros, length-without_last_zeros, Falls-front}
use Rattle.sym_model.proofs.SortedParts.{IsPartition-without_last_zeros, size-without_last_zeros, IsPartition_tail}
use Rattle.strip_laws.proofs.Strips.{falls_get}
use Rattle.expand_in_families.specs.SpecialHooks.{SpecialHook, shortened, below_row, special_hooks}

-- ---- the rows of a shape, each shortened by one cell

lowered_falls : (parts : List ℕ) → Falls parts → Falls (map (λ a. a - 1) parts)
lowered_falls [] f = tt
lowered_falls (a ∷ []) f = tt
lowered_falls (a ∷ b ∷ parts) f = (omega (arith, f.0), lowered_falls (b ∷ parts) f.1)

pub lowered_size : (parts : List ℕ) → ArePositive parts → size (map (λ a. a - 1) parts) + length parts ≡ size parts
lowered_size [] p = refl
lowered_size (a ∷ parts) p = let h = lowered_size parts p.1 in let q = p.0 in omega arith

lowered_first : (parts : List ℕ) → get_or (map (λ a. a - 1) parts) 0 0 ≤ get_or parts 0 0
lowered_first [] = omega arith
lowered_first (a ∷ parts) = omega arith

shortened_first : (parts : List ℕ) → get_or (shortened parts) 0 0 ≤ get_or parts 0 0
shortened_first parts = omega (arith, get_or-without_last_zeros (map (λ a. a - 1) parts) 0, lowered_first parts)

hook_first : (parts : List ℕ) (h : SpecialHook) → Falls parts → Among h (special_hooks parts) → get_or h.rest 0 0 ≤ get_or parts 0 0
hook_first [] h f m = absurd m
hook_first (a ∷ parts) h f (inl e) =
    subst (λ (g : SpecialHook). get_or g.rest 0 0 ≤ a) (sym e) (omega (arith, shortened_first parts, falls_get (a ∷ parts) f 0))
hook_first (a ∷ parts) h f (inr m) =
    let found = Among_from_map (below_row a) h (special_hooks parts) m in
    subst (λ (g : SpecialHook). get_or g.rest 0 0 ≤ a) (sym found.2) (omega arith)

-- the special rim hook h of the shape `parts` has at least one cell, and the shape that remains without h is a partition of the number of cells of
-- `parts` outside h, with fewer rows than `parts`
pub record IsRest (parts : List ℕ) (h : SpecialHook) : Type 0 where
  pub partition : IsPartition h.rest
  pub some : 1 ≤ h.cells
  pub sized : size h.rest + h.cells ≡ size parts
  pub fewer : rows h.rest < rows parts

pub hook_rest : (parts : List ℕ) (h : SpecialHook) → IsPartition parts → Among h (special_hooks parts) → IsRest parts h
hook_rest [] h p m = absurd m
hook_rest (a ∷ parts) h p (inl e) =
    let q = IsPartition_tail a parts p in
    let s = size-without_last_zeros (map (λ a. a - 1) parts) in
    let t = lowered_size parts q.positive in
    let u = p.positive.0 in
    let l = length-without_last_zeros (map (λ a. a - 1) parts) in
    let k = length-map parts (λ a. a - 1) in
    subst (IsRest (a ∷ parts)) (sym e) (record {
      partition = IsPartition-without_last_zeros (map (λ a. a - 1) parts) (lowered_falls parts q.falls);
      some = omega arith;
      sized = omega arith;
      fewer = omega arith;
    })
hook_rest (a ∷ parts) h p (inr m) =
    let found = Among_from_map (below_row a) h (special_hooks parts) m in
    let q = IsPartition_tail a parts p in
    let r = hook_rest parts found.0 q found.1 in
    let f = hook_first parts found.0 q.falls found.1 in
    let b = falls_get (a ∷ parts) p.falls 0 in
    let s = r.sized in
    let l = r.fewer in
    subst (IsRest (a ∷ parts)) (sym found.2) (record {
      partition = record { falls = Falls-front a found.0.rest (omega arith) r.partition.falls; positive = (p.positive.0, r.partition.positive) };
      some = r.some;
      sized = omega arith;
      fewer = omega arith;
    })

pub hook_number : (parts : List ℕ) → length (special_hooks parts) ≡ rows parts
hook_number [] = refl
hook_number (a ∷ parts) = ap suc (length-map (special_hooks parts) (below_row a) ∙ hook_number parts)
