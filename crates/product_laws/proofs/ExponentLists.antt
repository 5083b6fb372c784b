-- `exponent_lists n d` has exactly the lists of n numbers with the sum d, each once.
use Rattle.std.proofs.Common.{◌≡◌, ℕ, zero, suc, ◌-◌, Bool, cond, List, [], ◌∷◌, map, length, drop, get_or, refl, sym, ◌∙◌, ap, subst, inl, arith, rules}
use Rattle.std.proofs.lemmas.Bool.{eq-eqb}
use Rattle.sym_model.specs.Sum.{Among, Once}
use Rattle.sym_model.specs.Partition.{size}
use Rattle.sym_model.specs.Bases.{down_from, exponent_lists}
use Rattle.sym_model.proofs.Sums.{Among-each, Among-map, Among_from_map, Once-each, Once-map, among_down_from, down_from-below}

once_down_from : (d : ℕ) → Once (down_from d)
once_down_from zero = (λ m. m, tt)
once_down_from (suc d) = (λ m. let h = down_from-below d (suc d) m in absurd (omega arith), once_down_from d)

pub among_exponent_lists : (α : List ℕ) (n d : ℕ) → length α ≡ n → size α ≡ d → Among α (exponent_lists n d)
among_exponent_lists [] zero d l s = subst (λ (b : Bool). Among {A = List ℕ} [] (cond {A = List (List ℕ)} b ([] ∷ []) [])) (sym (eq-eqb d 0 (sym s))) (inl refl)
among_exponent_lists [] (suc n) d l s = absurd (omega arith)
among_exponent_lists (a ∷ α) zero d l s = absurd (omega arith)
among_exponent_lists (a ∷ α) (suc n) d l s =
    Among-each (λ (c : ℕ). map (λ (β : List ℕ). c ∷ β) (exponent_lists n (d - c))) a (a ∷ α) (down_from d) (among_down_from a d (omega arith))
    (Among-map (λ (β : List ℕ). a ∷ β) α (exponent_lists n (d - a)) (among_exponent_lists α n (d - a) (omega arith) (omega arith)))

pub once_exponent_lists : (n d : ℕ) → Once (exponent_lists n d)
once_exponent_lists zero d = search rules
once_exponent_lists (suc n) d =
    Once-each (λ (c : ℕ). map (λ (β : List ℕ). c ∷ β) (exponent_lists n (d - c))) (down_from d) (once_down_from d)
    (λ a m. Once-map (λ (β : List ℕ). a ∷ β) (exponent_lists n (d - a)) (λ x y p q e. ap (drop 1) e) (once_exponent_lists n (d - a)))
    (λ x z y p q s t.
    let u = Among_from_map (λ (β : List ℕ). x ∷ β) y (exponent_lists n (d - x)) s in
    let v = Among_from_map (λ (β : List ℕ). z ∷ β) y (exponent_lists n (d - z)) t in
    ap (λ l. get_or l 0 0) (sym u.2 ∙ v.2))
