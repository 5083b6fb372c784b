-- The search for the partitions ν in m_λ·m_μ caps its counts at 2^128 - 1. If all counts are below 2^127, none was capped, and the count of each ν is
-- the number of ways to write ν as the sum of an arrangement of λ and one of μ (specs/MonomialProducts).
use Rattle.std.proofs.Common.{◌≡◌, ◌⊎◌, ℕ, suc, ◌^◌, ◌<◌, ◌≤◌, cond, List, [], ◌∷◌, sym, ap, subst, refl, inl, inr, arith}
use Rattle.std.specs.Prelude.{All}
use Rattle.sym_model.specs.Sum.{Among}
use Rattle.sym_model.specs.Partition.{IsPartition, size}
use Rattle.sym_model.proofs.Exponents.{same_apart, same_or_not}
use Rattle.monomial_laws.specs.MonomialProduct.{arrangements}
use Rattle.sparse_polys.specs.declared.search.Counted.{Counted}
use Rattle.sparse_polys.specs.Ways.{capped}
use Rattle.sparse_polys.specs.Search.{count_at, AreCounted, HaveCounts}
use Rattle.sparse_polys.specs.MonomialProducts.{AreSmall, HasLarge}

pub all_among : (P : Counted → Type 0) (xs : List Counted) (t : Counted) → All P xs → Among t xs → P t
all_among P [] t h m = absurd m
all_among P (x ∷ xs) t h (inl e) = subst P (sym e) (h 0 t (omega arith))
all_among P (x ∷ xs) t h (inr m) = all_among P xs t (λ k d l. h (suc k) d (omega arith)) m

pub large_ways : (l r : List ℕ) (total : ℕ) (terms : List Counted) → HaveCounts (λ ν. capped (arrangements l r ν)) terms → AreCounted total terms → HasLarge terms
    → (ν : List ℕ) × IsPartition ν × (2 ^ 127 ≤ arrangements l r ν)
large_ways l r total terms each counted large =
    let t = large.0 in
    let c : t.count ≡ capped (arrangements l r t.parts.items) = all_among (λ (u : Counted). u.count ≡ capped (arrangements l r u.parts.items)) terms t each large.1 in
    let p = all_among (λ (u : Counted). IsPartition u.parts.items × (size u.parts.items ≡ total)) terms t counted large.1 in
    let b = large.2 in
    (t.parts.items, p.0, omega arith)

none_or_small : (f : List ℕ → ℕ) (terms : List Counted) (ν : List ℕ) → HaveCounts f terms → AreSmall terms → (count_at terms ν ≡ 0) ⊎ (f ν < 2 ^ 127)
none_or_small f [] ν each small = inl refl
none_or_small f (t ∷ terms) ν each small = by (same_or_not t.parts.items ν) (none_or_small f terms ν (λ k d l. each (suc k) d (omega arith)) (λ k d l. small (suc k) d (omega arith)))
  where
    by : (t.parts.items ≡ ν) ⊎ (t.parts.items ≡ ν → ⊥) → (count_at terms ν ≡ 0) ⊎ (f ν < 2 ^ 127) → (count_at (t ∷ terms) ν ≡ 0) ⊎ (f ν < 2 ^ 127)
    by (inl e) rest =
        let c : t.count ≡ f t.parts.items = each 0 t (omega arith) in
        let s : t.count < 2 ^ 127 = small 0 t (omega arith) in
        let i = ap f e in
        inr (omega arith)
    by (inr n) (inl z) = let b = ap (λ x. cond x t.count 0) (same_apart t.parts.items ν n) in inl (omega arith)
    by (inr n) (inr s) = inr s

pub exact_counts : (l r : List ℕ) (terms : List Counted) (ν : List ℕ) → HaveCounts (λ ν. capped (arrangements l r ν)) terms → AreSmall terms
    → count_at terms ν ≡ capped (arrangements l r ν) → count_at terms ν ≡ arrangements l r ν
exact_counts l r terms ν each small e = by (none_or_small (λ ν. capped (arrangements l r ν)) terms ν each small)
  where
    by : (count_at terms ν ≡ 0) ⊎ (capped (arrangements l r ν) < 2 ^ 127) → count_at terms ν ≡ arrangements l r ν
    by (inl z) = omega arith
    by (inr s) = omega arith
