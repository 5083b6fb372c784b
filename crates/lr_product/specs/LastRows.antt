-- The last two rows of a tableau, added to a sum c (n numbers) so that it becomes μ (n positive numbers). In the last row but one, the first l places
-- are outside the shape, and E_t places have a letter of at most t; in the last row, `outside` places are outside the shape. Then the letters of the
-- last row are determined, and E_0 = l ≤ E_1 ≤ .. ≤ E_n is a chain in which only neighbours depend on each other.
use Rattle.std.specs.Prelude.{ℕ, zero, suc, ◌+◌, ◌-◌, ◌==◌, nat_le, min, max, ◌&&◌, cond, List, [], ◌∷◌, drop, slice_index}
use Rattle.sym_model.specs.Sum.{sum_by}
use Rattle.tableau_laws.specs.Grid.{may_precede}
use Rattle.lr_product.specs.Extension.{numbers_from}
use Rattle.lr_product.specs.RowExtension.{least_left, most_left}

-- the number of letters of at most t that are missing from c for the content μ
abbrev pub missing : ℕ → List ℕ → List ℕ → ℕ
missing zero μ c = 0
missing (suc t) μ c = missing t μ c + (slice_index μ t - slice_index c t)

-- The least E_t if E_(t+1) = k: there are not more letters t + 1 than allowed after c and than missing, and the letters of at most t + 1 that are
-- missing in both rows have their places, E_t + E_(t+1) ≥ l + outside + `missing`.
abbrev pub chain_low : ℕ → ℕ → List ℕ → List ℕ → ℕ → ℕ → ℕ
chain_low l outside μ c t k =
    max (max (least_left l t k c) (k - (slice_index μ t - slice_index c t)))
    ((l + outside + missing (suc t) μ c) - k)

-- One more than the greatest E_t if E_(t+1) = k: the sum has at least μ_(t+2) letters t + 1 before the last row, and the letters of at most t in the
-- row are less than those above them.
abbrev pub chain_end : ℕ → List ℕ → List ℕ → ℕ → ℕ → List ℕ → ℕ
chain_end l μ c t k above =
    min ((k + 1) - (slice_index μ (suc t) - slice_index c t)) (most_left l t k above + 1)

-- the number of chains from E_0 = l to E_t = k
abbrev pub chains : ℕ → ℕ → List ℕ → List ℕ → ℕ → ℕ → List ℕ → ℕ
chains l outside μ c zero k above = cond (k == l) 1 0
chains l outside μ c (suc t) k above =
    sum_by (λ x. chains l outside μ c t x (drop 1 above))
    (numbers_from (chain_low l outside μ c t k)
    (chain_end l μ c t k above - chain_low l outside μ c t k))

-- 1 if, in the last row, the letters that are missing from ν for the content μ fill the places after the first `outside` up to the place k, and are
-- allowed below the row that `right` describes; otherwise 0
abbrev pub completes : ℕ → List ℕ → ℕ → ℕ → List ℕ → List ℕ → ℕ
completes outside μ zero k right ν = cond (k == outside) 1 0
completes outside μ (suc t) k right ν =
    cond
    (may_precede nat_le k right
    && (nat_le (slice_index ν t) (slice_index μ t)
    && (nat_le (slice_index μ (suc t)) (slice_index ν t)
    && nat_le (outside + (slice_index μ t - slice_index ν t)) k)))
    (completes outside μ t (k - (slice_index μ t - slice_index ν t)) (drop 1 right) ν) 0

-- a plus the sums of the first 0, 1, 2, .. numbers of the list
abbrev pub sums_from : ℕ → List ℕ → List ℕ
sums_from a [] = a ∷ []
sums_from a (x ∷ xs) = a ∷ sums_from (a + x) xs
