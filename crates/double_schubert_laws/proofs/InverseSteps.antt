-- The divided differences of the product Δ of all x_i - y_j with i + j at most N: ∂ in y_j and y_(j+1) is minus ∂ in x_(N-j) and x_(N-j+1), since both
-- cancel the factor x_(N-j) - y_j, up to the sign (`both_differences`). And Δ at x = 0 (`pair_origin`). Places and variables are counted from 0; the
-- variables y follow the N variables x.
use Rattle.std.proofs.Common.{◌≡◌, ℕ, zero, suc, ◌+◌, ◌<◌, ◌≤◌, List, [], ◌∷◌, ◌++◌, length, replicate, refl, sym, ◌∙◌, ap, subst, arith, ℤ, neg_ℤ}
use Rattle.std.proofs.lemmas.Int.{ints}
use Rattle.std.proofs.lemmas.List.{append-nil}
use Rattle.sym_model.specs.Alternant.{staircase}
use Rattle.sym_model.specs.Partition.{size}
use Rattle.sym_model.specs.Polynomial.{pair}
use Rattle.sym_model.specs.DoubleSchubert.{difference_product}
use Rattle.sym_model.proofs.Parts.{length-staircase}
use Rattle.schubert_laws.proofs.AtOrigin.{at_origin, origin_raise, origin_later, along_zeros}
use Rattle.schubert_laws.proofs.Differences.{along, along_ext}
use Rattle.schubert_laws.proofs.Exchanges.{raise}
use Rattle.schubert_laws.proofs.Dominant.{IsOneUp}
use Rattle.double_schubert_laws.proofs.DiagramProducts.{less, row, diagram, less_ext, row_ext, diagram_ext, diagram_less, row_last, along_unit, Apart, apart_before, along_raised, along_less, along_two, row_along, diagram_one_up}
use Rattle.double_schubert_laws.proofs.DoubleDominant.{pair_difference_product}

-- ---- a divided difference in two neighbouring variables y

along_pair : (k r : ℕ) (φ : List ℕ → ℤ) (α : List ℕ) → Apart k r → less r (suc k) (less r k (along k φ)) α ≡ along k (less r (suc k) (less r k φ)) α
along_pair k r φ α p =
    same (along k φ) α ∙ sym (along_two k r φ α p) ∙ along_ext k (less (suc k) r (less k r φ)) (less r (suc k) (less r k φ)) (λ γ. sym (same φ γ)) α
  where
    same : (ψ : List ℕ → ℤ) (γ : List ℕ) → less r (suc k) (less r k ψ) γ ≡ less (suc k) r (less k r ψ) γ
    same ψ γ = omega (arith, ints)

row_before : (k r s c : ℕ) (φ : List ℕ → ℤ) (α : List ℕ) → Apart k r → s + c ≤ k → row r s c (along k φ) α ≡ along k (row r s c φ) α
row_before k r s zero φ α p h = refl
row_before k r s (suc c) φ α p h =
    row_ext r (suc s) c (less r s (along k φ)) (along k (less r s φ)) (λ γ. sym (along_less k r s φ γ p (apart_before k s (omega arith)))) α
    ∙ row_before k r (suc s) c (less r s φ) α p (omega arith)

row_both : (t k r s c : ℕ) (φ : List ℕ → ℤ) (α : List ℕ) → Apart k r → k ≡ s + t → t + 2 ≤ c → row r s c (along k φ) α ≡ along k (row r s c φ) α
row_both t k r s zero φ α p e h = absurd (omega arith)
row_both t k r s (suc zero) φ α p e h = absurd (omega arith)
row_both zero k r s (suc (suc c)) φ α p e h =
    let q : s ≡ k = omega arith in
    subst (λ i. row r i (suc (suc c)) (along k φ) α ≡ along k (row r i (suc (suc c)) φ) α) (sym q)
    (row_ext r (suc (suc k)) c (less r (suc k) (less r k (along k φ))) (along k (less r (suc k) (less r k φ))) (λ γ. along_pair k r φ γ p) α
    ∙ row_along k r (suc (suc k)) c (less r (suc k) (less r k φ)) α p (omega arith))
row_both (suc t) k r s (suc (suc c)) φ α p e h =
    row_ext r (suc s) (suc c) (less r s (along k φ)) (along k (less r s φ)) (λ γ. sym (along_less k r s φ γ p (apart_before k s (omega arith)))) α
    ∙ row_both t k r (suc s) (suc c) (less r s φ) α p (omega arith) (omega arith)

row_end : (k r s t : ℕ) (φ : List ℕ → ℤ) (α : List ℕ) → Apart k r → k ≡ s + t → row r s (suc t) (along k φ) α ≡ less r k (along k (row r s t φ)) α
row_end k r s t φ α p e =
    row_last r s t (along k φ) α
    ∙ less_ext r (s + t) (row r s t (along k φ)) (along k (row r s t φ)) (λ γ. row_before k r s t φ γ p (omega arith)) α
    ∙ ap (λ i. less r i (along k (row r s t φ)) α) (sym e)

stairs_before : (k s r n : ℕ) (φ : List ℕ → ℤ) (α : List ℕ) → r + n ≤ k → s + n ≤ suc k → diagram s r (staircase n) (along k φ) α ≡ along k (diagram s r (staircase n) φ) α
stairs_before k s r zero φ α h l = refl
stairs_before k s r (suc n) φ α h l =
    diagram_ext s (suc r) (staircase n) (row r s n (along k φ)) (along k (row r s n φ)) (λ γ. row_before k r s n φ γ (apart_before k r (omega arith)) (omega arith)) α
    ∙ stairs_before k s (suc r) n (row r s n φ) α (omega arith) (omega arith)

-- the rows k + m + 1, .., 1, 0, and these rows with the row m + 1 replaced by m
abbrev stairs : ℕ → ℕ → List ℕ
stairs zero m = suc m ∷ m ∷ staircase m
stairs (suc k) m = suc (suc (k + m)) ∷ stairs k m

abbrev lowered : ℕ → ℕ → List ℕ
lowered zero m = m ∷ m ∷ staircase m
lowered (suc k) m = suc (suc (k + m)) ∷ lowered k m

stairs_are : (k m : ℕ) → staircase (suc (suc (k + m))) ≡ stairs k m
stairs_are zero m = let e : 0 + m ≡ m = omega arith in ap (λ n. suc n ∷ n ∷ staircase n) e
stairs_are (suc k) m = let e : suc k + m ≡ suc (k + m) = omega arith in ap (λ n. staircase (suc (suc n))) e ∙ ap (λ l. suc (suc (k + m)) ∷ l) (stairs_are k m)

one_up_stairs : (k m : ℕ) → IsOneUp k (lowered k m) (stairs k m)
one_up_stairs zero m = (refl, refl)
one_up_stairs (suc k) m = (refl, one_up_stairs k m)

along_stairs : (k m j s r : ℕ) (φ : List ℕ → ℤ) (α : List ℕ) → j ≡ s + m → r + (k + m) + 2 ≤ s
    → diagram s r (stairs k m) (along j φ) α ≡ less (r + k) j (along j (diagram s r (lowered k m) φ)) α
along_stairs zero m j s r φ α e h =
    let z : r + 0 ≡ r = omega arith in
    diagram_ext s (suc r) (m ∷ staircase m) (row r s (suc m) (along j φ)) (less r j (along j (row r s m φ))) (λ γ. row_end j r s m φ γ (apart_before j r (omega arith)) e) α
    ∙ diagram_less s (suc r) (m ∷ staircase m) r j (along j (row r s m φ)) α
    ∙ less_ext r j (diagram s (suc r) (m ∷ staircase m) (along j (row r s m φ))) (along j (diagram s (suc r) (m ∷ staircase m) (row r s m φ))) (λ γ.
    stairs_before j s (suc r) (suc m) (row r s m φ) γ (omega arith) (omega arith)) α
    ∙ ap (λ i. less i j (along j (diagram s r (m ∷ m ∷ staircase m) φ)) α) (sym z)
along_stairs (suc k) m j s r φ α e h =
    let z : suc r + k ≡ r + suc k = omega arith in
    diagram_ext s (suc r) (stairs k m) (row r s (suc (suc (k + m))) (along j φ)) (along j (row r s (suc (suc (k + m))) φ)) (λ γ.
    row_both m j r s (suc (suc (k + m))) φ γ (apart_before j r (omega arith)) e (omega arith)) α
    ∙ along_stairs k m j s (suc r) (row r s (suc (suc (k + m))) φ) α e (omega arith)
    ∙ ap (λ i. less i j (along j (diagram s (suc r) (lowered k m) (row r s (suc (suc (k + m))) φ))) α) z

-- a factor that is cancelled by the divided difference in its variable y
less_along_later : (k r n : ℕ) (φ : List ℕ → ℤ) → r < k → suc k < n → less r k (along k φ) (replicate n 0) ≡ neg_ℤ (φ (replicate n 0))
less_along_later k r n φ h l =
    let a = along_unit k n φ l in
    let b = along_raised k r φ (replicate n 0) (apart_before k r h) in
    let c = along_zeros k n (λ γ. φ (raise r γ)) in
    omega (arith, ints)

pub both_differences : (k m n : ℕ) (φ : List ℕ → ℤ) → n ≡ suc (suc (k + m)) → pair (difference_product n n) (along (n + m) φ) ≡ neg_ℤ (pair (difference_product n n) (along k φ))
both_differences k m n φ e =
    let x = diagram_one_up n k (n + n) (lowered k m) (stairs k m) φ (one_up_stairs k m) (omega arith) (omega arith) in
    let y = along_stairs k m (n + m) n 0 φ (replicate (n + n) 0) refl (omega arith) in
    let z = less_along_later (n + m) (0 + k) (n + n) (diagram n 0 (lowered k m) φ) (omega arith) (omega arith) in
    let s = ap staircase e ∙ stairs_are k m in
    let p = pair_difference_product n n (along (n + m) φ) (omega arith) ∙ ap (λ c. diagram n 0 c (along (n + m) φ) (replicate (n + n) 0)) s in
    let q = pair_difference_product n n (along k φ) (omega arith) ∙ ap (λ c. diagram n 0 c (along k φ) (replicate (n + n) 0)) s in
    omega (arith, ints)

-- ---- Δ at x = 0: minus y for each factor

-- z with its sign changed n times
abbrev pub turned : ℕ → ℤ → ℤ
turned zero z = z
turned (suc n) z = turned n (neg_ℤ z)

turned_add : (a b : ℕ) (z : ℤ) → turned (a + b) z ≡ turned b (turned a z)
turned_add zero b z = let e : 0 + b ≡ b = omega arith in ap (λ i. turned i z) e
turned_add (suc a) b z = let e : suc a + b ≡ suc (a + b) = omega arith in ap (λ i. turned i z) e ∙ turned_add a b (neg_ℤ z)

origin_ext : (n : ℕ) (φ ψ : List ℕ → ℤ) → ((β : List ℕ) → φ β ≡ ψ β) → (α : List ℕ) → at_origin n φ α ≡ at_origin n ψ α
origin_ext zero φ ψ e α = e α
origin_ext (suc n) φ ψ e [] = refl
origin_ext (suc n) φ ψ e (zero ∷ α) = origin_ext n φ ψ e α
origin_ext (suc n) φ ψ e (suc a ∷ α) = refl

origin_neg : (n : ℕ) (ψ : List ℕ → ℤ) (α : List ℕ) → at_origin n (λ β. neg_ℤ (ψ β)) α ≡ neg_ℤ (at_origin n ψ α)
origin_neg zero ψ α = refl
origin_neg (suc n) ψ [] = refl
origin_neg (suc n) ψ (zero ∷ α) = origin_neg n ψ α
origin_neg (suc n) ψ (suc a ∷ α) = refl

pub origin_zeros : (n j : ℕ) (ψ : List ℕ → ℤ) → at_origin n ψ (replicate (n + j) 0) ≡ ψ (replicate j 0)
origin_zeros zero j ψ = let e : 0 + j ≡ j = omega arith in ap (λ i. ψ (replicate i 0)) e
origin_zeros (suc n) j ψ = let e : suc n + j ≡ suc (n + j) = omega arith in ap (λ i. at_origin (suc n) ψ (replicate i 0)) e ∙ origin_zeros n j ψ

-- the exponents with those of c variables from t on raised by 1
abbrev raised_from : ℕ → ℕ → List ℕ → List ℕ
raised_from t zero β = β
raised_from t (suc c) β = raise t (raised_from (suc t) c β)

row_origin : (r t n c : ℕ) (ψ : List ℕ → ℤ) (α : List ℕ) → r < n → row r (n + t) c (at_origin n ψ) α ≡ at_origin n (λ β. turned c (ψ (raised_from t c β))) α
row_origin r t n zero ψ α h = refl
row_origin r t n (suc c) ψ α h =
    let e : suc (n + t) ≡ n + suc t = omega arith in
    row_ext r (suc (n + t)) c (less r (n + t) (at_origin n ψ)) (at_origin n (λ β. neg_ℤ (ψ (raise t β)))) step α
    ∙ ap (λ i. row r i c (at_origin n (λ β. neg_ℤ (ψ (raise t β)))) α) e
    ∙ row_origin r (suc t) n c (λ β. neg_ℤ (ψ (raise t β))) α h
  where
    step : (γ : List ℕ) → less r (n + t) (at_origin n ψ) γ ≡ at_origin n (λ β. neg_ℤ (ψ (raise t β))) γ
    step γ =
        let a = origin_raise n r ψ γ h in
        let b = origin_later n t ψ γ in
        let c = origin_neg n (λ β. ψ (raise t β)) γ in
        omega (arith, ints)

-- the exponents with those of c variables from the first on raised by 1, for each entry c of the list
abbrev raised_by : List ℕ → List ℕ → List ℕ
raised_by [] β = β
raised_by (c ∷ cs) β = raised_from 0 c (raised_by cs β)

diagram_origin : (r n : ℕ) (cs : List ℕ) (ψ : List ℕ → ℤ) (α : List ℕ) → r + length cs ≤ n
    → diagram n r cs (at_origin n ψ) α ≡ at_origin n (λ β. turned (size cs) (ψ (raised_by cs β))) α
diagram_origin r n [] ψ α h = refl
diagram_origin r n (c ∷ cs) ψ α h =
    let e : n + 0 ≡ n = omega arith in
    diagram_ext n (suc r) cs (row r n c (at_origin n ψ)) (at_origin n (λ β. turned c (ψ (raised_from 0 c β)))) (λ γ.
    ap (λ i. row r i c (at_origin n ψ) γ) (sym e) ∙ row_origin r 0 n c ψ γ (omega arith)) α
    ∙ diagram_origin (suc r) n cs (λ β. turned c (ψ (raised_from 0 c β))) α (omega arith)
    ∙ origin_ext n (λ β. turned (size cs) (turned c (ψ (raised_from 0 c (raised_by cs β))))) (λ β. turned (c + size cs) (ψ (raised_from 0 c (raised_by cs β))))
    (λ β. sym (turned_add c (size cs) (ψ (raised_from 0 c (raised_by cs β))))) α

raised_front : (t c a : ℕ) (β : List ℕ) → raised_from (suc t) c (a ∷ β) ≡ a ∷ raised_from t c β
raised_front t zero a β = refl
raised_front t (suc c) a β = ap (raise (suc t)) (raised_front (suc t) c a β)

raised_stairs : (n : ℕ) (γ : List ℕ) → raised_from 0 n (staircase n ++ (0 ∷ γ)) ≡ staircase (suc n) ++ γ
raised_stairs zero γ = refl
raised_stairs (suc n) γ = ap (raise 0) (raised_front 0 n n (staircase n ++ (0 ∷ γ))) ∙ ap (λ l. suc n ∷ l) (raised_stairs n γ)

raised_by_stairs : (n j : ℕ) → raised_by (staircase n) (replicate (n + j) 0) ≡ staircase n ++ replicate j 0
raised_by_stairs zero j = let e : 0 + j ≡ j = omega arith in ap (λ i. replicate i 0) e
raised_by_stairs (suc n) j =
    let e : suc n + j ≡ n + suc j = omega arith in
    ap (λ i. raised_from 0 n (raised_by (staircase n) (replicate i 0))) e
    ∙ ap (raised_from 0 n) (raised_by_stairs n (suc j))
    ∙ raised_stairs n (replicate j 0)

pub pair_origin : (n : ℕ) (ψ : List ℕ → ℤ) → pair (difference_product n n) (at_origin n ψ) ≡ turned (size (staircase n)) (ψ (staircase n))
pair_origin n ψ =
    let e : n + 0 ≡ n = omega arith in
    pair_difference_product n n (at_origin n ψ) (omega arith)
    ∙ diagram_origin 0 n (staircase n) ψ (replicate (n + n) 0) (omega (arith, length-staircase n))
    ∙ origin_zeros n n (λ β. turned (size (staircase n)) (ψ (raised_by (staircase n) β)))
    ∙ ap (λ i. turned (size (staircase n)) (ψ (raised_by (staircase n) (replicate i 0)))) (sym e)
    ∙ ap (λ l. turned (size (staircase n)) (ψ l)) (raised_by_stairs n 0 ∙ append-nil (staircase n))
