-- Functions of the exponents of n variables x and n variables y, and their mirrors: the functions of the exponents with the two alphabets exchanged. Δ, the
-- product of all x_i - y_j with i + j at most n, is its own mirror, up to the sign (`mirrored_difference`). Places and variables are counted from 0.
use Rattle.std.proofs.Common.{◌≡◌, ℕ, zero, suc, ◌+◌, ◌<◌, ◌≤◌, List, [], ◌∷◌, ◌++◌, length, take, drop, replicate, refl, sym, ◌∙◌, ap, ap₂, arith, ℤ, neg_ℤ, length-drop, length-take}
use Rattle.std.proofs.lemmas.Int.{ints}
use Rattle.std.proofs.lemmas.List.{take_at, drop_at, take-append-drop, length-replicate, replicate-append-replicate}
use Rattle.sym_model.specs.Alternant.{staircase}
use Rattle.sym_model.specs.Partition.{size}
use Rattle.sym_model.specs.Polynomial.{Poly, In, pair}
use Rattle.sym_model.specs.DoubleSchubert.{difference_product}
use Rattle.sym_model.proofs.Polynomials.{pair_in}
use Rattle.schubert_laws.proofs.Differences.{along, along_ext}
use Rattle.schubert_laws.proofs.Exchanges.{raise, length-raise}
use Rattle.double_schubert_laws.proofs.DiagramProducts.{less, row, diagram, less_ext, less_less, row_ext, diagram_ext}
use Rattle.double_schubert_laws.proofs.DoubleDominant.{pair_difference_product}
use Rattle.double_schubert_laws.proofs.InverseSteps.{turned}

-- ψ at the exponents with the first n and the others exchanged
abbrev pub mirror : ℕ → (List ℕ → ℤ) → List ℕ → ℤ
mirror n ψ α = ψ (drop n α ++ take n α)

pub record AreMirrors (n : ℕ) (φ ψ : List ℕ → ℤ) : Type 0 where
  pub at : (β γ : List ℕ) → length β ≡ n → length γ ≡ n → φ (β ++ γ) ≡ ψ (γ ++ β)

pub mirror_at : (n : ℕ) (ψ : List ℕ → ℤ) (β γ : List ℕ) → length β ≡ n → mirror n ψ (β ++ γ) ≡ ψ (γ ++ β)
mirror_at n ψ β γ e = ap₂ (λ x y. ψ (x ++ y)) (drop_at β γ n e) (take_at β γ n e)

pub are_mirrors : (n : ℕ) (ψ : List ℕ → ℤ) → AreMirrors n (mirror n ψ) ψ
are_mirrors n ψ = record { at = λ β γ e l. mirror_at n ψ β γ e }

pub pair_mirror : (n : ℕ) (f : Poly) (φ ψ : List ℕ → ℤ) → In (n + n) f → AreMirrors n φ ψ → pair f φ ≡ pair f (mirror n ψ)
pair_mirror n f φ ψ i m =
    pair_in (n + n) f φ (mirror n ψ) i (λ α e.
    ap φ (sym (take-append-drop n α)) ∙ m.at (take n α) (drop n α) (omega (arith, length-take n α)) (omega (arith, length-drop n α)))

-- ---- raised exponents

pub raise_front : (r : ℕ) (β γ : List ℕ) → r < length β → raise r (β ++ γ) ≡ raise r β ++ γ
raise_front r [] γ h = absurd (omega arith)
raise_front zero (b ∷ β) γ h = refl
raise_front (suc r) (b ∷ β) γ h = ap (λ l. b ∷ l) (raise_front r β γ (omega arith))

pub raise_back : (n s : ℕ) (β γ : List ℕ) → length β ≡ n → raise (n + s) (β ++ γ) ≡ β ++ raise s γ
raise_back n s [] γ e = let z : n + s ≡ s = omega arith in ap (λ i. raise i γ) z
raise_back zero s (b ∷ β) γ e = absurd (omega arith)
raise_back (suc n) s (b ∷ β) γ e = let z : suc n + s ≡ suc (n + s) = omega arith in ap (λ i. raise i (b ∷ (β ++ γ))) z ∙ ap (λ l. b ∷ l) (raise_back n s β γ (omega arith))

pub raised_mirrors : (n r : ℕ) (φ ψ : List ℕ → ℤ) → r < n → AreMirrors n φ ψ → AreMirrors n (λ α. φ (raise r α)) (λ α. ψ (raise (n + r) α))
raised_mirrors n r φ ψ h m = record {
  at = λ β γ e l. ap φ (raise_front r β γ (omega arith)) ∙ m.at (raise r β) γ (length-raise r β ∙ e) l ∙ sym (ap ψ (raise_back n r γ β l));
}

pub raised_back_mirrors : (n s : ℕ) (φ ψ : List ℕ → ℤ) → s < n → AreMirrors n φ ψ → AreMirrors n (λ α. φ (raise (n + s) α)) (λ α. ψ (raise s α))
raised_back_mirrors n s φ ψ h m = record {
  at = λ β γ e l. ap φ (raise_back n s β γ e) ∙ m.at β (raise s γ) e (length-raise s γ ∙ l) ∙ sym (ap ψ (raise_front s γ β (omega arith)));
}

less_mirrors : (n r s : ℕ) (φ ψ : List ℕ → ℤ) → r < n → s < n → AreMirrors n φ ψ → AreMirrors n (less r (n + s) φ) (λ α. neg_ℤ (less s (n + r) ψ α))
less_mirrors n r s φ ψ h k m = record {
  at = λ β γ e l.
      let a = (raised_mirrors n r φ ψ h m).at β γ e l in
      let b = (raised_back_mirrors n s φ ψ k m).at β γ e l in
      omega (arith, ints);
}

-- ---- columns

-- c factors, with the differences of the c variables from r on and the variable s
abbrev column : ℕ → ℕ → ℕ → (List ℕ → ℤ) → List ℕ → ℤ
column r s zero φ = φ
column r s (suc c) φ = column (suc r) s c (less r s φ)

column_ext : (r s c : ℕ) (φ ψ : List ℕ → ℤ) → ((α : List ℕ) → φ α ≡ ψ α) → (α : List ℕ) → column r s c φ α ≡ column r s c ψ α
column_ext r s zero φ ψ e = e
column_ext r s (suc c) φ ψ e = column_ext (suc r) s c (less r s φ) (less r s ψ) (less_ext r s φ ψ e)

column_less : (r s c p q : ℕ) (φ : List ℕ → ℤ) (α : List ℕ) → column r s c (less p q φ) α ≡ less p q (column r s c φ) α
column_less r s zero p q φ α = refl
column_less r s (suc c) p q φ α =
    column_ext (suc r) s c (less r s (less p q φ)) (less p q (less r s φ)) (less_less r s p q φ) α ∙ column_less (suc r) s c p q (less r s φ) α

column_row : (r s c p q e : ℕ) (φ : List ℕ → ℤ) (α : List ℕ) → column r s c (row p q e φ) α ≡ row p q e (column r s c φ) α
column_row r s c p q zero φ α = refl
column_row r s c p q (suc e) φ α =
    column_row r s c p (suc q) e (less p q φ) α
    ∙ row_ext p (suc q) e (column r s c (less p q φ)) (less p q (column r s c φ)) (column_less r s c p q φ) α

-- a staircase has a first column, too
first_column : (m r s : ℕ) (φ : List ℕ → ℤ) (α : List ℕ) → diagram s r (staircase (suc m)) φ α ≡ diagram (suc s) r (staircase m) (column r s m φ) α
first_column zero r s φ α = refl
first_column (suc m) r s φ α =
    first_column m (suc r) s (row r s (suc m) φ) α
    ∙ diagram_ext (suc s) (suc r) (staircase m) (column (suc r) s m (row r (suc s) m (less r s φ))) (row r (suc s) m (column (suc r) s m (less r s φ)))
    (column_row (suc r) s m r (suc s) m (less r s φ)) α

column_negated : (r s c : ℕ) (φ : List ℕ → ℤ) (α : List ℕ) → column r s c (λ β. neg_ℤ (φ β)) α ≡ neg_ℤ (column r s c φ α)
column_negated r s zero φ α = refl
column_negated r s (suc c) φ α =
    column_ext (suc r) s c (less r s (λ β. neg_ℤ (φ β))) (λ β. neg_ℤ (less r s φ β)) (λ β. omega (arith, ints)) α
    ∙ column_negated (suc r) s c (less r s φ) α

row_negated : (r s c : ℕ) (φ : List ℕ → ℤ) (α : List ℕ) → row r s c (λ β. neg_ℤ (φ β)) α ≡ neg_ℤ (row r s c φ α)
row_negated r s zero φ α = refl
row_negated r s (suc c) φ α =
    row_ext r (suc s) c (less r s (λ β. neg_ℤ (φ β))) (λ β. neg_ℤ (less r s φ β)) (λ β. omega (arith, ints)) α
    ∙ row_negated r (suc s) c (less r s φ) α

diagram_negated : (s r : ℕ) (cs : List ℕ) (φ : List ℕ → ℤ) (α : List ℕ) → diagram s r cs (λ β. neg_ℤ (φ β)) α ≡ neg_ℤ (diagram s r cs φ α)
diagram_negated s r [] φ α = refl
diagram_negated s r (c ∷ cs) φ α =
    diagram_ext s (suc r) cs (row r s c (λ β. neg_ℤ (φ β))) (λ β. neg_ℤ (row r s c φ β)) (row_negated r s c φ) α
    ∙ diagram_negated s (suc r) cs (row r s c φ) α

diagram_turned : (k s r : ℕ) (cs : List ℕ) (φ : List ℕ → ℤ) (α : List ℕ) → diagram s r cs (λ β. turned k (φ β)) α ≡ turned k (diagram s r cs φ α)
diagram_turned zero s r cs φ α = refl
diagram_turned (suc k) s r cs φ α = diagram_turned k s r cs (λ β. neg_ℤ (φ β)) α ∙ ap (turned k) (diagram_negated s r cs φ α)

row_mirrors : (n r s c : ℕ) (φ ψ : List ℕ → ℤ) → r < n → s + c ≤ n → AreMirrors n φ ψ → AreMirrors n (row r (n + s) c φ) (λ α. turned c (column s (n + r) c ψ α))
row_mirrors n r s zero φ ψ h k m = m
row_mirrors n r s (suc c) φ ψ h k m = record {
  at = λ β γ e l.
      let z : suc (n + s) ≡ n + suc s = omega arith in
      ap (λ i. row r i c (less r (n + s) φ) (β ++ γ)) z
      ∙ (row_mirrors n r (suc s) c (less r (n + s) φ) (λ α. neg_ℤ (less s (n + r) ψ α)) h (omega arith) (less_mirrors n r s φ ψ h (omega arith) m)).at β γ e l
      ∙ ap (turned c) (column_negated (suc s) (n + r) c (less s (n + r) ψ) (γ ++ β));
}

turned_sum : (a b : ℕ) (z : ℤ) → turned b (turned a z) ≡ turned (a + b) z
turned_sum zero b z = let e : 0 + b ≡ b = omega arith in ap (λ i. turned i z) (sym e)
turned_sum (suc a) b z = let e : suc a + b ≡ suc (a + b) = omega arith in turned_sum a b (neg_ℤ z) ∙ ap (λ i. turned i z) (sym e)

stairs_mirrors : (m n r s : ℕ) (φ ψ : List ℕ → ℤ) → r + m ≤ n → s + m ≤ n → AreMirrors n φ ψ
    → AreMirrors n (diagram (n + s) r (staircase m) φ) (λ α. turned (size (staircase m)) (diagram (n + r) s (staircase m) ψ α))
stairs_mirrors zero n r s φ ψ h k m = m
stairs_mirrors (suc d) n r s φ ψ h k m = record {
  at = λ β γ e l.
      let z : n + suc r ≡ suc (n + r) = omega arith in
      (stairs_mirrors d n (suc r) s (row r (n + s) d φ) (λ α. turned d (column s (n + r) d ψ α)) (omega arith) (omega arith) (row_mirrors n r s d φ ψ (omega arith) (omega arith) m)).at β γ e l
      ∙ ap (turned (size (staircase d))) (diagram_turned d (n + suc r) s (staircase d) (column s (n + r) d ψ) (γ ++ β))
      ∙ turned_sum d (size (staircase d)) (diagram (n + suc r) s (staircase d) (column s (n + r) d ψ) (γ ++ β))
      ∙ ap (turned (d + size (staircase d))) (ap (λ i. diagram i s (staircase d) (column s (n + r) d ψ) (γ ++ β)) z ∙ sym (first_column d s (n + r) ψ (γ ++ β)));
}

pub mirrored_difference : (n : ℕ) (ψ : List ℕ → ℤ) → pair (difference_product n n) (mirror n ψ) ≡ turned (size (staircase n)) (pair (difference_product n n) ψ)
mirrored_difference n ψ =
    let z : n + 0 ≡ n = omega arith in
    let r : replicate {A = ℕ} (n + n) 0 ≡ replicate {A = ℕ} n 0 ++ replicate {A = ℕ} n 0 = sym (replicate-append-replicate n n 0) in
    pair_difference_product n n (mirror n ψ) (omega arith)
    ∙ ap₂ (λ i α. diagram i 0 (staircase n) (mirror n ψ) α) (sym z) r
    ∙ (stairs_mirrors n n 0 0 (mirror n ψ) ψ (omega arith) (omega arith) (are_mirrors n ψ)).at (replicate n 0) (replicate n 0) (length-replicate n 0) (length-replicate n 0)
    ∙ ap (turned (size (staircase n)))
    (ap₂ (λ i α. diagram i 0 (staircase n) ψ α) z (sym r) ∙ sym (pair_difference_product n n ψ (omega arith)))

-- ---- divided differences

along_front : (k : ℕ) (φ : List ℕ → ℤ) (β γ : List ℕ) → suc k < length β → along k φ (β ++ γ) ≡ along k (λ δ. φ (δ ++ γ)) β
along_front k φ [] γ h = absurd (omega arith)
along_front zero φ (a ∷ []) γ h = absurd (omega arith)
along_front zero φ (a ∷ b ∷ β) γ h = refl
along_front (suc k) φ (a ∷ β) γ h = along_front k (λ δ. φ (a ∷ δ)) β γ (omega arith)

along_back : (n k : ℕ) (φ : List ℕ → ℤ) (β γ : List ℕ) → length β ≡ n → along (n + k) φ (β ++ γ) ≡ along k (λ δ. φ (β ++ δ)) γ
along_back n k φ [] γ e = let z : n + k ≡ k = omega arith in ap (λ i. along i φ γ) z
along_back zero k φ (b ∷ β) γ e = absurd (omega arith)
along_back (suc n) k φ (b ∷ β) γ e = let z : suc n + k ≡ suc (n + k) = omega arith in ap (λ i. along i φ (b ∷ (β ++ γ))) z ∙ along_back n k (λ δ. φ (b ∷ δ)) β γ (omega arith)

pub along_mirrors : (n k : ℕ) (ψ : List ℕ → ℤ) → suc k < n → AreMirrors n (along (n + k) (mirror n ψ)) (along k ψ)
along_mirrors n k ψ h = record {
  at = λ β γ e l.
      along_back n k (mirror n ψ) β γ e
      ∙ along_ext k (λ δ. mirror n ψ (β ++ δ)) (λ δ. ψ (δ ++ β)) (λ δ. mirror_at n ψ β δ e) γ
      ∙ sym (along_front k ψ γ β (omega arith));
}
