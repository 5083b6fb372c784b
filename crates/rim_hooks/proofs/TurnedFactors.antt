-- Partitions that are rotated to the factors of a product.
--     rotated_count, rotated_limits    the rotated beta list is that of a partition within the limits
--     base_is         a factor is the rotation of the partition that it was rotated to
--     turned_more     one more factor
use Rattle.std.proofs.Common.{◌≡◌, inl, inr, ℕ, ◌+◌, ◌-◌, ◌*◌, ◌/◌, ◌%◌, ◌<◌, ◌≤◌, List, [], ◌∷◌, ◌++◌, length, take, drop, refl, sym, ◌∙◌, ap, ap₂, subst, arith, Some}
use Rattle.std.specs.Prelude.{slice_get}
use Rattle.std.proofs.lemmas.Option.{slice_get_within, get_or_from_slice_get}
use Rattle.sym_model.proofs.Lists.{take-read}
use Rattle.std.proofs.lemmas.List.{length-append}
use Rattle.std.proofs.Math.Nat.{mod-eq_of_lt, div-eq_of_lt}
use native.Mathlib.Nat.{mul-le-mul_left}
use Rattle.sym_model.specs.Partition.{Falls, size, rows, columns}
use Rattle.sym_model.specs.BetaList.{beta, from_beta}
use Rattle.beta_list_laws.proofs.BetaLists.{length-beta}
use Rattle.partitions.specs.Limits.{IsWithinLimits}
use Rattle.rotation_laws.specs.Rotation.{IsInside, kept, wrapped, rotated, wraps, AreTurned}
use Rattle.rotation_laws.proofs.Rotated.{rotated_length, inside_rotated}
use Rattle.rotation_laws.proofs.RotatedBack.{rotated_back, wraps_back}
use Rattle.rim_hooks.specs.Bases.{IsBase}
use Rattle.rim_hooks.specs.FactorRows.{AreFew}

size_below : (m : ℕ) (parts : List ℕ) → Falls (m ∷ parts) → size parts ≤ length parts * m
size_below m [] f = omega arith
size_below m (a ∷ parts) f =
    let h : a ≤ m = f.0 in
    let r = size_below a parts f.1 in
    let g : length parts * a ≤ length parts * m = mul-le-mul_left (length parts) h in
    omega arith

size_inside : (parts : List ℕ) → Falls parts → size parts ≤ length parts * columns parts
size_inside [] f = omega arith
size_inside (a ∷ parts) f = let h : a ≤ a = omega arith in size_below a (a ∷ parts) (h, f)

inside_small : (k n : ℕ) (parts : List ℕ) → k ≤ 64 → n ≤ k + 64 → IsInside k n parts → size parts ≤ 4096
inside_small k n parts h l p =
    let a = size_inside parts p.partition.falls in
    let few = p.few in
    let narrow = p.narrow in
    let c : columns parts ≤ 64 = omega arith in
    let m : length parts * columns parts ≤ length parts * 64 = mul-le-mul_left (length parts) c in
    omega arith

module _ (k n r : ℕ) (parts b items : List ℕ) (short : k ≤ 64) (wide : n ≤ k + 64) (once : r ≤ n) (p : IsInside k n parts)
    (is : b ≡ beta k parts) (all : items ≡ kept n r b ++ wrapped n r b) where
  pub rotated_count : length items ≡ k
  rotated_count =
      ap length all ∙ length-append (kept n r b) (wrapped n r b) ∙ rotated_length n r b ∙ ap length is ∙ length-beta k parts

  pub rotated_limits : IsWithinLimits (from_beta items)
  rotated_limits =
      let inside = inside_rotated k n r parts once p in
      let same : from_beta items ≡ rotated k n r parts = ap from_beta (all ∙ ap (λ l. kept n r l ++ wrapped n r l) is) in
      let few = inside.few in
      subst IsWithinLimits (sym same) (record {
        partition = inside.partition;
        few = omega arith;
        small = inside_small k n (rotated k n r parts) short wide inside;
      })

pub base_is : (k n r s w : ℕ) (parts base : List ℕ) → r ≡ n - s → s < n → IsInside k n parts → base ≡ rotated k n r parts → w ≡ wraps k n r parts
    → IsBase k n parts base s (k - w)
base_is k n r s w parts base e h p is count =
    let sum : r + s ≡ n = omega arith in
    let x = wraps_back k n r s parts sum p in
    subst (λ m. IsBase k n parts m s (k - w)) (sym is) (record {
      inside = inside_rotated k n r parts (omega arith) p;
      small = h;
      light = omega arith;
      is = sym (rotated_back k n r s parts sum p);
      counted = omega arith;
    })

pub few_wraps : (k n r s w : ℕ) (parts : List ℕ) → r ≡ n - s → s < n → IsInside k n parts → w ≡ wraps k n r parts → w ≤ k
few_wraps k n r s w parts e h p count =
    let x = wraps_back k n r s parts (omega arith) p in
    omega arith

pub turned_more : (k n : ℕ) (factors bases : List (List ℕ)) (r d : ℕ) (factor base : List ℕ) (t w : ℕ) → AreTurned k n factors bases r d → IsBase k n factor base t w
    → AreTurned k n (factors ++ factor ∷ []) (bases ++ base ∷ []) (r + t) (d + w)
turned_more k n [] [] r d factor base t w a is =
    let m : t % n ≡ t = mod-eq_of_lt is.small in
    let q : t / n ≡ 0 = div-eq_of_lt is.small in
    let z = a.0 in
    let y = a.1 in
    let count = is.counted in
    let e : d + w ≡ 0 + (wraps k n t base + 0 * k) = omega arith in
    (t, 0, 0, is.inside, is.is ∙ ap (λ s. rotated k n s base) (sym m), omega arith, e ∙ sym (ap₂ (λ (s : ℕ) (u : ℕ). 0 + (wraps k n s base + u * k)) m q), (refl, refl))
turned_more k n [] (c ∷ bases) r d factor base t w a is = absurd a
turned_more k n (g ∷ factors) [] r d factor base t w a is = absurd a
turned_more k n (g ∷ factors) (c ∷ bases) r d factor base t w (s, left, power, inside, e, rs, ds, later) is =
    (s, left + t, power + w, inside, e, omega arith, omega arith, turned_more k n factors bases left power factor base t w later is)

pub two_turned : (k n : ℕ) (factors bases : List (List ℕ)) (f g a b : List ℕ) (s t v w : ℕ) → factors ≡ f ∷ g ∷ drop 2 factors → bases ≡ a ∷ b ∷ []
    → IsBase k n f a s v → IsBase k n g b t w → AreTurned k n (take 2 factors) bases (s + t) (v + w)
two_turned k n factors bases f g a b s t v w e is first second =
    subst (λ (fs : List (List ℕ)). AreTurned k n fs bases (s + t) (v + w)) (sym taken)
    (subst (λ (bs : List (List ℕ)). AreTurned k n (f ∷ g ∷ []) bs (s + t) (v + w)) (sym is)
    (turned_more k n (f ∷ []) (a ∷ []) s v g b t w one second))
  where
    taken : take 2 factors ≡ f ∷ g ∷ []
    taken = ap (take 2) e

    one : AreTurned k n (f ∷ []) (a ∷ []) s v
    one =
        let p : 0 + s ≡ s = omega arith in
        let q : 0 + v ≡ v = omega arith in
        subst (λ m. AreTurned k n (f ∷ []) (a ∷ []) m v) p
        (subst (λ m. AreTurned k n (f ∷ []) (a ∷ []) (0 + s) m) q (turned_more k n [] [] 0 0 f a s v (refl, refl) first))

pub next_turned : (k n : ℕ) (factors bases new : List (List ℕ)) (at : ℕ) (f b : List ℕ) (r d t w s v : ℕ) → slice_get factors at ≡ Some f
    → AreTurned k n (take at factors) bases r d → IsBase k n f b t w → new ≡ bases ++ b ∷ [] → s ≡ r + t → v ≡ d + w
    → AreTurned k n (take (at + 1) factors) new s v
next_turned k n factors bases new at f b r d t w s v here before is made turns power =
    subst (λ (fs : List (List ℕ)). AreTurned k n fs new s v) (take-read factors at f (slice_get_within factors at f here) (sym (get_or_from_slice_get factors at f f here)))
    (subst (λ (bs : List (List ℕ)). AreTurned k n (take at factors ++ f ∷ []) bs s v) (sym made)
    (subst (λ m. AreTurned k n (take at factors ++ f ∷ []) (bases ++ b ∷ []) m v) (sym turns)
    (subst (λ m. AreTurned k n (take at factors ++ f ∷ []) (bases ++ b ∷ []) (r + t) m) (sym power)
    (turned_more k n (take at factors) bases r d f b t w before is))))

pub turned_few : (k n : ℕ) (factors bases : List (List ℕ)) (r d : ℕ) → AreTurned k n factors bases r d → AreFew k bases
turned_few k n [] [] r d a parts m = absurd m
turned_few k n [] (c ∷ bases) r d a parts m = absurd a
turned_few k n (g ∷ factors) [] r d a parts m = absurd a
turned_few k n (g ∷ factors) (c ∷ bases) r d (s, left, power, inside, e, rs, ds, later) parts (inl is) = subst (λ p. rows p ≤ k) (sym is) inside.few
turned_few k n (g ∷ factors) (c ∷ bases) r d (s, left, power, inside, e, rs, ds, later) parts (inr m) = turned_few k n factors bases left power later parts m

pub turned_length : (k n : ℕ) (factors bases : List (List ℕ)) (r d : ℕ) → AreTurned k n factors bases r d → length factors ≡ length bases
turned_length k n [] [] r d a = refl
turned_length k n [] (c ∷ bases) r d a = absurd a
turned_length k n (g ∷ factors) [] r d a = absurd a
turned_length k n (g ∷ factors) (c ∷ bases) r d (s, left, power, inside, e, rs, ds, later) = let l = turned_length k n factors bases left power later in omega arith
