-- Lists that are rotated modulo n, entry by entry.
--     kept_next, wrapped_next    one more entry is appended
--     kept_past, wrapped_past    one more entry is passed over
use Rattle.std.proofs.Common.{◌≡◌, ℕ, ◌+◌, ◌-◌, ◌<◌, ◌≤◌, List, [], ◌∷◌, ◌++◌, length, drop, drop-cons, add-one, get_or, sym, ◌∙◌, ap, append_assoc}
use Rattle.rotation_laws.specs.Rotation.{kept, wrapped}
use Rattle.rotation_laws.proofs.Rotated.{kept_case, wrapped_case}

first_left : (b : List ℕ) (i : ℕ) → i < length b → drop i b ≡ get_or b i 0 ∷ drop (i + 1) b
first_left b i h = drop-cons b i 0 h ∙ ap (λ j. get_or b i 0 ∷ drop j b) (sym (add-one i))

module _ (n r : ℕ) (b done total : List ℕ) (i : ℕ) (h : i < length b) where
  pub kept_past : n ≤ get_or b i 0 + r → done ++ kept n r (drop i b) ≡ total → done ++ kept n r (drop (i + 1) b) ≡ total
  kept_past l e = ap (λ m. done ++ m) (sym (ap (kept n r) (first_left b i h) ∙ (wrapped_case n r (get_or b i 0) (drop (i + 1) b) l).0)) ∙ e

  pub wrapped_past : get_or b i 0 + r < n → done ++ wrapped n r (drop i b) ≡ total → done ++ wrapped n r (drop (i + 1) b) ≡ total
  wrapped_past l e = ap (λ m. done ++ m) (sym (ap (wrapped n r) (first_left b i h) ∙ (kept_case n r (get_or b i 0) (drop (i + 1) b) l).1)) ∙ e

  module _ (new : List ℕ) (x : ℕ) (pushed : new ≡ done ++ x ∷ []) where
    pub kept_next : x ≡ get_or b i 0 + r → get_or b i 0 + r < n → done ++ kept n r (drop i b) ≡ total → new ++ kept n r (drop (i + 1) b) ≡ total
    kept_next is l e =
        ap (λ m. m ++ kept n r (drop (i + 1) b)) (pushed ∙ ap (λ y. done ++ y ∷ []) is)
        ∙ append_assoc done ((get_or b i 0 + r) ∷ []) (kept n r (drop (i + 1) b))
        ∙ ap (λ m. done ++ m) (sym (ap (kept n r) (first_left b i h) ∙ (kept_case n r (get_or b i 0) (drop (i + 1) b) l).0)) ∙ e

    pub wrapped_next : x ≡ get_or b i 0 + r - n → n ≤ get_or b i 0 + r → done ++ wrapped n r (drop i b) ≡ total → new ++ wrapped n r (drop (i + 1) b) ≡ total
    wrapped_next is l e =
        ap (λ m. m ++ wrapped n r (drop (i + 1) b)) (pushed ∙ ap (λ y. done ++ y ∷ []) is)
        ∙ append_assoc done ((get_or b i 0 + r - n) ∷ []) (wrapped n r (drop (i + 1) b))
        ∙ ap (λ m. done ++ m) (sym (ap (wrapped n r) (first_left b i h) ∙ (wrapped_case n r (get_or b i 0) (drop (i + 1) b) l).1)) ∙ e
