-- A stack of levels: what is still to come, soundness and the work left, for a stack with more levels at its end.
use Rattle.std.proofs.Common.{◌≡◌, ℕ, zero, suc, ◌+◌, ◌*◌, ◌^◌, ◌<◌, ◌≤◌, List, [], ◌∷◌, ◌++◌, length, refl, sym, ap, ◌∙◌, subst, arith, append_assoc, append-nil}
use Rattle.std.specs.Prelude.{Option, Some, None, MatchOption}
use Rattle.std.specs.Option.{option_to_list, option_map}
use Rattle.std.proofs.Math.Nat.{one-le-pow, pow-succ', mul-le-mul_right, add-mul}
use Rattle.prefix_walk.specs.Terms.{with_entry, lone_term}
use Rattle.prefix_walk.specs.Levels.{rest_at, entries_of, AreSound, work_left}
use Rattle.prefix_walk.proofs.TermLists.{with_entry-append, lone}

module _ (N : Type 0) where
  -- the terms with the current entries of the levels put in front
  abbrev pub prefixed : List (N × ℕ) → List (List ℕ × ℕ) → List (List ℕ × ℕ)
  prefixed [] terms = terms
  prefixed (level ∷ levels) terms = with_entry level.1 (prefixed levels terms)

  pub prefixed-none : (front : List (N × ℕ)) → prefixed front [] ≡ []
  prefixed-none [] = refl
  prefixed-none (f ∷ front) = ap (with_entry f.1) (prefixed-none front)

  pub prefixed-one : (front : List (N × ℕ)) (level : N × ℕ) (count : ℕ) → prefixed front ((level.1 ∷ [], count) ∷ []) ≡ (entries_of (front ++ level ∷ []), count) ∷ []
  prefixed-one [] level count = refl
  prefixed-one (f ∷ front) level count = ap (with_entry f.1) (prefixed-one front level count)

  module _ (terms : ℕ → N → List (List ℕ × ℕ)) where
    rest_tail : (n m : ℕ) (front t s : List (N × ℕ)) (x : List (List ℕ × ℕ)) → n ≡ length front + m
        → rest_at terms m t ≡ x ++ rest_at terms m s → rest_at terms n (front ++ t) ≡ prefixed front x ++ rest_at terms n (front ++ s)
    rest_tail n m [] t s x e h = let k : m ≡ n = omega arith in
        ap (λ (i : ℕ). rest_at terms i t) (sym k) ∙ h ∙ ap (λ (i : ℕ). x ++ rest_at terms i s) k
    rest_tail zero m (f ∷ front) t s x e h = absurd (omega arith)
    rest_tail (suc n) m (f ∷ front) t s x e h =
        let more = terms n f.0 in
        ap (λ (y : List (List ℕ × ℕ)). with_entry f.1 y ++ more) (rest_tail n m front t s x (omega arith) h)
        ∙ ap (λ (y : List (List ℕ × ℕ)). y ++ more) (with_entry-append f.1 (prefixed front x) (rest_at terms n (front ++ s)))
        ∙ append_assoc (with_entry f.1 (prefixed front x)) (with_entry f.1 (rest_at terms n (front ++ s))) more

    -- the same where nothing is put in front
    same_tail : (n m : ℕ) (front t s : List (N × ℕ)) → n ≡ length front + m
        → rest_at terms m t ≡ rest_at terms m s → rest_at terms n (front ++ t) ≡ rest_at terms n (front ++ s)
    same_tail n m front t s e h =
        rest_tail n m front t s [] e h ∙ ap (λ (y : List (List ℕ × ℕ)). y ++ rest_at terms n (front ++ s)) (prefixed-none front)

    -- the current entry of the last level does not matter
    pub other_entry : (n m : ℕ) (front : List (N × ℕ)) (x : N) (a b : ℕ) → n ≡ length front + (m + 1) → rest_at terms n (front ++ (x, a) ∷ []) ≡ rest_at terms n (front ++ (x, b) ∷ [])
    other_entry n m front x a b e = let k : n ≡ length front + suc m = omega arith in same_tail n (suc m) front ((x, a) ∷ []) ((x, b) ∷ []) k refl

    -- a level without terms is left
    pub pop_rest : (n m : ℕ) (front : List (N × ℕ)) (x : N) (a : ℕ) → n ≡ length front + (m + 1) → terms m x ≡ [] → rest_at terms n (front ++ (x, a) ∷ []) ≡ rest_at terms n front
    pop_rest n m front x a e h =
        let k : n ≡ length front + suc m = omega arith in
        same_tail n (suc m) front ((x, a) ∷ []) [] k h ∙ ap (λ (y : List (N × ℕ)). rest_at terms n y) (append-nil front)

    -- an entry that makes a further level
    pub deeper_rest : (n m : ℕ) (front : List (N × ℕ)) (x z y : N) (before a b : ℕ) → n ≡ length front + (m + 2) → terms (suc m) x ≡ with_entry a (terms m y) ++ terms (suc m) z
        → rest_at terms n (front ++ (x, before) ∷ []) ≡ rest_at terms n ((front ++ (z, a) ∷ []) ++ (y, b) ∷ [])
    deeper_rest n m front x z y before a b e h =
        let k : n ≡ length front + suc (suc m) = omega arith in
        same_tail n (suc (suc m)) front ((x, before) ∷ []) ((z, a) ∷ (y, b) ∷ []) k h
        ∙ ap (λ (t : List (N × ℕ)). rest_at terms n t) (sym (append_assoc front ((z, a) ∷ []) ((y, b) ∷ [])))

    -- an entry that ends a label, if its count is positive
    pub last_rest : (n : ℕ) (front : List (N × ℕ)) (x z : N) (before a count : ℕ) (r : Option ℕ) → n ≡ length front + 1 → terms 0 x ≡ with_entry a (lone_term count) ++ terms 0 z
        → MatchOption r (count ≡ 0) (λ c. (c ≡ count) × (0 < count))
        → rest_at terms n (front ++ (x, before) ∷ []) ≡ option_to_list (option_map (λ c. (entries_of (front ++ (z, a) ∷ []), c)) r) ++ rest_at terms n (front ++ (z, a) ∷ [])
    last_rest n front x z before a count None e h g =
        same_tail n 1 front ((x, before) ∷ []) ((z, a) ∷ []) e (h ∙ ap (λ (i : ℕ). with_entry a (lone_term i) ++ terms 0 z) g)
    last_rest n front x z before a count (Some c) e h g =
        rest_tail n 1 front ((x, before) ∷ []) ((z, a) ∷ []) ((a ∷ [], c) ∷ []) e
        (h ∙ ap (λ (i : List (List ℕ × ℕ)). with_entry a i ++ terms 0 z) (lone count g.1) ∙ ap (λ (i : ℕ). (a ∷ [], i) ∷ terms 0 z) (sym g.0))
        ∙ ap (λ (y : List (List ℕ × ℕ)). y ++ rest_at terms n (front ++ (z, a) ∷ [])) (prefixed-one front (z, a) c)

    -- what a step gives, stated of the levels before it
    pub stepped : (len n : ℕ) (levels all now : List (N × ℕ)) (label : List ℕ) (o p : Option ℕ) → levels ≡ all → len ≡ n → o ≡ p
        → rest_at terms n all ≡ option_to_list (option_map (λ k. (label, k)) o) ++ rest_at terms n now
        → rest_at terms len levels ≡ option_to_list (option_map (λ k. (label, k)) p) ++ rest_at terms len now
    stepped len n levels all now label o p e k i h =
        ap (λ (x : List (N × ℕ)). rest_at terms len x) e
        ∙ subst (λ (j : ℕ). rest_at terms j all ≡ option_to_list (option_map (λ (c : ℕ). (label, c)) p) ++ rest_at terms j now) (sym k)
        (subst (λ (q : Option ℕ). rest_at terms n all ≡ option_to_list (option_map (λ (c : ℕ). (label, c)) q) ++ rest_at terms n now) i h)

  module _ (node : ℕ → N → Type 0) where
    pub sound_front : (n : ℕ) (front t : List (N × ℕ)) → AreSound node n (front ++ t) → AreSound node n front
    sound_front n [] t h = tt
    sound_front zero (f ∷ front) t h = absurd h
    sound_front (suc n) (f ∷ front) t h = (h.0, sound_front n front t h.1)

    sound_tail : (n m : ℕ) (front t : List (N × ℕ)) → n ≡ length front + m → AreSound node n (front ++ t) → AreSound node m t
    sound_tail n m [] t e h = let k : n ≡ m = omega arith in subst (λ (i : ℕ). AreSound node i t) k h
    sound_tail zero m (f ∷ front) t e h = absurd h
    sound_tail (suc n) m (f ∷ front) t e h = sound_tail n m front t (omega arith) h.1

    sound_join : (n m : ℕ) (front t : List (N × ℕ)) → n ≡ length front + m → AreSound node n front → AreSound node m t → AreSound node n (front ++ t)
    sound_join n m [] t e h g = let k : m ≡ n = omega arith in subst (λ (i : ℕ). AreSound node i t) k g
    sound_join zero m (f ∷ front) t e h g = absurd h
    sound_join (suc n) m (f ∷ front) t e h g = (h.0, sound_join n m front t (omega arith) h.1 g)

    pub room_for : (n : ℕ) (front : List (N × ℕ)) (level : N × ℕ) → AreSound node n (front ++ level ∷ []) → length front < n
    room_for zero [] level h = absurd h
    room_for (suc n) [] level h = omega arith
    room_for zero (f ∷ front) level h = absurd h
    room_for (suc n) (f ∷ front) level h = let i = room_for n front level h.1 in omega arith

    -- the last level
    pub last_node : (n m : ℕ) (front : List (N × ℕ)) (x : N) (a : ℕ) → n ≡ length front + (m + 1) → AreSound node n (front ++ (x, a) ∷ []) → node m x
    last_node n m front x a e h =
        let k : n ≡ length front + suc m = omega arith in
        (sound_tail n (suc m) front ((x, a) ∷ []) k h).0

    pub taken_sound : (n m : ℕ) (front : List (N × ℕ)) (x z : N) (before a : ℕ) → n ≡ length front + (m + 1) → AreSound node n (front ++ (x, before) ∷ []) → node m z
        → AreSound node n (front ++ (z, a) ∷ [])
    taken_sound n m front x z before a e h g =
        let k : n ≡ length front + suc m = omega arith in
        sound_join n (suc m) front ((z, a) ∷ []) k (sound_front n front ((x, before) ∷ []) h) (g, tt)

    pub deeper_sound : (n m : ℕ) (front : List (N × ℕ)) (x z y : N) (before a b : ℕ) → n ≡ length front + (m + 2) → AreSound node n (front ++ (x, before) ∷ []) → node (m + 1) z → node m y
        → AreSound node n ((front ++ (z, a) ∷ []) ++ (y, b) ∷ [])
    deeper_sound n m front x z y before a b e h g f =
        let k : n ≡ length front + suc (suc m) = omega arith in
        let i : m + 1 ≡ suc m = omega arith in
        subst (λ (l : List (N × ℕ)). AreSound node n l) (sym (append_assoc front ((z, a) ∷ []) ((y, b) ∷ [])))
        (sound_join n (suc (suc m)) front ((z, a) ∷ (y, b) ∷ []) k (sound_front n front ((x, before) ∷ []) h) (subst (λ (j : ℕ). node j z) i g, (f, tt)))

  -- the work left becomes smaller
  module _ (top : N → ℕ) (bound : ℕ) where
    work-append : (n m : ℕ) (front t : List (N × ℕ)) → n ≡ length front + m → work_left top bound n (front ++ t) ≡ work_left top bound n front + work_left top bound m t
    work-append n m [] t e = let k : n ≡ m = omega arith in ap (λ (i : ℕ). work_left top bound i t) k ∙ zero_front (work_left top bound m t)
      where
        zero_front : (x : ℕ) → x ≡ 0 + x
        zero_front x = omega arith
    work-append zero m (f ∷ front) t e = absurd (omega arith)
    work-append (suc n) m (f ∷ front) t e = let i = work-append n m front t (omega arith) in omega arith

    power : (m : ℕ) → 0 < (bound + 2) ^ m
    power m = let h = one-le-pow m (bound + 2) (omega arith) in omega arith

    fewer : (i j p : ℕ) → i ≤ j → (i + 1) * p ≤ (j + 1) * p
    fewer i j p h = let g : i + 1 ≤ j + 1 = omega arith in mul-le-mul_right p g

    one_more : (i p : ℕ) → (i + 2) * p ≡ (i + 1) * p + p
    one_more i p = let k = add-mul i 2 p in let l = add-mul i 1 p in omega arith

    one_less : (i j p : ℕ) → i < j → (i + 1) * p + p ≤ (j + 1) * p
    one_less i j p h = let k = one_more i p in let g : i + 2 ≤ j + 1 = omega arith in let l = mul-le-mul_right p g in omega arith

    -- the current entry of the last level does not matter
    pub other_work : (n m : ℕ) (front : List (N × ℕ)) (x : N) (a b : ℕ) → n ≡ length front + (m + 1)
        → work_left top bound n (front ++ (x, a) ∷ []) ≡ work_left top bound n (front ++ (x, b) ∷ [])
    other_work n m front x a b e =
        let k : n ≡ length front + suc m = omega arith in
        work-append n (suc m) front ((x, a) ∷ []) k ∙ sym (work-append n (suc m) front ((x, b) ∷ []) k)

    pub pop_work : (n m : ℕ) (front : List (N × ℕ)) (x : N) (a : ℕ) → n ≡ length front + (m + 1)
        → work_left top bound n front < work_left top bound n (front ++ (x, a) ∷ [])
    pop_work n m front x a e =
        let k : n ≡ length front + suc m = omega arith in
        let w = work-append n (suc m) front ((x, a) ∷ []) k in
        let p = power m in
        let q = fewer 0 (top x) ((bound + 2) ^ m) (omega arith) in
        let r : (0 + 1) * (bound + 2) ^ m ≡ (bound + 2) ^ m = one_times ((bound + 2) ^ m) in
        omega arith
      where
        one_times : (i : ℕ) → (0 + 1) * i ≡ i
        one_times i = omega arith

    pub taken_work : (n m : ℕ) (front : List (N × ℕ)) (x z : N) (before a : ℕ) → n ≡ length front + (m + 1) → top z < top x
        → work_left top bound n (front ++ (z, a) ∷ []) < work_left top bound n (front ++ (x, before) ∷ [])
    taken_work n m front x z before a e less =
        let k : n ≡ length front + suc m = omega arith in
        let w = work-append n (suc m) front ((x, before) ∷ []) k in
        let v = work-append n (suc m) front ((z, a) ∷ []) k in
        let p = power m in
        let q = one_less (top z) (top x) ((bound + 2) ^ m) less in
        omega arith

    pub deeper_work : (n m : ℕ) (front : List (N × ℕ)) (x z y : N) (before a b : ℕ) → n ≡ length front + (m + 2) → top z < top x → top y ≤ bound
        → work_left top bound n ((front ++ (z, a) ∷ []) ++ (y, b) ∷ []) < work_left top bound n (front ++ (x, before) ∷ [])
    deeper_work n m front x z y before a b e less le =
        let k : n ≡ length front + suc (suc m) = omega arith in
        let w = work-append n (suc (suc m)) front ((x, before) ∷ []) k in
        let v = work-append n (suc (suc m)) front ((z, a) ∷ (y, b) ∷ []) k in
        let j = ap (λ (l : List (N × ℕ)). work_left top bound n l) (append_assoc front ((z, a) ∷ []) ((y, b) ∷ [])) in
        let p = power m in
        let q = one_less (top z) (top x) ((bound + 2) ^ suc m) less in
        let s = pow-succ' (bound + 2) m in
        let t = one_more bound ((bound + 2) ^ m) in
        let u = fewer (top y) bound ((bound + 2) ^ m) le in
        omega arith
