-- The braid relation for divided differences in three variables x, y and z, as an equation of operators on functions of the three exponents. The
-- pairing of such a function ψ with a polynomial is the sum of d·ψ(a, b, c) over the terms d·x^a·y^b·z^c of the polynomial. Each function of the
-- exponents is `three_steps ψ` for some ψ: its value at a, b, c is the pairing of ψ with (x - y)·(y - z)·(x - z)·x^a·y^b·z^c. Then both sides of the
-- relation are the same alternating sum of ψ over the six orders of a, b and c.
use Rattle.std.proofs.Common.{◌≡◌, ℕ, suc, sym, ◌∙◌, arith, ℤ, ◌+ℤ◌, ◌-ℤ◌, neg_ℤ, rules}
use Rattle.std.proofs.lemmas.Int.{ints}
use Rattle.schubert_laws.proofs.Climbs.{climb, across, stepped, across_ext, across_neg, across_minus, across_stepped, across_alternating, across_exchanged, stepped_climb}

abbrev pub Triple : Type 0
Triple = ℕ → ℕ → ℕ → ℤ

-- the divided difference in the first two of three variables, as an operator on functions of the three exponents
abbrev pub front : Triple → Triple
front φ a b c = across (λ x y. φ x y c) a b

abbrev pub back : Triple → Triple
back φ a b c = across (λ x y. φ a x y) b c

-- the pairing of φ with (x - y)·x^a·y^b·z^c; here x, y and z are the three variables
abbrev step_front : Triple → Triple
step_front φ a b c = φ (suc a) b c -ℤ φ a (suc b) c

abbrev step_back : Triple → Triple
step_back φ a b c = φ a (suc b) c -ℤ φ a b (suc c)

abbrev step_ends : Triple → Triple
step_ends φ a b c = φ (suc a) b c -ℤ φ a b (suc c)

pub front_ext : (φ ψ : Triple) → ((a b c : ℕ) → φ a b c ≡ ψ a b c) → (a b c : ℕ) → front φ a b c ≡ front ψ a b c
front_ext φ ψ e a b c = across_ext (λ x y. φ x y c) (λ x y. ψ x y c) (λ x y. e x y c) a b

pub back_ext : (φ ψ : Triple) → ((a b c : ℕ) → φ a b c ≡ ψ a b c) → (a b c : ℕ) → back φ a b c ≡ back ψ a b c
back_ext φ ψ e a b c = across_ext (λ x y. φ a x y) (λ x y. ψ a x y) (λ x y. e a x y) b c

raised : (χ χ' : ℕ → ℕ → ℤ) → ((a b : ℕ) → χ b a ≡ neg_ℤ (χ a b)) → ((a b : ℕ) → χ' b a ≡ neg_ℤ (χ' a b)) → (a b : ℕ)
    → across (λ x y. χ (suc x) y -ℤ χ' x y) a b ≡ χ a b
raised χ χ' h k a b =
    let m = across_minus (λ x y. χ (suc x) y) χ' a b in
    let z = across_alternating χ' k a b in
    let e = across_exchanged (λ x y. χ (suc x) y) a b in
    let f = across_minus (λ x y. χ (suc x) y) (λ x y. neg_ℤ (χ (suc y) x)) a b in
    let g = across_ext (λ x y. χ (suc x) y -ℤ neg_ℤ (χ (suc y) x)) (stepped χ) (λ x y. let d = h x (suc y) in omega (arith, ints)) a b in
    let n = across_neg (λ x y. χ (suc y) x) a b in
    let s = across_stepped χ a b in
    let d = h a b in
    omega (arith, ints)

lowered : (χ χ' : ℕ → ℕ → ℤ) → ((a b : ℕ) → χ b a ≡ neg_ℤ (χ a b)) → ((a b : ℕ) → χ' b a ≡ neg_ℤ (χ' a b)) → (a b : ℕ)
    → across (λ x y. χ' x y -ℤ χ x (suc y)) a b ≡ χ a b
lowered χ χ' h k a b =
    let m = across_minus χ' (λ x y. χ x (suc y)) a b in
    let z = across_alternating χ' k a b in
    let e = across_exchanged (λ x y. χ x (suc y)) a b in
    let f = across_minus (λ x y. neg_ℤ (χ y (suc x))) (λ x y. χ x (suc y)) a b in
    let g = across_ext (λ x y. neg_ℤ (χ y (suc x)) -ℤ χ x (suc y)) (stepped χ) (λ x y. let d = h y (suc x) in omega (arith, ints)) a b in
    let n = across_neg (λ x y. χ y (suc x)) a b in
    let s = across_stepped χ a b in
    let d = h a b in
    omega (arith, ints)

-- the alternating sum of ψ over the six orders of a, b and c: each order with its sign
abbrev six : Triple → Triple
six ψ a b c = ((ψ a b c -ℤ ψ b a c) -ℤ (ψ a c b -ℤ ψ c a b)) +ℤ (ψ b c a -ℤ ψ c b a)

abbrev three_steps : Triple → Triple
three_steps ψ = step_front (step_back (step_ends ψ))

front_three : (ψ : Triple) (a b c : ℕ) → front (three_steps ψ) a b c ≡ step_back (step_ends (λ x y z. ψ x y z -ℤ ψ y x z)) a b c
front_three ψ a b c =
    let s = across_stepped (λ x y. step_back (step_ends ψ) x y c) a b in
    omega (arith, ints)

back_front_three : (ψ : Triple) (a b c : ℕ)
    → back (front (three_steps ψ)) a b c ≡ step_ends (λ x y z. ψ x y z -ℤ ψ y x z) a b c -ℤ step_ends (λ x y z. ψ x y z -ℤ ψ y x z) a c b
back_front_three ψ a b c =
    back_ext (front (three_steps ψ)) (step_back (step_ends (λ x y z. ψ x y z -ℤ ψ y x z))) (front_three ψ) a b c
    ∙ across_stepped (λ x y. step_ends (λ u v w. ψ u v w -ℤ ψ v u w) a x y) b c

front_back_front : (ψ : Triple) (a b c : ℕ) → front (back (front (three_steps ψ))) a b c ≡ six ψ a b c
front_back_front ψ a b c =
    let e = front_ext (back (front (three_steps ψ))) (λ x y z. step_ends (λ u v w. ψ u v w -ℤ ψ v u w) x y z -ℤ step_ends (λ u v w. ψ u v w -ℤ ψ v u w) x z y) (back_front_three ψ) a b c in
    let f = across_ext (λ x y. step_ends (λ u v w. ψ u v w -ℤ ψ v u w) x y c -ℤ step_ends (λ u v w. ψ u v w -ℤ ψ v u w) x c y)
    (λ x y. ((ψ (suc x) y c -ℤ ψ y (suc x) c) -ℤ (ψ x y (suc c) -ℤ ψ y x (suc c))) -ℤ stepped (λ p q. ψ p c q -ℤ ψ c p q) x y)
    (λ x y. omega (arith, ints)) a b in
    let m = across_minus (λ x y. (ψ (suc x) y c -ℤ ψ y (suc x) c) -ℤ (ψ x y (suc c) -ℤ ψ y x (suc c))) (stepped (λ p q. ψ p c q -ℤ ψ c p q)) a b in
    let r = raised (λ x y. ψ x y c -ℤ ψ y x c) (λ x y. ψ x y (suc c) -ℤ ψ y x (suc c)) (λ x y. omega (arith, ints)) (λ x y. omega (arith, ints)) a b in
    let s = across_stepped (λ p q. ψ p c q -ℤ ψ c p q) a b in
    omega (arith, ints)

back_three : (ψ : Triple) (a b c : ℕ) → back (three_steps ψ) a b c ≡ step_front (step_ends (λ x y z. ψ x y z -ℤ ψ x z y)) a b c
back_three ψ a b c =
    let e = back_ext (three_steps ψ) (step_back (step_front (step_ends ψ))) (λ x y z. omega (arith, ints)) a b c in
    let s = across_stepped (λ x y. step_front (step_ends ψ) a x y) b c in
    omega (arith, ints)

front_back_three : (ψ : Triple) (a b c : ℕ)
    → front (back (three_steps ψ)) a b c ≡ step_ends (λ x y z. ψ x y z -ℤ ψ x z y) a b c -ℤ step_ends (λ x y z. ψ x y z -ℤ ψ x z y) b a c
front_back_three ψ a b c =
    front_ext (back (three_steps ψ)) (step_front (step_ends (λ x y z. ψ x y z -ℤ ψ x z y))) (back_three ψ) a b c
    ∙ across_stepped (λ x y. step_ends (λ u v w. ψ u v w -ℤ ψ u w v) x y c) a b

back_front_back : (ψ : Triple) (a b c : ℕ) → back (front (back (three_steps ψ))) a b c ≡ six ψ a b c
back_front_back ψ a b c =
    let e = back_ext (front (back (three_steps ψ))) (λ x y z. step_ends (λ u v w. ψ u v w -ℤ ψ u w v) x y z -ℤ step_ends (λ u v w. ψ u v w -ℤ ψ u w v) y x z) (front_back_three ψ) a b c in
    let f = across_ext (λ x y. step_ends (λ u v w. ψ u v w -ℤ ψ u w v) a x y -ℤ step_ends (λ u v w. ψ u v w -ℤ ψ u w v) x a y)
    (λ x y. ((ψ (suc a) x y -ℤ ψ (suc a) y x) -ℤ (ψ a x (suc y) -ℤ ψ a (suc y) x)) -ℤ stepped (λ p q. ψ p a q -ℤ ψ p q a) x y)
    (λ x y. omega (arith, ints)) b c in
    let m = across_minus (λ x y. (ψ (suc a) x y -ℤ ψ (suc a) y x) -ℤ (ψ a x (suc y) -ℤ ψ a (suc y) x)) (stepped (λ p q. ψ p a q -ℤ ψ p q a)) b c in
    let r = lowered (λ x y. ψ a x y -ℤ ψ a y x) (λ x y. ψ (suc a) x y -ℤ ψ (suc a) y x) (λ x y. omega (arith, ints)) (λ x y. omega (arith, ints)) b c in
    let s = across_stepped (λ p q. ψ p a q -ℤ ψ p q a) b c in
    omega (arith, ints)

-- a function χ such that `step_front χ` is φ: the result of `climb` for φ as a function of its first two numbers. Applying `climb` three times to φ,
-- each time to two of the three numbers, gives a function ψ such that φ is `three_steps ψ` (`three_climbs`)
abbrev climbed_front : Triple → Triple
climbed_front φ a b c = climb (λ x y. φ x y c) a b

abbrev climbed_back : Triple → Triple
climbed_back φ a b c = climb (λ x y. φ a x y) b c

abbrev climbed_ends : Triple → Triple
climbed_ends φ a b c = climb (λ x y. φ x b y) a c

three_climbs : (φ : Triple) (a b c : ℕ) → three_steps (climbed_ends (climbed_back (climbed_front φ))) a b c ≡ φ a b c
three_climbs φ a b c = search (rules, stepped_climb, ints)

braid_of_steps : (φ ψ : Triple) → ((x y z : ℕ) → φ x y z ≡ three_steps ψ x y z) → (a b c : ℕ) → front (back (front φ)) a b c ≡ back (front (back φ)) a b c
braid_of_steps φ ψ is a b c =
    front_ext (back (front φ)) (back (front (three_steps ψ))) (back_ext (front φ) (front (three_steps ψ)) (front_ext φ (three_steps ψ) is)) a b c
    ∙ front_back_front ψ a b c
    ∙ sym (back_front_back ψ a b c)
    ∙ sym (back_ext (front (back φ)) (front (back (three_steps ψ))) (front_ext (back φ) (back (three_steps ψ)) (back_ext φ (three_steps ψ) is)) a b c)

-- the operators `front` and `back`, ∂ in the first two and in the last two of three variables, satisfy the braid relation
pub front_back : (φ : Triple) (a b c : ℕ) → front (back (front φ)) a b c ≡ back (front (back φ)) a b c
front_back φ = braid_of_steps φ (climbed_ends (climbed_back (climbed_front φ))) (λ x y z. sym (three_climbs φ x y z))
