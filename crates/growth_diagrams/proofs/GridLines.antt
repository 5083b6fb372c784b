-- The lines of the growth grid of a permutation, and their shapes by index.
use Rattle.std.proofs.Common.{◌≡◌, ℕ, zero, suc, ◌+◌, ◌-◌, ◌<◌, ◌≤◌, ◌==◌, List, [], ◌∷◌, ◌++◌, map, length, take, get_or, Vec, Global, ◌∙◌, ap, ap₂, sym, refl, arith}
use Rattle.std.proofs.lemmas.List.{take_more, take_all, length-map, map-append, get_or-map, get_or-take, length-take-le}
use Rattle.sym_model.specs.Partition.{after}
use Rattle.sym_model.specs.Permutation.{letter}
use Rattle.sym_model.specs.Growth.{at_corner, grid_line, grid_lines, growth_shape}
use Rattle.sym_model.proofs.AfterLists.{length_after}
use Rattle.growth_diagrams.specs.Grids.{lines_in}
use Rattle.skew_shapes.proofs.CellRows.{map_after-at}

get-table : {X : Type 0} (f : ℕ → X) (d : X) (n k : ℕ) → k ≤ n → get_or (map f (0 ∷ after 0 n)) k d ≡ f k
get-table f d n zero l = refl
get-table f d n (suc k) l = let e : 0 + k + 1 ≡ suc k = omega arith in map_after-at f 0 n k d (omega arith) ∙ ap f e

length-table : {X : Type 0} (f : ℕ → X) (n : ℕ) → length (map f (0 ∷ after 0 n)) ≡ n + 1
length-table f n = omega (arith, length-map (after 0 n) f, length_after 0 n)

pub length-line : (w : List ℕ) (i : ℕ) → length (grid_line w i) ≡ length w + 1
length-line w i = length-table (growth_shape w i) (length w)

pub length-lines : (w : List ℕ) → length (grid_lines w) ≡ length w + 1
length-lines w = length-table (grid_line w) (length w)

pub get-line : (w : List ℕ) (i j : ℕ) (d : List ℕ) → j ≤ length w → get_or (grid_line w i) j d ≡ growth_shape w i j
get-line w i j d l = get-table (growth_shape w i) d (length w) j l

pub get-lines : (w : List ℕ) (i : ℕ) (d : List (List ℕ)) → i ≤ length w → get_or (grid_lines w) i d ≡ grid_line w i
get-lines w i d l = get-table (grid_line w) d (length w) i l

pub line-more : (w : List ℕ) (i k : ℕ) → k ≤ length w → take (k + 1) (grid_line w i) ≡ take k (grid_line w i) ++ growth_shape w i k ∷ []
line-more w i k l =
    take_more (grid_line w i) k [] (omega (arith, length-line w i)) ∙ ap (λ (s : List ℕ). take k (grid_line w i) ++ s ∷ []) (get-line w i k [] l)

pub lines-more : (w : List ℕ) (k : ℕ) → k ≤ length w → take (k + 1) (grid_lines w) ≡ take k (grid_lines w) ++ grid_line w k ∷ []
lines-more w k l =
    take_more (grid_lines w) k [] (omega (arith, length-lines w)) ∙ ap (λ (s : List (List ℕ)). take k (grid_lines w) ++ s ∷ []) (get-lines w k [] l)

pub line_all : (w : List ℕ) (i k : ℕ) → length w < k → take k (grid_line w i) ≡ grid_line w i
line_all w i k l = take_all k (grid_line w i) (omega (arith, length-line w i))

pub lines_all : (w : List ℕ) (k : ℕ) → length w < k → take k (grid_lines w) ≡ grid_lines w
lines_all w k l = take_all k (grid_lines w) (omega (arith, length-lines w))

-- the growth shape at (number, k + 1) is given by the local rule from those at (number - 1, k), (number - 1, k + 1) and (number, k)
pub corner_next :
    (w : List ℕ) (number k a : ℕ) (lower left right : List ℕ) → 1 ≤ number → number ≤ length w → k < length w → a ≡ letter w number
    → lower ≡ growth_shape w (number - 1) k → left ≡ growth_shape w (number - 1) (k + 1) → right ≡ growth_shape w number k
    → at_corner (a == k + 1) lower left right ≡ growth_shape w number (k + 1)
corner_next w zero k a lower left right f l m e p q r = absurd (omega arith)
corner_next w (suc i) k a lower left right f l m e p q r =
    let n : suc i - 1 ≡ i = omega arith in
    let s : k + 1 ≡ suc k = omega arith in
    let t : (a == k + 1) ≡ (letter w (suc i) == suc k) = ap₂ (λ x y. x == y) e s in
    ap (λ t. at_corner t lower left right) t
    ∙ ap₂ (λ x y. at_corner (letter w (suc i) == suc k) x y right) (p ∙ ap (λ i. growth_shape w i k) n) (q ∙ ap₂ (growth_shape w) n s)
    ∙ ap (at_corner (letter w (suc i) == suc k) (growth_shape w i k) (growth_shape w i (suc k))) r
    ∙ ap (growth_shape w (suc i)) (sym s)

pub shape_in : (w : List ℕ) (line : List (List ℕ)) (i k here : ℕ) (x : List ℕ) → line ≡ grid_line w i → here ≡ k → k ≤ length w
    → x ≡ get_or line here x → x ≡ growth_shape w i k
shape_in w line i k here x e f l g = g ∙ ap₂ (λ (m : List (List ℕ)) (n : ℕ). get_or m n x) e f ∙ get-line w i k x l

pub shape_in_front :
    (w : List ℕ) (line : List (List ℕ)) (i k here : ℕ) (x : List ℕ) → line ≡ take (k + 1) (grid_line w i) → here ≡ k → k ≤ length w
    → x ≡ get_or line here x → x ≡ growth_shape w i k
shape_in_front w line i k here x e f l g =
    g ∙ ap₂ (λ (m : List (List ℕ)) (n : ℕ). get_or m n x) e f ∙ get_or-take (k + 1) (grid_line w i) k x (omega arith) ∙ get-line w i k x l

pub square_next :
    (w : List ℕ) (number k here a : ℕ) (line next : List (List ℕ)) (lower left right : List ℕ) → 1 ≤ number → number ≤ length w
    → k < length w → a ≡ letter w number → line ≡ grid_line w (number - 1) → next ≡ take (k + 1) (grid_line w number) → here ≡ k
    → lower ≡ get_or line here lower → left ≡ get_or line (here + 1) left → right ≡ get_or next here right
    → at_corner (a == k + 1) lower left right ≡ growth_shape w number (k + 1)
square_next w number k here a line next lower left right f l m e p q h x y z =
    corner_next w number k a lower left right f l m e (shape_in w line (number - 1) k here lower p h (omega arith) x)
    (shape_in w line (number - 1) (k + 1) (here + 1) left p (ap (λ n. n + 1) h) (omega arith) y)
    (shape_in_front w next number k here right q h (omega arith) z)

pub length_front : (w : List ℕ) (next : List (List ℕ)) (i k : ℕ) → next ≡ take (k + 1) (grid_line w i) → k < length w → length next ≡ k + 1
length_front w next i k e l =
    ap (λ (m : List (List ℕ)). length m) e ∙ length-take-le (k + 1) (grid_line w i) (omega (arith, length-line w i))

-- ---- the growth grid as a vector of lines

pub line_in :
    (w : List ℕ) (lines : List (Vec (List ℕ) Global)) (i here : ℕ) (x : Vec (List ℕ) Global) → lines_in lines ≡ grid_lines w → here ≡ i
    → i ≤ length w → x ≡ get_or lines here x → x.items ≡ grid_line w i
line_in w lines i here x e f l g =
    let long : length (lines_in lines) ≡ length lines = length-map lines (λ (v : Vec (List ℕ) Global). v.items) in
    let within : here < length lines = omega (arith, ap (λ (m : List (List (List ℕ))). length m) e, length-lines w) in
    ap (λ (v : Vec (List ℕ) Global). v.items) g ∙ sym (get_or-map (λ (v : Vec (List ℕ) Global). v.items) lines here x [] within)
    ∙ ap₂ (λ (m : List (List (List ℕ))) (n : ℕ). get_or m n []) e f ∙ get-lines w i [] l

pub front_long :
    (w : List ℕ) (lines : List (Vec (List ℕ) Global)) (k : ℕ) → lines_in lines ≡ take (k + 1) (grid_lines w) → k ≤ length w
    → length lines ≡ k + 1
front_long w lines k e l =
    sym (length-map lines (λ (v : Vec (List ℕ) Global). v.items)) ∙ ap (λ (m : List (List (List ℕ))). length m) e
    ∙ length-take-le (k + 1) (grid_lines w) (omega (arith, length-lines w))

pub line_in_front :
    (w : List ℕ) (lines : List (Vec (List ℕ) Global)) (k here : ℕ) (x : Vec (List ℕ) Global)
    → lines_in lines ≡ take (k + 1) (grid_lines w) → here ≡ k → k ≤ length w → x ≡ get_or lines here x → x.items ≡ grid_line w k
line_in_front w lines k here x e f l g =
    let within : here < length lines = omega (arith, front_long w lines k e l) in
    ap (λ (v : Vec (List ℕ) Global). v.items) g ∙ sym (get_or-map (λ (v : Vec (List ℕ) Global). v.items) lines here x [] within)
    ∙ ap₂ (λ (m : List (List (List ℕ))) (n : ℕ). get_or m n []) e f ∙ get_or-take (k + 1) (grid_lines w) k [] (omega arith) ∙ get-lines w k [] l

pub lines_push :
    (w : List ℕ) (lines more : List (Vec (List ℕ) Global)) (k : ℕ) (x : Vec (List ℕ) Global) → lines_in lines ≡ take (k + 1) (grid_lines w)
    → more ≡ lines ++ x ∷ [] → x.items ≡ grid_line w (k + 1) → k < length w → lines_in more ≡ take (k + 1 + 1) (grid_lines w)
lines_push w lines more k x e f g l =
    ap lines_in f ∙ map-append (λ (v : Vec (List ℕ) Global). v.items) lines (x ∷ [])
    ∙ ap₂ (λ (m : List (List (List ℕ))) (a : List (List ℕ)). m ++ a ∷ []) e g ∙ sym (lines-more w (k + 1) (omega arith))

pub lines_long : (w : List ℕ) (lines : List (Vec (List ℕ) Global)) → lines_in lines ≡ grid_lines w → length lines ≡ length w + 1
lines_long w lines e =
    sym (length-map lines (λ (v : Vec (List ℕ) Global). v.items)) ∙ ap (λ (m : List (List (List ℕ))). length m) e ∙ length-lines w
