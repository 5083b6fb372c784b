-- The tableaux that `tab` lists, and the text of the list.
use Rattle.std.proofs.Common.{◌≡◌, ℕ, List, [], ◌∷◌, ◌++◌, Bool, true, false, cond, refl, sym, ◌∙◌, ap, Option, Some, None, filter}
use Rattle.std.specs.Prelude.{map, length, nat_le}
use Rattle.std.specs.List.{flat_map}
use Rattle.sym_model.specs.Schur.{contains, words}
use Rattle.sym_model.specs.Partition.{cells, rows}
use Rattle.sym_model.specs.GoodTableau.{good_readings, lattice_readings, column_reading, is_among, is_good}
use Rattle.sym_model.specs.Outcome.{readings_after}
use Rattle.sym_model.specs.TableauList.{filling_of, later_than}
use Rattle.sym_model.specs.TableauText.{tableau_line, readings_text}

-- the printed line of the tableau of shape outer/inner with a given column reading
abbrev pub line : List ℕ → List ℕ → List ℕ → List ℕ
line outer inner w = tableau_line (filling_of outer inner w)

each-flat : {A : Type 0} (f : A → List ℕ) (xs : List A) → flat_map f xs ≡ flat_map f xs
each-flat f [] = refl
each-flat f (x ∷ xs) = ap (λ t. f x ++ t) (each-flat f xs)

pub readings_text-more : (outer inner w : List ℕ) (ws : List (List ℕ))
    → line outer inner w ++ flat_map (line outer inner) ws ≡ readings_text outer inner (w ∷ ws)
readings_text-more outer inner w ws = sym (each-flat (line outer inner) (w ∷ ws))

-- ---- if the outer shape does not contain the inner one, no tableau is listed

among_none : (ws : List (List ℕ)) → filter (λ w. is_among w []) ws ≡ []
among_none [] = refl
among_none (w ∷ ws) = among_none ws

none_chosen : (x : Bool) (f : List (List ℕ) → List ℕ) (test : List (List ℕ) → Bool) (ws : List (List ℕ))
    → filter (λ w. is_among w (map f (cond x (filter test []) []))) ws ≡ []
none_chosen true f test ws = among_none ws
none_chosen false f test ws = among_none ws

pub none_outside : (outer inner : List ℕ) → contains outer inner ≡ false → lattice_readings outer inner ≡ []
none_outside outer inner h =
    rw h
    (none_chosen (nat_le (rows []) (rows outer)) (column_reading outer inner) (is_good (rows outer) [] outer inner)
    (words (rows outer) (length (cells outer inner))))

pub none_after : (outer inner : List ℕ) (after : Option (List ℕ)) → contains outer inner ≡ false → readings_after outer inner after ≡ []
none_after outer inner None h = none_outside outer inner h
none_after outer inner (Some last) h = ap (later_than last) (none_outside outer inner h)

-- if `start` is empty and k is the number of rows of the outer shape, the list `good_readings k start outer inner` is the list of the column readings
-- of the lattice tableaux of outer/inner
pub all_listed : (outer inner start : List ℕ) (k : ℕ) (rest : List (List ℕ)) → k ≡ rows outer → start ≡ [] → rest ≡ good_readings k start outer inner
    → rest ≡ lattice_readings outer inner
all_listed outer inner start k rest l e is = is ∙ ap (λ j. good_readings j start outer inner) l ∙ ap (λ s. good_readings (rows outer) s outer inner) e

pub later_listed : (outer inner start last w : List ℕ) (k : ℕ) (rest : List (List ℕ)) → k ≡ rows outer → start ≡ [] → last ≡ w
    → rest ≡ later_than last (good_readings k start outer inner) → rest ≡ later_than w (lattice_readings outer inner)
later_listed outer inner start last w k rest l e s is =
    is ∙ ap (later_than last) (all_listed outer inner start k (good_readings k start outer inner) l e refl) ∙ ap (λ v. later_than v (lattice_readings outer inner)) s

pub listed-lines : (outer inner : List ℕ) (shape : List ℕ × List ℕ) (after : Option (List ℕ)) (rest : List (List ℕ))
    → shape ≡ (outer, inner) → rest ≡ readings_after shape.0 shape.1 after
    → readings_text shape.0 shape.1 rest ≡ readings_text outer inner (readings_after outer inner after)
listed-lines outer inner shape after rest is readings =
    ap (readings_text shape.0 shape.1) readings ∙ ap (λ (s : List ℕ × List ℕ). readings_text s.0 s.1 (readings_after s.0 s.1 after)) is
