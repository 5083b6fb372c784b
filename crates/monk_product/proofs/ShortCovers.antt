-- The covers of a permutation that exchange the letter at a given place, listed in the order of the other place of the exchange.
use Rattle.std.proofs.Common.{◌≡◌, ℕ, ◌+◌, ◌-◌, ◌<◌, ◌==◌, Bool, List, [], ◌∷◌, ◌++◌, map, refl, sym, ap, ◌∙◌, subst, arith, ℤ}
use Rattle.std.specs.Prelude.{Option, Some, None, MatchOption}
use Rattle.std.specs.Option.{option_to_list}
use Rattle.std.proofs.lemmas.List.{map-append}
use Rattle.std.proofs.lemmas.List.Elements.{filter-append}
use Rattle.sym_model.specs.Partition.{after}
use Rattle.sym_model.specs.PlaceOrders.{inversions}
use Rattle.sym_model.specs.Permutation.{covers_among}
use Rattle.sym_model.proofs.AfterLists.{after-append}
use Rattle.linear_combinations.specs.Gains.{WholeTermsOf, Gains, Overflows, each_with}
use Rattle.linear_combinations.proofs.Gains.{each_append, gains_both, overflows_both, overflows_more}
use Rattle.perm_codes.proofs.CoverSteps.{one_more_place}

-- the covers of w among f(start + 1), .., f(start + n)
abbrev pub found : List ℕ → (ℕ → List ℕ) → ℕ → ℕ → List (List ℕ)
found w f start n = covers_among w (map f (after start n))

pub items : {X : Type 0} (o : Option X) (s : List X) → MatchOption o (s ≡ []) (λ x. s ≡ x ∷ []) → s ≡ option_to_list o
items None s h = h
items (Some x) s h = h

pub next : (w : List ℕ) (f : ℕ → List ℕ) (start n q : ℕ) → start + n + 1 ≡ q
    → found w f start (n + 1) ≡ found w f start n ++ covers_among w (f q ∷ [])
next w f start n q e =
    one_more_place w f start n (inversions (f (start + n + 1)) == inversions w + 1) refl
    ∙ ap (λ m. found w f start n ++ covers_among w (f m ∷ [])) e

pub rest : (w : List ℕ) (f : ℕ → List ℕ) (start n k : ℕ)
    → found w f start (n + k) ≡ found w f start n ++ found w f (start + n) k
rest w f start n k =
    ap (λ l. covers_among w (map f l)) (after-append start n k)
    ∙ ap (covers_among w) (map-append f (after start n) (after (start + n) k))
    ∙ filter-append (λ (v : List ℕ). inversions v == inversions w + 1) (map f (after start n)) (map f (after (start + n) k))

pub one_more : (c : ℤ) (w : List ℕ) (f : ℕ → List ℕ) (start n m q : ℕ) (slice : List (List ℕ)) (old cur new : WholeTermsOf (List ℕ))
    → start + n + 1 ≡ q → n + 1 ≡ m → slice ≡ covers_among w (f q ∷ [])
    → Gains old (each_with c (found w f start n)) cur → Gains cur (each_with c slice) new
    → Gains old (each_with c (found w f start m)) new
one_more c w f start n m q slice old cur new e h s so_far more =
    subst (λ l. Gains old l new)
    (sym (each_append c (found w f start n) slice)
    ∙ ap (each_with c) (ap (λ l. found w f start n ++ l) s ∙ sym (next w f start n q e) ∙ ap (found w f start) h))
    (gains_both old (each_with c (found w f start n)) cur (each_with c slice) new so_far more)

pub too_many : (eq : List ℕ → List ℕ → Bool) (c : ℤ) (w : List ℕ) (f : ℕ → List ℕ) (start n q k : ℕ) (slice : List (List ℕ)) (old cur : WholeTermsOf (List ℕ))
    → start + n + 1 ≡ q → n < k → slice ≡ covers_among w (f q ∷ [])
    → Gains old (each_with c (found w f start n)) cur → Overflows eq cur (each_with c slice)
    → Overflows eq old (each_with c (found w f start k))
too_many eq c w f start n q k slice old cur e h s so_far large =
    let m : n + 1 + (k - (n + 1)) ≡ k = omega arith in
    subst (Overflows eq old)
    (sym (each_append c (found w f start (n + 1)) (found w f (start + (n + 1)) (k - (n + 1))))
    ∙ ap (each_with c) (sym (rest w f start (n + 1) (k - (n + 1))) ∙ ap (found w f start) m))
    (overflows_more eq old (each_with c (found w f start (n + 1))) (each_with c (found w f (start + (n + 1)) (k - (n + 1))))
    (subst (Overflows eq old)
    (sym (each_append c (found w f start n) slice)
    ∙ ap (each_with c) (ap (λ l. found w f start n ++ l) s ∙ sym (next w f start n q e)))
    (overflows_both eq old (each_with c (found w f start n)) cur (each_with c slice) so_far large)))
