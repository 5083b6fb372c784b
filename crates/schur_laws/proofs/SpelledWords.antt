-- The weakly increasing word in which each letter occurs a given number of times.
use Rattle.std.proofs.Common.{◌≡◌, ℕ, zero, suc, ◌+◌, ◌<◌, ◌≤◌, ◌==◌, true, cond, List, [], ◌∷◌, ◌++◌, replicate, get_or, nat_le, sym, refl, arith, rules}
use Rattle.std.proofs.lemmas.Bool.Decides.{nat_tests}
use Rattle.std.proofs.lemmas.Bool.{and_from, le-leb}
use Rattle.std.proofs.lemmas.List.{get_or_past}
use Rattle.sym_model.specs.Schur.{times_in}
use Rattle.sym_model.proofs.Contents.{times_in-append}
use Rattle.tableau_laws.specs.Grid.{is_chain}
use Rattle.schur_laws.proofs.RisingRows.{Rises, rises_rest}

-- the word that has the letters a, a + 1, .., in this order, each as often as the list `counts` says
abbrev pub spelled : ℕ → List ℕ → List ℕ
spelled a [] = []
spelled a (k ∷ counts) = replicate k a ++ spelled (suc a) counts

spelled_after : (b a : ℕ) (counts : List ℕ) → b ≤ a → is_chain nat_le (b ∷ spelled a counts) ≡ true
spelled_after b a [] l = refl
spelled_after b a (k ∷ counts) l = run k b l (λ c h. spelled_after c (suc a) counts h)
  where
    run : (k' b' : ℕ) → b' ≤ a → ((c : ℕ) → c ≤ suc a → is_chain nat_le (c ∷ spelled (suc a) counts) ≡ true)
        → is_chain nat_le (b' ∷ (replicate k' a ++ spelled (suc a) counts)) ≡ true
    run zero b' l' next = next b' (omega arith)
    run (suc k') b' l' next =
        and_from (nat_le b' a) (is_chain nat_le (a ∷ (replicate k' a ++ spelled (suc a) counts))) (le-leb b' a l') (run k' a (omega arith) next)

pub spelled_rises : (a : ℕ) (counts : List ℕ) → Rises (spelled a counts)
spelled_rises a counts = rises_rest a (spelled a counts) (spelled_after a a counts (omega arith))

times_in_run : (x a k : ℕ) → times_in x (replicate k a) ≡ cond {A = ℕ} (a == x) k 0
times_in_run x a zero = let f : 0 ≡ cond {A = ℕ} (a == x) 0 0 = grind (arith, nat_tests) in f
times_in_run x a (suc k) = search (rules, nat_tests, (times_in_run x a k))

none_before : (x a : ℕ) (counts : List ℕ) → x < a → times_in x (spelled a counts) ≡ 0
none_before x a [] l = refl
none_before x a (k ∷ counts) l = search (rules, times_in-append, times_in_run, nat_tests, (none_before x (suc a) counts (omega arith)))

pub times_spelled : (a i : ℕ) (counts : List ℕ) → times_in (a + i) (spelled a counts) ≡ get_or counts i 0
times_spelled a i [] = sym (get_or_past [] i 0 (omega arith))
times_spelled a zero (k ∷ counts) = search (rules, times_in-append, times_in_run, nat_tests, none_before)
times_spelled a (suc i) (k ∷ counts) = search (rules, times_in-append, times_in_run, nat_tests, (times_spelled (suc a) i counts))
