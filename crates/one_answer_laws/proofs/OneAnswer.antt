-- Two canonical answers to the same command are equal, and so are two texts that are read back as answers to it.
use Rattle.std.proofs.Common.{◌≡◌, ℕ, ◌+◌, List, None, Some, refl, sym, ap, ◌∙◌, subst, rules}
use Rattle.sym_model.specs.Expansion.{Terms}
use Rattle.sym_model.specs.Expression.{cleared_value, degree, denominator}
use Rattle.sym_model.specs.Kind.{Kind, Label, label_rules, number, expansion, product, pairs, powers, permutations}
use Rattle.sym_model.specs.Kind.{polynomial, shifts}
use Rattle.sym_model.specs.Canonical.{IsCanonicalBy}
use Rattle.sym_model.specs.Answer.{Answer, answer}
use Rattle.sym_model.specs.Command.{Command, mult, skew, coef, coprod, quantum, fusion, schubert, schubmult, expand}
use Rattle.sym_model.specs.Command.{plethysm, dschubmult}
use Rattle.sym_model.specs.Target.{Meets}
use Rattle.sym_model.specs.Polynomial.{Poly}
use Rattle.sym_model.specs.Products.{ExpandsInSchurs, schur_product}
use Rattle.sym_model.specs.Schur.{skew_schur}
use Rattle.sym_model.specs.Plethysm.{plethysm as plethysm_of}
use Rattle.sym_model.specs.PrintedForm.{printed_form, answer_text_in}
use Rattle.sym_model.specs.Headline.{ReadsBack}
use Rattle.printing_laws.proofs.PrintedForms.{read_in-tells}
use Rattle.one_answer_laws.specs.OneAnswer.{IsCanonical, IsDefinite}
use Rattle.one_answer_laws.proofs.CommandAnswers.{one_schur_list, one_coproduct, one_polynomial, one_schubert_product}
use Rattle.one_answer_laws.proofs.CommandAnswers.{one_expansion, one_double_product, one_reduction, one_fusion}
use Rattle.one_answer_laws.proofs.CommandAnswers.{one_number}

-- the kind of the answers to a command
kind_for : Command → Kind
kind_for (coef outer left right) = number
kind_for (coprod shape) = pairs
kind_for (quantum k columns factors) = powers
kind_for (schubert w) = polynomial
kind_for (schubmult u v) = permutations
kind_for (expand target one_line e) = expansion
kind_for (plethysm target outer inner) = expansion
kind_for (dschubmult u v) = shifts
kind_for _ = product

meets-kind : (command : Command) (kind : Kind) (terms : Terms (Label kind)) → Meets command (answer kind terms)
    → kind ≡ kind_for command
unfolding kind_for
meets-kind (coef f g h) number terms m = refl
meets-kind (coprod f) pairs terms m = refl
meets-kind (quantum k c f) powers terms m = refl
meets-kind (fusion k c f) product terms m = refl
meets-kind (schubert w) polynomial terms m = refl
meets-kind (schubmult u v) permutations terms m = refl
meets-kind (expand t o e) expansion terms m = refl
meets-kind (plethysm t f g) expansion terms m = refl
meets-kind (dschubmult u v) shifts terms m = refl
meets-kind _ product terms m = search rules
meets-kind _ _ terms m = absurd m

-- two expansions of a symmetric function, in every number of variables and in k variables
one_list_everywhere : (f : ℕ → Poly) (xs ys : Terms (List ℕ)) → IsCanonicalBy (label_rules product) xs → IsCanonicalBy (label_rules product) ys
    → ExpandsInSchurs None f xs → ExpandsInSchurs None f ys → xs ≡ ys
one_list_everywhere = one_schur_list None

one_list_in : (k : ℕ) (f : ℕ → Poly) (xs ys : Terms (List ℕ)) → IsCanonicalBy (label_rules product) xs → IsCanonicalBy (label_rules product) ys
    → ExpandsInSchurs (Some k) f xs → ExpandsInSchurs (Some k) f ys → xs ≡ ys
one_list_in k = one_schur_list (Some k)

one_list_for : (command : Command) (xs ys : Terms (Label (kind_for command)))
    → IsCanonicalBy (label_rules (kind_for command)) xs → IsCanonicalBy (label_rules (kind_for command)) ys
    → IsDefinite command → Meets command (answer (kind_for command) xs) → Meets command (answer (kind_for command) ys)
    → xs ≡ ys
unfolding kind_for
one_list_for (mult v o f) xs ys a b s m k = one_schur_list v (schur_product f) xs ys a b m k
one_list_for (skew v o f g) xs ys a b s m k = one_schur_list v (skew_schur f g) xs ys a b m k
one_list_for (coef f g h) xs ys a b s m k = one_number xs ys a b (m ∙ sym k)
one_list_for (coprod f) xs ys a b s m k = one_coproduct f xs ys a b m k
one_list_for (quantum k c f) xs ys a b s m l = one_reduction k (k + c) f s xs ys a b m l
one_list_for (fusion k c f) xs ys a b s m l = one_fusion k (k + c) f xs ys a b m l
one_list_for (schubert w) xs ys a b s m k = one_polynomial w xs ys a b m k
one_list_for (schubmult u v) xs ys a b s m k = one_schubert_product u v xs ys a b m k
one_list_for (expand t o e) xs ys a b s m k = one_expansion t (cleared_value e) (denominator e) s xs ys a b m k
one_list_for (plethysm t f g) xs ys a b s m k =
    one_expansion t (λ n. plethysm_of (cleared_value f) (degree g) n (cleared_value g n)) (denominator f) s xs ys a b m k
one_list_for (dschubmult u v) xs ys a b s m k = one_double_product u v xs ys a b m k
one_list_for _ xs ys a b s m k = search (one_list_everywhere, one_list_in)

-- what is claimed for the kinds k and l
abbrev Claim : Command → Kind → Kind → Type 0
Claim command k l =
    (xs : Terms (Label k)) (ys : Terms (Label l)) → IsCanonicalBy (label_rules k) xs → IsCanonicalBy (label_rules l) ys
    → Meets command (answer k xs) → Meets command (answer l ys) → answer k xs ≡ answer l ys

pub one_answer : (command : Command) (first second : Answer) → IsCanonical first → IsCanonical second
    → IsDefinite command → Meets command first → Meets command second → first ≡ second
one_answer command (answer kind xs) (answer other ys) a b s m k =
    subst (λ l. Claim command kind l) (sym (meets-kind command other ys k))
    (subst (λ l. Claim command l (kind_for command)) (sym (meets-kind command kind xs m))
    (λ xs ys a b m k. ap (answer (kind_for command)) (one_list_for command xs ys a b s m k)))
    xs ys a b m k

pub one_text : (command : Command) (text other : List ℕ) → IsDefinite command → ReadsBack command text
    → ReadsBack command other → text ≡ other
one_text command text other s r q =
    sym (read_in-tells (printed_form command) r.kind text r.terms r.reads).text_is
    ∙ (ap (answer_text_in (printed_form command)) (one_answer command (answer r.kind r.terms) (answer q.kind q.terms) r.canonical q.canonical s r.meets q.meets)
    ∙ (read_in-tells (printed_form command) q.kind other q.terms q.reads).text_is)
