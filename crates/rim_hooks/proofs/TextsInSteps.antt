-- A text reads back as a quantum or a fusion product if and only if it reads back as a list that results from reducing after each factor.
use Rattle.std.proofs.Common.{◌≡◌, ℕ, ◌+◌, ◌≤◌, List, length, Some, arith}
use Rattle.sym_model.specs.Polynomial.{same}
use Rattle.sym_model.specs.Expansion.{Terms}
use Rattle.sym_model.specs.WholeTerms.{numerators, same_power}
use Rattle.sym_model.specs.Kind.{Kind, Label, label_rules, number, expansion, product, pairs}
use Rattle.sym_model.specs.Kind.{powers, permutations, polynomial, shifts}
use Rattle.sym_model.specs.Canonical.{IsCanonicalBy}
use Rattle.sym_model.specs.PrintedForm.{as_block, read_in}
use Rattle.sym_model.specs.Answer.{answer}
use Rattle.sym_model.specs.Command.{quantum, fusion}
use Rattle.sym_model.specs.Target.{Meets}
use Rattle.sym_model.specs.Headline.{ReadsBack}
use Rattle.sym_model.proofs.Exponents.{same_true}
use Rattle.printing_laws.proofs.PrintedForms.{read_in-tells}
use Rattle.product_laws.proofs.QuantumSteps.{power_true, quantum_steps_meet, rim_hooks_in_steps}
use Rattle.product_laws.proofs.FusionSteps.{fusion_steps_meet, fusion_in_steps}
use Rattle.rim_hooks.specs.PrintedSteps.{ReadsReducedInSteps, ReadsReflectedInSteps}
use Rattle.rim_hooks.proofs.CanonicalTerms.{canonical-collected}
use Rattle.sym_model.specs.Partition.{ArePartitions}

module _ (k width : ℕ) (factors : List (List ℕ)) (text : List ℕ) (some : 1 ≤ k)
    (two : 2 ≤ length factors) (partitions : ArePartitions factors) where
  cells : 1 ≤ k + width
  cells = omega arith

  pub quantum_reads-steps : ReadsBack (quantum k width factors) text
      → ReadsReducedInSteps k (k + width) factors text
  quantum_reads-steps r = by r.kind r.terms r.reads r.canonical r.meets
    where
      by : (kind : Kind) (terms : Terms (Label kind)) → read_in as_block kind text ≡ Some terms
          → IsCanonicalBy (label_rules kind) terms
          → Meets (quantum k width factors) (answer kind terms)
          → ReadsReducedInSteps k (k + width) factors text
      by powers terms reads canonical meets = record {
        terms = terms;
        reads = reads;
        steps = rim_hooks_in_steps k (k + width) factors terms cells two partitions
            (canonical-collected powers same_power power_true terms canonical) meets;
      }
      by number terms reads canonical meets = absurd meets
      by expansion terms reads canonical meets = absurd meets
      by product terms reads canonical meets = absurd meets
      by pairs terms reads canonical meets = absurd meets
      by permutations terms reads canonical meets = absurd meets
      by polynomial terms reads canonical meets = absurd meets
      by shifts terms reads canonical meets = absurd meets

  pub quantum_steps-reads : ReadsReducedInSteps k (k + width) factors text
      → ReadsBack (quantum k width factors) text
  quantum_steps-reads r = record {
    kind = powers;
    terms = r.terms;
    reads = r.reads;
    canonical = (read_in-tells as_block powers text r.terms r.reads).canonical;
    meets = quantum_steps_meet k (k + width) factors r.terms cells two partitions r.steps;
  }

  pub fusion_reads-steps : ReadsBack (fusion k width factors) text
      → ReadsReflectedInSteps k (k + width) factors text
  fusion_reads-steps r = by r.kind r.terms r.reads r.canonical r.meets
    where
      by : (kind : Kind) (terms : Terms (Label kind)) → read_in as_block kind text ≡ Some terms
          → IsCanonicalBy (label_rules kind) terms
          → Meets (fusion k width factors) (answer kind terms)
          → ReadsReflectedInSteps k (k + width) factors text
      by product terms reads canonical meets = record {
        terms = terms;
        reads = reads;
        steps = fusion_in_steps k (k + width) factors (numerators terms) cells two partitions
            (canonical-collected product same same_true terms canonical) meets;
      }
      by number terms reads canonical meets = absurd meets
      by expansion terms reads canonical meets = absurd meets
      by pairs terms reads canonical meets = absurd meets
      by powers terms reads canonical meets = absurd meets
      by permutations terms reads canonical meets = absurd meets
      by polynomial terms reads canonical meets = absurd meets
      by shifts terms reads canonical meets = absurd meets

  pub fusion_steps-reads : ReadsReflectedInSteps k (k + width) factors text
      → ReadsBack (fusion k width factors) text
  fusion_steps-reads r = record {
    kind = product;
    terms = r.terms;
    reads = r.reads;
    canonical = (read_in-tells as_block product text r.terms r.reads).canonical;
    meets = fusion_steps_meet k (k + width) factors (numerators r.terms) cells two partitions
        r.steps;
  }
