-- Each of the two printed forms of a list of terms, the block, with a line for each term, and the one-line form, is read back as that list. The list
-- must be *canonical* (labels within the limits, each once and in the printed order; coefficients in lowest terms, not 0) and *printable* (numbers of
-- at most 128 bits).
use Rattle.std.proofs.Common.{◌≡◌, ℕ, List, Some, true}
use Rattle.sym_model.specs.Expansion.{Terms}
use Rattle.sym_model.specs.Kind.{Kind, Label, number, expansion, product, pairs, powers, permutations, polynomial, shifts, label_rules}
use Rattle.sym_model.specs.Canonical.{is_canonical_by, is_printable}
use Rattle.sym_model.specs.PrintedForm.{PrintedForm, as_block, as_line, text_in, read_in}
use Rattle.printing_laws.proofs.Blocks.{read_by-block, read_by-tells}
use Rattle.printing_laws.proofs.LegibleKinds.{legible, is_label-short}
use Rattle.printing_laws.proofs.OneLines.{read_one_line-line, read_one_line-tells}

-- if the terms are canonical and printable, their text in a printed form is read in this form as these terms
pub read_in-text : (form : PrintedForm) (kind : Kind) (terms : Terms (Label kind)) → is_canonical_by (label_rules kind) terms ≡ true → is_printable terms ≡ true
    → read_in form kind (text_in form kind terms) ≡ Some terms
read_in-text as_block kind terms h k = read_by-block (label_rules kind) (legible kind) terms h k
read_in-text (as_line basis) expansion terms h k = read_one_line-line basis (label_rules expansion) is_label-short terms h k
read_in-text (as_line basis) product terms h k = read_one_line-line basis (label_rules product) is_label-short terms h k
read_in-text (as_line basis) number terms h k = read_by-block (label_rules number) (legible number) terms h k
read_in-text (as_line basis) pairs terms h k = read_by-block (label_rules pairs) (legible pairs) terms h k
read_in-text (as_line basis) powers terms h k = read_by-block (label_rules powers) (legible powers) terms h k
read_in-text (as_line basis) permutations terms h k = read_by-block (label_rules permutations) (legible permutations) terms h k
read_in-text (as_line basis) polynomial terms h k = read_by-block (label_rules polynomial) (legible polynomial) terms h k
read_in-text (as_line basis) shifts terms h k = read_by-block (label_rules shifts) (legible shifts) terms h k

-- `text` is the text of the terms in the printed form `form`, and the terms are canonical and printable
pub record ReadsIn (form : PrintedForm) (kind : Kind) (text : List ℕ) (terms : Terms (Label kind)) : Type 0 where
  pub canonical : is_canonical_by (label_rules kind) terms ≡ true
  pub printable : is_printable terms ≡ true
  pub text_is : text_in form kind terms ≡ text

block_tells : (kind : Kind) (text : List ℕ) (terms : Terms (Label kind)) → read_in as_block kind text ≡ Some terms → ReadsIn as_block kind text terms
block_tells kind text terms h =
    let r = read_by-tells (label_rules kind) text terms h in
    record { canonical = r.canonical; printable = r.printable; text_is = r.block }

-- if `text` is read in the printed form `form` as the list `terms`, then `text` is the text of these terms in this form, and the terms are canonical
-- and printable
pub read_in-tells : (form : PrintedForm) (kind : Kind) (text : List ℕ) (terms : Terms (Label kind)) → read_in form kind text ≡ Some terms → ReadsIn form kind text terms
read_in-tells as_block kind text terms h = block_tells kind text terms h
read_in-tells (as_line basis) expansion text terms h =
    let r = read_one_line-tells basis (label_rules expansion) text terms h in
    record { canonical = r.canonical; printable = r.printable; text_is = r.line }
read_in-tells (as_line basis) product text terms h =
    let r = read_one_line-tells basis (label_rules product) text terms h in
    record { canonical = r.canonical; printable = r.printable; text_is = r.line }
read_in-tells (as_line basis) number text terms h = let r = block_tells number text terms h in record { canonical = r.canonical; printable = r.printable; text_is = r.text_is }
read_in-tells (as_line basis) pairs text terms h = let r = block_tells pairs text terms h in record { canonical = r.canonical; printable = r.printable; text_is = r.text_is }
read_in-tells (as_line basis) powers text terms h = let r = block_tells powers text terms h in record { canonical = r.canonical; printable = r.printable; text_is = r.text_is }
read_in-tells (as_line basis) permutations text terms h = let r = block_tells permutations text terms h in record { canonical = r.canonical; printable = r.printable; text_is = r.text_is }
read_in-tells (as_line basis) polynomial text terms h = let r = block_tells polynomial text terms h in record { canonical = r.canonical; printable = r.printable; text_is = r.text_is }
read_in-tells (as_line basis) shifts text terms h = let r = block_tells shifts text terms h in record { canonical = r.canonical; printable = r.printable; text_is = r.text_is }
