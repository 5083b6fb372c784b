use Rattle.std.proofs.Common.{ℕ, map, sym, subst}
use Rattle.std.specs.Prelude.{string_bytes}
use Rattle.calc_words.specs.Cutting.{StopsIn, IsByte}
use Rattle.calc_words.specs.Parts.{form_of_part}
use Rattle.calc_words.specs.declared.word_parts.Part.{Part}
use Rattle.calc_words.proofs.word_parts.byte_of.Goals as goal

pub returns-in-Expression : goal.returns-in-Expression
returns-in-Expression c =
    let P : Part → Type 0 = λ p.
    (left : ℕ) (w : StopsIn (form_of_part p) (map string_bytes c.args.words.now) left) →
    IsByte (form_of_part p) w.0.before w.0.after c.expression_byte.result in
    subst P (sym c.in-Expression.is) c.expression_byte.ensures
