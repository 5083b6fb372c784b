use Rattle.std.proofs.Common.{◌≡◌, ◌∷◌, ◌++◌, sym, ap, ◌∙◌}
use Rattle.std.specs.Option.{option_to_list}
use Rattle.calc_base.proofs.PutsLaws.{Puts-as, Puts-then}
use Rattle.sym_model.specs.TableauText.{readings_text}
use Rattle.calc_replies.proofs.Delivered.{Puts-from_prints}
use Rattle.calc_replies.proofs.Listings.{readings_text-more}
use Rattle.calc_replies.proofs.listing.put_listing.Goals as goal

pub returns : goal.returns
returns g c =
    let outer = c.args.list.now.order.0 in
    let inner = c.args.list.now.order.1 in
    let w = c.current.result.now in
    let rest = c.advance.new.self.rest in
    let whole : w ∷ rest ≡ c.args.list.now.lattice.rest =
    sym (c.advance.ensures.next ∙ ap (λ o. option_to_list o ++ rest) c.current.ensures) in
    Puts-as (readings_text-more outer inner w rest ∙ ap (readings_text outer inner) whole)
    (Puts-then (Puts-from_prints c.print_in_order.result c.print_in_order.ensures
    c.is_ok-well.ensures.value) c.put_lines.ensures)
