use Rattle.std.proofs.Common.{◌≡◌, ◌<◌, sym, ◌∙◌, ap, arith, Some, None}
use Rattle.sym_model.specs.BetaList.{has_equal_entries, sorted_falling, sorting_sign}
use Rattle.sym_model.specs.AlcoveReduction.{spread}
use Rattle.plain_programs.specs.Signed.{sign_of, signed_of}
use Rattle.plain_programs.proofs.Reflecting.{Reflects, lower, again}
use Rattle.plain_programs.proofs.reflections.+plain_reflect.Goals as goal

pub plain_reflect-requires : goal.plain_reflect-requires
plain_reflect-requires t c =
    let far : c.args.n < spread c.args.list.now = omega arith in
    let step : Reflects c.args.n c.args.list.now c.in_ok-next.next.items c.deref-4.result.now
    (sign_of c.is_sorting_odd-turns.result) = record {
      positive = c.requires;
      far = far;
      reflection = c.in_ok-next.ensures;
      apart = ap has_equal_entries (sym c.deref.ensures.value) ∙ sym c.has_equal-is_zero.ensures
          ∙ c.if-is_zero.false;
      turn = c.is_sorting_odd-turns.ensures ∙ ap sorting_sign c.deref-2.ensures.value;
      order = c.deref-4.ensures.value ∙ c.in_ok-falling.ensures ∙ ap sorted_falling
          c.deref-3.ensures.value;
    } in
    let less = lower c.args.n c.args.list.now c.in_ok-next.next.items c.deref-4.result.now
    (sign_of c.is_sorting_odd-turns.result) step in
    (omega (arith, less), c.requires)

pub returns-in_default : goal.returns-in_default
returns-in_default t c =
    let far : c.args.n < spread c.args.list.now = omega arith in
    let step : Reflects c.args.n c.args.list.now c.in_ok-next.next.items c.deref-4.result.now
    (sign_of c.is_sorting_odd-turns.result) = record {
      positive = c.requires;
      far = far;
      reflection = c.in_ok-next.ensures;
      apart = ap has_equal_entries (sym c.deref.ensures.value) ∙ sym c.has_equal-is_zero.ensures
          ∙ c.if-is_zero.false;
      turn = c.is_sorting_odd-turns.ensures ∙ ap sorting_sign c.deref-2.ensures.value;
      order = c.deref-4.ensures.value ∙ c.in_ok-falling.ensures ∙ ap sorted_falling
          c.deref-3.ensures.value;
    } in
    let none : signed_of None ≡ signed_of c.in_ok-end.field-0 = ap signed_of (sym c.in_default.is)
    in
    again c.args.n c.args.list.now c.in_ok-next.next.items c.deref-4.result.now
    (sign_of c.is_sorting_odd-turns.result) None step (none ∙ c.in_ok-end.ensures)

pub returns : goal.returns
returns t c =
    let far : c.args.n < spread c.args.list.now = omega arith in
    let step : Reflects c.args.n c.args.list.now c.in_ok-next.next.items c.deref-4.result.now
    (sign_of c.is_sorting_odd-turns.result) = record {
      positive = c.requires;
      far = far;
      reflection = c.in_ok-next.ensures;
      apart = ap has_equal_entries (sym c.deref.ensures.value) ∙ sym c.has_equal-is_zero.ensures
          ∙ c.if-is_zero.false;
      turn = c.is_sorting_odd-turns.ensures ∙ ap sorting_sign c.deref-2.ensures.value;
      order = c.deref-4.ensures.value ∙ c.in_ok-falling.ensures ∙ ap sorted_falling
          c.deref-3.ensures.value;
    } in
    let end = c.in-Some.end in
    ap (λ s. Some (end.numbers.items, s)) c.is_one_odd-is_negative.ensures
    ∙ again c.args.n c.args.list.now c.in_ok-next.next.items c.deref-4.result.now
    (sign_of c.is_sorting_odd-turns.result) (signed_of (Some end)) step
    (ap signed_of (sym c.in-Some.is) ∙ c.in_ok-end.ensures)
