use Rattle.std.proofs.Common.{◌≡◌, ◌++◌, arith, ap, ◌∙◌}
use Rattle.rotation_laws.specs.Rotation.{kept, wrapped}
use Rattle.rim_hooks.proofs.TurnedFactors.{rotated_count, rotated_limits}
use Rattle.rim_hooks.proofs.rotation.rotate.Goals as goal

pub overflow_cast-wraps : goal.overflow_cast-wraps
overflow_cast-wraps c =
    let b = c.as_slice-entries.result.now in
    let n = c.args.n in
    let r = c.args.r in
    let first : c.push_kept.new.numbers.items ≡ kept n r b = c.in_ok-push_kept.ensures ∙ ap (λ l. l ++ kept n r b) c.new-numbers.ensures.items in
    let all : c.push_wrapped.new.numbers.items ≡ kept n r b ++ wrapped n r b = c.in_ok-push_wrapped.ensures ∙ ap (λ l. l ++ wrapped n r b) first in
    let count = rotated_count c.args.k n r c.args.shape.now b c.push_wrapped.new.numbers.items c.requires.limits.0 c.requires.limits.1 c.requires.once c.requires.inside (c.as_slice-entries.ensures ∙ c.in_ok-beta.ensures.value) all in
    let few = c.requires.limits.0 in
    let value = c.len.ensures.value in
    omega arith

pub from_beta-requires-clause-few : goal.from_beta-requires-clause-few
from_beta-requires-clause-few c =
    let b = c.as_slice-entries.result.now in
    let n = c.args.n in
    let r = c.args.r in
    let first : c.push_kept.new.numbers.items ≡ kept n r b = c.in_ok-push_kept.ensures ∙ ap (λ l. l ++ kept n r b) c.new-numbers.ensures.items in
    let all : c.as_slice.result.now ≡ kept n r b ++ wrapped n r b = c.as_slice.ensures ∙ c.in_ok-push_wrapped.ensures ∙ ap (λ l. l ++ wrapped n r b) first in
    let count = rotated_count c.args.k n r c.args.shape.now b c.as_slice.result.now c.requires.limits.0 c.requires.limits.1 c.requires.once c.requires.inside (c.as_slice-entries.ensures ∙ c.in_ok-beta.ensures.value) all in
    let few = c.requires.limits.0 in
    omega arith

pub from_beta-requires-clause-limits : goal.from_beta-requires-clause-limits
from_beta-requires-clause-limits c =
    let b = c.as_slice-entries.result.now in
    let n = c.args.n in
    let r = c.args.r in
    let first : c.push_kept.new.numbers.items ≡ kept n r b = c.in_ok-push_kept.ensures ∙ ap (λ l. l ++ kept n r b) c.new-numbers.ensures.items in
    let all : c.as_slice.result.now ≡ kept n r b ++ wrapped n r b = c.as_slice.ensures ∙ c.in_ok-push_wrapped.ensures ∙ ap (λ l. l ++ wrapped n r b) first in
    rotated_limits c.args.k n r c.args.shape.now b c.as_slice.result.now c.requires.limits.0 c.requires.limits.1 c.requires.once c.requires.inside (c.as_slice-entries.ensures ∙ c.in_ok-beta.ensures.value) all
