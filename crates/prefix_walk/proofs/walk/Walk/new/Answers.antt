use Rattle.std.proofs.Common.{◌++◌, [], ◌∷◌, ap, ◌∙◌}
use Rattle.prefix_walk.specs.Levels.{rest_at}
use Rattle.prefix_walk.proofs.Moves.{level_terms, first_rest}
use Rattle.prefix_walk.proofs.walk.Walk.new.Goals as goal

pub returns-clause-rest : goal.returns-clause-rest
returns-clause-rest g c =
    let ways = g.P.Prefixes.ways c.args.rule in
    let end = g.P.Prefixes.end c.args.rule in
    ap (λ x. rest_at (level_terms ways end) c.args.len x) (c.in_ok-push.ensures.items ∙ ap (λ l. l ++ (c.in_ok-first.first, 0) ∷ []) c.in_ok-levels.ensures.items)
    ∙ first_rest _ ways end c.args.len 0 c.args.start c.in_ok-first.first c.requires.some c.in_ok-first.ensures.adds
