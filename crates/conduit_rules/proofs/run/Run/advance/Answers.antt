use Rattle.std.proofs.Common.{◌∙◌, ap, sym, map, drop}
use Rattle.std.proofs.lemmas.List.{drop-map}
use Rattle.conduit_rules.proofs.SortLaws.{drop-next}
use Rattle.conduit_rules.proofs.run.Run.advance.Goals as goal

pub returns-clause-ahead : goal.returns-clause-ahead
returns-clause-ahead g c =
    ap (map (λ e. (e.0, e.1.now))) (drop-next c.self.inside.passed c.self.inside.entries.items)
    ∙ sym (drop-map (λ e. (e.0, e.1.now)) 1 (drop c.self.inside.passed c.self.inside.entries.items))
    ∙ ap (λ run. drop 1 run.ahead) c.self.view_is
