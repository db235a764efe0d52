use Rattle.std.proofs.Common.{◌∙◌, String, Global, List, ap}
use Rattle.call_parts.specs.Files.{lists_synced}
use Rattle.call_parts.proofs.SideLaws.{listed-synced}
use Rattle.call_parts.proofs.sides.is_kept_synced.Goals as goal

pub returns-clause-listed : goal.returns-clause-listed
returns-clause-listed g c =
    listed-synced (g.F.Folder.contents c.args.folder.now) c.in_ok-names.names.items c.in_ok-names.ensures.names
    (c.has_synced.ensures ∙ ap (λ (names : List (String Global)). lists_synced names) c.deref.ensures.value)
