use Rattle.std.proofs.Common.{◌∙◌, String, Global, List, ap}
use Rattle.std.specs.Prelude.{bytes_eq, string_bytes}
use Rattle.std.specs.List.{list_any}
use Rattle.call_parts.proofs.SideLaws.{listed-has}
use Rattle.call_parts.proofs.sides.has_file.Goals as goal

pub returns-clause-listed : goal.returns-clause-listed
returns-clause-listed g c =
    listed-has (g.F.Folder.contents c.args.folder.now) c.in_ok-names.names.items c.args.name.now c.in_ok-names.ensures.names
    (c.is_among.ensures
    ∙ ap (λ (names : List (String Global)). list_any (λ other. bytes_eq c.args.name.now (string_bytes other)) names) c.deref.ensures.value)
