use Rattle.std.proofs.Common.{◌∙◌, map, string_bytes, sym}
use Rattle.run_words.specs.Porteds.{ported_in}
use Rattle.run_words.specs.Tables.{ported_form}
use Rattle.run_clap.proofs.AskLaws.{ported_asks, read_means, unread}
use Rattle.run_clap.proofs.read.read_ported.Goals as goal

pub read_form-requires-clause-right : goal.read_form-requires-clause-right
read_form-requires-clause-right c = (ported_asks c.args.command.now (map string_bytes c.args.words.now) (sym c.in-Some.ensures)).right

pub unreachable-requires : goal.unreachable-requires
unreachable-requires c =
    let words = map string_bytes c.args.words.now in
    unread c.in-None.ensures (read_means ported_in ported_form words c.in_ok-matched.ensures.read (ported_asks c.args.command.now words (sym c.in-Some.ensures)))

pub returns-clause-command : goal.returns-clause-command
returns-clause-command c =
    let words = map string_bytes c.args.words.now in
    sym (c.in-Some-ported_in.ensures ∙ read_means ported_in ported_form words c.in_ok-matched.ensures.read (ported_asks c.args.command.now words (sym c.in-Some.ensures))
    ∙ c.in-Some.ensures)
