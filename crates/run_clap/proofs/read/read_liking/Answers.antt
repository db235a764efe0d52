use Rattle.std.proofs.Common.{◌∙◌, map, string_bytes, sym}
use Rattle.run_words.specs.Likes.{like_in}
use Rattle.run_words.specs.Tables.{import_form}
use Rattle.run_clap.proofs.AskLaws.{liking_asks, read_means, unread}
use Rattle.run_clap.proofs.read.read_liking.Goals as goal

pub read_form-requires-clause-right : goal.read_form-requires-clause-right
read_form-requires-clause-right c = (liking_asks (map string_bytes c.args.words.now) (sym c.in-Some.ensures)).right

pub unreachable-requires : goal.unreachable-requires
unreachable-requires c =
    let words = map string_bytes c.args.words.now in
    unread c.in-None.ensures (read_means like_in import_form words c.in_ok-matched.ensures.read (liking_asks words (sym c.in-Some.ensures)))

pub returns-clause-command : goal.returns-clause-command
returns-clause-command c =
    let words = map string_bytes c.args.words.now in
    sym (c.in-Some-like_in.ensures ∙ read_means like_in import_form words c.in_ok-matched.ensures.read (liking_asks words (sym c.in-Some.ensures)) ∙ c.in-Some.ensures)
