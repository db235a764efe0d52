-- An entry that was read is shown, one with a base row gets its content, and any other one is read by its id.
use Rattle.std.proofs.Common.{◌≡◌, ◌∙◌, ap, sym, true, false, rules}
use Rattle.std.specs.Option.{option_copied}
use Rattle.mirrors.specs.Shells.{waits}
use Rattle.mirrors.proofs.FillLaws.{nothing_asked, read_asks, row_asks}
use Rattle.mirrors.proofs.PartFollows.{follows_none, lost_first}
use Rattle.mirrors.proofs.ReadFollows.{shown_itself, shown_other, shown_row}
use Rattle.std.proofs.lemmas.Result.{err_from_is_err_and}
use Rattle.mirrors.proofs.others.filled.Goals as goal

pub returns-then-not-matches-clause-asks : goal.returns-then-not-matches-clause-asks
returns-then-not-matches-clause-asks g c =
    let read : waits c.args.entry.state ≡ false = search rules in
    nothing_asked g.met.L.Link.since_itself
    (read_asks c.args.base.now c.args.db.now.handle c.args.entry read)

pub returns-in_err-content-in-Some-clause-asks : goal.returns-in_err-content-in-Some-clause-asks
returns-in_err-content-in-Some-clause-asks g c =
    nothing_asked g.met.L.Link.since_itself
    (row_asks c.args.base.now c.args.db.now.handle c.args.entry (sym c.row_of.ensures ∙ ap option_copied c.in-Some.is))

pub returns-in-Some-clause-asks : goal.returns-in-Some-clause-asks
returns-in-Some-clause-asks g c =
    nothing_asked g.met.L.Link.since_itself
    (row_asks c.args.base.now c.args.db.now.handle c.args.entry (sym c.row_of.ensures ∙ ap option_copied c.in-Some.is))

pub returns-then-not-matches-clause-follows : goal.returns-then-not-matches-clause-follows
returns-then-not-matches-clause-follows g c =
    let read : waits c.args.entry.state ≡ false = search rules in
    follows_none g.met.L.Link.heard_none _ _ (shown_itself c.args.base.now c.args.db.now.handle c.args.entry read)

pub returns-in_err-content-in-Some-clause-follows : goal.returns-in_err-content-in-Some-clause-follows
returns-in_err-content-in-Some-clause-follows g c =
    let p = err_from_is_err_and c.from_residual.result c.from_residual.ensures.1 in
    rw (p.1, p.2) (lost_first g.met.L.Link.heard_none _ _)

pub returns-in-Some-clause-follows : goal.returns-in-Some-clause-follows
returns-in-Some-clause-follows g c =
    let waiting : waits c.args.entry.state ≡ true = search rules in
    follows_none g.met.L.Link.heard_none _ _ (shown_row c.args.base.now c.args.db.now.handle c.args.entry c.in_ok-content-in-Some.content waiting (search rules))

pub returns-clause-follows : goal.returns-clause-follows
returns-clause-follows g c =
    let waiting : waits c.args.entry.state ≡ true = search rules in
    rw (shown_other c.args.base.now c.args.db.now.handle c.args.entry waiting (sym c.row_of.ensures ∙ ap option_copied c.in-None.is))
    c.read_of.ensures.follows
