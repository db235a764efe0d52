-- What the trait says of an exchange is what a session's call is told.
use Rattle.std.proofs.Common.{rules, ◌≡◌}
use Rattle.dlp_requests.specs.Views.{request_value}
use Rattle.desktop_session.proofs.AskLaws.{answered_ok, asked_done, asked_failed, some_fault, stops_err, stops_ok}
use Rattle.desktop_session.proofs.FollowLaws.{follows_answered, follows_left}
use Rattle.desktop_session.proofs.linked.Linked.ask.Goals as goal

pub returns-clause-answered : goal.returns-clause-answered
returns-clause-answered g c =
    let same : c.self.inside.link ≡ c.args.self.now.link = search rules in
    answered_ok g.L.Link.talk (request_value c.args.request.now) c.exchange.new.reply
    c.exchange.new.self same c.write_request.ensures c.in_default.ensures.answered

pub returns-clause-stops : goal.returns-clause-stops
returns-clause-stops g c =
    let same : c.self.inside.link ≡ c.args.self.now.link = search rules in
    stops_ok (request_value c.args.request.now)
    c.exchange.new.reply same c.write_request.ensures c.in_default.ensures.answered
    c.in_default.ensures.fault c.in_default.ensures.cause c.in_default.ensures.since

pub returns-clause-asked : goal.returns-clause-asked
returns-clause-asked g c fixed =
    asked_done (request_value c.args.request.now) c.requires fixed
    (returns-clause-answered g c) (returns-clause-stops g c) (search rules) (search rules)

pub returns-in-Err-clause-stops : goal.returns-in-Err-clause-stops
returns-in-Err-clause-stops g c =
    let same : c.self.inside.link ≡ c.args.self.now.link = search rules in
    stops_err (request_value c.args.request.now)
    c.in-Err.fault same c.write_request.ensures c.in-Err.ensures.unanswered
    c.in-Err.ensures.fault c.in-Err.ensures.cause c.in-Err.ensures.since

pub returns-in-Err-clause-asked : goal.returns-in-Err-clause-asked
returns-in-Err-clause-asked g c fixed =
    asked_failed c.requires
    (some_fault _ (g.L.Link.fault c.self.inside.link) c.in-Err.fault c.in-Err.ensures.fault c.in-Err.ensures.stays)
    (returns-in-Err-clause-stops g c) (search rules) (search rules)

pub returns-clause-follows : goal.returns-clause-follows
returns-clause-follows g c =
    let same : c.self.inside.link ≡ c.args.self.now.link = search rules in
    follows_answered (request_value c.args.request.now) c.exchange.new.reply c.requires same c.write_request.ensures c.in_default.ensures.heard
    c.in_default.ensures.fault c.in_default.ensures.cause

pub returns-in-Err-clause-follows : goal.returns-in-Err-clause-follows
returns-in-Err-clause-follows g c =
    let same : c.self.inside.link ≡ c.args.self.now.link = search rules in
    rw c.of_link.ensures (follows_left (request_value c.args.request.now) c.exchange.new.reply c.in-Err.fault c.requires same c.write_request.ensures
    c.in-Err.ensures.heard c.in-Err.ensures.fault c.in-Err.ensures.cause)
