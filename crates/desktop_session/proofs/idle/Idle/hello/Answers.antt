-- The wake, and then a greeting.
use Rattle.std.proofs.Common.{rules, ◌≡◌, ℕ, [], ◌∷◌}
use Rattle.std.specs.Prelude.{Err, Ok}
use Rattle.desktop_session.specs.Acts.{text}
use Rattle.desktop_session.specs.Requests.{beginning, reading_user}
use Rattle.desktop_session.specs.Greeted.{greets}
use Rattle.desktop_session.proofs.AskLaws.{fell_now}
use Rattle.desktop_session.proofs.FollowLaws.{follows_then, follows_unwoken, reaches_woken}
use Rattle.desktop_session.proofs.GreetLaws.{asks_after, asks_none}
use Rattle.desktop_session.proofs.StopLaws.{stops_after_none, stops_between, stops_none}
use Rattle.desktop_session.proofs.idle.Idle.hello.Goals as goal

pub returns-in-Err-clause-stops : goal.returns-in-Err-clause-stops
returns-in-Err-clause-stops g c =
    stops_none g.L.Link.talk g.L.Link.since g.L.Link.fault g.L.Link.downs (text reading_user ∷ text beginning ∷ []) c.args.self.link c.hello.new.self
    c.in-Err.ensures.talk c.in-Err.ensures.since
    (fell_now
    (Err c.in-Err.fault) c.in-Err.ensures.fault c.in-Err.ensures.cause)

pub returns-in-Ok-clause-stops : goal.returns-in-Ok-clause-stops
returns-in-Ok-clause-stops g c =
    let begins : c.begin-linked.result.link ≡ c.hello.new.self = search rules in
    let ends : c.greet.new.self.link ≡ c.set_user.new.self.link = search rules in
    stops_after_none g.met.L.Link.since_more
    c.in_default.ensures.talk c.in_default.ensures.since
    (fell_now
    (Ok c.in_default.field-0) c.in_default.ensures.fault c.in_default.ensures.cause)
    (stops_between g.L.Link.talk g.L.Link.since g.L.Link.fault g.L.Link.downs (text reading_user ∷ text beginning ∷ []) c.begin-linked.result.link
    c.greet.new.self.link c.hello.new.self c.set_user.new.self.link begins ends c.in-Ok.ensures.stops)

pub returns-in-Err-clause-unseated : goal.returns-in-Err-clause-unseated
returns-in-Err-clause-unseated g c =
    asks_none c.args.marks.now c.args.wish.now c.in-Err.fault
    c.in-Err.ensures.talk c.in-Err.ensures.since c.in-Err.ensures.fault
    (fell_now
    (Err c.in-Err.fault) c.in-Err.ensures.fault c.in-Err.ensures.cause)

pub returns-in-Ok-clause-unseated : goal.returns-in-Ok-clause-unseated
returns-in-Ok-clause-unseated g c =
    let begins : c.begin-linked.result.link ≡ c.hello.new.self = search rules in
    let ends : c.greet.new.self.link ≡ c.set_user.new.self.link = search rules in
    asks_after g.met.L.Link.since_more c.args.marks.now c.args.wish.now
    c.in_default.ensures.talk c.in_default.ensures.since
    (fell_now
    (Ok c.in_default.field-0) c.in_default.ensures.fault c.in_default.ensures.cause) begins ends c.in-Ok.ensures.unseated

pub returns-in-Err-greet-clause-unseated : goal.returns-in-Err-greet-clause-unseated
returns-in-Err-greet-clause-unseated g c =
    let begins : c.begin-linked.result.link ≡ c.hello.new.self = search rules in
    let ends : c.greet.new.self.link ≡ c.halt.result.link = search rules in
    asks_after g.met.L.Link.since_more c.args.marks.now c.args.wish.now
    c.in_default.ensures.talk c.in_default.ensures.since
    (fell_now
    (Ok c.in_default.field-0) c.in_default.ensures.fault c.in_default.ensures.cause) begins ends c.in-Err-greet.ensures.unseated

pub returns-in-Err-clause-follows : goal.returns-in-Err-clause-follows
returns-in-Err-clause-follows g c =
    rw c.of_link.ensures (follows_unwoken {T = ℕ} (greets c.args.marks.now c.args.wish.now) c.in-Err.fault c.in-Err.ensures.heard
    c.in-Err.ensures.fault c.in-Err.ensures.cause)

pub returns-in-Ok-clause-follows : goal.returns-in-Ok-clause-follows
returns-in-Ok-clause-follows g c =
    let begins : c.begin-linked.result.link ≡ c.hello.new.self = search rules in
    let ends : c.greet.new.self.link ≡ c.set_user.new.self.link = search rules in
    let same : c.in-Ok.user ≡ c.set_user.new.self.user = search rules in
    rw (← ends, ← same) (follows_then g.met.L.Link.heard_more
    (reaches_woken {T = ℕ} (greets c.args.marks.now c.args.wish.now) c.in_default.field-0 c.in_default.ensures.heard c.in_default.ensures.fault
    c.in_default.ensures.cause) (rw begins at c.in-Ok.ensures.follows))

pub returns-in-Err-greet-clause-follows : goal.returns-in-Err-greet-clause-follows
returns-in-Err-greet-clause-follows g c =
    let begins : c.begin-linked.result.link ≡ c.hello.new.self = search rules in
    let ends : c.greet.new.self.link ≡ c.halt.result.link = search rules in
    let same : c.in-Err-greet.cause ≡ c.halt.result.cause = search rules in
    rw (← ends, ← same) (follows_then g.met.L.Link.heard_more
    (reaches_woken {T = ℕ} (greets c.args.marks.now c.args.wish.now) c.in_default.field-0 c.in_default.ensures.heard c.in_default.ensures.fault
    c.in_default.ensures.cause) (rw begins at c.in-Err-greet.ensures.follows))
