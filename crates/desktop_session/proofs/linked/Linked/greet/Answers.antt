-- A greeting is two requests.
use Rattle.std.proofs.Common.{inl, inr, [], ◌∷◌}
use Rattle.std.proofs.lemmas.Result.{err_from_is_err_and}
use Rattle.desktop_session.specs.Acts.{text}
use Rattle.desktop_session.specs.Answers.{no_more, said_in, user_of}
use Rattle.desktop_session.specs.Greetings.{user_by}
use Rattle.desktop_session.specs.Requests.{beginning, reading_user}
use Rattle.dlp_replies.specs.ReplyReading.{reply_at}
use Rattle.desktop_session.specs.Greeted.{greets}
use Rattle.desktop_session.proofs.FollowLaws.{follows_done, follows_ended, reaches_none, reaches_then}
use Rattle.desktop_session.proofs.GreetLaws.{greet_first, greet_second, no_fault_said, slot_read}
use Rattle.desktop_session.proofs.StopLaws.{does_then, stops_more, stops_then}
use Rattle.desktop_session.proofs.linked.Linked.greet.Goals as goal

pub returns-in_err-user-clause-stops : goal.returns-in_err-user-clause-stops
returns-in_err-user-clause-stops g c =
    stops_more g.L.Link.talk g.L.Link.since g.L.Link.fault g.L.Link.downs (text reading_user ∷ []) (text beginning ∷ []) c.args.self.now.link
    c.ask_user.new.self.link c.in_err-user.ensures.asked.stops

pub returns-in_err-user-clause-greeted : goal.returns-in_err-user-clause-greeted
returns-in_err-user-clause-greeted g c =
    let p = err_from_is_err_and c.from_residual.result c.from_residual.ensures.1 in
    rw (p.1, p.2) (greet_first c.args.marks.now c.args.wish.now (g.L.Link.talk c.args.self.now.link)
    c.ask_user.new.self.reply
    c.in_err-user.ensures.answer c.in_err-user.ensures.asked.told)

pub returns-in_err-user-clause-unseated : goal.returns-in_err-user-clause-unseated
returns-in_err-user-clause-unseated g c = inl (record { stops = c.in_err-user.ensures.asked.stops; does = c.in_err-user.ensures.asked.does })

pub returns-in_err-ask_conduits-clause-unseated : goal.returns-in_err-ask_conduits-clause-unseated
returns-in_err-ask_conduits-clause-unseated g c =
    inr (slot_read c.args.marks.now c.args.wish.now (g.L.Link.talk c.args.self.now.link)
    c.ask_user.new.self.reply c.in_ok-user.ensures.answer c.in_ok-user.ensures.asked.told)

pub returns-clause-unseated : goal.returns-clause-unseated
returns-clause-unseated g c =
    inr (slot_read c.args.marks.now c.args.wish.now (g.L.Link.talk c.args.self.now.link)
    c.ask_user.new.self.reply c.in_ok-user.ensures.answer c.in_ok-user.ensures.asked.told)

pub returns-in_err-ask_conduits-clause-stops : goal.returns-in_err-ask_conduits-clause-stops
returns-in_err-ask_conduits-clause-stops g c =
    let none = no_fault_said (g.L.Link.fault c.ask_user.new.self.link) (user_by c.args.marks.now c.args.wish.now (said_in 0x10 user_of
    (reply_at 0x10 c.ask_user.new.self.reply))) c.in_ok-user.user c.in_ok-user.ensures.answer in
    stops_then g.L.Link.talk g.L.Link.since g.L.Link.fault g.L.Link.downs g.met.L.Link.since_more (reading_user ∷ []) (text beginning ∷ [])
    c.args.self.now.link c.ask_user.new.self.link c.ask_conduits.new.self.link (c.in_ok-user.ensures.asked.does none) c.in_ok-user.ensures.asked.stops
    c.in_err-ask_conduits.ensures.asked.stops

pub returns-in_err-ask_conduits-clause-greeted : goal.returns-in_err-ask_conduits-clause-greeted
returns-in_err-ask_conduits-clause-greeted g c =
    let p = err_from_is_err_and c.from_residual-in_err-ask_conduits.result c.from_residual-in_err-ask_conduits.ensures.1 in
    rw (p.1, p.2) (greet_second c.args.marks.now c.args.wish.now (g.L.Link.talk c.args.self.now.link) (g.L.Link.talk c.ask_user.new.self.link)
    c.ask_user.new.self.reply c.ask_conduits.new.self.reply
    c.in_ok-user.ensures.answer c.in_ok-user.ensures.asked.told (λ none. (c.in_ok-user.ensures.asked.does none).said)
    c.in_err-ask_conduits.ensures.answer c.in_err-ask_conduits.ensures.asked.told)

pub returns-clause-stops : goal.returns-clause-stops
returns-clause-stops g c =
    let none = no_fault_said (g.L.Link.fault c.ask_user.new.self.link) (user_by c.args.marks.now c.args.wish.now (said_in 0x10 user_of
    (reply_at 0x10 c.ask_user.new.self.reply))) c.in_ok-user.user c.in_ok-user.ensures.answer in
    stops_then g.L.Link.talk g.L.Link.since g.L.Link.fault g.L.Link.downs g.met.L.Link.since_more (reading_user ∷ []) (text beginning ∷ [])
    c.args.self.now.link c.ask_user.new.self.link c.ask_conduits.new.self.link (c.in_ok-user.ensures.asked.does none) c.in_ok-user.ensures.asked.stops
    c.in_ok-ask_conduits.ensures.asked.stops

pub returns-clause-does : goal.returns-clause-does
returns-clause-does g c =
    let none = no_fault_said (g.L.Link.fault c.ask_user.new.self.link) (user_by c.args.marks.now c.args.wish.now (said_in 0x10 user_of
    (reply_at 0x10 c.ask_user.new.self.reply))) c.in_ok-user.user c.in_ok-user.ensures.answer in
    let clear = no_fault_said (g.L.Link.fault c.ask_conduits.new.self.link) (said_in 0x2E no_more
    (reply_at 0x2E c.ask_conduits.new.self.reply)) tt c.in_ok-ask_conduits.ensures.answer in
    does_then g.L.Link.talk (reading_user ∷ []) (beginning ∷ []) c.args.self.now.link c.ask_user.new.self.link c.ask_conduits.new.self.link
    (c.in_ok-user.ensures.asked.does none) (c.in_ok-ask_conduits.ensures.asked.does clear)

pub returns-clause-greeted : goal.returns-clause-greeted
returns-clause-greeted g c =
    greet_second c.args.marks.now c.args.wish.now (g.L.Link.talk c.args.self.now.link) (g.L.Link.talk c.ask_user.new.self.link)
    c.ask_user.new.self.reply c.ask_conduits.new.self.reply
    c.in_ok-user.ensures.answer c.in_ok-user.ensures.asked.told (λ none. (c.in_ok-user.ensures.asked.does none).said)
    c.in_ok-ask_conduits.ensures.answer c.in_ok-ask_conduits.ensures.asked.told

pub returns-in_err-user-clause-follows : goal.returns-in_err-user-clause-follows
returns-in_err-user-clause-follows g c =
    let p = err_from_is_err_and c.from_residual.result c.from_residual.ensures.1 in
    rw (p.1, p.2) (follows_ended g.met.L.Link.heard_more _ (reaches_none g.met.L.Link.heard_none (greets c.args.marks.now c.args.wish.now) _)
    c.in_err-user.ensures.follows)

pub returns-in_err-ask_conduits-clause-follows : goal.returns-in_err-ask_conduits-clause-follows
returns-in_err-ask_conduits-clause-follows g c =
    let p = err_from_is_err_and c.from_residual-in_err-ask_conduits.result c.from_residual-in_err-ask_conduits.ensures.1 in
    rw (p.1, p.2) (follows_ended g.met.L.Link.heard_more _ (reaches_then g.met.L.Link.heard_more _
    (reaches_none g.met.L.Link.heard_none (greets c.args.marks.now c.args.wish.now) _) c.in_ok-user.ensures.follows)
    c.in_err-ask_conduits.ensures.follows)

pub returns-clause-follows : goal.returns-clause-follows
returns-clause-follows g c =
    follows_done (reaches_then g.met.L.Link.heard_more _ (reaches_then g.met.L.Link.heard_more _
    (reaches_none g.met.L.Link.heard_none (greets c.args.marks.now c.args.wish.now) _) c.in_ok-user.ensures.follows)
    c.in_ok-ask_conduits.ensures.follows)
