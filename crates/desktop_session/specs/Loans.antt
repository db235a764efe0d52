-- What is left of a session once what it lent has come back, and where it opened no database.
use Rattle.std.specs.Prelude.{◌≡◌, ℕ, [], Option, Result, Err, IfErr}
use Rattle.std.specs.Borrow.{Fml, MutBor, RattleType, RestsIfErr}
use Rattle.std.specs.Io.BufRead.{Rests}
use mir.Syntax.{named}
use Rattle.dlp_replies.specs.ReplyReading.{reply_at}
use Rattle.dlp_replies.specs.ReplyValues.{ReplyValue}
use Rattle.dlp_commands.specs.declared.link.Link.{Ghosts}
use Rattle.dlp_commands.specs.declared.link.LinkFault.{LinkFault}
use Rattle.desktop_session.specs.Acts.{Act}
use Rattle.desktop_session.specs.Answers.{answer_by, handle_of, or_none, said_in}
use Rattle.desktop_session.specs.Following.{Follows}
use Rattle.desktop_session.specs.Inquiries.{Inquiry}
use Rattle.desktop_session.specs.Sessions.{SessionValue}
use Rattle.desktop_session.specs.Stops.{AsksOne}
use Rattle.desktop_session.specs.Wholes.{HasWhole}
use Rattle.desktop_session.specs.contracts.linked.Linked as linked_row
use Rattle.desktop_session.specs.contracts.open_db.OpenDb as open_row
use Rattle.desktop_session.specs.declared.fault.SessionFault.{SessionFault}
use Rattle.desktop_session.specs.declared.open_db.OpenDb.{OpenDb}

-- what a session is answered whose last reply is to this function
abbrev pub answered_with : {L A : Type 0} → (L → Option LinkFault) → ℕ → (ReplyValue → A)
    → SessionValue L → Result A SessionFault
answered_with fault function take session =
    answer_by (fault session.link) (said_in function take (reply_at function session.reply))

-- the same of what may not be there
abbrev pub found_with : {L A : Type 0} → (L → Option LinkFault) → ℕ → (ReplyValue → A)
    → SessionValue L → Result (Option A) SessionFault
found_with fault function take session =
    answer_by (fault session.link)
    (or_none (said_in function take (reply_at function session.reply)))

-- Something is lent out of an open database. Once that came back, the same session has the database
-- open under the same handle; it asked for one act, this holds of it, and the inquiry was followed.
abbrev pub Lends : {A : Type 0} → (T : RattleType) (g : Ghosts T.Denot) → MutBor (OpenDb T.Denot)
    → Act → Inquiry A → (SessionValue T.Denot → Result A SessionFault)
    → (SessionValue T.Denot → Type 0) → Fml
Lends T g database one asked answer Holds =
    Rests (open_row.the_row (record { mir = named 0; lft = [] }) T g) database
    (λ last. (last.linked.ghost_name ≡ database.now.linked.ghost_name)
    × (last.handle ≡ database.now.handle)
    × AsksOne g.talk g.since g.fault g.downs one database.now.linked.now last.linked.now
    × Holds last.linked.now
    × Follows g asked database.now.linked.now.link last.linked.now.link (answer last.linked.now))

-- the same of a record, and what was lent is whole
abbrev pub LendsWhole : {A : Type 0} → (T : RattleType) (g : Ghosts T.Denot)
    → MutBor (OpenDb T.Denot) → Act → Inquiry A
    → (SessionValue T.Denot → Result A SessionFault) → (SessionValue T.Denot → Type 0) → Fml
LendsWhole T g database one asked answer Holds =
    Rests (open_row.the_row (record { mir = named 0; lft = [] }) T g) database
    (λ last. (last.linked.ghost_name ≡ database.now.linked.ghost_name)
    × (last.handle ≡ database.now.handle)
    × AsksOne g.talk g.since g.fault g.downs one database.now.linked.now last.linked.now
    × Holds last.linked.now
    × HasWhole g.fault one last.linked.now
    × Follows g asked database.now.linked.now.link last.linked.now.link (answer last.linked.now))

-- Where no database is opened, the session asked for one act, and was answered this fault; so the
-- inquiry for the handle was followed.
abbrev pub OpensNone : (T : RattleType) (g : Ghosts T.Denot) → MutBor (SessionValue T.Denot)
    → Result (OpenDb T.Denot) SessionFault → Act → ℕ → Inquiry ℕ → Fml
OpensNone T g session result one function asked =
    RestsIfErr (linked_row.the_row T g) session (λ opened. opened.linked.ghost_name) result
    (λ last. AsksOne g.talk g.since g.fault g.downs one session.now last
    × IfErr result (λ fault. Err fault ≡ answered_with g.fault function handle_of last)
    × IfErr result (λ fault. Follows g asked session.now.link last.link (Err fault)))
