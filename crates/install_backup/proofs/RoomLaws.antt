-- Whether a handheld that is told made a database, and why it did not.
use Rattle.std.proofs.lemmas.Bool.{and_parts, eqb-true}
use Rattle.std.proofs.Common.{◌≡◌, ◌∙◌, ap, refl, sym, subst, ℕ, ◌==◌, ◌&&◌, ◌||◌, Bool, true, false, cond, List, [], ◌∷◌, length}
use Rattle.std.specs.Prelude.{Option, Some, None, IfErr, IfSome, Result, Ok, Err, is_none, is_some, nat_lt}
use Rattle.pdb_values.specs.NamedDatabases.{database_of}
use Rattle.pdb_values.specs.Names.{name_fault}
use Rattle.pdb_values.specs.declared.head.DbHead.{DbHead}
use Rattle.dlp_replies.specs.Frames.{reply_text}
use Rattle.dlp_replies.specs.ReplyReading.{reply_at}
use Rattle.dlp_replies.specs.ReplyValues as reply
use Rattle.dlp_replies.specs.ReplyValues.{ReplyValue}
use Rattle.dlp_replies.specs.declared.error_code.ErrorCode.{ErrorCode}
use Rattle.palm_device.specs.Devices.{Device, most_databases}
use Rattle.palm_device.specs.Handles.{free_handle, no_handles}
use Rattle.dlp_commands.specs.DatabaseFunctions.{create_db, named}
use Rattle.dlp_commands.specs.DeviceSteps.{outcome, tried}
use Rattle.dlp_commands.specs.Errors.{exists, limit, too_many_open, ◌>>=◌, check, need}
use Rattle.dlp_commands.specs.Reached.{Trial}
use Rattle.dlp_commands.proofs.ReplyLaws.{refused_reply}
use Rattle.dlp_commands.proofs.TableLaws.{tried_done}
use Rattle.dlp_commands.proofs.TriedLaws.{Keeps}
use Rattle.desktop_session.specs.declared.fault.SessionFault.TheVariants as session
use Rattle.desktop_session.proofs.TellLaws.{IfDone, Opens, done_then, read_again}
use Rattle.session_parts.specs.declared.stop.Stop.TheVariants as stop
use Rattle.desktop_session.proofs.LastLaws.{cause_answered}
use Rattle.session_parts.proofs.HandleLaws.{make_done, made_reply, any_kept}
use Rattle.session_parts.proofs.LinkWords.{LinkFault, Talk, SessionFault, acted, answer_by, handle_of, said_in, making, SessionValue, AsksOne}
use Rattle.install_backup.specs.Rooms.{IsUnmade, Judges, fault_of, has_room, stop_at}

-- ---- what CreateDB answers

-- where it is done, there was room
room_done : (device : Device) (creator kind : List ℕ) (flags version : ℕ) (name : List ℕ)
    → IfDone (λ (done : Device × ReplyValue). has_room name device.databases ≡ true) (create_db device creator kind 0 flags version name)
unfolding create_db
room_done device creator kind flags version name =
    let P : Device × ReplyValue → Type 0 = λ done. has_room name device.databases ≡ true in
    done_then (named 0 name) _ P (λ right a.
    done_then (check exists (is_none (database_of name device.databases))) _ P (λ new b.
    done_then (need too_many_open (free_handle device.handles)) _ P (λ handle c.
    done_then (check limit (nat_lt (length device.databases) most_databases)) _ P (λ room d.
    within (nat_lt (length device.databases) most_databases) (is_some (database_of name device.databases)) room d))))
  where
    within : (b there : Bool) (room : Unit {0}) → check limit b ≡ Ok room → (there || b) ≡ true
    within true true room is = refl
    within true false room is = refl
    within false there room is = absurd cc

err_check : {B : Type 0} (P : ℕ → Type 0) (code : ℕ) (holds : Bool) (next : Unit {0} → Result B ℕ) → (holds ≡ false → P code)
    → (holds ≡ true → IfErr (next tt) P) → IfErr (check code holds >>= next) P
err_check P code true next refuses goes = goes refl
err_check P code false next refuses goes = refuses refl

err_need : {A B : Type 0} (P : ℕ → Type 0) (code : ℕ) (o : Option A) (next : A → Result B ℕ) → P code → ((x : A) → IfErr (next x) P)
    → IfErr (need code o >>= next) P
err_need P code None next refuses goes = refuses
err_need P code (Some x) next refuses goes = goes x

-- where it is refused for want of room, there was none
full_refused : (device : Device) (creator kind : List ℕ) (flags version : ℕ) (name : List ℕ)
    → IfErr (create_db device creator kind 0 flags version name) (λ code. (code == limit) ≡ true → has_room name device.databases ≡ false)
unfolding create_db
full_refused device creator kind flags version name =
    let P : ℕ → Type 0 = λ code. (code == limit) ≡ true → has_room name device.databases ≡ false in
    err_check P 4 (is_none (name_fault name)) _ (λ bad is. absurd cc) (λ right.
    err_check P exists (is_none (database_of name device.databases)) _ (λ bad is. absurd cc) (λ new.
    err_need P too_many_open (free_handle device.handles) _ (λ is. absurd cc) (λ handle.
    err_check P limit (nat_lt (length device.databases) most_databases) _
    (λ many is. neither (database_of name device.databases) (nat_lt (length device.databases) most_databases) new many) (λ room. tt))))
  where
    neither : {A : Type 0} (o : Option A) (b : Bool) → is_none o ≡ true → b ≡ false → (is_some o || b) ≡ false
    neither None b new many = many
    neither (Some x) b new many = absurd cc

-- ---- what is read of the answer

refused_read : (code : ℕ) (r : Trial) → r ≡ Err code → Keeps (λ (done : Device × ReplyValue). Unit {0}) r
    → reply_at 0x18 (reply_text (reply.Refused 0x18 code)) ≡ Ok (reply.Refused 0x18 code)
refused_read code (Err other) is keeps =
    let same : other ≡ code = cc in
    let kept = rw same at keeps in
    read_again 0x18 (reply.Refused 0x18 code) (refused_reply 0x18 code kept.0 kept.1)
refused_read code (Ok done) is keeps = absurd cc

room_by : (device : Device) (name : List ℕ) (handle : ℕ) (r : Trial) → IfDone (λ (done : Device × ReplyValue). has_room name device.databases ≡ true) r
    → Keeps (λ (done : Device × ReplyValue). Unit {0}) r → said_in 0x18 handle_of (reply_at 0x18 (outcome device 0x18 r).0) ≡ Ok handle
    → has_room name device.databases ≡ true
room_by device name handle (Ok done) room keeps is = room
room_by device name handle (Err code) room keeps is =
    absurd (let none = sym (ap (said_in 0x18 handle_of) (refused_read code (Err code) refl keeps)) ∙ is in cc)

-- a database that was made had room
pub made_room : (device : Device) (head : DbHead) (handle : ℕ) → said_in 0x18 handle_of (reply_at 0x18 (acted (making head) device).0) ≡ Ok handle
    → has_room head.name device.databases ≡ true
unfolding acted tried
made_room device head handle is =
    let made = create_db device head.creator.0 head.kind.0 0 head.attributes head.version head.name in
    room_by device head.name handle made (room_done device head.creator.0 head.kind.0 head.attributes head.version head.name)
    (any_kept _ made (tried_done 0 device (making head).asks tt)) is

full_by : (device : Device) (name : List ℕ) (function : ℕ) (code : ErrorCode) (r : Trial) → IfDone (Opens name 0xC0 (reply.CreateDb 1)) r
    → IfErr r (λ other. (other == limit) ≡ true → has_room name device.databases ≡ false)
    → Keeps (λ (done : Device × ReplyValue). Unit {0}) r
    → said_in 0x18 handle_of (reply_at 0x18 (outcome device 0x18 r).0) ≡ Err (session.Refused function code) → (code.0 == limit) ≡ true
    → has_room name device.databases ≡ false
full_by device name function code (Ok done) opens full keeps is at_limit =
    absurd (let none = sym (ap (said_in 0x18 handle_of) (read_again 0x18 (reply.CreateDb 1) made_reply))
    ∙ ap (λ (v : ReplyValue). said_in 0x18 handle_of (reply_at 0x18 (reply_text v))) (sym opens.reply) ∙ is in cc)
full_by device name function code (Err other) opens full keeps is at_limit =
    let both : ◌≡◌ {A = Result ℕ SessionFault} (Err (session.Refused 0x18 (record { 0 = other }))) (Err (session.Refused function code)) =
    sym (ap (said_in 0x18 handle_of) (refused_read other (Err other) refl keeps)) ∙ is in
    let same : ◌≡◌ {A = ErrorCode} (record { 0 = other }) code = cc in
    full (ap (λ (c : ErrorCode). c.0 == limit) same ∙ at_limit)

-- one that was refused for want of room had none
pub unmade_full : (device : Device) (head : DbHead) (function : ℕ) (code : ErrorCode) → device.handles ≡ no_handles
    → said_in 0x18 handle_of (reply_at 0x18 (acted (making head) device).0) ≡ Err (session.Refused function code) → (code.0 == limit) ≡ true
    → has_room head.name device.databases ≡ false
unfolding acted tried
unmade_full device head function code none is at_limit =
    let made = create_db device head.creator.0 head.kind.0 0 head.attributes head.version head.name in
    full_by device head.name function code made (make_done device head.creator.0 head.kind.0 head.attributes head.version head.name none)
    (full_refused device head.creator.0 head.kind.0 head.attributes head.version head.name)
    (any_kept _ made (tried_done 0 device (making head).asks tt)) is at_limit

-- ---- over a link

abbrev IsClosed : Device → Type 0
IsClosed device = device.handles ≡ no_handles

said_of_answer : {A : Type 0} (fault : Option LinkFault) (said answer : Result A SessionFault) → fault ≡ None → answer ≡ answer_by fault said → said ≡ answer
said_of_answer None said answer none is = sym is
said_of_answer (Some fault) said answer none is = absurd cc

pub fault_at : (name : List ℕ) (cause : SessionFault) → fault_of (stop_at name cause) ≡ cause
fault_at name (session.Refused function code) = by ((function == 0x18) && (code.0 == limit)) refl
  where
    by : (b : Bool) → ((function == 0x18) && (code.0 == limit)) ≡ b
        → fault_of (cond b (stop.Limit name) (stop.Session (session.Refused function code))) ≡ session.Refused function code
    by true is =
        let both = and_parts (function == 0x18) (code.0 == limit) is in
        let making : 0x18 ≡ function = sym (eqb-true function 0x18 both.0) in
        let same : limit ≡ code.0 = sym (eqb-true code.0 limit both.1) in
        ap (λ n. let other : ErrorCode = record { 0 = n } in session.Refused 0x18 other) same ∙ ap (λ n. session.Refused n code) making
    by false is = refl
fault_at name other = refl

module _ {L : Type 0} {talk : L → Option Talk} {since : L → L → Type 0} {fault : L → Option LinkFault} {downs : L → ℕ} (head : DbHead)
    {old new : SessionValue L} (asked : AsksOne talk since fault downs (making head) old new) where
  -- it was made
  pub room_judged : (Holds : Device → Type 0) {handle : ℕ} → fault new.link ≡ None
      → Ok handle ≡ answer_by (fault new.link) (said_in 0x18 handle_of (reply_at 0x18 new.reply)) → Judges Holds true head.name (talk old.link)
  room_judged Holds {handle} none is =
      by (talk old.link) (asked.told none) (said_of_answer (fault new.link) (said_in 0x18 handle_of (reply_at 0x18 new.reply)) (Ok handle) none is)
    where
      by : (o : Option Talk) → IfSome o (λ talk. new.reply ≡ (acted (making head) talk.device).0)
          → said_in 0x18 handle_of (reply_at 0x18 new.reply) ≡ Ok handle → Judges Holds true head.name o
      by None told said = tt
      by (Some one) told said = λ holds. made_room one.device head handle (subst (λ r. said_in 0x18 handle_of (reply_at 0x18 r) ≡ Ok handle) told said)

  -- it was not made
  pub unmade_judged : (cause : SessionFault)
      → ◌≡◌ {A = Result ℕ SessionFault} (Err cause) (answer_by (fault new.link) (said_in 0x18 handle_of (reply_at 0x18 new.reply)))
      → IsUnmade talk IsClosed (making head ∷ []) head.name old.link new.link (stop_at head.name cause)
  unmade_judged (session.Refused function code) is = by ((function == 0x18) && (code.0 == limit)) refl
    where
      none : fault new.link ≡ None
      none = (cause_answered (fault new.link) 0x18 handle_of (reply_at 0x18 new.reply) (session.Refused function code) is).0

      at : (o : Option Talk) → IfSome o (λ talk. new.reply ≡ (acted (making head) talk.device).0) → (code.0 == limit) ≡ true
          → said_in 0x18 handle_of (reply_at 0x18 new.reply) ≡ Err (session.Refused function code) → Judges IsClosed false head.name o
      at None told at_limit said = tt
      at (Some one) told at_limit said = λ closed. unmade_full one.device head function code closed
          (subst (λ r. said_in 0x18 handle_of (reply_at 0x18 r) ≡ Err (session.Refused function code)) told said) at_limit

      by : (b : Bool) → ((function == 0x18) && (code.0 == limit)) ≡ b
          → IsUnmade talk IsClosed (making head ∷ []) head.name old.link new.link
          (cond b (stop.Limit head.name) (stop.Session (session.Refused function code)))
      by true at_limit = (
        refl,
        asked.does none,
        at (talk old.link) (asked.told none) (and_parts (function == 0x18) (code.0 == limit) at_limit).1
            (said_of_answer (fault new.link) (said_in 0x18 handle_of (reply_at 0x18 new.reply)) (Err (session.Refused function code)) none is),
      )
      by false at_limit = at_limit
  unmade_judged other is = tt
