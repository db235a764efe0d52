-- A database that is opened or made where nothing is open gets handle 1.
use Rattle.std.proofs.Common.{◌≡◌, ◌∙◌, refl, sym, ap, subst, ℕ, List, [], ◌∷◌, length, lit<, lit≤}
use Rattle.std.specs.Prelude.{Option, Some, None, IfSome, Result, Ok, Err, is_none, nat_lt}
use Rattle.pdb_values.specs.NamedDatabases.{database_of}
use Rattle.pdb_values.specs.declared.head.DbHead.{DbHead}
use Rattle.session_parts.specs.Rests.{IsFirst}
use Rattle.dlp_replies.specs.Frames.{reply_text}
use Rattle.dlp_replies.specs.ReplyReading.{reply_at}
use Rattle.dlp_replies.specs.ReplyValues as reply
use Rattle.dlp_replies.specs.ReplyValues.{ReplyValue}
use Rattle.palm_device.specs.Devices.{Device, most_databases}
use Rattle.palm_device.specs.Handles.{free_handle, just_opened, no_handles, with_handle}
use Rattle.session_parts.proofs.LinkWords.{LinkFault, Talk, SessionFault, Act, acted, answer_by, handle_of, said_in, making, opening, saying, SessionValue}
use Rattle.session_parts.proofs.LinkWords.{AsksOne}
use Rattle.dlp_commands.specs.DatabaseFunctions.{create_db, named, open_db}
use Rattle.dlp_commands.specs.DeviceSteps.{outcome, tried}
use Rattle.dlp_commands.specs.Errors.{exists, limit, too_many_open, check, need}
use Rattle.dlp_commands.specs.Reached.{Trial}
use Rattle.dlp_commands.proofs.ReplyLaws.{Replies, refused_reply}
use Rattle.dlp_commands.proofs.TableLaws.{tried_done}
use Rattle.dlp_commands.proofs.TriedLaws.{Keeps}
use Rattle.desktop_session.proofs.GreetLaws.{no_fault_said}
use Rattle.desktop_session.proofs.TellLaws.{IfDone, Opens, done_then, need_some, open_done, read_again}

-- ---- the handle in a reply

one_free : (device : Device) (handle : ℕ) → device.handles ≡ no_handles → free_handle device.handles ≡ Some handle → handle ≡ 1
one_free device handle none is =
    let one : ◌≡◌ {A = Option ℕ} (Some 1) (Some handle) = sym (ap free_handle none) ∙ is in
    sym (let same : 1 ≡ handle = cc in same)

pub one_reply : Replies 0x17 (reply.OpenDb 1)
one_reply = record { is = record { fields = lit< tt; values = tt; fits = lit≤ tt }; function = refl }

pub made_reply : Replies 0x18 (reply.CreateDb 1)
made_reply = record { is = record { fields = lit< tt; values = tt; fits = lit≤ tt }; function = refl }

pub make_done : (device : Device) (creator kind : List ℕ) (flags version : ℕ) (name : List ℕ) → device.handles ≡ no_handles
    → IfDone (Opens name 0xC0 (reply.CreateDb 1)) (create_db device creator kind 0 flags version name)
unfolding create_db
make_done device creator kind flags version name none =
    let P = Opens name 0xC0 (reply.CreateDb 1) in
    done_then (named 0 name) _ P (λ right a.
    done_then (check exists (is_none (database_of name device.databases))) _ P (λ new b.
    done_then (need too_many_open (free_handle device.handles)) _ P (λ handle c.
    done_then (check limit (nat_lt (length device.databases) most_databases)) _ P (λ room d.
    let first : handle ≡ 1 = one_free device handle none (need_some too_many_open (free_handle device.handles) handle c) in
    record {
      reply = ap reply.CreateDb first;
      handles = ap (λ n. with_handle n (Some (just_opened name 0xC0)) device.handles) first
          ∙ ap (λ handles. with_handle 1 (Some (just_opened name 0xC0)) handles) none;
    }))))

-- the handle that a reply says, where the answer bears handle 1, and a refusal bears none
handle_by : (device : Device) (number handle mode : ℕ) (name : List ℕ) (answer : ReplyValue) (r : Trial)
    → reply_at number (reply_text answer) ≡ Ok answer → said_in number handle_of (Ok answer) ≡ Ok 1 → IfDone (Opens name mode answer) r
    → Keeps (λ (done : Device × ReplyValue). Unit {0}) r → said_in number handle_of (reply_at number (outcome device number r).0) ≡ Ok handle → handle ≡ 1
handle_by device number handle mode name answer (Ok done) reads says opens keeps is =
    let both : ◌≡◌ {A = Result ℕ SessionFault} (Ok 1) (Ok handle)
    = sym says ∙ ap (said_in number handle_of) (sym reads) ∙ ap (λ v. said_in number handle_of (reply_at number (reply_text v))) (sym opens.reply) ∙ is in
    let same : 1 ≡ handle = cc in
    sym same
handle_by device number handle mode name answer (Err code) reads says opens keeps is =
    let read : reply_at number (reply_text (reply.Refused number code)) ≡ Ok (reply.Refused number code)
    = read_again number (reply.Refused number code) (refused_reply number code keeps.0 keeps.1) in
    absurd (let none = sym (ap (said_in number handle_of) read) ∙ is in cc)

-- whatever was refused has a code
pub any_kept : (P : Device × ReplyValue → Type 0) (r : Trial) → Keeps P r → Keeps (λ (done : Device × ReplyValue). Unit {0}) r
any_kept P (Ok done) keeps = tt
any_kept P (Err code) keeps = keeps

opens_one : (device : Device) (name : List ℕ) (handle : ℕ) → device.handles ≡ no_handles
    → said_in 0x17 handle_of (reply_at 0x17 (acted (opening name) device).0) ≡ Ok handle → handle ≡ 1
unfolding acted tried
opens_one device name handle none is =
    handle_by device 0x17 handle 0xD0 name (reply.OpenDb 1) (open_db device 0 0xD0 name) (read_again 0x17 (reply.OpenDb 1) one_reply) refl
    (open_done device 0xD0 name none) (any_kept _ (open_db device 0 0xD0 name) (tried_done 0 device (opening name).asks tt)) is

makes_one : (device : Device) (head : DbHead) (handle : ℕ) → device.handles ≡ no_handles
    → said_in 0x18 handle_of (reply_at 0x18 (acted (making head) device).0) ≡ Ok handle → handle ≡ 1
unfolding acted tried
makes_one device head handle none is =
    let made = create_db device head.creator.0 head.kind.0 0 head.attributes head.version head.name in
    handle_by device 0x18 handle 0xC0 head.name (reply.CreateDb 1) made (read_again 0x18 (reply.CreateDb 1) made_reply) refl
    (make_done device head.creator.0 head.kind.0 head.attributes head.version head.name none)
    (any_kept _ made (tried_done 0 device (making head).asks tt)) is

-- ---- where it was answered

pub said_of_answer : {A : Type 0} (fault : Option LinkFault) (said : Result A SessionFault) (x : A) → Ok x ≡ answer_by fault said → said ≡ Ok x
said_of_answer None said x is = sym is
said_of_answer (Some fault) said x is = absurd cc

first_by : (o : Option Talk) (one : Act) (number handle : ℕ) (bytes : List ℕ)
    → ((device : Device) → device.handles ≡ no_handles → said_in number handle_of (reply_at number (acted one device).0) ≡ Ok handle → handle ≡ 1)
    → IfSome o (λ talk. bytes ≡ (acted one talk.device).0) → said_in number handle_of (reply_at number bytes) ≡ Ok handle → IsFirst o handle
first_by None one number handle bytes opens told said = tt
first_by (Some talk) one number handle bytes opens told said =
    λ none. opens talk.device none (subst (λ r. said_in number handle_of (reply_at number r) ≡ Ok handle) told said)

-- handle 1 is the first
pub one_first : (told : Option Talk) → IsFirst told 1
one_first None = tt
one_first (Some talk) = λ none. refl

-- an act that opens a database was answered by this handle, the first where nothing was open
pub record IsOpened {L : Type 0} (talk : L → Option Talk) (since : L → L → Type 0) (fault : L → Option LinkFault) (downs : L → ℕ) (one : Act) (handle : ℕ)
    (old now : SessionValue L) : Type 0 where
  pub asked : AsksOne talk since fault downs one old now
  pub none : fault now.link ≡ None
  pub first : IsFirst (talk old.link) handle
  pub told : talk now.link ≡ saying (one ∷ []) (talk old.link)

module _ {L : Type 0} {talk : L → Option Talk} {since : L → L → Type 0} {fault : L → Option LinkFault} {downs : L → ℕ} where
  answered_first : (number : ℕ) (one : Act) {handle : ℕ} {old now : SessionValue L}
      → ((device : Device) → device.handles ≡ no_handles → said_in number handle_of (reply_at number (acted one device).0) ≡ Ok handle → handle ≡ 1)
      → AsksOne talk since fault downs one old now → Ok handle ≡ answer_by (fault now.link) (said_in number handle_of (reply_at number now.reply))
      → IsOpened talk since fault downs one handle old now
  answered_first number one {handle} {old} {now} opens asked is =
      let said = said_in number handle_of (reply_at number now.reply) in
      let none = no_fault_said (fault now.link) said handle is in
      record {
        asked = asked;
        none = none;
        first = first_by (talk old.link) one number handle now.reply opens (asked.told none) (said_of_answer (fault now.link) said handle is);
        told = (asked.does none).said;
      }

  pub opened_first : (name : List ℕ) {handle : ℕ} {old now : SessionValue L} → AsksOne talk since fault downs (opening name) old now
      → Ok handle ≡ answer_by (fault now.link) (said_in 0x17 handle_of (reply_at 0x17 now.reply))
      → IsOpened talk since fault downs (opening name) handle old now
  opened_first name asked is = answered_first 0x17 (opening name) (λ device none. opens_one device name _ none) asked is

  pub made_first : (head : DbHead) {handle : ℕ} {old now : SessionValue L} → AsksOne talk since fault downs (making head) old now
      → Ok handle ≡ answer_by (fault now.link) (said_in 0x18 handle_of (reply_at 0x18 now.reply))
      → IsOpened talk since fault downs (making head) handle old now
  made_first head asked is = answered_first 0x18 (making head) (λ device none. makes_one device head _ none) asked is
