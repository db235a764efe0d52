-- A database that is opened to be read where nothing is open gets handle 1.
use Rattle.std.proofs.Common.{◌≡◌, ◌∙◌, sym, ap, subst, ℕ, List}
use Rattle.std.specs.Prelude.{Option, Some, None, IfSome, Result, Ok, Err}
use Rattle.dlp_replies.specs.Frames.{reply_text}
use Rattle.dlp_replies.specs.ReplyReading.{reply_at}
use Rattle.dlp_replies.specs.ReplyValues as reply
use Rattle.dlp_replies.specs.ReplyValues.{ReplyValue}
use Rattle.palm_device.specs.Devices.{Device}
use Rattle.palm_device.specs.Handles.{no_handles}
use Rattle.dlp_commands.specs.DatabaseFunctions.{open_db}
use Rattle.dlp_commands.specs.DeviceSteps.{outcome, tried}
use Rattle.dlp_commands.specs.Reached.{Trial}
use Rattle.dlp_commands.proofs.ReplyLaws.{refused_reply}
use Rattle.dlp_commands.proofs.TableLaws.{tried_done}
use Rattle.dlp_commands.proofs.TriedLaws.{Keeps}
use Rattle.desktop_session.specs.Requests.{opening_to_read}
use Rattle.desktop_session.proofs.GreetLaws.{no_fault_said}
use Rattle.desktop_session.proofs.TellLaws.{IfDone, Opens, open_done, read_again}
use Rattle.session_parts.specs.Rests.{IsFirst}
use Rattle.session_parts.proofs.HandleLaws.{IsOpened, said_of_answer, one_reply, any_kept}
use Rattle.session_parts.proofs.LinkWords.{AsksOne, LinkFault, SessionFault, SessionValue, Talk, acted, answer_by, handle_of, said_in}

handle_by : (device : Device) (handle : ℕ) (name : List ℕ) (r : Trial) → IfDone (Opens name 0x90 (reply.OpenDb 1)) r
    → Keeps (λ (done : Device × ReplyValue). Unit {0}) r → said_in 0x17 handle_of (reply_at 0x17 (outcome device 0x17 r).0) ≡ Ok handle → handle ≡ 1
handle_by device handle name (Ok done) opens keeps is =
    let both : ◌≡◌ {A = Result ℕ SessionFault} (Ok 1) (Ok handle) =
    ap (said_in 0x17 handle_of) (sym (read_again 0x17 (reply.OpenDb 1) one_reply))
    ∙ ap (λ (v : ReplyValue). said_in 0x17 handle_of (reply_at 0x17 (reply_text v))) (sym opens.reply) ∙ is in
    let same : 1 ≡ handle = cc in
    sym same
handle_by device handle name (Err code) opens keeps is =
    let read : reply_at 0x17 (reply_text (reply.Refused 0x17 code)) ≡ Ok (reply.Refused 0x17 code) =
    read_again 0x17 (reply.Refused 0x17 code) (refused_reply 0x17 code keeps.0 keeps.1) in
    absurd (let none = sym (ap (said_in 0x17 handle_of) read) ∙ is in cc)

opens_one : (device : Device) (name : List ℕ) (handle : ℕ) → device.handles ≡ no_handles
    → said_in 0x17 handle_of (reply_at 0x17 (acted (opening_to_read name) device).0) ≡ Ok handle → handle ≡ 1
unfolding acted tried
opens_one device name handle none is =
    handle_by device handle name (open_db device 0 0x90 name) (open_done device 0x90 name none)
    (any_kept _ (open_db device 0 0x90 name) (tried_done 0 device (opening_to_read name).asks tt)) is

first_by : (o : Option Talk) (name : List ℕ) (handle : ℕ) (bytes : List ℕ)
    → IfSome o (λ talk. bytes ≡ (acted (opening_to_read name) talk.device).0) → said_in 0x17 handle_of (reply_at 0x17 bytes) ≡ Ok handle → IsFirst o handle
first_by None name handle bytes told said = tt
first_by (Some talk) name handle bytes told said =
    λ none. opens_one talk.device name handle none (subst (λ r. said_in 0x17 handle_of (reply_at 0x17 r) ≡ Ok handle) told said)

pub opened_to_read : {L : Type 0} {talk : L → Option Talk} {since : L → L → Type 0} {fault : L → Option LinkFault} {downs : L → ℕ} (name : List ℕ) {handle : ℕ}
    {old now : SessionValue L} → AsksOne talk since fault downs (opening_to_read name) old now
    → Ok handle ≡ answer_by (fault now.link) (said_in 0x17 handle_of (reply_at 0x17 now.reply))
    → IsOpened talk since fault downs (opening_to_read name) handle old now
opened_to_read {talk = talk} {fault = fault} name {handle} {old} {now} asked is =
    let said = said_in 0x17 handle_of (reply_at 0x17 now.reply) in
    let none = no_fault_said (fault now.link) said handle is in
    record {
      asked = asked;
      none = none;
      first = first_by (talk old.link) name handle now.reply (asked.told none) (said_of_answer (fault now.link) said handle is);
      told = (asked.does none).said;
    }
