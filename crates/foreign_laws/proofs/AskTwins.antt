-- What a session asks in one request, other than a list, a record or an opening, ends alike.
use Rattle.std.proofs.Common.{◌≡◌, refl, ℕ, Bool, true, false, List}
use Rattle.std.specs.Prelude.{◌==◌, Option, None, Result, Ok, Err, if◌then◌else◌}
use Rattle.pdb_values.specs.Contents.{ContentValue}
use Rattle.pdb_values.specs.declared.user.Marks.{Marks}
use Rattle.pdb_values.specs.declared.user.UserInfo.{UserInfo}
use Rattle.dlp_replies.specs.ReplyValues as reply
use Rattle.dlp_replies.specs.ReplyValues.{ReplyValue}
use Rattle.desktop_session.specs.declared.fault.SessionFault.{SessionFault}
use Rattle.desktop_session.specs.declared.fault.SessionFault.TheVariants as session
use Rattle.desktop_session.specs.declared.seat.UserWish.{UserWish}
use Rattle.desktop_session.specs.Answers.{block_of, count_of, id_of, no_more, or_false, or_none, said_in, user_of}
use Rattle.desktop_session.specs.Asking.{cleans, closes, copies_app, copies_sort, ends, marks, puts_one, removes, resets, writes_app, writes_sort}
use Rattle.desktop_session.specs.Greeted.{asks_conduits, asks_user}
use Rattle.desktop_session.specs.Greetings.{user_by}
use Rattle.desktop_session.specs.Lendings.{counts}
use Rattle.desktop_session.specs.Requests as request
use Rattle.foreign_laws.specs.Twins.{EndsAlike, HasTwin}
use Rattle.foreign_laws.proofs.StepLaws.{twin_read}

-- a refusal is no answer
pub said_stops : {A : Type 0} (number code : ℕ) (take : ReplyValue → A) (x : A) → said_in number take (Ok (reply.Refused number code)) ≡ Ok x → ⊥
said_stops number code take x is = cc

err_stops : {A : Type 0} (cause : SessionFault) (x : A) → ◌≡◌ {A = Result A SessionFault} (Err cause) (Ok x) → ⊥
err_stops cause x is = cc

none_by : {A : Type 0} (b : Bool) (cause : SessionFault) (x : Option A) → b ≡ false
    → ◌≡◌ {A = Result (Option A) SessionFault} (if b then Ok None else Err cause) (Ok x) → ⊥
none_by true cause x five is = cc
none_by false cause x five is = cc

pub none_stops : {A : Type 0} (number code : ℕ) (take : ReplyValue → A) (x : Option A) → (code == 5) ≡ false
    → or_none (said_in number take (Ok (reply.Refused number code))) ≡ Ok x → ⊥
none_stops number code take x five is = none_by (code == 5) (session.Refused number (record { 0 = code })) x five is

false_by : (b : Bool) (cause : SessionFault) (x : Bool) → b ≡ false → ◌≡◌ {A = Result Bool SessionFault} (if b then Ok false else Err cause) (Ok x) → ⊥
false_by true cause x five is = cc
false_by false cause x five is = cc

pub false_stops : (number code : ℕ) (x : Bool) → (code == 5) ≡ false → or_false (said_in number no_more (Ok (reply.Refused number code))) ≡ Ok x → ⊥
false_stops number code x five is = false_by (code == 5) (session.Refused number (record { 0 = code })) x five is

-- ---- the user, and the conduits

pub twin_user : (marks : List Marks) (wish : UserWish) → EndsAlike (asks_user marks wish)
twin_user marks wish =
    twin_read request.reading_user.asks (λ read. user_by marks wish (said_in 0x10 user_of read))
    (λ code x other is. err_stops (session.Refused 0x10 (record { 0 = code })) x is) (λ old new value grants. grants) (λ handle ours value is. is)

pub twin_conduits : EndsAlike asks_conduits
twin_conduits = twin_read request.beginning.asks (said_in 0x2E no_more) (λ code x other is. said_stops 0x2E code no_more x is)
    (λ old new value grants. grants) (λ handle ours value is. is)

pub twin_marks : (mark : UserInfo) (bits : ℕ) → EndsAlike (marks mark bits)
twin_marks mark bits = twin_read (request.marking mark bits).asks (said_in 0x11 no_more) (λ code x other is. said_stops 0x11 code no_more x is)
    (λ old new value grants. grants) (λ handle ours value is. is)

pub twin_ends : EndsAlike ends
twin_ends = twin_read request.ending.asks (said_in 0x2F no_more) (λ code x other is. said_stops 0x2F code no_more x is)
    (λ old new value grants. grants) (λ handle ours value is. is)

-- ---- under a handle

module _ (handle : ℕ) where
  pub twin_closes : HasTwin (closes handle) (closes 1)
  twin_closes = twin_read (request.closing handle).asks (said_in 0x19 no_more) (λ code x other is. said_stops 0x19 code no_more x is)
      (λ old new value grants. grants) (λ handle ours value is. is)

  pub twin_counts : HasTwin (counts handle) (counts 1)
  twin_counts = twin_read (request.counting handle).asks (said_in 0x2B count_of) (λ code x other is. said_stops 0x2B code count_of x is)
      (λ old new value grants. grants) (λ handle ours value is. is)

  pub twin_app : HasTwin (copies_app handle) (copies_app 1)
  twin_app = twin_read (request.reading_app handle).asks (λ read. or_none (said_in 0x1B block_of read))
      (λ code x other is. none_stops 0x1B code block_of x (other refl) is) (λ old new value grants. grants) (λ handle ours value is. is)

  pub twin_sort : HasTwin (copies_sort handle) (copies_sort 1)
  twin_sort = twin_read (request.reading_sort handle).asks (λ read. or_none (said_in 0x1D block_of read))
      (λ code x other is. none_stops 0x1D code block_of x (other refl) is) (λ old new value grants. grants) (λ handle ours value is. is)

  pub twin_puts : (id : ℕ) (content : ContentValue) → HasTwin (puts_one handle id content) (puts_one 1 id content)
  twin_puts id content = twin_read (request.putting 0 handle id content).asks (said_in 0x21 id_of) (λ code x other is. said_stops 0x21 code id_of x is)
      (λ old new value grants. grants) (λ handle ours value is. is)

  pub twin_removes : (id : ℕ) → HasTwin (removes handle id) (removes 1 id)
  twin_removes id = twin_read (request.removing handle id).asks (λ read. or_false (said_in 0x22 no_more read))
      (λ code x other is. false_stops 0x22 code x (other refl) is) (λ old new value grants. grants) (λ handle ours value is. is)

  pub twin_cleans : HasTwin (cleans handle) (cleans 1)
  twin_cleans = twin_read (request.cleaning handle).asks (said_in 0x26 no_more) (λ code x other is. said_stops 0x26 code no_more x is)
      (λ old new value grants. grants) (λ handle ours value is. is)

  pub twin_resets : HasTwin (resets handle) (resets 1)
  twin_resets = twin_read (request.resetting handle).asks (said_in 0x27 no_more) (λ code x other is. said_stops 0x27 code no_more x is)
      (λ old new value grants. grants) (λ handle ours value is. is)

  pub twin_writes_app : (bytes : List ℕ) → HasTwin (writes_app handle bytes) (writes_app 1 bytes)
  twin_writes_app bytes = twin_read (request.writing_app handle bytes).asks (said_in 0x1C no_more) (λ code x other is. said_stops 0x1C code no_more x is)
      (λ old new value grants. grants) (λ handle ours value is. is)

  pub twin_writes_sort : (bytes : List ℕ) → HasTwin (writes_sort handle bytes) (writes_sort 1 bytes)
  twin_writes_sort bytes = twin_read (request.writing_sort handle bytes).asks (said_in 0x1E no_more) (λ code x other is. said_stops 0x1E code no_more x is)
      (λ old new value grants. grants) (λ handle ours value is. is)
