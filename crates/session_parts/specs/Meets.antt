-- How both sides of a session meet: the handheld is greeted, and its databases are listed.
use Rattle.std.specs.Prelude.{◌≡◌, ◌≤◌, ◌<◌, ◌+◌, ◌-◌, ◌⊎◌, ◌++◌, ℕ, true, false, List, [], ◌∷◌, map, Option, None, IfErr, IfOk, IfSome, Result, Ok, Err}
use Rattle.std.specs.Result.{IsErrAnd}
use Rattle.pdb_values.specs.declared.user.Marks.{Marks}
use Rattle.pdb_values.specs.declared.user.UserInfo.{UserInfo}
use Rattle.pdb_values.specs.declared.slot.Slot.{Slot}
use Rattle.pdb_values.specs.declared.slot.Slot.TheVariants as slot
use Rattle.dlp_replies.specs.ReplyReading.{reply_at}
use Rattle.dlp_commands.specs.declared.link.LinkFault.{LinkFault}
use Rattle.dlp_commands.specs.Talks.{Talk}
use Rattle.desktop_session.specs.declared.ending.Halted.{Halted}
use Rattle.desktop_session.specs.declared.fault.SessionFault.{SessionFault}
use Rattle.desktop_session.specs.declared.fault.SessionFault.TheVariants as session
use Rattle.desktop_session.specs.declared.seat.UserWish.{UserWish}
use Rattle.desktop_session.specs.Acts.{Act, text}
use Rattle.desktop_session.specs.Greetings.{AsksUser, AnswersGreeting, HasSlot}
use Rattle.desktop_session.specs.Lists.{HasCause, HasReplied, IsNotMissing, has_more, heads_listed, list_reply, listings}
use Rattle.desktop_session.specs.Requests.{beginning, listing, reading_user}
use Rattle.desktop_session.specs.Says.{saying}
use Rattle.desktop_session.specs.Stops.{Does, Stops}
use Rattle.session_parts.specs.declared.meeting.Met.{Met}

-- both sides meet
abbrev pub greeting : List Act
greeting = reading_user ∷ beginning ∷ []

-- what is said where the list takes so many requests
abbrev pub meeting_acts : ℕ → List Act
meeting_acts count = greeting ++ listings count

-- the link of a session that met, or that stopped
abbrev pub link_met : {L : Type 0} → Result (Met L) (Halted L) → L
link_met (Ok met) = met.linked.link
link_met (Err halted) = halted.link

-- The handheld was greeted, and the list was refused, by the link's fault or by a reply, which is
-- the device's where there is no fault.
pub record IsUnlisted (marks : List Marks) (wish : UserWish) (talk : Option Talk) (fault : Option LinkFault)
    (cause : SessionFault) : Type 0 where
  pub user : UserInfo
  pub greeted : AnswersGreeting marks wish talk None (Ok user)
  pub reply : List ℕ
  pub is : HasCause fault (reply_at 0x16 reply) cause
  pub others : IsNotMissing cause
  pub told : fault ≡ None
      → IfSome (saying greeting talk) (λ talk. HasReplied 65536 listing talk.device reply)

-- Nothing went out but a greeting and then a list, as far as the answers go, each request of the
-- list but the first where the reply before it said that more follow. Where both sides met, each
-- request was answered, the user has a slot, the heads are those that the device lists behind the
-- greeting, in so many replies, and the last of these said that no more follow, unless it was the
-- 65,536th. Else the greeting or the list was refused. A user without a slot is all that is asked
-- for.
pub record Meets {L : Type 0} (talk : L → Option Talk) (since : L → L → Type 0)
    (fault : L → Option LinkFault) (downs : L → ℕ)
    (marks : List Marks) (wish : UserWish) (old : L) (answer : Result (Met L) (Halted L)) : Type 0 where
  pub count : ℕ
  pub few : count ≤ 65536
  pub more : IfSome (saying greeting (talk old))
      (λ talk. (k : ℕ) → k + 1 < count → has_more (list_reply talk.device k) ≡ true)
  pub stops : Stops talk since fault downs (map text (meeting_acts count)) old (link_met answer)
  pub does : IfOk answer (λ met. Does talk (meeting_acts count) old met.linked.link)
  pub unseated : AsksUser talk since fault downs old (link_met answer)
      ⊎ HasSlot marks wish (talk old)
  pub user : IfOk answer (λ met. AnswersGreeting marks wish (talk old) None (Ok met.linked.user))
  pub some : IfOk answer (λ met. 0 < count)
  pub heads : IfOk answer
      (λ met. IfSome (saying greeting (talk old))
      (λ talk. met.heads.items ≡ heads_listed talk.device count))
  pub last : IfOk answer (λ met. IfSome (saying greeting (talk old))
      (λ talk. (count ≡ 65536) ⊎ (has_more (list_reply talk.device (count - 1)) ≡ false)))
  pub closed : IfOk answer (λ met. met.linked.abandoned ≡ false)
  pub cause : IfErr answer
      (λ halted. AnswersGreeting marks wish (talk old) (fault halted.link) (Err halted.cause)
      ⊎ IsUnlisted marks wish (talk old) (fault halted.link) halted.cause)

-- both sides were to meet, or memory ran out before
abbrev pub MeetsOrNot : {L : Type 0} → (L → Option Talk) → (L → L → Type 0)
    → (L → Option LinkFault) → (L → ℕ) → List Marks → UserWish → L → Result (Met L) (Halted L)
    → Type 0
MeetsOrNot talk since fault downs marks wish old answer =
    Meets talk since fault downs marks wish old answer
    ⊎ IsErrAnd answer (λ halted. (halted.link ≡ old) × (halted.cause ≡ session.NoMemory))

-- a user has a slot, an old one or a new one
abbrev pub IsSeated : Slot → Type 0
IsSeated (slot.Old place) = Unit {0}
IsSeated slot.New = Unit {0}
IsSeated slot.Refused = ⊥
IsSeated slot.Full = ⊥
