-- A greeting: the user's reply, its slot, and the second reply.
use Rattle.std.proofs.Common.{◌≡◌, ◌∙◌, refl, sym, inl, ℕ, List, [], ◌∷◌}
use Rattle.std.specs.Prelude.{◌⊎◌, Option, Some, None, IfSome, Result, Ok, Err}
use Rattle.pdb_values.specs.declared.user.Marks.{Marks}
use Rattle.pdb_values.specs.declared.user.UserInfo.{UserInfo}
use Rattle.dlp_replies.specs.ReplyReading.{reply_at}
use Rattle.dlp_commands.specs.declared.link.LinkFault.{LinkFault}
use Rattle.dlp_commands.specs.declared.link.LinkFault.TheVariants as link
use Rattle.dlp_commands.specs.Links.{WentDown, first_fault}
use Rattle.dlp_commands.specs.Talks.{Talk}
use Rattle.desktop_session.specs.declared.fault.SessionFault.{SessionFault}
use Rattle.desktop_session.specs.Acts.{Act, acted, text}
use Rattle.desktop_session.specs.Answers.{answer_by, mapped, no_more, said_in, user_of}
use Rattle.desktop_session.specs.Greetings.{AsksUser, AnswersGreeting, HasSlot, begun_by, user_by}
use Rattle.desktop_session.specs.Requests.{beginning, reading_user}
use Rattle.desktop_session.specs.Says.{said, saying}
use Rattle.desktop_session.specs.Stops.{Does}
use Rattle.desktop_session.specs.declared.seat.UserWish.{UserWish}
use Rattle.desktop_session.proofs.StopLaws.{stops_after_none, stops_between, stops_none}
use Rattle.std.proofs.Common.{rules}

-- an answer of what was said says that the link has no fault, and that this was said
pub no_fault_said : {A : Type 0} (fault : Option LinkFault) (said : Result A SessionFault) (x : A) → Ok x ≡ answer_by fault said → fault ≡ None
no_fault_said None said x is = refl
no_fault_said (Some fault) said x is = cc

said_of_answer : {A : Type 0} (fault : Option LinkFault) (said : Result A SessionFault) {x : A} → Ok x ≡ answer_by fault said → said ≡ Ok x
said_of_answer None said is = sym is
said_of_answer (Some fault) said is = cc

-- the device's second reply
abbrev second_of : Option Talk → List ℕ
second_of None = []
second_of (Some talk) = (acted beginning (acted reading_user talk.device).1).0

second_own : (o : Option Talk) → IfSome o (λ talk. second_of o ≡ (acted beginning (acted reading_user talk.device).1).0)
second_own None = tt
second_own (Some talk) = refl

first_failed : (fault : Option LinkFault) {e : SessionFault} (first : Result UserInfo SessionFault) (second : Result (Unit {0}) SessionFault)
    → Err e ≡ answer_by fault first → ◌≡◌ {A = Result UserInfo SessionFault} (Err e) (answer_by fault (begun_by first second))
first_failed fault first second is = search (rules)

pub greet_first : (marks : List Marks) (wish : UserWish) (talk : Option Talk) {fault : Option LinkFault} (reply : List ℕ) {e : SessionFault}
    → ◌≡◌ {A = Result UserInfo SessionFault} (Err e) (answer_by fault (user_by marks wish (said_in 0x10 user_of (reply_at 0x10 reply))))
    → (fault ≡ None → IfSome talk (λ talk. reply ≡ (acted reading_user talk.device).0)) → AnswersGreeting marks wish talk fault (Err e)
greet_first marks wish talk {fault} reply is told = record {
  first = reply;
  second = second_of talk;
  is = first_failed fault (user_by marks wish (said_in 0x10 user_of (reply_at 0x10 reply))) (said_in 0x2E no_more (reply_at 0x2E (second_of talk))) is;
  told = told;
  begun = λ none. second_own talk;
}

-- a reply to the second act, from the first state
pub told_after : (one two : Act) {mid : Option Talk} (old : Option Talk) (reply : List ℕ) → mid ≡ saying (one ∷ []) old
    → IfSome mid (λ talk. reply ≡ (acted two talk.device).0) → IfSome old (λ talk. reply ≡ (acted two (acted one talk.device).1).0)
unfolding saying
told_after one two old reply is told = search (rules)

second_by : (fault : Option LinkFault) (user : UserInfo) {r : Result (Unit {0}) SessionFault} (second : Result (Unit {0}) SessionFault)
    → r ≡ answer_by fault second → mapped (λ _. user) r ≡ answer_by fault (begun_by (Ok user) second)
second_by fault user second is = search (rules)

pub greet_second : (marks : List Marks) (wish : UserWish) (talk mid : Option Talk) {before fault : Option LinkFault} (first second : List ℕ) {user : UserInfo}
    {r : Result (Unit {0}) SessionFault}
    → Ok user ≡ answer_by before (user_by marks wish (said_in 0x10 user_of (reply_at 0x10 first)))
    → (before ≡ None → IfSome talk (λ talk. first ≡ (acted reading_user talk.device).0)) → (before ≡ None → mid ≡ saying (reading_user ∷ []) talk)
    → r ≡ answer_by fault (said_in 0x2E no_more (reply_at 0x2E second)) → (fault ≡ None → IfSome mid (λ talk. second ≡ (acted beginning talk.device).0))
    → AnswersGreeting marks wish talk fault (mapped (λ _. user) r)
greet_second marks wish talk mid {before} {fault} first second {user} known told said is begun =
    let none : before ≡ None = no_fault_said before (user_by marks wish (said_in 0x10 user_of (reply_at 0x10 first))) user known in
    let found = said_of_answer before (user_by marks wish (said_in 0x10 user_of (reply_at 0x10 first))) known in
    record {
      first = first;
      second = second;
      is = cc (second_by fault user (said_in 0x2E no_more (reply_at 0x2E second)) is);
      told = λ clear. told none;
      begun = λ clear. told_after reading_user beginning talk second (said none) (begun clear);
    }

-- ---- what is asked of a user without a slot

-- the user that was read has a slot
pub slot_read : (marks : List Marks) (wish : UserWish) (talk : Option Talk) {fault : Option LinkFault} (reply : List ℕ) {user : UserInfo}
    → Ok user ≡ answer_by fault (user_by marks wish (said_in 0x10 user_of (reply_at 0x10 reply)))
    → (fault ≡ None → IfSome talk (λ talk. reply ≡ (acted reading_user talk.device).0)) → HasSlot marks wish talk
slot_read marks wish talk reply is told = search (rules, said_of_answer, no_fault_said)

does_from : {L : Type 0} {talk : L → Option Talk} {acts : List Act} {a b c : L} → talk b ≡ talk a → Does talk acts b c → Does talk acts a c
does_from same does = search (rules)

some_first : (before : Option LinkFault) (now : LinkFault) → first_fault before (Some now) ≡ None → ⊥
some_first None now is = cc
some_first (Some fault) now is = cc

-- nothing was said yet
pub asks_none : {L : Type 0} {talk : L → Option Talk} {since : L → L → Type 0} {fault : L → Option LinkFault} {downs : L → ℕ} (marks : List Marks) (wish : UserWish)
    {old new : L} (now : LinkFault)
    → talk new ≡ talk old → since old new → fault new ≡ first_fault (fault old) (Some now)
    → WentDown (fault old) (downs old) (downs new) (fault new ≡ Some link.Down) → AsksUser talk since fault downs old new ⊎ HasSlot marks wish (talk old)
asks_none {talk} {since} {fault} {downs} marks wish {old} {new} now same later is fell = inl (record {
  stops = stops_none talk since fault downs (text reading_user ∷ []) old new same later fell;
  does = λ none. absurd (some_first (fault old) now (sym is ∙ none));
})

-- the same from a link over which nothing was said
pub asks_after : {L : Type 0} {talk : L → Option Talk} {since : L → L → Type 0} {fault : L → Option LinkFault} {downs : L → ℕ}
    (since_more : (x y z : L) → since x y → since y z → since x z) (marks : List Marks) (wish : UserWish) {old mid new x y : L}
    → talk mid ≡ talk old → since old mid → WentDown (fault old) (downs old) (downs mid) (fault mid ≡ Some link.Down) → x ≡ mid → y ≡ new
    → AsksUser talk since fault downs x y ⊎ HasSlot marks wish (talk x) → AsksUser talk since fault downs old new ⊎ HasSlot marks wish (talk old)
asks_after since_more marks wish same later fell first last asked = search (rules, stops_after_none, stops_between, does_from)
