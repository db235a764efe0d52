-- An exchange that was answered, and one that was not, as a call of a session.
use Rattle.std.proofs.Common.{◌≡◌, ◌<◌, ℕ, List, [], ◌∷◌}
use Rattle.std.specs.Prelude.{◌⊎◌, Option, Some, None, IfSome, Result, Ok, Err, IsErrOf}
use Rattle.std.specs.Result.{result_err}
use Rattle.dlp_requests.specs.RequestTexts.{IsRequest, request_text}
use Rattle.dlp_requests.specs.RequestValues.{RequestValue}
use Rattle.dlp_commands.specs.declared.link.LinkFault.{LinkFault}
use Rattle.dlp_commands.specs.declared.link.LinkFault.TheVariants as link
use Rattle.dlp_commands.specs.Links.{WentDown, first_fault}
use Rattle.dlp_commands.specs.Talks.{Talk, HasAnswer, LacksAnswer}
use Rattle.desktop_session.specs.Acts.{Act, AsksNoId, act, acted, text}
use Rattle.desktop_session.specs.Says.{answered}
use Rattle.desktop_session.specs.Sessions.{SessionValue}
use Rattle.desktop_session.specs.Stops.{AsksOne, Does, Stops}
use Rattle.desktop_session.proofs.ActLaws.{saying_answered, step_act}
use Rattle.desktop_session.proofs.SaysLaws.{answered_more, answered_same, begins_answered, begins_unanswered, sent_answered, tells_answered, tells_unanswered}
use Rattle.std.proofs.Common.{rules}

-- ---- the link's fault

-- down at the end: down before, or it went down now
down_by : {T : Type 0} (before : Option LinkFault) {was is : ℕ} (r : Result T LinkFault) → first_fault before (result_err r) ≡ Some link.Down
    → WentDown before was is (IsErrOf r link.Down) → (before ≡ Some link.Down) ⊎ (was < is)
down_by before r down went = search (rules)

pub fell_now : {T : Type 0} {before after : Option LinkFault} {was is : ℕ} (r : Result T LinkFault) → after ≡ first_fault before (result_err r)
    → WentDown before was is (IsErrOf r link.Down) → WentDown before was is (after ≡ Some link.Down)
fell_now r same went = search (rules, down_by)

-- ---- where an exchange stopped

pub stops_done : {L : Type 0} (talk : L → Option Talk) (since : L → L → Type 0) (fault : L → Option LinkFault) (downs : L → ℕ)
    (request answer : List ℕ) (old new : L) → HasAnswer (talk old) request answer (talk new) → fault new ≡ first_fault (fault old) None
    → WentDown (fault old) (downs old) (downs new) (IsErrOf {T = Unit {0}} (Ok tt) link.Down) → since old new
    → Stops talk since fault downs (request ∷ []) old new
stops_done talk since fault downs request answer old new is same went later = search (rules, begins_answered, answered_more, tells_answered, fell_now)

pub stops_failed : {L : Type 0} (talk : L → Option Talk) (since : L → L → Type 0) (fault : L → Option LinkFault) (downs : L → ℕ)
    (request : List ℕ) (old new : L) (now : LinkFault) → LacksAnswer (talk old) request (talk new) → fault new ≡ first_fault (fault old) (Some now)
    → WentDown (fault old) (downs old) (downs new) (IsErrOf {T = Unit {0}} (Err now) link.Down) → since old new
    → Stops talk since fault downs (request ∷ []) old new
stops_failed talk since fault downs request old new now is same went later = search (rules, begins_unanswered, answered_same, tells_unanswered, fell_now)

-- ---- what an exchange did

does_answered : {L : Type 0} {talk : L → Option Talk} (value : RequestValue) (answer : List ℕ) {old new : L} → IsRequest value → AsksNoId value
    → HasAnswer (talk old) (text (act value)) answer (talk new) → Does talk (act value ∷ []) old new
unfolding text
does_answered value answer fits fixed is = search (rules, saying_answered, sent_answered)

-- the reply to the one act that was answered
reply_of : (old new : Option Talk) (value : RequestValue) (answer : List ℕ) → IsRequest value → AsksNoId value
    → HasAnswer old (text (act value)) answer new → IfSome old (λ talk. answer ≡ (acted (act value) talk.device).0)
unfolding text
reply_of None new value answer fits fixed is = tt
reply_of (Some old) new value answer fits fixed is =
    cc (step_act value fits fixed is.step)

pub asked_done : {L : Type 0} {talk : L → Option Talk} {since : L → L → Type 0} {fault : L → Option LinkFault} {downs : L → ℕ} (value : RequestValue)
    {old new : SessionValue L}
    → IsRequest value → AsksNoId value → HasAnswer (talk old.link) (text (act value)) new.reply (talk new.link)
    → Stops talk since fault downs (text (act value) ∷ []) old.link new.link → new.user ≡ old.user → new.abandoned ≡ old.abandoned
    → AsksOne talk since fault downs (act value) old new
asked_done value fits fixed is stops user abandoned = search (rules, does_answered, reply_of)

pub asked_failed : {L : Type 0} {talk : L → Option Talk} {since : L → L → Type 0} {fault : L → Option LinkFault} {downs : L → ℕ} {one : Act}
    {old new : SessionValue L} {now : LinkFault}
    → IsRequest one.asks → (fault new.link ≡ Some now) → Stops talk since fault downs (text one ∷ []) old.link new.link → new.user ≡ old.user
    → new.abandoned ≡ old.abandoned → AsksOne talk since fault downs one old new
asked_failed fits is stops user abandoned = search (rules)

-- ---- the first fault

pub no_fault : (P : LinkFault → Type 0) {after : Option LinkFault} (before : Option LinkFault) → after ≡ first_fault before None
    → IfSome before (λ fault. (◌≡◌ {A = Result (Unit {0}) LinkFault} (Ok tt) (Err fault)) × P fault) → after ≡ None
no_fault P before same stays = search (rules)

pub some_fault : (P : LinkFault → Type 0) {after : Option LinkFault} (before : Option LinkFault) (now : LinkFault) → after ≡ first_fault before (Some now)
    → IfSome before (λ fault. (◌≡◌ {A = Result (Unit {0}) LinkFault} (Err now) (Err fault)) × P fault) → after ≡ Some now
some_fault P before now same stays = search (rules)

-- ---- the same of a request that was written, from the link as the session holds it

text_is : {request : List ℕ} (value : RequestValue) → request ≡ request_text value → request ≡ text (act value)
unfolding text
text_is value is = is

pub stops_ok : {L : Type 0} {talk : L → Option Talk} {since : L → L → Type 0} {fault : L → Option LinkFault} {downs : L → ℕ} (value : RequestValue)
    {request : List ℕ} (answer : List ℕ) {was old new : L}
    → was ≡ old → request ≡ request_text value → HasAnswer (talk was) request answer (talk new) → fault new ≡ first_fault (fault was) None
    → WentDown (fault was) (downs was) (downs new) (IsErrOf {T = Unit {0}} (Ok tt) link.Down) → since was new
    → Stops talk since fault downs (text (act value) ∷ []) old new
stops_ok {talk} {since} {fault} {downs} value {request} answer {was} {new} same is answered first went later =
    rw (← same) (rw (← text_is value is) (stops_done talk since fault downs request answer was new answered first went later))

pub stops_err : {L : Type 0} {talk : L → Option Talk} {since : L → L → Type 0} {fault : L → Option LinkFault} {downs : L → ℕ} (value : RequestValue)
    {request : List ℕ} {was old new : L} (now : LinkFault)
    → was ≡ old → request ≡ request_text value → LacksAnswer (talk was) request (talk new) → fault new ≡ first_fault (fault was) (Some now)
    → WentDown (fault was) (downs was) (downs new) (IsErrOf {T = Unit {0}} (Err now) link.Down) → since was new
    → Stops talk since fault downs (text (act value) ∷ []) old new
stops_err {talk} {since} {fault} {downs} value {request} {was} {new} now same is unanswered first went later =
    rw (← same) (rw (← text_is value is) (stops_failed talk since fault downs request was new now unanswered first went later))

pub answered_ok : {L : Type 0} (talk : L → Option Talk) (value : RequestValue) {request : List ℕ} (answer : List ℕ) {was old : L} (new : L) → was ≡ old
    → request ≡ request_text value → HasAnswer (talk was) request answer (talk new) → HasAnswer (talk old) (text (act value)) answer (talk new)
answered_ok talk value answer new same is was_answered = search (rules, text_is)
