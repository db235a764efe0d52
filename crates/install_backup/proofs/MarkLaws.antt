-- What an install says first: who the handheld's user is, and the mark.
use Rattle.std.proofs.Common.{◌≡◌, ◌∙◌, ◌≤◌, ◌<◌, ap, refl, sym, subst, inl, inr, ◌⊎◌, arith, lit<, ℕ, zero, suc, Bool, true, false, cond, List, [], ◌∷◌, ◌++◌, map, take, length}
use Rattle.std.proofs.lemmas.Bool.{and_parts, eqb-true}
use Rattle.std.proofs.lemmas.List.{map-append}
use Rattle.std.specs.Prelude.{◌==◌, ◌&&◌, Option, Some, None, IfOk, IfSome, Result, Ok, Err}
use Rattle.std.specs.List.{AllByRecursion}
use Rattle.pdb_values.specs.declared.user.Marks.{Marks}
use Rattle.desktop_session.specs.Seats.{no_wish, seat_for, unclaimed}
use Rattle.desktop_session.specs.declared.seat.UserWish.{UserWish}
use Rattle.pdb_values.specs.declared.user.UserInfo.{UserInfo}
use Rattle.dlp_replies.specs.ReplyReading.{reply_at}
use Rattle.palm_device.specs.Devices.{Device}
use Rattle.dlp_commands.specs.DeviceSteps.{DeviceStep, function_number, outcome, tried}
use Rattle.dlp_commands.specs.Reached.{Trial}
use Rattle.dlp_commands.specs.declared.link.LinkFault.{LinkFault}
use Rattle.mirrors.specs.Agreements.{agreed}
use Rattle.mirrors.specs.Asks.{Asks}
use Rattle.desktop_session.specs.Ends.{link_begun, user_begun}
use Rattle.desktop_session.specs.Greetings.{AnswersGreeting, begun_by, greeted, user_by}
use Rattle.desktop_session.specs.Orders.{IsMark}
use Rattle.desktop_session.specs.Requests.{marking}
use Rattle.desktop_session.proofs.ActLaws.{step_tried, tried_fixed}
use Rattle.desktop_session.proofs.ChangeRows.{mark_possible, marked_does}
use Rattle.desktop_session.proofs.GreetLaws.{no_fault_said}
use Rattle.desktop_session.proofs.RequestFits.{begin_fits, mark_fits, user_fits}
use Rattle.desktop_session.proofs.StopLaws.{does_then, stops_more, stops_then}
use Rattle.desktop_session.proofs.TellLaws.{act_sayable, acted_proper, acted_reads}
use Rattle.session_parts.specs.Fronts.{Front}
use Rattle.session_parts.specs.Meets.{greeting}
use Rattle.session_parts.specs.Rests.{IsAtRest}
use Rattle.session_parts.proofs.LinkWords.{Act, Does, Halted, IsTellable, SessionFault, SessionValue, Stops, Talk, acted, device_after, no_more, reading_user, said_in, text, told, user_of}
use Rattle.session_parts.proofs.MeetLaws.{seated_with}
use Rattle.install_backup.specs.declared.mark.Mark.{Mark}
use Rattle.install_backup.specs.declared.mark.Mark.TheVariants.{Unchanged, NoDesktop, NewLife}
use Rattle.install_backup.specs.InstallFronts.{IsAsItWas}
use Rattle.install_backup.specs.Marks.{is_marked, mark_bits, marked_greeting, marked_on, marked_user, marks_before, nobody}
use Rattle.install_backup.proofs.ArriveLaws.{Goes, goes_none, goes_one, goes_then}
use Rattle.install_backup.proofs.BackupOrder.{IsPlain, greeting_goes}
use Rattle.install_backup.proofs.OthersLaws.{Behind, Within}
use Rattle.desk_journal.proofs.StepLaws.{all-append}

-- ---- the user

user_told : (device : Device) → IsTellable device → said_in 0x10 user_of (reply_at 0x10 (acted reading_user device).0) ≡ Ok device.user
unfolding told tried
user_told device proper = ap (said_in 0x10 user_of) (acted_reads reading_user device proper (act_sayable reading_user.asks device user_fits refl))

user_by_first : (marks : List Marks) (wish : UserWish) (device : Device) (known : UserInfo) (first second : List ℕ) → IsTellable device
    → first ≡ (acted reading_user device).0 → Ok known ≡ greeted marks wish first second → known ≡ device.user
user_by_first marks wish device known first second proper same is =
    let read : said_in 0x10 user_of (reply_at 0x10 first) ≡ Ok device.user =
    ap (λ b. said_in 0x10 user_of (reply_at 0x10 b)) same ∙ user_told device proper in
    let begun : Result (Unit {0}) SessionFault = said_in 0x2E no_more (reply_at 0x2E second) in
    (seated_with marks device.user known (seat_for marks wish device.user) begun
    (is ∙ ap (λ r. begun_by (user_by marks wish r) begun) read)).1

-- a greeting that was answered tells the handheld's user
greeted_user : (marks : List Marks) (wish : UserWish) (fault : Option LinkFault) (talk : Option Talk) (known : UserInfo)
    → AnswersGreeting marks wish talk fault (Ok known)
    → (told : Talk) → talk ≡ Some told → IsAtRest told.device → known ≡ told.device.user
greeted_user marks wish fault talk known said told is rests =
    let none : fault ≡ None = no_fault_said fault (greeted marks wish said.first said.second) known said.is in
    let clear : AnswersGreeting marks wish talk None (Ok known) = rw none at said in
    let first : IfSome (Some told) (λ talk. clear.first ≡ (acted reading_user talk.device).0) = rw is at (clear.told refl) in
    user_by_first marks wish told.device known clear.first clear.second rests.proper first clear.is

pub user_answered : {L : Type 0} (talk : L → Option Talk) (fault : L → Option LinkFault) (old link : L) (answer : Result (SessionValue L) (Halted L))
    → link ≡ old → AnswersGreeting (unclaimed ∷ []) no_wish (talk link) (fault (link_begun answer)) (user_begun answer)
    → IfOk answer (λ linked. (told : Talk) → talk old ≡ Some told → IsAtRest told.device → linked.user ≡ told.device.user)
user_answered talk fault old link (Ok linked) same said = λ told is rests.
    greeted_user (unclaimed ∷ []) no_wish (fault linked.link) (talk link) linked.user said told (ap talk same ∙ is) rests
user_answered talk fault old link (Err halted) same said = tt

-- ---- the mark

nobody_is : IsMark nobody
nobody_is = record { last = lit< tt; short = omega arith; no_zero = refl }

bits_fit : (mark : Mark) → mark_bits mark < 256
bits_fit Unchanged = lit< tt
bits_fit NoDesktop = lit< tt
bits_fit NewLife = lit< tt

mark_plain : (mark : Mark) → IsPlain (marking nobody (mark_bits mark))
mark_plain mark = (mark_fits nobody (mark_bits mark) (lit< tt) (lit< tt) (lit< tt) (bits_fit mark) (omega arith) refl, refl)

-- what is said makes it the mark's
mark_does : (mark : Mark) (device : Device) → (acted (marking nobody (mark_bits mark)) device).1 ≡ marked_on mark device
mark_does Unchanged device = marked_does device nobody 0 nobody_is
mark_does NoDesktop device = marked_does device nobody 0x40 nobody_is
mark_does NewLife device = marked_does device nobody 0xE0 nobody_is

-- where it isn't said, it is so already
no_desktop_same : (user : UserInfo) → 0 ≡ user.pc → marked_user NoDesktop user ≡ user
no_desktop_same user is = λ k. record user { pc = is k }

new_life_same : (user : UserInfo) → 0 ≡ user.user → 0 ≡ user.pc → 0 ≡ user.good → 0 ≡ user.last → marked_user NewLife user ≡ user
new_life_same user number pc good last = λ k. record user { user = number k; pc = pc k; good = good k; last = last k }

marked_same : (mark : Mark) (user : UserInfo) → is_marked mark user ≡ true → marked_user mark user ≡ user
marked_same Unchanged user is = refl
marked_same NoDesktop user is = no_desktop_same user (sym (eqb-true user.pc 0 is))
marked_same NewLife user is =
    let one = and_parts (user.user == 0) ((user.pc == 0) && ((user.good == 0) && (user.last == 0))) is in
    let two = and_parts (user.pc == 0) ((user.good == 0) && (user.last == 0)) one.1 in
    let three = and_parts (user.good == 0) (user.last == 0) two.1 in
    new_life_same user (sym (eqb-true user.user 0 one.0)) (sym (eqb-true user.pc 0 two.0)) (sym (eqb-true user.good 0 three.0))
    (sym (eqb-true user.last 0 three.1))

marks_go : (mark : Mark) (device : Device) → Goes (marks_before mark device.user) device (marked_on mark device)
unfolding marks_before
marks_go mark device = by (is_marked mark device.user) refl
  where
    by : (b : Bool) → is_marked mark device.user ≡ b → Goes (cond b [] (marking nobody (mark_bits mark) ∷ [])) device (marked_on mark device)
    by true is = record { order = tt; after = λ k. record device { user = sym (marked_same mark device.user is) k } }
    by false is = goes_one (mark_possible device nobody (mark_bits mark) nobody_is) (mark_does mark device)

pub marks_none : (mark : Mark) (user : UserInfo) → is_marked mark user ≡ true → marks_before mark user ≡ []
unfolding marks_before
marks_none mark user is = ap (λ b. cond b [] (marking nobody (mark_bits mark) ∷ [])) is

pub marks_said : (mark : Mark) (user : UserInfo) → is_marked mark user ≡ false → marks_before mark user ≡ marking nobody (mark_bits mark) ∷ []
unfolding marks_before
marks_said mark user is = ap (λ b. cond b [] (marking nobody (mark_bits mark) ∷ [])) is

pub marked_goes : (mark : Mark) (device : Device) → Goes (marked_greeting mark device.user) device (marked_on mark device)
unfolding marked_greeting
marked_goes mark device = goes_then greeting (marks_before mark device.user) (greeting_goes device) (marks_go mark device)

pub marked_after : (mark : Mark) (device : Device) → device_after (marked_greeting mark device.user) device ≡ marked_on mark device
marked_after mark device = (marked_goes mark device).after

marks_plain : (mark : Mark) (user : UserInfo) → AllByRecursion IsPlain (marks_before mark user)
unfolding marks_before
marks_plain mark user = by (is_marked mark user)
  where
    by : (b : Bool) → AllByRecursion IsPlain (cond b [] (marking nobody (mark_bits mark) ∷ []))
    by true = tt
    by false = (mark_plain mark, tt)

pub marked_plain : (mark : Mark) (user : UserInfo) → AllByRecursion IsPlain (marked_greeting mark user)
unfolding marked_greeting
marked_plain mark user =
    all-append IsPlain greeting (marks_before mark user) ((user_fits, refl), ((begin_fits, refl), tt)) (marks_plain mark user)

-- nothing is open on it then
pub marked_rests : (mark : Mark) (device : Device) → IsAtRest device → IsAtRest (marked_on mark device)
marked_rests mark device rests = record {
  proper = subst IsTellable (mark_does mark device)
      (acted_proper (marking nobody (mark_bits mark)) device rests.proper
      (act_sayable (marking nobody (mark_bits mark)).asks device (mark_plain mark).0 (mark_plain mark).1));
  closed = rests.closed;
}

-- ---- what is said of it, over any link

module _ {L : Type 0} {talk : L → Option Talk} {since : L → L → Type 0} {fault : L → Option LinkFault} {downs : L → ℕ} (mark : Mark) {old : L} where
  pub unmarked_stops : {new : L} (user : UserInfo) → Stops talk since fault downs (map text greeting) old new
      → Stops talk since fault downs (map text (marked_greeting mark user)) old new
  unfolding marked_greeting
  unmarked_stops {new} user stops =
      rw (map-append text greeting (marks_before mark user))
      (stops_more talk since fault downs (map text greeting) (map text (marks_before mark user)) old new stops)

  module _ (since_more : (a b c : L) → since a b → since b c → since a c) {mid new : SessionValue L}
      (stops : Stops talk since fault downs (map text greeting) old mid.link) (does : Does talk greeting old mid.link) where
    pub marked_stops : (user : UserInfo) {answer : Result (Unit {0}) SessionFault} → mid.user ≡ user
        → Asks talk since fault downs (marks_before mark mid.user) mid new answer
        → Stops talk since fault downs (map text (marked_greeting mark user)) old new.link
    unfolding marked_greeting
    marked_stops user same asks =
        let said : Stops talk since fault downs (map text (greeting ++ marks_before mark mid.user)) old new.link =
        rw (map-append text greeting (marks_before mark mid.user))
        (stops_then talk since fault downs since_more greeting (map text (marks_before mark mid.user)) old mid.link new.link does stops asks.stops) in
        subst (λ (u : UserInfo). Stops talk since fault downs (map text (greeting ++ marks_before mark u)) old new.link) same said

    pub marked_said : (user : UserInfo) → mid.user ≡ user
        → Asks {A = Unit {0}} talk since fault downs (marks_before mark mid.user) mid new (Ok tt) → Does talk (marked_greeting mark user) old new.link
    unfolding marked_greeting
    marked_said user same asks =
        subst (λ (u : UserInfo). Does talk (greeting ++ marks_before mark u) old new.link) same
        (does_then talk greeting (marks_before mark mid.user) old mid.link new.link does asks.does)

-- ---- where it stops

-- so many of the first acts leave it as it was, or with the mark
marks_part : (k : ℕ) (mark : Mark) (device : Device)
    → (device_after (take k (marks_before mark device.user)) device ≡ device) ⊎ (device_after (take k (marks_before mark device.user)) device ≡ marked_on mark device)
unfolding marks_before
marks_part k mark device = by k (is_marked mark device.user)
  where
    by : (k : ℕ) (b : Bool) → (device_after (take k (cond b [] (marking nobody (mark_bits mark) ∷ []))) device ≡ device)
        ⊎ (device_after (take k (cond b [] (marking nobody (mark_bits mark) ∷ []))) device ≡ marked_on mark device)
    by zero b = inl refl
    by (suc k) true = inl refl
    by (suc zero) false = inr (mark_does mark device)
    by (suc (suc k)) false = inr (mark_does mark device)

marked_part : (k : ℕ) (mark : Mark) (device : Device)
    → (device_after (take k (marked_greeting mark device.user)) device ≡ device)
    ⊎ (device_after (take k (marked_greeting mark device.user)) device ≡ marked_on mark device)
unfolding marked_greeting acted tried
marked_part zero mark device = inl refl
marked_part (suc zero) mark device = inl refl
marked_part (suc (suc k)) mark device = marks_part k mark device

one_acted : (one : Act) (old new : Device) (reply : List ℕ) → IsPlain one → DeviceStep old (text one) reply new → (acted one old).1 ≡ new
unfolding text acted
one_acted one old new reply plain step =
    ap (λ (r : Trial). (outcome old (function_number one.asks) r).1) (tried_fixed one.given step.free old one.asks plain.1)
    ∙ ap (λ (p : List ℕ × Device). p.1) (step_tried old new one.asks reply plain.0 step)

-- some requests, where it is not of interest whose databases they name
abbrev pub Ran_in : ℕ → List Act → Device → Device → Type 0
Ran_in count acts old new = Within (λ name. false) count acts old new

abbrev pub Ran_on : List Act → Device → Device → Type 0
Ran_on acts old new = Behind (λ name. false) acts old new

-- a run by a beginning of acts was done by so many of the first of them, or goes on behind these
cut : (count : ℕ) (xs ys : List Act) (old new : Device) → AllByRecursion IsPlain xs → Ran_in count (xs ++ ys) old new
    → ((k : ℕ) × (new ≡ device_after (take k xs) old)) ⊎ Ran_on ys (device_after xs old) new
cut count [] ys old new plain ran = inr (count, ran)
cut zero (one ∷ xs) ys old new plain ran = inl (0, ran.1)
cut (suc count) (one ∷ xs) ys old new plain ([], ran) = inl (0, ran)
cut (suc count) (one ∷ xs) ys old new plain (reply ∷ replies, ran) =
    by (one_acted one old ran.0 reply plain.0 ran.1) (cut count xs ys ran.0 new plain.1 (replies, ran.2))
  where
    by : (acted one old).1 ≡ ran.0 → ((k : ℕ) × (new ≡ device_after (take k xs) ran.0)) ⊎ Ran_on ys (device_after xs ran.0) new
        → ((k : ℕ) × (new ≡ device_after (take k (one ∷ xs)) old)) ⊎ Ran_on ys (device_after (one ∷ xs) old) new
    by step (inl part) = inl (suc part.0, part.1 ∙ ap (device_after (take part.0 xs)) (sym step))
    by step (inr behind) = inr (subst (λ (d : Device). Ran_on ys (device_after xs d) new) (sym step) behind)

marked_cut : (mark : Mark) (device reached : Device) (count : ℕ) (rest : List Act) → Ran_in count (marked_greeting mark device.user ++ rest) device reached
    → (reached ≡ device) ⊎ Ran_on rest (marked_on mark device) reached
marked_cut mark device reached count rest ran =
    by (cut count (marked_greeting mark device.user) rest device reached (marked_plain mark device.user) ran)
  where
    at : (k : ℕ) → reached ≡ device_after (take k (marked_greeting mark device.user)) device
        → (device_after (take k (marked_greeting mark device.user)) device ≡ device)
        ⊎ (device_after (take k (marked_greeting mark device.user)) device ≡ marked_on mark device)
        → (reached ≡ device) ⊎ Ran_on rest (marked_on mark device) reached
    at k is (inl same) = inl (is ∙ same)
    at k is (inr marked) = inr (0, ([], is ∙ marked))

    by : ((k : ℕ) × (reached ≡ device_after (take k (marked_greeting mark device.user)) device))
        ⊎ Ran_on rest (device_after (marked_greeting mark device.user) device) reached
        → (reached ≡ device) ⊎ Ran_on rest (marked_on mark device) reached
    by (inl part) = at part.0 part.1 (marked_part part.0 mark device)
    by (inr behind) = inr (subst (λ (d : Device). Ran_on rest d reached) (marked_after mark device) behind)

-- a session went on behind the mark
pub record GoesOn (mark : Mark) (device : Device) (rest : List Act) (after : Device) : Type 0 where
  pub reached : Device
  pub ran : Ran_on rest (marked_on mark device) reached
  pub databases : after.databases ≡ reached.databases
  pub user : after.user ≡ reached.user

pub front_cut : (mark : Mark) (device after : Device) (rest : List Act) (writes : ℕ) (given : List ℕ)
    → Front device (map text (marked_greeting mark device.user ++ rest)) writes given after → IsAsItWas device after ⊎ GoesOn mark device rest after
front_cut mark device after rest writes given front =
    by (marked_cut mark device front.reached front.count rest (front.replies, front.run.ran))
  where
    by : (front.reached ≡ device) ⊎ Ran_on rest (marked_on mark device) front.reached → IsAsItWas device after ⊎ GoesOn mark device rest after
    by (inl same) = inl (record {
      user = front.user ∙ ap (λ (d : Device). d.user) same;
      databases = front.databases ∙ ap (λ (d : Device). d.databases) same;
    })
    by (inr behind) = inr (record { reached = front.reached; ran = behind; databases = front.databases; user = front.user })

-- ---- the next session

no_desktop : (mark : Mark) (user : UserInfo) → ¬ (mark ≡ Unchanged) → (marked_user mark user).pc ≡ 0
no_desktop Unchanged user says = absurd (says refl)
no_desktop NoDesktop user says = refl
no_desktop NewLife user says = refl

apart : (n : ℕ) → 0 < n → (0 == n) ≡ false
apart n some = by (0 == n) refl
  where
    by : (b : Bool) → (0 == n) ≡ b → b ≡ false
    by true is = absurd (let same = eqb-true 0 n is in omega (arith, same, some))
    by false is = refl

-- no desktop agrees then
pub marked_apart : (mark : Mark) (user : UserInfo) (desktop : Marks) → ¬ (mark ≡ Unchanged) → 0 < desktop.pc → agreed (marked_user mark user) desktop ≡ false
marked_apart mark user desktop says some =
    ap (λ (b : Bool). b && ((marked_user mark user).good == desktop.last)) (ap (λ n. n == desktop.pc) (no_desktop mark user says) ∙ apart desktop.pc some)
