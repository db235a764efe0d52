-- What both sides say and learn when they meet is that of their meeting.
use Rattle.std.proofs.Common.{◌≡◌, ◌∙◌, ◌<◌, ◌≤◌, ◌+◌, ◌-◌, refl, sym, ap, subst, ℕ, zero, suc, Bool, true, false, List, [], ◌∷◌, ◌++◌}
use Rattle.std.proofs.Common.{map, length, append_assoc, arith, ltb-true}
use Rattle.std.proofs.lemmas.List.{append-nil}
use Rattle.std.proofs.lemmas.Simd.{map-map}
use Rattle.std.specs.Prelude.{◌⊎◌, Option, Some, None, IfSome, Result, Ok, find, is_some, max, if◌then◌else◌}
use Rattle.std.specs.Option.{option_map}
use Rattle.std.specs.Str.{bytes_eq}
use Rattle.sync_session.proofs.MeetingWords.{DatabaseValue, DbHead, ShelvesValue, agrees, job_for, listed_head, IsAtRest, greeting, listing_all, head_of}
use Rattle.sync_session.proofs.MeetingWords.{Meeting, names, names_of, slot_of, task_of, tasks, with_names}
use Rattle.pdb_values.specs.NamedDatabases.{database_of}
use Rattle.desktop_session.specs.Seats.{seat_for}
use Rattle.desktop_session.specs.declared.seat.UserWish.{UserWish}
use Rattle.pdb_values.specs.declared.user.Marks.{Marks}
use Rattle.pdb_values.specs.declared.user.UserInfo.{UserInfo}
use Rattle.dlp_replies.specs.ReplyReading.{reply_at}
use Rattle.palm_device.specs.Devices.{Device}
use Rattle.session_parts.proofs.LinkWords.{LinkFault, Talk, Halted, SessionFault, acted, no_more, said_in, user_of, listing, reading_user, said, saying}
use Rattle.session_parts.proofs.LinkWords.{IsTellable, device_after, told}
use Rattle.dlp_commands.specs.DatabaseFunctions.{listed}
use Rattle.dlp_commands.specs.DeviceSteps.{tried}
use Rattle.desktop_session.specs.Greetings.{AnswersGreeting, begun_by, user_by}
use Rattle.desktop_session.specs.Lists.{has_more, heads_listed, list_reply, listings}
use Rattle.desktop_session.proofs.RequestFits.{user_fits}
use Rattle.desktop_session.proofs.TellLaws.{act_sayable, acted_reads}
use Rattle.desktop_session.proofs.WholeListLaws.{count_is, heads_are, more_is}
use Rattle.session_parts.specs.declared.meeting.Met.{Met}
use Rattle.session_plan.specs.declared.wishes.Wishes.{Wishes}
use Rattle.session_plan.specs.Jobs.{head_named, job_by, job_of, jobs_of, names_with}
use Rattle.session_parts.specs.Meets.{Meets, meeting_acts}
use Rattle.sync_session.proofs.ReadJoins.{jobs_for}
use Rattle.session_parts.proofs.RestLaws.{greeting_same}
use Rattle.session_parts.proofs.MeetLaws.{seated_with}
use Rattle.session_parts.proofs.StretchLaws.{Leads, Tells, tells_on}
use Rattle.desktop_session.proofs.ListLaws.{after_append, listings_same}

-- ---- lists

-- fewer requests lead to more
listings-more : (count more : ℕ) → Leads (listings count) (listings (count + more))
unfolding listings
listings-more count zero = record { rest = []; is = append-nil (listings count) ∙ ap listings (let same : count ≡ count + zero = omega arith in same) }
listings-more count (suc more) =
    let before = listings-more count more in
    record {
      rest = before.rest ++ listing (count + more) ∷ [];
      is = sym (append_assoc (listings count) before.rest (listing (count + more) ∷ [])) ∙ ap (λ zs. zs ++ listing (count + more) ∷ []) before.is
          ∙ ap listings (let same : suc (count + more) ≡ count + suc more = omega arith in same);
    }

listings_lead : (count all : ℕ) → count ≤ all → Leads (listings count) (listings all)
listings_lead count all few =
    subst (λ n. Leads (listings count) (listings n)) (let same : count + (all - count) ≡ all = omega arith in same) (listings-more count (all - count))

-- no more requests than databases, or one
few_lists : (device : Device) (count : ℕ) → IsTellable device → count ≤ 65536
    → ((k : ℕ) → k + 1 < count → has_more (list_reply device k) ≡ true) → count ≤ max 1 (length device.databases)
few_lists device zero proper few more = omega arith
few_lists device (suc zero) proper few more = omega arith
few_lists device (suc (suc k)) proper few more =
    let before : k + 1 < length device.databases = ltb-true _ _ (sym (more_is device k proper (omega arith)) ∙ more k (omega arith)) in
    omega arith

-- the same of what is told behind the greeting
told_behind : (P : Device → Type 0) (device : Device) (told : Option Talk) → Tells device told → IfSome (saying greeting told) (λ talk. P talk.device)
    → P device
told_behind P device told tells holds =
    let after = tells_on device device greeting told tells (greeting_same device) in
    rw (after.is, after.same) at holds

-- ---- heads and jobs

abbrev listed_of : DatabaseValue → DbHead
listed_of database = listed database.head

find-by : {A B : Type 0} (b : Bool) (f : A → B) (x : A) (rest : Option A)
    → (if b then Some (f x) else option_map f rest) ≡ option_map f (if b then Some x else rest)
find-by true f x rest = refl
find-by false f x rest = refl

find-map : {A B : Type 0} (test : B → Bool) (f : A → B) (xs : List A) → find test (map f xs) ≡ option_map f (find (λ x. test (f x)) xs)
find-map test f [] = refl
find-map test f (x ∷ xs) = rw (find-map test f xs) (find-by (test (f x)) f x (find (λ x. test (f x)) xs))

listed-named : (name : List ℕ) (databases : List DatabaseValue)
    → head_named name (map listed_of databases) ≡ listed_head (database_of name databases)
listed-named name databases = find-map (λ (head : DbHead). bytes_eq head.name name) listed_of databases

-- the jobs that are made of the listed heads are those of the meeting
pub jobs_meet : (meeting : Meeting) (heads : List DbHead) (shelves : ShelvesValue) (agree : List ℕ → Bool) (wishes : Wishes)
    → heads ≡ map (λ (database : DatabaseValue). listed database.head) meeting.device.databases → shelves ≡ (slot_of meeting).shelves
    → agree ≡ agrees meeting → wishes ≡ meeting.wishes → jobs_of heads shelves agree wishes ≡ jobs_for meeting
unfolding jobs_of tasks
jobs_meet meeting heads shelves agree wishes heads_are shelves_are same asked =
    let own : ShelvesValue = (slot_of meeting).shelves in
    let listed_heads : List DbHead = map listed_of meeting.device.databases in
    let names_are : names_with listed_heads own ≡ names meeting
    = ap (λ ns. with_names (names_of own.rows) (with_names ns [])) (map-map (λ (head : DbHead). head.name) listed_of meeting.device.databases) in
    let each : map (job_of listed_heads own (agrees meeting) meeting.wishes) (names meeting)
    ≡ map (λ name. job_for meeting (task_of meeting name)) (names meeting)
    = λ k. map (λ name. let task = task_of meeting name in
    job_by name (listed-named name meeting.device.databases k) (head_of task.rows) (is_some task.base) task.action (agrees meeting name) meeting.wishes.slow)
    (names meeting) in
    rw (heads_are, shelves_are, same, asked) (ap (map (job_of listed_heads own (agrees meeting) meeting.wishes)) names_are ∙ each
    ∙ sym (map-map (job_for meeting) (task_of meeting) (names meeting)))

-- ---- the user

pub user_told : (device : Device) → IsTellable device → said_in 0x10 user_of (reply_at 0x10 (acted reading_user device).0) ≡ Ok device.user
unfolding told tried
user_told device proper = ap (said_in 0x10 user_of) (acted_reads reading_user device proper (act_sayable reading_user.asks device user_fits refl))

-- and so its first reply
pub user_read : (marks : List Marks) (wish : UserWish) (device : Device) (told : Option Talk) (answer : Result UserInfo SessionFault) → IsTellable device
    → Tells device told → (said : AnswersGreeting marks wish told None answer) → said_in 0x10 user_of (reply_at 0x10 said.first) ≡ Ok device.user
user_read marks wish device told answer proper tells said =
    let here : IfSome (Some tells.talk) (λ talk. said.first ≡ (acted reading_user talk.device).0) = rw tells.is at (said.told refl) in
    ap (λ b. said_in 0x10 user_of (reply_at 0x10 b)) (here ∙ ap (λ d. (acted reading_user d).0) tells.same) ∙ user_told device proper

-- a greeting that was answered tells the handheld's user
pub greeted_user : (marks : List Marks) (wish : UserWish) (device : Device) (told : Option Talk) (known : UserInfo) → IsTellable device → Tells device told
    → AnswersGreeting marks wish told None (Ok known) → known ≡ device.user
greeted_user marks wish device told known proper tells said =
    let second : Result (Unit {0}) SessionFault = said_in 0x2E no_more (reply_at 0x2E said.second) in
    (seated_with marks device.user known (seat_for marks wish device.user) second
    (said.is ∙ ap (λ r. begun_by (user_by marks wish r) second) (user_read marks wish device told (Ok known) proper tells said))).1

-- ---- both sides met

-- what was said and learnt
pub record MeetsJoin (meeting : Meeting) (told : Option Talk) (count : ℕ) (known : UserInfo) (listed_heads : List DbHead) : Type 0 where
  pub acts : meeting_acts count ≡ greeting ++ listing_all meeting
  pub tells : Tells meeting.device (saying (greeting ++ listing_all meeting) told)
  pub user : known ≡ meeting.device.user
  pub heads : listed_heads ≡ map (λ (database : DatabaseValue). listed database.head) meeting.device.databases

pub meeting_leaves : (meeting : Meeting) → device_after (greeting ++ listing_all meeting) meeting.device ≡ meeting.device
unfolding listing_all
meeting_leaves meeting =
    let all : ℕ = max 1 (length meeting.device.databases) in
    after_append greeting (listings all) meeting.device ∙ ap (device_after (listings all)) (greeting_same meeting.device) ∙ listings_same all meeting.device

module _ {L : Type 0} {talk : L → Option Talk} {since : L → L → Type 0} {fault : L → Option LinkFault} {downs : L → ℕ} {marks : List Marks} {wish : UserWish}
    {old : L} (meeting : Meeting) (rests : IsAtRest meeting.device) (tells : Tells meeting.device (talk old)) where
  pub meets_join : {met : Met L} → (meets : Meets talk since fault downs marks wish old (Ok met))
      → MeetsJoin meeting (talk old) meets.count met.linked.user met.heads.items
  unfolding listing_all
  meets_join {met} meets =
      let device = meeting.device in
      let proper = rests.proper in
      let more = told_behind (λ d. (k : ℕ) → k + 1 < meets.count → has_more (list_reply d k) ≡ true) device (talk old) tells meets.more in
      let last = told_behind (λ d. (meets.count ≡ 65536) ⊎ (has_more (list_reply d (meets.count - 1)) ≡ false)) device (talk old) tells meets.last in
      let heads = told_behind (λ d. met.heads.items ≡ heads_listed d meets.count) device (talk old) tells meets.heads in
      let all : meets.count ≡ max 1 (length device.databases) = count_is device meets.count proper meets.some meets.few more last in
      record {
        acts = ap meeting_acts all;
        tells = tells_on device device (greeting ++ listings (max 1 (length device.databases))) (talk old) tells (meeting_leaves meeting);
        user = greeted_user marks wish device (talk old) met.linked.user proper tells meets.user;
        heads = heads ∙ heads_are device meets.count proper (omega arith) meets.few;
      }

  -- it was asked for no more than the meeting asks
  pub meets_lead : {answer : Result (Met L) (Halted L)} → (meets : Meets talk since fault downs marks wish old answer)
      → Leads (meeting_acts meets.count) (greeting ++ listing_all meeting)
  unfolding listing_all
  meets_lead meets =
      let device = meeting.device in
      let more = told_behind (λ d. (k : ℕ) → k + 1 < meets.count → has_more (list_reply d k) ≡ true) device (talk old) tells meets.more in
      let all : ℕ = max 1 (length device.databases) in
      let lead = listings_lead meets.count all (few_lists device meets.count rests.proper meets.few more) in
      record { rest = lead.rest; is = append_assoc greeting (listings meets.count) lead.rest ∙ ap (λ zs. greeting ++ zs) lead.is }
