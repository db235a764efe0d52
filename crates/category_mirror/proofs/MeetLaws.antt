-- How both sides meet whose handheld is told, and why they do not.
use Rattle.std.proofs.lemmas.List.{append-nil}
use Rattle.std.proofs.lemmas.List.Quantifiers.{position-Some}
use Rattle.std.proofs.Common.{arith, ltb-true, inl, inr, ◌⊎◌, ◌≡◌, ◌∙◌, ◌<◌, ◌≤◌, ◌+◌, ◌-◌, ap, append_assoc, refl, sym, subst, ℕ, zero, suc, Bool, true, false, List, [], ◌∷◌, ◌++◌, length}
use Rattle.std.specs.Prelude.{Option, Some, None, IfSome, IsOk, Result, Ok, Err, max, position, slice_index, ◌==◌, ◌&&◌, if◌then◌else◌}
use Rattle.pdb_values.specs.Slots.{slot_at}
use Rattle.std.specs.Option.{option_or}
use Rattle.desktop_session.specs.Seats.{has_name, is_empty, is_other_user, no_wish, numbers_of, place_known, place_numbered, seat_for, unclaimed}
use Rattle.pdb_values.specs.declared.user.Marks.{Marks}
use Rattle.pdb_values.specs.declared.slot.Slot.{Slot}
use Rattle.pdb_values.specs.declared.slot.Slot.TheVariants as slot
use Rattle.pdb_values.specs.declared.user.UserInfo.{UserInfo}
use Rattle.dlp_commands.specs.DeviceSteps.{tried}
use Rattle.dlp_commands.specs.declared.link.LinkFault.TheVariants as link
use Rattle.dlp_replies.specs.ReplyReading.{reply_at}
use Rattle.dlp_replies.specs.ReplyValues.{ReplyValue}
use Rattle.dlp_replies.specs.declared.fault.ReplyFault.{ReplyFault}
use Rattle.palm_device.specs.Devices.{Device}
use Rattle.pdb_values.specs.declared.head.DbHead.{DbHead}
use Rattle.desk_store.specs.Desks.{place_of}
use Rattle.desktop_session.specs.Greetings.{AsksUser, AnswersGreeting, HasSlot, begun_by, user_by, user_with}
use Rattle.desktop_session.specs.Lasts.{IsByLastReply}
use Rattle.desktop_session.specs.Lists.{has_more, heads_listed, list_reply, listings}
use Rattle.desktop_session.specs.declared.fault.SessionFault.TheVariants as session
use Rattle.desktop_session.proofs.RequestFits.{user_fits}
use Rattle.desktop_session.proofs.TellLaws.{act_sayable, acted_reads}
use Rattle.desktop_session.proofs.WholeListLaws.{count_is, heads_are, more_is}
use Rattle.session_parts.specs.Causes.{IsLater}
use Rattle.session_parts.specs.Meets.{IsSeated, IsUnlisted, Meets, greeting, meeting_acts}
use Rattle.session_parts.specs.Rests.{IsAtRest}
use Rattle.session_parts.specs.declared.meeting.Met.{Met}
use Rattle.session_parts.specs.declared.stop.Stop.TheVariants as stop
use Rattle.session_parts.proofs.CauseLaws.{later_by, later_said}
use Rattle.session_parts.proofs.LinkWords.{Act, Does, Halted, IsTellable, LinkFault, SessionFault, Stops, Talk, acted, device_after, listing, no_more, reading_user, said_in, saying, text, told, user_of}
use Rattle.session_parts.proofs.MeetLaws.{greeted_slot, seated_with}
use Rattle.session_parts.proofs.RestLaws.{greeting_same}
use Rattle.session_parts.proofs.StretchLaws.{Leads, Tells, tells_on}
use Rattle.category_mirror.specs.FilingEnds.{IsFilingStop, StopsFor, marks_in, seat_of}
use Rattle.category_mirror.specs.Sides.{Filing, heads_of}
use Rattle.desktop_session.proofs.ListLaws.{after_append, listings_same}

-- ---- lists

listings-more : (count more : ℕ) → Leads (listings count) (listings (count + more))
unfolding listings
listings-more count zero = record { rest = []; is = append-nil (listings count) ∙ ap listings (let same : count ≡ count + zero = omega arith in same) }
listings-more count (suc more) =
    let before = listings-more count more in
    record {
      rest = before.rest ++ listing (count + more) ∷ [];
      is = sym (append_assoc (listings count) before.rest (listing (count + more) ∷ [])) ∙ ap (λ zs. zs ++ listing (count + more) ∷ []) before.is
          ∙ ap listings (let same : suc (count + more) ≡ count + suc more = omega arith in same);
    }

listings_lead : (count all : ℕ) → count ≤ all → Leads (listings count) (listings all)
listings_lead count all few =
    subst (λ n. Leads (listings count) (listings n)) (let same : count + (all - count) ≡ all = omega arith in same) (listings-more count (all - count))

-- no more requests than databases, or one
few_lists : (device : Device) (count : ℕ) → IsTellable device → count ≤ 65536
    → ((k : ℕ) → k + 1 < count → has_more (list_reply device k) ≡ true) → count ≤ max 1 (length device.databases)
few_lists device zero proper few more = omega arith
few_lists device (suc zero) proper few more = omega arith
few_lists device (suc (suc k)) proper few more =
    let before : k + 1 < length device.databases = ltb-true _ _ (sym (more_is device k proper (omega arith)) ∙ more k (omega arith)) in
    omega arith

-- what holds behind the greeting
told_behind : (P : Device → Type 0) (device : Device) (told : Option Talk) → Tells device told → IfSome (saying greeting told) (λ talk. P talk.device)
    → P device
told_behind P device told tells holds =
    let after = tells_on device device greeting told tells (greeting_same device) in
    rw (after.is, after.same) at holds

-- ---- the user

user_told : (device : Device) → IsTellable device → said_in 0x10 user_of (reply_at 0x10 (acted reading_user device).0) ≡ Ok device.user
unfolding told tried
user_told device proper = ap (said_in 0x10 user_of) (acted_reads reading_user device proper (act_sayable reading_user.asks device user_fits refl))

user_read : (marks : List Marks) (device : Device) (told : Option Talk) (answer : Result UserInfo SessionFault) → IsTellable device
    → Tells device told → (said : AnswersGreeting marks no_wish told None answer) → said_in 0x10 user_of (reply_at 0x10 said.first) ≡ Ok device.user
user_read marks device told answer proper tells said =
    let here : IfSome (Some tells.talk) (λ talk. said.first ≡ (acted reading_user talk.device).0) = rw tells.is at (said.told refl) in
    ap (λ b. said_in 0x10 user_of (reply_at 0x10 b)) (here ∙ ap (λ d. (acted reading_user d).0) tells.same) ∙ user_told device proper

greeted_user : (marks : List Marks) (device : Device) (told : Option Talk) (known : UserInfo) → IsTellable device → Tells device told
    → AnswersGreeting marks no_wish told None (Ok known) → known ≡ device.user
greeted_user marks device told known proper tells said =
    let second : Result (Unit {0}) SessionFault = said_in 0x2E no_more (reply_at 0x2E said.second) in
    (seated_with marks device.user known (seat_for marks no_wish device.user) second
    (said.is ∙ ap (λ r. begun_by (user_by marks no_wish r) second) (user_read marks device told (Ok known) proper tells said))).1

-- a slot that a handheld is known in is there
known_within : (marks : List Marks) (user : UserInfo) (k : ℕ) → place_known marks [] user ≡ Some k → k < length marks
known_within marks user k is = by (user.user == 0) (place_numbered marks user.user) refl (is_empty user.name) is
  where
    by : (n : Bool) (o : Option ℕ) → place_numbered marks user.user ≡ o → (e : Bool)
        → (if n then None else option_or o (if e then None else position (has_name user.name) marks)) ≡ Some k → k < length marks
    by true o at e is = absurd (let never : ⊥ = cc in never)
    by false (Some place) at e is =
        let here : place ≡ k = cc in rw here at ((position-Some (λ (slot : Marks). slot.user == user.user) marks place unclaimed at).0)
    by false None at true is = absurd (let never : ⊥ = cc in never)
    by false None at false is = (position-Some (has_name user.name) marks k unclaimed is).0

-- a slot that a handheld has without being added is there
pub seat_within : (marks : List Marks) (user : UserInfo) (count : ℕ) → 0 < length marks → IsSeated (seat_for marks no_wish user)
    → place_of count (seat_for marks no_wish user) < length marks
seat_within marks user count some seated = by (is_other_user marks [] user) (user.user == 0) (place_known marks [] user) refl seated
  where
    chosen : (b : Bool) → IsSeated (if b then slot.Old 0 else slot.Refused) → place_of count (if b then slot.Old 0 else slot.Refused) < length marks
    chosen true seated = some
    chosen false seated = absurd seated

    by : (other n : Bool) (o : Option ℕ) → place_known marks [] user ≡ o
        → IsSeated (if other then slot.Refused else if n && true then slot.Old 0 else slot_at o (numbers_of marks) false)
        → place_of count (if other then slot.Refused else if n && true then slot.Old 0 else slot_at o (numbers_of marks) false) < length marks
    by true n o is seated = absurd seated
    by false true o is seated = some
    by false false (Some place) is seated = known_within marks user place is
    by false false None is seated = chosen (slice_index (numbers_of marks) 0 == 0) seated

not_full : (marks : List Marks) (user : UserInfo) → seat_for marks no_wish user ≡ slot.Full → ⊥
not_full marks user full = by (is_other_user marks [] user) (user.user == 0) (place_known marks [] user) full
  where
    chosen : (b : Bool) → (if b then slot.Old 0 else slot.Refused) ≡ slot.Full → ⊥
    chosen true full = cc
    chosen false full = cc

    by : (other n : Bool) (o : Option ℕ)
        → (if other then slot.Refused else if n && true then slot.Old 0 else slot_at o (numbers_of marks) false) ≡ slot.Full → ⊥
    by true n o full = cc
    by false true o full = cc
    by false false (Some place) full = cc
    by false false None full = chosen (slice_index (numbers_of marks) 0 == 0) full

-- ---- why it stopped

pub later_stop : {L : Type 0} (talk : L → Option Talk) (fault : L → Option LinkFault) (filing : Filing) (old new : L) (cause : SessionFault)
    → IsLater (talk new) (fault new) cause → IsFilingStop talk fault filing old new (stop.Session cause)
later_stop talk fault filing old new session.Down later = later
later_stop talk fault filing old new (session.Refused function code) later = later
later_stop talk fault filing old new (session.BadReply function broken) later = later
later_stop talk fault filing old new session.NoMemory later = tt
later_stop talk fault filing old new session.TooManyUsers later = absurd later
later_stop talk fault filing old new (session.OtherUser handheld desktop) later = absurd later

begun_why : (talk : Option Talk) (user : UserInfo) (second : Result (Unit {0}) SessionFault) (read : Result ReplyValue ReplyFault) (cause : SessionFault)
    → second ≡ said_in 0x2E no_more read → Err cause ≡ begun_by (Ok user) second → IsByLastReply talk cause → IsLater talk None cause
begun_why talk user (Ok done) read cause same is last = absurd cc
begun_why talk user (Err other) read cause same is last =
    let here : ◌≡◌ {A = Result (Unit {0}) SessionFault} (Err cause) (said_in 0x2E no_more read) = cc in later_said 0x2E talk None no_more read cause here last

-- ---- both sides met

module _ (filing : Filing) where
  abbrev list_count : ℕ
  list_count = max 1 (length filing.device.databases)

  -- what both sides say when they meet
  abbrev pub meeting_front : List Act
  meeting_front = greeting ++ listings list_count

  front_same : device_after meeting_front filing.device ≡ filing.device
  front_same =
      after_append greeting (listings list_count) filing.device ∙ ap (device_after (listings list_count)) (greeting_same filing.device)
      ∙ listings_same list_count filing.device

  -- what was said and learnt
  pub record Joins (told : Option Talk) (count : ℕ) (known : UserInfo) (listed_heads : List DbHead) : Type 0 where
    pub acts : meeting_acts count ≡ meeting_front
    pub tells : Tells filing.device (saying meeting_front told)
    pub user : known ≡ filing.device.user
    pub heads : listed_heads ≡ heads_of filing.device.databases

  pub seated_says : (P : Type 0) (why : SessionFault) → IsOk (seat_of filing) → seat_of filing ≡ Err why → P
  seated_says P why seated is = absurd (let no : IsOk {T = UserInfo} (Err why) = subst IsOk is seated in let never : ⊥ = cc in never)

  module _ {told : Option Talk} (proper : IsTellable filing.device) (tells : Tells filing.device told) where
    seat_told : HasSlot (marks_in filing) no_wish told → IsOk (seat_of filing)
    seat_told slot = rw (tells.is, tells.same, user_told filing.device proper) at slot

    pub seat_greeted : {user : UserInfo} → AnswersGreeting (marks_in filing) no_wish told None (Ok user) → IsOk (seat_of filing)
    seat_greeted {user} said = seat_told (greeted_slot (marks_in filing) no_wish told user said)

    module _ (cause : SessionFault) {why : SessionFault} (unseated : seat_of filing ≡ Err why) where
      -- a user without a slot is the cause, unless the link has a fault
      greeted_for : (fault_now : Option LinkFault) → AnswersGreeting (marks_in filing) no_wish told fault_now (Err cause) → StopsFor why (Err (stop.Session cause))
      greeted_for (Some link.Down) said = inr (inl (ap stop.Session (let same : cause ≡ session.Down = let is = said.is in cc in same)))
      greeted_for (Some link.NoMemory) said = inr (inr (ap stop.Session (let same : cause ≡ session.NoMemory = let is = said.is in cc in same)))
      greeted_for None said =
          let second : Result (Unit {0}) SessionFault = said_in 0x2E no_more (reply_at 0x2E said.second) in
          let found : ◌≡◌ {A = Result UserInfo SessionFault} (Err cause) (begun_by (Err why) second)
          = said.is ∙ ap (λ r. begun_by (user_by (marks_in filing) no_wish r) second)
          (user_read (marks_in filing) filing.device told (Err cause) proper tells said)
          ∙ ap (λ r. begun_by r second) unseated in
          inl (ap stop.Session (let same : cause ≡ why = cc in same))

      unmet_for : (fault_now : Option LinkFault) → AnswersGreeting (marks_in filing) no_wish told fault_now (Err cause)
          ⊎ IsUnlisted (marks_in filing) no_wish told fault_now cause
          → StopsFor why (Err (stop.Session cause))
      unmet_for fault_now (inl said) = greeted_for fault_now said
      unmet_for fault_now (inr unlisted) = seated_says _ why (seat_greeted unlisted.greeted) unseated

  module _ {L : Type 0} (talk : L → Option Talk) (fault : L → Option LinkFault) (old new : L) (rests : IsAtRest filing.device)
      (tells : Tells filing.device (talk old)) (cause : SessionFault)
      (alone : (why : SessionFault) → seat_of filing ≡ Err why → fault new ≡ None → Does talk (reading_user ∷ []) old new)
      (last : IsByLastReply (talk new) cause) where
    slot_stop : (found : Slot) (second : Result (Unit {0}) SessionFault) (read : Result ReplyValue ReplyFault)
        → seat_for (marks_in filing) no_wish filing.device.user ≡ found → second ≡ said_in 0x2E no_more read
        → Err cause ≡ begun_by (user_with (marks_in filing) filing.device.user found) second → fault new ≡ None
        → IsFilingStop talk fault filing old new (stop.Session cause)
    slot_stop (slot.Old place) second read found same is none =
        later_stop talk fault filing old new cause (rw none (begun_why (talk new) filing.device.user second read cause same is last))
    slot_stop slot.New second read found same is none =
        later_stop talk fault filing old new cause (rw none (begun_why (talk new) filing.device.user second read cause same is last))
    slot_stop slot.Refused second read found same is none =
        let why : SessionFault = session.OtherUser filing.device.user.user (slice_index (numbers_of (marks_in filing)) 0) in
        let cause_is : cause ≡ why = cc in
        let seat : seat_of filing ≡ Err why = ap (user_with (marks_in filing) filing.device.user) found in
        rw cause_is (seat, alone why seat none)
    slot_stop slot.Full second read found same is none = absurd (not_full (marks_in filing) filing.device.user found)

    greeted_stop : (fault_now : Option LinkFault) → fault new ≡ fault_now → AnswersGreeting (marks_in filing) no_wish (talk old) fault_now (Err cause)
        → IsFilingStop talk fault filing old new (stop.Session cause)
    greeted_stop (Some now) is said =
        later_stop talk fault filing old new cause
        (rw is (later_said {A = UserInfo} 0x10 (talk new) (Some now) user_of (reply_at 0x10 said.first) cause said.is last))
    greeted_stop None none said =
        let second : Result (Unit {0}) SessionFault = said_in 0x2E no_more (reply_at 0x2E said.second) in
        slot_stop (seat_for (marks_in filing) no_wish filing.device.user) second (reply_at 0x2E said.second) refl refl
        (said.is ∙ ap (λ r. begun_by (user_by (marks_in filing) no_wish r) second)
        (user_read (marks_in filing) filing.device (talk old) (Err cause) rests.proper tells said)) none

  module _ {L : Type 0} {talk : L → Option Talk} {since : L → L → Type 0} {fault : L → Option LinkFault} {downs : L → ℕ} {old : L}
      (rests : IsAtRest filing.device) (tells : Tells filing.device (talk old)) where
    pub meets_join : {met : Met L} → (meets : Meets talk since fault downs (marks_in filing) no_wish old (Ok met))
        → Joins (talk old) meets.count met.linked.user met.heads.items
    meets_join {met} meets =
        let device = filing.device in
        let proper = rests.proper in
        let more = told_behind (λ d. (k : ℕ) → k + 1 < meets.count → has_more (list_reply d k) ≡ true) device (talk old) tells meets.more in
        let last = told_behind (λ d. (meets.count ≡ 65536) ⊎ (has_more (list_reply d (meets.count - 1)) ≡ false)) device (talk old) tells meets.last in
        let heads = told_behind (λ d. met.heads.items ≡ heads_listed d meets.count) device (talk old) tells meets.heads in
        let all : meets.count ≡ max 1 (length device.databases) = count_is device meets.count proper meets.some meets.few more last in
        record {
          acts = ap meeting_acts all;
          tells = tells_on device device meeting_front (talk old) tells front_same;
          user = greeted_user (marks_in filing) device (talk old) met.linked.user proper tells meets.user;
          heads = heads ∙ heads_are device meets.count proper (omega arith) meets.few;
        }

    -- it was asked for no more than that
    pub meets_lead : {answer : Result (Met L) (Halted L)} → (meets : Meets talk since fault downs (marks_in filing) no_wish old answer)
        → Leads (meeting_acts meets.count) meeting_front
    meets_lead meets =
        let device = filing.device in
        let more = told_behind (λ d. (k : ℕ) → k + 1 < meets.count → has_more (list_reply d k) ≡ true) device (talk old) tells meets.more in
        let lead = listings_lead meets.count list_count (few_lists device meets.count rests.proper meets.few more) in
        record { rest = lead.rest; is = append_assoc greeting (listings meets.count) lead.rest ∙ ap (λ zs. greeting ++ zs) lead.is }

    -- where the user has no slot, it was all that was asked for
    pub asks_alone : {new : L} {why : SessionFault} → seat_of filing ≡ Err why
        → AsksUser talk since fault downs old new ⊎ HasSlot (marks_in filing) no_wish (talk old) → AsksUser talk since fault downs old new
    asks_alone unseated (inl asks) = asks
    asks_alone {why} unseated (inr slot) = seated_says _ why (seat_told rests.proper tells slot) unseated

    pub met_stop : {new : L} (cause : SessionFault) → AsksUser talk since fault downs old new ⊎ HasSlot (marks_in filing) no_wish (talk old)
        → AnswersGreeting (marks_in filing) no_wish (talk old) (fault new) (Err cause) ⊎ IsUnlisted (marks_in filing) no_wish (talk old) (fault new) cause
        → IsByLastReply (talk new) cause → IsFilingStop talk fault filing old new (stop.Session cause)
    met_stop {new} cause asks (inl said) last =
        greeted_stop talk fault old new rests tells cause (λ why is none. (asks_alone is asks).does none) last (fault new) refl said
    met_stop {new} cause asks (inr unlisted) last =
        later_stop talk fault filing old new cause (later_by (talk new) (fault new) (reply_at 0x16 unlisted.reply) cause unlisted.is last)

    -- and what it stops for then
    pub unmet_stops : {new : L} (cause : SessionFault) (why : SessionFault) → seat_of filing ≡ Err why
        → AsksUser talk since fault downs old new ⊎ HasSlot (marks_in filing) no_wish (talk old)
        → AnswersGreeting (marks_in filing) no_wish (talk old) (fault new) (Err cause) ⊎ IsUnlisted (marks_in filing) no_wish (talk old) (fault new) cause
        → Stops talk since fault downs (text reading_user ∷ []) old new × StopsFor why (Err (stop.Session cause))
    unmet_stops {new} cause why unseated asks by =
        ((asks_alone unseated asks).stops, unmet_for rests.proper tells cause unseated (fault new) by)
