-- A whole reading grows by one record, and leaves the device as it was.
use Rattle.std.proofs.Common.{◌≡◌, ◌∙◌, ◌≤◌, ◌<◌, ◌+◌, ◌-◌, refl, ap, sym, subst, ℕ, zero, suc, List, [], ◌∷◌, ◌++◌, append_assoc, arith, rules}
use Rattle.std.proofs.lemmas.List.{append-nil}
use Rattle.std.specs.Prelude.{Option, Some, None, IfSome, Result, Ok, Err}
use Rattle.dlp_replies.specs.ReplyReading.{reply_at}
use Rattle.dlp_replies.specs.ReplyValues.{ReplyValue}
use Rattle.dlp_replies.specs.declared.fault.ReplyFault.{ReplyFault}
use Rattle.palm_device.specs.Devices.{Device}
use Rattle.dlp_commands.specs.DeviceSteps.{tried}
use Rattle.dlp_commands.specs.Reached.{reads as reached}
use Rattle.dlp_commands.specs.Talks.{Talk}
use Rattle.dlp_commands.specs.declared.link.LinkFault.{LinkFault}
use Rattle.dlp_commands.specs.declared.reading.Reading.{Reading}
use Rattle.conduit_rules.specs.declared.view.Seen.{Seen}
use Rattle.desktop_session.specs.declared.fault.SessionFault.{SessionFault}
use Rattle.desktop_session.specs.Acts.{Act, acted}
use Rattle.desktop_session.specs.Answers.{answer_by, count_of, said_in}
use Rattle.desktop_session.specs.Requests.{counting, reading_at}
use Rattle.desktop_session.specs.Says.{grown, said, saying, sent}
use Rattle.desktop_session.specs.Sessions.{SessionValue}
use Rattle.desktop_session.specs.Stops.{AsksOne}
use Rattle.desktop_session.specs.Tellings.{device_after}
use Rattle.desktop_session.proofs.TellLaws.{IfDone, done_then, said_device}
use Rattle.mirrors.specs.Asks.{Asks}
use Rattle.mirrors.specs.Entries.{ordered, seen_in}
use Rattle.mirrors.specs.Reads.{entries_in, entries_of, entries_told, reads, seen_below, slow_reads, slow_shown}
use Rattle.mirrors.proofs.AskLaws.{SoFar, asked_part, asks_then, none_said, one_said, said_on, said_part}
use Rattle.std.proofs.lemmas.Grind.{common_steps}
use Rattle.std.proofs.lemmas.Bool.Decides.{nat_tests}
use Rattle.desktop_session.proofs.ListLaws.{after_append, next, Same, outcome_same}

-- ---- a request that only reads leaves the device as it is

reached_keeps : (device : Device) (handle : ℕ) (asked : Reading) → IfDone (Same device) (reached device handle asked)
reached_keeps device handle asked = search (rules, done_then)

at_same : (device : Device) (handle index : ℕ) → (acted (reading_at handle index) device).1 ≡ device
unfolding acted tried
at_same device handle index = grind (arith, common_steps, nat_tests, outcome_same, reached_keeps)

pub count_same : (device : Device) (handle : ℕ) → (acted (counting handle) device).1 ≡ device
unfolding acted tried
count_same device handle = grind (arith, common_steps, nat_tests, outcome_same, reached_keeps)

reads_same : (handle count : ℕ) (device : Device) → device_after (reads handle count) device ≡ device
unfolding reads
reads_same handle zero device = refl
reads_same handle (suc count) device = grind (arith, common_steps, nat_tests, after_append, reads_same handle count device, at_same)

-- ---- one record more

pub reads_none : (handle : ℕ) → reads handle 0 ≡ []
unfolding reads
reads_none handle = refl

pub reads_next : (handle k : ℕ) → reads handle (k + 1) ≡ reads handle k ++ reading_at handle k ∷ []
unfolding reads
reads_next handle k = cc (next k)

pub seen_none : (device : Device) (handle : ℕ) → seen_below device handle 0 ≡ []
unfolding seen_below
seen_none device handle = refl

pub seen_next : (device : Device) (handle k : ℕ)
    → seen_below device handle (k + 1) ≡ seen_below device handle k ++ seen_in (reply_at 0x20 (acted (reading_at handle k) device).0)
unfolding seen_below
seen_next device handle k = cc (next k)

-- the records behind so many
pub record ReadsLeft (handle k count : ℕ) : Type 0 where
  pub left : List Act
  pub is : reads handle k ++ left ≡ reads handle count

left_more : (handle k d : ℕ) → ReadsLeft handle k (k + d)
left_more handle k zero = record { left = []; is = append-nil (reads handle k) ∙ ap (reads handle) (let same : k ≡ k + 0 = omega arith in same) }
left_more handle k (suc d) =
    let before = left_more handle k d in
    record {
      left = before.left ++ reading_at handle (k + d) ∷ [];
      is = sym (append_assoc (reads handle k) before.left (reading_at handle (k + d) ∷ []))
          ∙ ap (λ acts. acts ++ reading_at handle (k + d) ∷ []) before.is
          ∙ sym (reads_next handle (k + d))
          ∙ ap (reads handle) (let same : k + d + 1 ≡ k + suc d = omega arith in same);
    }

pub reads_left : (handle k count : ℕ) → k ≤ count → ReadsLeft handle k count
reads_left handle k count within =
    subst (ReadsLeft handle k) (let same : k + (count - k) ≡ count = omega arith in same) (left_more handle k (count - k))

-- ---- the last reply is the device's

reads_device : (handle count : ℕ) (talk : Talk) → (said (reads handle count) talk).device ≡ talk.device
reads_device handle count talk = said_device (reads handle count) talk ∙ reads_same handle count talk.device

pub seen_from : {now : Option Talk} (first : Option Talk) (handle k : ℕ) (reply : List ℕ) → now ≡ saying (reads handle k) first
    → IfSome now (λ talk. reply ≡ (acted (reading_at handle k) talk.device).0)
    → IfSome first (λ talk. seen_in (reply_at 0x20 reply) ≡ seen_in (reply_at 0x20 (acted (reading_at handle k) talk.device).0))
unfolding saying
seen_from first handle k reply is told = grind (arith, common_steps, nat_tests, reads_device)

-- the entries so far
pub seen_on : {now : Option Talk} (first : Option Talk) (handle k : ℕ) (seen : List Seen) {entry : Seen} (reply : List ℕ) → now ≡ saying (reads handle k) first
    → IfSome now (λ talk. reply ≡ (acted (reading_at handle k) talk.device).0) → seen_in (reply_at 0x20 reply) ≡ entry ∷ []
    → IfSome first (λ talk. seen ≡ seen_below talk.device handle k) → IfSome first (λ talk. seen ++ entry ∷ [] ≡ seen_below talk.device handle (k + 1))
seen_on None handle k seen reply is told one before = tt
seen_on (Some talk) handle k seen {entry} reply is told one before =
    cc (seen_from (Some talk) handle k reply is told, seen_next talk.device handle k)

-- under the handle that stays, where the list has one more
pub seen_grows : {now : Option Talk} (first : Option Talk) {handle here : ℕ} (k : ℕ) {more : List Seen} (seen : List Seen) {entry : Seen} (reply : List ℕ)
    → here ≡ handle → now ≡ saying (reads handle k) first → IfSome now (λ talk. reply ≡ (acted (reading_at here k) talk.device).0)
    → seen_in (reply_at 0x20 reply) ≡ entry ∷ [] → IfSome first (λ talk. seen ≡ seen_below talk.device handle k) → more ≡ seen ++ entry ∷ []
    → IfSome first (λ talk. more ≡ seen_below talk.device handle (k + 1))
seen_grows {now} first {handle} k seen reply same is told one before grown =
    rw grown (seen_on first handle k seen reply is
    (rw (← same) told) one before)

pub seen_begin : (first : Option Talk) (handle : ℕ) {seen : List Seen} → seen ≡ [] → IfSome first (λ talk. seen ≡ seen_below talk.device handle 0)
seen_begin first handle none = search (rules, seen_none)

-- a number that was told
pub count_from : (fault : Option LinkFault) (read : Result ReplyValue ReplyFault) {count : ℕ} → Ok count ≡ answer_by fault (said_in 0x2B count_of read)
    → (fault ≡ None) × (count ≡ entries_in read)
count_from fault read is = grind (arith, common_steps, nat_tests)

pub count_told : (first : Option Talk) {count : ℕ} (handle : ℕ) (bytes : List ℕ) → IfSome first (λ talk. bytes ≡ (acted (counting handle) talk.device).0)
    → count ≡ entries_in (reply_at 0x2B bytes) → IfSome first (λ talk. count ≡ entries_told talk.device handle)
count_told first handle bytes told is = grind (arith, common_steps, nat_tests)

pub grown_untold : (xs ys : List (List ℕ)) → grown (sent None) xs ≡ grown (sent None) ys
unfolding grown sent
grown_untold xs ys = refl

saying_untold : (xs ys : List Act) → saying xs None ≡ saying ys None
unfolding saying
saying_untold xs ys = refl

-- what was read is what the device shows
pub shown_from : {now : Option Talk} (first : Option Talk) {handle here : ℕ} (count : ℕ) {view : List Seen} (seen : List Seen) → here ≡ handle
    → now ≡ saying (counting handle ∷ []) first → IfSome first (λ talk. count ≡ entries_told talk.device handle)
    → IfSome now (λ talk. seen ≡ seen_below talk.device here count) → view ≡ ordered seen → IfSome first (λ talk. view ≡ slow_shown talk.device handle)
unfolding saying
shown_from first count seen same is told shown kept = grind (arith, common_steps, nat_tests, count_same)

-- ---- what was said so far

module _ {L : Type 0} {talk : L → Option Talk} {since : L → L → Type 0} {fault : L → Option LinkFault} {downs : L → ℕ} {old : SessionValue L} where
  pub read_none : (itself : (a : L) → since a a) (handle : ℕ) → SoFar talk since fault downs (reads handle 0) old old
  read_none itself handle = search (rules, reads_none, none_said)

  pub read_on : (since_more : (a b c : L) → since a b → since b c → since a c) {handle here : ℕ} (k : ℕ) {now new : SessionValue L} → here ≡ handle
      → fault new.link ≡ None → SoFar talk since fault downs (reads handle k) old now → AsksOne talk since fault downs (reading_at here k) now new
      → SoFar talk since fault downs (reads handle (k + 1)) old new
  read_on since_more {handle} k {now} {new} is none before asked =
      rw (reads_next handle k) (said_on since_more none before
      (rw (← is) asked))

  pub read_part : {A : Type 0} (handle k count : ℕ) {now : SessionValue L} (cause : SessionFault) → k ≤ count
      → SoFar talk since fault downs (reads handle k) old now → Asks {A = A} talk since fault downs (reads handle count) old now (Err cause)
  read_part {A} handle k count {now} cause within before =
      let left = reads_left handle k count within in
      rw (← left.is) (said_part left.left cause before)

  pub read_stop : {A : Type 0} (since_more : (a b c : L) → since a b → since b c → since a c) {handle here : ℕ} (k count : ℕ) {now new : SessionValue L}
      (cause : SessionFault)
      → here ≡ handle → k < count → SoFar talk since fault downs (reads handle k) old now → AsksOne talk since fault downs (reading_at here k) now new
      → Asks {A = A} talk since fault downs (reads handle count) old new (Err cause)
  read_stop {A} since_more {handle} k count {now} {new} cause is below before asked =
      let left = reads_left handle (k + 1) count (omega arith) in
      let all : reads handle k ++ reading_at handle k ∷ left.left ≡ reads handle count =
      cc (append_assoc (reads handle k) (reading_at handle k ∷ []) left.left, reads_next handle k) in
      rw (← all) (asks_then talk since fault downs since_more (reads handle k) (reading_at handle k ∷ left.left) old now new (Err cause) before
      (asked_part talk since fault downs (reading_at handle k) left.left now new cause
      (rw (← is) asked)))

  -- ---- the number of entries

  -- where no device is told, nothing is told of acts
  untold : {A : Type 0} {xs ys : List Act} {new : SessionValue L} {answer : Result A SessionFault} → talk old.link ≡ None
      → Asks talk since fault downs xs old new answer → Asks talk since fault downs ys old new answer
  untold none asks = search (rules, grown_untold, saying_untold)

  -- as many records as the device told
  pub asks_told : {A : Type 0} (handle count : ℕ) {new : SessionValue L} {answer : Result A SessionFault} (o : Option Talk) → talk old.link ≡ o
      → IfSome o (λ talk. count ≡ entries_told talk.device handle) → Asks talk since fault downs (counting handle ∷ reads handle count) old new answer
      → Asks talk since fault downs (slow_reads handle (entries_of o handle)) old new answer
  asks_told handle count None is told asks =
      untold is asks
  asks_told handle count {new} {answer} (Some here) is told asks =
      rw (← told) asks

  -- the count, and then what was read
  pub whole_asked : {A : Type 0} (since_more : (a b c : L) → since a b → since b c → since a c) {handle here count : ℕ} {now new : SessionValue L}
      {answer : Result A SessionFault}
      → here ≡ handle → Ok count ≡ answer_by (fault now.link) (said_in 0x2B count_of (reply_at 0x2B now.reply))
      → AsksOne talk since fault downs (counting handle) old now → Asks talk since fault downs (reads here count) now new answer
      → Asks talk since fault downs (slow_reads handle (entries_of (talk old.link) handle)) old new answer
  whole_asked since_more {handle} {count} {now} {new} {answer} is said asked asks =
      let from = count_from (fault now.link) (reply_at 0x2B now.reply) said in
      asks_told handle count (talk old.link) refl
      (count_told (talk old.link) handle now.reply (asked.told from.0) from.1)
      (asks_then talk since fault downs since_more (counting handle ∷ []) (reads handle count) old now new answer
      (one_said talk since fault downs (counting handle) old now from.0 asked)
      (rw (← is) asks))
