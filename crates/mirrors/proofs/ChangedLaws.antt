-- The changed records are read one after the other, until none is left.
use Rattle.std.proofs.Common.{◌≡◌, ◌∙◌, ◌<◌, ◌+◌, ◌-◌, refl, ap, sym, ℕ, List, [], ◌∷◌, ◌++◌, append_assoc, arith, rules}
use Rattle.std.proofs.lemmas.List.{append-nil}
use Rattle.std.specs.Prelude.{Option, Some, None, IfSome, Ok, Err}
use Rattle.dlp_replies.specs.ReplyReading.{reply_at}
use Rattle.palm_device.specs.Devices.{Device}
use Rattle.dlp_commands.specs.declared.link.LinkFault.{LinkFault}
use Rattle.dlp_commands.specs.Talks.{Talk}
use Rattle.conduit_rules.specs.declared.view.Seen.{Seen}
use Rattle.desktop_session.specs.declared.fault.SessionFault.{SessionFault}
use Rattle.desktop_session.specs.Acts.{Act, acted}
use Rattle.desktop_session.specs.Requests.{reading_next}
use Rattle.desktop_session.specs.Says.{saying}
use Rattle.desktop_session.specs.Sessions.{SessionValue}
use Rattle.desktop_session.specs.Stops.{AsksOne}
use Rattle.desktop_session.specs.Tellings.{device_after}
use Rattle.desktop_session.proofs.TellLaws.{said_device}
use Rattle.mirrors.specs.Asks.{Asks}
use Rattle.mirrors.specs.Entries.{seen_in}
use Rattle.mirrors.proofs.AskLaws.{SoFar, asked_part, asks_then, none_said, said_all, said_on}
use Rattle.mirrors.specs.FastReads.{changed_reads, changed_reads_of, changed_seen, next_seen, where_lent}
use Rattle.mirrors.specs.Shells.{AreRead, IsRead}
use Rattle.mirrors.proofs.ToldLaws.{asks_as}
use Rattle.dlp_replies.proofs.EntryLaws.{one_less}
use Rattle.desktop_session.proofs.ListLaws.{after_append}

-- ---- so far

-- what is left goes on behind what was said and seen
pub record GoesOn (handle most k : ℕ) (acts : List Act) (seen : List Seen) (device : Device) : Type 0 where
  pub reads : changed_reads handle most device ≡ acts ++ changed_reads handle (most - k) (device_after acts device)
  pub shows : changed_seen handle most device ≡ seen ++ changed_seen handle (most - k) (device_after acts device)

pub record ChangedSoFar {L : Type 0} (talk : L → Option Talk) (since : L → L → Type 0) (fault : L → Option LinkFault) (downs : L → ℕ)
    (handle most k : ℕ) (seen : List Seen) (old now : SessionValue L) : Type 0 where
  pub acts : List Act
  pub said : SoFar talk since fault downs acts old now
  pub goes_on : IfSome (talk old.link) (λ told. GoesOn handle most k acts seen told.device)

begins : (o : Option Talk) (handle most : ℕ) {seen : List Seen} → seen ≡ [] → IfSome o (λ told. GoesOn handle most 0 [] seen told.device)
begins o handle most none = search (rules)

-- the device's own reply
reply_now : {now : Option Talk} (first : Option Talk) (handle : ℕ) (acts : List Act) (bytes : List ℕ) → now ≡ saying acts first
    → IfSome now (λ told. bytes ≡ (acted (reading_next handle) told.device).0)
    → IfSome first (λ told. seen_in (reply_at 0x1F bytes) ≡ next_seen handle (device_after acts told.device))
unfolding saying
reply_now first handle acts bytes is told = grind (arith, said_device)

-- what is left is the next request, and what follows where it lends something
next_left : (handle most k : ℕ) (device : Device) {lent : List Seen} → k < most → lent ≡ next_seen handle device
    → (changed_reads handle (most - k) device ≡ reading_next handle ∷ where_lent lent
    (changed_reads handle (most - (k + 1)) (acted (reading_next handle) device).1)) ×
    (changed_seen handle (most - k) device ≡ lent ++ where_lent lent (changed_seen handle (most - (k + 1)) (acted (reading_next handle) device).1))
unfolding changed_reads changed_seen
next_left handle most k device below is = rw (one_less most k below, is) (refl, refl)

-- one record more
goes_more : (o : Option Talk) (handle most k : ℕ) (acts : List Act) {now : List Seen} (seen : List Seen) {entry : Seen} {lent : List Seen} → k < most
    → lent ≡ entry ∷ [] → now ≡ seen ++ entry ∷ [] → IfSome o (λ told. lent ≡ next_seen handle (device_after acts told.device))
    → IfSome o (λ told. GoesOn handle most k acts seen told.device)
    → IfSome o (λ told. GoesOn handle most (k + 1) (acts ++ reading_next handle ∷ []) now told.device)
goes_more None handle most k acts seen below one added lends on = tt
goes_more (Some told) handle most k acts {now} seen {entry} below one added lends on =
    let here = device_after acts told.device in
    let left = next_left handle most k here below (sym one ∙ lends) in
    let there : device_after (acts ++ reading_next handle ∷ []) told.device ≡ (acted (reading_next handle) here).1 =
    after_append acts (reading_next handle ∷ []) told.device in
    record {
      reads = cc (append_assoc acts (reading_next handle ∷ []) (changed_reads handle (most - (k + 1)) (acted (reading_next handle) here).1));
      shows = cc (append_assoc seen (entry ∷ []) (changed_seen handle (most - (k + 1)) (acted (reading_next handle) here).1));
    }

asked_here : {L : Type 0} {talk : L → Option Talk} {since : L → L → Type 0} {fault : L → Option LinkFault} {downs : L → ℕ} {handle here : ℕ}
    {now new : SessionValue L}
    → here ≡ handle → AsksOne talk since fault downs (reading_next here) now new → AsksOne talk since fault downs (reading_next handle) now new
asked_here is asked = search (rules)

-- what was read grows
pub read_more : (seen : List Seen) (entry : Seen) → AreRead seen → IsRead entry → AreRead (seen ++ entry ∷ [])
read_more [] entry read one = (one, tt)
read_more (first ∷ seen) entry read one = (read.0, read_more seen entry read.1 one)

-- no more requests
all_said : (o : Option Talk) (handle most : ℕ) (acts : List Act) (seen : List Seen) → IfSome o (λ told. GoesOn handle most most acts seen told.device)
    → IfSome o (λ told. (acts ≡ changed_reads_of handle most (Some told)) × (seen ≡ changed_seen handle most told.device))
unfolding changed_reads changed_seen
all_said o handle most acts seen on = grind (arith, append-nil)

first_of : (P Q : Talk → Type 0) (o : Option Talk) → IfSome o (λ told. P told × Q told) → IfSome o P
first_of P Q None both = tt
first_of P Q (Some told) both = both.0

second_of : (P Q : Talk → Type 0) (o : Option Talk) → IfSome o (λ told. P told × Q told) → IfSome o Q
second_of P Q None both = tt
second_of P Q (Some told) both = both.1

-- one request more, that lent nothing
ends_said : (o : Option Talk) (handle most k : ℕ) (acts : List Act) (seen : List Seen) {lent : List Seen} → k < most → lent ≡ []
    → IfSome o (λ told. lent ≡ next_seen handle (device_after acts told.device)) → IfSome o (λ told. GoesOn handle most k acts seen told.device)
    → IfSome o (λ told. (acts ++ reading_next handle ∷ [] ≡ changed_reads_of handle most (Some told)) × (seen ≡ changed_seen handle most told.device))
ends_said None handle most k acts seen below none lends on = tt
ends_said (Some told) handle most k acts seen below none lends on =
    let left = next_left handle most k (device_after acts told.device) below (sym none ∙ lends) in (
      sym (on.reads ∙ ap (λ xs. acts ++ xs) left.0),
      sym (on.shows ∙ ap (λ xs. seen ++ xs) left.1 ∙ append-nil seen),
    )

-- what would follow behind the next request
then_of : Option Talk → ℕ → ℕ → List Act → List Act
then_of None handle n acts = []
then_of (Some told) handle n acts =
    where_lent (next_seen handle (device_after acts told.device))
    (changed_reads handle n (acted (reading_next handle) (device_after acts told.device)).1)

next_said : (o : Option Talk) (handle most k : ℕ) (acts : List Act) (seen : List Seen) → k < most
    → IfSome o (λ told. GoesOn handle most k acts seen told.device)
    → IfSome o (λ told. acts ++ reading_next handle ∷ then_of o handle (most - (k + 1)) acts ≡ changed_reads_of handle most (Some told))
unfolding then_of
next_said o handle most k acts seen below on = grind (arith, next_left)

module _ {L : Type 0} {talk : L → Option Talk} {since : L → L → Type 0} {fault : L → Option LinkFault} {downs : L → ℕ} {handle most : ℕ} {seen : List Seen}
    {old : SessionValue L} where
  pub changed_none : (itself : (a : L) → since a a) → seen ≡ [] → ChangedSoFar talk since fault downs handle most 0 seen old old
  changed_none itself none = record {
    acts = [];
    said = none_said talk since fault downs itself old;
    goes_on = begins (talk old.link) handle most none;
  }

  -- ---- the next request

  pub changed_on : (since_more : (a b c : L) → since a b → since b c → since a c) {here k : ℕ} {more : List Seen} {entry : Seen} {now new : SessionValue L}
      → here ≡ handle → k < most → fault new.link ≡ None → seen_in (reply_at 0x1F new.reply) ≡ entry ∷ [] → more ≡ seen ++ entry ∷ []
      → ChangedSoFar talk since fault downs handle most k seen old now → AsksOne talk since fault downs (reading_next here) now new
      → ChangedSoFar talk since fault downs handle most (k + 1) more old new
  changed_on since_more {k} {new} is below none one added before asked =
      let asked = asked_here is asked in
      record {
        acts = before.acts ++ reading_next handle ∷ [];
        said = said_on since_more none before.said asked;
        goes_on = goes_more (talk old.link) handle most k before.acts seen below one added
            (reply_now (talk old.link) handle before.acts new.reply before.said.does.said (asked.told none)) before.goes_on;
      }

  -- ---- the end

  pub changed_whole : {k : ℕ} {now : SessionValue L} → k ≡ most → ChangedSoFar talk since fault downs handle most k seen old now
      → ChangedSoFar talk since fault downs handle most most seen old now
  changed_whole is before = search (rules)

  pub changed_all : {A : Type 0} {now : SessionValue L} {answer : A} → ChangedSoFar talk since fault downs handle most most seen old now
      → Asks talk since fault downs (changed_reads_of handle most (talk old.link)) old now (Ok answer)
  changed_all {answer} all =
      asks_as (changed_reads_of handle most)
      (first_of _ _ (talk old.link) (all_said (talk old.link) handle most all.acts seen all.goes_on))
      (said_all answer all.said)

  pub shown_all : {now : SessionValue L} → ChangedSoFar talk since fault downs handle most most seen old now
      → IfSome (talk old.link) (λ told. seen ≡ changed_seen handle most told.device)
  shown_all all =
      second_of _ _ (talk old.link) (all_said (talk old.link) handle most all.acts seen all.goes_on)

  pub changed_ends : (since_more : (a b c : L) → since a b → since b c → since a c) {here k : ℕ} {A : Type 0} {now new : SessionValue L} (answer : A)
      → here ≡ handle → k < most → fault new.link ≡ None → seen_in (reply_at 0x1F new.reply) ≡ []
      → ChangedSoFar talk since fault downs handle most k seen old now → AsksOne talk since fault downs (reading_next here) now new
      → Asks talk since fault downs (changed_reads_of handle most (talk old.link)) old new (Ok answer) × IfSome (talk old.link)
      (λ told. seen ≡ changed_seen handle most told.device)
  changed_ends since_more {k} {new} answer is below none lent before asked =
      let asked = asked_here is asked in
      let both = ends_said (talk old.link) handle most k before.acts seen below lent
      (reply_now (talk old.link) handle before.acts new.reply before.said.does.said (asked.told none)) before.goes_on in (
        asks_as (changed_reads_of handle most)
            (first_of _ _ (talk old.link) both)
            (said_all answer
            (said_on since_more none before.said asked)),
        second_of _ _ (talk old.link) both,
      )

  -- ---- a stop

  pub changed_stop : {A : Type 0} (since_more : (a b c : L) → since a b → since b c → since a c) {here k : ℕ} {now new : SessionValue L} (cause : SessionFault)
      → here ≡ handle → k < most → ChangedSoFar talk since fault downs handle most k seen old now → AsksOne talk since fault downs (reading_next here) now new
      → Asks {A = A} talk since fault downs (changed_reads_of handle most (talk old.link)) old new (Err cause)
  changed_stop since_more {k} {now} {new} cause is below before asked =
      let follows = then_of (talk old.link) handle (most - (k + 1)) before.acts in
      asks_as (changed_reads_of handle most)
      (next_said (talk old.link) handle most k before.acts seen below before.goes_on)
      (asks_then talk since fault downs since_more before.acts (reading_next handle ∷ follows) old now new (Err cause) before.said
      (asked_part talk since fault downs (reading_next handle) follows now new cause
      (asked_here is asked)))
