-- What is shown of the entries of a reading, one after the other.
use Rattle.std.proofs.Common.{◌≡◌, ◌∙◌, refl, ap, sym, subst, ℕ, false, List, [], ◌∷◌, ◌++◌, length, rules}
use Rattle.std.proofs.lemmas.Grind.{flat_map-append}
use Rattle.std.proofs.lemmas.List.{append-nil}
use Rattle.std.specs.Prelude.{Option, Some, None, IfSome, Result, Ok, Err}
use Rattle.std.specs.List.{flat_map}
use Rattle.pdb_values.specs.Contents.{ContentValue}
use Rattle.pdb_values.specs.declared.record.Record.{Record}
use Rattle.palm_device.specs.Devices.{Device}
use Rattle.dlp_commands.specs.DeviceSteps.{tried}
use Rattle.dlp_commands.specs.Reached.{reads as reached}
use Rattle.dlp_commands.specs.Talks.{Talk}
use Rattle.dlp_commands.specs.declared.link.LinkFault.{LinkFault}
use Rattle.dlp_commands.specs.declared.reading.Reading.TheVariants as reading
use Rattle.conduit_rules.specs.States.{BaseState, base_at}
use Rattle.conduit_rules.specs.declared.view.Seen.{Seen}
use Rattle.desktop_session.specs.declared.fault.SessionFault.{SessionFault}
use Rattle.desktop_session.specs.Acts.{Act, acted}
use Rattle.desktop_session.specs.Requests.{reading_of}
use Rattle.desktop_session.specs.Says.{said, saying}
use Rattle.desktop_session.specs.Sessions.{SessionValue}
use Rattle.desktop_session.specs.Tellings.{device_after}
use Rattle.desktop_session.proofs.TellLaws.{IfDone, done_then, said_device}
use Rattle.mirrors.specs.Asks.{Asks}
use Rattle.mirrors.proofs.AskLaws.{SoFar, all_said, asks_part, asks_then, none_said, said_all, said_part}
use Rattle.mirrors.specs.FastReads.{other_reads}
use Rattle.mirrors.specs.Places.{row_content}
use Rattle.mirrors.specs.Shells.{filled_reads, filled_seen, waits}
use Rattle.desktop_session.proofs.ListLaws.{after_append, Same, outcome_same}

-- ---- a record that is read by its id leaves the device as it was

of_keeps : (device : Device) (handle id : ℕ) → IfDone (Same device) (reached device handle (reading.RecordOfId id 0 65535))
of_keeps device handle id = search (rules, done_then)

pub of_same : {device : Device} (handle id : ℕ) → (acted (reading_of handle id) device).1 ≡ device
unfolding acted tried
of_same handle id = search (rules, outcome_same, of_keeps)

other_same : (handle id : ℕ) (based : BaseState) (device : Device) → device_after (other_reads handle id based) device ≡ device
other_same handle id based device = search (rules, of_same)

filled_same : (base : List Record) (handle : ℕ) (entry : Seen) (device : Device) → device_after (filled_reads base handle entry) device ≡ device
filled_same base handle entry device = search (rules, other_same)

pub all_same : (base : List Record) (handle : ℕ) (entries : List Seen) (device : Device)
    → device_after (flat_map (filled_reads base handle) entries) device ≡ device
all_same base handle [] device = refl
all_same base handle (entry ∷ entries) device =
    cc (
      after_append (filled_reads base handle entry) (flat_map (filled_reads base handle) entries) device,
      filled_same base handle entry device,
      all_same
          base handle entries device,
    )

-- ---- so far

pub record FilledSoFar {L : Type 0} (talk : L → Option Talk) (since : L → L → Type 0) (fault : L → Option LinkFault) (downs : L → ℕ)
    (base : List Record) (handle : ℕ) (front : List Seen) (seen : List Seen) (old now : SessionValue L) : Type 0 where
  pub said : SoFar talk since fault downs (flat_map (filled_reads base handle) front) old now
  pub shows : IfSome (talk old.link) (λ told. seen ≡ flat_map (filled_seen base handle told.device) front)

shows_none : (o : Option Talk) (base : List Record) (handle : ℕ) {seen : List Seen} → seen ≡ []
    → IfSome o (λ told. seen ≡ flat_map (filled_seen base handle told.device) [])
shows_none None base handle none = tt
shows_none (Some told) base handle none = none

-- the same device lends
shows_on : {now : Option Talk} (first : Option Talk) (base : List Record) (handle : ℕ) (front : List Seen) (entry : Seen) (seen more : List Seen)
    → now ≡ saying (flat_map (filled_reads base handle) front) first → IfSome now (λ told. more ≡ seen ++ filled_seen base handle told.device entry)
    → IfSome first (λ told. seen ≡ flat_map (filled_seen base handle told.device) front)
    → IfSome first (λ told. more ≡ flat_map (filled_seen base handle told.device) (front ++ entry ∷ []))
unfolding saying
shows_on None base handle front entry seen more is lent before = tt
shows_on (Some talk) base handle front entry seen more is lent before =
    let acts = flat_map (filled_reads base handle) front in
    let f = filled_seen base handle talk.device in
    let here : more ≡ seen ++ filled_seen base handle (said acts talk).device entry =
    subst (λ (o : Option Talk). IfSome o (λ told. more ≡ seen ++ filled_seen base handle told.device entry)) is lent in
    cc (said_device acts talk, all_same base handle front talk.device, append-nil (f entry), flat_map-append f front (entry ∷ []))

reads_more : (base : List Record) (handle : ℕ) (front : List Seen) (entry : Seen)
    → flat_map (filled_reads base handle) (front ++ entry ∷ []) ≡ flat_map (filled_reads base handle) front ++ filled_reads base handle entry
reads_more base handle front entry = search (rules, flat_map-append, append-nil)

pub none_left : {A : Type 0} (xs : List A) → length xs ≡ 0 → xs ≡ []
none_left [] none = refl
none_left (x ∷ xs) none = cc

pub nothing_asked : {L A : Type 0} {talk : L → Option Talk} {since : L → L → Type 0} {fault : L → Option LinkFault} {downs : L → ℕ}
    (itself : (a : L) → since a a) {acts : List Act} {old : SessionValue L} {answer : Result A SessionFault}
    → acts ≡ [] → Asks talk since fault downs acts old old answer
nothing_asked {L} {A} {talk} {since} {fault} {downs} itself {acts} {old} {answer} none =
    rw none (by answer)
  where
    by : (answer : Result A SessionFault) → Asks talk since fault downs [] old old answer
    by (Ok x) = said_all x (none_said talk since fault downs itself old)
    by (Err cause) = said_part [] cause (none_said talk since fault downs itself old)

pub read_asks : (base : List Record) (handle : ℕ) (entry : Seen) → waits entry.state ≡ false → filled_reads base handle entry ≡ []
read_asks base handle entry read = rw read refl

pub row_asks : (base : List Record) (handle : ℕ) (entry : Seen) {content : ContentValue} → row_content (base_at base false entry.id) ≡ Some content
    → filled_reads base handle entry ≡ []
row_asks base handle entry is = search (rules)

module _ {L : Type 0} {talk : L → Option Talk} {since : L → L → Type 0} {fault : L → Option LinkFault} {downs : L → ℕ} {base : List Record} {handle : ℕ}
    {seen : List Seen} {old : SessionValue L} where
  pub filled_none : (itself : (a : L) → since a a) → seen ≡ [] → FilledSoFar talk since fault downs base handle [] seen old old
  filled_none itself none = record {
    said = none_said talk since fault downs itself old;
    shows = shows_none (talk old.link) base handle none;
  }

  pub filled_on : {A : Type 0} (since_more : (a b c : L) → since a b → since b c → since a c) {here : ℕ} {front : List Seen} (entry : Seen) {more : List Seen}
      {now new : SessionValue L} {answer : A}
      → here ≡ handle → FilledSoFar talk since fault downs base handle front seen old now
      → Asks talk since fault downs (filled_reads base here entry) now new (Ok answer)
      → IfSome (talk now.link) (λ told. more ≡ seen ++ filled_seen base here told.device entry)
      → FilledSoFar talk since fault downs base handle (front ++ entry ∷ []) more old new
  filled_on since_more {front} entry {more} {now} {new} {answer} is before asks lent =
      let asks = rw is at asks in
      let lent = rw is at lent in
      record {
        said = rw (← reads_more base handle front entry) at
            (all_said talk since fault downs (flat_map (filled_reads base handle) front ++ filled_reads base handle entry) old new answer
            (asks_then talk since fault downs since_more (flat_map (filled_reads base handle) front) (filled_reads base handle entry) old now new (Ok answer)
            before.said asks));
        shows = shows_on (talk old.link) base handle front entry seen more before.said.does.said lent before.shows;
      }

  -- ---- a stop

  pub filled_stop : {A B : Type 0} (since_more : (a b c : L) → since a b → since b c → since a c) {here : ℕ} {front all : List Seen} (back : List Seen)
      (entry : Seen) {now new : SessionValue L} {cause : SessionFault} (other : SessionFault)
      → here ≡ handle → front ++ entry ∷ back ≡ all → FilledSoFar talk since fault downs base handle front seen old now
      → Asks {A = A} talk since fault downs (filled_reads base here entry) now new (Err cause)
      → Asks {A = B} talk since fault downs (flat_map (filled_reads base handle) all) old new (Err other)
  filled_stop {A} {B} since_more {front} back entry {now} {new} {cause} other is parts before asks =
      let f = filled_reads base handle in
      subst (λ acts. Asks {A = B} talk since fault downs acts old new (Err other)) (sym (flat_map-append f front (entry ∷ back)) ∙ ap (flat_map f) parts)
      (asks_then talk since fault downs since_more (flat_map f front) (f entry ++ flat_map f back) old now new (Err other) before.said
      (asks_part {A = A} {B = B} talk since fault downs (f entry) (flat_map f back) now new cause other
      (subst (λ h. Asks {A = A} talk since fault downs (filled_reads base h entry) now new (Err cause)) is asks)))

  -- ---- all

  pub filled_all : {A : Type 0} {front all : List Seen} {now : SessionValue L} {answer : A} → front ≡ all
      → FilledSoFar talk since fault downs base handle front seen old now
      → Asks talk since fault downs (flat_map (filled_reads base handle) all) old now (Ok answer)
  filled_all is before = search (rules, said_all)

  pub shown_all : {front all : List Seen} {now : SessionValue L} → front ≡ all → FilledSoFar talk since fault downs base handle front seen old now
      → IfSome (talk old.link) (λ told. seen ≡ flat_map (filled_seen base handle told.device) all)
  shown_all is before = search (rules)
