-- A fast reading's three stretches: the ids, the changed records, the others.
use Rattle.std.proofs.Common.{◌≡◌, refl, ℕ, suc, List, [], ◌++◌, length, map, rules}
use Rattle.std.proofs.lemmas.List.{map-append}
use Rattle.std.specs.Prelude.{Option, Some, None, IfOk, IfSome, OnOk, Result, Ok, Err}
use Rattle.pdb_values.specs.declared.record.Record.{Record}
use Rattle.palm_device.specs.Devices.{Device}
use Rattle.dlp_commands.specs.Talks.{Talk}
use Rattle.dlp_commands.specs.declared.link.LinkFault.{LinkFault}
use Rattle.conduit_rules.specs.ById.{each_id}
use Rattle.conduit_rules.specs.declared.view.Seen.{Seen}
use Rattle.desktop_session.specs.declared.fault.SessionFault.{SessionFault}
use Rattle.desktop_session.specs.Acts.{Act, text}
use Rattle.desktop_session.specs.Says.{said, saying}
use Rattle.desktop_session.specs.Sessions.{SessionValue}
use Rattle.desktop_session.specs.Stops.{Does, Stops}
use Rattle.desktop_session.specs.Tellings.{device_after}
use Rattle.desktop_session.proofs.StopLaws.{does_then, stops_then}
use Rattle.desktop_session.proofs.TellLaws.{said_device}
use Rattle.mirrors.specs.Asks.{Asks}
use Rattle.mirrors.proofs.AskLaws.{all_said, asks_part, asks_then}
use Rattle.mirrors.proofs.ReadLaws.{count_same}
use Rattle.mirrors.specs.FastReads.{changed_acts, changed_reads, changed_reads_of, changed_seen, changed_told, fast_reads, fast_reads_of, fast_shown}
use Rattle.mirrors.specs.FastReads.{ids_told, listing_acts, reads_at, shown_at}
use Rattle.mirrors.proofs.ToldLaws.{asks_as}
use Rattle.desktop_session.proofs.ListLaws.{id_listings_same}

-- ---- a list of ids leaves the device as it was

listing_same : (handle : ℕ) (talk : Talk) → device_after (listing_acts handle (Some talk)) talk.device ≡ talk.device
listing_same handle talk = search (rules, count_same, id_listings_same)

-- ---- what is told of the device

-- behind the ids the device is the first one
pub listed_now : (P : Device → Type 0) {now : Option Talk} (first : Option Talk) (handle : ℕ) → now ≡ saying (listing_acts handle first) first
    → IfSome now (λ talk. P talk.device) → IfSome first (λ talk. P talk.device)
unfolding saying
listed_now P first handle is holds = search (rules, said_device, listing_same)

-- behind acts it is the one after them
after_said : (P : Device → Type 0) {now : Option Talk} (first : Option Talk) (acts : List Act) → now ≡ saying acts first → IfSome now (λ talk. P talk.device)
    → IfSome first (λ talk. P (device_after acts talk.device))
unfolding saying
after_said P first acts is holds = search (rules, said_device)

told_changed : (now : Option Talk) (handle most : ℕ) → IfSome now (λ talk. changed_reads_of handle most now ≡ changed_reads handle most talk.device)
told_changed None handle most = tt
told_changed (Some talk) handle most = refl

-- ---- what a reading knows of its device, behind the ids and behind the changed records

pub record Knows (handle here most : ℕ) (ids : List ℕ) (seen : List Seen) (acts : List Act) (device : Device) : Type 0 where
  pub same : here ≡ handle
  pub most_is : most ≡ suc (length ids)
  pub listed : ids ≡ ids_told handle device
  pub said : acts ≡ changed_reads here most device
  pub shown : seen ≡ changed_seen here most device

acts_known : {handle here most : ℕ} {ids : List ℕ} {seen : List Seen} {acts : List Act} {device : Device} → Knows handle here most ids seen acts device
    → acts ≡ changed_acts handle device
acts_known knows = search (rules)

seen_known : {handle here most : ℕ} {ids : List ℕ} {seen : List Seen} {acts : List Act} {device : Device} → Knows handle here most ids seen acts device
    → seen ≡ changed_told handle device
seen_known knows = search (rules)

reads_known : (base : List Record) {handle here most : ℕ} {ids : List ℕ} {seen : List Seen} {acts : List Act} (talk : Talk)
    → Knows handle here most ids seen acts talk.device
    → listing_acts handle (Some talk) ++ (acts ++ each_id (reads_at base here ids seen)) ≡ fast_reads_of base handle (Some talk)
unfolding fast_reads
reads_known base talk knows = search (rules, acts_known, seen_known)

shown_known : (base : List Record) {handle here most : ℕ} {ids : List ℕ} {seen shown : List Seen} {acts : List Act} {device : Device}
    → Knows handle here most ids seen acts device → shown ≡ each_id (shown_at base here (device_after acts device) ids seen)
    → shown ≡ fast_shown base handle device
unfolding fast_shown
shown_known base knows is = search (rules, acts_known, seen_known)

knows_by : (first : Option Talk) {handle here most : ℕ} (ids : List ℕ) (seen : List Seen) (acts : List Act) → here ≡ handle → most ≡ suc (length ids)
    → IfSome first (λ talk. ids ≡ ids_told handle talk.device) → IfSome first (λ talk. acts ≡ changed_reads here most talk.device)
    → IfSome first (λ talk. seen ≡ changed_seen here most talk.device) → IfSome first (λ talk. Knows handle here most ids seen acts talk.device)
knows_by first ids seen acts same most_is listed x7 shown = search (rules)

pub knows_all : {now : Option Talk} (first : Option Talk) {handle here most : ℕ} (ids : List ℕ) (seen : List Seen) → here ≡ handle → most ≡ suc (length ids)
    → now ≡ saying (listing_acts handle first) first → IfSome first (λ talk. ids ≡ ids_told handle talk.device)
    → IfSome now (λ talk. seen ≡ changed_seen here most talk.device)
    → IfSome first (λ talk. Knows handle here most ids seen (changed_reads_of here most now) talk.device)
knows_all {now} first {handle} {here} {most} ids seen same most_is said listed shown =
    knows_by first ids seen (changed_reads_of here most now) same most_is listed
    (listed_now (λ d. changed_reads_of here most now ≡ changed_reads here most d) first handle said (told_changed now here most))
    (listed_now (λ d. seen ≡ changed_seen here most d) first handle said shown)

reads_if : (first : Option Talk) (base : List Record) (handle here most : ℕ) (ids : List ℕ) (seen : List Seen) (acts : List Act)
    → IfSome first (λ talk. Knows handle here most ids seen acts talk.device)
    → IfSome first (λ talk. listing_acts handle first ++ (acts ++ each_id (reads_at base here ids seen)) ≡ fast_reads_of base handle (Some talk))
reads_if first base handle here most ids seen acts knows = search (rules, reads_known)

-- ---- the stretches, one behind the other

on_both : {A P Q : Type 0} (answer : Result A SessionFault) → (P → Q) → OnOk answer P → OnOk answer Q
on_both (Ok x) f holds = f holds
on_both (Err cause) f holds = tt

-- a stretch behind another, where the link's fault is known at the end
asks_behind : {L A : Type 0} {talk : L → Option Talk} {since : L → L → Type 0} {fault : L → Option LinkFault} {downs : L → ℕ}
    (since_more : (a b c : L) → since a b → since b c → since a c) {xs ys : List Act} {now new : SessionValue L} (old : SessionValue L)
    {answer : Result A SessionFault}
    → Stops talk since fault downs (map text xs) old.link now.link → Does talk xs old.link now.link → (now.user ≡ old.user) × (now.abandoned ≡ old.abandoned)
    → OnOk answer (fault new.link ≡ None) → Asks talk since fault downs ys now new answer → Asks talk since fault downs (xs ++ ys) old new answer
asks_behind since_more old stops does rest none asks = search (rules, map-append, stops_then, on_both, does_then)

-- all of it
pub side_asked : {L A B : Type 0} {talk : L → Option Talk} {since : L → L → Type 0} {fault : L → Option LinkFault} {downs : L → ℕ}
    (since_more : (a b c : L) → since a b → since b c → since a c) (base : List Record) {here there : ℕ} (handle most : ℕ) {ids lent : List ℕ}
    (seen : List Seen) {old now mid new : SessionValue L} {changed : B} {answer : Result A SessionFault}
    → there ≡ here → lent ≡ ids → Stops talk since fault downs (map text (listing_acts handle (talk old.link))) old.link now.link
    → Does talk (listing_acts handle (talk old.link)) old.link now.link → (now.user ≡ old.user) × (now.abandoned ≡ old.abandoned)
    → OnOk answer (fault new.link ≡ None)
    → IfSome (talk old.link) (λ told. Knows handle here most ids seen (changed_reads_of here most (talk now.link)) told.device)
    → Asks talk since fault downs (changed_reads_of here most (talk now.link)) now mid (Ok changed)
    → Asks talk since fault downs (each_id (reads_at base there lent seen)) mid new answer
    → Asks talk since fault downs (fast_reads_of base handle (talk old.link)) old new answer
side_asked {talk} {since} {fault} {downs} since_more base {here} {there} handle most {ids} seen {old} {now} {mid} {new} {changed} {answer} same is stops does
    rest none knows second third =
    let acts = changed_reads_of here most (talk now.link) in
    let others = each_id (reads_at base here ids seen) in
    asks_as (fast_reads_of base handle)
    (reads_if (talk old.link) base handle here most ids seen acts knows)
    (asks_behind since_more old stops does rest none
    (asks_then talk since fault downs since_more acts others now mid new answer (all_said talk since fault downs acts now mid changed second)
    (rw (← same) (rw (← is) third))))

-- ---- a stop

-- what would follow the ids
behind_ids : List Record → ℕ → Option Talk → List Act
behind_ids base handle None = []
behind_ids base handle (Some talk) =
    changed_acts handle talk.device ++ each_id (reads_at base handle (ids_told handle talk.device) (changed_told handle talk.device))

ids_said : (first : Option Talk) (base : List Record) (handle : ℕ)
    → IfSome first (λ talk. listing_acts handle first ++ behind_ids base handle first ≡ fast_reads_of base handle (Some talk))
unfolding behind_ids fast_reads
ids_said None base handle = tt
ids_said (Some talk) base handle = refl

pub side_listed : {L A : Type 0} {talk : L → Option Talk} {since : L → L → Type 0} {fault : L → Option LinkFault} {downs : L → ℕ} (base : List Record)
    (handle : ℕ) (old now : SessionValue L) (cause : SessionFault)
    → Stops talk since fault downs (map text (listing_acts handle (talk old.link))) old.link now.link → (now.user ≡ old.user) × (now.abandoned ≡ old.abandoned)
    → Asks {A = A} talk since fault downs (fast_reads_of base handle (talk old.link)) old now (Err cause)
side_listed {L} {A} {talk} {since} {fault} {downs} base handle old now cause stops rest =
    let front = listing_acts handle (talk old.link) in
    let follows = behind_ids base handle (talk old.link) in
    asks_as (fast_reads_of base handle) (ids_said (talk old.link) base handle)
    (asks_part {A = A} {B = A} talk since fault downs front follows old now cause cause
    (record { stops = stops; does = tt; clear = tt; user = rest.0; abandoned = rest.1 }))

-- what would follow the changed records
behind_changed : List Record → ℕ → Option Talk → List Act
behind_changed base handle None = []
behind_changed base handle (Some talk) = each_id (reads_at base handle (ids_told handle talk.device) (changed_told handle talk.device))

changed_said : (first : Option Talk) (base : List Record) {handle here most : ℕ} (ids : List ℕ) (acts : List Act) → here ≡ handle → most ≡ suc (length ids)
    → IfSome first (λ talk. ids ≡ ids_told handle talk.device) → IfSome first (λ talk. acts ≡ changed_reads here most talk.device)
    → IfSome first (λ talk. listing_acts handle first ++ (acts ++ behind_changed base handle first) ≡ fast_reads_of base handle (Some talk))
unfolding behind_changed fast_reads
changed_said first base ids acts same most_is listed x7 = search (rules, behind_changed, acts_known)

pub side_changed : {L A B : Type 0} {talk : L → Option Talk} {since : L → L → Type 0} {fault : L → Option LinkFault} {downs : L → ℕ}
    (since_more : (a b c : L) → since a b → since b c → since a c) (base : List Record) {handle here most : ℕ} (ids : List ℕ) {now mid : SessionValue L}
    (old : SessionValue L) {cause : SessionFault} (other : SessionFault)
    → here ≡ handle → most ≡ suc (length ids) → Stops talk since fault downs (map text (listing_acts handle (talk old.link))) old.link now.link
    → Does talk (listing_acts handle (talk old.link)) old.link now.link → (now.user ≡ old.user) × (now.abandoned ≡ old.abandoned)
    → IfSome (talk old.link) (λ told. ids ≡ ids_told handle told.device)
    → Asks {A = A} talk since fault downs (changed_reads_of here most (talk now.link)) now mid (Err cause)
    → Asks {A = B} talk since fault downs (fast_reads_of base handle (talk old.link)) old mid (Err other)
side_changed {L} {A} {B} {talk} {since} {fault} {downs} since_more base {handle} {here} {most} ids {now} {mid} old {cause} other same most_is stops does rest
    listed asks =
    let acts = changed_reads_of here most (talk now.link) in
    let follows = behind_changed base handle (talk old.link) in
    asks_as (fast_reads_of base handle)
    (changed_said (talk old.link) base ids acts same most_is listed
    (listed_now (λ d. acts ≡ changed_reads here most d) (talk old.link) handle does.said (told_changed (talk now.link) here most)))
    (asks_behind since_more old stops does rest
    tt (asks_part talk since fault downs acts follows now mid cause other asks))

-- ---- what is shown

shown_if : (first : Option Talk) (base : List Record) (handle here most : ℕ) (ids : List ℕ) (seen shown : List Seen) (acts : List Act)
    → IfSome first (λ talk. Knows handle here most ids seen acts talk.device)
    → IfSome first (λ talk. shown ≡ each_id (shown_at base here (device_after acts talk.device) ids seen))
    → IfSome first (λ talk. shown ≡ fast_shown base handle talk.device)
shown_if None base handle here most ids seen shown acts knows is = tt
shown_if (Some talk) base handle here most ids seen shown acts knows is =
    shown_known base knows is

pub side_shown : {A : Type 0} (items : A → List Seen) {now mid : Option Talk} (first : Option Talk) (base : List Record) {here there : ℕ} (handle most : ℕ)
    {ids lent : List ℕ} (seen : List Seen) (answer : Result A SessionFault)
    → there ≡ here → lent ≡ ids → now ≡ saying (listing_acts handle first) first → mid ≡ saying (changed_reads_of here most now) now
    → IfSome first (λ talk. Knows handle here most ids seen (changed_reads_of here most now) talk.device)
    → IfOk answer (λ view. IfSome mid (λ talk. items view ≡ each_id (shown_at base there talk.device lent seen)))
    → IfOk answer (λ view. IfSome first (λ talk. items view ≡ fast_shown base handle talk.device))
side_shown items {now} {mid} first base {here} {there} handle most {ids} seen (Ok view) same is listed changed knows shown =
    let acts = changed_reads_of here most now in
    shown_if first base handle here most ids seen (items view) acts knows
    (listed_now (λ d. items view ≡ each_id (shown_at base here (device_after acts d) ids seen)) first handle listed
    (after_said (λ d. items view ≡ each_id (shown_at base here d ids seen)) now acts changed
    (rw (← same) (rw (← is) shown))))
side_shown items first base handle most seen (Err cause) same is listed changed knows shown = tt

-- ---- the link has no fault

pub side_none : {A : Type 0} (answer : Result A SessionFault) {before : Option LinkFault} (after : Option LinkFault) → before ≡ None
    → OnOk answer (before ≡ None → after ≡ None) → OnOk answer (after ≡ None)
side_none answer after none clear = on_both answer (λ clear. clear none) clear
