-- A plan, carried out on an open database: what both sides keep and the handheld lacks is put, and,
-- once the desktop has committed, what goes is taken away.
use Rattle.std.specs.Prelude.{◌≡◌, ◌+◌, ◌<◌, ◌≤◌, ℕ, List, [], ◌∷◌, ◌++◌, length, map, Option, Some, IfErr, IfOk, IfSome, OnOk, Result}
use Rattle.std.specs.List.{AllByRecursion}
use Rattle.pdb_values.specs.Contents.{ContentValue}
use Rattle.pdb_values.specs.declared.record.Record.{Record}
use Rattle.palm_device.specs.Devices.{Device}
use Rattle.palm_device.specs.Handles.{Base, base_at}
use Rattle.palm_device.specs.Records.{IsFree, cleaned_up, given_id, put_record, reset_flags, with_records, without_record}
use Rattle.dlp_replies.specs.ReplyReading.{reply_at}
use Rattle.dlp_commands.specs.declared.link.LinkFault.{LinkFault}
use Rattle.dlp_commands.specs.Talks.{Talk}
use Rattle.conduit_rules.specs.declared.planned.Plan.{Plan}
use Rattle.desktop_session.specs.declared.fault.SessionFault.{SessionFault}
use Rattle.desktop_session.specs.Acts.{Act, acted}
use Rattle.desktop_session.specs.Lists.{HasCause}
use Rattle.desktop_session.specs.Requests.{cleaning, putting, removing, resetting}
use Rattle.desktop_session.specs.Sessions.{SessionValue}
use Rattle.desktop_session.specs.Tellings.{device_after}
use Rattle.mirrors.specs.Asks.{Asks}

-- contents under their ids; one of id 0 is a new record, which got the id at its place
unfoldable pub puts : ℕ → List ℕ → List (ℕ × ContentValue) → List Act
puts handle given [] = []
puts handle [] (entry ∷ entries) = putting 0 handle entry.0 entry.1 ∷ puts handle [] entries
puts handle (id ∷ given) (entry ∷ entries) =
    putting id handle entry.0 entry.1 ∷ puts handle given entries

-- new records
abbrev pub as_new : List ContentValue → List (ℕ × ContentValue)
as_new contents = map (λ content. (0, content)) contents

-- the replacements, then the new records
abbrev pub news_of : Plan → List (ℕ × ContentValue)
news_of plan = plan.replace.items ++ as_new plan.adds.items

-- ids and contents that records can have
abbrev pub ArePuttable : List (ℕ × ContentValue) → Type 0
ArePuttable entries =
    AllByRecursion
    (λ (entry : ℕ × ContentValue). (entry.0 ≤ 16777215) × (entry.1.category ≤ 15)
    × (length entry.1.bytes ≤ 65500)) entries

-- an id for each of them, and 0 for one that has its id
abbrev pub AreIdsOf : List (ℕ × ContentValue) → List ℕ → Type 0
AreIdsOf [] [] = Unit {0}
AreIdsOf [] (id ∷ given) = ⊥
AreIdsOf (entry ∷ entries) [] = ⊥
AreIdsOf (entry ∷ entries) (id ∷ given) = (0 < entry.0 → id ≡ 0) × AreIdsOf entries given

-- no record of the database has the id that a new one gets
abbrev pub IsFreeFor : ℕ → ℕ → ℕ → Device → Type 0
IsFreeFor handle id given device =
    IfSome (base_at device handle) (λ base. id ≡ 0 → IsFree given base.database.records)

-- each at its turn
abbrev pub AreFreeFor : ℕ → List (ℕ × ContentValue) → List ℕ → Device → Type 0
AreFreeFor handle [] given device = Unit {0}
AreFreeFor handle (entry ∷ entries) [] device = Unit {0}
AreFreeFor handle (entry ∷ entries) (id ∷ given) device =
    IsFreeFor handle entry.0 id device
    × AreFreeFor handle entries given (acted (putting id handle entry.0 entry.1) device).1

-- contents that records can have, each with its id, which is free at its turn if it is a new one's
pub record CanPut (handle : ℕ) (entries : List (ℕ × ContentValue)) (given : List ℕ)
    (device : Device) : Type 0 where
  pub puttable : ArePuttable entries
  pub ids : AreIdsOf entries given
  pub free : AreFreeFor handle entries given device

-- A session put these, in order, and nothing else; each new one got an id that was free at its
-- turn, and the answer says this of the ids. It stopped where a reply to WriteRecord did not come
-- or was a refusal.
pub record PutsAll {L A : Type 0} (talk : L → Option Talk) (since : L → L → Type 0)
    (fault : L → Option LinkFault) (downs : L → ℕ) (handle : ℕ)
    (entries : List (ℕ × ContentValue)) (says : List ℕ → A → Type 0) (old new : SessionValue L)
    (answer : Result A SessionFault) : Type 0 where
  pub given : List ℕ
  pub asks : Asks talk since fault downs (puts handle given entries) old new answer
  pub ids : OnOk answer (AreIdsOf entries given)
  pub free : OnOk answer
      (IfSome (talk old.link) (λ talk. AreFreeFor handle entries given talk.device))
  pub said : IfOk answer (says given)
  pub cause : IfErr answer (HasCause (fault new.link) (reply_at 0x21 new.reply))

-- the records that go one by one; then those with the delete bit; then all become clean
abbrev pub purge_writes : ℕ → List ℕ → List Act
purge_writes handle ids = map (removing handle) ids ++ cleaning handle ∷ resetting handle ∷ []

-- ---- what becomes of the records

-- the records, once these are put
abbrev pub after_puts : List ℕ → List (ℕ × ContentValue) → List Record → List Record
after_puts given [] records = records
after_puts [] (entry ∷ entries) records = records
after_puts (id ∷ given) (entry ∷ entries) records =
    after_puts given entries (put_record (given_id id entry.0) entry.1 records)

-- the records without those of these ids
abbrev pub removed : List ℕ → List Record → List Record
removed [] records = records
removed (id ∷ ids) records = removed ids (without_record id records)

-- the records, once the purges are carried out
abbrev pub after_purges : List ℕ → List Record → List Record
after_purges ids records = reset_flags (cleaned_up (removed ids records))

-- the handle leads to the database that it led to, with these records
abbrev pub IsOpenWith : ℕ → Base → List Record → Device → Type 0
IsOpenWith handle base records device = base_at device handle ≡ Some (record {
  opened = base.opened;
  database = with_records records base.database;
})

-- whatever is put into it, as far as it has room, each put is carried out, in order
abbrev pub CarriesOutPuts : ℕ → Base → List Record → Device → Type 0
CarriesOutPuts handle base records device =
    (entries : List (ℕ × ContentValue)) (given : List ℕ)
    → length records + length entries ≤ 65535 → ArePuttable entries → AreIdsOf entries given
    → IsOpenWith handle base (after_puts given entries records)
    (device_after (puts handle given entries) device)

-- and whatever is purged, each purge is
abbrev pub CarriesOutPurges : ℕ → Base → List Record → Device → Type 0
CarriesOutPurges handle base records device =
    (ids : List ℕ)
    → IsOpenWith handle base (after_purges ids records)
    (device_after (purge_writes handle ids) device)
