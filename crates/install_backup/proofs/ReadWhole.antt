-- A database of a handheld at rest that is read whole: what is asked for, and that it leaves the handheld as it was.
use Rattle.std.proofs.lemmas.Bool.{and_parts}
use Rattle.std.proofs.Common.{length, ◌≡◌, ◌∙◌, ap, refl, sym, subst, ℕ, zero, suc, Bool, true, false, cond, List, [], ◌∷◌, ◌++◌, map, lit<}
use Rattle.std.specs.Prelude.{Option, Some, Ok, flat_map, max}
use Rattle.std.specs.List.{AllByRecursion, list_all}
use Rattle.pdb_values.specs.Databases.{DatabaseValue}
use Rattle.pdb_values.specs.Heads.{holds_resources}
use Rattle.pdb_values.specs.Names.{IsName}
use Rattle.pdb_values.specs.NamedDatabases.{NamesRise, comes_before, database_of}
use Rattle.pdb_values.proofs.NamedLaws.{AllByRecursion-database_of, bytes_eq-own, comes_before-differs}
use Rattle.dlp_replies.specs.ReplyValues as reply
use Rattle.palm_device.specs.Blocks.{entry_count}
use Rattle.palm_device.specs.Bounds.{IsBoundedDatabase}
use Rattle.palm_device.specs.Devices.{Device}
use Rattle.palm_device.specs.Handles.{Base, base_at}
use Rattle.dlp_commands.specs.DatabaseFunctions.{listed, open_db}
use Rattle.dlp_commands.specs.DeviceSteps.{tried}
use Rattle.dlp_commands.specs.declared.reading.Reading.TheVariants as reading
use Rattle.desktop_session.specs.Acts.{Act, acted}
use Rattle.desktop_session.specs.Lists.{listings}
use Rattle.desktop_session.specs.Requests.{opening_to_read, reading_app, reading_at, reading_resource, reading_sort}
use Rattle.desktop_session.specs.Tellings.{device_after, told}
use Rattle.desktop_session.proofs.ChangeRows.{row_does}
use Rattle.desktop_session.proofs.OrderLaws.{name_right}
use Rattle.desktop_session.proofs.RequestFits.{count_fits, open_fits}
use Rattle.desktop_session.proofs.RowLaws.{count_row}
use Rattle.desktop_session.proofs.SaysLaws.{saying_none, saying_then}
use Rattle.desktop_session.proofs.TellLaws.{act_sayable, acted_proper, acted_reads}
use Rattle.session_parts.specs.Meets.{greeting}
use Rattle.session_parts.specs.Rests.{IsAtRest}
use Rattle.session_parts.specs.Spans.{within}
use Rattle.session_parts.specs.Stretches.{AreFirst, EachSays, Stretch, each_acts}
use Rattle.session_parts.proofs.LinkWords.{IsTellable, Talk, closing, counting, saying}
use Rattle.session_parts.proofs.RestLaws.{closes_does, greeting_same, leads_to, opened_on, reads_same}
use Rattle.session_parts.proofs.StretchLaws.{Tells, first_is, tells_on}
use Rattle.mirrors.specs.Reads.{entries_in, entries_told}
use Rattle.install_backup.specs.BackupActs.{backup_of, backup_under, each_read, entry_reads}
use Rattle.install_backup.specs.BackupEnds.{backup_front, read_of}
use Rattle.install_backup.specs.Backups.{SaysCopied, backups_under}
use Rattle.install_backup.specs.Copies.{copied}
use Rattle.install_backup.proofs.CopyLaws.{app_same, count_same, sort_same}
use Rattle.desktop_session.proofs.ListLaws.{after_append, listings_same}
use Rattle.desktop_session.proofs.WholeListLaws.{head_of}

-- ---- each database of a list is that of its name

abbrev pub AreHeld : List DatabaseValue → List DatabaseValue → Type 0
AreHeld all databases = AllByRecursion (λ (d : DatabaseValue). database_of d.head.name all ≡ Some d) databases

held_on : (x : DatabaseValue) (xs ys : List DatabaseValue) → list_all (λ (later : DatabaseValue). comes_before x.head.name later.head.name) ys ≡ true
    → AreHeld xs ys → AreHeld (x ∷ xs) ys
held_on x xs [] first all = tt
held_on x xs (y ∷ ys) first all =
    let parts = and_parts (comes_before x.head.name y.head.name) (list_all (λ (later : DatabaseValue). comes_before x.head.name later.head.name) ys) first in (
      ap (λ b. cond b (Some x) (database_of y.head.name xs)) (comes_before-differs x.head.name y.head.name parts.0) ∙ all.0,
      held_on x xs ys parts.1 all.1,
    )

pub held_all : (databases : List DatabaseValue) → NamesRise databases → AreHeld databases databases
held_all [] rise = tt
held_all (x ∷ xs) rise =
    (ap (λ b. cond b (Some x) (database_of x.head.name xs)) (bytes_eq-own x.head.name), held_on x xs xs rise.0 (held_all xs rise.1))

pub held_first : (all kept later : List DatabaseValue) → AreHeld all (kept ++ later) → AreHeld all kept
held_first all [] later held = tt
held_first all (x ∷ kept) later held = (held.0, held_first all kept later held.1)

pub held_last : (all kept later : List DatabaseValue) → AreHeld all (kept ++ later) → AreHeld all later
held_last all [] later held = held
held_last all (x ∷ kept) later held = held_last all kept later held.1

-- ---- acts that change nothing

record IsSame (one : Act) : Type 0 where
  at : (device : Device) → (acted one device).1 ≡ device

at_same : (handle place : ℕ) → IsSame (reading_at handle place)
unfolding acted tried
at_same handle place = record { at = λ device. reads_same device handle 0x20 (reading.RecordAt place 0 65535) }

resource_same : (handle place : ℕ) → IsSame (reading_resource handle place)
unfolding acted tried
resource_same handle place = record { at = λ device. reads_same device handle 0x23 (reading.ResourceAt place 0 65535) }

each_same : (asks : ℕ → Act) → ((place : ℕ) → IsSame (asks place)) → (count : ℕ) (device : Device) → device_after (each_read asks count) device ≡ device
unfolding each_read
each_same asks same zero device = refl
each_same asks same (suc count) device =
    after_append (each_read asks count) (asks count ∷ []) device ∙ ap (λ d. (acted (asks count) d).1) (each_same asks same count device)
    ∙ (same count).at device

entries_same : (b : Bool) (count : ℕ) (device : Device) → device_after (entry_reads b 1 count) device ≡ device
entries_same true count device = each_same (reading_resource 1) (resource_same 1) count device
entries_same false count device = each_same (reading_at 1) (at_same 1) count device

under_same : (b : Bool) (count : ℕ) (device : Device) → device_after (backup_under b count 1) device ≡ device
under_same b count device =
    ap (λ d. device_after (entry_reads b 1 count) (acted (reading_sort 1) (acted (reading_app 1) d).1).1) (count_same 1 device)
    ∙ ap (λ d. device_after (entry_reads b 1 count) (acted (reading_sort 1) d).1) (app_same 1 device)
    ∙ ap (device_after (entry_reads b 1 count)) (sort_same 1 device)
    ∙ entries_same b count device

-- ---- one database

module _ (device : Device) (rests : IsAtRest device) (database : DatabaseValue) (held : database_of database.head.name device.databases ≡ Some database) where
  abbrev name : List ℕ
  name = database.head.name

  abbrev here : Device
  here = opened_on device name 0x90 0

  named : IsName name
  named = (AllByRecursion-database_of IsBoundedDatabase name device.databases database rests.proper.bounded.databases held).head.name

  open_row : tried 0 device (opening_to_read name).asks ≡ Ok (here, reply.OpenDb 1)
  unfolding tried open_db
  open_row = rw (name_right name named, held, rests.closed) refl

  pub opens : (acted (opening_to_read name) device).1 ≡ here
  opens = row_does (opening_to_read name) device _ (reply.OpenDb 1) open_row

  pub proper_here : IsTellable here
  proper_here =
      subst IsTellable opens
      (acted_proper (opening_to_read name) device rests.proper (act_sayable (opening_to_read name).asks device (open_fits 0x90 name (lit< tt) named) refl))

  abbrev pub base : Base
  base = record { opened = record { name = name; mode = 0x90; next = 0 }; database = database }

  pub base_here : base_at here 1 ≡ Some base
  base_here = leads_to device name 0x90 0 database held

  told_count : told (counting 1) here ≡ reply.ReadOpenDbInfo (entry_count database)
  unfolding told
  told_count = cc (count_row here 1 base_here)

  pub counts : entries_told here 1 ≡ entry_count database
  counts =
      ap entries_in (acted_reads (counting 1) here proper_here (act_sayable (counting 1).asks here (count_fits 1 (lit< tt)) refl)
      ∙ ap (λ v. Ok v) told_count)

  pub leaves : device_after (backup_of database) device ≡ device
  unfolding backup_of
  leaves =
      let acts = backup_under (holds_resources database.head.attributes) (entry_count database) 1 in
      ap (device_after (acts ++ closing 1 ∷ [])) opens
      ∙ after_append acts (closing 1 ∷ []) here
      ∙ ap (λ d. (acted (closing 1) d).1) (under_same (holds_resources database.head.attributes) (entry_count database) here)
      ∙ closes_does device name 0x90 0 rests.closed

  acts_some : (talk : Talk) (given : List ℕ) → talk.device ≡ device → backups_under (Some talk) (listed database.head) 1 given ≡ backup_of database
  unfolding backups_under backup_of saying
  acts_some talk given same =
      ap (λ (count : ℕ). within (opening_to_read name) (λ handle given. backup_under (holds_resources database.head.attributes) count handle) 1 [])
      (ap (λ d. entries_told d 1) (ap (λ d. (acted (opening_to_read name) d).1) same ∙ opens) ∙ counts)

  pub acts_are : (told : Option Talk) (given : List ℕ) → Tells device told → backups_under told (listed database.head) 1 given ≡ backup_of database
  acts_are told given tells = ap (λ o. backups_under o (listed database.head) 1 given) tells.is ∙ acts_some tells.talk given tells.same

  whole_some : (talk : Talk) (given : List ℕ) (whole : DatabaseValue) → talk.device ≡ device → SaysCopied (Some talk) (listed database.head) 1 given whole
      → whole ≡ read_of device database
  unfolding saying
  whole_some talk given whole same said = said ∙ ap (λ d. copied (listed database.head) 1 (acted (opening_to_read name) d).1) same

  pub whole_is : (told : Option Talk) (given : List ℕ) (whole : DatabaseValue) → Tells device told → SaysCopied told (listed database.head) 1 given whole
      → whole ≡ read_of device database
  whole_is told given whole tells said = whole_some tells.talk given whole tells.same (rw tells.is at said)

-- ---- several

pub record ReadsAll (told : Option Talk) (device : Device) (kept : List DatabaseValue) (ones : List Stretch) (wholes : List DatabaseValue) : Type 0 where
  pub acts : each_acts backups_under told (map head_of kept) ones ≡ flat_map backup_of kept
  pub tells : Tells device (saying (flat_map backup_of kept) told)
  pub wholes_are : wholes ≡ map (read_of device) kept

pub reads_all : (told : Option Talk) (device : Device) (kept : List DatabaseValue) (ones : List Stretch) (wholes : List DatabaseValue) → Tells device told
    → IsAtRest device → AreHeld device.databases kept → AreFirst backups_under told (map head_of kept) ones
    → EachSays backups_under SaysCopied told (map head_of kept) ones wholes → ReadsAll told device kept ones wholes
reads_all told device [] [] [] tells rests held firsts said =
    record { acts = refl; tells = subst (Tells device) (sym (saying_none told)) tells; wholes_are = refl }
reads_all told device (database ∷ kept) (one ∷ ones) (whole ∷ wholes) tells rests held firsts said =
    let first = first_is device told one.handle tells rests.closed firsts.0 in
    let is : backups_under told (listed database.head) one.handle one.given ≡ backup_of database =
    ap (λ handle. backups_under told (listed database.head) handle one.given) first ∙ acts_are device rests database held.0 told one.given tells in
    let now = tells_on device device (backup_of database) told tells (leaves device rests database held.0) in
    let later = reads_all (saying (backup_of database) told) device kept ones wholes now rests held.1 (rw is at firsts.1) (rw is at said.1) in
    record {
      acts = ap (λ (acts : List Act). acts ++ each_acts backups_under (saying acts told) (map head_of kept) ones) is
          ∙ ap (λ (acts : List Act). backup_of database ++ acts) later.acts;
      tells = subst (Tells device) (saying_then (backup_of database) (flat_map backup_of kept) told) later.tells;
      wholes_are = ap (λ (w : DatabaseValue). w ∷ wholes) (whole_is device rests database held.0 told one.given whole tells (rw first at said.0))
          ∙ ap (λ (ws : List DatabaseValue). read_of device database ∷ ws) later.wholes_are;
    }
reads_all told device kept ones wholes tells rests held firsts said = absurd said

leaves_each : (device : Device) (kept : List DatabaseValue) → IsAtRest device → AreHeld device.databases kept
    → device_after (flat_map backup_of kept) device ≡ device
leaves_each device [] rests held = refl
leaves_each device (database ∷ kept) rests held =
    after_append (backup_of database) (flat_map backup_of kept) device
    ∙ ap (device_after (flat_map backup_of kept)) (leaves device rests database held.0)
    ∙ leaves_each device kept rests held.1

-- the whole session, up to its end
pub leaves_all : (device : Device) → IsAtRest device → device_after (backup_front device ++ flat_map backup_of device.databases) device ≡ device
leaves_all device rests =
    let count : ℕ = max 1 (length device.databases) in
    after_append (backup_front device) (flat_map backup_of device.databases) device
    ∙ ap (device_after (flat_map backup_of device.databases))
    (after_append greeting (listings count) device ∙ ap (device_after (listings count)) (greeting_same device) ∙ listings_same count device)
    ∙ leaves_each device device.databases rests (held_all device.databases rests.proper.sound.names)
