-- A reading of a database leaves a handheld as it was.
use Rattle.std.proofs.Common.{◌≡◌, ℕ, suc, Bool, true, false, List, [], ◌∷◌, ◌++◌, length, if◌then◌else◌}
use Rattle.std.specs.Prelude.{Option, Some, None, replicate, filter}
use Rattle.pdb_values.specs.Databases.{DatabaseValue}
use Rattle.pdb_values.specs.NamedDatabases.{database_of}
use Rattle.pdb_values.specs.Names.{IsName}
use Rattle.pdb_values.specs.declared.record.Record.{Record}
use Rattle.pdb_values.specs.declared.user.UserInfo.{UserInfo}
use Rattle.palm_device.specs.Handles.{just_opened}
use Rattle.palm_device.specs.Heads.{is_read_only}
use Rattle.palm_device.specs.Records.{is_changed}
use Rattle.conduit_rules.specs.ById.{each_id, ids_below, id_bound}
use Rattle.conduit_rules.specs.States.{BaseState, base_at, first, gone, no_base, row}
use Rattle.dlp_commands.specs.Reached.{with_next}
use Rattle.desktop_session.specs.Lists.{id_listings, id_parts}
use Rattle.desktop_session.specs.Requests.{counting, opening, reading_next, reading_of}
use Rattle.desktop_session.specs.Tellings.{device_after}
use Rattle.mirrors.specs.Reads as slow
use Rattle.session_plan.specs.Choosing.{base_rows, is_fast}
use Rattle.mirrors.specs.FastReads.{asks_of, fast_asks, other_reads}
use Rattle.sync_session.specs.Reads.{opened, reads}
use Rattle.session_plan.specs.Tasks.{Meeting, Task, records_of}
use Rattle.front_laws.proofs.OpenActs.{KeepsOpen, all_closed, around, count_same, keeps-append, keeps-flat_map, keeps-id_listings, keeps-next, keeps-nil}
use Rattle.front_laws.proofs.OpenActs.{keeps-replicate, keeps-same, keeps-slow, of_same, open_does}

keeps-asks_of : (base : List Record) (r : Option Record) → KeepsOpen (asks_of base 1 r)
keeps-asks_of base None = keeps-nil
keeps-asks_of base (Some r) = by (is_changed r) (base_at base false r.id)
  where
    by : (changed : Bool) (there : BaseState) → KeepsOpen (if changed then [] else other_reads 1 r.id there)
    by true there = keeps-nil
    by false (row content) = keeps-nil
    by false no_base = keeps-same (reading_of 1 r.id) (of_same r.id)
    by false (gone content) = keeps-same (reading_of 1 r.id) (of_same r.id)

keeps-fast : (base records : List Record) → KeepsOpen (fast_asks base 1 records)
keeps-fast base records =
    let ids = id_listings 1 (id_parts (length records)) in
    let nexts = replicate (suc (length (filter is_changed records))) (reading_next 1) in
    let others = each_id (λ i. asks_of base 1 (first i records)) in
    keeps-append (counting 1 ∷ []) (ids ++ (nexts ++ others)) (keeps-same (counting 1) count_same)
    (keeps-append ids (nexts ++ others) (keeps-id_listings (id_parts (length records)))
    (keeps-append nexts others (keeps-replicate (suc (length (filter is_changed records))) (reading_next 1) keeps-next)
    (keeps-flat_map (λ i. asks_of base 1 (first i records)) (ids_below id_bound) (λ i. keeps-asks_of base (first i records)))))

keeps-reads : (meeting : Meeting) (task : Task) → KeepsOpen (reads meeting task)
keeps-reads meeting task = by (is_fast meeting task)
  where
    by : (fast : Bool)
        → KeepsOpen (if fast then fast_asks (base_rows task) 1 (records_of task.handheld) else slow.slow_reads 1 (length (records_of task.handheld)))
    by true = keeps-fast (base_rows task) (records_of task.handheld)
    by false = keeps-slow (length (records_of task.handheld))

-- ---- a whole reading

pub reads_same : (meeting : Meeting) (task : Task) (databases : List DatabaseValue) (user : UserInfo) (name : List ℕ) (d : DatabaseValue) → IsName name
    → database_of name databases ≡ Some d → is_read_only d.head.attributes ≡ false
    → device_after (opened name (reads meeting task)) (all_closed databases user) ≡ all_closed databases user
unfolding KeepsOpen
reads_same meeting task databases user name d named here writable =
    let o = just_opened name 0xD0 in
    let keeps = keeps-reads meeting task o databases user in
    around (opening name) (reads meeting task) (all_closed databases user) o (with_next keeps.0 o) databases databases user
    (open_does databases user named here writable) keeps.1
