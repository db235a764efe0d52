-- What holds of each request of a reading holds of all that is said before the first write.
use Rattle.std.proofs.Common.{ℕ, zero, suc, ◌*◌, Bool, true, false, List, [], ◌∷◌, ◌++◌, length}
use Rattle.std.specs.Prelude.{Option, Some, None, filter, flat_map, replicate, is_none, max, if◌then◌else◌}
use Rattle.std.specs.List.{AllByRecursion}
use Rattle.pdb_values.specs.declared.record.Record.{Record}
use Rattle.palm_device.specs.Records.{is_changed}
use Rattle.conduit_rules.specs.ById.{each_id, ids_below, id_bound}
use Rattle.conduit_rules.specs.States.{BaseState, base_at, first, gone, no_base, row}
use Rattle.session_parts.proofs.LinkWords.{Act, beginning, closing, counting, listing, listing_ids, opening, reading_at, reading_next, reading_of, reading_user}
use Rattle.desktop_session.specs.Lists.{id_listings, id_parts, listings}
use Rattle.mirrors.specs.Reads as slow
use Rattle.sync_session.proofs.MeetingWords.{base_rows, is_fast, before_writes, listing_all, active, Meeting, Task, records_of}
use Rattle.mirrors.specs.FastReads.{asks_of, fast_asks, other_reads}
use Rattle.sync_session.specs.Reads.{opened, read_acts, reads}
use Rattle.session_parts.proofs.RestLaws.{all-flat_map, all-replicate}
use Rattle.desk_journal.proofs.StepLaws.{all-append}

-- what reads an opened database, under handle 1
pub record HoldsOfReads (P : Act → Type 0) : Type 0 where
  pub counts : P (counting 1)
  pub lists : (start : ℕ) → P (listing_ids 1 start)
  pub nexts : P (reading_next 1)
  pub ids : (id : ℕ) → P (reading_of 1 id)
  pub places : (index : ℕ) → P (reading_at 1 index)

-- what opens and closes one for it
pub record HoldsOfOpens (P : Act → Type 0) : Type 0 where
  pub opens : (name : List ℕ) → P (opening name)
  pub closes : P (closing 1)

-- what both sides say when they meet
pub record HoldsOfGreetings (P : Act → Type 0) : Type 0 where
  pub users : P reading_user
  pub begins : P beginning
  pub lists : (start : ℕ) → P (listing start)

module _ {P : Act → Type 0} (each : HoldsOfReads P) where
  ids-all : (parts : ℕ) → AllByRecursion P (id_listings 1 parts)
  unfolding id_listings
  ids-all zero = tt
  ids-all (suc parts) = all-append P (id_listings 1 parts) (listing_ids 1 (8000 * parts) ∷ []) (ids-all parts) (each.lists (8000 * parts), tt)

  slow-all : (count : ℕ) → AllByRecursion P (slow.reads 1 count)
  unfolding slow.reads
  slow-all zero = tt
  slow-all (suc count) = all-append P (slow.reads 1 count) (reading_at 1 count ∷ []) (slow-all count) (each.places count, tt)

  asks_of-all : (base : List Record) (found : Option Record) → AllByRecursion P (asks_of base 1 found)
  asks_of-all base None = tt
  asks_of-all base (Some r) = by (is_changed r) (base_at base false r.id)
    where
      by : (changed : Bool) (there : BaseState) → AllByRecursion P (if changed then [] else other_reads 1 r.id there)
      by true there = tt
      by false (row content) = tt
      by false no_base = (each.ids r.id, tt)
      by false (gone content) = (each.ids r.id, tt)

  fast-all : (base records : List Record) → AllByRecursion P (fast_asks base 1 records)
  fast-all base records =
      let ids : List Act = id_listings 1 (id_parts (length records)) in
      let nexts : List Act = replicate (suc (length (filter is_changed records))) (reading_next 1) in
      let others : List Act = each_id (λ i. asks_of base 1 (first i records)) in (
        each.counts,
        all-append P ids (nexts ++ others) (ids-all (id_parts (length records)))
            (all-append P nexts others (all-replicate P (suc (length (filter is_changed records))) (reading_next 1) each.nexts)
            (all-flat_map P (λ i. asks_of base 1 (first i records)) (ids_below id_bound) (λ i. asks_of-all base (first i records)))),
      )

  pub reads-all : (meeting : Meeting) (task : Task) → AllByRecursion P (reads meeting task)
  reads-all meeting task = by (is_fast meeting task)
    where
      by : (fast : Bool)
          → AllByRecursion P (if fast then fast_asks (base_rows task) 1 (records_of task.handheld)
          else slow.slow_reads 1 (length (records_of task.handheld)))
      by true = fast-all (base_rows task) (records_of task.handheld)
      by false = (each.counts, slow-all (length (records_of task.handheld)))

-- a database is opened, and closed at the end
pub opened-all : {P : Act → Type 0} (opens : HoldsOfOpens P) (name : List ℕ) (acts : List Act) → AllByRecursion P acts → AllByRecursion P (opened name acts)
opened-all {P} opens name acts all = (opens.opens name, all-append P acts (closing 1 ∷ []) all (opens.closes, tt))

pub writes-all : {P : Act → Type 0} (greets : HoldsOfGreetings P) (opens : HoldsOfOpens P) (each : HoldsOfReads P) (meeting : Meeting)
    → AllByRecursion P (before_writes meeting)
unfolding before_writes listing_all listings read_acts
writes-all {P} greets opens each meeting =
    let count : ℕ = max 1 (length meeting.device.databases) in
    let reading : List Act = flat_map (read_acts meeting) (active meeting) in (
      greets.users,
      (greets.begins, all-append P (listings count) reading (lists count) (all-flat_map P (read_acts meeting) (active meeting) (λ task. acts task))),
    )
  where
    lists : (count : ℕ) → AllByRecursion P (listings count)
    lists zero = tt
    lists (suc count) = all-append P (listings count) (listing count ∷ []) (lists count) (greets.lists count, tt)

    acts : (task : Task) → AllByRecursion P (read_acts meeting task)
    acts task = by (is_none task.handheld)
      where
        by : (none : Bool) → AllByRecursion P (if none then [] else opened task.name (reads meeting task))
        by true = tt
        by false = opened-all opens task.name (reads meeting task) (reads-all each meeting task)
