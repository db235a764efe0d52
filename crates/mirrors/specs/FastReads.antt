-- A fast reading of an open database: the number of its entries, the ids of its records, each
-- changed record, and by its id each other record that the base has no row of.
use Rattle.std.specs.Prelude.{◌≡◌, ℕ, zero, suc, Bool, true, false, List, [], ◌∷◌, ◌++◌, length, map, Option, None, Some, filter, replicate, if◌then◌else◌}
use Rattle.pdb_values.specs.declared.record.Record.{Record}
use Rattle.dlp_replies.specs.ReplyReading.{reply_at}
use Rattle.palm_device.specs.Devices.{Device}
use Rattle.palm_device.specs.FreshIds.{is_among}
use Rattle.palm_device.specs.Handles.{Base}
use Rattle.palm_device.specs.Records.{is_changed}
use Rattle.dlp_commands.specs.Talks.{Talk}
use Rattle.conduit_rules.specs.ById.{each_id}
use Rattle.conduit_rules.specs.States.{BaseState, no_base, row, gone, base_at, first}
use Rattle.conduit_rules.specs.Views.{first_seen}
use Rattle.conduit_rules.specs.declared.view.Seen.{Seen}
use Rattle.conduit_rules.specs.declared.view.SeenState.TheVariants.{Unread}
use Rattle.desktop_session.specs.Acts.{Act, acted}
use Rattle.desktop_session.specs.Lists.{id_listings, id_parts, ids_listed}
use Rattle.desktop_session.specs.Requests.{counting, reading_next, reading_of}
use Rattle.desktop_session.specs.Tellings.{device_after}
use Rattle.mirrors.specs.Entries.{seen_in}
use Rattle.mirrors.specs.Reads.{entries_of, entries_told}

-- ---- the changed records

-- the entry of the next changed record, where one is lent
abbrev pub next_seen : ℕ → Device → List Seen
next_seen handle device = seen_in (reply_at 0x1F (acted (reading_next handle) device).0)

-- what follows, where one was lent
abbrev pub where_lent : {A : Type 0} → List Seen → List A → List A
where_lent [] rest = []
where_lent (entry ∷ entries) rest = rest

-- requests for the next changed record until none is lent, and at most so many
unfoldable pub changed_reads : ℕ → ℕ → Device → List Act
changed_reads handle zero device = []
changed_reads handle (suc most) device =
    reading_next handle
    ∷ where_lent (next_seen handle device)
    (changed_reads handle most (acted (reading_next handle) device).1)

-- the same where a device is told
abbrev pub changed_reads_of : ℕ → ℕ → Option Talk → List Act
changed_reads_of handle most None = []
changed_reads_of handle most (Some talk) = changed_reads handle most talk.device

-- the entries of the records that these lend
unfoldable pub changed_seen : ℕ → ℕ → Device → List Seen
changed_seen handle zero device = []
changed_seen handle (suc most) device =
    next_seen handle device
    ++ where_lent (next_seen handle device)
    (changed_seen handle most (acted (reading_next handle) device).1)

-- ---- the other records

-- the entry of the record that is lent for an id
abbrev pub seen_of_id : ℕ → Device → ℕ → List Seen
seen_of_id handle device id =
    map (λ (entry : Seen). record entry { id = id })
    (seen_in (reply_at 0x20 (acted (reading_of handle id) device).0))

-- a record with a base row is unread, with the content of the row; any other one is read by its id
abbrev pub other_seen : ℕ → Device → ℕ → BaseState → List Seen
other_seen handle device id (row content) =
    record { id = id; state = Unread; content = content } ∷ []
other_seen handle device id no_base = seen_of_id handle device id
other_seen handle device id (gone content) = seen_of_id handle device id

-- it is asked for by its id where it has no base row
abbrev pub other_reads : ℕ → ℕ → BaseState → List Act
other_reads handle id (row content) = []
other_reads handle id no_base = reading_of handle id ∷ []
other_reads handle id (gone content) = reading_of handle id ∷ []

-- what is said or shown of an id: of a changed record, of another one, and of an id that no record
-- has
abbrev pub by_reading : {A : Type 0} → (Seen → List A) → List A → Option Seen → Bool → List A
by_reading changed other (Some entry) listed = changed entry
by_reading changed other None true = other
by_reading changed other None false = []

abbrev pub reads_at : List Record → ℕ → List ℕ → List Seen → ℕ → List Act
reads_at base handle ids changed id =
    by_reading (λ entry. []) (other_reads handle id (base_at base false id))
    (first_seen id changed) (is_among id ids)

abbrev pub shown_at : List Record → ℕ → Device → List ℕ → List Seen → ℕ → List Seen
shown_at base handle device ids changed id =
    by_reading (λ entry. entry ∷ []) (other_seen handle device id (base_at base false id))
    (first_seen id changed) (is_among id ids)

-- ---- all of it

-- the ids that the device lists
abbrev pub ids_told : ℕ → Device → List ℕ
ids_told handle device = ids_listed device handle (id_parts (entries_told device handle))

-- the changed records are asked for at most once more than there are ids
abbrev pub most_changed : ℕ → Device → ℕ
most_changed handle device = suc (length (ids_told handle device))

abbrev pub changed_acts : ℕ → Device → List Act
changed_acts handle device = changed_reads handle (most_changed handle device) device

abbrev pub changed_told : ℕ → Device → List Seen
changed_told handle device = changed_seen handle (most_changed handle device) device

-- the number of entries, and the ids of the records
abbrev pub listing_acts : ℕ → Option Talk → List Act
listing_acts handle talk = counting handle ∷ id_listings handle (id_parts (entries_of talk handle))

-- what a fast reading says; records are read by their ids in rising order
unfoldable pub fast_reads : List Record → ℕ → Device → List Act
fast_reads base handle device =
    (counting handle ∷ id_listings handle (id_parts (entries_told device handle)))
    ++ (changed_acts handle device
    ++ each_id (reads_at base handle (ids_told handle device) (changed_told handle device)))

-- what it shows
unfoldable pub fast_shown : List Record → ℕ → Device → List Seen
fast_shown base handle device =
    each_id (shown_at base handle (device_after (changed_acts handle device) device)
    (ids_told handle device) (changed_told handle device))

-- what is said where a device is told
abbrev pub fast_reads_of : List Record → ℕ → Option Talk → List Act
fast_reads_of base handle None = []
fast_reads_of base handle (Some talk) = fast_reads base handle talk.device

-- ---- by the records of a database

-- no changed record of an open database was asked for yet
abbrev pub IsAtFirst : Base → Type 0
IsAtFirst base = base.opened.next ≡ 0

-- a record that did not change and has no base row is read by its id
abbrev pub asks_of : List Record → ℕ → Option Record → List Act
asks_of base handle None = []
asks_of base handle (Some item) =
    if is_changed item then [] else other_reads handle item.id (base_at base false item.id)

-- the number of entries, and the ids in parts of 8,000; the changed records one by one until there
-- is none, so one request more than there are; and by rising ids each other record without a base
-- row
abbrev pub fast_asks : List Record → ℕ → List Record → List Act
fast_asks base handle records =
    (counting handle ∷ id_listings handle (id_parts (length records)))
    ++ (replicate (suc (length (filter is_changed records))) (reading_next handle)
    ++ each_id (λ i. asks_of base handle (first i records)))
