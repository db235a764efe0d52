-- An archive that grows by entries, one copy of each.
use Rattle.std.specs.Prelude.{◌≡◌, ℕ, Bool, List, [], ◌∷◌, ◌++◌, ◌==◌, ◌&&◌, map, if◌then◌else◌}
use Rattle.std.specs.HashSet.{HashSet, contains}
use Rattle.pdb_values.specs.Contents.{ContentValue}
use Rattle.pdb_values.specs.declared.record.Record.{Record}
use Rattle.conduit_rules.specs.Contents.{same_content}
use Rattle.record_merge.specs.Merging.{is_archived, settled_record}
use Rattle.session_plan.specs.declared.archive.EntryKey.{EntryKey}

-- the entries of an archive: ids and contents
abbrev pub entries_of : List Record → List (ℕ × ContentValue)
entries_of records = map (λ (r : Record). (r.id, r.content)) records

-- the entries as live and clean records
abbrev pub archive_records : List (ℕ × ContentValue) → List Record
archive_records entries = map settled_record entries

-- one entry more, unless it is there
abbrev pub with_entry : ℕ × ContentValue → List Record → List Record
with_entry e kept = if is_archived e (entries_of kept) then kept else kept ++ settled_record e ∷ []

-- one after another
abbrev pub with_entries : List (ℕ × ContentValue) → List Record → List Record
with_entries [] kept = kept
with_entries (e ∷ es) kept = with_entries es (with_entry e kept)

-- the content that a key of an archive's entry has
abbrev pub content_at : EntryKey → ContentValue
content_at key = record {
  category = key.category;
  secret = key.secret;
  bytes = key.bytes.now;
}

-- the entry of a key
abbrev pub entry_at : EntryKey → ℕ × ContentValue
entry_at key = (key.id, content_at key)

-- whether two keys are those of one entry
abbrev pub same_entry : EntryKey → EntryKey → Bool
same_entry a b = (a.id == b.id) && same_content (content_at a) (content_at b)

-- the set has the keys of exactly these entries
abbrev pub Notes : {S : Type 0} → HashSet EntryKey S → List Record → Type 0
Notes seen kept =
    (key : EntryKey) → contains same_entry seen key ≡ is_archived (entry_at key) (entries_of kept)
