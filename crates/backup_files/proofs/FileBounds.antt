-- The database of a file keeps the bounds of its types.
use Rattle.std.proofs.Common.{ℕ, arith, rules, List, [], ◌∷◌}
use Rattle.std.specs.List.{AllByRecursion}
use Rattle.pdb_values.specs.Databases.{DatabaseValue, IsDatabase}
use Rattle.pdb_values.specs.declared.record.Record.{Record}
use Rattle.pdb_files.specs.Blocks.{AreShort}
use Rattle.pdb_files.specs.Entries.{record_data}
use Rattle.pdb_files.specs.Files.{FitsRecord, IsFileText}
use Rattle.palm_device.specs.Bounds.{IsBoundedDatabase, IsBoundedRecord, IsBoundedResource}
use Rattle.handheld_files.proofs.BoundLaws.{all-back, resources_bounded}

records_bounded : (items : List Record) → AllByRecursion FitsRecord items → AreShort (record_data items) → AllByRecursion IsBoundedRecord items
records_bounded [] fits short = tt
records_bounded (item ∷ items) fits short = (
  record {
    id = (let l = fits.0.id in omega (arith, l));
    category = (let l = fits.0.category in omega (arith, l));
    short = short.0;
  },
  records_bounded items fits.1 short.1,
)

-- the entries, of whichever sort they are
record HasEntries (database : DatabaseValue) : Type 0 where
  records : AllByRecursion IsBoundedRecord database.records
  resources : AllByRecursion IsBoundedResource database.resources

entries_of : (database : DatabaseValue) (bytes : List ℕ) → IsFileText database bytes → HasEntries database
entries_of database bytes text = search (rules, all-back, resources_bounded, records_bounded)

pub filed_database : (database : DatabaseValue) (bytes : List ℕ) → IsFileText database bytes → IsDatabase database → IsBoundedDatabase database
filed_database database bytes text whole =
    let entries = entries_of database bytes text in
    record {
      whole = whole;
      head = record {
        name = text.head.name;
        attributes = text.head.attributes;
        version = text.head.version;
        created = text.head.created;
        modified = text.head.modified;
        backup = text.head.backup;
        modnum = text.head.modnum;
        seed = text.head.seed;
        kind = text.head.kind;
        creator = text.head.creator;
      };
      records = entries.records;
      resources = entries.resources;
    }
