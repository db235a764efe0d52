-- Records and resources that are lent from a reply.
use Rattle.std.specs.Prelude.{ℕ, List, if◌then◌else◌}
use Rattle.pdb_values.specs.Heads.{has_bit}
use Rattle.pdb_values.specs.declared.record.Kind.{Kind}
use Rattle.pdb_values.specs.declared.record.Kind.TheVariants.{Live, Archived, Deleted}
use Rattle.pdb_values.specs.declared.record.Record.{Record}
use Rattle.pdb_values.specs.declared.resource.Resource.{Resource}
use Rattle.dlp_commands.specs.Readings.{wire_attributes}
use Rattle.desktop_session.specs.declared.lent.RecordLent.{RecordLent}
use Rattle.desktop_session.specs.declared.lent.ResourceLent.{ResourceLent}

-- the record's id, its attributes on the wire, its category, and its bytes
pub record LentValue : Type 0 where
  pub id : ℕ
  pub attributes : ℕ
  pub category : ℕ
  pub bytes : List ℕ

-- what a lent record says
abbrev pub lent_value : RecordLent → LentValue
lent_value lent = record {
  id = lent.id;
  attributes = lent.attributes;
  category = lent.category;
  bytes = lent.bytes.now;
}

-- a resource's type, id and bytes
pub record LentResource : Type 0 where
  pub kind : List ℕ
  pub id : ℕ
  pub bytes : List ℕ

-- what a lent resource says
abbrev pub lent_resource : ResourceLent → LentResource
lent_resource lent = record { kind = lent.kind.0; id = lent.id; bytes = lent.bytes.now }

-- a record of the device as it is lent: its attributes as they are on the wire
abbrev pub record_lent : Record → LentValue
record_lent item = record {
  id = item.id;
  attributes = wire_attributes item;
  category = item.content.category;
  bytes = item.content.bytes;
}

-- a resource of the device as it is lent
abbrev pub resource_lent : Resource → LentResource
resource_lent resource = record { kind = resource.kind.0; id = resource.id; bytes = resource.bytes }

-- attribute 0x08: the user deleted it and wants it kept in an archive, with 0x80 or without; 0x80
-- alone: the user deleted it
abbrev pub lent_kind : ℕ → Kind
lent_kind attributes =
    if has_bit 0x08 attributes then Archived
    else (if has_bit 0x80 attributes then Deleted else Live)
