-- The requests of a session, in its own words (pilot-link, `pi-dlp.h`). Reading takes everything:
-- offset 0 and length 65,535.
use Rattle.std.specs.Prelude.{ℕ, Bool, List, [], ◌∷◌, Option, None, Some, replicate, if◌then◌else◌}
use Rattle.pdb_values.specs.Contents.{ContentValue}
use Rattle.pdb_values.specs.PalmDates.{wire_date}
use Rattle.pdb_values.specs.Heads.{has_bit}
use Rattle.pdb_values.specs.declared.head.DbHead.{DbHead}
use Rattle.pdb_values.specs.declared.user.UserInfo.{UserInfo}
use Rattle.dlp_requests.specs.Forms as form
use Rattle.dlp_commands.specs.UserFunctions.{chosen, name_length}
use Rattle.desktop_session.specs.Acts.{Act, act, act_given}

-- what the handheld knows of its user; that the conduits begin; that all is done
abbrev pub reading_user : Act
reading_user = act (record { form = form.ReadUserInfo; fields = tt })

abbrev pub beginning : Act
beginning = act (record { form = form.OpenConduit; fields = tt })

abbrev pub ending : Act
ending = act (record { form = form.EndOfSync; fields = (0, tt) })

-- a name, where its bit is set and it isn't empty
abbrev pub some_name : List ℕ → Option (List ℕ)
some_name [] = None
some_name (byte ∷ bytes) = Some (byte ∷ bytes)

abbrev pub marked_name : ℕ → List ℕ → Option (List ℕ)
marked_name bits name = if has_bit 0x10 bits then some_name name else None

-- user (bit 0x80), viewer (0x08), PC (0x40), date (0x20) and name (0x10) of a mark, each where its
-- bit is set and else zeros
abbrev pub marking : UserInfo → ℕ → Act
marking mark bits = act (record {
  form = form.WriteUserInfo;
  fields = (
    chosen 0x80 bits mark.user 0,
    (
      chosen 0x08 bits mark.viewer 0,
      (
        chosen 0x40 bits mark.pc 0,
        (
          chosen 0x20 bits (wire_date mark.last) (replicate 8 0),
          (bits, (name_length (marked_name bits mark.name), (marked_name bits mark.name, tt))),
        ),
      ),
    ),
  );
})

-- the databases from an index on
abbrev pub listing : ℕ → Act
listing start = act (record { form = form.ReadDbList; fields = (0x80, (0, (start, tt))) })

-- a database, opened in a mode: with all rights, or to read; made; taken away; closed
abbrev pub opening_in : ℕ → List ℕ → Act
opening_in mode name = act (record { form = form.OpenDb; fields = (0, (mode, (name, tt))) })

abbrev pub opening : List ℕ → Act
opening name = opening_in 0xD0 name

abbrev pub opening_to_read : List ℕ → Act
opening_to_read name = opening_in 0x90 name

abbrev pub making_of : List ℕ → List ℕ → ℕ → ℕ → List ℕ → Act
making_of creator kind attributes version name = act (record {
  form = form.CreateDb;
  fields = (
    creator,
    (kind, (0, (tt, (attributes, (version, (name, tt)))))),
  );
})

abbrev pub making : DbHead → Act
making head = making_of head.creator.0 head.kind.0 head.attributes head.version head.name

abbrev pub deleting : List ℕ → Act
deleting name = act (record { form = form.DeleteDb; fields = (0, (tt, (name, tt))) })

abbrev pub closing : ℕ → Act
closing handle = act (record { form = form.CloseDb; fields = (handle, tt) })

-- how many entries there are; the ids of at most 8,000 from an index on
abbrev pub counting : ℕ → Act
counting handle = act (record { form = form.ReadOpenDbInfo; fields = (handle, tt) })

-- the ids of at most 8,000 records from an index on
abbrev pub listing_ids : ℕ → ℕ → Act
listing_ids handle start = act (record {
  form = form.ReadRecordIdList;
  fields = (handle, (0, (start, (8000, tt))));
})

-- the record at an index, of an id, and the next changed one; the resource at an index; both blocks
abbrev pub reading_at : ℕ → ℕ → Act
reading_at handle index = act (record {
  form = form.ReadRecordByIndex;
  fields = (handle, (tt, (index, (0, (65535, tt)))));
})

abbrev pub reading_of : ℕ → ℕ → Act
reading_of handle id = act (record {
  form = form.ReadRecordById;
  fields = (handle, (tt, (id, (0, (65535, tt)))));
})

abbrev pub reading_next : ℕ → Act
reading_next handle = act (record { form = form.ReadNextModifiedRec; fields = (handle, tt) })

abbrev pub reading_resource : ℕ → ℕ → Act
reading_resource handle index = act (record {
  form = form.ReadResourceByIndex;
  fields = (handle, (tt, (index, (0, (65535, tt)))));
})

abbrev pub reading_app : ℕ → Act
reading_app handle = act (record {
  form = form.ReadAppBlock;
  fields = (handle, (tt, (0, (65535, tt))));
})

abbrev pub reading_sort : ℕ → Act
reading_sort handle = act (record {
  form = form.ReadSortBlock;
  fields = (handle, (tt, (0, (65535, tt))));
})

-- the attributes that are written of a record
abbrev pub secret_bit : Bool → ℕ
secret_bit secret = if secret then 0x10 else 0

-- a record of an id gets this content, or a new record of id 0 does, which got this id
abbrev pub putting : ℕ → ℕ → ℕ → ContentValue → Act
putting given handle id content = act_given given (record {
  form = form.WriteRecord;
  fields = (
    handle,
    (0x80, (id, (secret_bit content.secret, (content.category, (content.bytes, tt))))),
  );
})

-- a record is taken away; all with the delete bit are; all become clean
abbrev pub removing : ℕ → ℕ → Act
removing handle id = act (record { form = form.DeleteRecord; fields = (handle, (0, (id, tt))) })

abbrev pub cleaning : ℕ → Act
cleaning handle = act (record { form = form.CleanUpDatabase; fields = (handle, tt) })

abbrev pub resetting : ℕ → Act
resetting handle = act (record { form = form.ResetSyncFlags; fields = (handle, tt) })

-- the blocks get these bytes; the resource of a type and id does
abbrev pub writing_app : ℕ → List ℕ → Act
writing_app handle bytes =
    act (record { form = form.WriteAppBlock; fields = (handle, (tt, (bytes, tt))) })

abbrev pub writing_sort : ℕ → List ℕ → Act
writing_sort handle bytes =
    act (record { form = form.WriteSortBlock; fields = (handle, (tt, (bytes, tt))) })

abbrev pub putting_resource : ℕ → List ℕ → ℕ → List ℕ → Act
putting_resource handle kind id bytes = act (record {
  form = form.WriteResource;
  fields = (handle, (tt, (kind, (id, (bytes, tt)))));
})
