-- What each side holds of the items, and the files that stand for it.
use Rattle.std.specs.Prelude.{ℕ, false, ◌==◌, ◌||◌, nat_lt, if◌then◌else◌, List, [], ◌∷◌, ◌++◌, codes, option_map, option_to_list, replicate, Option, None}
use Rattle.std.specs.Prelude.{Some}
use Rattle.std.specs.Fmt.{decimal}
use Rattle.std.specs.FinMap as finmap
use Rattle.std.specs.List.{flat_map}
use Rattle.hs_folders.specs.FileMaps.{FileMap}
use Rattle.pdb_values.specs.Databases.{DatabaseValue}
use Rattle.pdb_values.specs.declared.head.DbHead.{DbHead}
use Rattle.pdb_values.specs.declared.record.Record.{Record}
use Rattle.pdb_values.specs.declared.user.UserInfo.{UserInfo}
use Rattle.pdb_files.specs.Files.{canonical}
use Rattle.folder_files.specs.InfoFiles.{device_text}
use Rattle.made_folders.specs.declared.item.Item.{Item}
use Rattle.made_folders.specs.declared.side.MadeSide.{MadeSide}
use Rattle.made_folders.specs.declared.side.MadeSide.TheVariants.{Handheld, Base, Desktop}

-- the letter that the text of an item of a kind begins with, where the side has it: `h` where the
-- handheld changed or made it, `d` where
-- the desktop did, and else `r`
abbrev pub letter_on : MadeSide → ℕ → Option ℕ
letter_on Handheld kind =
    if (kind == 5) || (kind == 8) then Some 104 else if nat_lt kind 8 then Some 114 else None
letter_on Base kind = if nat_lt kind 8 then Some 114 else None
letter_on Desktop kind =
    if (kind == 6) || (kind == 9) then Some 100 else if nat_lt kind 6 then Some 114 else None

-- the letter, the number in decimal, and the fill of `x`
abbrev pub text_of : ℕ → Item → List ℕ
text_of letter item = letter ∷ decimal item.number ++ replicate item.fill 120

-- what the desktop made has no id yet
abbrev pub id_of : Item → ℕ
id_of item = if item.kind == 9 then 0 else item.number

-- a live record with the text of a letter, which is dirty where the handheld changed or made it
abbrev pub record_with : Item → ℕ → Record
record_with item letter = record {
  id = id_of item;
  deleted = false;
  dirty = letter == 104;
  busy = false;
  content = record { category = 0; secret = false; bytes = text_of letter item };
}

-- the record that a side has of an item
abbrev pub record_on : MadeSide → Item → Option Record
record_on side item = option_map (record_with item) (letter_on side item.kind)

-- the records of a side, in rising numbers
abbrev pub records_on : MadeSide → List Item → List Record
records_on side items = flat_map (λ item. option_to_list (record_on side item)) items

-- MadeDB, of type DATA and creator made
abbrev pub made_head : DbHead
made_head = record {
  name = codes "MadeDB";
  attributes = 0;
  version = 0;
  created = 0;
  modified = 0;
  backup = 0;
  modnum = 0;
  seed = 0;
  kind = record { 0 = codes "DATA" };
  creator = record { 0 = codes "made" };
}

-- the database of a side
abbrev pub made_database : MadeSide → List Item → DatabaseValue
made_database side items = record {
  head = made_head;
  app = None;
  sort = None;
  records = records_on side items;
  resources = [];
}

-- a handheld that was synchronized with the desktop of number 1
abbrev pub made_user : UserInfo
made_user = record { user = 0; viewer = 0; pc = 1; good = 0; last = 0; name = []; password = [] }

-- the handheld's folder
abbrev pub handheld_files : List Item → FileMap
handheld_files items =
    finmap.insert
    (finmap.insert finmap.empty (codes "MadeDB.pdb") (canonical (made_database Handheld items)))
    (codes "device.inf")
    (device_text made_user)

-- the desktop's folder: one without an information file has number 1
abbrev pub desktop_files : List Item → FileMap
desktop_files items =
    finmap.insert
    (finmap.insert finmap.empty (codes "MadeDB.pdb") (canonical (made_database Desktop items)))
    (codes "MadeDB.base")
    (canonical (made_database Base items))
