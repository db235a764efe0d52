-- What both sides of made folders hold once they are opened: one database each, and a user and marks that agree.
use Rattle.std.proofs.Common.{◌≡◌, ◌∙◌, ◌<◌, ◌≤◌, ◌&&◌, ℕ, Bool, true, false, refl, sym, ap, subst, arith, List, [], ◌∷◌, length}
use Rattle.std.specs.Prelude.{Option, None, Some, bytes_eq, codes, cond, option_and_then, option_map, option_to_list}
use Rattle.std.specs.FinMap as finmap
use Rattle.std.specs.FinMap.{get-empty}
use Rattle.std.specs.Ordering.{nat_cmp}
use Rattle.std.specs.Cmp.Lexicographic.{slice_cmp}
use Rattle.std.specs.List.{AllByRecursion}
use Rattle.hs_folders.specs.FileMaps.{FileMap}
use Rattle.pdb_values.specs.Databases.{DatabaseValue}
use Rattle.pdb_values.specs.NamedDatabases.{NamesRise, database_of}
use Rattle.pdb_values.specs.Stems.{stem_byte}
use Rattle.pdb_values.specs.declared.user.UserInfo.{UserInfo}
use Rattle.pdb_values.proofs.NamedLaws.{bytes_eq-is, bytes_eq-other, bytes_eq-own, database_of-name, database_of-same}
use Rattle.pdb_files.specs.Files.{IsFileText, canonical}
use Rattle.pdb_files.proofs.FileLaws.{one_database}
use Rattle.folder_files.specs.FileNames.{database_file, desktop_info_file, journal_file}
use Rattle.folder_files.specs.Slots.{SlotInfoValue}
use Rattle.folder_files.specs.InfoFiles.{IsDeviceFile, desktop_in, device_forms, device_text, device_values}
use Rattle.folder_files.specs.Lines.{SaysDate}
use Rattle.folder_files.proofs.LineLaws.{lines_written}
use Rattle.folder_files.proofs.ValueLaws.{name_says, password_says}
use Rattle.hex.specs.Hex.{IsBytes, encode_lower}
use Rattle.pdb_values.specs.PalmDates.{wire_date}
use Rattle.folder_files.proofs.InfoLaws.{device_only}
use Rattle.handheld_files.specs.Handhelds.{IsHeld, is_database_file}
use Rattle.handheld_files.specs.Openings.{HoldsAll}
use Rattle.handheld_files.specs.Settled.{as_opened}
use Rattle.handheld_files.proofs.ChangeLaws.{database_file_is}
use Rattle.desk_journal.specs.Overlays.{finished}
use Rattle.desk_journal.proofs.OverlayLaws.{finished_none, get_put, same_name, same_name-is, same_name-other}
use Rattle.desk_store.specs.DeskFiles.{file_in, slot_file}
use Rattle.desk_store.specs.Desks.{IsDesk}
use Rattle.desk_store.specs.Shelves.{AreInOrder, SlotValue, database_at, first_slots, if_database, infos_of, shelf_at, slots_or_first}
use Rattle.desk_store.specs.declared.role.Role.{Role}
use Rattle.desk_store.specs.declared.role.Role.TheVariants as role
use Rattle.desk_store.proofs.FileLaws.{database_read}
use Rattle.desk_store.proofs.OwnLaws.{same_file}
use Rattle.made_folders.specs.Drawn.{IsDrawn}
use Rattle.made_folders.specs.Numbers.{AreMade}
use Rattle.made_folders.specs.Sides.{desktop_files, handheld_files, made_database, made_user}
use Rattle.made_folders.specs.declared.item.Item.{Item}
use Rattle.made_folders.specs.declared.side.MadeSide.{MadeSide}
use Rattle.made_folders.specs.declared.side.MadeSide.TheVariants.{Base, Desktop, Handheld}
use Rattle.cmd_session.proofs.MadeItems.{made_settled, made_text}
use Rattle.line_world.proofs.StopLaws.{both as clash}

abbrev pub made_name : List ℕ
made_name = codes "MadeDB"

-- items that a seed and a count made
pub record AreItems (items : List Item) : Type 0 where
  pub are : AreMade 1 items
  pub drawn : AllByRecursion IsDrawn items
  pub few : length items ≤ 5000

-- ---- files by their names

abbrev no_files : FileMap
no_files = finmap.empty

get_two : (one other q : List ℕ) (a b : List ℕ)
    → finmap.get (finmap.insert (finmap.insert no_files one a) other b) q ≡ cond (same_name q other) (Some b) (cond (same_name q one) (Some a) None)
get_two one other q a b = get_put (finmap.insert no_files one a) other b q
    ∙ ap (cond (same_name q other) (Some b)) (get_put no_files one a q ∙ ap (cond (same_name q one) (Some a)) (get-empty (slice_cmp nat_cmp) q))

-- the handheld's database is read from the one file of a database
palm_there : (items : List Item) → finmap.get (handheld_files items) (codes "MadeDB.pdb") ≡ Some (canonical (made_database Handheld items))
palm_there items = get_two (codes "MadeDB.pdb") (codes "device.inf") (codes "MadeDB.pdb") (canonical (made_database Handheld items)) (device_text made_user)

palm_alone : (items : List Item) (file : List ℕ) {bytes : List ℕ} → is_database_file file ≡ true → finmap.get (handheld_files items) file ≡ Some bytes
    → bytes ≡ canonical (made_database Handheld items)
palm_alone items file {bytes} is there =
    by (same_name file (codes "device.inf")) refl (same_name file (codes "MadeDB.pdb"))
    (sym (get_two (codes "MadeDB.pdb") (codes "device.inf") file (canonical (made_database Handheld items)) (device_text made_user)) ∙ there)
  where
    by : (info : Bool) → same_name file (codes "device.inf") ≡ info → (own : Bool)
        → cond info (Some (device_text made_user)) (cond own (Some (canonical (made_database Handheld items))) None) ≡ Some bytes
        → bytes ≡ canonical (made_database Handheld items)
    by true named own found =
        let name = bytes_eq-is file (codes "device.inf") (sym (same_name-is file (codes "device.inf")) ∙ named) in
        let other : is_database_file (codes "device.inf") ≡ true = subst (λ (n : List ℕ). is_database_file n ≡ true) name is in
        absurd cc
    by false named true found = cc
    by false named false found = absurd cc

-- the handheld holds this database alone
pub made_handheld : {items : List Item} {databases : List DatabaseValue} {user : UserInfo} → AreItems items
    → HoldsAll (handheld_files items) databases user → databases ≡ made_database Handheld items ∷ []
made_handheld {items} {databases} are holds =
    database_of-same databases (own ∷ []) holds.stands.order (refl, tt) (λ name. by name (bytes_eq made_name name) refl)
  where
    own : DatabaseValue
    own = made_database Handheld items

    settled : as_opened own ≡ own
    settled = made_settled items are.are are.drawn

    text : IsFileText own (canonical own)
    text = made_text Handheld items are.drawn are.few

    held : IsHeld databases (codes "MadeDB.pdb") (canonical own)
    held = holds.stands.each_file (codes "MadeDB.pdb") (canonical own) refl (palm_there items)

    held_is : held.stored ≡ own
    held_is = one_database (canonical own) held.stored own held.file.text text

    found : database_of made_name databases ≡ Some own
    found = ap (λ (d : DatabaseValue). database_of d.head.name databases) (sym held_is) ∙ held.held
        ∙ ap (λ (d : DatabaseValue). Some (as_opened d)) held_is ∙ ap Some settled

    other : (name : List ℕ) (o : Option DatabaseValue) → database_of name databases ≡ o → bytes_eq made_name name ≡ false → o ≡ None
    other name None is apart = refl
    other name (Some d) is apart =
        let has = holds.stands.each_database name d is in
        let bytes = palm_alone items (database_file has.stored.head) (database_file_is has.stored.head) has.there in
        let stored = one_database (canonical own) has.stored own (subst (IsFileText has.stored) bytes has.text) text in
        let same : d ≡ own = has.is ∙ ap as_opened stored ∙ settled in
        let named = database_of-name name databases d is in
        absurd (clash (ap (λ (e : DatabaseValue). bytes_eq e.head.name name) (sym same)
        ∙ ap (λ (n : List ℕ). bytes_eq n name) named ∙ bytes_eq-own name) apart)

    by : (name : List ℕ) (b : Bool) → bytes_eq made_name name ≡ b → database_of name databases ≡ cond b (Some own) None
    by name true is = ap (λ (n : List ℕ). database_of n databases) (sym (bytes_eq-is made_name name is)) ∙ found
    by name false is = other name (database_of name databases) refl is

-- ---- its user

no_bytes : IsBytes []
no_bytes i = grind arith

no_date : SaysDate 0 (encode_lower (wire_date 0))
no_date = grind arith

made_file : IsDeviceFile made_user (device_text made_user)
made_file =
    lines_written device_forms (device_values made_user) (
      refl,
      (
        (refl, omega arith),
        (
          (refl, omega arith),
          ((refl, omega arith), (no_date, (no_date, (name_says [] no_bytes (omega arith) refl, (password_says [] no_bytes (omega arith), tt))))),
        ),
      ),
    )

-- its user is the one that was made
pub made_user_is : (items : List Item) {databases : List DatabaseValue} {user : UserInfo} → HoldsAll (handheld_files items) databases user
    → user ≡ made_user
made_user_is items {user} holds =
    grind (
      arith,
      get_two (codes "MadeDB.pdb") (codes "device.inf") (codes "device.inf") (canonical (made_database Handheld items)) (device_text made_user),
      device_only (device_text made_user) user,
      device_only (device_text made_user) made_user made_file,
    )

-- ---- the desktop

rows_name : slot_file 0 role.Rows made_name ≡ codes "MadeDB.pdb"
unfolding stem_byte
rows_name = refl

base_name : slot_file 0 role.Base made_name ≡ codes "MadeDB.base"
unfolding stem_byte
base_name = refl

abbrev role_is : Role → Role → Bool
role_is role.Rows role.Rows = true
role_is role.Base role.Base = true
role_is role.Archive role.Archive = true
role_is one other = false

file_same : (one other : Role) (name : List ℕ)
    → same_name (slot_file 0 one name) (slot_file 0 other made_name) ≡ (role_is one other && bytes_eq name made_name)
file_same one other name = by one other
  where
    differ : (one other : Role) → (one ≡ other → ⊥) → same_name (slot_file 0 one name) (slot_file 0 other made_name) ≡ false
    differ one other apart = same_name-other (slot_file 0 one name) (slot_file 0 other made_name)
        (λ e. apart (same_file 0 0 one other name made_name (omega arith) (omega arith) e).1)

    alike : (role : Role) (b : Bool) → bytes_eq name made_name ≡ b → same_name (slot_file 0 role name) (slot_file 0 role made_name) ≡ b
    alike role true is = same_name-is (slot_file 0 role name) (slot_file 0 role made_name)
        ∙ ap (λ (n : List ℕ). bytes_eq (slot_file 0 role n) (slot_file 0 role made_name)) (bytes_eq-is name made_name is)
        ∙ bytes_eq-own (slot_file 0 role made_name)
    alike role false is = same_name-other (slot_file 0 role name) (slot_file 0 role made_name) (λ e. clash
        (ap (λ (n : List ℕ). bytes_eq n made_name) ((same_file 0 0 role role name made_name (omega arith) (omega arith) e).2) ∙ bytes_eq-own made_name) is)

    by : (one other : Role) → same_name (slot_file 0 one name) (slot_file 0 other made_name) ≡ (role_is one other && bytes_eq name made_name)
    by role.Rows role.Rows = alike role.Rows (bytes_eq name made_name) refl
    by role.Base role.Base = alike role.Base (bytes_eq name made_name) refl
    by role.Archive role.Archive = alike role.Archive (bytes_eq name made_name) refl
    by role.Rows role.Base = differ role.Rows role.Base (λ e. cc)
    by role.Rows role.Archive = differ role.Rows role.Archive (λ e. cc)
    by role.Base role.Rows = differ role.Base role.Rows (λ e. cc)
    by role.Base role.Archive = differ role.Base role.Archive (λ e. cc)
    by role.Archive role.Rows = differ role.Archive role.Rows (λ e. cc)
    by role.Archive role.Base = differ role.Archive role.Base (λ e. cc)

-- what the desktop has in a role under a name
abbrev shelved_as : List Item → Role → Option DatabaseValue
shelved_as items role.Rows = Some (made_database Desktop items)
shelved_as items role.Base = Some (made_database Base items)
shelved_as items role.Archive = None

file_at : (items : List Item) (one : Role) (name : List ℕ)
    → finmap.get (desktop_files items) (slot_file 0 one name) ≡ cond (bytes_eq name made_name) (option_map canonical (shelved_as items one)) None
file_at items one name =
    get_two (codes "MadeDB.pdb") (codes "MadeDB.base") (slot_file 0 one name) rows base
    ∙ ap (λ (n : List ℕ). cond (same_name (slot_file 0 one name) n) (Some base)
    (cond (same_name (slot_file 0 one name) (codes "MadeDB.pdb")) (Some rows) None)) (sym base_name)
    ∙ ap (λ (n : List ℕ). cond (same_name (slot_file 0 one name) (slot_file 0 role.Base made_name)) (Some base)
    (cond (same_name (slot_file 0 one name) n) (Some rows) None)) (sym rows_name)
    ∙ ap (λ (b : Bool). cond b (Some base) (cond (same_name (slot_file 0 one name) (slot_file 0 role.Rows made_name)) (Some rows) None))
    (file_same one role.Base name)
    ∙ ap (λ (b : Bool). cond (role_is one role.Base && bytes_eq name made_name) (Some base) (cond b (Some rows) None)) (file_same one role.Rows name)
    ∙ by one (bytes_eq name made_name)
  where
    rows : List ℕ
    rows = canonical (made_database Desktop items)

    base : List ℕ
    base = canonical (made_database Base items)

    by : (one : Role) (b : Bool)
        → cond (role_is one role.Base && b) (Some base) (cond (role_is one role.Rows && b) (Some rows) None) ≡ cond b
        (option_map canonical (shelved_as items one)) None
    by role.Rows true = refl
    by role.Rows false = refl
    by role.Base true = refl
    by role.Base false = refl
    by role.Archive true = refl
    by role.Archive false = refl

found_at : {items : List Item} → AreItems items → (one : Role) (name : List ℕ)
    → database_at (desktop_files items) 1 0 one name ≡ cond (bytes_eq name made_name) (shelved_as items one) None
found_at {items} are one name =
    ap (option_and_then (λ bytes. if_database (file_in 1 (slot_file 0 one name) bytes))) (file_at items one name) ∙ by one (bytes_eq name made_name) refl
  where
    read : (one : Role) (side : MadeSide) → bytes_eq name made_name ≡ true
        → if_database (file_in 1 (slot_file 0 one name) (canonical (made_database side items))) ≡ Some (made_database side items)
    read one side is =
        ap (λ (n : List ℕ). if_database (file_in 1 (slot_file 0 one n) (canonical (made_database side items)))) (bytes_eq-is name made_name is)
        ∙ ap if_database (database_read 1 0 one (made_database side items) (canonical (made_database side items)) (omega arith) refl
        (made_text side items are.drawn are.few)).1

    by : (one : Role) (b : Bool) → bytes_eq name made_name ≡ b
        → option_and_then (λ bytes. if_database (file_in 1 (slot_file 0 one name) bytes)) (cond b (option_map canonical (shelved_as items one)) None)
        ≡ cond b (shelved_as items one) None
    by role.Rows true is = read role.Rows Desktop is
    by role.Base true is = read role.Base Base is
    by role.Archive true is = refl
    by role.Rows false is = refl
    by role.Base false is = refl
    by role.Archive false is = refl

-- a desktop with the made files: one slot without a user, with these databases
pub record MadeSlot (items : List Item) (slot : SlotValue) : Type 0 where
  pub marks : slot.marks ≡ record { pc = 1; user = 0; last = 0; name = [] }
  pub parted : slot.parted ≡ []
  pub rows : slot.shelves.rows ≡ made_database Desktop items ∷ []
  pub bases : slot.shelves.bases ≡ made_database Base items ∷ []
  pub archives : slot.shelves.archives ≡ []

no_info : (items : List Item) → finmap.get (desktop_files items) desktop_info_file ≡ None
no_info items = get_two (codes "MadeDB.pdb") (codes "MadeDB.base") desktop_info_file (canonical (made_database Desktop items))
    (canonical (made_database Base items))

no_journal : (items : List Item) → finmap.get (desktop_files items) journal_file ≡ None
no_journal items = get_two (codes "MadeDB.pdb") (codes "MadeDB.base") journal_file (canonical (made_database Desktop items))
    (canonical (made_database Base items))

-- nothing is to be finished there
pub made_finished : (items : List Item) → Some (desktop_files items) ≡ option_map finished (Some (desktop_files items))
made_finished items = finished_none (Some (desktop_files items)) (no_journal items)

shelf_is : (items : List Item) (shelf : List DatabaseValue) (one : Role) → NamesRise shelf
    → ((name : List ℕ) → database_of name shelf ≡ cond (bytes_eq name made_name) (shelved_as items one) None)
    → shelf ≡ option_to_list (shelved_as items one)
shelf_is items shelf one rise each =
    database_of-same shelf (option_to_list (shelved_as items one)) rise (rises one) (λ name. each name ∙ sym (look one name (bytes_eq name made_name) refl))
  where
    rises : (one : Role) → NamesRise (option_to_list (shelved_as items one))
    rises role.Rows = (refl, tt)
    rises role.Base = (refl, tt)
    rises role.Archive = tt

    swap : (name : List ℕ) (b : Bool) → bytes_eq name made_name ≡ b → bytes_eq made_name name ≡ b
    swap name true is = ap (λ (n : List ℕ). bytes_eq made_name n) (bytes_eq-is name made_name is) ∙ bytes_eq-own made_name
    swap name false is = bytes_eq-other made_name name (λ e. clash (ap (λ (n : List ℕ). bytes_eq n made_name) (sym e) ∙ bytes_eq-own made_name) is)

    look : (one : Role) (name : List ℕ) (b : Bool) → bytes_eq name made_name ≡ b
        → database_of name (option_to_list (shelved_as items one)) ≡ cond b (shelved_as items one) None
    look role.Rows name true is = rw (swap name true is) refl
    look role.Rows name false is = rw (swap name false is) refl
    look role.Base name true is = rw (swap name true is) refl
    look role.Base name false is = rw (swap name false is) refl
    look role.Archive name true is = refl
    look role.Archive name false is = refl

-- equal lists of one are of equal ones
only : {a b : SlotInfoValue} → a ∷ [] ≡ b ∷ [] → a ≡ b
only e = cc

pub made_desktop : {items : List Item} {slots : List SlotValue} → AreItems items → IsDesk (Some (desktop_files items)) slots
    → (slot : SlotValue) × (slots ≡ slot ∷ []) × MadeSlot items slot
made_desktop {items} {slots} are desk =
    by slots (desk.stands.marked ∙ ap (λ (o : Option (List ℕ)). slots_or_first (option_map desktop_in o)) (no_info items)) desk.ordered desk.stands.shelved
  where
    by : (slots : List SlotValue) → infos_of slots ≡ first_slots → AreInOrder slots
        → ((slot : ℕ) (one : Role) (name : List ℕ) → slot < length slots → database_of name (shelf_at slots slot one)
        ≡ database_at (desktop_files items) (length slots) slot one name) → (slot : SlotValue) × (slots ≡ slot ∷ []) × MadeSlot items slot
    by [] marks order shelved = absurd cc
    by (slot ∷ []) marks order shelved = (
      slot,
      refl,
      record {
        marks = ap (λ (info : SlotInfoValue). info.marks) (only marks);
        parted = ap (λ (info : SlotInfoValue). info.parted) (only marks);
        rows = shelf_is items slot.shelves.rows role.Rows order.0.rows (λ name. shelved 0 role.Rows name (omega arith) ∙ found_at are role.Rows name);
        bases = shelf_is items slot.shelves.bases role.Base order.0.bases (λ name. shelved 0 role.Base name (omega arith) ∙ found_at are role.Base name);
        archives = shelf_is items slot.shelves.archives role.Archive order.0.archives (λ name. shelved 0 role.Archive name (omega arith)
            ∙ found_at are role.Archive name);
      },
    )
    by (slot ∷ more ∷ later) marks order shelved = absurd cc
