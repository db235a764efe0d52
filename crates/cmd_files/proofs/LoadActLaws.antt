-- The requests of a session that installs databases, and what they make of a handheld.
use Rattle.std.proofs.lemmas.Bool.{and_parts, not-true, or_right}
use Rattle.std.proofs.Common.{◌≡◌, ◌∙◌, ◌<◌, ap, refl, sym, arith, append-nil, append_assoc, ℕ, ◌||◌, Bool, true, false, cond, List, [], ◌∷◌, ◌++◌, length}
use Rattle.std.specs.Prelude.{Option, Some, None, flat_map, is_some, map, nat_lt}
use Rattle.std.specs.List.{AllByRecursion, list_all, list_any}
use Rattle.std.specs.Str.{bytes_eq}
use Rattle.std.proofs.lemmas.List.{length-append}
use Rattle.pdb_values.specs.Databases.{DatabaseValue}
use Rattle.pdb_values.specs.Heads.{is_read_only}
use Rattle.pdb_values.specs.NamedDatabases.{NamesRise, comes_before, database_of}
use Rattle.pdb_values.specs.Names.{IsName}
use Rattle.pdb_values.specs.declared.head.DbHead.{DbHead}
use Rattle.pdb_values.specs.declared.user.UserInfo.{UserInfo}
use Rattle.pdb_values.proofs.NamedLaws.{bytes_eq-own, comes_before-differs, comes_before-differs_from}
use Rattle.palm_device.specs.Bounds.{IsBoundedDatabase}
use Rattle.palm_device.specs.Devices.{Device, most_databases}
use Rattle.palm_device.specs.Handles.{no_handles}
use Rattle.dlp_commands.specs.DatabaseFunctions.{create_db}
use Rattle.dlp_commands.specs.DeviceSteps.{tried}
use Rattle.dlp_requests.specs.RequestTexts.{request_text}
use Rattle.desktop_session.specs.Acts.{Act, acted, text}
use Rattle.desktop_session.specs.Requests.{deleting, ending, making}
use Rattle.desktop_session.specs.Says.{IsPrefix}
use Rattle.desktop_session.specs.Tellings.{device_after}
use Rattle.desktop_session.proofs.OrderLaws.{name_right}
use Rattle.session_parts.specs.Rests.{IsAtRest}
use Rattle.install_backup.specs.declared.mark.Mark.{Mark}
use Rattle.install_backup.specs.Installed.{installed_head, with_installed}
use Rattle.install_backup.specs.InstallActs.{install_acts, install_one, installs_of, is_installable}
use Rattle.install_backup.specs.InstallEnds.{all_installed, first_full}
use Rattle.install_backup.specs.Installs.{making_acts}
use Rattle.install_backup.specs.Marks.{marked_greeting, marked_on, marked_user}
use Rattle.install_backup.specs.Rooms.{has_room}
use Rattle.install_backup.proofs.ClosedLaws.{says_one}
use Rattle.install_backup.proofs.EndLaws.{installs-are}
use Rattle.install_backup.proofs.GoneLaws.{can_delete, deleted, with_databases, without-none}
use Rattle.install_backup.proofs.MarkLaws.{marked_after, marked_rests}
use Rattle.install_backup.proofs.WholeLaws.{install_goes, installed_rests}
use Rattle.cmd_files.specs.Loads.{acts_until_one}
use Rattle.desktop_session.proofs.ListLaws.{after_append}

-- ---- the first one that has no room

abbrev HasName : List ℕ → DatabaseValue → Bool
HasName name database = bytes_eq database.head.name name

-- its name is that of one of them
first_named : (databases held : List DatabaseValue) (name : List ℕ) → first_full databases held ≡ Some name → list_any (HasName name) databases ≡ true
first_named [] held name is = absurd cc
first_named (database ∷ databases) held name is =
    by (is_installable database) (has_room database.head.name held) is (first_named databases (with_installed database held) name)
    (first_named databases held name)
  where
    by : (b c : Bool) → cond b (cond c (first_full databases (with_installed database held)) (Some database.head.name)) (first_full databases held) ≡ Some name
        → (first_full databases (with_installed database held) ≡ Some name → list_any (HasName name) databases ≡ true)
        → (first_full databases held ≡ Some name → list_any (HasName name) databases ≡ true)
        → (HasName name database || list_any (HasName name) databases) ≡ true
    by true true is one two = or_right (HasName name database) (list_any (HasName name) databases) (one is)
    by true false is one two =
        let same : database.head.name ≡ name = cc in
        ap (λ (b : Bool). b || list_any (HasName name) databases) (ap (λ n. bytes_eq n name) same ∙ bytes_eq-own name)
    by false c is one two = or_right (HasName name database) (list_any (HasName name) databases) (two is)

-- none behind a name has it
rises_apart : (name : List ℕ) (databases : List DatabaseValue) → list_all (λ (later : DatabaseValue). comes_before name later.head.name) databases ≡ true
    → list_any (HasName name) databases ≡ true → ⊥
rises_apart name [] behind is = absurd cc
rises_apart name (database ∷ databases) behind is =
    let parts = and_parts (comes_before name database.head.name) (list_all (λ (later : DatabaseValue). comes_before name later.head.name) databases) behind in
    rises_apart name databases parts.1
    (sym (ap (λ (b : Bool). b || list_any (HasName name) databases) (comes_before-differs_from name database.head.name parts.0)) ∙ is)

in_the_midst : (test : DatabaseValue → Bool) (before rest : List DatabaseValue) (one : DatabaseValue) → list_all test (before ++ one ∷ rest) ≡ true
    → test one ≡ true
in_the_midst test [] rest one all = (and_parts (test one) (list_all test rest) all).0
in_the_midst test (database ∷ before) rest one all =
    in_the_midst test before rest one (and_parts (test database) (list_all test (before ++ one ∷ rest)) all).1

-- those before it had room, and it may be written
pub record StandsFirst (before : List DatabaseValue) (one : DatabaseValue) (held : List DatabaseValue) : Type 0 where
  pub room : first_full before held ≡ None
  pub writable : is_installable one ≡ true
  pub full : has_room one.head.name (all_installed before held) ≡ false

pub stands_first : (before rest : List DatabaseValue) (one : DatabaseValue) (held : List DatabaseValue) → NamesRise (before ++ one ∷ rest)
    → first_full (before ++ one ∷ rest) held ≡ Some one.head.name → StandsFirst before one held
stands_first [] rest one held rise is = by (is_installable one) (has_room one.head.name held) refl refl is
  where
    by : (b c : Bool) → is_installable one ≡ b → has_room one.head.name held ≡ c
        → cond b (cond c (first_full rest (with_installed one held)) (Some one.head.name)) (first_full rest held) ≡ Some one.head.name
        → StandsFirst [] one held
    by true false writable full is = record { room = refl; writable = writable; full = full }
    by true true writable room is = absurd (rises_apart one.head.name rest rise.0 (first_named rest (with_installed one held) one.head.name is))
    by false c locked room is = absurd (rises_apart one.head.name rest rise.0 (first_named rest held one.head.name is))
stands_first (database ∷ before) rest one held rise is =
    by (is_installable database) (has_room database.head.name held) refl refl is
    (λ later. stands_first before rest one (with_installed database held) rise.1 later) (λ later. stands_first before rest one held rise.1 later)
  where
    by : (b c : Bool) → is_installable database ≡ b → has_room database.head.name held ≡ c
        → cond b (cond c (first_full (before ++ one ∷ rest) (with_installed database held)) (Some database.head.name)) (first_full (before ++ one ∷ rest) held)
        ≡ Some one.head.name
        → (first_full (before ++ one ∷ rest) (with_installed database held) ≡ Some one.head.name → StandsFirst before one (with_installed database held))
        → (first_full (before ++ one ∷ rest) held ≡ Some one.head.name → StandsFirst before one held) → StandsFirst (database ∷ before) one held
    by true true writable room is later still =
        let first = later is in record { room = rw (writable, room) first.room; writable = first.writable; full = rw writable first.full }
    by true false writable full is later still =
        let same : database.head.name ≡ one.head.name = cc in
        let before_it = in_the_midst (λ (other : DatabaseValue). comes_before database.head.name other.head.name) before rest one rise.0 in
        let differs = comes_before-differs database.head.name one.head.name before_it in
        let own = ap (λ n. bytes_eq n one.head.name) same ∙ bytes_eq-own one.head.name in
        absurd (let both = sym own ∙ differs in cc)
    by false c locked room is later still =
        let first = still is in record { room = rw locked first.room; writable = first.writable; full = rw locked first.full }

-- ---- installed one after another

pub record InstallsGo (device : Device) (databases : List DatabaseValue) : Type 0 where
  pub after : device_after (flat_map says_one databases) device ≡ with_databases (all_installed databases device.databases) device
  pub rests : IsAtRest (with_databases (all_installed databases device.databases) device)

pub installs_go : (databases : List DatabaseValue) (device : Device) → IsAtRest device → AllByRecursion IsBoundedDatabase databases
    → first_full databases device.databases ≡ None → InstallsGo device databases
installs_go [] device rests bounded none = record { after = refl; rests = rests }
installs_go (database ∷ databases) device rests bounded none =
    by (is_installable database) (has_room database.head.name device.databases) refl refl none
    (λ now at_rest room. installs_go databases now at_rest bounded.1 room)
  where
    by : (b c : Bool) → is_installable database ≡ b → has_room database.head.name device.databases ≡ c
        → cond b (cond c (first_full databases (with_installed database device.databases)) (Some database.head.name)) (first_full databases device.databases) ≡ None
        → ((now : Device) → IsAtRest now → first_full databases now.databases ≡ None → InstallsGo now databases) → InstallsGo device (database ∷ databases)
    by true true writable room none later =
        let now = with_databases (with_installed database device.databases) device in
        let goes = install_goes device rests database bounded.0 room (not-true (is_read_only database.head.attributes) writable) in
        let behind = later now (installed_rests device rests database bounded.0 room) none in
        record {
          after = rw writable (after_append (install_one database 1 []) (flat_map says_one databases) device
              ∙ ap (device_after (flat_map says_one databases)) goes.after ∙ behind.after);
          rests = rw writable behind.rests;
        }
    by true false writable full none later = absurd cc
    by false c locked room none later =
        let behind = later device rests none in record { after = rw locked behind.after; rests = rw locked behind.rests }

-- ---- to the end

-- an end leaves databases and user as they are
record StaysAtEnd (device : Device) : Type 0 where
  databases_are : (device_after (ending ∷ []) device).databases ≡ device.databases
  user_is : (device_after (ending ∷ []) device).user ≡ device.user

stays_at_end : (device : Device) → StaysAtEnd device
unfolding acted tried
stays_at_end device = record { databases_are = refl; user_is = refl }

-- the handheld has them all then, its user has the mark, and all else is as before
pub record IsLoadedOn (mark : Mark) (device after : Device) (databases : List DatabaseValue) : Type 0 where
  pub databases_are : after.databases ≡ all_installed databases device.databases
  pub user : after.user ≡ marked_user mark device.user

pub loaded-after : (mark : Mark) (device : Device) (databases : List DatabaseValue) → IsAtRest device → AllByRecursion IsBoundedDatabase databases
    → first_full databases device.databases ≡ None
    → IsLoadedOn mark device (device_after (install_acts mark device.user databases) device) databases
unfolding install_acts
loaded-after mark device databases rests bounded none =
    let first : List Act = marked_greeting mark device.user in
    let marked : Device = marked_on mark device in
    let done = with_databases (all_installed databases device.databases) marked in
    let goes = installs_go databases marked (marked_rests mark device rests) bounded none in
    let whole : device_after (first ++ (installs_of databases ++ ending ∷ [])) device ≡ device_after (ending ∷ []) done =
    after_append first (installs_of databases ++ ending ∷ []) device
    ∙ ap (device_after (installs_of databases ++ ending ∷ [])) (marked_after mark device)
    ∙ after_append (installs_of databases) (ending ∷ []) marked
    ∙ ap (device_after (ending ∷ [])) (ap (λ (acts : List Act). device_after acts marked) (sym (installs-are databases)) ∙ goes.after) in
    let stays = stays_at_end done in
    record {
      databases_are = ap (λ (d : Device). d.databases) whole ∙ stays.databases_are;
      user = ap (λ (d : Device). d.user) whole ∙ stays.user_is;
    }

-- ---- to the first without room

-- a handheld that has no room for a database stays as it is where it is to be made
full_made : (device : Device) (head : DbHead) → IsName head.name → device.handles ≡ no_handles → database_of head.name device.databases ≡ None
    → nat_lt (length device.databases) most_databases ≡ false → (acted (making (installed_head head)) device).1 ≡ device
unfolding acted tried create_db
full_made device head named closed none many = rw (name_right head.name named, none, closed, many) refl

no_room : {A : Type 0} (o : Option A) (b : Bool) → (is_some o || b) ≡ false → (o ≡ None) × (b ≡ false)
no_room None b is = (refl, is)
no_room (Some x) b is = absurd cc

making_none : (device : Device) (one : DatabaseValue) → IsAtRest device → IsBoundedDatabase one → has_room one.head.name device.databases ≡ false
    → device_after (making_acts one) device ≡ device
making_none device one rests bounded full =
    let none = no_room (database_of one.head.name device.databases) (nat_lt (length device.databases) most_databases) full in
    let gone = deleted device one.head.name (can_delete device one.head.name bounded.head.name rests.closed)
    ∙ ap (λ (databases : List DatabaseValue). with_databases databases device) (without-none one.head.name device.databases none.0) in
    ap (λ (d : Device). (acted (making (installed_head one.head)) d).1) gone ∙ full_made device one.head bounded.head.name rests.closed none.0 none.1

pub stopped-after : (mark : Mark) (device : Device) (before : List DatabaseValue) (one : DatabaseValue) → IsAtRest device
    → AllByRecursion IsBoundedDatabase before → IsBoundedDatabase one → StandsFirst before one device.databases
    → device_after (acts_until_one mark device.user before one) device ≡ with_databases (all_installed before device.databases) (marked_on mark device)
stopped-after mark device before one rests bounded one_bounded first =
    let marked : Device = marked_on mark device in
    let goes = installs_go before marked (marked_rests mark device rests) bounded first.room in
    after_append (marked_greeting mark device.user) (installs_of before ++ making_acts one) device
    ∙ ap (device_after (installs_of before ++ making_acts one)) (marked_after mark device)
    ∙ after_append (installs_of before) (making_acts one) marked
    ∙ ap (device_after (making_acts one)) (ap (λ (acts : List Act). device_after acts marked) (sym (installs-are before)) ∙ goes.after)
    ∙ making_none (with_databases (all_installed before device.databases) marked) one goes.rests one_bounded first.full

-- ---- how many there are

pub some-acts : (mark : Mark) (user : UserInfo) (databases : List DatabaseValue) → 0 < length (map text (install_acts mark user databases))
unfolding install_acts marked_greeting
some-acts mark user databases = omega arith

pub some-until : (mark : Mark) (user : UserInfo) (before : List DatabaseValue) (one : DatabaseValue)
    → 0 < length (map text (acts_until_one mark user before one))
unfolding marked_greeting
some-until mark user before one = omega arith

last_of : List (List ℕ) → List ℕ
last_of [] = []
last_of (x ∷ []) = x
last_of (x ∷ y ∷ ys) = last_of (y ∷ ys)

last_of-map : (xs ys : List Act) (y : Act) → last_of (map text (xs ++ y ∷ ys)) ≡ last_of (map text (y ∷ ys))
unfolding last_of text
last_of-map [] ys y = refl
last_of-map (x ∷ []) ys y = refl
last_of-map (x ∷ z ∷ zs) ys y = last_of-map (z ∷ zs) ys y

-- the end of a session is no making of a database
texts_differ : (head : DbHead) → text (making head) ≡ text ending → ⊥
unfolding text request_text
texts_differ head same = absurd cc

-- it is not over where one was to be made
pub until-shorter : (mark : Mark) (user : UserInfo) (databases before : List DatabaseValue) (one : DatabaseValue)
    → IsPrefix (map text (acts_until_one mark user before one)) (map text (install_acts mark user databases))
    → length (map text (acts_until_one mark user before one)) < length (map text (install_acts mark user databases))
unfolding install_acts text last_of
until-shorter mark user databases before one begins = by (marked_greeting mark user) begins.rest begins.is
  where
    by : (first : List Act) (rest : List (List ℕ))
        → map text (first ++ (installs_of before ++ making_acts one)) ++ rest ≡ map text (first ++ (installs_of databases ++ ending ∷ []))
        → length (map text (first ++ (installs_of before ++ making_acts one))) < length (map text (first ++ (installs_of databases ++ ending ∷ [])))
    by first [] is =
        let whole : map text (first ++ (installs_of before ++ making_acts one)) ≡ map text (first ++ (installs_of databases ++ ending ∷ [])) =
        sym (append-nil (map text (first ++ (installs_of before ++ making_acts one)))) ∙ is in
        let made = ap (λ (said : List Act). last_of (map text said)) (append_assoc first (installs_of before) (making_acts one)) in
        let ended = ap (λ (said : List Act). last_of (map text said)) (append_assoc first (installs_of databases) (ending ∷ [])) in
        absurd (texts_differ (installed_head one.head)
        (sym (last_of-map (first ++ installs_of before) (making (installed_head one.head) ∷ []) (deleting one.head.name)) ∙ made
        ∙ ap last_of whole ∙ sym ended ∙ last_of-map (first ++ installs_of databases) [] ending))
    by first (x ∷ rest) is =
        let counted = ap length is in
        let sum = length-append (map text (first ++ (installs_of before ++ making_acts one))) (x ∷ rest) in
        omega (arith, counted, sum)
