-- Each request of an install may be asked at its turn of a handheld on which nothing is open, and which has room for all.
use Rattle.std.proofs.lemmas.Bool.{not-true, or_parts}
use Rattle.std.proofs.Common.{◌≡◌, ◌∙◌, ap, refl, subst, sym, ℕ, Bool, true, false, cond, List, [], ◌∷◌, ◌++◌, append_assoc, length, take}
use Rattle.std.specs.Prelude.{Option, Some, None, filter, flat_map, is_some, nat_lt}
use Rattle.std.specs.List.{AllByRecursion}
use Rattle.pdb_values.specs.Databases.{DatabaseValue}
use Rattle.pdb_values.specs.Heads.{is_read_only}
use Rattle.pdb_values.specs.NamedDatabases.{database_of}
use Rattle.pdb_values.specs.Names.{IsName}
use Rattle.pdb_values.specs.declared.head.DbHead.{DbHead}
use Rattle.pdb_values.specs.declared.user.UserInfo.{UserInfo}
use Rattle.dlp_replies.specs.ReplyValues as reply
use Rattle.palm_device.specs.Bounds.{IsBoundedDatabase}
use Rattle.palm_device.specs.Devices.{Device, most_databases}
use Rattle.palm_device.specs.Handles.{no_handles}
use Rattle.dlp_commands.specs.DatabaseFunctions.{create_db}
use Rattle.dlp_commands.specs.DeviceSteps.{tried}
use Rattle.dlp_commands.specs.Errors.{limit}
use Rattle.desktop_session.specs.Acts.{Act, acted}
use Rattle.desktop_session.specs.Orders.{AreInOrder, IsPossible}
use Rattle.desktop_session.specs.Requests.{deleting, ending, making}
use Rattle.desktop_session.specs.Tellings.{told}
use Rattle.desktop_session.proofs.OrderLaws.{name_right}
use Rattle.session_parts.specs.Rests.{IsAtRest}
use Rattle.install_backup.specs.declared.mark.Mark.{Mark}
use Rattle.install_backup.specs.Installed.{installed_head, with_installed}
use Rattle.install_backup.specs.InstallActs.{install_acts, install_one, installs_of, is_installable}
use Rattle.install_backup.specs.InstallEnds.{all_installed, first_full, until_full}
use Rattle.install_backup.specs.Installs.{making_acts}
use Rattle.install_backup.specs.Marks.{marked_greeting, marked_on}
use Rattle.install_backup.specs.Rooms.{has_room}
use Rattle.install_backup.proofs.ArriveLaws.{Goes, goes_none, goes_one, goes_then}
use Rattle.install_backup.proofs.BackupOrder.{IsPlain, ending_goes, order-take}
use Rattle.install_backup.proofs.ClosedLaws.{says_one}
use Rattle.install_backup.proofs.EndLaws.{installs-are}
use Rattle.install_backup.proofs.EvolveLaws.{with_one}
use Rattle.install_backup.proofs.GoneLaws.{can_delete, deleted, with_databases, without-none}
use Rattle.install_backup.proofs.MarkLaws.{marked_goes, marked_plain, marked_rests}
use Rattle.install_backup.proofs.OthersLaws.{IsMine}
use Rattle.install_backup.proofs.StayLaws.{one_mine, rest_mine}
use Rattle.install_backup.proofs.WholeLaws.{install_goes, installed_rests}
use Rattle.palm_device.proofs.TellingLaws.{none_where}
use Rattle.desk_journal.proofs.StepLaws.{all-append}

-- one that has room, or is passed over, and what is left for those behind it
record OneGoes (device : Device) (database : DatabaseValue) (databases : List DatabaseValue) : Type 0 where
  goes : Goes (says_one database) device (with_databases (with_one database device.databases) device)
  rests : IsAtRest (with_databases (with_one database device.databases) device)
  room : first_full databases (with_one database device.databases) ≡ None

pub room_of : (b : Bool) (name : List ℕ) (rest : Option (List ℕ)) → cond b rest (Some name) ≡ None → (b ≡ true) × (rest ≡ None)
room_of true name rest full = (refl, full)
room_of false name rest full = absurd cc

one_goes : (device : Device) (database : DatabaseValue) (databases : List DatabaseValue) → IsAtRest device → IsBoundedDatabase database
    → first_full (database ∷ databases) device.databases ≡ None → OneGoes device database databases
one_goes device database databases rests bounded full = by (is_installable database) refl full
  where
    by : (b : Bool) → is_installable database ≡ b
        → cond b (cond (has_room database.head.name device.databases) (first_full databases (with_installed database device.databases)) (Some database.head.name))
        (first_full databases device.databases) ≡ None → OneGoes device database databases
    by true is full =
        let room = room_of (has_room database.head.name device.databases) database.head.name
        (first_full databases (with_installed database device.databases)) full in
        record {
          goes = rw is (install_goes device rests database bounded room.0 (not-true (is_read_only database.head.attributes) is));
          rests = rw is (installed_rests device rests database bounded room.0);
          room = rw is room.1;
        }
    by false is full = record { goes = rw is (goes_none device); rests = rw is rests; room = rw is full }

installs_go : (databases : List DatabaseValue) (device : Device) → IsAtRest device → AllByRecursion IsBoundedDatabase databases
    → first_full databases device.databases ≡ None
    → Goes (flat_map says_one databases) device (with_databases (all_installed databases device.databases) device)
installs_go [] device rests bounded full = goes_none device
installs_go (database ∷ databases) device rests bounded full =
    let one = one_goes device database databases rests bounded.0 full in
    let now = with_databases (with_one database device.databases) device in
    goes_then (says_one database) (flat_map says_one databases) one.goes (installs_go databases now one.rests bounded.1 one.room)

pub install-order : (mark : Mark) (device : Device) (databases : List DatabaseValue) (n : ℕ) → IsAtRest device
    → AllByRecursion IsBoundedDatabase databases → first_full databases device.databases ≡ None
    → AreInOrder (take n (install_acts mark device.user databases)) device
unfolding install_acts
install-order mark device databases n rests bounded full =
    let here = marked_on mark device in
    let after = with_databases (all_installed databases device.databases) here in
    let all = subst (λ (acts : List Act). Goes acts here after) (installs-are databases) (installs_go databases here (marked_rests mark device rests) bounded
    full) in
    let goes = goes_then (marked_greeting mark device.user) (installs_of databases ++ ending ∷ []) (marked_goes mark device)
    (goes_then (installs_of databases) (ending ∷ []) all (ending_goes after)) in
    order-take n (marked_greeting mark device.user ++ (installs_of databases ++ ending ∷ [])) device goes.order

-- ---- each request fits into a message, and asks for no id

plain_mine : (acts : List Act) → AllByRecursion (IsMine (λ name. true)) acts → AllByRecursion IsPlain acts
plain_mine [] all = tt
plain_mine (one ∷ acts) all = ((all.0.0, all.0.1), plain_mine acts all.1)

all_true : (databases : List DatabaseValue) → AllByRecursion (λ (d : DatabaseValue). true ≡ true) databases
all_true [] = tt
all_true (database ∷ databases) = (refl, all_true databases)

pub install_session_plain : (mark : Mark) (user : UserInfo) (databases : List DatabaseValue) → AllByRecursion IsBoundedDatabase databases
    → AllByRecursion IsPlain (install_acts mark user databases)
unfolding install_acts
install_session_plain mark user databases bounded =
    all-append IsPlain (marked_greeting mark user) (installs_of databases ++ ending ∷ []) (marked_plain mark user)
    (plain_mine (installs_of databases ++ ending ∷ []) (rest_mine (λ name. true) databases bounded (all_true (filter is_installable databases))))

-- ---- where one has no room

-- the acts up to the first that has none may be asked at their turn, but for the last one, which is refused for want of room
pub record IsRefusedLast (acts : List Act) (device : Device) : Type 0 where
  pub front : List Act
  pub head : DbHead
  pub is : acts ≡ front ++ making head ∷ []
  pub after : Device
  pub goes : Goes front device after
  pub full : told (making head) after ≡ reply.Refused 0x18 limit

full_told : (device : Device) (head : DbHead) → IsName head.name → device.handles ≡ no_handles → database_of head.name device.databases ≡ None
    → nat_lt (length device.databases) most_databases ≡ false → told (making head) device ≡ reply.Refused 0x18 limit
unfolding told tried create_db
full_told device head named closed none full = rw (name_right head.name named, none, closed, full) refl

one_full : (device : Device) (database : DatabaseValue) → IsAtRest device → IsBoundedDatabase database
    → has_room database.head.name device.databases ≡ false → IsRefusedLast (making_acts database) device
unfolding IsPossible
one_full device database rests bounded full =
    let name = database.head.name in
    let parts = or_parts (is_some (database_of name device.databases)) (nat_lt (length device.databases) most_databases) full in
    let none = none_where (database_of name device.databases) parts.0 in
    let can = can_delete device name bounded.head.name rests.closed in
    let same : (acted (deleting name) device).1 ≡ device =
    deleted device name can ∙ ap (λ (ds : List DatabaseValue). with_databases ds device) (without-none name device.databases none) in
    record {
      front = deleting name ∷ [];
      head = installed_head database.head;
      is = refl;
      after = device;
      goes = goes_one can same;
      full = full_told device (installed_head database.head) bounded.head.name rests.closed none parts.1;
    }

behind : (first : List Act) {acts : List Act} {device now : Device} → Goes first device now → IsRefusedLast acts now → IsRefusedLast (first ++ acts) device
behind first goes last = record {
  front = first ++ last.front;
  head = last.head;
  is = ap (λ (acts : List Act). first ++ acts) last.is ∙ sym (append_assoc first last.front (making last.head ∷ []));
  after = last.after;
  goes = goes_then first last.front goes last.goes;
  full = last.full;
}

refused_last : (databases : List DatabaseValue) (device : Device) (name : List ℕ) → IsAtRest device → AllByRecursion IsBoundedDatabase databases
    → first_full databases device.databases ≡ Some name → IsRefusedLast (until_full databases device.databases) device
unfolding until_full
refused_last [] device name rests bounded full = absurd cc
refused_last (database ∷ databases) device name rests bounded full =
    by (is_installable database) (has_room database.head.name device.databases) refl refl full
    (λ (later : IsAtRest (with_databases (with_installed database device.databases) device)) more.
    refused_last databases (with_databases (with_installed database device.databases) device) name later bounded.1 more)
    (λ more. refused_last databases device name rests bounded.1 more)
  where
    by : (b c : Bool) → is_installable database ≡ b → has_room database.head.name device.databases ≡ c
        → cond b (cond c (first_full databases (with_installed database device.databases)) (Some database.head.name)) (first_full databases device.databases)
        ≡ Some name
        → (IsAtRest (with_databases (with_installed database device.databases) device)
        → first_full databases (with_installed database device.databases) ≡ Some name
        → IsRefusedLast (until_full databases (with_installed database device.databases))
        (with_databases (with_installed database device.databases) device))
        → (first_full databases device.databases ≡ Some name → IsRefusedLast (until_full databases device.databases) device)
        → IsRefusedLast (cond b (cond c (install_one database 1 [] ++ until_full databases (with_installed database device.databases)) (making_acts database))
        (until_full databases device.databases)) device
    by true true is room full more rest =
        behind (install_one database 1 []) (install_goes device rests database bounded.0 room (not-true (is_read_only database.head.attributes) is))
        (more (installed_rests device rests database bounded.0 room) full)
    by true false is room full more rest = one_full device database rests bounded.0 room
    by false c is room full more rest = rest full

pub install-refused : (mark : Mark) (device : Device) (databases : List DatabaseValue) (name : List ℕ) → IsAtRest device
    → AllByRecursion IsBoundedDatabase databases → first_full databases device.databases ≡ Some name
    → IsRefusedLast (marked_greeting mark device.user ++ until_full databases device.databases) device
install-refused mark device databases name rests bounded full =
    behind (marked_greeting mark device.user) (marked_goes mark device)
    (refused_last databases (marked_on mark device) name (marked_rests mark device rests) bounded full)

until_plain : (databases held : List DatabaseValue) → AllByRecursion IsBoundedDatabase databases → AllByRecursion IsPlain (until_full databases held)
unfolding until_full install_one
until_plain [] held bounded = tt
until_plain (database ∷ databases) held bounded =
    by (is_installable database) (has_room database.head.name held) (plain_mine (install_one database 1 []) (one_mine (λ name. true) database bounded.0 refl))
    (until_plain databases (with_installed database held) bounded.1) (until_plain databases held bounded.1)
  where
    by : (b c : Bool) → AllByRecursion IsPlain (install_one database 1 []) → AllByRecursion IsPlain (until_full databases (with_installed database held))
        → AllByRecursion IsPlain (until_full databases held)
        → AllByRecursion IsPlain (cond b (cond c (install_one database 1 [] ++ until_full databases (with_installed database held)) (making_acts database))
        (until_full databases held))
    by true true one more rest = all-append IsPlain (install_one database 1 []) (until_full databases (with_installed database held)) one more
    by true false one more rest = (one.0, (one.1.0, tt))
    by false c one more rest = rest

pub install-until_plain : (mark : Mark) (user : UserInfo) (databases held : List DatabaseValue) → AllByRecursion IsBoundedDatabase databases
    → AllByRecursion IsPlain (marked_greeting mark user ++ until_full databases held)
install-until_plain mark user databases held bounded =
    all-append IsPlain (marked_greeting mark user) (until_full databases held) (marked_plain mark user) (until_plain databases held bounded)
