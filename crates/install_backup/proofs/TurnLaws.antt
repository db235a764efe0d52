-- At each front of an install the databases in front of one are installed, and all others are as they were.
use Rattle.std.proofs.lemmas.Bool.{not-true}
use Rattle.std.proofs.Common.{◌≡◌, ◌∙◌, ap, inl, inr, ◌⊎◌, refl, sym, subst, ℕ, Bool, true, false, cond, List, [], ◌∷◌, ◌++◌, map, append_assoc}
use Rattle.std.specs.Prelude.{Some, None, flat_map}
use Rattle.std.specs.List.{AllByRecursion}
use Rattle.std.specs.Str.{bytes_eq}
use Rattle.pdb_values.specs.Databases.{DatabaseValue}
use Rattle.pdb_values.specs.Heads.{is_read_only}
use Rattle.pdb_values.specs.NamedDatabases.{database_of}
use Rattle.pdb_values.proofs.NamedLaws.{bytes_eq-own}
use Rattle.palm_device.specs.Bounds.{IsBoundedDatabase}
use Rattle.palm_device.specs.Devices.{Device}
use Rattle.desktop_session.specs.Acts.{Act, text}
use Rattle.desktop_session.specs.Requests.{ending}
use Rattle.desktop_session.specs.Tellings.{device_after}
use Rattle.desktop_session.proofs.RequestFits.{end_fits}
use Rattle.session_parts.specs.Fronts.{Front}
use Rattle.session_parts.specs.Rests.{IsAtRest}
use Rattle.session_parts.proofs.StretchLaws.{where_kept}
use Rattle.install_backup.specs.declared.mark.Mark.{Mark}
use Rattle.install_backup.specs.Installed.{with_installed}
use Rattle.install_backup.specs.InstallActs.{install_acts, install_one, installs_of, is_installable}
use Rattle.install_backup.specs.InstallEnds.{all_installed, first_full}
use Rattle.install_backup.specs.InstallFronts.{FirstIsUnderway, IsAsItWas, IsUnderway, StandsInTurn}
use Rattle.install_backup.specs.Marks.{marked_on}
use Rattle.install_backup.specs.Rooms.{has_room}
use Rattle.install_backup.proofs.BegunLaws.{Along, along_within, install_along}
use Rattle.install_backup.proofs.ClosedLaws.{says_one}
use Rattle.install_backup.proofs.EndLaws.{installs-are}
use Rattle.install_backup.proofs.EvolveLaws.{with_one}
use Rattle.install_backup.proofs.GoneLaws.{with_databases}
use Rattle.install_backup.proofs.MarkLaws.{GoesOn, front_cut, marked_rests}
use Rattle.install_backup.proofs.OthersLaws.{Behind, IsMine, OpenMine, Within, keeps-front, none_open_mine, run_cut}
use Rattle.install_backup.proofs.StayLaws.{one_mine}
use Rattle.install_backup.proofs.WholeLaws.{install_goes, installed_rests}
use Rattle.install_backup.proofs.InstallOrder.{room_of}

-- the database of this name is underway, from how it was on the one device
abbrev Underway : Device → DatabaseValue → Device → Type 0
Underway device database now = IsUnderway database (database_of database.head.name device.databases) (database_of database.head.name now.databases)

-- ---- one was done

record WasDone (device : Device) (database : DatabaseValue) (databases : List DatabaseValue) : Type 0 where
  after : device_after (says_one database) device ≡ with_databases (with_one database device.databases) device
  rests : IsAtRest (with_databases (with_one database device.databases) device)
  room : first_full databases (with_one database device.databases) ≡ None

was_done : (device : Device) (database : DatabaseValue) (databases : List DatabaseValue) → IsAtRest device → IsBoundedDatabase database
    → first_full (database ∷ databases) device.databases ≡ None → WasDone device database databases
was_done device database databases rests bounded full = by (is_installable database) refl full
  where
    by : (b : Bool) → is_installable database ≡ b
        → cond b (cond (has_room database.head.name device.databases) (first_full databases (with_installed database device.databases)) (Some database.head.name))
        (first_full databases device.databases) ≡ None → WasDone device database databases
    by true is full =
        let room = room_of (has_room database.head.name device.databases) database.head.name
        (first_full databases (with_installed database device.databases)) full in
        let goes = install_goes device rests database bounded room.0 (not-true (is_read_only database.head.attributes) is) in
        record { after = rw is goes.after; rests = rw is (installed_rests device rests database bounded room.0); room = rw is room.1 }
    by false is full = record { after = rw is refl; rests = rw is rests; room = rw is full }

-- ---- a run

at_rest : (mine : List ℕ → Bool) (device : Device) → IsAtRest device → OpenMine mine device.handles
at_rest mine device rests = subst (OpenMine mine) (sym rests.closed) (none_open_mine mine)

says_mine : (mine : List ℕ → Bool) (database : DatabaseValue) → IsBoundedDatabase database → mine database.head.name ≡ true
    → AllByRecursion (IsMine mine) (says_one database)
says_mine mine database bounded is = by (is_installable database)
  where
    by : (b : Bool) → AllByRecursion (IsMine mine) (where_kept b (install_one database 1 []))
    by true = one_mine mine database bounded is
    by false = tt

-- where one is passed over, its database is as it was
says_along : (device : Device) (rests : IsAtRest device) (database : DatabaseValue) → IsBoundedDatabase database → (databases : List DatabaseValue)
    → first_full (database ∷ databases) device.databases ≡ None → Along (Underway device database) (says_one database) device
says_along device rests database bounded databases full = by (is_installable database) refl full
  where
    by : (b : Bool) → is_installable database ≡ b
        → cond b (cond (has_room database.head.name device.databases) (first_full databases (with_installed database device.databases)) (Some database.head.name))
        (first_full databases device.databases) ≡ None → Along (Underway device database) (where_kept b (install_one database 1 [])) device
    by true is full =
        let room = room_of (has_room database.head.name device.databases) database.head.name
        (first_full databases (with_installed database device.databases)) full in
        install_along device rests database bounded room.0 (not-true (is_read_only database.head.attributes) is)
    by false is full = inl refl

in_turn : (databases : List DatabaseValue) (device new : Device) (count : ℕ) → IsAtRest device → AllByRecursion IsBoundedDatabase databases
    → first_full databases device.databases ≡ None → Within (λ name. false) count (flat_map says_one databases ++ ending ∷ []) device new
    → StandsInTurn databases device new
in_turn [] device new count rests bounded full ran = record {
  before = [];
  later = [];
  parts = refl;
  first = tt;
  others = λ name first. (keeps-front (λ name. false) count (ending ∷ []) device new ran.0 ((end_fits, refl, tt), tt)
      (at_rest (λ name. false) device rests) ran.1).others name refl;
}
in_turn (database ∷ databases) device new count rests bounded full ran =
    let mine : List ℕ → Bool = λ name. bytes_eq database.head.name name in
    let rest : List Act = flat_map says_one databases ++ ending ∷ [] in
    let done = was_done device database databases rests bounded.0 full in
    let own = says_mine mine database bounded.0 (bytes_eq-own database.head.name) in
    let now = with_databases (with_one database device.databases) device in
    by own done (run_cut mine count (says_one database) rest device new own
    (subst (λ (acts : List Act). Within mine count acts device new) (append_assoc (says_one database) (flat_map says_one databases) (ending ∷ [])) ran))
    (λ (more : ℕ) (behind : Within (λ name. false) more rest now new). in_turn databases now new more done.rests bounded.1 done.room behind)
  where
    by : AllByRecursion (IsMine (λ name. bytes_eq database.head.name name)) (says_one database) → WasDone device database databases
        → Within (λ name. bytes_eq database.head.name name) count (says_one database) device new
        ⊎ Behind (λ name. bytes_eq database.head.name name) (flat_map says_one databases ++ ending ∷ []) (device_after (says_one database) device) new
        → ((more : ℕ) → Within (λ name. false) more (flat_map says_one databases ++ ending ∷ []) (with_databases (with_one database device.databases) device) new
        → StandsInTurn databases (with_databases (with_one database device.databases) device) new)
        → StandsInTurn (database ∷ databases) device new
    by own done (inl within) later = record {
      before = [];
      later = database ∷ databases;
      parts = refl;
      first = along_within (λ name. bytes_eq database.head.name name) (Underway device database) count (says_one database) device new own
          (says_along device rests database bounded.0 databases full) within;
      others = λ name first. (keeps-front (λ name. bytes_eq database.head.name name) count (says_one database) device new within.0 own
          (at_rest (λ name. bytes_eq database.head.name name) device rests) within.1).others name first;
    }
    by own done (inr behind) later =
        let there = subst (λ (d : Device). Behind (λ name. false) (flat_map says_one databases ++ ending ∷ []) d new) done.after behind in
        let more = later there.0 there.1 in
        record {
          before = database ∷ more.before;
          later = more.later;
          parts = ap (λ (ds : List DatabaseValue). database ∷ ds) more.parts;
          first = more.first;
          others = more.others;
        }

-- ---- a front

first_same : (databases : List DatabaseValue) (device reached : Device)
    → ((name : List ℕ) → database_of name reached.databases ≡ database_of name device.databases)
    → FirstIsUnderway databases device.databases reached.databases
first_same [] device reached same = tt
first_same (database ∷ databases) device reached same = inl (same database.head.name)

first_by : (later before reached after : List DatabaseValue) → after ≡ reached → FirstIsUnderway later before reached → FirstIsUnderway later before after
first_by later before reached after same first = subst (FirstIsUnderway later before) (sym same) first

-- the same databases, whatever the mark
stands_by : (databases : List DatabaseValue) (mark : Mark) (device reached after : Device) → after.databases ≡ reached.databases
    → StandsInTurn databases (marked_on mark device) reached → StandsInTurn databases device after
stands_by databases mark device reached after same stands = record {
  before = stands.before;
  later = stands.later;
  parts = stands.parts;
  first = first_by stands.later (all_installed stands.before device.databases) reached.databases after.databases same stands.first;
  others = λ name first. ap (database_of name) same ∙ stands.others name first;
}

pub fronts_stand : (mark : Mark) (device after : Device) (databases : List DatabaseValue) (writes : ℕ) (given : List ℕ) → IsAtRest device
    → AllByRecursion IsBoundedDatabase databases → first_full databases device.databases ≡ None
    → Front device (map text (install_acts mark device.user databases)) writes given after → StandsInTurn databases device after
unfolding install_acts
fronts_stand mark device after databases writes given rests bounded full front =
    by (front_cut mark device after (installs_of databases ++ ending ∷ []) writes given front)
  where
    by : IsAsItWas device after ⊎ GoesOn mark device (installs_of databases ++ ending ∷ []) after → StandsInTurn databases device after
    by (inl same) = record {
      before = [];
      later = databases;
      parts = refl;
      first = first_same databases device after (λ name. ap (database_of name) same.databases);
      others = λ name first. ap (database_of name) same.databases;
    }
    by (inr on) =
        let there = subst (λ (acts : List Act). Behind (λ name. false) (acts ++ ending ∷ []) (marked_on mark device) on.reached) (sym (installs-are databases))
        on.ran in
        stands_by databases mark device on.reached after on.databases
        (in_turn databases (marked_on mark device) on.reached there.0 (marked_rests mark device rests) bounded full there.1)
