-- What installs make of a handheld, one after another, and where one has no room.
use Rattle.std.proofs.Common.{◌≡◌, ◌∙◌, ap, refl, sym, subst, ℕ, not, Bool, true, false, cond, List, [], ◌∷◌, ◌++◌, map}
use Rattle.std.specs.Prelude.{Option, Some, None, flat_map}
use Rattle.std.specs.List.{AllByRecursion}
use Rattle.pdb_values.specs.Databases.{DatabaseValue}
use Rattle.pdb_values.specs.Heads.{is_read_only}
use Rattle.palm_device.specs.Bounds.{IsBoundedDatabase}
use Rattle.palm_device.specs.Devices.{Device}
use Rattle.desktop_session.proofs.SaysLaws.{saying_none, saying_then}
use Rattle.session_parts.specs.Rests.{IsAtRest}
use Rattle.session_parts.specs.Stretches.{AreFirst, EachSays, Stretch, each_acts}
use Rattle.session_parts.proofs.LinkWords.{Act, Talk, saying}
use Rattle.session_parts.proofs.StretchLaws.{Tells, first_is, tells_on}
use Rattle.install_backup.specs.declared.moved.Moved.{Moved}
use Rattle.install_backup.specs.Installed.{with_installed}
use Rattle.install_backup.specs.InstallActs.{install_one, installs_under, is_installable, moved_of}
use Rattle.install_backup.specs.InstallEnds.{all_installed, first_full}
use Rattle.install_backup.specs.Installs.{SaysMoved}
use Rattle.install_backup.specs.Rooms.{HadRoom, Judges, RestsFor, has_room}
use Rattle.install_backup.proofs.ClosedLaws.{says_one, under_is}
use Rattle.install_backup.proofs.GoneLaws.{with_databases}
use Rattle.install_backup.proofs.WholeLaws.{install_goes, installed_rests}

-- the handheld once one was installed, or passed over
abbrev pub with_one : DatabaseValue → List DatabaseValue → List DatabaseValue
with_one database held = cond (is_installable database) (with_installed database held) held

-- these were all installed or passed over, and each had room
pub record Evolves (told : Option Talk) (device : Device) (databases : List DatabaseValue) (ones : List Stretch) (moved : List Moved) : Type 0 where
  pub acts_are : each_acts installs_under told databases ones ≡ flat_map says_one databases
  pub tells : Tells (with_databases (all_installed databases device.databases) device) (saying (flat_map says_one databases) told)
  pub rests : IsAtRest (with_databases (all_installed databases device.databases) device)
  pub room : first_full databases device.databases ≡ None
  pub told_are : moved ≡ map moved_of databases

-- what is judged of a link that tells a device for which it holds
pub judged_at : (Holds : Device → Type 0) (room : Bool) (name : List ℕ) (device : Device) (told : Option Talk) → Tells device told → Holds device
    → Judges Holds room name told → has_room name device.databases ≡ room
judged_at Holds room name device told tells holds judged =
    let here : Judges Holds room name (Some tells.talk) = rw tells.is at judged in
    ap (λ (d : Device). has_room name d.databases) (sym tells.same) ∙ here (subst Holds (sym tells.same) holds)

-- one of them
record One (told : Option Talk) (device : Device) (database : DatabaseValue) : Type 0 where
  tells : Tells (with_databases (with_one database device.databases) device) (saying (says_one database) told)
  rests : IsAtRest (with_databases (with_one database device.databases) device)
  room : (rest : Option (List ℕ)) → cond (is_installable database) (cond (has_room database.head.name device.databases) rest (Some database.head.name)) rest ≡ rest

one_evolves : (told : Option Talk) (device : Device) (database : DatabaseValue) → Tells device told → IsAtRest device → IsBoundedDatabase database
    → HadRoom database told → One told device database
one_evolves told device database tells rests bounded had = by (is_installable database) refl
  where
    not_back : (b : Bool) → not b ≡ true → b ≡ false
    not_back true is = absurd cc
    not_back false is = refl

    by : (b : Bool) → is_installable database ≡ b → One told device database
    by true is =
        let room : has_room database.head.name device.databases ≡ true =
        judged_at (RestsFor database) true database.head.name device told tells (rests, bounded.head.name) (had is) in
        let goes = install_goes device rests database bounded room (not_back (is_read_only database.head.attributes) is) in
        record {
          tells = rw is (tells_on device (with_databases (with_installed database device.databases) device) (install_one database 1 []) told tells goes.after);
          rests = rw is (installed_rests device rests database bounded room);
          room = λ rest. rw (is, room) refl;
        }
    by false is = record {
      tells = rw is (tells_on device device [] told tells refl);
      rests = rw is rests;
      room = λ rest. rw is refl;
    }

pub evolves : (told : Option Talk) (device : Device) (databases : List DatabaseValue) (ones : List Stretch) (moved : List Moved) → Tells device told
    → IsAtRest device → AllByRecursion IsBoundedDatabase databases → AreFirst installs_under told databases ones
    → EachSays installs_under SaysMoved told databases ones moved → Evolves told device databases ones moved
evolves told device [] [] [] tells rests bounded firsts said = record {
  acts_are = refl;
  tells = subst (Tells device) (sym (saying_none told)) tells;
  rests = rests;
  room = refl;
  told_are = refl;
}
evolves told device (database ∷ databases) (one ∷ ones) (moved ∷ more) tells rests bounded firsts said =
    let is : installs_under told database one.handle one.given ≡ says_one database =
    under_is told database one.handle one.given (first_is device told one.handle tells rests.closed firsts.0) in
    let step = one_evolves told device database tells rests bounded.0 said.0.1 in
    let now = with_databases (with_one database device.databases) device in
    let later = evolves (saying (says_one database) told) now databases ones more step.tells step.rests bounded.1 (rw is at firsts.1) (rw is at said.1) in
    record {
      acts_are = ap (λ (acts : List Act). acts ++ each_acts installs_under (saying acts told) databases ones) is
          ∙ ap (λ (acts : List Act). says_one database ++ acts) later.acts_are;
      tells = subst (Tells (with_databases (all_installed (database ∷ databases) device.databases) device))
          (saying_then (says_one database) (flat_map says_one databases) told) later.tells;
      rests = later.rests;
      room = same_rest database device databases step later.room;
      told_are = ap (λ (m : Moved). m ∷ more) said.0.0 ∙ ap (λ (ms : List Moved). moved_of database ∷ ms) later.told_are;
    }
  where
    same_rest : (database : DatabaseValue) (device : Device) (databases : List DatabaseValue) → One told device database
        → first_full databases (with_one database device.databases) ≡ None
        → cond (is_installable database)
        (cond (has_room database.head.name device.databases) (first_full databases (with_installed database device.databases)) (Some database.head.name))
        (first_full databases device.databases) ≡ None
    same_rest database device databases step rest = by (is_installable database) rest (step.room None)
      where
        by : (b : Bool) → first_full databases (cond b (with_installed database device.databases) device.databases) ≡ None
            → cond b (cond (has_room database.head.name device.databases) None (Some database.head.name)) None ≡ None
            → cond b
            (cond (has_room database.head.name device.databases) (first_full databases (with_installed database device.databases)) (Some database.head.name))
            (first_full databases device.databases) ≡ None
        by true rest room = ap (λ (o : Option (List ℕ)). cond (has_room database.head.name device.databases) o (Some database.head.name)) rest ∙ room
        by false rest room = rest
evolves told device databases ones moved tells rests bounded firsts said = absurd said
