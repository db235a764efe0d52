-- An unmarked database of a file that is installed, and backed up.
use Rattle.std.proofs.lemmas.Bool.{and_parts, not-true}
use Rattle.std.proofs.lemmas.Bool.Decides.{nat_tests}
use Rattle.std.proofs.lemmas.Nat.{and_mask, and_shr}
use Rattle.std.proofs.Common.{arith, ◌≡◌, ◌∙◌, ◌<◌, ◌^◌, ◌%◌, ◌/◌, ap, refl, sym, subst, ℕ, ◌==◌, not, true, false, List, [], ◌∷◌, map}
use Rattle.std.specs.Prelude.{Option, None, Some, bit_and}
use Rattle.std.specs.List.{AllByRecursion, list_all}
use Rattle.pdb_values.specs.Databases.{DatabaseValue}
use Rattle.pdb_values.specs.Heads.{has_bit, is_read_only}
use Rattle.pdb_values.specs.Records.{is_live}
use Rattle.pdb_values.specs.declared.head.DbHead.{DbHead}
use Rattle.pdb_values.specs.declared.record.Record.{Record}
use Rattle.palm_device.specs.Bounds.{IsBoundedDatabase}
use Rattle.palm_device.specs.Devices.{Device}
use Rattle.handheld_files.specs.Settled.{are_ids}
use Rattle.desktop_session.specs.Tellings.{device_after}
use Rattle.session_parts.specs.Rests.{IsAtRest}
use Rattle.install_backup.specs.BackedUp.{IsUnmarked, IsUnmarkedHead, backed_up}
use Rattle.install_backup.specs.BackupEnds.{read_of}
use Rattle.install_backup.specs.InstallActs.{install_one}
use Rattle.install_backup.specs.Installed.{installed, installed_block, installed_head, untouched, with_installed}
use Rattle.install_backup.specs.Rooms.{has_room}
use Rattle.install_backup.proofs.ArriveLaws.{found}
use Rattle.install_backup.proofs.BackedUpLaws.{copies-are}
use Rattle.install_backup.proofs.GoneLaws.{with_databases}
use Rattle.install_backup.proofs.InstalledLaws.{resources-own}
use Rattle.install_backup.proofs.RecordLaws.{installed-own}
use Rattle.install_backup.proofs.WholeLaws.{install_goes, installed_rests}

-- ---- the head

zero_from : (n : ℕ) → not (n == 0) ≡ false → n ≡ 0
zero_from n is = grind (arith, nat_tests)

low : (n : ℕ) → n < 2 ^ 16 → has_bit 0x8000 n ≡ false → n < 32768
low n small clear =
    let none : bit_and n 0x8000 ≡ 0 = zero_from (bit_and n 0x8000) clear in
    let high : bit_and n 0x8000 / 2 ^ 15 ≡ bit_and (n / 2 ^ 15) 1 = and_shr n 0x8000 15 in
    let bit : bit_and (n / 2 ^ 15) 1 ≡ (n / 2 ^ 15) % 2 = and_mask (n / 2 ^ 15) 1 in
    let zero_bit : (n / 2 ^ 15) % 2 ≡ 0 = sym bit ∙ sym high ∙ ap (λ m. m / 2 ^ 15) none in
    omega (arith, zero_bit)

closed_mask : (n : ℕ) → n < 2 ^ 16 → has_bit 0x8000 n ≡ false → bit_and n 0x7fff ≡ n
closed_mask n small clear = let under = low n small clear in let rest : n % 2 ^ 15 ≡ n = omega (arith, under) in and_mask n 15 ∙ rest

head-unmarked : (head : DbHead) → head.attributes < 2 ^ 16 → IsUnmarkedHead head → installed_head head ≡ head
head-unmarked head small unmarked = λ k. record head {
  attributes = closed_mask head.attributes small unmarked.closed k;
  created = sym unmarked.created k;
  modified = sym unmarked.modified k;
  backup = sym unmarked.backup k;
  modnum = sym unmarked.modnum k;
  seed = sym unmarked.seed k;
}

-- ---- blocks and records

block-unmarked : (block : Option (List ℕ)) → (block ≡ Some [] → ⊥) → installed_block block ≡ block
block-unmarked None some = refl
block-unmarked (Some []) some = absurd (some refl)
block-unmarked (Some (byte ∷ bytes)) some = refl

all_live : (items : List Record) → AllByRecursion (λ (item : Record). item.deleted ≡ false) items → list_all is_live items ≡ true
all_live [] live = refl
all_live (item ∷ items) live = rw live.0 (all_live items live.1)

pub all_idle : (items : List Record) → list_all (λ (item : Record). not item.busy) items ≡ true → AllByRecursion (λ (item : Record). item.busy ≡ false) items
all_idle [] is = tt
all_idle (item ∷ items) is =
    let both = and_parts (not item.busy) (list_all (λ (item : Record). not item.busy) items) is in
    (not-true item.busy both.0, all_idle items both.1)

pub unmarked_idle : (database : DatabaseValue) → IsUnmarked database → AllByRecursion (λ (item : Record). item.busy ≡ false) database.records
unmarked_idle database unmarked =
    all_idle database.records (and_parts (list_all (λ (item : Record). not item.busy) database.records)
    (are_ids (map (λ (item : Record). item.id) database.records)) unmarked.settled).0

untouched-unmarked : (items : List Record) → AllByRecursion (λ (item : Record). item.dirty ≡ false) items
    → AllByRecursion (λ (item : Record). item.busy ≡ false) items → map untouched items ≡ items
untouched-unmarked [] unchanged idle = refl
untouched-unmarked (item ∷ items) unchanged idle = λ k.
    (record item { dirty = sym unchanged.0 k; busy = sym idle.0 k }) ∷ untouched-unmarked items unchanged.1 idle.1 k

-- ---- the whole

pub installed-unmarked : (database : DatabaseValue) → IsBoundedDatabase database → IsUnmarked database → installed database ≡ database
unfolding installed
installed-unmarked database bounded unmarked = λ k. record {
  head = head-unmarked database.head bounded.head.attributes unmarked.head k;
  app = block-unmarked database.app unmarked.app k;
  sort = block-unmarked database.sort unmarked.sort k;
  records = (installed-own database.records (all_live database.records unmarked.live) unmarked.settled
      ∙ untouched-unmarked database.records unmarked.unchanged (unmarked_idle database unmarked)) k;
  resources = resources-own database.resources unmarked.apart k;
}

-- an installed one has no seed
seedless : (database : DatabaseValue) → backed_up (installed database) ≡ installed database
unfolding installed
seedless database = refl

pub back-unmarked : (database : DatabaseValue) → IsBoundedDatabase database → IsUnmarked database → backed_up (installed database) ≡ database
back-unmarked database bounded unmarked = seedless database ∙ installed-unmarked database bounded unmarked

-- over a handheld
pub comes_back : (device : Device) (database : DatabaseValue) → IsAtRest device → IsBoundedDatabase database → IsUnmarked database
    → is_read_only database.head.attributes ≡ false → has_room database.head.name device.databases ≡ true
    → read_of (device_after (install_one database 1 []) device) (installed database) ≡ database
comes_back device database rests bounded unmarked may room =
    let now = with_databases (with_installed database device.databases) device in
    let idle : AllByRecursion (λ (item : Record). item.busy ≡ false) (installed database).records
    = subst (λ (d : DatabaseValue). AllByRecursion (λ (item : Record). item.busy ≡ false) d.records) (sym (installed-unmarked database bounded unmarked))
    (unmarked_idle database unmarked) in
    ap (λ (d : Device). read_of d (installed database)) (install_goes device rests database bounded room may).after
    ∙ copies-are now (installed_rests device rests database bounded room) (installed database) (found (installed database) device.databases) idle
    ∙ back-unmarked database bounded unmarked
