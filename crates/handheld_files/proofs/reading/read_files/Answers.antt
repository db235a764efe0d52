use Rattle.std.proofs.Common.{◌∙◌, Global, List, ℕ, arith, drop, map, refl, suc, subst, sym, take}
use Rattle.std.specs.Prelude.{IfSome, Option, string_bytes}
use Rattle.hs_folders.specs.FileMaps.{FileMap}
use Rattle.handheld_files.specs.Handhelds.{StandFor}
use Rattle.handheld_files.specs.Openings.{among}
use Rattle.handheld_files.specs.Reading.{ReadsOn, RefusesFile}
use Rattle.handheld_files.specs.declared.fault.OpenFault.TheVariants.{Keeper}
use Rattle.handheld_files.proofs.FreshLaws.{take_all}
use Rattle.handheld_files.proofs.BoundLaws.{bounded_begin, bounded_on}
use Rattle.handheld_files.proofs.KeptLaws.{KeptSoFar, OnlyRead-trans, kept_none, kept_on, names_around, names_next, refused_on}
use Rattle.handheld_files.proofs.KeptLaws.{stands_begin, stands_on}
use Rattle.handheld_files.proofs.reading.read_files.Goals as goal
use Rattle.hs_folders.proofs.CauseLaws.{ok_is_no_fault, cause_on}

pub loop-name-init : goal.loop-name-init
loop-name-init g c = record {
  bounded = bounded_begin c.empty_handheld-handheld.result.databases.items c.empty_handheld-handheld.result.user c.empty_handheld-handheld.ensures.databases
      c.empty_handheld-handheld.ensures.user;
  kept = kept_none c.empty_handheld-handheld.result.databases.items c.empty_handheld-handheld.ensures.databases;
  stands = stands_begin (g.F.Folder.contents c.args.folder.now) c.empty_handheld-handheld.result.databases.items c.empty_handheld-handheld.result.user
      c.empty_handheld-handheld.ensures.databases c.empty_handheld-handheld.ensures.user;
  only_read = record { same_contents = refl; same_moments = refl; same_paths = refl; later = omega arith };
  faults = refl;
}

pub loop-name-preserved : goal.loop-name-preserved
loop-name-preserved g c =
    let told : Option FileMap = g.F.Folder.contents c.args.folder.now in
    let item = c.name-item.result in
    let before : List (List ℕ) = map (string_bytes {Z = Global}) (take c.loop-name.name-index c.args.names.now) in
    let name : List ℕ = string_bytes {Z = Global} item in
    let old = c.loop-name.handheld in
    let new = c.read_file.new.handheld in
    let next = names_next c.args.names.now c.loop-name.name-index item c.loop-name-test.true c.name-item.is in
    let reads : ReadsOn told name old.databases.items old.user new.databases.items new.user =
    subst (λ t. ReadsOn t name old.databases.items old.user new.databases.items new.user) c.loop-name.invariant.only_read.same_contents
    (subst (λ n. ReadsOn (g.F.Folder.contents c.loop-name.folder) n old.databases.items old.user new.databases.items new.user) c.as_str.ensures.value
    c.in-Ok.ensures.read) in
    record {
      bounded = bounded_on told name old.databases.items new.databases.items old.user new.user c.loop-name.invariant.bounded reads;
      kept = subst (λ ns. KeptSoFar ns new.databases.items) (sym next)
          (kept_on told before name old.databases.items new.databases.items old.user new.user c.loop-name.invariant.kept reads);
      stands = subst (λ ns. IfSome told (λ held. StandFor (among ns held) new.databases.items new.user)) (sym next)
          (stands_on told before name old.databases.items new.databases.items old.user new.user c.loop-name.invariant.stands reads);
      only_read = OnlyRead-trans g.F.Folder.contents g.F.Folder.moments g.F.Folder.paths g.F.Folder.faults c.args.folder.now c.loop-name.folder
          c.read_file.new.folder c.loop-name.invariant.only_read c.read_file.ensures.only_read;
      faults = c.in-Ok.ensures.cause.still (ok_is_no_fault c.in-Ok.field-0 Keeper) ∙ c.loop-name.invariant.faults;
    }

pub returns-in-Err-clause-refused : goal.returns-in-Err-clause-refused
returns-in-Err-clause-refused g c =
    let told : Option FileMap = g.F.Folder.contents c.args.folder.now in
    let item = c.name-item.result in
    let name : List ℕ = string_bytes {Z = Global} item in
    let i = c.loop-name.name-index in
    let names = c.args.names.now in
    let old = c.loop-name.handheld in
    let refuses : RefusesFile told name old.databases.items c.in-Err.fault =
    subst (λ t. RefusesFile t name old.databases.items c.in-Err.fault) c.loop-name.invariant.only_read.same_contents
    (subst (λ n. RefusesFile (g.F.Folder.contents c.loop-name.folder) n old.databases.items c.in-Err.fault) c.as_str.ensures.value c.in-Err.ensures.read) in
    refused_on told (map (string_bytes {Z = Global}) names) (map (string_bytes {Z = Global}) (take i names))
    (map (string_bytes {Z = Global}) (drop (suc i) names)) name old.databases.items old.user c.in-Err.fault c.loop-name.invariant.stands refuses
    (names_around names i item c.loop-name-test.true c.name-item.is)

pub returns-in-Err-clause-cause : goal.returns-in-Err-clause-cause
returns-in-Err-clause-cause g c = cause_on (g.F.Folder.faults c.args.folder.now) (g.F.Folder.faults c.loop-name.folder)
    (g.F.Folder.faults c.read_file.new.folder) c.in-Err.fault Keeper c.loop-name.invariant.faults c.in-Err.ensures.cause

pub returns-clause-stand : goal.returns-clause-stand
returns-clause-stand g c = subst (λ ns. IfSome (g.F.Folder.contents c.args.folder.now)
    (λ held. StandFor (among (map (string_bytes {Z = Global}) ns) held) c.loop-name.handheld.databases.items c.loop-name.handheld.user))
    (take_all c.args.names.now c.loop-name.name-index c.loop-name-test.false) c.loop-name.invariant.stands

pub returns-clause-kept : goal.returns-clause-kept
returns-clause-kept g c =
    let kept : KeptSoFar (map (string_bytes {Z = Global}) c.args.names.now) c.loop-name.handheld.databases.items =
    subst (λ ns. KeptSoFar (map (string_bytes {Z = Global}) ns) c.loop-name.handheld.databases.items)
    (take_all c.args.names.now c.loop-name.name-index c.loop-name-test.false) c.loop-name.invariant.kept in
    record { order = kept.order; few = omega (arith, kept.few, c.requires.few); settled = kept.settled }

pub returns-clause-cause : goal.returns-clause-cause
returns-clause-cause g c = record {
  later = omega (arith, c.loop-name.invariant.faults);
  rose =
      λ is. absurd (ok_is_no_fault c.loop-name.handheld Keeper is);
  still = λ _. c.loop-name.invariant.faults;
}
