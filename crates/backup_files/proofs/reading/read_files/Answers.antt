use Rattle.std.proofs.Common.{◌∙◌, Global, List, ℕ, arith, drop, map, refl, suc, subst, sym, take}
use Rattle.std.specs.Prelude.{IfSome, Option, string_bytes}
use Rattle.hs_folders.specs.FileMaps.{FileMap}
use Rattle.handheld_files.proofs.FreshLaws.{take_all}
use Rattle.handheld_files.proofs.KeptLaws.{OnlyRead-trans, names_around, names_next}
use Rattle.backup_files.specs.FoundFiles.{ReadsOn, RefusesFile}
use Rattle.backup_files.specs.declared.fault.BackupFault.TheVariants.{Failed}
use Rattle.backup_files.proofs.ReadLaws.{FoundSoFar, backups_found, bounded_begin, bounded_on, found_begin, found_on, noted_begin, noted_on, refused_on}
use Rattle.backup_files.proofs.reading.read_files.Goals as goal
use Rattle.hs_folders.proofs.CauseLaws.{ok_is_no_fault, cause_on}

pub loop-name-init : goal.loop-name-init
loop-name-init g c = record {
  bounded = bounded_begin c.nothing_found-found.result.databases.items c.nothing_found-found.ensures.databases;
  noted = noted_begin c.nothing_found-found.result.databases.items c.nothing_found-found.result.origins.items
      c.nothing_found-found.ensures.databases c.nothing_found-found.ensures.origins;
  found = found_begin (g.F.Folder.contents c.args.folder.now) c.nothing_found-found.result.databases.items c.nothing_found-found.result.origins.items
      c.nothing_found-found.ensures.databases c.nothing_found-found.ensures.origins;
  only_read = record { same_contents = refl; same_moments = refl; same_paths = refl; later = omega arith };
  faults = refl;
}

pub loop-name-preserved : goal.loop-name-preserved
loop-name-preserved g c =
    let told : Option FileMap = g.F.Folder.contents c.args.folder.now in
    let item = c.name-item.result in
    let before : List (List ℕ) = map (string_bytes {Z = Global}) (take c.loop-name.name-index c.args.names.now) in
    let name : List ℕ = string_bytes {Z = Global} item in
    let old = c.loop-name.found in
    let new = c.read_file.new.found in
    let next = names_next c.args.names.now c.loop-name.name-index item c.loop-name-test.true c.name-item.is in
    let reads : ReadsOn told name old.databases.items old.origins.items new.databases.items new.origins.items =
    subst (λ t. ReadsOn t name old.databases.items old.origins.items new.databases.items new.origins.items) c.loop-name.invariant.only_read.same_contents
    (subst (λ n. ReadsOn (g.F.Folder.contents c.loop-name.folder) n old.databases.items old.origins.items new.databases.items new.origins.items)
    c.as_str.ensures.value c.in-Ok.ensures.read) in
    record {
      bounded = bounded_on told name old.databases.items new.databases.items old.origins.items new.origins.items c.loop-name.invariant.bounded reads;
      noted = noted_on told name old.databases.items new.databases.items old.origins.items new.origins.items c.loop-name.invariant.noted reads;
      found = subst (λ ns. IfSome told (λ held. FoundSoFar ns held new.databases.items new.origins.items)) (sym next)
          (found_on told before name old.databases.items new.databases.items old.origins.items new.origins.items c.loop-name.invariant.noted
          c.loop-name.invariant.found reads);
      only_read = OnlyRead-trans g.F.Folder.contents g.F.Folder.moments g.F.Folder.paths g.F.Folder.faults c.args.folder.now c.loop-name.folder
          c.read_file.new.folder c.loop-name.invariant.only_read c.read_file.ensures.only_read;
      faults = c.in-Ok.ensures.cause.still (ok_is_no_fault c.in-Ok.field-0 Failed) ∙ c.loop-name.invariant.faults;
    }

pub returns-in-Err-clause-refused : goal.returns-in-Err-clause-refused
returns-in-Err-clause-refused g c =
    let told : Option FileMap = g.F.Folder.contents c.args.folder.now in
    let item = c.name-item.result in
    let name : List ℕ = string_bytes {Z = Global} item in
    let i = c.loop-name.name-index in
    let names = c.args.names.now in
    let old = c.loop-name.found in
    let refuses : RefusesFile told name old.origins.items c.in-Err.fault =
    subst (λ t. RefusesFile t name old.origins.items c.in-Err.fault) c.loop-name.invariant.only_read.same_contents
    (subst (λ n. RefusesFile (g.F.Folder.contents c.loop-name.folder) n old.origins.items c.in-Err.fault) c.as_str.ensures.value c.in-Err.ensures.read) in
    refused_on told (map (string_bytes {Z = Global}) names) (map (string_bytes {Z = Global}) (take i names))
    (map (string_bytes {Z = Global}) (drop (suc i) names)) name old.databases.items old.origins.items c.in-Err.fault c.loop-name.invariant.found refuses
    (names_around names i item c.loop-name-test.true c.name-item.is)

pub returns-in-Err-clause-cause : goal.returns-in-Err-clause-cause
returns-in-Err-clause-cause g c = cause_on (g.F.Folder.faults c.args.folder.now) (g.F.Folder.faults c.loop-name.folder)
    (g.F.Folder.faults c.read_file.new.folder) c.in-Err.fault Failed c.loop-name.invariant.faults c.in-Err.ensures.cause

pub returns-clause-found : goal.returns-clause-found
returns-clause-found g c =
    let told : Option FileMap = g.F.Folder.contents c.args.folder.now in
    let all = subst (λ ns. IfSome told (λ held. FoundSoFar (map (string_bytes {Z = Global}) ns) held c.loop-name.found.databases.items
    c.loop-name.found.origins.items)) (take_all c.args.names.now c.loop-name.name-index c.loop-name-test.false) c.loop-name.invariant.found in
    backups_found told (map (string_bytes {Z = Global}) c.args.names.now) c.loop-name.found.databases.items c.loop-name.found.origins.items all

pub returns-clause-cause : goal.returns-clause-cause
returns-clause-cause g c = record {
  later = omega (arith, c.loop-name.invariant.faults);
  rose = λ is. absurd (ok_is_no_fault c.loop-name.found Failed is);
  still = λ _. c.loop-name.invariant.faults;
}
