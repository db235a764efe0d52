use Rattle.std.proofs.Common.{◌≡◌, ◌∙◌, ◌-◌, ◌^◌, Global, List, ℕ, arith, false, inl, inr, map, refl, subst, sym, take, true}
use Rattle.std.specs.Prelude.{IfSome, Option, Some, string_bytes}
use Rattle.std.specs.Option.{option_map}
use Rattle.hs_folders.specs.Causes.{Rose}
use Rattle.hs_folders.specs.FileMaps.{FileMap}
use Rattle.hs_folders.specs.FileTrees.{file_map}
use Rattle.folder_copies.specs.Copies.{HoldsNamed, with_file}
use Rattle.folder_copies.proofs.CopyLaws.{OnlyRead-trans, begun, grown, names_next, rose_before, rose_behind, take_all}
use Rattle.folder_copies.proofs.copy.copy_named.Goals as goal

pub loop-name-init : goal.loop-name-init
loop-name-init g c = record {
  copied = λ well. begun (g.F.Folder.contents c.args.folder.now) c.new-copy.ensures.files;
  unopened = λ well. c.new-copy.ensures.paths;
  failed = λ failed. absurd (let no : false ≡ true = sym c.new-copy.ensures.failed ∙ failed in cc);
  faults_of_copy = c.new-copy.ensures.faults;
  only_read = record { same_contents = refl; same_moments = refl; same_paths = refl; later = omega arith };
}

pub loop-name-preserved : goal.loop-name-preserved
loop-name-preserved g c =
    let told : Option FileMap = g.F.Folder.contents c.args.folder.now in
    let item = c.name-item.result in
    let before : List (List ℕ) = map (string_bytes {Z = Global}) (take c.loop-name.name-index c.args.names.now) in
    let name : List ℕ = string_bytes {Z = Global} item in
    let old = c.loop-name.copy in
    let new = c.copy_file.new.copy in
    let inv = c.loop-name.invariant in
    let did = c.in_ok-copy_file.ensures in
    let next = names_next c.args.names.now c.loop-name.name-index item c.loop-name-test.true c.name-item.is in
    let was : ℕ = g.F.Folder.faults c.args.folder.now in
    let mid : ℕ = g.F.Folder.faults c.loop-name.folder in
    let now : ℕ = g.F.Folder.faults c.copy_file.new.folder in
    record {
      copied = λ well.
          let puts : IfSome told (λ held. Some (file_map new.held.files) ≡ option_map (with_file held name) (Some (file_map old.held.files))) =
          subst (λ (t : Option FileMap). IfSome t (λ held. Some (file_map new.held.files) ≡ option_map (with_file held name) (Some (file_map old.held.files))))
          inv.only_read.same_contents
          (subst (λ (n : List ℕ). IfSome (g.F.Folder.contents c.loop-name.folder)
          (λ held. Some (file_map new.held.files) ≡ option_map (with_file held n) (Some (file_map old.held.files)))) c.as_str.ensures.value (did.copied well)) in
          subst (λ ns. IfSome told (λ held. HoldsNamed ns held (Some (file_map new.held.files)))) (sym next)
          (grown told before name (Some (file_map old.held.files)) (Some (file_map new.held.files)) (inv.copied (did.stays_failed well)) puts);
      unopened = λ well. did.unopened well ∙ inv.unopened (did.stays_failed well);
      failed = λ failed. elim (did.failed failed) [
        | inl before ↦ rose_behind (2 ^ 64 - 1) was mid now (inv.failed before) c.copy_file.ensures.only_read.later
        | inr rose ↦ rose_before (2 ^ 64 - 1) was mid now inv.only_read.later rose
      ];
      faults_of_copy = c.copy_file.ensures.faults_of_copy ∙ inv.faults_of_copy;
      only_read = OnlyRead-trans g.F.Folder.contents g.F.Folder.moments g.F.Folder.paths g.F.Folder.faults c.args.folder.now c.loop-name.folder
          c.copy_file.new.folder inv.only_read c.copy_file.ensures.only_read;
    }

pub returns-in_err-copy_file-clause-only_read : goal.returns-in_err-copy_file-clause-only_read
returns-in_err-copy_file-clause-only_read g c =
    OnlyRead-trans g.F.Folder.contents g.F.Folder.moments g.F.Folder.paths g.F.Folder.faults c.args.folder.now c.loop-name.folder
    c.copy_file.new.folder c.loop-name.invariant.only_read c.copy_file.ensures.only_read

pub returns-clause-copied : goal.returns-clause-copied
returns-clause-copied g c = λ well.
    subst (λ ns. IfSome (g.F.Folder.contents c.args.folder.now)
    (λ held. HoldsNamed (map (string_bytes {Z = Global}) ns) held (Some (file_map c.loop-name.copy.held.files))))
    (take_all c.args.names.now c.loop-name.name-index c.loop-name-test.false) (c.loop-name.invariant.copied well)
