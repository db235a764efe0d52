-- What is known of a dry run, by what its copies told.
use Rattle.std.proofs.lemmas.Grind.{common_steps}
use Rattle.std.proofs.Common.{◌≡◌, ◌⊎◌, ◌∙◌, ◌+◌, ◌-◌, ◌^◌, ◌≤◌, ℕ, List, [], ◌∷◌, ◌++◌, inl, inr, refl, sym, subst, ap, arith}
use Rattle.std.specs.Prelude.{IfSome, None, Option, Some, min}
use Rattle.std.specs.Option.{option_map}
use Rattle.hs_folders.specs.Causes.{Rose}
use Rattle.hs_folders.specs.FileMaps.{FileMap}
use Rattle.hs_folders.proofs.MomentLaws.{no_moment}
use Rattle.pdb_values.specs.Databases.{DatabaseValue}
use Rattle.pdb_values.specs.declared.user.UserInfo.{UserInfo}
use Rattle.handheld_files.specs.Openings.{HoldsAll, Stands}
use Rattle.desk_journal.specs.Overlays.{FinishesAs, finished}
use Rattle.folder_copies.specs.CopiedFolders.{contents_of, faults_of, paths_of}
use Rattle.folder_copies.specs.Copies.{IsCopy, TellsPaths}
use Rattle.folder_copies.specs.declared.copied_folder.CopiedFolder.{CopiedFolder}
use Rattle.cmd_status.specs.Opening.{Opens, OpensAtMost}
use Rattle.cmd_status.specs.Printed.{IsPrintedStatus}
use Rattle.cmd_status.specs.Told.{SinkTold}
use Rattle.run_words.specs.Runs.{Run}
use Rattle.call_parts.specs.Causes.{HasBegun}
use Rattle.cmd_session.specs.DryRuns.{HasDryRun, IsCopiedAs, IsDryRun, over}
use Rattle.call_parts.specs.Reports.{IsNotStarted}
use Rattle.cmd_session.specs.Runs.{HasRun, IsRun}
use Rattle.call_parts.specs.Stays.{StandsAsItDid}
use Rattle.call_parts.specs.Stays.{StaysAsItWas}
use Rattle.call_parts.specs.Told.{CallTold, FolderTold, SidesTold, folder_told, sides_of}
use Rattle.call_parts.specs.declared.report.Report.{Report}
use Rattle.cmd_status.specs.declared.status.Status.{Status}
use Rattle.call_parts.proofs.RetoldCalls.{still_blames}
use Rattle.call_parts.proofs.UndisturbedLaws.{none_is_some}

-- what a folder told is a copy of that
copy_itself : (told : Option FileMap) (before now : ℕ) → IsCopy told before now told
copy_itself None before now = inl tt
copy_itself (Some held) before now = inl refl

-- a folder that was not copied stands for its copy
pub uncopied : {before after : FolderTold} → StaysAsItWas before after → IsCopiedAs before after before
uncopied {before} {after} stays = record { stays = stays; copied_is = copy_itself before.contents before.faults after.faults }

pub stands_still : {before after : FolderTold} → StaysAsItWas before after → StandsAsItDid before after
stands_still {before} {after} stays = record {
  stands = ap (λ (told : Option FileMap). option_map finished told) stays.contents;
  each_moment = no_moment (FinishesAs before.contents) before.moments after.moments stays.moments;
}

-- ---- who is to blame

never_rose : (limit base : ℕ) → 1 ≤ limit → min (base + 1) limit ≤ 0 → ⊥
never_rose limit base some rose = grind (arith, common_steps)

rose_none : (base count : ℕ) → count ≡ 0 → Rose base count → ⊥
rose_none base count none rose = never_rose (2 ^ 64 - 1) base (omega arith) (subst (λ (n : ℕ). min (base + 1) (2 ^ 64 - 1) ≤ n) none rose)

-- a copy that was opened at one path at most and failed is that of a folder that failed
pub copy_blamed : (before now base count : ℕ) (path : List ℕ) (first last : Option (List (List ℕ))) → TellsPaths before now first
    → OpensAtMost path first last → (last ≡ None) ⊎ (count ≡ 0) → Rose base count → Rose before now
copy_blamed before now base count path first last (inr failed) opened steady rose = failed.1
copy_blamed before now base count path first last (inl told) opened (inr none) rose = absurd (rose_none base count none rose)
copy_blamed before now base count path first last (inl told) (inl same) (inl none) rose = absurd (none_is_some (sym none ∙ same ∙ told))
copy_blamed before now base count path first last (inl told) (inr new) (inl none) rose =
    absurd (none_is_some (sym none ∙ new ∙ ap (λ (o : Option (List (List ℕ))). option_map (λ paths. paths ++ path ∷ []) o) told))

-- ---- whatever is printed of it

-- what is known of a dry run, once its lines are printed
pub dry_printed : {run : Run} {before after : CallTold} {status : Status} {report : Report} {out out_after : SinkTold} (printed : Status)
    → IsPrintedStatus status printed
    → ((first last : CallTold) → HasRun run first last status report → IsRun run first last out out_after printed report)
    → HasDryRun run before after status report → IsDryRun run before after out out_after printed report
dry_printed printed is said has = record {
  copies = has.copies;
  left = has.left;
  ran = said _ _ has.ran;
  handheld = has.handheld;
  desktop = has.desktop;
  blames = still_blames printed is has.blames;
  opened = has.opened;
}

-- a run that touched nothing is a dry one, too
pub dry_untouched : {run : Run} {before : CallTold} {out out_after : SinkTold} {status : Status} {report : Report}
    → IsRun run before before out out_after status report → IsDryRun run before before out out_after status report
dry_untouched {run} {before} ran = record {
  copies = sides_of before;
  left = sides_of before;
  ran = ran;
  handheld = uncopied (record { contents = refl; moments = refl });
  desktop = uncopied (record { contents = refl; moments = refl });
  blames = ran.ran.blames;
  opened = ran.ran.opened;
}

-- ---- whatever it came to

-- a run that changed neither folder is a dry one, too
pub dry_of_run : {run : Run} {before after : CallTold} {status : Status} {report : Report} → HasRun run before after status report
    → StaysAsItWas before.palm after.palm → StaysAsItWas before.desk after.desk → HasDryRun run before after status report
dry_of_run {run} {before} {after} ran palm desk = record {
  copies = sides_of before;
  left = sides_of after;
  ran = ran;
  handheld = uncopied palm;
  desktop = uncopied desk;
  blames = ran.blames;
  opened = ran.opened;
}

-- a run over copies: who failed there failed when it was copied
pub dry_by_copies : {run : Run} {before after : CallTold} (copies left : SidesTold) {status : Status} {report : Report}
    → HasRun run (over copies before) (over left after) status report → IsCopiedAs before.palm after.palm copies.palm
    → IsCopiedAs before.desk after.desk copies.desk → (Rose copies.palm.faults left.palm.faults → Rose before.palm.faults after.palm.faults)
    → (Rose copies.desk.faults left.desk.faults → Rose before.desk.faults after.desk.faults)
    → OpensAtMost run.handheld before.palm.paths after.palm.paths → OpensAtMost run.desktop before.desk.paths after.desk.paths
    → (HasBegun report.end → Opens run.handheld before.palm.paths after.palm.paths × Opens run.desktop before.desk.paths after.desk.paths)
    → HasDryRun run before after status report
dry_by_copies copies left ran palm desk palm_blamed desk_blamed palm_path desk_path begun = record {
  copies = copies;
  left = left;
  ran = ran;
  handheld = palm;
  desktop = desk;
  blames = record {
    source = ran.blames.source;
    folders = record {
      handheld = λ e. palm_blamed (ran.blames.folders.handheld e);
      desktop = λ e. desk_blamed (ran.blames.folders.desktop e);
    };
    handheld_in_use = λ e. palm_blamed (ran.blames.handheld_in_use e);
    desktop_in_use = λ e. desk_blamed (ran.blames.desktop_in_use e);
    trace = ran.blames.trace;
  };
  opened = record {
    handheld = palm_path;
    desktop = desk_path;
    source = ran.opened.source;
    trace = ran.opened.trace;
    handheld_opened = λ b. (begun b).0;
    desktop_opened = λ b. (begun b).1;
    source_opened = ran.opened.source_opened;
    trace_opened = ran.opened.trace_opened;
  };
}

pub not_begun : {A : Type 0} {report : Report} → IsNotStarted report → HasBegun report.end → A
not_begun is begun = absurd (subst HasBegun is.end begun)

-- what a copy tells
abbrev pub copy_told : CopiedFolder → FolderTold
copy_told copy = folder_told contents_of (λ copied. None) paths_of faults_of copy

-- ---- what an opened copy stands for

holds_stands : (told : Option FileMap) (databases : List DatabaseValue) (user : UserInfo) → IfSome told (λ files. HoldsAll files databases user)
    → Stands told databases user
holds_stands None databases user holds = tt
holds_stands (Some held) databases user holds = holds.stands

pub copy_stands : (opened told : Option FileMap) (databases : List DatabaseValue) (user : UserInfo) → opened ≡ told
    → IfSome told (λ files. HoldsAll files databases user) → Stands opened databases user
copy_stands opened told databases user same holds =
    subst (λ (t : Option FileMap). Stands t databases user) (sym same) (holds_stands told databases user holds)
