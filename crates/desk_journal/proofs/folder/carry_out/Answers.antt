-- The files are replaced, and then the journal is removed.
use Rattle.std.proofs.Common.{◌∷◌, [], sym, ap, subst, ◌∙◌, Option}
use Rattle.std.specs.Prelude.{IfSome, IsSome}
use Rattle.std.specs.FinMap as finmap
use Rattle.std.specs.Option.{option_map}
use Rattle.hs_folders.specs.FileMaps.{FileMap}
use Rattle.folder_files.specs.FileNames.{journal_file}
use Rattle.desk_journal.specs.Entries.{entry_values}
use Rattle.desk_journal.specs.Overlays.{put_all}
use Rattle.desk_journal.specs.Steps.{GoesThrough, replacements, without_journal}
use Rattle.desk_journal.proofs.OverlayLaws.{told_removed, told_there}
use Rattle.desk_journal.proofs.StepLaws.{carried_all, last_told-replacements, through_more, through_then}
use Rattle.desk_journal.proofs.folder.carry_out.Goals as goal

pub remove_journal-requires : goal.remove_journal-requires
remove_journal-requires g c =
    let there = told_there (entry_values c.args.entries.now) (g.F.Folder.contents c.args.folder.now) c.requires.form c.requires.written in
    record {
      there = subst (λ (told : Option FileMap). IfSome told (λ held. IsSome (finmap.get held journal_file))) (sym c.in_ok-replace_all.ensures.done) there;
    }

pub returns-in_err-replace_all-clause-steps : goal.returns-in_err-replace_all-clause-steps
returns-in_err-replace_all-clause-steps g c =
    through_more (without_journal (option_map (put_all (entry_values c.args.entries.now)) (g.F.Folder.contents c.args.folder.now)) ∷ [])
    c.replace_all.ensures.steps

pub returns-in_err-remove_journal-clause-steps : goal.returns-in_err-remove_journal-clause-steps
returns-in_err-remove_journal-clause-steps g c =
    let values = entry_values c.args.entries.now in
    let before = g.F.Folder.contents c.args.folder.now in
    let put = c.in_ok-replace_all.ensures.done in
    through_then (replacements values before) before (g.F.Folder.contents c.replace_all.new.folder) (put ∙ sym (last_told-replacements values before))
    c.in_ok-replace_all.ensures.all
    (subst (λ (t : Option FileMap). GoesThrough (without_journal t ∷ []) (g.F.Folder.contents c.replace_all.new.folder)
    (g.F.Folder.contents c.remove_journal.new.folder) (g.F.Folder.moments c.replace_all.new.folder) (g.F.Folder.moments c.remove_journal.new.folder)) put
    c.remove_journal.ensures.steps)

pub returns-clause-done : goal.returns-clause-done
returns-clause-done g c =
    c.in_ok-remove_journal.ensures.removed
    ∙ (ap (option_map (λ (held : FileMap). finmap.remove held journal_file)) c.in_ok-replace_all.ensures.done ∙ told_removed (entry_values c.args.entries.now)
    (g.F.Folder.contents c.args.folder.now) c.requires.form c.requires.written)

pub returns-clause-steps : goal.returns-clause-steps
returns-clause-steps g c =
    let values = entry_values c.args.entries.now in
    let before = g.F.Folder.contents c.args.folder.now in
    let put = c.in_ok-replace_all.ensures.done in
    through_then (replacements values before) before (g.F.Folder.contents c.replace_all.new.folder) (put ∙ sym (last_told-replacements values before))
    c.in_ok-replace_all.ensures.all
    (subst (λ (t : Option FileMap). GoesThrough (without_journal t ∷ []) (g.F.Folder.contents c.replace_all.new.folder)
    (g.F.Folder.contents c.remove_journal.new.folder) (g.F.Folder.moments c.replace_all.new.folder) (g.F.Folder.moments c.remove_journal.new.folder)) put
    c.remove_journal.ensures.steps)

pub returns-clause-all : goal.returns-clause-all
returns-clause-all g c =
    carried_all (entry_values c.args.entries.now) (g.F.Folder.contents c.args.folder.now) (g.F.Folder.contents c.replace_all.new.folder) _ _ _
    c.in_ok-replace_all.ensures.done c.in_ok-replace_all.ensures.all c.in_ok-remove_journal.ensures.all
