use Rattle.std.proofs.Common.{◌∙◌, ◌≤◌, ap, refl, subst, sym}
use Rattle.std.specs.Prelude.{map, string_bytes}
use Rattle.run_words.specs.Commands.{task_of}
use Rattle.run_words.specs.declared.between.BetweenWords.{BetweenWords}
use Rattle.run_words.specs.declared.command.MakeWords.{MakeWords}
use Rattle.run_words.specs.declared.run.RunWords.{RunWords}
use Rattle.cmd_status.specs.Told.{sink_told}
use Rattle.call_parts.specs.Told.{call_told}
use Rattle.hotsync_run.proofs.CallLaws.{only_memory, unread_call}
use Rattle.hotsync_run.proofs.MakeWords.{few_asked}
use Rattle.hotsync_run.proofs.PathLaws.{asks_for, copied_none, never_none, none_by}
use Rattle.hotsync_run.proofs.command.hotsync.Goals as goal

pub run_made_folders-status-requires : goal.run_made_folders-status-requires
run_made_folders-status-requires g c =
    subst (λ (w : MakeWords). w.count ≤ 5000) (sym c.in-Ok-Make.words-is)
    (few_asked c.args.now (map string_bytes c.args.words.now) (asks_for c.in-Ok-Make.ensures.command c.in-Ok-Make.field-0-is))

pub returns-in-Err-NoMemory-clause-run : goal.returns-in-Err-NoMemory-clause-run
returns-in-Err-NoMemory-clause-run g c =
    let before = call_told g.H.Folder g.D.Folder g.S.Source g.T.Sink c.args.device c.args.desk c.args.source.now c.args.trace.now in
    let out = sink_told g.O.Sink c.args.out.now in
    let out_after = sink_told g.O.Sink c.print_refusal-status.new.out in
    let said = c.print_refusal-status in
    let end = c.not_started-in-Err-NoMemory in
    let memory = only_memory said.ensures.status in
    rw (end.ensures.status, end.ensures.device, end.ensures.desk, memory)
    (unread_call (task_of c.args.now (map string_bytes c.args.words.now)) before (sink_told g.E.Sink c.args.err.now) end.ensures.report
    (rw memory at said.ensures.printed))

pub returns-in-Ok-Run-clause-device : goal.returns-in-Ok-Run-clause-device
returns-in-Ok-Run-clause-device g c = λ none.
    absurd (never_none (λ paths. paths.handheld) (asks_for c.in-Ok-Run.ensures.command c.in-Ok-Run.field-0-is) refl none)

pub returns-in-Ok-Run-clause-desk : goal.returns-in-Ok-Run-clause-desk
returns-in-Ok-Run-clause-desk g c = λ none.
    absurd (never_none (λ paths. paths.desktop) (asks_for c.in-Ok-Run.ensures.command c.in-Ok-Run.field-0-is) refl none)

pub returns-in-Ok-Run-clause-source : goal.returns-in-Ok-Run-clause-source
returns-in-Ok-Run-clause-source g c = λ none.
    c.run_folders.ensures.source (ap (λ (w : RunWords). w.script) c.in-Ok-Run.run-is ∙ copied_none c.in-Ok-Run.run'.script
    (none_by (λ paths. paths.source) (asks_for c.in-Ok-Run.ensures.command c.in-Ok-Run.field-0-is) none))

pub returns-in-Ok-Run-clause-trace : goal.returns-in-Ok-Run-clause-trace
returns-in-Ok-Run-clause-trace g c = λ none.
    c.run_folders.ensures.trace (ap (λ (w : RunWords). w.trace) c.in-Ok-Run.run-is ∙ copied_none c.in-Ok-Run.run'.trace
    (none_by (λ paths. paths.trace) (asks_for c.in-Ok-Run.ensures.command c.in-Ok-Run.field-0-is) none))

pub returns-in-Ok-DryRun-clause-device : goal.returns-in-Ok-DryRun-clause-device
returns-in-Ok-DryRun-clause-device g c = λ none.
    absurd (never_none (λ paths. paths.handheld) (asks_for c.in-Ok-DryRun.ensures.command c.in-Ok-DryRun.field-0-is) refl none)

pub returns-in-Ok-DryRun-clause-desk : goal.returns-in-Ok-DryRun-clause-desk
returns-in-Ok-DryRun-clause-desk g c = λ none.
    absurd (never_none (λ paths. paths.desktop) (asks_for c.in-Ok-DryRun.ensures.command c.in-Ok-DryRun.field-0-is) refl none)

pub returns-in-Ok-DryRun-clause-source : goal.returns-in-Ok-DryRun-clause-source
returns-in-Ok-DryRun-clause-source g c = λ none.
    c.dry_run_folders.ensures.source (ap (λ (w : RunWords). w.script) c.in-Ok-DryRun.run-is ∙ copied_none c.in-Ok-DryRun.run'.script
    (none_by (λ paths. paths.source) (asks_for c.in-Ok-DryRun.ensures.command c.in-Ok-DryRun.field-0-is) none))

pub returns-in-Ok-DryRun-clause-trace : goal.returns-in-Ok-DryRun-clause-trace
returns-in-Ok-DryRun-clause-trace g c = λ none.
    c.dry_run_folders.ensures.trace (ap (λ (w : RunWords). w.trace) c.in-Ok-DryRun.run-is ∙ copied_none c.in-Ok-DryRun.run'.trace
    (none_by (λ paths. paths.trace) (asks_for c.in-Ok-DryRun.ensures.command c.in-Ok-DryRun.field-0-is) none))

pub returns-in-Ok-Look-clause-source : goal.returns-in-Ok-Look-clause-source
returns-in-Ok-Look-clause-source g c = λ none.
    absurd (never_none (λ paths. paths.source) (asks_for c.in-Ok-Look.ensures.command c.in-Ok-Look.field-0-is) refl none)

pub returns-in-Ok-Install-clause-device : goal.returns-in-Ok-Install-clause-device
returns-in-Ok-Install-clause-device g c = λ none.
    absurd (never_none (λ paths. paths.handheld) (asks_for c.in-Ok-Install.ensures.command c.in-Ok-Install.field-0-is) refl none)

pub returns-in-Ok-Install-clause-source : goal.returns-in-Ok-Install-clause-source
returns-in-Ok-Install-clause-source g c = λ none.
    absurd (never_none (λ paths. paths.source) (asks_for c.in-Ok-Install.ensures.command c.in-Ok-Install.field-0-is) refl none)

pub returns-in-Ok-Install-clause-trace : goal.returns-in-Ok-Install-clause-trace
returns-in-Ok-Install-clause-trace g c = λ none.
    c.install_file.ensures.trace (ap (λ (w : BetweenWords). w.trace) c.in-Ok-Install.words-is ∙ copied_none c.in-Ok-Install.words.trace
    (none_by (λ paths. paths.trace) (asks_for c.in-Ok-Install.ensures.command c.in-Ok-Install.field-0-is) none))

pub returns-in-Ok-Backup-clause-device : goal.returns-in-Ok-Backup-clause-device
returns-in-Ok-Backup-clause-device g c = λ none.
    absurd (never_none (λ paths. paths.handheld) (asks_for c.in-Ok-Backup.ensures.command c.in-Ok-Backup.field-0-is) refl none)

pub returns-in-Ok-Backup-clause-desk : goal.returns-in-Ok-Backup-clause-desk
returns-in-Ok-Backup-clause-desk g c = λ none.
    absurd (never_none (λ paths. paths.desktop) (asks_for c.in-Ok-Backup.ensures.command c.in-Ok-Backup.field-0-is) refl none)

pub returns-in-Ok-Backup-clause-source : goal.returns-in-Ok-Backup-clause-source
returns-in-Ok-Backup-clause-source g c = λ none.
    c.backup_folder.ensures.source (ap (λ (w : BetweenWords). w.script) c.in-Ok-Backup.words-is ∙ copied_none c.in-Ok-Backup.words.script
    (none_by (λ paths. paths.source) (asks_for c.in-Ok-Backup.ensures.command c.in-Ok-Backup.field-0-is) none))

pub returns-in-Ok-Backup-clause-trace : goal.returns-in-Ok-Backup-clause-trace
returns-in-Ok-Backup-clause-trace g c = λ none.
    c.backup_folder.ensures.trace (ap (λ (w : BetweenWords). w.trace) c.in-Ok-Backup.words-is ∙ copied_none c.in-Ok-Backup.words.trace
    (none_by (λ paths. paths.trace) (asks_for c.in-Ok-Backup.ensures.command c.in-Ok-Backup.field-0-is) none))

pub returns-in-Ok-Restore-clause-device : goal.returns-in-Ok-Restore-clause-device
returns-in-Ok-Restore-clause-device g c = λ none.
    absurd (never_none (λ paths. paths.handheld) (asks_for c.in-Ok-Restore.ensures.command c.in-Ok-Restore.field-0-is) refl none)

pub returns-in-Ok-Restore-clause-desk : goal.returns-in-Ok-Restore-clause-desk
returns-in-Ok-Restore-clause-desk g c = λ none.
    absurd (never_none (λ paths. paths.desktop) (asks_for c.in-Ok-Restore.ensures.command c.in-Ok-Restore.field-0-is) refl none)

pub returns-in-Ok-Restore-clause-source : goal.returns-in-Ok-Restore-clause-source
returns-in-Ok-Restore-clause-source g c = λ none.
    c.restore_folder.ensures.source (ap (λ (w : BetweenWords). w.script) c.in-Ok-Restore.words-is ∙ copied_none c.in-Ok-Restore.words.script
    (none_by (λ paths. paths.source) (asks_for c.in-Ok-Restore.ensures.command c.in-Ok-Restore.field-0-is) none))

pub returns-in-Ok-Restore-clause-trace : goal.returns-in-Ok-Restore-clause-trace
returns-in-Ok-Restore-clause-trace g c = λ none.
    c.restore_folder.ensures.trace (ap (λ (w : BetweenWords). w.trace) c.in-Ok-Restore.words-is ∙ copied_none c.in-Ok-Restore.words.trace
    (none_by (λ paths. paths.trace) (asks_for c.in-Ok-Restore.ensures.command c.in-Ok-Restore.field-0-is) none))

pub returns-in-Ok-Device-clause-device : goal.returns-in-Ok-Device-clause-device
returns-in-Ok-Device-clause-device g c = λ none.
    absurd (never_none (λ paths. paths.handheld) (asks_for c.in-Ok-Device.ensures.command c.in-Ok-Device.field-0-is) refl none)

pub returns-in-Ok-Device-clause-source : goal.returns-in-Ok-Device-clause-source
returns-in-Ok-Device-clause-source g c = λ none.
    absurd (never_none (λ paths. paths.source) (asks_for c.in-Ok-Device.ensures.command c.in-Ok-Device.field-0-is) refl none)

pub returns-in-Ok-Device-clause-trace : goal.returns-in-Ok-Device-clause-trace
returns-in-Ok-Device-clause-trace g c = λ none.
    absurd (never_none (λ paths. paths.trace) (asks_for c.in-Ok-Device.ensures.command c.in-Ok-Device.field-0-is) refl none)

pub returns-in-Ok-Categories-clause-device : goal.returns-in-Ok-Categories-clause-device
returns-in-Ok-Categories-clause-device g c = λ none.
    absurd (never_none (λ paths. paths.handheld) (asks_for c.in-Ok-Categories.ensures.command c.in-Ok-Categories.field-0-is) refl none)

pub returns-in-Ok-Categories-clause-desk : goal.returns-in-Ok-Categories-clause-desk
returns-in-Ok-Categories-clause-desk g c = λ none.
    absurd (never_none (λ paths. paths.desktop) (asks_for c.in-Ok-Categories.ensures.command c.in-Ok-Categories.field-0-is) refl none)

pub returns-in-Ok-Categories-clause-source : goal.returns-in-Ok-Categories-clause-source
returns-in-Ok-Categories-clause-source g c = λ none.
    c.file_categories.ensures.source (ap (λ (w : BetweenWords). w.script) c.in-Ok-Categories.words-is ∙ copied_none c.in-Ok-Categories.words.script
    (none_by (λ paths. paths.source) (asks_for c.in-Ok-Categories.ensures.command c.in-Ok-Categories.field-0-is) none))

pub returns-in-Ok-Categories-clause-trace : goal.returns-in-Ok-Categories-clause-trace
returns-in-Ok-Categories-clause-trace g c = λ none.
    c.file_categories.ensures.trace (ap (λ (w : BetweenWords). w.trace) c.in-Ok-Categories.words-is ∙ copied_none c.in-Ok-Categories.words.trace
    (none_by (λ paths. paths.trace) (asks_for c.in-Ok-Categories.ensures.command c.in-Ok-Categories.field-0-is) none))
