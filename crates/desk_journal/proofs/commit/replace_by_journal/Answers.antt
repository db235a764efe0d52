-- The journal is written, and then carried out.
use Rattle.std.proofs.Common.{◌≡◌, ◌∷◌, [], List, ℕ, Option, sym, ap, subst, ◌∙◌}
use Rattle.std.specs.FinMap as finmap
use Rattle.std.specs.Option.{option_map}
use Rattle.hs_folders.specs.FileMaps.{FileMap}
use Rattle.folder_files.specs.FileNames.{journal_file}
use Rattle.desk_journal.specs.Entries.{entry_values, journal_text}
use Rattle.desk_journal.specs.Overlays.{overlay}
use Rattle.desk_journal.specs.Steps.{GoesThrough, GoesThroughAll, journal_steps, with_journal}
use Rattle.desk_journal.proofs.OverlayLaws.{Journals, commit_done, written_there}
use Rattle.desk_journal.proofs.StepLaws.{journaled_all, through_then}
use Rattle.desk_journal.proofs.commit.replace_by_journal.Goals as goal

pub carry_out-requires-clause-written : goal.carry_out-requires-clause-written
carry_out-requires-clause-written g c =
    let values = entry_values c.args.entries.now in
    let before = g.F.Folder.contents c.args.folder.now in
    let text : c.deref.result.now ≡ journal_text values = c.deref.ensures.value ∙ c.in-Ok.ensures in
    let written : g.F.Folder.contents c.replace.new.self ≡ with_journal values before =
    c.in_ok-replace.ensures.replaced ∙ ap (λ (bytes : List ℕ). option_map (λ (held : FileMap). finmap.insert held journal_file bytes) before) text in
    subst (λ (told : Option FileMap). Journals told (journal_text values)) (sym written) (written_there before (journal_text values))

pub returns-in_err-carry_out-clause-steps : goal.returns-in_err-carry_out-clause-steps
returns-in_err-carry_out-clause-steps g c =
    let values = entry_values c.args.entries.now in
    let before = g.F.Folder.contents c.args.folder.now in
    let mid = g.F.Folder.contents c.replace.new.self in
    let text : c.deref.result.now ≡ journal_text values = c.deref.ensures.value ∙ c.in-Ok.ensures in
    let written : mid ≡ with_journal values before =
    c.in_ok-replace.ensures.replaced ∙ ap (λ (bytes : List ℕ). option_map (λ (held : FileMap). finmap.insert held journal_file bytes) before) text in
    through_then (with_journal values before ∷ []) before mid written
    (subst (λ (t : Option FileMap). GoesThroughAll (t ∷ []) (g.F.Folder.moments c.args.folder.now) (g.F.Folder.moments c.replace.new.self)) written
    c.in_ok-replace.ensures.moment)
    (subst (λ (t : Option FileMap). GoesThrough (journal_steps values t) mid (g.F.Folder.contents c.carry_out.new.folder)
    (g.F.Folder.moments c.replace.new.self) (g.F.Folder.moments c.carry_out.new.folder)) written c.carry_out.ensures.steps)

pub returns-clause-done : goal.returns-clause-done
returns-clause-done g c =
    let values = entry_values c.args.entries.now in
    let before = g.F.Folder.contents c.args.folder.now in
    let text : c.deref.result.now ≡ journal_text values = c.deref.ensures.value ∙ c.in-Ok.ensures in
    let written : g.F.Folder.contents c.replace.new.self ≡ with_journal values before =
    c.in_ok-replace.ensures.replaced ∙ ap (λ (bytes : List ℕ). option_map (λ (held : FileMap). finmap.insert held journal_file bytes) before) text in
    c.in_ok-carry_out.ensures.done ∙ (ap (option_map overlay) written ∙ commit_done values before c.requires.form c.requires.no_journal)

pub returns-clause-steps : goal.returns-clause-steps
returns-clause-steps g c =
    let values = entry_values c.args.entries.now in
    let before = g.F.Folder.contents c.args.folder.now in
    let mid = g.F.Folder.contents c.replace.new.self in
    let text : c.deref.result.now ≡ journal_text values = c.deref.ensures.value ∙ c.in-Ok.ensures in
    let written : mid ≡ with_journal values before =
    c.in_ok-replace.ensures.replaced ∙ ap (λ (bytes : List ℕ). option_map (λ (held : FileMap). finmap.insert held journal_file bytes) before) text in
    through_then (with_journal values before ∷ []) before mid written
    (subst (λ (t : Option FileMap). GoesThroughAll (t ∷ []) (g.F.Folder.moments c.args.folder.now) (g.F.Folder.moments c.replace.new.self)) written
    c.in_ok-replace.ensures.moment)
    (subst (λ (t : Option FileMap). GoesThrough (journal_steps values t) mid (g.F.Folder.contents c.carry_out.new.folder)
    (g.F.Folder.moments c.replace.new.self) (g.F.Folder.moments c.carry_out.new.folder)) written c.carry_out.ensures.steps)

pub returns-clause-all : goal.returns-clause-all
returns-clause-all g c =
    let values = entry_values c.args.entries.now in
    let before = g.F.Folder.contents c.args.folder.now in
    let mid = g.F.Folder.contents c.replace.new.self in
    let text : c.deref.result.now ≡ journal_text values = c.deref.ensures.value ∙ c.in-Ok.ensures in
    let written : mid ≡ with_journal values before =
    c.in_ok-replace.ensures.replaced ∙ ap (λ (bytes : List ℕ). option_map (λ (held : FileMap). finmap.insert held journal_file bytes) before) text in
    journaled_all values before mid _ _ _ written
    (subst (λ (t : Option FileMap). GoesThroughAll (t ∷ []) (g.F.Folder.moments c.args.folder.now) (g.F.Folder.moments c.replace.new.self)) written
    c.in_ok-replace.ensures.moment) c.in_ok-carry_out.ensures.all
