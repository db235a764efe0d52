-- What holds of the entries that change a file holds of all of them.
use Rattle.std.proofs.Common.{◌≡◌, Option, subst}
use Rattle.std.specs.Prelude.{OnOk}
use Rattle.std.specs.List.{AllByRecursion}
use Rattle.std.specs.Option.{option_map}
use Rattle.hs_folders.specs.FileMaps.{FileMap}
use Rattle.desk_journal.specs.Entries.{entry_values}
use Rattle.desk_journal.specs.Overlays.{FinishesAs, put_all}
use Rattle.desk_journal.specs.Steps.{commit_steps}
use Rattle.desk_journal.proofs.ChangeLaws.{told_changed}
use Rattle.desk_journal.proofs.FinishLaws.{commit_same, each_finishes, each_stands, either_finishes, either_stands}
use Rattle.desk_journal.proofs.OverlayLaws.{on_err_of}
use Rattle.desk_journal.proofs.commit.commit_files.Goals as goal

pub returns-clause-refused : goal.returns-clause-refused
returns-clause-refused g c =
    let before = g.F.Folder.contents c.args.folder.now in
    let whole = option_map (put_all (entry_values c.args.entries.items)) before in
    let values = entry_values c.in_ok-changed.changed.items in
    let gone = rw (c.deref.ensures.value, c.in_ok-changed.ensures.read.same_contents, c.in_ok-changed.ensures.read.same_moments)
    at c.replace_files.ensures.steps in
    let all : AllByRecursion (FinishesAs whole) (commit_steps values before) =
    subst (λ (t : Option FileMap). AllByRecursion (FinishesAs t) (commit_steps values before))
    (told_changed before values (entry_values c.args.entries.items) c.requires.form c.in_ok-changed.ensures.changed)
    (commit_same values before c.in_ok-changed.ensures.form c.requires.no_journal) in
    on_err_of c.replace_files.result (either_stands whole (commit_steps values before) (g.F.Folder.contents c.replace_files.new.folder) all gone)

pub returns-clause-left : goal.returns-clause-left
returns-clause-left g c =
    let before = g.F.Folder.contents c.args.folder.now in
    let whole = option_map (put_all (entry_values c.args.entries.items)) before in
    let values = entry_values c.in_ok-changed.changed.items in
    let gone = rw (c.deref.ensures.value, c.in_ok-changed.ensures.read.same_contents, c.in_ok-changed.ensures.read.same_moments)
    at c.replace_files.ensures.steps in
    let all : AllByRecursion (FinishesAs whole) (commit_steps values before) =
    subst (λ (t : Option FileMap). AllByRecursion (FinishesAs t) (commit_steps values before))
    (told_changed before values (entry_values c.args.entries.items) c.requires.form c.in_ok-changed.ensures.changed)
    (commit_same values before c.in_ok-changed.ensures.form c.requires.no_journal) in
    either_finishes whole (commit_steps values before) all gone

pub returns-clause-each_moment : goal.returns-clause-each_moment
returns-clause-each_moment g c =
    let before = g.F.Folder.contents c.args.folder.now in
    let whole = option_map (put_all (entry_values c.args.entries.items)) before in
    let values = entry_values c.in_ok-changed.changed.items in
    let gone = rw (c.deref.ensures.value, c.in_ok-changed.ensures.read.same_contents, c.in_ok-changed.ensures.read.same_moments)
    at c.replace_files.ensures.steps in
    let all : AllByRecursion (FinishesAs whole) (commit_steps values before) =
    subst (λ (t : Option FileMap). AllByRecursion (FinishesAs t) (commit_steps values before))
    (told_changed before values (entry_values c.args.entries.items) c.requires.form c.in_ok-changed.ensures.changed)
    (commit_same values before c.in_ok-changed.ensures.form c.requires.no_journal) in
    each_stands whole (commit_steps values before) (g.F.Folder.moments c.args.folder.now) (g.F.Folder.moments c.replace_files.new.folder) all gone

pub returns-clause-each_left : goal.returns-clause-each_left
returns-clause-each_left g c =
    let before = g.F.Folder.contents c.args.folder.now in
    let whole = option_map (put_all (entry_values c.args.entries.items)) before in
    let values = entry_values c.in_ok-changed.changed.items in
    let gone = rw (c.deref.ensures.value, c.in_ok-changed.ensures.read.same_contents, c.in_ok-changed.ensures.read.same_moments)
    at c.replace_files.ensures.steps in
    let all : AllByRecursion (FinishesAs whole) (commit_steps values before) =
    subst (λ (t : Option FileMap). AllByRecursion (FinishesAs t) (commit_steps values before))
    (told_changed before values (entry_values c.args.entries.items) c.requires.form c.in_ok-changed.ensures.changed)
    (commit_same values before c.in_ok-changed.ensures.form c.requires.no_journal) in
    each_finishes whole (commit_steps values before) all gone

pub returns-clause-done : goal.returns-clause-done
returns-clause-done g c =
    let before = g.F.Folder.contents c.args.folder.now in
    let values = entry_values c.in_ok-changed.changed.items in
    let done = rw (c.deref.ensures.value, c.in_ok-changed.ensures.read.same_contents) at c.replace_files.ensures.done in
    subst (λ (t : Option FileMap). OnOk c.replace_files.result (g.F.Folder.contents c.replace_files.new.folder ≡ t))
    (told_changed before values (entry_values c.args.entries.items) c.requires.form c.in_ok-changed.ensures.changed) done
