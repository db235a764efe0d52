-- What was found is the desktop: a bad journal would be a bad file.
use Rattle.std.proofs.Common.{◌≡◌, ◌∙◌, Ok, Option, sym, ap, rules, subst}
use Rattle.std.specs.Prelude.{IfSome}
use Rattle.hs_folders.specs.FileMaps.{FileMap}
use Rattle.folder_files.specs.Slots.{AllRise, AreSlots}
use Rattle.desk_journal.specs.Overlays.{HasNoJournal}
use Rattle.desk_store.proofs.OpenLaws.{HoldsAll, told_clear, told_desk, told_good}
use Rattle.desk_store.proofs.SlotListLaws.{marks_of-as}
use Rattle.desk_store.proofs.opening.open_files.Goals as goal

pub returns-clause-desk : goal.returns-clause-desk
returns-clause-desk g c =
    let told = g.F.Folder.contents c.args.folder.now in
    let now = g.F.Folder.contents c.read_files.new.folder in
    let slots = c.in_ok-found.found.items in
    let here : now ≡ g.F.Folder.contents c.finish_journal.new.folder = c.read_files.ensures.read.same_contents
    ∙ (c.read_slots.ensures.read.same_contents ∙ c.list.ensures.contents) in
    let holds : IfSome now (λ held. HoldsAll held slots) = search rules in
    let none =
    told_clear told c.in_ok-finish_journal.field-0 (here ∙ c.in_ok-finish_journal.ensures.done) c.in_ok-finish_journal.ensures.bad
    (λ none. subst (λ (o : Option FileMap). IfSome o HasNoJournal) (sym here) (c.in_ok-finish_journal.ensures.no_journal (ap Ok none)))
    (told_good now slots holds) in
    let marked = c.in_ok-found.ensures.form.marked in
    told_desk now (subst AreSlots (sym (marks_of-as c.in_ok-slots.slots.items slots marked)) c.in_ok-slots.ensures.formed) (subst AllRise (sym marked) c.in_ok-slots.ensures.parted)
    (c.in_ok-found.ensures.form.ordered c.in_ok-slots.ensures.ordered) holds none
