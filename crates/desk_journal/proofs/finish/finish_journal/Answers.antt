-- There is no journal, or one out of its form, or one that is carried out.
use Rattle.std.proofs.Common.{◌≡◌, List, Ok, Err, Option, sym, ap, subst, ◌∙◌}
use Rattle.std.specs.Prelude.{IfSome}
use Rattle.std.specs.Option.{option_map}
use Rattle.hs_folders.specs.FileMaps.{FileMap}
use Rattle.hs_folders.specs.Moments.{Moments}
use Rattle.desk_journal.specs.declared.entry.Entry.{Entry}
use Rattle.desk_journal.specs.declared.fault.JournalFault.{JournalFault}
use Rattle.desk_journal.specs.Entries.{EntryValue, entry_values, journal_text}
use Rattle.desk_journal.specs.Overlays.{HasNoJournal, overlay}
use Rattle.desk_journal.specs.Reading.{Reads, journal_in}
use Rattle.desk_journal.specs.Steps.{GoesThrough, journal_steps}
use Rattle.desk_journal.proofs.FinishLaws.{each_finishes, each_stands, journal_same, last_finishes}
use Rattle.desk_journal.proofs.StandLaws.{finishes_stands}
use Rattle.desk_journal.proofs.OverlayLaws.{Journals, bad_none, bad_told, finished_bad, finished_good, finished_none, good_told, told_no_journal}
use Rattle.desk_journal.proofs.finish.finish_journal.Goals as goal

-- the steps are those of the folder as it was before its journal was read
gone_through : {told before after : Option FileMap} {old half new : Moments} {values entries : List EntryValue} → before ≡ told → half ≡ old → entries ≡ values
    → GoesThrough (journal_steps entries before) before after half new → GoesThrough (journal_steps values told) told after old new
gone_through {told} {before} {after} {old} {half} {new} {values} {entries} same still are it =
    subst (λ (e : List EntryValue). GoesThrough (journal_steps e told) told after old new) are
    (subst (λ (m : Moments). GoesThrough (journal_steps entries told) told after m new) still
    (subst (λ (t : Option FileMap). GoesThrough (journal_steps entries t) t after half new) same it))

pub returns-in-Err-Missing-clause-done : goal.returns-in-Err-Missing-clause-done
returns-in-Err-Missing-clause-done g c = c.read.ensures.contents ∙ finished_none (g.F.Folder.contents c.args.folder.now)
    (c.in-Err-Missing.ensures.missing (ap Err c.in-Err-Missing.field-0-is))

pub returns-in-Err-Missing-clause-bad : goal.returns-in-Err-Missing-clause-bad
returns-in-Err-Missing-clause-bad g c = bad_none (g.F.Folder.contents c.args.folder.now) (c.in-Err-Missing.ensures.missing (ap Err c.in-Err-Missing.field-0-is))

pub returns-in-Err-Bad-clause-done : goal.returns-in-Err-Bad-clause-done
returns-in-Err-Bad-clause-done g c =
    let bad : journal_in c.in-Ok.bytes.items ≡ Err c.in-Err-Bad.bad = rw (← c.deref.ensures.value)
    (subst (λ (fault : JournalFault). Reads (Err fault) (journal_in c.deref.result.now)) c.in-Err-Bad.field-0-is c.in-Err-Bad.ensures.exact) in
    c.read.ensures.contents ∙ finished_bad (g.F.Folder.contents c.args.folder.now) c.in-Ok.bytes.items c.in-Ok.ensures.bytes bad

pub returns-in-Err-Bad-clause-bad : goal.returns-in-Err-Bad-clause-bad
returns-in-Err-Bad-clause-bad g c =
    let bad : journal_in c.in-Ok.bytes.items ≡ Err c.in-Err-Bad.bad = rw (← c.deref.ensures.value)
    (subst (λ (fault : JournalFault). Reads (Err fault) (journal_in c.deref.result.now)) c.in-Err-Bad.field-0-is c.in-Err-Bad.ensures.exact) in
    bad_told (g.F.Folder.contents c.args.folder.now) c.in-Ok.bytes.items c.in-Ok.ensures.bytes bad

pub carry_out-requires-clause-written : goal.carry_out-requires-clause-written
carry_out-requires-clause-written g c =
    let text : c.in-Ok.bytes.items ≡ journal_text (entry_values c.deref-2.result.now) =
    sym c.deref.ensures.value ∙ (c.in-Ok-read_journal.ensures.found.1 ∙ ap (λ (entries : List Entry). journal_text (entry_values entries))
    (sym c.deref-2.ensures.value)) in
    let there = subst (Journals (g.F.Folder.contents c.args.folder.now)) text c.in-Ok.ensures.bytes in
    subst (λ (told : Option FileMap). Journals told (journal_text (entry_values c.deref-2.result.now))) (sym c.read.ensures.contents) there

pub returns-clause-done : goal.returns-clause-done
returns-clause-done g c =
    let good : journal_in c.in-Ok.bytes.items ≡ Ok (entry_values c.in-Ok-read_journal.entries.items) = rw (← c.deref.ensures.value)
    c.in-Ok-read_journal.ensures.exact in
    c.in_ok-carry_out.ensures.done
    ∙ (ap (option_map overlay) c.read.ensures.contents ∙ finished_good (g.F.Folder.contents c.args.folder.now) c.in-Ok.bytes.items c.in-Ok.ensures.bytes good)

pub returns-clause-bad : goal.returns-clause-bad
returns-clause-bad g c =
    let good : journal_in c.in-Ok.bytes.items ≡ Ok (entry_values c.in-Ok-read_journal.entries.items) = rw (← c.deref.ensures.value)
    c.in-Ok-read_journal.ensures.exact in
    good_told (g.F.Folder.contents c.args.folder.now) c.in-Ok.bytes.items c.in-Ok.ensures.bytes good

pub returns-in-Err-Missing-clause-no_journal : goal.returns-in-Err-Missing-clause-no_journal
returns-in-Err-Missing-clause-no_journal g c =
    λ finished. subst (λ (told : Option FileMap). IfSome told HasNoJournal) (sym c.read.ensures.contents)
    (c.in-Err-Missing.ensures.missing (ap Err c.in-Err-Missing.field-0-is))

pub returns-clause-no_journal : goal.returns-clause-no_journal
returns-clause-no_journal g c =
    let values = entry_values c.in-Ok-read_journal.entries.items in
    let text : c.in-Ok.bytes.items ≡ journal_text values = sym c.deref.ensures.value ∙ c.in-Ok-read_journal.ensures.found.1 in
    let there = subst (Journals (g.F.Folder.contents c.args.folder.now)) text c.in-Ok.ensures.bytes in
    let written = subst (λ (told : Option FileMap). Journals told (journal_text values)) (sym c.read.ensures.contents) there in
    λ finished. subst (λ (told : Option FileMap). IfSome told HasNoJournal) (sym c.in_ok-carry_out.ensures.done)
    (told_no_journal values (g.F.Folder.contents c.read.new.self) c.in-Ok-read_journal.ensures.found.0 written)

pub returns-in_err-carry_out-clause-stands : goal.returns-in_err-carry_out-clause-stands
returns-in_err-carry_out-clause-stands g c =
    let values = entry_values c.in-Ok-read_journal.entries.items in
    let text : c.in-Ok.bytes.items ≡ journal_text values = sym c.deref.ensures.value ∙ c.in-Ok-read_journal.ensures.found.1 in
    let there = subst (Journals (g.F.Folder.contents c.args.folder.now)) text c.in-Ok.ensures.bytes in
    let all = journal_same values (g.F.Folder.contents c.args.folder.now) c.in-Ok-read_journal.ensures.found.0 there in
    let gone = gone_through c.read.ensures.contents c.read.ensures.moments (ap entry_values c.deref-2.ensures.value) c.carry_out.ensures.steps in
    finishes_stands (g.F.Folder.contents c.args.folder.now) (g.F.Folder.contents c.carry_out.new.folder)
    (last_finishes (journal_steps values (g.F.Folder.contents c.args.folder.now)) all gone)

pub returns-in_err-carry_out-clause-left : goal.returns-in_err-carry_out-clause-left
returns-in_err-carry_out-clause-left g c =
    let values = entry_values c.in-Ok-read_journal.entries.items in
    let text : c.in-Ok.bytes.items ≡ journal_text values = sym c.deref.ensures.value ∙ c.in-Ok-read_journal.ensures.found.1 in
    let there = subst (Journals (g.F.Folder.contents c.args.folder.now)) text c.in-Ok.ensures.bytes in
    let all = journal_same values (g.F.Folder.contents c.args.folder.now) c.in-Ok-read_journal.ensures.found.0 there in
    let gone = gone_through c.read.ensures.contents c.read.ensures.moments (ap entry_values c.deref-2.ensures.value) c.carry_out.ensures.steps in
    last_finishes (journal_steps values (g.F.Folder.contents c.args.folder.now)) all gone

pub returns-in_err-carry_out-clause-each_moment : goal.returns-in_err-carry_out-clause-each_moment
returns-in_err-carry_out-clause-each_moment g c =
    let values = entry_values c.in-Ok-read_journal.entries.items in
    let text : c.in-Ok.bytes.items ≡ journal_text values = sym c.deref.ensures.value ∙ c.in-Ok-read_journal.ensures.found.1 in
    let there = subst (Journals (g.F.Folder.contents c.args.folder.now)) text c.in-Ok.ensures.bytes in
    let all = journal_same values (g.F.Folder.contents c.args.folder.now) c.in-Ok-read_journal.ensures.found.0 there in
    let gone = gone_through c.read.ensures.contents c.read.ensures.moments (ap entry_values c.deref-2.ensures.value) c.carry_out.ensures.steps in
    each_stands (g.F.Folder.contents c.args.folder.now) (journal_steps values (g.F.Folder.contents c.args.folder.now)) (g.F.Folder.moments c.args.folder.now)
    (g.F.Folder.moments c.carry_out.new.folder) all gone

pub returns-in_err-carry_out-clause-each_left : goal.returns-in_err-carry_out-clause-each_left
returns-in_err-carry_out-clause-each_left g c =
    let values = entry_values c.in-Ok-read_journal.entries.items in
    let text : c.in-Ok.bytes.items ≡ journal_text values = sym c.deref.ensures.value ∙ c.in-Ok-read_journal.ensures.found.1 in
    let there = subst (Journals (g.F.Folder.contents c.args.folder.now)) text c.in-Ok.ensures.bytes in
    let all = journal_same values (g.F.Folder.contents c.args.folder.now) c.in-Ok-read_journal.ensures.found.0 there in
    let gone = gone_through c.read.ensures.contents c.read.ensures.moments (ap entry_values c.deref-2.ensures.value) c.carry_out.ensures.steps in
    each_finishes (g.F.Folder.contents c.args.folder.now) (journal_steps values (g.F.Folder.contents c.args.folder.now)) all gone

pub returns-clause-stands : goal.returns-clause-stands
returns-clause-stands g c =
    let values = entry_values c.in-Ok-read_journal.entries.items in
    let text : c.in-Ok.bytes.items ≡ journal_text values = sym c.deref.ensures.value ∙ c.in-Ok-read_journal.ensures.found.1 in
    let there = subst (Journals (g.F.Folder.contents c.args.folder.now)) text c.in-Ok.ensures.bytes in
    let all = journal_same values (g.F.Folder.contents c.args.folder.now) c.in-Ok-read_journal.ensures.found.0 there in
    let gone = gone_through c.read.ensures.contents c.read.ensures.moments (ap entry_values c.deref-2.ensures.value) c.carry_out.ensures.steps in
    finishes_stands (g.F.Folder.contents c.args.folder.now) (g.F.Folder.contents c.carry_out.new.folder)
    (last_finishes (journal_steps values (g.F.Folder.contents c.args.folder.now)) all gone)

pub returns-clause-left : goal.returns-clause-left
returns-clause-left g c =
    let values = entry_values c.in-Ok-read_journal.entries.items in
    let text : c.in-Ok.bytes.items ≡ journal_text values = sym c.deref.ensures.value ∙ c.in-Ok-read_journal.ensures.found.1 in
    let there = subst (Journals (g.F.Folder.contents c.args.folder.now)) text c.in-Ok.ensures.bytes in
    let all = journal_same values (g.F.Folder.contents c.args.folder.now) c.in-Ok-read_journal.ensures.found.0 there in
    let gone = gone_through c.read.ensures.contents c.read.ensures.moments (ap entry_values c.deref-2.ensures.value) c.carry_out.ensures.steps in
    last_finishes (journal_steps values (g.F.Folder.contents c.args.folder.now)) all gone

pub returns-clause-each_moment : goal.returns-clause-each_moment
returns-clause-each_moment g c =
    let values = entry_values c.in-Ok-read_journal.entries.items in
    let text : c.in-Ok.bytes.items ≡ journal_text values = sym c.deref.ensures.value ∙ c.in-Ok-read_journal.ensures.found.1 in
    let there = subst (Journals (g.F.Folder.contents c.args.folder.now)) text c.in-Ok.ensures.bytes in
    let all = journal_same values (g.F.Folder.contents c.args.folder.now) c.in-Ok-read_journal.ensures.found.0 there in
    let gone = gone_through c.read.ensures.contents c.read.ensures.moments (ap entry_values c.deref-2.ensures.value) c.carry_out.ensures.steps in
    each_stands (g.F.Folder.contents c.args.folder.now) (journal_steps values (g.F.Folder.contents c.args.folder.now)) (g.F.Folder.moments c.args.folder.now)
    (g.F.Folder.moments c.carry_out.new.folder) all gone

pub returns-clause-each_left : goal.returns-clause-each_left
returns-clause-each_left g c =
    let values = entry_values c.in-Ok-read_journal.entries.items in
    let text : c.in-Ok.bytes.items ≡ journal_text values = sym c.deref.ensures.value ∙ c.in-Ok-read_journal.ensures.found.1 in
    let there = subst (Journals (g.F.Folder.contents c.args.folder.now)) text c.in-Ok.ensures.bytes in
    let all = journal_same values (g.F.Folder.contents c.args.folder.now) c.in-Ok-read_journal.ensures.found.0 there in
    let gone = gone_through c.read.ensures.contents c.read.ensures.moments (ap entry_values c.deref-2.ensures.value) c.carry_out.ensures.steps in
    each_finishes (g.F.Folder.contents c.args.folder.now) (journal_steps values (g.F.Folder.contents c.args.folder.now)) all gone
