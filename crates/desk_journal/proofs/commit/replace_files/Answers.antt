-- One file is replaced in one step.
use Rattle.std.proofs.Common.{List, arith, sym, subst}
use Rattle.desk_journal.specs.Entries.{EntryValue, entry_value}
use Rattle.desk_journal.specs.Steps.{GoesThrough, commit_steps, with_entry}
use Rattle.desk_journal.proofs.ChangeLaws.{one_entry}
use Rattle.desk_journal.proofs.StepLaws.{through_one}
use Rattle.desk_journal.proofs.commit.replace_files.Goals as goal

pub returns-in-len1-clause-steps : goal.returns-in-len1-clause-steps
returns-in-len1-clause-steps g c =
    let before = g.F.Folder.contents c.args.folder.now in
    let one = one_entry c.args.entries.now c.in-len1.len_at_least (omega (arith, c.in-len1.len_below)) c.entry-item.is in
    subst (λ (e : List EntryValue). GoesThrough (commit_steps e before) before (g.F.Folder.contents c.replace.new.self) (g.F.Folder.moments c.args.folder.now)
    (g.F.Folder.moments c.replace.new.self)) (sym one)
    (through_one c.replace.result (with_entry (entry_value c.entry-item.result) before)
    (rw (c.as_str.ensures.value, c.deref.ensures.value) at c.replace.ensures.replaced) c.replace.ensures.moment
    c.replace.ensures.contents_stay c.replace.ensures.moments_stay)
