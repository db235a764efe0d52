-- What changes is committed, with the marks as they are.
use Rattle.std.proofs.Common.{◌∙◌, rules}
use Rattle.category_mirror.proofs.CommitLaws.{filed_change}
use Rattle.category_mirror.proofs.committing.commit_filed.Goals as goal

pub returns : goal.returns
returns g c =
    let made = c.commit.ensures in
    filed_change g.D.Folder.contents g.D.Folder.moments g.D.Folder.paths g.D.Folder.faults (record { marks = c.same_marks-marks.result; parted = c.args.parted; databases = c.args.changes }) (c.same_marks-marks.ensures ∙ c.marks.ensures.marks)
    c.requires.kept.same (search rules)
    (record {
      slots = made.slots;
      picked = made.picked;
      stands = made.desk;
      written = made.written;
      left = made.left;
      made = made.made;
      each_moment = made.each_left;
      cause = made.cause;
      same_paths = made.paths;
    })
