use Rattle.std.proofs.Common.{refl}
use Rattle.made_folders.specs.Items.{made}
use Rattle.made_folders.proofs.MergeLaws.{made_merge}
use Rattle.cmd_session.proofs.MakeLaws.{made_ends, made_given, made_items, made_talk, told_alone}
use Rattle.cmd_session.proofs.make.made_session.Goals as goal

pub returns-in-Ok-clause-made : goal.returns-in-Ok-clause-made
returns-in-Ok-clause-made c =
    let items = made c.args.seed c.args.count in
    let sides = c.in-Ok.sides in
    let told = c.in-Ok.ensures in
    made_talk _ (made_items c.args.seed c.args.count c.requires) (made_merge c.args.seed c.args.count c.requires) told.held refl told.slots
    (made_given items (c.made_words-words.ensures refl) told.script (told_alone told.palm) (told_alone told.desk) c.talk-answer.ensures.talk)

pub returns-in-Ok-clause-ends : goal.returns-in-Ok-clause-ends
returns-in-Ok-clause-ends c =
    let items = made c.args.seed c.args.count in
    let sides = c.in-Ok.sides in
    let told = c.in-Ok.ensures in
    made_ends _ c.talk-answer.result.report (made_items c.args.seed c.args.count c.requires) (made_merge c.args.seed c.args.count c.requires)
    refl refl told.held refl told.slots
    (made_given items (c.made_words-words.ensures refl) told.script (told_alone told.palm) (told_alone told.desk) c.talk-answer.ensures.talk)
    c.talk-answer.ensures.unsaid
