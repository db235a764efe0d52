use Rattle.conduit_rules.specs.Contents.{same_content}
use Rattle.session_plan.proofs.ArchiveLaws.{noted_more, put_known_entry, put_new_entry}
use Rattle.session_plan.proofs.archive.put_entry.Goals as goal

pub returns-in_ok-push-clause-notes : goal.returns-in_ok-push-clause-notes
unfolding same_content
returns-in_ok-push-clause-notes c =
    noted_more c.args.seen.now c.insert.new.self c.key_of.result (c.args.id, c.args.content.now) c.args.archive.now.items c.push.new.self.items
    c.in_ok-settled_copy.field-0 c.key_of.ensures c.in_ok-settled_copy.ensures c.in_ok-push.ensures.items c.requires c.in_ok-insert.ensures.updates.0

pub returns-in_ok-push-clause-entry : goal.returns-in_ok-push-clause-entry
unfolding same_content
returns-in_ok-push-clause-entry c =
    put_new_entry c.args.seen.now c.key_of.result (c.args.id, c.args.content.now) c.args.archive.now.items c.push.new.self.items
    c.in_ok-settled_copy.field-0 c.in_ok-insert.field-0 c.key_of.ensures c.in_ok-settled_copy.ensures c.in_ok-push.ensures.items c.requires
    c.in_ok-insert.ensures.added c.if-branch.true

pub returns-else-branch-clause-entry : goal.returns-else-branch-clause-entry
unfolding same_content
returns-else-branch-clause-entry c =
    put_known_entry c.args.seen.now c.key_of.result (c.args.id, c.args.content.now) c.args.archive.now.items c.in_ok-insert.field-0
    c.key_of.ensures c.requires c.in_ok-insert.ensures.added c.if-branch.false
