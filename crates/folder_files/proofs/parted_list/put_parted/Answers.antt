-- The place that was found is that of the database.
use Rattle.std.proofs.Common.{◌∙◌}
use Rattle.folder_files.proofs.PartedLists.{rises_as, with_one-insert, with_one-set}
use Rattle.folder_files.proofs.parted_list.put_parted.Goals as goal

pub returns-then-is_at-clause-put : goal.returns-then-is_at-clause-put
returns-then-is_at-clause-put c =
    with_one-set c.args.one c.args.parted.now.items _ _ _ _
    (c.deref.ensures.value, c.deref-2.ensures.value, c.in_ok-place.ensures.place, c.is_at.ensures.there) c.if-is_at.true

pub returns-then-is_at-clause-rise : goal.returns-then-is_at-clause-rise
returns-then-is_at-clause-rise c = rises_as c.args.one c.args.parted.now.items _
    (with_one-set c.args.one c.args.parted.now.items _ _ _ _
    (c.deref.ensures.value, c.deref-2.ensures.value, c.in_ok-place.ensures.place, c.is_at.ensures.there) c.if-is_at.true)

pub returns-in-Ok-clause-put : goal.returns-in-Ok-clause-put
returns-in-Ok-clause-put c =
    c.in-Ok.ensures.items ∙ with_one-insert c.args.one c.args.parted.now.items _ _ _ _
    (c.deref.ensures.value, c.deref-2.ensures.value, c.in_ok-place.ensures.place, c.is_at.ensures.there) c.if-is_at.false

pub returns-in-Ok-clause-rise : goal.returns-in-Ok-clause-rise
returns-in-Ok-clause-rise c = rises_as c.args.one c.args.parted.now.items _
    (c.in-Ok.ensures.items ∙ with_one-insert c.args.one c.args.parted.now.items _ _ _ _
    (c.deref.ensures.value, c.deref-2.ensures.value, c.in_ok-place.ensures.place, c.is_at.ensures.there) c.if-is_at.false)
