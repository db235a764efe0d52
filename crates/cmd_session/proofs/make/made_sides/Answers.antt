use Rattle.std.proofs.Common.{◌∙◌, subst}
use Rattle.desk_store.specs.Desks.{IsDesk}
use Rattle.made_folders.specs.Items.{made}
use Rattle.cmd_session.proofs.MakeLaws.{made_opened}
use Rattle.cmd_session.proofs.make.made_sides.Goals as goal

pub returns-clause-desk : goal.returns-clause-desk
returns-clause-desk c = made_opened (made c.args.seed c.args.count) (c.new-2.ensures.contents ∙ c.in_ok-device.ensures.desk) c.in-Ok-open.ensures.opened

pub returns-clause-slots : goal.returns-clause-slots
returns-clause-slots c = subst (λ o. IsDesk o c.in-Ok-open.desk.slots) (returns-clause-desk c) c.in-Ok-open.ensures.desk
