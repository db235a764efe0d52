use Rattle.desktop_session.proofs.TellLaws.{acts_ran, after_proper, said_device, said_exchanges}
use Rattle.desktop_session.proofs.laws.acts_are_steps.Goals as goal

pub returns : goal.returns
returns c = record { ran = acts_ran; device = said_device; added = said_exchanges; proper = after_proper }
