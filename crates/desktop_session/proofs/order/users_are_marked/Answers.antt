use Rattle.desktop_session.proofs.ChangeRows.{mark_possible, marked_does, marked_tells}
use Rattle.desktop_session.proofs.order.users_are_marked.Goals as goal

pub returns : goal.returns
returns c = record { possible = mark_possible; told = marked_tells; device = marked_does }
