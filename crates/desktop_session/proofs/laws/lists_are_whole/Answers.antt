use Rattle.desktop_session.proofs.StartLaws.{told_end, told_next}
use Rattle.desktop_session.proofs.WholeListLaws.{count_is, heads_are}
use Rattle.desktop_session.proofs.laws.lists_are_whole.Goals as goal

pub returns : goal.returns
returns c = record { heads = heads_are; count = count_is; next = told_next; end = told_end }
