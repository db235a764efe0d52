use Rattle.front_laws.proofs.RepeatLaws.{desktop-alone}
use Rattle.front_laws.proofs.repeat_laws.a_desktop_is_sent_again.Goals as goal

pub returns : goal.returns
returns c = λ x given later n is later_got. desktop-alone x given later n is.read is.got later_got
