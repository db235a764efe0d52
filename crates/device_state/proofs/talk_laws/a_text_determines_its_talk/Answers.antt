use Rattle.device_state.proofs.TextLaws.{talk_text-injective}
use Rattle.device_state.proofs.talk_laws.a_text_determines_its_talk.Goals as goal

pub returns : goal.returns
returns c x y rest behind one = talk_text-injective x y rest behind one.eight one.other_eight one.short one.same
