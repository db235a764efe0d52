use Rattle.device_stream.proofs.HandLaws.{woken-run}
use Rattle.device_stream.proofs.laws.a_talk_is_a_run.Goals as goal

pub returns : goal.returns
returns c device packets said hand talks = woken-run device packets said hand talks
