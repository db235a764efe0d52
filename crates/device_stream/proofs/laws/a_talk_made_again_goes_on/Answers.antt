use Rattle.device_stream.proofs.AlikeLaws.{Talks-again}
use Rattle.device_stream.proofs.laws.a_talk_made_again_goes_on.Goals as goal

pub returns : goal.returns
returns c first apart made packets said talks alike later more new =
    Talks-again first apart made new packets later said more talks alike
