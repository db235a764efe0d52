use Rattle.device_state.proofs.StateLaws.{IsDevice-ran, OnOk-then}
use Rattle.device_state.proofs.hearing.hear_any.Goals as goal

pub returns-clause-device : goal.returns-clause-device
returns-clause-device g c =
    OnOk-then c.hear.result c.hear.ensures.performs
    (λ performs. IsDevice-ran performs.exchanges c.args.talk.now.hand.device c.hear.new.talk.hand.device performs.since.ran)
