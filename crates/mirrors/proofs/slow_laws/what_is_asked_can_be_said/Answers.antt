use Rattle.mirrors.proofs.SlowSayLaws.{puts_sayable, purges_sayable, slow_sayable}
use Rattle.mirrors.proofs.slow_laws.what_is_asked_can_be_said.Goals as goal

pub returns-clause-reads : goal.returns-clause-reads
returns-clause-reads c = slow_sayable

pub returns-clause-puts : goal.returns-clause-puts
returns-clause-puts c = λ device handle entries given byte can. puts_sayable device handle entries given byte can.puttable can.ids can.free

pub returns-clause-purges : goal.returns-clause-purges
returns-clause-purges c = purges_sayable
