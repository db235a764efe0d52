use Rattle.mirrors.proofs.CarryLaws.{puts_open, purges_open}
use Rattle.mirrors.proofs.slow_laws.what_is_sent_is_carried_out.Goals as goal

pub returns-clause-puts : goal.returns-clause-puts
returns-clause-puts c = λ device handle base records stands takes entries given.
    puts_open device handle base records entries given stands takes.writable takes.records

pub returns-clause-purges : goal.returns-clause-purges
returns-clause-purges c = λ device handle base records stands takes ids.
    purges_open device handle base records ids stands takes.writable takes.records
