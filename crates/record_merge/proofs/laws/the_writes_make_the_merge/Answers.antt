use Rattle.record_merge.proofs.ShownLaws.{after-all_slow, after-all_fast}
use Rattle.record_merge.proofs.laws.the_writes_make_the_merge.Goals as goal

pub returns-clause-slow : goal.returns-clause-slow
returns-clause-slow c = λ ch given records are. after-all_slow ch given records are.ids are.bounded

pub returns-clause-fast : goal.returns-clause-fast
returns-clause-fast c = λ ch given base records are. after-all_fast ch given base records are.ids are.bounded
