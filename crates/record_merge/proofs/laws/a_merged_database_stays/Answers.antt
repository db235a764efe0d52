use Rattle.record_merge.proofs.AgainLaws.{choice-again_for}
use Rattle.record_merge.proofs.laws.a_merged_database_stays.Goals as goal

pub returns : goal.returns
returns c = λ a rows base records counts given ch is then_a then_counts.
    choice-again_for a then_a rows base records counts then_counts given is.are.ids is.are.bounded ch is.chosen is.free
