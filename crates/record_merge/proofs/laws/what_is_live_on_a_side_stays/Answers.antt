use Rattle.std.proofs.Common.{◌∙◌}
use Rattle.record_merge.proofs.BaselessLaws.{records-stay, rows-stay}
use Rattle.record_merge.proofs.laws.what_is_live_on_a_side_stays.Goals as goal

pub returns : goal.returns
returns g = λ rows base records counts given ch c is each.
    let stay = rows-stay rows base records counts given ch is each c in
    (records-stay rows base records counts given ch is c ∙ stay, stay)
