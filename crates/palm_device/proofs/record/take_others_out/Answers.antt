use Rattle.std.proofs.Common.{◌∙◌, List, ap, rules}
use Rattle.std.proofs.lemmas.Fn.{filter_same}
use Rattle.pdb_values.specs.declared.record.Record.{Record}
use Rattle.palm_device.specs.Records.{with_records}
use Rattle.palm_device.proofs.record.take_others_out.Goals as goal

pub returns : goal.returns
returns c = c.retain_records.ensures.rest
    ∙ ap (λ (items : List Record). with_records items c.args.database.now)
    (filter_same _ _ _ (λ x b f' k. search rules) _ _ c.retain_records.ensures.kept)
