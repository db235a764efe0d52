use Rattle.std.proofs.Common.{ℕ, arith}
use Rattle.std.proofs.lemmas.Grind.{common_steps}
use Rattle.std.proofs.lemmas.List.{length-replicate}
use Rattle.made_folders.proofs.ItemLaws.{short_number}
use Rattle.made_folders.proofs.record.text_of.Goals as goal

pub returns-clause-short : goal.returns-clause-short
returns-clause-short c =
    let short = short_number c.args.item.now.number c.requires.number in
    let fill = c.requires.fill in
    let filled = length-replicate {A = ℕ} c.args.item.now.fill 120 in
    grind (arith, common_steps, short, fill, filled)
