use Rattle.std.proofs.Common.{◌≡◌, ◌∙◌, ◌*◌, ◌≤◌, drop, sym, ap, rules}
use Rattle.std.specs.Int.{w32}
use Rattle.dlp_args.specs.CellReading.{number_at}
use Rattle.dlp_replies.specs.IdLists.{IsId, words}
use Rattle.dlp_replies.proofs.ListLaws.{all_at, some_iff}
use Rattle.dlp_replies.proofs.IdLaws.{word_at, word_none}
use Rattle.dlp_replies.proofs.ids.id_in.Goals as goal

pub returns-in-Some : goal.returns-in-Some
returns-in-Some c =
    let from : drop (4 * c.args.place) c.args.bytes.now ≡ c.split_at.result.1.now = search rules in
    let there = word_at c.args.bytes.now c.args.place c.in-Some.number c.in-Some.field-0-1.now (ap (number_at w32) from ∙ sym c.in-Some.ensures) in
    some_iff c.new.result (c.in-Some.number ≤ 16777215) c.in-Some.number c.new.ensures
    (all_at IsId (words c.args.bytes.now) c.args.place c.in-Some.number c.requires there) ∙ sym there

pub returns-in-None : goal.returns-in-None
returns-in-None c =
    let from : drop (4 * c.args.place) c.args.bytes.now ≡ c.split_at.result.1.now = search rules in
    sym (word_none c.args.bytes.now c.args.place (ap (number_at w32) from ∙ sym c.in-None.ensures))
