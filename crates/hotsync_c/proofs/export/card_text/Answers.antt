use Rattle.std.specs.Prelude.{string_bytes}
use Rattle.std.specs.declared.alloc.Global.{Global}
use Rattle.card_export.specs.Exports.{exported_cards, first_bad_address, holds_addresses}
use Rattle.card_export.specs.Properties.{cards_text}
use Rattle.hotsync_c.proofs.ExportLaws.{refusal_says}
use Rattle.hotsync_c.proofs.export.card_text.Goals as goal

pub returns-clause-refused : goal.returns-clause-refused
returns-clause-refused c =
    let e = c.cards_text.ensures in
    let database = c.args.database.now in
    let wishes = c.args.wishes.now in
    refusal_says (string_bytes {Z = Global}) (cards_text (exported_cards wishes.privacy database)) (holds_addresses database.head) wishes.broken
    (first_bad_address wishes.privacy database) c.cards_text.result e.kind.1 e.kind.0 (λ i p x. let t = (e.bad i p).0 x in (t.1, t.2))
