use Rattle.std.proofs.Common.{◌∙◌, ap}
use Rattle.content_lines.specs.Properties.{properties_text}
use Rattle.card_export.specs.Exports.{exported_cards}
use Rattle.card_export.proofs.CardLaws.{cards_text_injective}
use Rattle.card_export.proofs.StoredLaws.{exported-proper}
use Rattle.card_export.proofs.export.cards_text.Goals as goal

pub returns-clause-text : goal.returns-clause-text
returns-clause-text c = c.in_ok-text.ensures ∙ ap properties_text c.in_ok-cards.ensures.cards

pub returns-clause-alone : goal.returns-clause-alone
returns-clause-alone c cards proper same =
    let database = c.args.database.now in
    let whole = exported-proper database.head.name database.app c.args.privacy database.records c.in_ok-cards.ensures.stem c.in_ok-cards.ensures.stored in
    cards_text_injective cards (exported_cards c.args.privacy database) proper whole (same ∙ returns-clause-text c)
