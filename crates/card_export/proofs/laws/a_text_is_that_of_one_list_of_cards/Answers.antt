use Rattle.card_export.proofs.CardLaws.{cards_text_injective}
use Rattle.card_export.proofs.laws.a_text_is_that_of_one_list_of_cards.Goals as goal

pub returns : goal.returns
returns c = cards_text_injective
