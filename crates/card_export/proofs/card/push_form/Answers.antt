use Rattle.card_export.proofs.GrowthLaws.{unread_form}
use Rattle.card_export.proofs.card.push_form.Goals as goal

pub returns-in_ok-push_unread-in-Err-clause-form : goal.returns-in_ok-push_unread-in-Err-clause-form
returns-in_ok-push_unread-in-Err-clause-form c =
    unread_form _ _ c.bytes-bytes.result.now c.args.item.now.content.bytes c.args.block.now c.args.item.now.id c.in-Err.field-0.place c.bytes-bytes.ensures.bytes
    c.in-Err.ensures c.in_ok-push_unread-in-Err.ensures
