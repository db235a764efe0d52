use Rattle.std.proofs.lemmas.Grind.{common_steps}
use Rattle.std.proofs.Common.{◌≡◌, ◌∙◌, ◌++◌, ◌∷◌, [], ap, arith, subst}
use Rattle.std.specs.Option.{option_copied}
use Rattle.palm_records.specs.Addresses.{address_in}
use Rattle.palm_records.specs.Choices.{shown_label}
use Rattle.content_lines.specs.Properties.{IsBytes}
use Rattle.content_lines.specs.Records.{mark_properties}
use Rattle.content_lines.proofs.GrowthLaws.{grown-4}
use Rattle.card_export.specs.Exports.{form_of, text_of}
use Rattle.card_export.specs.Properties.{card_end, form_properties, head_properties}
use Rattle.card_export.proofs.card.push_card.Goals as goal

pub returns-clause-card : goal.returns-clause-card
returns-clause-card c =
    let item = c.args.item.now in
    let bytes = item.content.bytes in
    let app = option_copied c.args.app in
    let block : c.unwrap_or.result.now ≡ text_of app = grind (arith, common_steps) in
    let label = c.shown_label-label.ensures ∙ ap (λ n. shown_label app n) c.category.ensures in
    let form = c.in_ok-push_form.ensures.form ∙ ap (λ b. c.push_head.new.cards ++ form_properties item.id (form_of b bytes (address_in bytes))) block in
    let marks = c.in_ok-push_marks.ensures.marks ∙ (λ i. c.push_form.new.cards ++ mark_properties (label i) (c.secret.ensures i)) in
    grown-4 _ _ _ _ _ (head_properties item.id c.args.stem.now) (form_properties item.id (form_of (text_of app) bytes (address_in bytes)))
    (mark_properties (shown_label app item.content.category) item.content.secret)
    (card_end ∷ []) c.in_ok-push_head.ensures.head form marks c.in_ok-push_plain.ensures

pub returns-clause-stored : goal.returns-clause-stored
returns-clause-stored c =
    let block : c.unwrap_or.result.now ≡ text_of (option_copied c.args.app) = grind (arith, common_steps) in
    record {
      id = c.in_ok-push_head.ensures.id;
      bytes = c.in_ok-push_form.ensures.bytes;
      block = subst IsBytes block c.in_ok-push_form.ensures.block;
      label = subst IsBytes (c.shown_label-label.ensures ∙ ap (λ n. shown_label (option_copied c.args.app) n) c.category.ensures)
          c.push_marks.ensures.label;
    }
