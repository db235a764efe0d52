use Rattle.std.proofs.Common.{ap, ◌∙◌, subst}
use Rattle.palm_records.specs.Strings.{until_zero}
use Rattle.std.specs.Option.{option_copied}
use Rattle.palm_records.specs.Choices.{shown_label}
use Rattle.memo_texts.specs.Memos.{IsBytes}
use Rattle.memo_texts.proofs.export_memo.push_memo.Goals as goal

pub returns-clause-memo : goal.returns-clause-memo
returns-clause-memo c = record {
  id = c.in_ok-push_head.ensures.id;
  label = subst IsBytes (c.shown_label-label.ensures ∙ ap (λ n. shown_label (option_copied c.args.app) n) c.category.ensures) c.push_head.ensures.label;
  text = subst IsBytes (c.until_zero-memo.ensures ∙ ap until_zero c.bytes.ensures.bytes) c.push_lines.ensures.memo;
}
