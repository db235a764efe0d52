use Rattle.std.proofs.Common.{◌∙◌}
use Rattle.memo_texts.specs.Exports.{exported_memos}
use Rattle.memo_texts.proofs.MemoLaws.{memos_text_injective}
use Rattle.memo_texts.proofs.TextLaws.{exported-memos, items_text-filter}
use Rattle.memo_texts.proofs.export.memos_text.Goals as goal

pub returns-clause-text : goal.returns-clause-text
returns-clause-text c = c.in_ok-text.ensures.text ∙ items_text-filter c.args.database.now.app c.args.privacy c.args.database.now.records

pub returns-clause-alone : goal.returns-clause-alone
returns-clause-alone c memos proper same =
    let database = c.args.database.now in
    let whole = exported-memos database.app c.args.privacy database.records c.in_ok-text.ensures.memos in
    memos_text_injective memos (exported_memos c.args.privacy database) proper whole
    (same ∙ (c.in_ok-text.ensures.text ∙ items_text-filter database.app c.args.privacy database.records))
