use Rattle.memo_texts.proofs.BackLaws.{memos_in-memos_text}
use Rattle.memo_texts.proofs.laws.memos_are_read_again.Goals as goal

pub returns : goal.returns
returns c = memos_in-memos_text
