use Rattle.memo_texts.proofs.MemoLaws.{memos_text_injective}
use Rattle.memo_texts.proofs.export_laws.a_text_is_that_of_one_list_of_memos.Goals as goal

pub returns : goal.returns
returns c = memos_text_injective
