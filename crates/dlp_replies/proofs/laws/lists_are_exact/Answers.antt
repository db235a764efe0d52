use Rattle.dlp_replies.proofs.EntryTexts.{rows_take, rows_again}
use Rattle.dlp_replies.proofs.IdLaws.{text_of_words, words_of_text}
use Rattle.dlp_replies.proofs.laws.lists_are_exact.Goals as goal

pub returns-clause-found : goal.returns-clause-found
returns-clause-found c = rows_take

pub returns-clause-only : goal.returns-clause-only
returns-clause-only c = rows_again

pub returns-clause-numbers : goal.returns-clause-numbers
returns-clause-numbers c = text_of_words

pub returns-clause-ids : goal.returns-clause-ids
returns-clause-ids c = words_of_text
