-- The words stand behind their keys.
use Rattle.std.proofs.Common.{◌∙◌}
use Rattle.folder_files.proofs.InfoLaws.{if_ok_then}
use Rattle.folder_files.proofs.word.slot_word.Goals as goal

pub returns-clause-word : goal.returns-clause-word
returns-clause-word c = if_ok_then c.format.result _ _ (λ text is. is ∙ simp (c.in_ok-user.ensures.word, c.in_ok-last.ensures.word, c.in_ok-name.ensures.word))
    c.format.ensures.ok
