-- The words behind the keys make the text, and each says its value.
use Rattle.std.proofs.Common.{refl, ◌∙◌}
use Rattle.std.proofs.lemmas.List.{append_assoc}
use Rattle.hex.specs.Hex.{encode_with}
use Rattle.folder_files.specs.InfoFiles.{device_forms, device_values}
use Rattle.folder_files.proofs.InfoLaws.{if_ok_then}
use Rattle.folder_files.proofs.LineLaws.{lines_written}
use Rattle.folder_files.proofs.device.write_device_info.Goals as goal

pub returns-clause-text : goal.returns-clause-text
unfolding encode_with
returns-clause-text c =
    if_ok_then c.format.result _ _
    (λ text is. is ∙ simp (
      c.in_ok-user.ensures.word,
      c.in_ok-viewer.ensures.word,
      c.in_ok-pc.ensures.word,
      c.in_ok-good.ensures.word,
      c.in_ok-last.ensures.word,
      c.in_ok-name.ensures.word,
      c.in_ok-password.ensures.word,
    ) (simp append_assoc))
    c.format.ensures.ok

pub returns-clause-file : goal.returns-clause-file
returns-clause-file c =
    let written = lines_written device_forms
    (device_values c.args.info.now) (
      refl,
      (
        c.number_word.ensures.says,
        (
          c.number_word-2.ensures.says,
          (
            c.number_word-3.ensures.says,
            (c.date_word.ensures.says, (c.date_word-2.ensures.says, (c.name_word.ensures.says, (c.password_word.ensures.says, tt)))),
          ),
        ),
      ),
    ) in
    if_ok_then c.format.result _ _ (λ text is. rw is written) (returns-clause-text c)
