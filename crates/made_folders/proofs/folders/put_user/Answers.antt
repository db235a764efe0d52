use Rattle.std.proofs.Common.{◌∙◌, ap}
use Rattle.folder_files.specs.InfoFiles.{device_text}
use Rattle.made_folders.proofs.folders.put_user.Goals as goal

pub returns : goal.returns
returns c =
    let text = c.as_bytes.ensures.value ∙ c.in_ok-text.ensures.text ∙ ap device_text c.made_user.ensures in
    rw text at c.in_ok-put.ensures.ok
