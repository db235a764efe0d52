-- Each line by itself, and then the next one.
use Rattle.std.proofs.Common.{rules, refl, sym, ◌∙◌}
use Rattle.folder_files.proofs.device.read_lines.Goals as goal

pub returns-in_err-viewer : goal.returns-in_err-viewer
returns-in_err-viewer c = rw (c.in_ok-title.ensures, c.in_ok-user.ensures, c.in_err-viewer.ensures) (search rules)

pub returns-in_err-pc : goal.returns-in_err-pc
returns-in_err-pc c = rw (c.in_ok-title.ensures, c.in_ok-user.ensures, c.in_ok-viewer.ensures, c.in_err-pc.ensures) (search rules)

pub returns-in_err-good : goal.returns-in_err-good
returns-in_err-good c = rw (c.in_ok-title.ensures, c.in_ok-user.ensures, c.in_ok-viewer.ensures, c.in_ok-pc.ensures, c.in_err-good.ensures) (search rules)

pub returns-in_err-last : goal.returns-in_err-last
returns-in_err-last c = rw (
  c.in_ok-title.ensures,
  c.in_ok-user.ensures,
  c.in_ok-viewer.ensures,
  c.in_ok-pc.ensures,
  c.in_ok-good.ensures,
  c.in_err-last.ensures,
) (search rules)

pub returns-in_err-name : goal.returns-in_err-name
returns-in_err-name c = rw (
  c.in_ok-title.ensures,
  c.in_ok-user.ensures,
  c.in_ok-viewer.ensures,
  c.in_ok-pc.ensures,
  c.in_ok-good.ensures,
  c.in_ok-last.ensures,
  c.in_err-name.ensures,
) (search rules)

pub returns-in_err-password : goal.returns-in_err-password
returns-in_err-password c = rw (
  c.in_ok-title.ensures,
  c.in_ok-user.ensures,
  c.in_ok-viewer.ensures,
  c.in_ok-pc.ensures,
  c.in_ok-good.ensures,
  c.in_ok-last.ensures,
  c.in_ok-name.ensures,
  c.in_err-password.ensures,
) (search rules)

pub returns-in_err-end : goal.returns-in_err-end
returns-in_err-end c = rw (
  c.in_ok-title.ensures,
  c.in_ok-user.ensures,
  c.in_ok-viewer.ensures,
  c.in_ok-pc.ensures,
  c.in_ok-good.ensures,
  c.in_ok-last.ensures,
  c.in_ok-name.ensures,
  c.in_ok-password.ensures,
  sym c.end.ensures ∙ c.in_err-end.was,
) (search rules)

pub returns : goal.returns
returns c = rw (
  c.in_ok-title.ensures,
  c.in_ok-user.ensures,
  c.in_ok-viewer.ensures,
  c.in_ok-pc.ensures,
  c.in_ok-good.ensures,
  c.in_ok-last.ensures,
  c.in_ok-name.ensures,
  c.in_ok-password.ensures,
  sym c.end.ensures ∙ c.in_ok-end.was,
) refl
