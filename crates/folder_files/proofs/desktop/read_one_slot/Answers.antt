-- Each line by itself, and then the next one.
use Rattle.std.proofs.lemmas.Grind.{common_steps}
use Rattle.std.proofs.Common.{rules, sym, ◌∙◌, arith}
use Rattle.folder_files.specs.InfoFiles.{one_slot_at}
use Rattle.folder_files.proofs.desktop.read_one_slot.Goals as goal

pub returns-in_err-title : goal.returns-in_err-title
unfolding one_slot_at
returns-in_err-title c = search rules

pub returns-in_err-pc : goal.returns-in_err-pc
unfolding one_slot_at
returns-in_err-pc c = search rules

pub returns-in_err-user : goal.returns-in_err-user
unfolding one_slot_at
returns-in_err-user c = search rules

pub returns-in_err-last : goal.returns-in_err-last
unfolding one_slot_at
returns-in_err-last c = grind (arith, common_steps)

pub returns-in_err-name : goal.returns-in_err-name
unfolding one_slot_at
returns-in_err-name c = rw (c.in_ok-title.ensures, c.in_ok-pc.ensures, c.in_ok-user.ensures, c.in_ok-last.ensures, c.in_err-name.ensures) (search rules)

pub returns-in_err-end : goal.returns-in_err-end
unfolding one_slot_at
returns-in_err-end c = rw (
  c.in_ok-title.ensures,
  c.in_ok-pc.ensures,
  c.in_ok-user.ensures,
  c.in_ok-last.ensures,
  c.in_ok-name.ensures,
  sym c.end.ensures ∙ c.in_err-end.was,
) (search rules)

pub returns : goal.returns
unfolding one_slot_at
returns c = rw (
  c.in_ok-title.ensures,
  c.in_ok-pc.ensures,
  c.in_ok-user.ensures,
  c.in_ok-last.ensures,
  c.in_ok-name.ensures,
  sym c.end.ensures ∙ c.in_ok-end.was,
) (search rules)
