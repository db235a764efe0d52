use Rattle.std.proofs.Common.{◌∙◌}
use Rattle.device_state.proofs.HeldLaws.{bytes_of-none, get-held_of, get-held_of_file}
use Rattle.device_state.proofs.list_laws.a_list_says_what_is_held.Goals as goal

pub returns-clause-found : goal.returns-clause-found
returns-clause-found c = λ files file form. get-held_of_file files file form.once

pub returns-clause-none : goal.returns-clause-none
returns-clause-none c = λ files name others. get-held_of files name ∙ bytes_of-none files name others
