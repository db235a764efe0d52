use Rattle.run_words.specs.Commands.{deed_of, task_of}
use Rattle.run_words.specs.Helps.{help_of}
use Rattle.hotsync_run.proofs.program.run_handed.Goals as goal

pub returns-in-Err-Usage-clause-none : goal.returns-in-Err-Usage-clause-none
unfolding task_of deed_of help_of
returns-in-Err-Usage-clause-none g c = λ is. c.run_over_files-in-Err-Usage.ensures.call
