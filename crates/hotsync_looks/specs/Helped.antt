-- What holds of a call that prints help.
use Rattle.std.specs.Prelude.{◌≡◌, ◌⊎◌}
use Rattle.hs_folders.specs.Causes.{Rose}
use Rattle.run_words.specs.declared.topic.Topic.{Topic}
use Rattle.hotsync_looks.specs.HelpTexts.{help_text}
use Rattle.cmd_status.specs.Printed.{IsShown}
use Rattle.cmd_status.specs.Told.{SinkTold}
use Rattle.cmd_status.specs.declared.status.Status.{Status}
use Rattle.cmd_status.specs.declared.status.Status.TheVariants.{Done, OutWrite, NoMemory}

-- What is known of it: the text of the topic, and nothing else, unless standard output fails or
-- memory runs out.
pub record IsHelped (topic : Topic) (out out_after err err_after : SinkTold) (status : Status)
    : Type 0 where
  pub ended : (status ≡ Done) ⊎ (status ≡ OutWrite) ⊎ (status ≡ NoMemory)
  pub printed : IsShown (λ text. text ≡ help_text topic) out out_after err err_after status
  pub complete : ¬ Rose out.faults out_after.faults → (status ≡ Done) ⊎ (status ≡ NoMemory)
