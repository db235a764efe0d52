-- What contracts see of words, and of what they give.
use Rattle.std.specs.Prelude.{map, option_copied, string_bytes}
use Rattle.run_words.specs.Betweens.{Between}
use Rattle.run_words.specs.Cables.{Cable}
use Rattle.run_words.specs.Captures.{Capture}
use Rattle.run_words.specs.Choices.{ChoiceTexts}
use Rattle.run_words.specs.Commands.{WordTask, Sync, DryRun, LookAt, Scan, Make, Install, Backup, Restore, Emulate, Categories, Help}
use Rattle.run_words.specs.Faults.{Fault}
use Rattle.run_words.specs.Docks.{Dock}
use Rattle.run_words.specs.Forms.{Given, WordFormValue, NamedOption, Needed, Allowed, Flag, given_by}
use Rattle.run_words.specs.Likes.{Like}
use Rattle.run_words.specs.Porteds.{Ported}
use Rattle.run_words.specs.Runs.{Run}
use Rattle.run_words.specs.Words.{bytes_of}
use Rattle.run_words.specs.declared.between.BetweenWords.{BetweenWords}
use Rattle.run_words.specs.declared.cable.CableWords.{CableWords}
use Rattle.run_words.specs.declared.capture.CaptureWords.{CaptureWords}
use Rattle.run_words.specs.declared.choice.ChoiceWords.{ChoiceWords}
use Rattle.run_words.specs.declared.command.Command.{Command}
use Rattle.run_words.specs.declared.command.Command.TheVariants as commands
use Rattle.run_words.specs.declared.fault.WordFault.{WordFault}
use Rattle.run_words.specs.declared.dock.DockWords.{DockWords}
use Rattle.run_words.specs.declared.form.FormOption.{FormOption}
use Rattle.run_words.specs.declared.form.FormOption.TheVariants as options
use Rattle.run_words.specs.declared.form.WordForm.{WordForm}
use Rattle.run_words.specs.declared.like.LikeWords.{LikeWords}
use Rattle.run_words.specs.declared.ported.PortedWords.{PortedWords}
use Rattle.run_words.specs.declared.run.RunWords.{RunWords}
use Rattle.run_words.specs.declared.spoken.Spoken.{Spoken}

-- the option of a table
abbrev pub option_view : FormOption → NamedOption
option_view (options.Needed name) = record { name = name.now; kind = Needed }
option_view (options.Allowed name) = record { name = name.now; kind = Allowed }
option_view (options.Flag name) = record { name = name.now; kind = Flag }

-- the form of a table
abbrev pub form_view : WordForm → WordFormValue
form_view form = record {
  plain = map (λ name. name.now) form.plain.now;
  options = map option_view form.options.now;
}

-- what words give as they stand
abbrev pub spoken_given : Spoken → Given
spoken_given spoken = given_by (form_view spoken.form) (map string_bytes spoken.words.now)

-- the choice of the words
abbrev pub choice_view : ChoiceWords → ChoiceTexts
choice_view choice = record {
  only = option_copied choice.only;
  actions = option_copied choice.actions;
}

-- the run of the words
abbrev pub run_view : RunWords → Run
run_view run = record {
  handheld = run.handheld.now;
  desktop = run.desktop.now;
  date = run.date;
  script = option_copied run.script;
  trace = option_copied run.trace;
  choice = choice_view run.choice;
  slow = run.slow;
  user = option_copied run.user;
  add_user = run.add_user;
}

-- the session over a cable of the words
abbrev pub cable_view : CableWords → Cable
cable_view cable = record {
  port = cable.port.now;
  desktop = cable.desktop.now;
  date = cable.date;
  only = option_copied cable.only;
  trace = option_copied cable.trace;
  actions = option_copied cable.actions;
  slow = cable.slow;
  user = option_copied cable.user;
  add_user = cable.add_user;
}

-- both paths of the words
abbrev pub between_view : BetweenWords → Between
between_view words = record {
  handheld = words.handheld.now;
  other = words.other.now;
  script = option_copied words.script;
  trace = option_copied words.trace;
}

-- the paths of the words
abbrev pub capture_view : CaptureWords → Capture
capture_view words = record {
  handheld = words.handheld.now;
  input = words.input.now;
  output = words.output.now;
}

-- the handheld at a port of the words
abbrev pub dock_view : DockWords → Dock
dock_view dock = record {
  handheld = dock.handheld.now;
  port = dock.port.now;
  trace = option_copied dock.trace;
}

-- the port and the path of the words
abbrev pub ported_view : PortedWords → Ported
ported_view words = record {
  port = words.port.now;
  other = words.other.now;
  trace = option_copied words.trace;
}

-- the import of the words, in the categories of another file
abbrev pub like_view : LikeWords → Like
like_view words =
    record { form = words.form; file = words.file.now; like = words.like.now }

-- what the words ask for
abbrev pub task_view : Command → WordTask
task_view (commands.Run run) = Sync (run_view run)
task_view (commands.DryRun run) = DryRun (run_view run)
task_view (commands.Look look) = LookAt look.look look.file.now
task_view (commands.Packet packet) = Scan (bytes_of packet.hex.now)
task_view (commands.Make make) = Make make.seed make.count
task_view (commands.Install words) = Install (between_view words)
task_view (commands.Backup words) = Backup (between_view words)
task_view (commands.Restore words) = Restore (between_view words)
task_view (commands.Device words) = Emulate (capture_view words)
task_view (commands.Categories words) = Categories (between_view words)
task_view (commands.Help topic) = Help topic

-- the word at fault
abbrev pub fault_view : WordFault → Fault
fault_view fault = record { kind = fault.kind; word = fault.word.now }
