-- The paths that words give, by what they ask for.
use Rattle.std.proofs.Common.{◌≡◌, ◌∙◌, Bor, ap, refl, subst, sym, ℕ, List}
use Rattle.std.specs.Prelude.{None, Option, Some, option_copied}
use Rattle.run_words.specs.Commands.{WordTask}
use Rattle.run_words.specs.Views.{task_view}
use Rattle.run_words.specs.declared.command.Command.{Command}
use Rattle.call_parts.specs.SessionCalls.{Paths}
use Rattle.hotsync_run.specs.Calls.{paths_of}

-- a word that is not given is none
pub copied_none : {A : Type 0} (word : Option (Bor A)) → option_copied word ≡ None → word ≡ None
copied_none None e = refl
copied_none (Some word) e = cc

-- words that were read as this command ask for its task
pub asks_for : {task : Option WordTask} {read own : Command} → task ≡ Some (task_view read) → read ≡ own → task ≡ Some (task_view own)
asks_for is same = is ∙ ap (λ (command : Command). Some (task_view command)) same

-- what words for a task give no path, the task gives none
pub none_by : {task own : Option WordTask} (part : Paths → Option (List ℕ)) → task ≡ own → part (paths_of task) ≡ None → part (paths_of own) ≡ None
none_by part is none = subst (λ (t : Option WordTask). part (paths_of t) ≡ None) is none

some_is_none : {A : Type 0} {a : A} → Some a ≡ None → ⊥
some_is_none e = cc

-- and no task that gives it one
pub never_none : {task own : Option WordTask} (part : Paths → Option (List ℕ)) {path : List ℕ} → task ≡ own
    → part (paths_of own) ≡ Some path → part (paths_of task) ≡ None → ⊥
never_none part is some none = some_is_none (sym some ∙ none_by part is none)
