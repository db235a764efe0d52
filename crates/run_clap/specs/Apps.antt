-- A form of words, as `clap` sees it.
use Rattle.std.specs.Prelude.{ℕ, List, [], ◌∷◌, ◌++◌, map, true, Option, None, Some, codes}
use Rattle.clap.specs.Words.{App, Rule, new_app, new_rule, with_rule}
use Rattle.clap.specs.declared.builder.ArgAction.{ArgAction}
use Rattle.clap.specs.declared.builder.ArgAction.TheVariants.{SetTrue}
use Rattle.run_words.specs.Forms.{WordFormValue, NamedOption, is_needed}
use Rattle.run_words.specs.Forms.{OptionKind, Needed, Allowed, Flag}

-- a plain word, which has to stand
abbrev pub plain_rule : List ℕ → Rule
plain_rule id = record (new_rule id) { required = true }

-- what a flag does
abbrev pub action_for : OptionKind → Option ArgAction
action_for Needed = None
action_for Allowed = None
action_for Flag = Some SetTrue

-- an option with a value, or a flag
abbrev pub option_rule : NamedOption → Rule
option_rule option = record (new_rule option.name) {
  long = Some option.name;
  required = is_needed option.kind;
  action = action_for option.kind;
}

-- a command with no argument, and no help
abbrev pub empty_app : App
empty_app =
    let app = new_app (codes "hotsync")
    in record app { top = record app.top { disable_help_flag = true } }

-- with each of these arguments
abbrev pub with_rules : App → List Rule → App
with_rules app [] = app
with_rules app (rule ∷ rules) = with_rules (with_rule app rule) rules

-- the arguments of a form
abbrev pub form_rules : WordFormValue → List Rule
form_rules form = map plain_rule form.plain ++ map option_rule form.options

-- the command of a form
unfoldable pub form_app : WordFormValue → App
form_app form = with_rules empty_app (form_rules form)
