use Rattle.std.proofs.Common.{◌≡◌, drop, map}
use Rattle.run_words.specs.Views.{option_view}
use Rattle.clap.specs.Words.{app_of}
use Rattle.run_clap.specs.Apps.{option_rule, with_rules}
use Rattle.run_clap.proofs.form.with_options.Given as goal

abbrev pub invariant-loop-option : goal.invariant-loop-option
invariant-loop-option l =
    with_rules (app_of l.more) (map option_rule (map (option_view) (drop l.option-index l.options))) ≡ with_rules (app_of l.fn.command) (map option_rule (map (option_view) l.options))
