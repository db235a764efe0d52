-- One argument more.
use Rattle.std.proofs.Common.{◌∙◌, List, [], map, sym}
use Rattle.std.proofs.lemmas.List.{at_drop_all}
use Rattle.clap.specs.Words.{app_of}
use Rattle.run_words.specs.Views.{option_view}
use Rattle.run_words.specs.declared.form.FormOption.{FormOption}
use Rattle.run_words.specs.declared.form.FormOption.TheVariants.{Needed}
use Rattle.run_clap.specs.Apps.{option_rule, with_rules}
use Rattle.run_clap.proofs.AppLaws.{one_more}
use Rattle.run_clap.proofs.form.with_options.Goals as goal

pub loop-option-preserved : goal.loop-option-preserved
loop-option-preserved c =
    one_more option_rule option_view c.args.options.now c.loop-option.option-index
    (Needed (record { ref_ptr = (0, 0); now = [] }))
    (app_of c.loop-option.more) (app_of c.in_ok-more.more) c.loop-option-test.true c.option_arg.ensures.rule c.in_ok-more.ensures
    ∙ c.loop-option.invariant

pub returns : goal.returns
returns c =
    sym (at_drop_all (λ (left : List FormOption). with_rules (app_of c.loop-option.more) (map option_rule (map option_view left)))
    c.args.options.now c.loop-option.option-index c.loop-option-test.false)
    ∙ c.loop-option.invariant
