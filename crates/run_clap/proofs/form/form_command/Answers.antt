use Rattle.clap.specs.Words.{app_of}
use Rattle.run_words.specs.Views.{form_view}
use Rattle.run_clap.proofs.AppLaws.{form_app-made}
use Rattle.run_clap.proofs.form.form_command.Goals as goal

pub returns : goal.returns
returns c =
    form_app-made (form_view c.args.form.now) (app_of c.empty_command.result) (app_of c.in_ok-plain.plain) (app_of c.in_ok-whole.whole) c.empty_command.ensures
    c.in_ok-plain.ensures c.in_ok-whole.ensures
