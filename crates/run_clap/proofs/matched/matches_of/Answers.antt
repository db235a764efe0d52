use Rattle.std.proofs.Common.{◌∙◌, ap, map, string_bytes}
use Rattle.std.proofs.lemmas.Result.{IfErr-weaker, IfOk-weaker}
use Rattle.clap.specs.Words.{found_of}
use Rattle.clap.specs.Simple.{is_simple, matches_of}
use Rattle.clap.specs.Takes.{takes}
use Rattle.run_words.specs.Views.{form_view}
use Rattle.run_clap.proofs.AskLaws.{form_read, form_taken, proper_is_simple}
use Rattle.run_clap.proofs.matched.matches_of.Goals as goal

pub returns-clause-taken : goal.returns-clause-taken
returns-clause-taken c =
    let words = map string_bytes c.args.words.now in
    let form = form_view c.args.form.now in
    let parse = c.try_get_matches_from in
    IfErr-weaker parse.result _ _
    (λ e h. h (ap (λ a. takes a words) c.in_ok-reader.ensures ∙ form_taken form c.requires.proper words c.requires.right)) parse.ensures.passes

pub returns-clause-read : goal.returns-clause-read
returns-clause-read c =
    let words = map string_bytes c.args.words.now in
    let form = form_view c.args.form.now in
    let app = c.in_ok-reader.ensures in
    let parse = c.try_get_matches_from in
    IfOk-weaker parse.result _ _
    (λ m h. form_read form c.requires.proper words (found_of m) c.requires.right
    ((h (ap is_simple app ∙ proper_is_simple form c.requires.proper)).0 ∙ ap (λ a. matches_of a words) app))
    parse.ensures.matches
