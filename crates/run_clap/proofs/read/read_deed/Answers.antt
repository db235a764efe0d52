use Rattle.std.proofs.Common.{◌≡◌, ◌∙◌, List, ℕ, Option, Some, ap, drop, map, string_bytes, sym}
use Rattle.run_words.specs.Commands.{WordTask, deed_of, meaning}
use Rattle.run_words.specs.Forms.{Given, WordFormValue, given_by, is_of_form}
use Rattle.run_words.specs.Helps.{command_named}
use Rattle.run_words.specs.Tables.{form_behind}
use Rattle.run_words.specs.declared.topic.CommandWord.{CommandWord}
use Rattle.run_clap.proofs.AskLaws.{Asks, deed_asks, deed_named, read_means, unread}
use Rattle.run_clap.proofs.read.read_deed.Goals as goal

asks : (now : Option ℕ) (words : List (List ℕ)) (named : Option CommandWord) {command : CommandWord} {task : WordTask} → named ≡ command_named words
    → named ≡ Some command → deed_of now words ≡ Some task → Asks (meaning now command) (form_behind command) words task
asks now words named {command} is some e = deed_asks now words command (sym is ∙ some) e

-- by the form that the command has
means : (now : Option ℕ) (words : List (List ℕ)) (command : CommandWord) {task : WordTask} {form : WordFormValue} {given : Given} → form ≡ form_behind command
    → given ≡ given_by form (drop 1 words) → Asks (meaning now command) (form_behind command) words task → meaning now command given ≡ Some task
means now words command same is h = read_means (meaning now command) (form_behind command) words (is ∙ ap (λ form. given_by form (drop 1 words)) same) h

one : {one other : WordTask} → Some one ≡ Some other → one ≡ other
one e = cc

pub unreachable-requires : goal.unreachable-requires
unreachable-requires c =
    deed_named c.args.now (map string_bytes c.args.words.now) c.requires (sym c.command_named.ensures ∙ c.in_default.is)

pub read_form-requires-clause-right : goal.read_form-requires-clause-right
read_form-requires-clause-right c =
    let words = map string_bytes c.args.words.now in
    ap (λ form. is_of_form form (drop 1 words)) c.form_behind.ensures
    ∙ (asks c.args.now words c.command_named.result c.command_named.ensures c.in-Some.is c.requires).right

pub unreachable-requires-in-None : goal.unreachable-requires-in-None
unreachable-requires-in-None c =
    let words = map string_bytes c.args.words.now in
    unread c.in-None.ensures
    (means c.args.now words c.in-Some.named c.form_behind.ensures c.in_ok-matched.ensures.read (asks c.args.now words c.command_named.result c.command_named.ensures c.in-Some.is c.requires))

pub returns-clause-command : goal.returns-clause-command
returns-clause-command c =
    let words = map string_bytes c.args.words.now in
    one (c.in-Some-command_in.ensures
    ∙ means c.args.now words c.in-Some.named c.form_behind.ensures c.in_ok-matched.ensures.read (asks c.args.now words c.command_named.result c.command_named.ensures c.in-Some.is c.requires))
