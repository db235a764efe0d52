use Rattle.std.proofs.Common.{◌≡◌, ◌∙◌, ℕ, Option, Some, None, List, map, string_bytes, sym, refl}
use Rattle.std.specs.Prelude.{IsSome, codes, true}
use Rattle.run_words.specs.Cables.{Cable, ported_run_in, sync_of}
use Rattle.run_words.specs.Helps.{names_port}
use Rattle.run_words.specs.Tables.{ported_run_form}
use Rattle.run_clap.proofs.AskLaws.{Asks, ported_run_asks, read_means, unread}
use Rattle.run_clap.proofs.read.read_ported_run.Goals as goal

some_of : {A : Type 0} (o : Option A) → IsSome o → (a : A) × (o ≡ Some a)
some_of (Some a) some = (a, refl)
some_of None some = cc

asks : (now : Option ℕ) (words : List (List ℕ)) → names_port (codes "run") words ≡ true → IsSome (sync_of now words)
    → (cable : Cable) × (sync_of now words ≡ Some cable) × Asks (ported_run_in now) ported_run_form words cable
asks now words named some =
    let one = some_of (sync_of now words) some in
    (one.0, one.1, ported_run_asks now words named one.1)

pub read_form-requires-clause-right : goal.read_form-requires-clause-right
read_form-requires-clause-right c = (asks c.args.now (map string_bytes c.args.words.now) c.requires.named c.requires.some).2.right

pub unreachable-requires : goal.unreachable-requires
unreachable-requires c =
    let words = map string_bytes c.args.words.now in
    let one = asks c.args.now words c.requires.named c.requires.some in
    unread c.in-None.ensures (read_means (ported_run_in c.args.now) ported_run_form words c.in_ok-matched.ensures.read one.2)

pub returns-clause-command : goal.returns-clause-command
returns-clause-command c =
    let words = map string_bytes c.args.words.now in
    let one = asks c.args.now words c.requires.named c.requires.some in
    one.1 ∙ sym (c.in-Some.ensures ∙ read_means (ported_run_in c.args.now) ported_run_form words c.in_ok-matched.ensures.read one.2)
