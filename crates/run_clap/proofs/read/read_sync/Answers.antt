use Rattle.std.proofs.Common.{◌≡◌, ◌∙◌, ℕ, Bool, false, List, Option, Some, codes, map, string_bytes, sym}
use Rattle.run_words.specs.Cables.{Cable, cable_in, sync_of}
use Rattle.run_words.specs.Helps.{names_port}
use Rattle.run_words.specs.Tables.{cable_form}
use Rattle.run_clap.proofs.AskLaws.{Asks, sync_asks, read_means, unread}
use Rattle.run_clap.proofs.read.read_sync.Goals as goal

-- by what was seen of the words
asks : (now : Option ℕ) (words : List (List ℕ)) {named : Bool} {cable : Cable} → named ≡ names_port (codes "run") words → named ≡ false
    → Some cable ≡ sync_of now words → Asks (cable_in now) cable_form words cable
asks now words is none e = sync_asks now words (sym is ∙ none) (sym e)

pub read_form-requires-clause-right : goal.read_form-requires-clause-right
read_form-requires-clause-right c =
    (asks c.args.now (map string_bytes c.args.words.now) c.names_port.ensures c.if-names_port.false c.in-Some.ensures).right

pub unreachable-requires : goal.unreachable-requires
unreachable-requires c =
    let words = map string_bytes c.args.words.now in
    let right = asks c.args.now words c.names_port.ensures c.if-names_port.false c.in-Some.ensures in
    unread c.in-None.ensures (read_means (cable_in c.args.now) cable_form words c.in_ok-matched.ensures.read right)

pub returns-clause-command : goal.returns-clause-command
returns-clause-command c =
    let words = map string_bytes c.args.words.now in
    let right = asks c.args.now words c.names_port.ensures c.if-names_port.false c.in-Some.ensures in
    sym (c.in-Some-cable_in.ensures ∙ read_means (cable_in c.args.now) cable_form words c.in_ok-matched.ensures.read right ∙ c.in-Some.ensures)
