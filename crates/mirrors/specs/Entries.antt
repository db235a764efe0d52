-- How a view is built from records that were lent.
use Rattle.std.specs.Prelude.{◌<◌, List, [], ◌∷◌, option_to_list, Result, Ok, Err}
use Rattle.std.specs.List.{All}
use Rattle.pdb_values.specs.Heads.{has_bit}
use Rattle.dlp_replies.specs.declared.fault.ReplyFault.{ReplyFault}
use Rattle.dlp_replies.specs.ReplyValues as reply
use Rattle.dlp_replies.specs.ReplyValues.{ReplyValue}
use Rattle.conduit_rules.specs.ById.{each_id, id_bound}
use Rattle.conduit_rules.specs.Views.{first_seen, state_as}
use Rattle.conduit_rules.specs.declared.view.Seen.{Seen}
use Rattle.desktop_session.specs.Answers.{record_of}
use Rattle.desktop_session.specs.Lent.{LentValue, lent_kind}

-- a record that was lent, as an entry of a view
abbrev pub seen_of : LentValue → Seen
seen_of lent = record {
  id = lent.id;
  state = state_as (lent_kind lent.attributes);
  content = record {
    category = lent.category;
    secret = has_bit 0x10 lent.attributes;
    bytes = lent.bytes;
  };
}

-- the entry of the record in a reply; a refusal has none
abbrev pub seen_in : Result ReplyValue ReplyFault → List Seen
seen_in (Ok (reply.Refused number code)) = []
seen_in (Ok value) = seen_of (record_of value) ∷ []
seen_in (Err fault) = []

-- entries in rising ids; of those of one id the first
abbrev pub ordered : List Seen → List Seen
ordered seen = each_id (λ i. option_to_list (first_seen i seen))

-- ids that a record can have
abbrev pub AreBounded : List Seen → Type 0
AreBounded seen = All (λ (entry : Seen). entry.id < id_bound) seen
