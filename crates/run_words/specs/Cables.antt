-- Which words ask for a session over a cable, and what they give.
use Rattle.std.specs.Prelude.{is_some, ◌&&◌, ◌||◌, ℕ, Bool, not, List, Option, Some, None, codes, drop, is_none, option_map, option_and_then, if◌then◌else◌}
use Rattle.std.specs.Option.{option_or}
use Rattle.run_words.specs.Choices.{given_actions, restricted_to}
use Rattle.run_words.specs.Faults.{right_given}
use Rattle.run_words.specs.Forms.{Given, has_flag}
use Rattle.run_words.specs.Helps.{begins, names_port}
use Rattle.run_words.specs.Runs.{date_of}
use Rattle.run_words.specs.Tables.{cable_form, ported_run_form}
use Rattle.run_words.specs.declared.action.NamedAction.{NamedAction}

-- ---- the words

-- a session over a cable: the port, the desktop's folder and a date in seconds, and what may stand
-- beside them
pub record Cable : Type 0 where
  pub port : List ℕ
  pub desktop : List ℕ
  pub date : ℕ
  pub only : Option (List ℕ)
  pub trace : Option (List ℕ)
  pub actions : Option (List ℕ)
  pub slow : Bool
  pub user : Option (List ℕ)
  pub add_user : Bool

-- the session at this port with this folder at this date, with what the words give beside them
abbrev pub cable_between : Given → List ℕ → List ℕ → ℕ → Cable
cable_between given port desktop date = record {
  port = port;
  desktop = desktop;
  date = date;
  only = given.said (codes "only");
  trace = given.said (codes "trace");
  actions = given.said (codes "actions");
  slow = is_some (given.said (codes "slow"));
  user = given.said (codes "user");
  add_user = is_some (given.said (codes "add-user"));
}

abbrev pub dated_between : Option ℕ → Given → List ℕ → List ℕ → Option Cable
dated_between now given port desktop =
    option_map (cable_between given port desktop) (date_of now given)

-- the session that the words behind `sync` give, at the date now
unfoldable pub cable_in : Option ℕ → Given → Option Cable
cable_in now given =
    option_and_then
    (λ port. option_and_then (λ desktop. dated_between now given port desktop) (given.plain 1))
    (given.plain 0)

-- the one that those behind `run` give, which name the port
unfoldable pub ported_run_in : Option ℕ → Given → Option Cable
ported_run_in now given =
    option_and_then
    (λ port. option_and_then (λ desktop. dated_between now given port desktop) (given.plain 0))
    (given.said (codes "port"))

-- the first word asks for a session over a cable, as `run` does where a port is named, and none
-- behind it for help
abbrev pub begins_sync : List (List ℕ) → Bool
begins_sync words =
    (names_port (codes "run") words || begins (codes "sync") words)
    && not (has_flag (codes "help") (drop 1 words))

-- the session that words ask for behind `run`, which name the port
abbrev pub ported_run_of : Option ℕ → List (List ℕ) → Option Cable
ported_run_of now words =
    option_and_then (ported_run_in now) (right_given now ported_run_form words)

-- the one that words ask for whose first is `sync`
abbrev pub cable_of : Option ℕ → List (List ℕ) → Option Cable
cable_of now words =
    if begins (codes "sync") words
    then option_and_then (cable_in now) (right_given now cable_form words) else None

-- the session over a cable that these words ask for, at the date now
unfoldable pub sync_of : Option ℕ → List (List ℕ) → Option Cable
sync_of now words =
    if names_port (codes "run") words then ported_run_of now words else cable_of now words

-- ---- which databases it touches

-- the databases of a handheld's own applications, where the words name none: those of the first
-- four, and those of the four that followed them
abbrev pub own_stems : List ℕ
own_stems =
    codes "MemoDB,AddressDB,DatebookDB,ToDoDB,ContactsDB-PAdd,CalendarDB-PDat,TasksDB-PTod,MemosDB-PMem"

-- the stems of those that are touched: those of `--only`; without it all, where there are actions,
-- and else these
abbrev pub only_of : Cable → Option (List ℕ)
only_of cable =
    option_or cable.only (if is_none cable.actions then Some own_stems else None)

-- what is done with the databases: what the words say, and nothing with those that they don't touch
abbrev pub cable_actions : Cable → List NamedAction
cable_actions cable = restricted_to (only_of cable) (given_actions cable.actions)
