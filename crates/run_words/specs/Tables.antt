-- The table of commands: the form of the words behind each.
use Rattle.std.specs.Prelude.{ℕ, List, [], ◌∷◌, Option, Some, None, codes, is_some, if◌then◌else◌}
use Rattle.std.specs.Option.{unwrap_or}
use Rattle.run_words.specs.Forms.{WordFormValue, NamedOption, value_of}
use Rattle.run_words.specs.Forms.{Needed, Allowed, Flag}
use Rattle.run_words.specs.declared.topic.CommandWord.{CommandWord}
use Rattle.run_words.specs.declared.topic.CommandWord.TheVariants.{Run, Check, Show, Export, Import, Verify, Picture, Packet, Install, Backup, Restore, Device, Categories, Sync, Make}

-- an option that has to stand
abbrev pub needed : List ℕ → NamedOption
needed name = record { name = name; kind = Needed }

-- one that may stand
abbrev pub allowed : List ℕ → NamedOption
allowed name = record { name = name; kind = Allowed }

-- a flag, which may stand
abbrev pub flag : List ℕ → NamedOption
flag name = record { name = name; kind = Flag }

-- `HANDHELD DESKTOP --date=D [--script=F] [--trace=F] [--only=L] [--actions=L] [--slow]
-- [--user=N] [--add-user] [--dry-run]`, behind `run`
abbrev pub run_form : WordFormValue
run_form = record {
  plain = codes "handheld" ∷ codes "desktop" ∷ [];
  options =
      needed (codes "date") ∷ allowed (codes "script") ∷ allowed (codes "trace")
      ∷ allowed (codes "only") ∷ allowed (codes "actions") ∷ allowed (codes "user")
      ∷ flag (codes "slow") ∷ flag (codes "add-user") ∷ flag (codes "dry-run") ∷ [];
}

-- `PORT DESKTOP --date=D [--only=L] [--trace=F] [--actions=L] [--slow] [--user=N] [--add-user]`,
-- behind `sync`
abbrev pub cable_form : WordFormValue
cable_form = record {
  plain = codes "port" ∷ codes "desktop" ∷ [];
  options =
      needed (codes "date") ∷ allowed (codes "only") ∷ allowed (codes "trace")
      ∷ allowed (codes "actions") ∷ allowed (codes "user")
      ∷ flag (codes "slow") ∷ flag (codes "add-user") ∷ [];
}

-- `FILE`, behind `check`, `verify` and `picture`
abbrev pub file_form : WordFormValue
file_form = record { plain = codes "file" ∷ []; options = [] }

-- `FILE [--records]`, behind `show`
abbrev pub show_form : WordFormValue
show_form = record { plain = codes "file" ∷ []; options = flag (codes "records") ∷ [] }

-- `FILE --as=FORM [--date=D] [--without-private] [--keep-broken] [--raw]`, behind `export`
abbrev pub export_form : WordFormValue
export_form = record {
  plain = codes "file" ∷ [];
  options = needed (codes "as") ∷ allowed (codes "date")
      ∷ flag (codes "without-private") ∷ flag (codes "keep-broken") ∷ flag (codes "raw") ∷ [];
}

-- `FILE --as=FORM [--like=FILE]`, behind `import`
abbrev pub import_form : WordFormValue
import_form = record {
  plain = codes "file" ∷ [];
  options = needed (codes "as") ∷ allowed (codes "like") ∷ [];
}

-- `HEX`, behind `packet`
abbrev pub packet_form : WordFormValue
packet_form = record { plain = codes "hex" ∷ []; options = [] }

-- `SEED N`, behind `make`
abbrev pub make_form : WordFormValue
make_form = record { plain = codes "seed" ∷ codes "count" ∷ []; options = [] }

-- `HANDHELD FILE [--trace=F]`, behind `install`, whose line loses nothing
abbrev pub install_form : WordFormValue
install_form = record {
  plain = codes "handheld" ∷ codes "file" ∷ [];
  options = allowed (codes "trace") ∷ [];
}

-- `HANDHELD OTHER [--script=F] [--trace=F]`, behind `backup`, `restore` and `categories`
abbrev pub between_form : WordFormValue
between_form = record {
  plain = codes "handheld" ∷ codes "other" ∷ [];
  options = allowed (codes "script") ∷ allowed (codes "trace") ∷ [];
}

-- `HANDHELD --in=F --out=F`, behind `device`
abbrev pub capture_form : WordFormValue
capture_form = record {
  plain = codes "handheld" ∷ [];
  options = needed (codes "in") ∷ needed (codes "out") ∷ [];
}

-- `HANDHELD --port=PORT [--trace=F]`, behind `device` where a port is named
abbrev pub dock_form : WordFormValue
dock_form = record {
  plain = codes "handheld" ∷ [];
  options = needed (codes "port") ∷ allowed (codes "trace") ∷ [];
}

-- the form of the words behind a command
abbrev pub form_behind : CommandWord → WordFormValue
form_behind Run = run_form
form_behind Check = file_form
form_behind Show = show_form
form_behind Export = export_form
form_behind Import = import_form
form_behind Verify = file_form
form_behind Picture = file_form
form_behind Packet = packet_form
form_behind Install = install_form
form_behind Backup = between_form
form_behind Restore = between_form
form_behind Device = capture_form
form_behind Categories = between_form
form_behind Sync = cable_form
form_behind Make = make_form

-- ---- where a port is named

-- `DESKTOP --port=PORT --date=D [--only=L] [--trace=F] [--actions=L] [--slow] [--user=N]
-- [--add-user]`, behind `run`
abbrev pub ported_run_form : WordFormValue
ported_run_form = record {
  plain = codes "desktop" ∷ [];
  options =
      needed (codes "date") ∷ needed (codes "port") ∷ allowed (codes "only")
      ∷ allowed (codes "trace") ∷ allowed (codes "actions") ∷ allowed (codes "user")
      ∷ flag (codes "slow") ∷ flag (codes "add-user") ∷ [];
}

-- `OTHER --port=PORT [--trace=F]`, behind `backup`
abbrev pub ported_form : WordFormValue
ported_form = record {
  plain = codes "other" ∷ [];
  options = needed (codes "port") ∷ allowed (codes "trace") ∷ [];
}

-- the form of the words behind a command where one of them names a port, if it has one
abbrev pub form_at_port : CommandWord → Option WordFormValue
form_at_port Run = Some ported_run_form
form_at_port Backup = Some ported_form
form_at_port _ = None

-- the form by which these words behind a command are judged
abbrev pub form_of : CommandWord → List (List ℕ) → WordFormValue
form_of command words =
    if is_some (value_of (codes "port") words)
    then unwrap_or (form_at_port command) (form_behind command) else form_behind command
