-- What a session says that writes nothing.
use Rattle.std.specs.Prelude.{◌≡◌, List, [], filter, map}
use Rattle.dlp_commands.specs.Changes.{changes}
use Rattle.desktop_session.specs.Acts.{Act, text}

-- none of these acts changes a database or the user
abbrev pub AreQuiet : List Act → Type 0
AreQuiet acts = filter changes (map text acts) ≡ []
