-- The name of a user as a word.
use Rattle.std.specs.Prelude.{ℕ, ◌==◌, List, [], Option, None, Some, chars, length, option_and_then, if◌then◌else◌}
use Rattle.memo_texts.specs.Characters.{bytes_of}
use Rattle.pdb_values.specs.Users.{user_name_of}

-- bytes that are a name: at least one, at most 40, and none of them zero
abbrev pub as_name : List ℕ → Option (List ℕ)
as_name bytes = if length bytes == 0 then None else user_name_of bytes

-- the name of a word: the bytes of its characters
unfoldable pub user_of : List ℕ → Option (List ℕ)
user_of word = option_and_then as_name (bytes_of (chars word))

-- a name, or none
abbrev pub name_or_none : Option (List ℕ) → List ℕ
name_or_none None = []
name_or_none (Some name) = name

-- the name that is asked for
abbrev pub wished_name : Option (List ℕ) → List ℕ
wished_name user = name_or_none (option_and_then user_of user)
