-- The actions of `--actions=L`: items `STEM:WORD` or `*:WORD` with one comma between them, no stem
-- and no `*` twice.
use Rattle.std.specs.Prelude.{◌≡◌, ◌<◌, ℕ, Bool, not, ◌==◌, ◌&&◌, List, [], ◌∷◌, ◌++◌, length, map, Option, Some, None, codes, bytes_eq, is_some, option_map}
use Rattle.std.specs.Prelude.{option_and_then, true, false, if◌then◌else◌}
use Rattle.std.specs.List.{AllByRecursion, list_any, filter_map, find, join_with_byte, slice_split, before_first, after_first}
use Rattle.pdb_values.specs.Names.{IsName}
use Rattle.pdb_values.specs.Stems.{stem_of}
use Rattle.run_words.specs.StemNames.{name_of}
use Rattle.run_words.specs.declared.action.ActionWord.{ActionWord}
use Rattle.run_words.specs.declared.action.ActionWord.TheVariants.{Sync, Handheld, Desktop, Both, Nothing}
use Rattle.run_words.specs.declared.action.NamedAction.{NamedAction}
use Rattle.run_words.specs.declared.action.Target.{Target}
use Rattle.run_words.specs.declared.action.Target.TheVariants.{Others, One}

-- ---- the text of actions

abbrev pub action_text : ActionWord → List ℕ
action_text Sync = codes "sync"
action_text Handheld = codes "handheld"
action_text Desktop = codes "desktop"
action_text Both = codes "both"
action_text Nothing = codes "nothing"

-- `*` for the databases that no other item names, or the stem of one database's name
abbrev pub target_text : Target → List ℕ
target_text Others = codes "*"
target_text (One name) = stem_of name

-- `STEM:WORD` or `*:WORD`
abbrev pub item_text : NamedAction → List ℕ
item_text item = target_text item.target ++ 58 ∷ action_text item.action

-- the items, with one comma between them
abbrev pub actions_text : List NamedAction → List ℕ
actions_text actions = join_with_byte 44 (map item_text actions)

-- the name of a database, in bytes
pub record IsNameOfBytes (name : List ℕ) : Type 0 where
  pub valid : IsName name
  pub bytes : AllByRecursion (λ byte. byte < 256) name

-- the other databases, or one that has such a name
abbrev pub IsTarget : Target → Type 0
IsTarget Others = Unit {0}
IsTarget (One name) = IsNameOfBytes name

-- no two of them are of one database, and at most one is of the others
abbrev pub AreApart : List NamedAction → Type 0
AreApart [] = Unit {0}
AreApart (first ∷ rest) =
    AllByRecursion (λ other. ¬ (other.target ≡ first.target)) rest × AreApart rest

-- at least one action, each of a database of its own or of the others
pub record AreActions (actions : List NamedAction) : Type 0 where
  pub some : 0 < length actions
  pub targets : AllByRecursion (λ action. IsTarget action.target) actions
  pub apart : AreApart actions

-- a text is that of some actions
abbrev pub IsActionsText : List ℕ → Type 0
IsActionsText text =
    (actions : List NamedAction) × AreActions actions × (text ≡ actions_text actions)

-- ---- the same as a test

abbrev pub is_comma : ℕ → Bool
is_comma byte = byte == 44

abbrev pub is_colon : ℕ → Bool
is_colon byte = byte == 58

-- the action that a word names
abbrev pub action_of_word : List ℕ → Option ActionWord
action_of_word word =
    if bytes_eq word (codes "sync") then Some Sync
    else (if bytes_eq word (codes "handheld") then Some Handheld
    else (if bytes_eq word (codes "desktop") then Some Desktop
    else (if bytes_eq word (codes "both") then Some Both
    else (if bytes_eq word (codes "nothing") then Some Nothing else None))))

-- an action for a target
abbrev pub aimed : Target → ActionWord → NamedAction
aimed target action = record { target = target; action = action }

-- what `*` or a stem speaks of
abbrev pub target_of : List ℕ → Option Target
target_of text = if bytes_eq text (codes "*") then Some Others else option_map One (name_of text)

-- what an item says: the target before its first colon, and the word behind that
unfoldable pub item_of : List ℕ → Option NamedAction
item_of item =
    option_and_then
    (λ target. option_map (aimed target) (action_of_word (after_first is_colon item)))
    (target_of (before_first is_colon item))

-- the stem, or `*`, before the first colon
abbrev pub stem_in : List ℕ → List ℕ
stem_in item = before_first is_colon item

-- one of these items has this stem
abbrev pub has_stem : List ℕ → List (List ℕ) → Bool
has_stem stem items = list_any (λ item. bytes_eq (stem_in item) stem) items

-- the items of what stands behind a comma, if there is one
abbrev pub items_of : Option (List ℕ) → List (List ℕ)
items_of None = []
items_of (Some text) = slice_split is_comma text

-- an item, whose stem no item behind it has
abbrev pub is_next : List ℕ → List (List ℕ) → Bool
is_next item items = is_some (item_of item) && not (has_stem (stem_in item) items)

-- each is an item, and no stem stands twice
unfoldable pub are_items : List (List ℕ) → Bool
are_items [] = true
are_items (item ∷ items) = is_next item items && are_items items

-- a text is that of some actions
abbrev pub is_actions_text : List ℕ → Bool
is_actions_text text = are_items (items_of (Some text))

-- the actions of a text
abbrev pub actions_in : List ℕ → List NamedAction
actions_in text = filter_map item_of (items_of (Some text))

abbrev pub is_one : List ℕ → Target → Bool
is_one name Others = false
is_one name (One other) = bytes_eq other name

abbrev pub is_others : Target → Bool
is_others Others = true
is_others (One name) = false

-- an action names this database
abbrev pub is_of : List ℕ → NamedAction → Bool
is_of name action = is_one name action.target

-- an action is of the databases that no item names
abbrev pub is_of_others : NamedAction → Bool
is_of_others action = is_others action.target

-- that of an item, where there is one
abbrev pub action_or : ActionWord → Option NamedAction → ActionWord
action_or other None = other
action_or other (Some found) = found.action

-- the action for the databases that no item names: that of `*`, and `sync` without one
abbrev pub action_for_others : List NamedAction → ActionWord
action_for_others actions = action_or Sync (find is_of_others actions)

-- the action for a name: that of the item that names it, wherever it stands, or else that of the
-- others
abbrev pub action_for : List ℕ → List NamedAction → ActionWord
action_for name actions = action_or (action_for_others actions) (find (is_of name) actions)
