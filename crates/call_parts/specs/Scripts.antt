-- What the source shows of the script of a run.
use Rattle.std.specs.Prelude.{◌≡◌, ◌⊎◌, ⊤, ◌<◌, ◌≤◌, ℕ, List, [], length, Option, None, Some, IfSome, Ok, Err}
use Rattle.line_script.specs.Rules.{RuleValue}
use Rattle.line_script.specs.Scripts.{IsReading}
use Rattle.line_script.specs.declared.fault.ScriptFault.TheVariants as fault
use Rattle.cmd_status.specs.Sources.{source_limit}
use Rattle.cmd_status.specs.declared.status.Status.{Status}
use Rattle.cmd_status.specs.declared.status.Status.TheVariants.{BadScript, TooLong, SourceRead, NoMemory}

-- bytes that are not too many, and say this as a script
pub record IsScript (bytes : List ℕ) (rules : List RuleValue) : Type 0 where
  pub short : length bytes ≤ source_limit
  pub reads : IsReading bytes (Ok rules)

-- the script of a run: that of all bytes of the source where the words name one, and else no line
abbrev pub IsScripted : Option (List ℕ) → Option (List ℕ) → List RuleValue → Type 0
IsScripted None left rules = rules ≡ []
IsScripted (Some path) left rules = IfSome left (λ bytes. IsScript bytes rules)

-- a run has a script
pub record HasScript (path left : Option (List ℕ)) : Type 0 where
  pub rules : List RuleValue
  pub scripted : IsScripted path left rules

-- what bytes show of the cause of each refusal to read a script
abbrev pub ScriptShows : Status → List ℕ → Type 0
ScriptShows SourceRead bytes = ⊤
ScriptShows TooLong bytes =
    (source_limit < length bytes)
    ⊎ ((length bytes ≤ source_limit) × IsReading bytes (Err fault.TooLong))
ScriptShows (BadScript line) bytes =
    (length bytes ≤ source_limit) × IsReading bytes (Err (fault.BadLine line))
ScriptShows NoMemory bytes = ⊤
ScriptShows _ bytes = ⊥

-- one of those that reading a script gives cause for
abbrev pub IsScriptRefusal : Status → Type 0
IsScriptRefusal SourceRead = ⊤
IsScriptRefusal TooLong = ⊤
IsScriptRefusal (BadScript _) = ⊤
IsScriptRefusal NoMemory = ⊤
IsScriptRefusal _ = ⊥

-- the words name a script, and the source shows why it was not read
pub record ScriptRefuses (path left : Option (List ℕ)) (refusal : Status) : Type 0 where
  pub name : List ℕ
  pub named : path ≡ Some name
  pub is : IsScriptRefusal refusal
  pub shown : IfSome left (ScriptShows refusal)
