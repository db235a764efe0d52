-- What acts make of a talk, and what went out.
use Rattle.std.specs.Prelude.{◌≡◌, length, ℕ, List, [], ◌∷◌, ◌++◌, Option, Some, None}
use Rattle.std.specs.Option.{option_map}
use Rattle.dlp_commands.specs.Talks.{Talk, issued}
use Rattle.desktop_session.specs.Acts.{Act, acted, text}

-- an act that went out and was answered
abbrev pub said_one : Act → Talk → Talk
said_one act talk = record {
  device = (acted act talk.device).1;
  exchanges =
      talk.exchanges ++ record { request = text act; reply = (acted act talk.device).0 } ∷ [];
  left = None;
}

-- these acts, in order
abbrev pub said : List Act → Talk → Talk
said [] talk = talk
said (act ∷ acts) talk = said acts (said_one act talk)

-- what is told after these acts went out and were answered, and nothing else went out
unfoldable pub saying : List Act → Option Talk → Option Talk
saying acts talk = option_map (said acts) talk

-- the requests that went out, where they are told
unfoldable pub sent : Option Talk → Option (List (List ℕ))
sent talk = option_map issued talk

-- with these behind
unfoldable pub grown : Option (List (List ℕ)) → List (List ℕ) → Option (List (List ℕ))
grown requests more = option_map (λ all. all ++ more) requests

-- the second list goes on where the first one ends
pub record IsPrefix (xs ys : List (List ℕ)) : Type 0 where
  pub rest : List (List ℕ)
  pub is : xs ++ rest ≡ ys

abbrev pub IsPrefixAt : List (List ℕ) → Option (List (List ℕ)) → Type 0
IsPrefixAt xs None = ⊥
IsPrefixAt xs (Some ys) = IsPrefix xs ys

-- both are told, and the second goes on where the first one ends, or neither is told
unfoldable pub Begins : Option (List (List ℕ)) → Option (List (List ℕ)) → Type 0
Begins None whole = whole ≡ None
Begins (Some xs) whole = IsPrefixAt xs whole

-- how many were answered
unfoldable pub answered : Option Talk → ℕ
answered None = 0
answered (Some talk) = length talk.exchanges
