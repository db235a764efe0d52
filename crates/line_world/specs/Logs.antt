-- What was said over a line: the requests that were sent, those that the handheld performed, its
-- replies, and the ids that new records were given.
use Rattle.std.specs.Prelude.{ℕ, ◌+◌, ◌≤◌, List, [], ◌∷◌, ◌++◌, map, vec_capacity, vec_len}
use Rattle.dlp_args.specs.Messages.{MessageTextValue}
use Rattle.dlp_commands.specs.Changes.{given_in}
use Rattle.trace_text.specs.Talks.{Talk}
use Rattle.line_steps.specs.TalkTelling.{bytes_of, init, wake}
use Rattle.line_world.specs.declared.log.Log.{Log}

pub record LogValue : Type 0 where
  pub issued : List (List ℕ)
  pub performed : List (List ℕ)
  pub replies : List (List ℕ)
  pub given : List ℕ

abbrev pub texts : List MessageTextValue → List (List ℕ)
texts kept = map (λ text. text.bytes) kept

abbrev pub log_value : Log → LogValue
log_value log = record {
  issued = texts log.issued.items;
  performed = texts log.performed.items;
  replies = texts log.replies.items;
  given = log.given.items;
}

-- nothing was said
abbrev pub no_log : LogValue
no_log = record { issued = []; performed = []; replies = []; given = [] }

-- a request is sent
abbrev pub with_issued : LogValue → List ℕ → LogValue
with_issued log request = record log { issued = log.issued ++ request ∷ [] }

-- it is performed, with this reply
abbrev pub with_performed : LogValue → List ℕ → List ℕ → LogValue
with_performed log request reply = record log {
  performed = log.performed ++ request ∷ [];
  replies = log.replies ++ reply ∷ [];
  given = log.given ++ given_in request reply;
}

-- there is memory for one more request that is performed
pub record HasRoom (log : Log) : Type 0 where
  pub performed_has : vec_len log.performed + 1 ≤ vec_capacity log.performed
  pub replies_have : vec_len log.replies + 1 ≤ vec_capacity log.replies
  pub given_has : vec_len log.given + 1 ≤ vec_capacity log.given

-- the messages of both ends: the greetings, and then the replies and the requests
abbrev pub said_in : LogValue → Talk
said_in log = record {
  handheld = bytes_of wake ∷ log.replies;
  desktop = bytes_of init ∷ log.issued;
}
