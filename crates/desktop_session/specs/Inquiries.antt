-- What a session asks, by the replies so far: its next request, or its end.
use Rattle.std.specs.Prelude.{◌≡◌, ℕ, List, [], ◌∷◌, Result, Ok, Err}
use Rattle.dlp_requests.specs.RequestTexts.{IsRequest, request_text}
use Rattle.dlp_requests.specs.RequestValues.{RequestValue}
use Rattle.dlp_replies.specs.declared.fault.ReplyFault.{ReplyFault}
use Rattle.dlp_replies.specs.ReplyReading.{reply_at}
use Rattle.dlp_replies.specs.ReplyValues.{ReplyValue}
use Rattle.dlp_commands.specs.DeviceSteps.{function_number}
use Rattle.dlp_commands.specs.Tries.{Answered, Try, Unanswered}
use Rattle.desktop_session.specs.declared.fault.SessionFault.{SessionFault}
use Rattle.desktop_session.specs.Answers.{said_in}

-- it is over, with an answer or for a cause; or a request is asked, and it goes on by the bytes of
-- the reply
pub data Inquiry (A : Type 0) : Type 0 where
  Ends : Result A SessionFault → Inquiry A
  Asks : RequestValue → (List ℕ → Inquiry A) → Inquiry A

-- one behind another, by the answer of that; a cause ends both
infixl 10 ◌>>=◌
unfoldable pub ◌>>=◌ : {A B : Type 0} → Inquiry A → (A → Inquiry B) → Inquiry B
(Ends (Ok x)) >>= next = next x
(Ends (Err cause)) >>= next = Ends (Err cause)
(Asks request more) >>= next = Asks request (λ reply. more reply >>= next)

-- a request was asked by these bytes, and fits into a message
pub record IsAsked (request : RequestValue) (bytes : List ℕ) : Type 0 where
  pub fits : IsRequest request
  pub is : bytes ≡ request_text request

-- what is left of it behind tries: each of them is for the request that is next, and a reply leads
-- on
abbrev pub After : {A : Type 0} → Inquiry A → List Try → Inquiry A → Type 0
After asked [] left = left ≡ asked
After (Ends answer) (one ∷ tries) left = ⊥
After (Asks request more) (Answered bytes reply ∷ tries) left =
    IsAsked request bytes × After (more reply) tries left
After (Asks request more) (Unanswered bytes ∷ tries) left =
    IsAsked request bytes × After (Asks request more) tries left

-- ---- one request

-- one request, and what is made of its reply, read as one to the request's function
abbrev pub asks_read : {A : Type 0} → RequestValue
    → (Result ReplyValue ReplyFault → Result A SessionFault) → Inquiry A
asks_read request read =
    Asks request (λ reply. Ends (read (reply_at (function_number request) reply)))

-- one request, and what is taken from its reply
abbrev pub asks_for : {A : Type 0} → RequestValue → (ReplyValue → A) → Inquiry A
asks_for request take = asks_read request (said_in (function_number request) take)

-- one request, and the bytes of its reply
abbrev pub asks_bytes : RequestValue → Inquiry (List ℕ)
asks_bytes request = Asks request (λ reply. Ends (Ok reply))
