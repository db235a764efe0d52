-- The greetings of a session over a port, and the transactions of its requests.
use Rattle.std.specs.Prelude.{◌≡◌, ℕ, ◌+◌, nat_lt, if◌then◌else◌, List, [], ◌∷◌, Result, Ok, Err}
use Rattle.cmp_hello.specs.HelloText.{HelloText, hello_bytes}
use Rattle.cmp_hello.specs.declared.hello.Hello.{Hello}
use Rattle.cmp_hello.specs.declared.hello.HelloKind.TheVariants.{Wake, Init, Abort}
use Rattle.port_link.specs.declared.port_cause.PortCause.{PortCause}
use Rattle.port_link.specs.declared.port_cause.PortCause.TheVariants as cause

-- the desktop's greeting: it asks for no change of the rate that a line begins with
abbrev pub init : Hello
init = record { kind = Init; flags = 0; minor = 1; rate = 9600 }

abbrev pub init_text : List ℕ
init_text = hello_bytes init (0 ∷ 0 ∷ [])

-- the message is a wake with this rate
pub record IsWakeOf (message : List ℕ) (rate : ℕ) : Type 0 where
  pub hello : Hello
  pub text : HelloText hello message
  pub kind : hello.kind ≡ Wake
  pub is : hello.rate ≡ rate

-- the message is a greeting that refuses the session
pub record IsRefusal (message : List ℕ) : Type 0 where
  pub hello : Hello
  pub text : HelloText hello message
  pub kind : hello.kind ≡ Abort

-- the rate of a wake; a greeting that refuses the session; or what no handheld says first
abbrev pub IsWakeAnswer : List ℕ → Result ℕ PortCause → Type 0
IsWakeAnswer message (Ok rate) = IsWakeOf message rate
IsWakeAnswer message (Err cause.Aborted) = IsRefusal message
IsWakeAnswer message (Err cause.NoHandheld) =
    (hello : Hello) → HelloText hello message → hello.kind ≡ Init
IsWakeAnswer message (Err other) = ⊥

-- the transaction behind this one: the greetings have 255, and the requests 1 to 253, coming round
abbrev pub id_behind : ℕ → ℕ
id_behind id = if nat_lt id 253 then id + 1 else 1
