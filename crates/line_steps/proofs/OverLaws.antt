-- A message goes over: an end waits for it, and it may not be sent at all.
use Rattle.line_steps.proofs.TalkNames.{rules, Result, Ok, Err, OnOk, IfErr, ◌≡◌, ℕ, List, [], Some, ap, arith, RuleValue, Talk, Half, Wire, took_count, CountsTaken}
use Rattle.line_steps.proofs.TalkNames.{IsNextTo, RecordsFrames, Talks, Turn, NoMemory, HaltedOver, speaking}
use Rattle.line_steps.proofs.MoreLaws.{turn-unsent}

-- it waits for a message of this transaction
abbrev pub expecting : Half → ℕ → Half
expecting half id = record half { receiver = record { awaited = Some id; pieces = []; last = half.receiver.last } }

pub expects-recorded : {script : List RuleValue} {wire : Wire} {x y new : Half} {id : ℕ} → new ≡ expecting y id → RecordsFrames script wire x y
    → RecordsFrames script wire x new
expects-recorded is recorded = search rules

pub expects-next : {talk : Talk} {x y new : Half} {id next : ℕ} → new ≡ expecting y id → IsNextTo talk x y next → IsNextTo talk x new next
expects-next is to = search rules

pub expects-talks : {talk : Talk} (wire : Wire) (x y : Half) {new : Half} {id : ℕ} → new ≡ expecting y id → Talks talk wire x y → Talks talk wire x new
expects-talks wire x y is talks = search rules

-- memory ran out before it was sent
pub over-unsent : {id : ℕ} {message : List ℕ} {wire : Wire} {x y : Half} → Turn wire x y → HaltedOver NoMemory id message (speaking wire x y) (speaking wire x y)
over-unsent {message} turn =
    record { by = turn.settled.go; talks = λ talk next talks. turn-unsent message turn talks; other = omega arith; short = λ talk next talks. tt }

-- what holds behind a call either way
pub either_way : {T E A C : Type 0} {P : E → Type 0} (r : Result T E) → (A → C) → ((e : E) → P e → C) → OnOk r A → IfErr r P → C
either_way (Ok x) f g a b = f a
either_way (Err e) f g a b = g e b

pub expects-counted : {wire : Wire} {x y new : Half} {id : ℕ} → new ≡ expecting y id → CountsTaken wire x y → CountsTaken wire x new
expects-counted is counted = search rules

pub expects-took : (wire : Wire) (y : Half) {new : Half} {id : ℕ} → new ≡ expecting y id → took_count wire new ≡ took_count wire y
expects-took wire y is = ap (λ h. took_count wire h) is

-- both that hold where a call failed
pub both_err : {T E : Type 0} (r : Result T E) (P Q : E → Type 0) → IfErr r P → IfErr r Q → IfErr r (λ e. P e × Q e)
both_err (Ok x) P Q p q = tt
both_err (Err e) P Q p q = (p, q)
