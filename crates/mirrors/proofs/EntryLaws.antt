-- What a record that was lent says of its reply.
use Rattle.std.proofs.Common.{◌≡◌, ◌≤◌, ◌<◌, arith, ℕ, Bool, true, List, [], ◌∷◌, length, if◌then◌else◌, rules}
use Rattle.std.specs.Prelude.{nat_le, Option, None, IfOk, Result, Ok, Err}
use Rattle.std.proofs.lemmas.Bool.Decides.{nat_tests}
use Rattle.dlp_args.specs.Arguments.{Argument}
use Rattle.dlp_args.specs.Fields.{Fields}
use Rattle.dlp_args.specs.Reading.{◌>>=◌}
use Rattle.dlp_args.specs.Functions.{function_of}
use Rattle.dlp_replies.specs.declared.fault.ReplyFault.{ReplyFault}
use Rattle.dlp_replies.specs.Checks.{first_bad, is_id, record_checks}
use Rattle.dlp_replies.specs.Faults.{or_value}
use Rattle.dlp_replies.specs.Layouts.{record_reply}
use Rattle.dlp_replies.specs.ReplyReading.{reply_at, reply_by, valid_in, without}
use Rattle.dlp_replies.specs.ReplyValues as reply
use Rattle.dlp_replies.specs.ReplyValues.{ReplyValue}
use Rattle.dlp_replies.specs.Shapes.{One, shape_of}
use Rattle.dlp_commands.specs.declared.link.LinkFault.{LinkFault}
use Rattle.conduit_rules.specs.ById.{id_bound}
use Rattle.conduit_rules.proofs.ByIdLaws.{id_bound-is}
use Rattle.desktop_session.specs.declared.fault.SessionFault.{SessionFault}
use Rattle.desktop_session.specs.Answers.{answer_by, record_of, said_in}
use Rattle.desktop_session.specs.Lent.{LentValue}
use Rattle.desktop_session.specs.Lists.{HasCause}
use Rattle.mirrors.specs.Entries.{seen_in, seen_of}
use Rattle.std.proofs.lemmas.Grind.{common_steps}

-- ---- what a reply lends keeps the bounds of a record

pub record IsShort (lent : LentValue) : Type 0 where
  pub id : lent.id ≤ 16777215
  pub bytes : length lent.bytes ≤ 65500

abbrev LendsShort : ReplyValue → Type 0
LendsShort value = IsShort (record_of value)

ok_then : {A B E : Type 0} (P : B → Type 0) (r : Result A E) (f : A → Result B E) → ((x : A) → IfOk (f x) P) → IfOk (r >>= f) P
ok_then P (Ok x) f each = each x
ok_then P (Err e) f each = tt

ok_then_of : {A B E : Type 0} {Q : A → Type 0} (P : B → Type 0) (r : Result A E) (f : A → Result B E) → IfOk r Q → ((x : A) → Q x → IfOk (f x) P)
    → IfOk (r >>= f) P
ok_then_of P r f holds each = search (rules)

abbrev IsShortRow : Fields record_reply → Type 0
IsShortRow v = (v.0 ≤ 16777215) × (length v.1.1.1.1.1.0 ≤ 65500)

tested : (a b c : Bool) (place : ℕ) (v : Fields record_reply) → is_id v.0 ≡ a → nat_le (length v.1.1.1.1.1.0) 65500 ≡ c
    → IfOk (or_value place (first_bad ((0, a) ∷ (9, b) ∷ (10, c) ∷ [])) v) IsShortRow
tested a b c place v id bytes = search (rules)

valid_short : (place : ℕ) (content : List ℕ) → IfOk (valid_in record_reply (λ v. true) record_checks place content) IsShortRow
unfolding valid_in
valid_short place content = search (rules, ok_then, tested)

shape_short : (make : Fields record_reply → ReplyValue) (end : ℕ) (arguments : List Argument) → ((v : Fields record_reply) → IsShortRow v → LendsShort (make v))
    → IfOk (reply_by (One record_reply (λ v. true) record_checks make) end arguments) LendsShort
unfolding reply_by
shape_short make end arguments each = search (rules, ok_then, ok_then_of, valid_short)

refused_short : (number code : ℕ) (arguments : List Argument) → IfOk (without (reply.Refused number code) arguments) LendsShort
refused_short number code arguments = search (rules, ok_then)

answer_short : (b : Bool) (number code end : ℕ) (arguments : List Argument) → IfOk (reply_by (shape_of (function_of number)) end arguments) LendsShort
    → IfOk (if b then reply_by (shape_of (function_of number)) end arguments else without (reply.Refused number code) arguments) LendsShort
answer_short b number code end arguments own = search (rules, refused_short)

at_short : (number : ℕ) (bytes : List ℕ) → ((end : ℕ) (arguments : List Argument) → IfOk (reply_by (shape_of (function_of number)) end arguments) LendsShort)
    → IfOk (reply_at number bytes) LendsShort
unfolding reply_at
at_short number bytes own = search (rules, ok_then, answer_short)

-- a reply to ReadRecord
pub record_short : (bytes : List ℕ) → IfOk (reply_at 0x20 bytes) LendsShort
unfolding function_of
record_short bytes = search (rules, at_short, shape_short)

-- a reply to ReadNextModifiedRec
pub next_short : (bytes : List ℕ) → IfOk (reply_at 0x1F bytes) LendsShort
unfolding function_of
next_short bytes = search (rules, at_short, shape_short)

-- ---- what was lent

pub lent_short : (function : ℕ) (fault : Option LinkFault) (read : Result ReplyValue ReplyFault) {lent : LentValue} → IfOk read LendsShort
    → answer_by fault (said_in function record_of read) ≡ Ok lent → IsShort lent
lent_short function fault read short is = search (rules)

-- the link has no fault, and the reply has this record
pub lent_seen : (function : ℕ) (fault : Option LinkFault) (read : Result ReplyValue ReplyFault) {lent : LentValue} → answer_by fault (said_in function record_of read) ≡ Ok lent
    → (fault ≡ None) × (seen_in read ≡ seen_of lent ∷ [])
lent_seen function fault read is = grind (arith, common_steps, nat_tests)

-- ---- causes

cause_said : {A : Type 0} (function : ℕ) (take : ReplyValue → A) (read : Result ReplyValue ReplyFault) {now : SessionFault} → said_in function take read ≡ Err now
    → HasCause None read now
cause_said function take read is = search (rules)

-- a call that says what its reply says has the cause that the link or the reply shows
pub cause_by : {A : Type 0} (function : ℕ) (take : ReplyValue → A) (fault : Option LinkFault) (read : Result ReplyValue ReplyFault) {now : SessionFault}
    → answer_by fault (said_in function take read) ≡ Err now → HasCause fault read now
cause_by function take fault read is = search (rules, cause_said)

-- such an id is below the bound of ids
pub bounded_id : (id : ℕ) → id ≤ 16777215 → id < id_bound
bounded_id id within = rw id_bound-is (omega arith)
