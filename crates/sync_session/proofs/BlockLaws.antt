-- The blocks of a database that is made: how they are written, and that they ask for no id and open nothing.
use Rattle.std.proofs.Common.{◌≡◌, ◌∙◌, ◌==◌, ap, subst, refl, false, ℕ, List, [], ◌∷◌, length, arith, Option, Some, None, Result, Ok, Err, IfErr, IfOk, drop}
use Rattle.std.specs.List.{AllByRecursion}
use Rattle.std.specs.Global.{Vec}
use Rattle.dlp_commands.specs.DeviceSteps.{tried}
use Rattle.dlp_commands.specs.Writings as writing
use Rattle.desktop_session.specs.Requests.{writing_app, writing_sort}
use Rattle.session_parts.proofs.LinkWords.{LinkFault, Talk, Act, SessionFault, SessionValue, acted, making, saying}
use Rattle.session_parts.proofs.CloseLaws.{KeepsHandles, writes_keep}
use Rattle.mirrors.specs.Asks.{Asks}
use Rattle.mirrors.specs.News.{PutsAll, news_of}
use Rattle.conduit_rules.specs.declared.planned.Plan.{Plan}
use Rattle.dlp_replies.specs.ReplyReading.{reply_at}
use Rattle.desktop_session.specs.Lasts.{IsByLastReply}
use Rattle.desktop_session.specs.Lists.{HasCause}
use Rattle.session_parts.specs.Causes.{IsLater}
use Rattle.session_parts.proofs.CauseLaws.{later_by}
use Rattle.pdb_values.specs.declared.head.DbHead.{DbHead}
use Rattle.desktop_session.proofs.SaysLaws.{saying_then}
use Rattle.sync_session.specs.Gains.{AreGained}
use Rattle.sync_session.specs.Phases.{GainsMade}
use Rattle.mirrors.proofs.AskLaws.{none_said, said_all}
use Rattle.session_plan.specs.Blocks.{GivenBlocks, block_with_bytes}
use Rattle.desktop_session.specs.Inquiries.{Ends, Inquiry}
use Rattle.sync_session.specs.Inquiries.{writes_block}
use Rattle.sync_session.specs.News.{block_act, block_acts}
use Rattle.sync_session.proofs.FreeLaws.{NoId}
use Rattle.desk_journal.proofs.StepLaws.{all-append}

-- nothing is asked for
pub asks_none : {L A : Type 0} {talk : L → Option Talk} {since : L → L → Type 0} {fault : L → Option LinkFault} {downs : L → ℕ}
    (itself : (a : L) → since a a) (old : SessionValue L) (answer : A) → Asks talk since fault downs [] old old (Ok answer)
asks_none {talk = talk} {since = since} {fault = fault} {downs = downs} itself old answer = said_all answer (none_said talk since fault downs itself old)

-- a block of no bytes is not written, and any other is
pub block_none : (writing : ℕ → List ℕ → Act) (handle : ℕ) (bytes : List ℕ) → length bytes ≡ 0 → block_act writing handle (block_with_bytes (Some bytes)) ≡ []
block_none writing handle [] none = refl
block_none writing handle (byte ∷ bytes) none = absurd (omega (arith, none))

pub block_some : (writing : ℕ → List ℕ → Act) (handle : ℕ) (bytes : List ℕ) → (length bytes == 0) ≡ false
    → block_act writing handle (block_with_bytes (Some bytes)) ≡ writing handle bytes ∷ []
block_some writing handle [] some = absurd cc
block_some writing handle (byte ∷ bytes) some = refl

-- the same of what is asked
pub no_block : (writes : ℕ → List ℕ → Inquiry (Unit {0})) (handle : ℕ) (bytes : List ℕ) → length bytes ≡ 0
    → writes_block writes handle (block_with_bytes (Some bytes)) ≡ Ends (Ok tt)
no_block writes handle [] none = refl
no_block writes handle (byte ∷ bytes) none = absurd (omega (arith, none))

pub some_block : (writes : ℕ → List ℕ → Inquiry (Unit {0})) (handle : ℕ) (bytes : List ℕ) → (length bytes == 0) ≡ false
    → writes_block writes handle (block_with_bytes (Some bytes)) ≡ writes handle bytes
some_block writes handle [] some = absurd cc
some_block writes handle (byte ∷ bytes) some = refl

-- ---- what holds of each request holds of the blocks

block-all : (P : Act → Type 0) (writing : ℕ → List ℕ → Act) (handle : ℕ) → ((bytes : List ℕ) → P (writing handle bytes)) → (block : Option (List ℕ))
    → AllByRecursion P (block_act writing handle block)
block-all P writing handle each None = tt
block-all P writing handle each (Some bytes) = (each bytes, tt)

pub blocks-all : (P : Act → Type 0) (handle : ℕ) → ((bytes : List ℕ) → P (writing_app handle bytes)) → ((bytes : List ℕ) → P (writing_sort handle bytes))
    → (blocks : GivenBlocks) → AllByRecursion P (block_acts handle blocks)
unfolding block_acts
blocks-all P handle app sort blocks =
    all-append P (block_act writing_app handle blocks.app) (block_act writing_sort handle blocks.sort)
    (block-all P writing_app handle app blocks.app) (block-all P writing_sort handle sort blocks.sort)

pub blocks-none : (handle : ℕ) (blocks : GivenBlocks) → AllByRecursion NoId (block_acts handle blocks)
blocks-none handle blocks = blocks-all NoId handle (λ bytes. record { is = refl }) (λ bytes. record { is = refl }) blocks

app_keeps : (handle : ℕ) (bytes : List ℕ) → KeepsHandles (writing_app handle bytes)
unfolding acted tried
app_keeps handle bytes = record { at = λ device. writes_keep 0 device handle 0x1C (writing.AppBlock bytes) }

sort_keeps : (handle : ℕ) (bytes : List ℕ) → KeepsHandles (writing_sort handle bytes)
unfolding acted tried
sort_keeps handle bytes = record { at = λ device. writes_keep 0 device handle 0x1E (writing.SortBlock bytes) }

pub blocks_keep : (handle : ℕ) (blocks : GivenBlocks) → AllByRecursion KeepsHandles (block_acts handle blocks)
blocks_keep handle blocks = blocks-all KeepsHandles handle (app_keeps handle) (sort_keeps handle) blocks

-- ---- the ids behind the blocks

pub filled_said : {L : Type 0} {talk : L → Option Talk} {since : L → L → Type 0} {fault : L → Option LinkFault} {downs : L → ℕ} (plan : Plan)
    {handle : ℕ} {told : Option Talk} {now new : SessionValue L} {answer : Result (Vec ℕ) SessionFault} → talk now.link ≡ told
    → (news : PutsAll talk since fault downs handle (news_of plan) (λ given (ids : Vec ℕ). ids.items ≡ drop (length plan.replace.items) given) now new answer)
    → IfOk answer (λ ids. AreGained told plan handle news.given ids.items)
filled_said plan {answer = Ok ids} told news = record { behind = news.said; own = news.ids; free = rw told at news.free }
filled_said plan {answer = Err cause} told news = tt

pub later_put : {L A : Type 0} (talk : L → Option Talk) (fault : L → Option LinkFault) (new : SessionValue L) (answer : Result A SessionFault)
    → IfErr answer (HasCause (fault new.link) (reply_at 0x21 new.reply)) → IfErr answer (IsByLastReply (talk new.link))
    → IfErr answer (IsLater (talk new.link) (fault new.link))
later_put talk fault new (Ok x) cause last = tt
later_put talk fault new (Err why) cause last = later_by _ _ (reply_at 0x21 new.reply) _ cause last

-- the same, told before the database was made
pub gained_behind : (head : DbHead) (blocks : GivenBlocks) {plan : Plan} {handle : ℕ} {given ids : List ℕ} (old : Option Talk) {now : Option Talk}
    → now ≡ saying (making head ∷ []) old → AreGained (saying (block_acts handle blocks) now) plan handle given ids
    → GainsMade head blocks old plan handle given ids
gained_behind head blocks {plan} {handle} {given} {ids} old told gained =
    subst (λ talk. AreGained talk plan handle given ids)
    (ap (saying (block_acts handle blocks)) told ∙ saying_then (making head ∷ []) (block_acts handle blocks) old) gained
