-- A greeting, of a user with a slot, and then a list.
use Rattle.std.proofs.Common.{◌≡◌, ◌∙◌, ◌<◌, ◌+◌, refl, inl, inr, ℕ, Bool, true, false, List, map, arith}
use Rattle.std.specs.Prelude.{◌⊎◌, Option, None, Some, IfSome, IsOk, Result, Ok, Err}
use Rattle.pdb_values.specs.declared.user.Marks.{Marks}
use Rattle.pdb_values.specs.declared.user.UserInfo.{UserInfo}
use Rattle.dlp_replies.specs.ReplyReading.{reply_at}
use Rattle.session_parts.proofs.LinkWords.{LinkFault, Talk, Halted, SessionFault, text, no_more, said_in, user_of, listing, saying, SessionValue, Does, Stops}
use Rattle.desktop_session.specs.Greetings.{AsksUser, AnswersGreeting, HasSlot, begun_by, greeted, user_by, user_with}
use Rattle.desktop_session.specs.Lists.{HasCause, IsByReplyTo, IsNotMissing, Lists, has_more, list_reply, listings}
use Rattle.desktop_session.proofs.StopLaws.{does_then, stops_then}
use Rattle.desktop_session.proofs.GreetLaws.{no_fault_said}
use Rattle.session_parts.specs.declared.meeting.Met.{Met}
use Rattle.session_parts.specs.Meets.{greeting, Meets, IsSeated, MeetsOrNot}
use Rattle.pdb_values.specs.Slots.{IsWithin}
use Rattle.desktop_session.specs.Seats.{seat_for}
use Rattle.desktop_session.specs.declared.seat.UserWish.{UserWish}
use Rattle.pdb_values.specs.declared.slot.Slot.{Slot}
use Rattle.pdb_values.specs.declared.slot.Slot.TheVariants as slot
use Rattle.desk_store.specs.Desks.{IsPickable}

-- no more were asked for than one
few_more : (o : Option Talk) → IfSome o (λ talk. (k : ℕ) → k + 1 < 0 → has_more (list_reply talk.device k) ≡ true)
few_more None = tt
few_more (Some talk) = λ k below. absurd (omega arith)

-- a greeting that was answered
clear : (marks : List Marks) (wish : UserWish) (talk : Option Talk) (fault : Option LinkFault) (user : UserInfo)
    → AnswersGreeting marks wish talk fault (Ok user) → AnswersGreeting marks wish talk None (Ok user)
clear marks wish talk fault user said =
    rw (no_fault_said fault (greeted marks wish said.first said.second) user said.is) at said

-- the user that was read has a slot
slot_by : (marks : List Marks) (wish : UserWish) (bytes : List ℕ) (user : UserInfo) (second : Result (Unit {0}) SessionFault)
    → Ok user ≡ begun_by (user_by marks wish (said_in 0x10 user_of (reply_at 0x10 bytes))) second
    → IsOk (user_by marks wish (said_in 0x10 user_of (reply_at 0x10 bytes)))
slot_by marks wish bytes user second is = begun_ok (user_by marks wish (said_in 0x10 user_of (reply_at 0x10 bytes))) second is
  where
    begun_ok : (read : Result UserInfo SessionFault) (second : Result (Unit {0}) SessionFault) → Ok user ≡ begun_by read second → IsOk read
    begun_ok (Ok other) second is = refl
    begun_ok (Err fault) second is = absurd (let no : ⊥ = cc in no)

pub greeted_slot : (marks : List Marks) (wish : UserWish) (told : Option Talk) (user : UserInfo) → AnswersGreeting marks wish told None (Ok user) → HasSlot marks wish told
greeted_slot marks wish None user said = tt
greeted_slot marks wish (Some talk) user said =
    rw (said.told refl) at
    (slot_by marks wish said.first user (said_in 0x2E no_more (reply_at 0x2E said.second)) said.is)

module _ {L : Type 0} {talk : L → Option Talk} {since : L → L → Type 0} {fault : L → Option LinkFault} {downs : L → ℕ} {marks : List Marks} {wish : UserWish}
    {old : L} where
  -- the greeting stopped
  pub meets_not : {halted : Halted L} → Stops talk since fault downs (map text greeting) old halted.link
      → AnswersGreeting marks wish (talk old) (fault halted.link) (Err halted.cause)
      → AsksUser talk since fault downs old halted.link ⊎ HasSlot marks wish (talk old) → Meets talk since fault downs marks wish old (Err halted)
  unfolding listings
  meets_not stops refused asks = record {
    count = 0;
    few = omega arith;
    more = few_more (saying greeting (talk old));
    stops = stops;
    does = tt;
    unseated = asks;
    user = tt;
    some = tt;
    heads = tt;
    last = tt;
    closed = tt;
    cause = inl refused;
  }

  module _ (since_more : (a b c : L) → since a b → since b c → since a c) (mid : SessionValue L)
      (stops : Stops talk since fault downs (map text greeting) old mid.link) (does : Does talk greeting old mid.link)
      (said : AnswersGreeting marks wish (talk old) (fault mid.link) (Ok mid.user)) where
    -- both sides met
    pub meets_done : {met : Met L} → mid.abandoned ≡ false → Lists talk since fault downs mid.link met.linked.link (Ok met.heads.items)
        → (met.linked.user ≡ mid.user) × (met.linked.abandoned ≡ mid.abandoned) → Meets talk since fault downs marks wish old (Ok met)
    meets_done {met} none lists rest = record {
      count = lists.count;
      few = lists.few;
      more = rw does.said at lists.more;
      stops = stops_then talk since fault downs since_more greeting (map text (listings lists.count)) old mid.link met.linked.link does stops lists.stops;
      does = does_then talk greeting (listings lists.count) old mid.link met.linked.link does lists.does;
      unseated = inr (greeted_slot marks wish (talk old) mid.user (clear marks wish (talk old) (fault mid.link) mid.user said));
      user = rw rest.0 (clear marks wish (talk old) (fault mid.link) mid.user said);
      some = lists.some;
      heads = rw does.said at lists.heads;
      last = rw does.said at lists.last;
      closed = rest.1 ∙ none;
      cause = tt;
    }

    -- the list stopped
    pub meets_unlisted : (new : SessionValue L) {halted : Halted L} {cause : SessionFault} → Lists talk since fault downs mid.link new.link (Err cause)
        → HasCause (fault new.link) (reply_at 0x16 new.reply) cause → IsNotMissing cause → IsByReplyTo talk fault 65536 listing mid new
        → halted.link ≡ new.link → halted.cause ≡ cause → Meets talk since fault downs marks wish old (Err halted)
    meets_unlisted new lists by others replied link is = record {
      count = lists.count;
      few = lists.few;
      more = rw does.said at lists.more;
      stops = rw link
          (stops_then talk since fault downs since_more greeting (map text (listings lists.count)) old mid.link new.link does stops lists.stops);
      does = tt;
      unseated = inr (greeted_slot marks wish (talk old) mid.user (clear marks wish (talk old) (fault mid.link) mid.user said));
      user = tt;
      some = tt;
      heads = tt;
      last = tt;
      closed = tt;
      cause = inr (rw (link, is) (record {
        user = mid.user;
        greeted = clear marks wish (talk old) (fault mid.link) mid.user said;
        reply = new.reply;
        is = by;
        others = others;
        told = λ none. rw does.said at (replied none);
      }));
    }

-- ---- the slot

pub seated_with : (marks : List Marks) (other user : UserInfo) (found : Slot) (second : Result (Unit {0}) SessionFault)
    → Ok user ≡ begun_by (user_with marks other found) second → IsSeated found × (user ≡ other)
seated_with marks other user (slot.Old place) (Ok done) is = let same : user ≡ other = cc in (tt, same)
seated_with marks other user slot.New (Ok done) is = let same : user ≡ other = cc in (tt, same)
seated_with marks other user found second is = absurd cc

seated_by : (marks : List Marks) (wish : UserWish) (read : Result UserInfo SessionFault) (user : UserInfo) (second : Result (Unit {0}) SessionFault)
    → Ok user ≡ begun_by (user_by marks wish read) second → IsSeated (seat_for marks wish user)
seated_by marks wish (Err fault) user second is = absurd cc
seated_by marks wish (Ok other) user second is =
    let seated = seated_with marks other user (seat_for marks wish other) second is in
    rw seated.1 seated.0

-- by its greeting
pub greeted_seated : (marks : List Marks) (wish : UserWish) (told : Option Talk) (user : UserInfo) → AnswersGreeting marks wish told None (Ok user)
    → IsSeated (seat_for marks wish user)
greeted_seated marks wish told user said =
    seated_by marks wish (said_in 0x10 user_of (reply_at 0x10 said.first)) user (said_in 0x2E no_more (reply_at 0x2E said.second)) said.is

-- a slot that was found can be picked
pub seated_pickable : (users slots : ℕ) (found : Slot) → users ≡ slots → IsWithin users found → IsSeated found → IsPickable slots found
seated_pickable users slots (slot.Old place) same within seated = rw same at within
seated_pickable users slots slot.New same within seated = rw same at within
seated_pickable users slots found same within seated = absurd seated

-- both sides met
pub met_seated : {L : Type 0} (talk : L → Option Talk) (since : L → L → Type 0) (fault : L → Option LinkFault) (downs : L → ℕ) (marks : List Marks) (wish : UserWish)
    (old : L) (met : Met L) → MeetsOrNot talk since fault downs marks wish old (Ok met) → IsSeated (seat_for marks wish met.linked.user)
met_seated talk since fault downs marks wish old met (inl meets) = greeted_seated marks wish (talk old) met.linked.user meets.user
met_seated talk since fault downs marks wish old met (inr none) = absurd none
