-- Inquiries are followed one part after the other.
use Rattle.std.proofs.Common.{◌≡◌, ◌∙◌, refl, sym, ap, subst, inl, inr, ℕ, List, [], ◌∷◌, ◌++◌, arith, rules}
use Rattle.std.specs.Prelude.{◌⊎◌, Option, Some, None, Result, Ok, Err, IsErrOf}
use Rattle.std.specs.Result.{result_err}
use Rattle.dlp_requests.specs.RequestTexts.{IsRequest, request_text}
use Rattle.dlp_requests.specs.RequestValues.{RequestValue}
use Rattle.dlp_replies.specs.declared.fault.ReplyFault.{ReplyFault}
use Rattle.dlp_replies.specs.ReplyReading.{reply_at}
use Rattle.dlp_replies.specs.ReplyValues.{ReplyValue}
use Rattle.dlp_commands.specs.declared.link.Link.{Ghosts}
use Rattle.dlp_commands.specs.declared.link.LinkFault.{LinkFault}
use Rattle.dlp_commands.specs.declared.link.LinkFault.TheVariants.{Down, NoMemory}
use Rattle.dlp_commands.specs.DeviceSteps.{function_number}
use Rattle.dlp_commands.specs.Links.{WentDown, first_fault}
use Rattle.dlp_commands.specs.Tries.{Answered, Try, Unanswered, tries_of}
use Rattle.desktop_session.specs.declared.fault.SessionFault.{SessionFault}
use Rattle.desktop_session.specs.declared.fault.SessionFault.TheVariants as session
use Rattle.desktop_session.specs.Answers.{answer_by, mapped}
use Rattle.desktop_session.specs.Faults.{fault_of}
use Rattle.desktop_session.specs.Following.{CutsOff, Follows, IsAnswerTo, Leads, OrNoMemory}
use Rattle.desktop_session.specs.Inquiries.{After, Asks, Ends, Inquiry, asks_read, asks_bytes, ◌>>=◌}
use Rattle.desktop_session.proofs.AskLaws.{fell_now}
use Rattle.desktop_session.proofs.StopLaws.{fell_none, fell_then}

-- ---- what is left of an inquiry

pub after_then : {A : Type 0} (whole : Inquiry A) (xs : List Try) (mid : Inquiry A) (ys : List Try) (left : Inquiry A) → After whole xs mid
    → After mid ys left → After whole (xs ++ ys) left
after_then {A} whole [] mid ys left first next = subst (λ (m : Inquiry A). After m ys left) first next
after_then (Ends answer) (one ∷ xs) mid ys left first next = absurd first
after_then (Asks request more) (Answered said reply ∷ xs) mid ys left first next = (first.0, after_then (more reply) xs mid ys left first.1 next)
after_then (Asks request more) (Unanswered said ∷ xs) mid ys left first next = (first.0, after_then (Asks request more) xs mid ys left first.1 next)

pub after_bind : {A B : Type 0} (part : Inquiry A) (next : A → Inquiry B) (xs : List Try) (left : Inquiry A) → After part xs left
    → After (part >>= next) xs (left >>= next)
unfolding ◌>>=◌
after_bind {A} part next [] left after = ap (λ (p : Inquiry A). p >>= next) after
after_bind (Ends answer) next (one ∷ xs) left after = absurd after
after_bind (Asks request more) next (Answered said reply ∷ xs) left after = (after.0, after_bind (more reply) next xs left after.1)
after_bind (Asks request more) next (Unanswered said ∷ xs) left after = (after.0, after_bind (Asks request more) next xs left after.1)

-- a part that ends with an answer leads on, and one that ends for a cause ends the whole
ends_ok : {A B : Type 0} (left : Inquiry A) (next : A → Inquiry B) (x : A) → left ≡ Ends (Ok x) → left >>= next ≡ next x
unfolding ◌>>=◌
ends_ok {A} left next x is = ap (λ (p : Inquiry A). p >>= next) is

ends_err : {A B : Type 0} (left : Inquiry A) (next : A → Inquiry B) (cause : SessionFault) → left ≡ Ends (Err cause) → left >>= next ≡ Ends (Err cause)
unfolding ◌>>=◌
ends_err {A} left next cause is = ap (λ (p : Inquiry A). p >>= next) is

-- ---- what was followed so far

-- what was heard so far leads from the whole inquiry to this rest of it, and the link has no fault
pub record Reaches {L A : Type 0} (link : Ghosts L) (whole rest : Inquiry A) (old now : L) : Type 0 where
  pub tries : List Try
  pub heard : link.heard old tries now
  pub leads : link.fault old ≡ None → After whole tries rest × (link.fault now ≡ None)
  pub fell : WentDown (link.fault old) (link.downs old) (link.downs now) (link.fault now ≡ Some Down)

module _ {L : Type 0} {link : Ghosts L} (heard_none : (a : L) → link.heard a [] a) where
  pub reaches_none : {A : Type 0} (whole : Inquiry A) (a : L) → Reaches link whole whole a a
  reaches_none whole a = record {
    tries = [];
    heard = heard_none a;
    leads = λ fine. (refl, fine);
    fell = fell_none link.fault link.downs a;
  }

module _ {L : Type 0} {link : Ghosts L} where
  -- all was followed
  pub follows_done : {A : Type 0} {whole : Inquiry A} {answer : Result A SessionFault} {old new : L} → Reaches link whole (Ends answer) old new
      → Follows link whole old new answer
  follows_done {answer} {new} all = record {
    tries = all.tries;
    heard = all.heard;
    leads = λ fine. record { left = Ends answer; after = (all.leads fine).0; stands = inl (refl, (all.leads fine).1) };
    fell = all.fell;
  }

  -- memory ran out on the way
  pub follows_lost : {A : Type 0} {whole rest : Inquiry A} {old new : L} → Reaches link whole rest old new
      → Follows link whole old new (Err session.NoMemory)
  follows_lost {rest} all = record {
    tries = all.tries;
    heard = all.heard;
    leads = λ fine. record { left = rest; after = (all.leads fine).0; stands = inr tt };
    fell = all.fell;
  }

  module _ (heard_more : (a b c : L) (first next : List Try) → link.heard a first b → link.heard b next c → link.heard a (first ++ next) c) where
    -- a part was answered, and the rest goes on by its answer
    pub reaches_then : {A B : Type 0} {part : Inquiry A} (next : A → Inquiry B) {whole : Inquiry B} {x : A} {old mid new : L}
        → Reaches link whole (part >>= next) old mid → Follows link part mid new (Ok x) → Reaches link whole (next x) old new
    reaches_then {A} {B} {part} next {whole} {x} {old} {mid} {new} before goes = record {
      tries = before.tries ++ goes.tries;
      heard = heard_more old mid new before.tries goes.tries before.heard goes.heard;
      leads = λ fine. step (before.leads fine).0 (goes.leads (before.leads fine).1);
      fell = fell_then before.fell goes.fell;
    }
      where
        step : After whole before.tries (part >>= next) → Leads part goes.tries (link.fault new) (Ok x)
            → After whole (before.tries ++ goes.tries) (next x) × (link.fault new ≡ None)
        step first leads = by leads.stands
          where
            by : IsAnswerTo leads.left (link.fault new) (Ok x) → After whole (before.tries ++ goes.tries) (next x) × (link.fault new ≡ None)
            by (inl (is, none)) = (
              after_then whole before.tries (part >>= next) goes.tries (next x) first
                  (subst (λ (left : Inquiry B). After (part >>= next) goes.tries left) (ends_ok leads.left next x is)
                  (after_bind part next goes.tries leads.left leads.after)),
              none,
            )
            by (inr cut) = absurd cut

    -- the rest was followed
    pub follows_then : {A : Type 0} {whole rest : Inquiry A} {answer : Result A SessionFault} {old mid new : L}
        → Reaches link whole rest old mid → Follows link rest mid new answer → Follows link whole old new answer
    follows_then {A} {whole} {rest} {answer} {old} {mid} {new} before goes = record {
      tries = before.tries ++ goes.tries;
      heard = heard_more old mid new before.tries goes.tries before.heard goes.heard;
      leads = λ fine. step (before.leads fine).0 (goes.leads (before.leads fine).1);
      fell = fell_then before.fell goes.fell;
    }
      where
        step : After whole before.tries rest → Leads rest goes.tries (link.fault new) answer
            → Leads whole (before.tries ++ goes.tries) (link.fault new) answer
        step first leads = record {
          left = leads.left;
          after = after_then whole before.tries rest goes.tries leads.left first leads.after;
          stands = leads.stands;
        }

    -- a part ended for a cause, and so all did
    pub follows_ended : {A B : Type 0} {part : Inquiry A} (next : A → Inquiry B) {whole : Inquiry B} {cause : SessionFault} {old mid new : L}
        → Reaches link whole (part >>= next) old mid → Follows link part mid new (Err cause) → Follows link whole old new (Err cause)
    follows_ended {A} {B} {part} next {whole} {cause} {old} {mid} {new} before goes = record {
      tries = before.tries ++ goes.tries;
      heard = heard_more old mid new before.tries goes.tries before.heard goes.heard;
      leads = λ fine. step (before.leads fine).0 (goes.leads (before.leads fine).1);
      fell = fell_then before.fell goes.fell;
    }
      where
        step : After whole before.tries (part >>= next) → Leads part goes.tries (link.fault new) (Err cause)
            → Leads whole (before.tries ++ goes.tries) (link.fault new) (Err cause)
        step first leads = record {
          left = leads.left >>= next;
          after = after_then whole before.tries (part >>= next) goes.tries (leads.left >>= next) first
              (after_bind part next goes.tries leads.left leads.after);
          stands = by leads.stands;
        }
          where
            by : IsAnswerTo leads.left (link.fault new) (Err cause) → IsAnswerTo (leads.left >>= next) (link.fault new) (Err cause)
            by (inl (is, none)) = inl (ends_err leads.left next cause is, none)
            by (inr cut) = inr cut

-- ---- one exchange

-- a cause of the link's
pub cut_by : (fault : LinkFault) (now : Option LinkFault) → now ≡ Some fault → CutsOff now (fault_of fault)
cut_by Down now is = is
cut_by NoMemory now is = tt

no_first : {A : Type 0} (before now : Option LinkFault) (r : Result A LinkFault) → before ≡ None → now ≡ first_fault before (result_err r) → now ≡ result_err r
no_first None now r none first = first
no_first (Some fault) now r none first = absurd cc

module _ {L : Type 0} {link : Ghosts L} where
  -- the wake came, and nothing was said
  pub reaches_woken : {A T : Type 0} (whole : Inquiry A) (x : T) {old new : L} → link.heard old [] new
      → link.fault new ≡ first_fault (link.fault old) (result_err {T = T} (Ok x))
      → WentDown (link.fault old) (link.downs old) (link.downs new) (IsErrOf {T = T} (Ok x) Down) → Reaches link whole whole old new
  reaches_woken {T = T} whole x {old} {new} heard first went = record {
    tries = [];
    heard = heard;
    leads = λ fine. (refl, no_first {A = T} (link.fault old) (link.fault new) (Ok x) fine first);
    fell = fell_now (Ok x) first went;
  }

  pub follows_unwoken : {A T : Type 0} (whole : Inquiry A) (fault : LinkFault) {old new : L} → link.heard old [] new
      → link.fault new ≡ first_fault (link.fault old) (result_err {T = T} (Err fault))
      → WentDown (link.fault old) (link.downs old) (link.downs new) (IsErrOf {T = T} (Err fault) Down)
      → Follows link whole old new (Err (fault_of fault))
  follows_unwoken {T = T} whole fault {old} {new} heard first went = record {
    tries = [];
    heard = heard;
    leads = λ fine. record {
      left = whole;
      after = refl;
      stands = inr (cut_by fault (link.fault new) (no_first {A = T} (link.fault old) (link.fault new) (Err fault) fine first));
    };
    fell = fell_now (Err fault) first went;
  }

  -- a request was answered
  pub follows_answered : (value : RequestValue) {request : List ℕ} (answer : List ℕ) {was old new : L} → IsRequest value → was ≡ old
      → request ≡ request_text value → link.heard was (tries_of (link.fault was) request answer (Ok tt)) new → link.fault new ≡ first_fault (link.fault was) None
      → WentDown (link.fault was) (link.downs was) (link.downs new) (IsErrOf {T = Unit {0}} (Ok tt) Down)
      → Follows link (asks_bytes value) old new (Ok answer)
  follows_answered value {request} answer {was} {old} {new} fits same is heard first went =
      subst (λ (l : L). Follows link (asks_bytes value) l new (Ok answer)) same (record {
        tries = tries_of (link.fault was) request answer (Ok tt);
        heard = heard;
        leads = λ fine. record {
          left = Ends (Ok answer);
          after = subst (λ (f : Option LinkFault). After (asks_bytes value) (tries_of f request answer (Ok tt)) (Ends (Ok answer))) (sym fine)
              (record { fits = fits; is = is }, refl);
          stands = inl (refl, no_first {A = Unit {0}} (link.fault was) (link.fault new) (Ok tt) fine first);
        };
        fell = fell_now {T = Unit {0}} (Ok tt) first went;
      })

  -- it was left without an answer
  pub follows_left : (value : RequestValue) {request : List ℕ} (answer : List ℕ) (fault : LinkFault) {was old new : L} → IsRequest value → was ≡ old
      → request ≡ request_text value → link.heard was (tries_of (link.fault was) request answer (Err fault)) new
      → link.fault new ≡ first_fault (link.fault was) (Some fault)
      → WentDown (link.fault was) (link.downs was) (link.downs new) (IsErrOf {T = Unit {0}} (Err fault) Down)
      → Follows link (asks_bytes value) old new (Err (fault_of fault))
  follows_left value {request} answer fault {was} {old} {new} fits same is heard first went =
      subst (λ (l : L). Follows link (asks_bytes value) l new (Err (fault_of fault))) same (record {
        tries = tries_of (link.fault was) request answer (Err fault);
        heard = heard;
        leads = λ fine. record {
          left = asks_bytes value;
          after = subst (λ (f : Option LinkFault). After (asks_bytes value) (tries_of f request answer (Err fault)) (asks_bytes value)) (sym fine)
              (record { fits = fits; is = is }, refl);
          stands = inr (cut_by fault (link.fault new) (no_first {A = Unit {0}} (link.fault was) (link.fault new) (Err fault) fine first));
        };
        fell = fell_now {T = Unit {0}} (Err fault) first went;
      })

-- ---- what is made of one reply

said_ok : {A : Type 0} (fault : Option LinkFault) (said answer : Result A SessionFault) (done : Unit {0})
    → ◌≡◌ {A = Result (Unit {0}) SessionFault} (Ok done) (answer_by fault (Ok tt)) → answer ≡ answer_by fault said → answer ≡ said
said_ok None said answer done is same = same
said_ok (Some fault) said answer done is same = absurd cc

said_err : {A : Type 0} (fault : Option LinkFault) (said answer : Result A SessionFault) (cause : SessionFault)
    → ◌≡◌ {A = Result (Unit {0}) SessionFault} (Err cause) (answer_by fault (Ok tt)) → answer ≡ answer_by fault said → answer ≡ Err cause
said_err None said answer cause is same = absurd cc
said_err (Some fault) said answer cause is same = cc

abbrev made : {A : Type 0} → RequestValue → (Result ReplyValue ReplyFault → Result A SessionFault) → List ℕ → Inquiry A
made request read = λ reply. Ends (read (reply_at (function_number request) reply))

-- the whole is the bytes, and what is made of them
by_bytes : {A : Type 0} (request : RequestValue) (read : Result ReplyValue ReplyFault → Result A SessionFault)
    → asks_bytes request >>= made request read ≡ asks_read request read
unfolding ◌>>=◌
by_bytes request read = refl

-- the request as it is named
pub follows_as : {L : Type 0} {link : Ghosts L} {value request : RequestValue} {old new : L} {r : Result (List ℕ) SessionFault} → value ≡ request
    → Follows link (asks_bytes value) old new r → Follows link (asks_bytes request) old new r
follows_as {link} {old} {new} {r} same goes = subst (λ (v : RequestValue). Follows link (asks_bytes v) old new r) same goes

module _ {L A : Type 0} {link : Ghosts L} (heard_none : (a : L) → link.heard a [] a)
    (heard_more : (a b c : L) (first next : List Try) → link.heard a first b → link.heard b next c → link.heard a (first ++ next) c)
    (request : RequestValue) (read : Result ReplyValue ReplyFault → Result A SessionFault) where
  begun : (old : L) → Reaches link (asks_read request read) (asks_bytes request >>= made request read) old old
  begun old = subst (λ (rest : Inquiry A). Reaches link (asks_read request read) rest old old) (sym (by_bytes request read))
      (reaches_none heard_none (asks_read request read) old)

  pub follows_read : {reply : List ℕ} {answer : Result A SessionFault} {old new : L} → Follows link (asks_bytes request) old new (Ok reply)
      → OrNoMemory (read (reply_at (function_number request) reply)) answer → Follows link (asks_read request read) old new answer
  follows_read {old} {new} goes (inl same) =
      subst (λ (r : Result A SessionFault). Follows link (asks_read request read) old new r) (sym same)
      (follows_done (reaches_then heard_more (made request read) (begun old) goes))
  follows_read {old} {new} goes (inr lost) =
      subst (λ (r : Result A SessionFault). Follows link (asks_read request read) old new r) (sym lost)
      (follows_lost (reaches_then heard_more (made request read) (begun old) goes))

  pub follows_by : {reply bytes : List ℕ} {answer : Result A SessionFault} {old new : L} → Follows link (asks_bytes request) old new (Ok reply)
      → bytes ≡ reply → answer ≡ read (reply_at (function_number request) bytes) → Follows link (asks_read request read) old new answer
  follows_by goes same is = follows_read goes (inl (is ∙ ap (λ (b : List ℕ). read (reply_at (function_number request) b)) same))

  pub follows_unread : {cause : SessionFault} {old new : L} → Follows link (asks_bytes request) old new (Err cause)
      → Follows link (asks_read request read) old new (Err cause)
  follows_unread {old} goes = follows_ended heard_more (made request read) (begun old) goes

  -- whatever the exchange was, the call's answer is the link's fault, or what is made of the reply
  pub follows_call : (reply : List ℕ) (answer : Result A SessionFault) (asked : Result (Unit {0}) SessionFault) {old new : L}
      → Follows link (asks_bytes request) old new (mapped (λ done. reply) asked) → asked ≡ answer_by (link.fault new) (Ok tt)
      → answer ≡ answer_by (link.fault new) (read (reply_at (function_number request) reply)) → Follows link (asks_read request read) old new answer
  follows_call reply answer (Ok done) {old} {new} goes is said =
      follows_read goes (inl (said_ok (link.fault new) (read (reply_at (function_number request) reply)) answer done is said))
  follows_call reply answer (Err cause) {old} {new} goes is said =
      subst (λ (r : Result A SessionFault). Follows link (asks_read request read) old new r)
      (sym (said_err (link.fault new) (read (reply_at (function_number request) reply)) answer cause is said)) (follows_unread goes)
