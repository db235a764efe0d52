-- What is asked for each of several is followed, one after the other.
use Rattle.std.proofs.Common.{◌≡◌, ◌<◌, ◌≤◌, ◌+◌, ◌++◌, ℕ, List, [], ◌∷◌, drop, get_or, length, refl}
use Rattle.std.specs.Prelude.{Result, Ok, Err}
use Rattle.dlp_commands.specs.declared.link.Link.{Ghosts}
use Rattle.dlp_commands.specs.Tries.{Try}
use Rattle.desktop_session.specs.declared.fault.SessionFault.{SessionFault}
use Rattle.desktop_session.specs.declared.fault.SessionFault.TheVariants as session
use Rattle.desktop_session.specs.Following.{Follows}
use Rattle.desktop_session.specs.Inquiries.{Ends, Inquiry, ◌>>=◌}
use Rattle.desktop_session.proofs.FollowLaws.{Reaches}
use Rattle.mirrors.proofs.PartFollows.{left_all, loop_begins, loop_done, loop_lost, loop_on, loop_stop, next_left, none_after}
use Rattle.session_parts.specs.Inquiries.{each}

module _ {J A : Type 0} (ask : J → Inquiry A) where
  each-next : (answers : List A) {job : J} {left more : List J} → left ≡ job ∷ more
      → each ask answers left ≡ ask job >>= (λ answer. each ask (answers ++ answer ∷ []) more)
  unfolding each
  each-next answers is = rw is refl

  each-end : (answers : List A) {left : List J} → left ≡ [] → each ask answers left ≡ Ends (Ok answers)
  unfolding each
  each-end answers none = rw none refl

-- what is asked behind the answer to one
abbrev rest : {J A : Type 0} → (J → Inquiry A) → List J → ℕ → List A → A → Inquiry (List A)
rest ask jobs k answers answer = each ask (answers ++ answer ∷ []) (drop (k + 1) jobs)

-- of so many of them these are the answers
pub record EachAsked {L J A : Type 0} (link : Ghosts L) (ask : J → Inquiry A) (jobs : List J) (k : ℕ) (answers : List A) (old now : L) : Type 0 where
  pub reaches : Reaches link (each ask [] jobs) (each ask answers (drop k jobs)) old now

pub asked_none : {L J A : Type 0} {link : Ghosts L} {ask : J → Inquiry A} {jobs : List J} (heard_none : (a : L) → link.heard a [] a) {answers : List A} {old : L}
    → answers ≡ [] → EachAsked link ask jobs 0 answers old old
asked_none {jobs = jobs} heard_none {old = old} none = record { reaches = loop_begins heard_none old (rw (none, left_all jobs) refl) }

pub asked_all : {L J A : Type 0} {link : Ghosts L} {ask : J → Inquiry A} {jobs : List J} {k : ℕ} {answers : List A} {old now : L} → length jobs ≤ k
    → EachAsked link ask jobs k answers old now → Follows link (each ask [] jobs) old now (Ok answers)
asked_all {ask = ask} {jobs} {k} {answers} all before = loop_done (each-end ask answers (none_after jobs k all)) before.reaches

module _ {L J A : Type 0} {link : Ghosts L} {ask : J → Inquiry A} {jobs : List J} {k : ℕ} {job : J}
    (heard_more : (a b c : L) (first next : List Try) → link.heard a first b → link.heard b next c → link.heard a (first ++ next) c)
    (below : k < length jobs) (is : job ≡ get_or jobs k job) {answers : List A} {old now new : L} (before : EachAsked link ask jobs k answers old now) where
  pub asked_next : {x : A} {more : List A} → more ≡ answers ++ x ∷ [] → Follows link (ask job) now new (Ok x) → EachAsked link ask jobs (k + 1) more old new
  asked_next grown goes = rw grown (record {
    reaches = loop_on heard_more (rest ask jobs k answers) (each-next ask answers (next_left jobs k job below is)) before.reaches goes;
  })

  pub asked_stop : {cause : SessionFault} → Follows link (ask job) now new (Err cause) → Follows link (each ask [] jobs) old new (Err cause)
  asked_stop goes = loop_stop heard_more (rest ask jobs k answers) (each-next ask answers (next_left jobs k job below is)) before.reaches goes

  -- memory ran out behind it
  pub asked_lost : {x : A} → Follows link (ask job) now new (Ok x) → Follows link (each ask [] jobs) old new (Err session.NoMemory)
  asked_lost goes = loop_lost heard_more (rest ask jobs k answers) (each-next ask answers (next_left jobs k job below is)) before.reaches goes
