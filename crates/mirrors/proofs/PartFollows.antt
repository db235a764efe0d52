-- Inquiries of two parts are followed, and those of a loop.
use Rattle.std.proofs.Common.{◌≡◌, ◌<◌, ◌≤◌, ◌+◌, ◌++◌, refl, sym, subst, ℕ, zero, suc, List, [], ◌∷◌, length, drop, get_or, arith}
use Rattle.std.specs.Prelude.{Result, Ok, Err}
use Rattle.dlp_commands.specs.declared.link.Link.{Ghosts}
use Rattle.dlp_commands.specs.Tries.{Try}
use Rattle.desktop_session.specs.declared.fault.SessionFault.{SessionFault}
use Rattle.desktop_session.specs.declared.fault.SessionFault.TheVariants as session
use Rattle.desktop_session.specs.Answers.{mapped}
use Rattle.desktop_session.specs.Following.{Follows}
use Rattle.desktop_session.specs.Inquiries.{Ends, Inquiry, ◌>>=◌}
use Rattle.desktop_session.proofs.FollowLaws.{Reaches, follows_done, follows_ended, follows_lost, follows_then, reaches_none, reaches_then}

-- what is left of a list whose next item is this
pub next_left : {A : Type 0} (xs : List A) (k : ℕ) (x : A) → k < length xs → x ≡ get_or xs k x → drop k xs ≡ x ∷ drop (k + 1) xs
next_left [] k x below is = absurd (omega arith)
next_left (y ∷ ys) zero x below is = cc
next_left (y ∷ ys) (suc k) x below is =
    let rest = next_left ys k x (omega arith) is in
    let one : suc k + 1 ≡ suc (k + 1) = omega arith in
    cc

-- all of it is left at first, and nothing in the end
pub left_all : {A : Type 0} (xs : List A) → drop 0 xs ≡ xs
left_all [] = refl
left_all (x ∷ xs) = refl

pub none_after : {A : Type 0} (xs : List A) (k : ℕ) → length xs ≤ k → drop k xs ≡ []
none_after [] zero all = refl
none_after [] (suc k) all = refl
none_after (x ∷ xs) zero all = absurd (omega arith)
none_after (x ∷ xs) (suc k) all = none_after xs k (omega arith)

-- ---- an inquiry that needs nothing

module _ {L A : Type 0} {link : Ghosts L} (heard_none : (a : L) → link.heard a [] a) where
  pub follows_none : {asked : Inquiry A} (answer : Result A SessionFault) (old : L) → asked ≡ Ends answer → Follows link asked old old answer
  follows_none answer old is =
      subst (λ (asked : Inquiry A). Follows link asked old old answer) (sym is) (follows_done (reaches_none heard_none (Ends answer) old))

  -- memory ran out before anything was asked
  pub lost_first : (asked : Inquiry A) (old : L) → Follows link asked old old (Err session.NoMemory)
  lost_first asked old = follows_lost (reaches_none heard_none asked old)

-- ---- two parts

module _ {L A B : Type 0} {link : Ghosts L} (heard_none : (a : L) → link.heard a [] a)
    (heard_more : (a b c : L) (first next : List Try) → link.heard a first b → link.heard b next c → link.heard a (first ++ next) c)
    {part : Inquiry A} (next : A → Inquiry B) where
  pub then_goes : {x : A} {answer : Result B SessionFault} {old mid new : L} → Follows link part old mid (Ok x) → Follows link (next x) mid new answer
      → Follows link (part >>= next) old new answer
  then_goes {old} first rest = follows_then heard_more (reaches_then heard_more next (reaches_none heard_none (part >>= next) old) first) rest

  pub then_ends : {cause : SessionFault} {old new : L} → Follows link part old new (Err cause) → Follows link (part >>= next) old new (Err cause)
  then_ends {old} first = follows_ended heard_more next (reaches_none heard_none (part >>= next) old) first

  pub then_lost : {x : A} {old new : L} → Follows link part old new (Ok x) → Follows link (part >>= next) old new (Err session.NoMemory)
  then_lost {old} first = follows_lost (reaches_then heard_more next (reaches_none heard_none (part >>= next) old) first)

-- what is made of a part's answer
pub then_made : {L A B : Type 0} {link : Ghosts L} (heard_none : (a : L) → link.heard a [] a)
    (heard_more : (a b c : L) (first next : List Try) → link.heard a first b → link.heard b next c → link.heard a (first ++ next) c)
    (make : A → B) {part : Inquiry A} (answer : Result A SessionFault) {old new : L} → Follows link part old new answer
    → Follows link (part >>= (λ x. Ends (Ok (make x)))) old new (mapped make answer)
then_made heard_none heard_more make (Ok x) goes =
    then_goes heard_none heard_more (λ x. Ends (Ok (make x))) goes (follows_none heard_none (Ok (make x)) _ refl)
then_made heard_none heard_more make (Err cause) goes = then_ends heard_none heard_more (λ x. Ends (Ok (make x))) goes

-- ---- a loop, of which this is left

pub loop_begins : {L A : Type 0} {link : Ghosts L} (heard_none : (a : L) → link.heard a [] a) {whole rest : Inquiry A} (old : L) → rest ≡ whole
    → Reaches link whole rest old old
loop_begins {A} {link} heard_none {whole} old is =
    subst (λ (asked : Inquiry A). Reaches link whole asked old old) (sym is) (reaches_none heard_none whole old)

begins_so : {L A : Type 0} {link : Ghosts L} {whole rest again : Inquiry A} {old mid : L} → rest ≡ again → Reaches link whole rest old mid
    → Reaches link whole again old mid
begins_so {A} {link} {whole} {old} {mid} is before = subst (λ (asked : Inquiry A). Reaches link whole asked old mid) is before

module _ {L A B : Type 0} {link : Ghosts L}
    (heard_more : (a b c : L) (first next : List Try) → link.heard a first b → link.heard b next c → link.heard a (first ++ next) c)
    (next : B → Inquiry A) {whole rest : Inquiry A} {part : Inquiry B} {old mid new : L} (is : rest ≡ part >>= next)
    (before : Reaches link whole rest old mid) where
  pub loop_on : {x : B} → Follows link part mid new (Ok x) → Reaches link whole (next x) old new
  loop_on goes = reaches_then heard_more next (begins_so is before) goes

  pub loop_stop : {cause : SessionFault} → Follows link part mid new (Err cause) → Follows link whole old new (Err cause)
  loop_stop goes = follows_ended heard_more next (begins_so is before) goes

  pub loop_lost : {x : B} → Follows link part mid new (Ok x) → Follows link whole old new (Err session.NoMemory)
  loop_lost goes = follows_lost (reaches_then heard_more next (begins_so is before) goes)

pub loop_done : {L A : Type 0} {link : Ghosts L} {whole rest : Inquiry A} {answer : Result A SessionFault} {old new : L} → rest ≡ Ends answer
    → Reaches link whole rest old new → Follows link whole old new answer
loop_done {A} {link} {whole} {old} {new} is before =
    follows_done (subst (λ (asked : Inquiry A). Reaches link whole asked old new) is before)
