-- Puts and purges grow by one.
use Rattle.std.proofs.Common.{◌≡◌, ◌∙◌, ◌≤◌, ◌<◌, ◌+◌, refl, ap, sym, subst, ℕ, zero, suc, List, [], ◌∷◌, ◌++◌, length, map}
use Rattle.std.proofs.Common.{drop, take, get_or, append_assoc, arith, rules}
use Rattle.std.proofs.lemmas.List.{map-append}
use Rattle.std.specs.Prelude.{◌⊎◌, Option, Some, None, IfErr, IfOk, IfSome, OnOk, Result, Ok, Err}
use Rattle.pdb_values.specs.Contents.{ContentValue}
use Rattle.palm_device.specs.Devices.{Device}
use Rattle.dlp_replies.specs.ReplyReading.{reply_at}
use Rattle.dlp_replies.specs.ReplyValues.{ReplyValue}
use Rattle.dlp_replies.specs.declared.fault.ReplyFault.{ReplyFault}
use Rattle.dlp_commands.specs.declared.link.LinkFault.{LinkFault}
use Rattle.dlp_commands.specs.Talks.{Talk}
use Rattle.desktop_session.specs.declared.fault.SessionFault.{SessionFault}
use Rattle.desktop_session.specs.Acts.{Act, acted, text}
use Rattle.desktop_session.specs.Answers.{answer_by, said_in}
use Rattle.desktop_session.specs.Lists.{HasCause}
use Rattle.desktop_session.specs.Puts.{IsGiven, Puts}
use Rattle.desktop_session.specs.Requests.{cleaning, putting, removing, resetting}
use Rattle.desktop_session.specs.Says.{said, saying}
use Rattle.desktop_session.specs.Sessions.{SessionValue}
use Rattle.desktop_session.specs.Stops.{AsksOne}
use Rattle.desktop_session.specs.Tellings.{device_after}
use Rattle.desktop_session.proofs.TellLaws.{said_device}
use Rattle.mirrors.specs.Asks.{Asks}
use Rattle.mirrors.specs.News.{AreFreeFor, AreIdsOf, PutsAll, as_new, purge_writes, puts}
use Rattle.mirrors.proofs.AskLaws.{SoFar, all_said, asked_answer, asked_part, asks_part, asks_then, none_said, one_said, said_all, said_on, said_part}
use Rattle.mirrors.proofs.EntryLaws.{cause_by}
use Rattle.std.proofs.lemmas.Grind.{common_steps}
use Rattle.std.proofs.lemmas.Bool.Decides.{nat_tests}
use Rattle.desktop_session.proofs.GrowLaws.{take_whole}

-- ---- lists of puts

puts-split : (handle : ℕ) (es fs : List (ℕ × ContentValue)) (gs hs : List ℕ) → AreIdsOf es gs
    → puts handle (gs ++ hs) (es ++ fs) ≡ puts handle gs es ++ puts handle hs fs
unfolding puts
puts-split handle [] fs [] hs ids = refl
puts-split handle (e ∷ es) fs (g ∷ gs) hs ids = cc (puts-split handle es fs gs hs ids.1)
puts-split handle es fs gs hs ids = absurd ids

-- the ids that new records get stand in no request
puts-text : (handle : ℕ) (es : List (ℕ × ContentValue)) (gs : List ℕ) → map text (puts handle gs es) ≡ map text (puts handle [] es)
unfolding puts text
puts-text handle (e ∷ es) (g ∷ gs) = cc (puts-text handle es gs)
puts-text handle es gs = refl

puts-append : (handle : ℕ) (es fs : List (ℕ × ContentValue)) → puts handle [] (es ++ fs) ≡ puts handle [] es ++ puts handle [] fs
unfolding puts
puts-append handle [] fs = refl
puts-append handle (e ∷ es) fs = cc (puts-append handle es fs)

pub puts-nil : (handle : ℕ) (gs : List ℕ) → puts handle gs [] ≡ []
unfolding puts
puts-nil handle gs = refl

puts-one : (handle g : ℕ) (e : ℕ × ContentValue) → puts handle (g ∷ []) (e ∷ []) ≡ putting g handle e.0 e.1 ∷ []
unfolding puts
puts-one handle g e = refl

puts-begin : (handle g : ℕ) (e : ℕ × ContentValue) (fs : List (ℕ × ContentValue))
    → map text (putting g handle e.0 e.1 ∷ puts handle [] fs) ≡ map text (puts handle [] (e ∷ fs))
unfolding puts text
puts-begin handle g e fs = refl

-- ---- ids

ids-append : (es fs : List (ℕ × ContentValue)) (gs hs : List ℕ) → AreIdsOf es gs → AreIdsOf fs hs → AreIdsOf (es ++ fs) (gs ++ hs)
ids-append [] fs [] hs ids more = more
ids-append (e ∷ es) fs (g ∷ gs) hs ids more = (ids.0, ids-append es fs gs hs ids.1 more)
ids-append es fs gs hs ids more = absurd ids

free-append : (handle : ℕ) (es fs : List (ℕ × ContentValue)) (gs hs : List ℕ) (device : Device) → AreIdsOf es gs → AreFreeFor handle es gs device
    → AreFreeFor handle fs hs (device_after (puts handle gs es) device) → AreFreeFor handle (es ++ fs) (gs ++ hs) device
unfolding puts
free-append handle [] fs [] hs device ids free more = more
free-append handle (e ∷ es) fs (g ∷ gs) hs device ids free more =
    (free.0, free-append handle es fs gs hs (acted (putting g handle e.0 e.1) device).1 ids.1 free.1 more)
free-append handle es fs gs hs device ids free more = absurd ids

drop-ids : (es : List (ℕ × ContentValue)) (gs hs : List ℕ) → AreIdsOf es gs → drop (length es) (gs ++ hs) ≡ hs
drop-ids [] [] hs ids = refl
drop-ids (e ∷ es) (g ∷ gs) hs ids = drop-ids es gs hs ids.1
drop-ids es gs hs ids = absurd ids

-- ---- what was put so far

pub record PutsSoFar {L : Type 0} (talk : L → Option Talk) (since : L → L → Type 0) (fault : L → Option LinkFault) (downs : L → ℕ) (handle : ℕ)
    (entries : List (ℕ × ContentValue)) (given : List ℕ) (old now : SessionValue L) : Type 0 where
  pub said : SoFar talk since fault downs (puts handle given entries) old now
  pub ids : AreIdsOf entries given
  pub free : IfSome (talk old.link) (λ talk. AreFreeFor handle entries given talk.device)

-- the same, under some ids
pub record PutsSome {L : Type 0} (talk : L → Option Talk) (since : L → L → Type 0) (fault : L → Option LinkFault) (downs : L → ℕ) (handle : ℕ)
    (entries : List (ℕ × ContentValue)) (old now : SessionValue L) : Type 0 where
  pub given : List ℕ
  pub puts : PutsSoFar talk since fault downs handle entries given old now

pub free_none : (o : Option Talk) (handle : ℕ) → IfSome o (λ talk. AreFreeFor handle [] [] talk.device)
free_none None handle = tt
free_none (Some talk) handle = tt

pub puts_none : {L : Type 0} (talk : L → Option Talk) {since : L → L → Type 0} (fault : L → Option LinkFault) (downs : L → ℕ) (itself : (a : L) → since a a)
    (handle : ℕ) (old : SessionValue L)
    → PutsSoFar talk since fault downs handle [] [] old old
puts_none talk fault downs itself handle old = search (rules, puts-nil, none_said, free_none)

-- at the device after what was said
free_then : {now : Option Talk} (first : Option Talk) (handle : ℕ) (es fs : List (ℕ × ContentValue)) (gs hs : List ℕ) → now ≡ saying (puts handle gs es) first
    → AreIdsOf es gs → IfSome first (λ talk. AreFreeFor handle es gs talk.device) → IfSome now (λ talk. AreFreeFor handle fs hs talk.device)
    → IfSome first (λ talk. AreFreeFor handle (es ++ fs) (gs ++ hs) talk.device)
unfolding saying
free_then first handle es fs gs hs is ids free more = search (rules, free-append, said_device)

one_free : (o : Option Talk) (handle g : ℕ) (e : ℕ × ContentValue) → IsGiven g handle e.0 o
    → IfSome o (λ talk. AreFreeFor handle (e ∷ []) (g ∷ []) talk.device)
one_free o handle g e free = search (rules)

texts-split : (handle : ℕ) (es fs : List (ℕ × ContentValue)) (gs : List ℕ) (acts : List Act) → map text acts ≡ map text (puts handle [] fs)
    → map text (puts handle gs es ++ acts) ≡ map text (puts handle [] (es ++ fs))
texts-split handle es fs gs acts same = grind (arith, common_steps, nat_tests, map-append, puts-text, puts-append)

-- the ids of the new records stand behind those of the others
pub new_ids : (es : List (ℕ × ContentValue)) {hs ids : List ℕ} (gs : List ℕ) → AreIdsOf es gs → ids ≡ hs → ids ≡ drop (length es) (gs ++ hs)
new_ids es {hs} gs are is = cc (drop-ids es gs hs are)

pub record SplitAt {A : Type 0} (xs : List A) (k : ℕ) (x : A) : Type 0 where
  pub rest : List A
  pub is : take k xs ++ x ∷ rest ≡ xs
  pub next : take (k + 1) xs ≡ take k xs ++ x ∷ []

pub split_at : {A : Type 0} (xs : List A) (k : ℕ) (x : A) → k < length xs → x ≡ get_or xs k x → SplitAt xs k x
split_at [] k x below is = absurd (omega arith)
split_at (y ∷ ys) zero x below is = record { rest = ys; is = cc; next = cc }
split_at (y ∷ ys) (suc k) x below is =
    let more = split_at ys k x (omega arith) is in
    let one : suc k + 1 ≡ suc (k + 1) = omega arith in
    record {
      rest = more.rest;
      is = cc;
      next = cc;
    }

pub take_none : {A : Type 0} (xs : List A) → take 0 xs ≡ []
take_none [] = refl
take_none (x ∷ xs) = refl

pub last_cause : {A : Type 0} (function : ℕ) (P Q : SessionFault → Type 0) (take : ReplyValue → A) (fault : Option LinkFault) (read : Result ReplyValue ReplyFault)
    (answer : Result A SessionFault) → answer ≡ answer_by fault (said_in function take read)
    → IfErr answer (λ cause. P cause ⊎ (Q cause ⊎ HasCause fault read cause))
last_cause function P Q take fault read answer is = search (rules, cause_by)

module _ {L : Type 0} {talk : L → Option Talk} {since : L → L → Type 0} {fault : L → Option LinkFault} {downs : L → ℕ} {old : SessionValue L} where
  -- a stretch of puts behind another
  pub puts_then : {A : Type 0} (since_more : (a b c : L) → since a b → since b c → since a c) {handle : ℕ} {es fs : List (ℕ × ContentValue)} {gs : List ℕ}
      {says new_says : List ℕ → A → Type 0} {now new : SessionValue L} {answer : Result A SessionFault}
      → ((hs : List ℕ) (x : A) → says hs x → new_says (gs ++ hs) x) → PutsSoFar talk since fault downs handle es gs old now
      → PutsAll talk since fault downs handle fs says now new answer → PutsAll talk since fault downs handle (es ++ fs) new_says old new answer
  puts_then {A} since_more {handle} {es} {fs} {gs} {says} {new_says} {now} {new} {answer} each before rest = record {
    given = gs ++ rest.given;
    asks = rw (puts-split handle es fs gs rest.given before.ids)
        (asks_then talk since fault downs since_more (puts handle gs es) (puts handle rest.given fs) old now new answer before.said rest.asks);
    ids = both answer rest.ids;
    free = free answer rest.free;
    said = says_more answer rest.said;
    cause = rest.cause;
  }
    where
      both : (answer : Result A SessionFault) → OnOk answer (AreIdsOf fs rest.given) → OnOk answer (AreIdsOf (es ++ fs) (gs ++ rest.given))
      both (Ok x) ids = ids-append es fs gs rest.given before.ids ids
      both (Err cause) ids = tt

      free : (answer : Result A SessionFault) → OnOk answer (IfSome (talk now.link) (λ talk. AreFreeFor handle fs rest.given talk.device))
          → OnOk answer (IfSome (talk old.link) (λ talk. AreFreeFor handle (es ++ fs) (gs ++ rest.given) talk.device))
      free (Ok x) more = free_then (talk old.link) handle es fs gs rest.given before.said.does.said before.ids before.free more
      free (Err cause) more = tt

      says_more : (answer : Result A SessionFault) → IfOk answer (says rest.given) → IfOk answer (new_says (gs ++ rest.given))
      says_more (Ok x) holds = each rest.given x holds
      says_more (Err cause) holds = tt

  -- ---- one put

  -- that was answered
  pub put_on : (since_more : (a b c : L) → since a b → since b c → since a c) {handle : ℕ} {es : List (ℕ × ContentValue)} {gs : List ℕ} (e : ℕ × ContentValue)
      {now new : SessionValue L} {told : Result ℕ SessionFault}
      → fault new.link ≡ None → PutsSoFar talk since fault downs handle es gs old now → (put : Puts talk since fault downs handle e.0 e.1 now new told)
      → PutsSoFar talk since fault downs handle (es ++ e ∷ []) (gs ++ put.given ∷ []) old new
  put_on since_more {handle} {es} {gs} e {now} {new} none before put = record {
    said = rw (puts-split handle es (e ∷ []) gs (put.given ∷ []) before.ids ∙ ap (λ acts. puts handle gs es ++ acts) (puts-one handle put.given e))
        (said_on since_more none before.said put.asked);
    ids = ids-append es (e ∷ []) gs (put.given ∷ []) before.ids (put.old_id, tt);
    free = free_then (talk old.link) handle es (e ∷ []) gs (put.given ∷ []) before.said.does.said before.ids before.free
        (one_free (talk now.link) handle put.given e (put.free none));
  }

  -- a refusal of requests is one of all that have their texts
  same_refusal : {A : Type 0} {xs ys : List Act} {new : SessionValue L} {cause : SessionFault} → map text xs ≡ map text ys
      → Asks {A = A} talk since fault downs xs old new (Err cause) → Asks {A = A} talk since fault downs ys old new (Err cause)
  same_refusal same asks = search (rules)

  refused_puts : {A : Type 0} {handle : ℕ} {all : List (ℕ × ContentValue)} {acts : List Act} {says : List ℕ → A → Type 0} {new : SessionValue L}
      {cause : SessionFault}
      → map text acts ≡ map text (puts handle [] all) → Asks {A = A} talk since fault downs acts old new (Err cause)
      → HasCause (fault new.link) (reply_at 0x21 new.reply) cause → PutsAll talk since fault downs handle all says old new (Err cause)
  refused_puts same asks shown = search (rules, same_refusal)

  -- that was refused
  pub put_stop : {A : Type 0} (since_more : (a b c : L) → since a b → since b c → since a c) {handle : ℕ} {es : List (ℕ × ContentValue)}
      (fs : List (ℕ × ContentValue)) {gs : List ℕ} (e : ℕ × ContentValue) (says : List ℕ → A → Type 0) {now new : SessionValue L}
      {told : Result ℕ SessionFault} (cause : SessionFault)
      → PutsSoFar talk since fault downs handle es gs old now → Puts talk since fault downs handle e.0 e.1 now new told
      → HasCause (fault new.link) (reply_at 0x21 new.reply) cause → PutsAll talk since fault downs handle (es ++ e ∷ fs) says old new (Err cause)
  put_stop since_more {handle} {es} fs {gs} e says {now} {new} cause before put shown =
      refused_puts
      (texts-split handle es (e ∷ fs) gs (putting put.given handle e.0 e.1 ∷ puts handle [] fs) (puts-begin handle put.given e fs))
      (asks_then talk since fault downs since_more (puts handle gs es) (putting put.given handle e.0 e.1 ∷ puts handle [] fs) old now new
      (Err cause) before.said
      (asked_part talk since fault downs (putting put.given handle e.0 e.1) (puts handle [] fs) now new cause put.asked))
      shown

  -- after which no more was put
  pub put_part : {A : Type 0} {handle : ℕ} {es : List (ℕ × ContentValue)} (fs : List (ℕ × ContentValue)) {gs : List ℕ} (says : List ℕ → A → Type 0)
      {new : SessionValue L} (cause : SessionFault)
      → PutsSoFar talk since fault downs handle es gs old new → HasCause (fault new.link) (reply_at 0x21 new.reply) cause
      → PutsAll talk since fault downs handle (es ++ fs) says old new (Err cause)
  put_part {handle} {es} fs {gs} says cause before shown =
      refused_puts
      (texts-split handle es fs gs (puts handle [] fs) refl)
      (said_part (puts handle [] fs) cause before.said) shown

  pub puts_stop : {A B : Type 0} {handle : ℕ} {es : List (ℕ × ContentValue)} (fs : List (ℕ × ContentValue)) {says : List ℕ → A → Type 0}
      {new_says : List ℕ → B → Type 0} {new : SessionValue L} {cause : SessionFault}
      → PutsAll talk since fault downs handle es says old new (Err cause) → PutsAll talk since fault downs handle (es ++ fs) new_says old new (Err cause)
  puts_stop {handle} {es} fs {new} {cause} first =
      refused_puts
      (texts-split handle es fs first.given (puts handle [] fs) refl)
      (asks_part talk since fault downs (puts handle first.given es) (puts handle [] fs) old new cause cause first.asks) first.cause

  -- all was put
  pub puts_done : {A : Type 0} {handle : ℕ} {es : List (ℕ × ContentValue)} {gs : List ℕ} {says : List ℕ → A → Type 0} {answer : A} {new : SessionValue L}
      → PutsSoFar talk since fault downs handle es gs old new → says gs answer → PutsAll talk since fault downs handle es says old new (Ok answer)
  puts_done all holds = search (rules, said_all)

  -- so far, all was put
  pub puts_of : {A : Type 0} {handle : ℕ} {es : List (ℕ × ContentValue)} {says : List ℕ → A → Type 0} {answer : A} {new : SessionValue L}
      → (puts : PutsAll talk since fault downs handle es says old new (Ok answer)) → PutsSoFar talk since fault downs handle es puts.given old new
  puts_of puts = search (rules, all_said)

  -- ---- purges

  pub remove_none : (itself : (a : L) → since a a) (handle : ℕ) (ids : List ℕ) → SoFar talk since fault downs (map (removing handle) (take 0 ids)) old old
  remove_none itself handle ids = search (rules, take_none, none_said)

  pub remove_on : (since_more : (a b c : L) → since a b → since b c → since a c) {handle here k id : ℕ} {ids : List ℕ} {now new : SessionValue L}
      → here ≡ handle → SplitAt ids k id → fault new.link ≡ None → SoFar talk since fault downs (map (removing handle) (take k ids)) old now
      → AsksOne talk since fault downs (removing here id) now new → SoFar talk since fault downs (map (removing handle) (take (k + 1) ids)) old new
  remove_on since_more {handle} {k} {id} {ids} {now} {new} is split none before asked =
      rw (ap (map (removing handle)) split.next ∙ map-append (removing handle) (take k ids) (id ∷ [])) (said_on since_more none before
      (rw (← is) asked))

  pub remove_stop : {A : Type 0} (since_more : (a b c : L) → since a b → since b c → since a c) {handle here k id : ℕ} {ids : List ℕ}
      {now new : SessionValue L} (cause : SessionFault)
      → here ≡ handle → SplitAt ids k id → SoFar talk since fault downs (map (removing handle) (take k ids)) old now
      → AsksOne talk since fault downs (removing here id) now new → Asks {A = A} talk since fault downs (map (removing handle) ids) old new (Err cause)
  remove_stop {A} since_more {handle} {k} {id} {ids} {now} {new} cause is split before asked =
      let all : map (removing handle) (take k ids) ++ removing handle id ∷ map (removing handle) split.rest ≡ map (removing handle) ids =
      cc (map-append (removing handle) (take k ids) (id ∷ split.rest)) in
      rw (← all) (asks_then talk since fault downs since_more (map (removing handle) (take k ids))
      (removing handle id ∷ map (removing handle) split.rest) old now new
      (Err cause) before
      (asked_part talk since fault downs (removing handle id) (map (removing handle) split.rest) now new cause
      (rw (← is) asked)))

  pub remove_done : {A : Type 0} (handle k : ℕ) (ids : List ℕ) {new : SessionValue L} {answer : A} → length ids ≤ k
      → SoFar talk since fault downs (map (removing handle) (take k ids)) old new → Asks talk since fault downs (map (removing handle) ids) old new (Ok answer)
  remove_done handle k ids all before = search (rules, said_all, take_whole)

  -- ---- puts of a list

  pub some_none : (itself : (a : L) → since a a) {handle : ℕ} (es : List (ℕ × ContentValue)) → PutsSome talk since fault downs handle (take 0 es) old old
  some_none itself {handle} es = record {
    given = [];
    puts = rw (take_none es) (puts_none talk fault downs itself handle old);
  }

  pub some_on : (since_more : (a b c : L) → since a b → since b c → since a c) {handle here k : ℕ} {e : ℕ × ContentValue} {es : List (ℕ × ContentValue)}
      {now new : SessionValue L} {told : Result ℕ SessionFault}
      → here ≡ handle → SplitAt es k e → fault new.link ≡ None → PutsSome talk since fault downs handle (take k es) old now
      → Puts talk since fault downs here e.0 e.1 now new told → PutsSome talk since fault downs handle (take (k + 1) es) old new
  some_on since_more {handle} {e} {now} {new} {told} is split none before put =
      let same : Puts talk since fault downs handle e.0 e.1 now new told = rw (← is) put in
      record {
        given = before.given ++ same.given ∷ [];
        puts = rw split.next (put_on since_more e none before.puts same);
      }

  pub some_stop : {A : Type 0} (since_more : (a b c : L) → since a b → since b c → since a c) {handle here k : ℕ} {e : ℕ × ContentValue}
      {es : List (ℕ × ContentValue)} (says : List ℕ → A → Type 0) {now new : SessionValue L} {told : Result ℕ SessionFault} (cause : SessionFault)
      → here ≡ handle → SplitAt es k e → PutsSome talk since fault downs handle (take k es) old now → Puts talk since fault downs here e.0 e.1 now new told
      → HasCause (fault new.link) (reply_at 0x21 new.reply) cause → PutsAll talk since fault downs handle es says old new (Err cause)
  some_stop since_more {handle} {e} says {now} {new} {told} cause is split before put shown =
      rw split.is at (put_stop since_more split.rest e says cause before.puts
      (rw is at put) shown)

  pub some_done : {A : Type 0} {handle : ℕ} (k : ℕ) {es : List (ℕ × ContentValue)} {says : List ℕ → A → Type 0} {answer : A} {new : SessionValue L}
      → length es ≤ k → ((gs : List ℕ) → says gs answer) → PutsSome talk since fault downs handle (take k es) old new
      → PutsAll talk since fault downs handle es says old new (Ok answer)
  some_done k all each before = search (rules, puts_done, take_whole)

  -- ---- new records

  pub new_none : (itself : (a : L) → since a a) {handle : ℕ} (cs : List ContentValue) {ids : List ℕ} → ids ≡ []
      → PutsSoFar talk since fault downs handle (as_new (take 0 cs)) ids old old
  new_none itself {handle} cs none =
      subst (λ xs. PutsSoFar talk since fault downs handle (as_new (take 0 cs)) xs old old) (sym none)
      (subst (λ xs. PutsSoFar talk since fault downs handle (as_new xs) [] old old) (sym (take_none cs)) (puts_none talk fault downs itself handle old))

  pub new_on : (since_more : (a b c : L) → since a b → since b c → since a c) {handle here k id answer : ℕ} {content : ContentValue} {cs : List ContentValue}
      {ids : List ℕ} (more : List ℕ) {now new : SessionValue L}
      → here ≡ handle → id ≡ 0 → SplitAt cs k content → fault new.link ≡ None → PutsSoFar talk since fault downs handle (as_new (take k cs)) ids old now
      → Puts talk since fault downs here id content now new (Ok answer) → more ≡ ids ++ answer ∷ []
      → PutsSoFar talk since fault downs handle (as_new (take (k + 1) cs)) more old new
  new_on since_more {handle} {k} {id} {answer} {content} {cs} {ids} more {now} {new} is zero_id split none before put grown =
      let here_put : Puts talk since fault downs handle id content now new (Ok answer) =
      subst (λ h. Puts talk since fault downs h id content now new (Ok answer)) is put in
      let same : Puts talk since fault downs handle 0 content now new (Ok answer) =
      subst (λ i. Puts talk since fault downs handle i content now new (Ok answer)) zero_id here_put in
      let entries : as_new (take (k + 1) cs) ≡ as_new (take k cs) ++ (0, content) ∷ [] =
      ap as_new split.next ∙ map-append (λ (c : ContentValue). (0, c)) (take k cs) (content ∷ []) in
      subst (λ xs. PutsSoFar talk since fault downs handle (as_new (take (k + 1) cs)) xs old new) (sym (grown ∙ ap (λ g. ids ++ g ∷ []) (same.new_id refl)))
      (subst (λ xs. PutsSoFar talk since fault downs handle xs (ids ++ same.given ∷ []) old new) (sym entries)
      (put_on since_more (0, content) none before same))

  pub new_stop : {A : Type 0} (since_more : (a b c : L) → since a b → since b c → since a c) {handle here k id : ℕ} {content : ContentValue}
      {cs : List ContentValue} {ids : List ℕ} (says : List ℕ → A → Type 0) {now new : SessionValue L} {told : Result ℕ SessionFault} (cause : SessionFault)
      → here ≡ handle → id ≡ 0 → SplitAt cs k content → PutsSoFar talk since fault downs handle (as_new (take k cs)) ids old now
      → Puts talk since fault downs here id content now new told → HasCause (fault new.link) (reply_at 0x21 new.reply) cause
      → PutsAll talk since fault downs handle (as_new cs) says old new (Err cause)
  new_stop since_more {handle} {k} {id} {content} {cs} says {now} {new} {told} cause is zero_id split before put shown =
      let here_put : Puts talk since fault downs handle id content now new told = subst (λ h. Puts talk since fault downs h id content now new told) is put in
      let entries : as_new (take k cs) ++ (0, content) ∷ as_new split.rest ≡ as_new cs =
      sym (map-append (λ (c : ContentValue). (0, c)) (take k cs) (content ∷ split.rest)) ∙ ap as_new split.is in
      subst (λ xs. PutsAll talk since fault downs handle xs says old new (Err cause)) entries
      (put_stop since_more (as_new split.rest) (0, content) says cause before
      (subst (λ i. Puts talk since fault downs handle i content now new told) zero_id here_put) shown)

  -- a put that was answered, and after which memory ran out
  pub new_part : {A : Type 0} {handle k : ℕ} {content : ContentValue} {cs : List ContentValue} {ids : List ℕ} (says : List ℕ → A → Type 0)
      {new : SessionValue L} (cause : SessionFault)
      → SplitAt cs k content → PutsSoFar talk since fault downs handle (as_new (take (k + 1) cs)) ids old new
      → HasCause (fault new.link) (reply_at 0x21 new.reply) cause → PutsAll talk since fault downs handle (as_new cs) says old new (Err cause)
  new_part {handle} {k} {content} {cs} says {new} cause split before shown =
      let all : take (k + 1) cs ++ split.rest ≡ cs = cc (append_assoc (take k cs) (content ∷ []) split.rest) in
      let entries : as_new (take (k + 1) cs) ++ as_new split.rest ≡ as_new cs =
      sym (map-append (λ (c : ContentValue). (0, c)) (take (k + 1) cs) split.rest) ∙ ap as_new all in
      subst (λ xs. PutsAll talk since fault downs handle xs says old new (Err cause)) entries
      (put_part (as_new split.rest) says cause before shown)

  -- ---- two stretches

  -- the replacements, and then the new records
  pub news_then : {A B : Type 0} (since_more : (a b c : L) → since a b → since b c → since a c) {handle here : ℕ} {es listed : List (ℕ × ContentValue)}
      {cs contents : List ContentValue} {first_says : List ℕ → B → Type 0} {says new_says : List ℕ → A → Type 0} {done : B} {now new : SessionValue L}
      {answer : Result A SessionFault}
      → here ≡ handle → listed ≡ es → contents ≡ cs → ((gs hs : List ℕ) (x : A) → AreIdsOf es gs → says hs x → new_says (gs ++ hs) x)
      → PutsAll talk since fault downs handle listed first_says old now (Ok done) → PutsAll talk since fault downs here (as_new contents) says now new answer
      → PutsAll talk since fault downs handle (es ++ as_new cs) new_says old new answer
  news_then since_more is same_es same_cs each first rest = search (rules, puts_of, puts_then)

  pub news_stop : {A B : Type 0} {handle : ℕ} {es listed : List (ℕ × ContentValue)} (fs : List (ℕ × ContentValue)) {says : List ℕ → A → Type 0}
      (new_says : List ℕ → B → Type 0) {new : SessionValue L} {cause : SessionFault}
      → listed ≡ es → PutsAll talk since fault downs handle listed says old new (Err cause)
      → PutsAll talk since fault downs handle (es ++ fs) new_says old new (Err cause)
  news_stop fs new_says same first = search (rules, puts_stop)

  -- the purges, and then the rest
  pub purged_stop : {A B : Type 0} (handle : ℕ) {ids listed : List ℕ} {new : SessionValue L} {cause : SessionFault} → listed ≡ ids
      → Asks {A = A} talk since fault downs (map (removing handle) listed) old new (Err cause)
      → Asks {A = B} talk since fault downs (purge_writes handle ids) old new (Err cause)
  purged_stop {A} handle {ids} {new} {cause} same asks =
      asks_part talk since fault downs (map (removing handle) ids) (cleaning handle ∷ resetting handle ∷ []) old new cause cause
      (rw same at asks)

  pub cleaned_stop : {A B : Type 0} (since_more : (a b c : L) → since a b → since b c → since a c) {handle here : ℕ} {ids listed : List ℕ} {done : A}
      {now new : SessionValue L} (cause : SessionFault)
      → here ≡ handle → listed ≡ ids → Asks talk since fault downs (map (removing handle) listed) old now (Ok done)
      → AsksOne talk since fault downs (cleaning here) now new → Asks {A = B} talk since fault downs (purge_writes handle ids) old new (Err cause)
  cleaned_stop since_more {handle} {ids} {listed} {done} {now} {new} cause is same asks asked =
      asks_then talk since fault downs since_more (map (removing handle) ids) (cleaning handle ∷ resetting handle ∷ []) old now new (Err cause)
      (rw (← same) (all_said talk since fault downs (map (removing handle) listed) old now done asks))
      (asked_part talk since fault downs (cleaning handle) (resetting handle ∷ []) now new cause
      (rw (← is) asked))

  pub purged : {A B : Type 0} (since_more : (a b c : L) → since a b → since b c → since a c) {handle here there : ℕ} {ids listed : List ℕ} {done : A}
      {now next new : SessionValue L} (said : Result B SessionFault) {answer : Result B SessionFault}
      → here ≡ handle → there ≡ here → listed ≡ ids → Asks talk since fault downs (map (removing handle) listed) old now (Ok done) → fault next.link ≡ None
      → AsksOne talk since fault downs (cleaning here) now next → answer ≡ answer_by (fault new.link) said
      → AsksOne talk since fault downs (resetting there) next new → Asks talk since fault downs (purge_writes handle ids) old new answer
  purged since_more {handle} {ids} {listed} {done} {now} {next} {new} said {answer} is then_is same asks none cleans answers resets =
      asks_then talk since fault downs since_more (map (removing handle) ids) (cleaning handle ∷ resetting handle ∷ []) old now new answer
      (rw (← same) (all_said talk since fault downs (map (removing handle) listed) old now done asks))
      (asks_then talk since fault downs since_more (cleaning handle ∷ []) (resetting handle ∷ []) now next new answer
      (one_said talk since fault downs (cleaning handle) now next none (rw (← is) cleans))
      (asked_answer talk since fault downs (resetting handle) next new said answer answers
      (rw (← then_is ∙ is) resets)))
