-- What a world tells of acts that went out and were answered, and what is left of both sides by them.
use Rattle.std.proofs.Common.{◌≡◌, ◌∙◌, ◌+◌, ◌≤◌, ap, append_assoc, refl, sym, subst, arith, ℕ, zero, suc, List, [], ◌∷◌, ◌++◌, drop, length, take}
use Rattle.std.specs.Prelude.{Option, Some, None, filter, map, slice_get, unwrap_or}
use Rattle.std.specs.List.{AllByRecursion, flat_map}
use Rattle.std.specs.Option.{option_to_list}
use Rattle.std.proofs.lemmas.List.{length-append, length-take, length-take-le, take-append-drop, take-append-le, take_all}
use Rattle.std.proofs.lemmas.List.Elements.{filter-append}
use Rattle.std.proofs.Math.Seq.{take-append_seam}
use Rattle.hs_folders.specs.FileMaps.{FileMap}
use Rattle.hs_folders.specs.Moments.{Moments}
use Rattle.palm_device.specs.Devices.{Device}
use Rattle.dlp_commands.specs.Changes.{changes, given_in}
use Rattle.dlp_commands.specs.DeviceRuns.{Exchange, exchanged}
use Rattle.dlp_commands.specs.Talks.{Talk, issued}
use Rattle.desktop_session.specs.Acts.{Act, acted, text}
use Rattle.desktop_session.specs.Says.{Begins, IsPrefix, answered, grown, said, said_one, saying, sent}
use Rattle.desktop_session.specs.Stops.{Does}
use Rattle.desktop_session.specs.Tellings.{device_after, exchanges}
use Rattle.desktop_session.proofs.TellLaws.{said_device, said_exchanges}
use Rattle.line_world.specs.Logs.{LogValue, no_log}
use Rattle.line_world.specs.Worlds.{IsLog, WorldSince, WorldValue, world_talk}
use Rattle.call_parts.proofs.FrontLaws.{get-none, issued_none, take-none, world_issued}

-- ---- a world's talk

get-past : (xs : List (List ℕ)) (n : ℕ) → slice_get xs n ≡ None → length xs ≤ n
get-past [] n none = omega arith
get-past (x ∷ xs) zero none = cc
get-past (x ∷ xs) (suc n) none = let past = get-past xs n none in omega (arith, past)

pub said_left : (acts : List Act) (talk : Talk) → talk.left ≡ None → (said acts talk).left ≡ None
said_left [] talk none = none
said_left (act ∷ acts) talk none = said_left acts (said_one act talk) refl

pub same_some : {A : Type 0} {a b : A} → Some a ≡ Some b → a ≡ b
same_some {a} same = ap (λ (o : Option _). unwrap_or o a) same

-- what a fresh world tells
fresh_issued : {F : Type 0} (old : WorldValue F) → old.log ≡ no_log → issued (world_talk old) ≡ []
fresh_issued old silent =
    ap (λ (log : LogValue). map (λ (exchange : Exchange). exchange.request)
    (exchanged (take old.answered log.issued) (take old.answered log.replies)) ++ option_to_list (slice_get log.issued old.answered)) silent
    ∙ issued_none old.answered

fresh_exchanges : {F : Type 0} (old : WorldValue F) → old.log ≡ no_log → (world_talk old).exchanges ≡ []
fresh_exchanges old silent =
    ap (λ (log : LogValue). exchanged (take old.answered log.issued) (take old.answered log.replies)) silent
    ∙ ap (λ (l : List (List ℕ)). exchanged l (take old.answered [])) (take-none old.answered)

-- these acts went out over a fresh world, and each was answered
pub record ToldAll {F : Type 0} (acts : List Act) (old new : WorldValue F) : Type 0 where
  pub device : new.server.device ≡ device_after acts old.server.device
  pub issued_are : issued (world_talk new) ≡ map text acts
  pub exchanges_are : (world_talk new).exchanges ≡ exchanges acts old.server.device
  pub none_left : slice_get new.log.issued new.answered ≡ None

pub told_all : {F : Type 0} {acts : List Act} {old new : WorldValue F} → old.log ≡ no_log
    → Does (λ (world : WorldValue F). Some (world_talk world)) acts old new → ToldAll acts old new
unfolding saying sent grown
told_all {acts} {old} {new} silent does =
    grind (
      arith,
      same_some does.said,
      get-none old.answered,
      said_device acts (world_talk old),
      same_some {a = issued (world_talk new)} {b = map text acts},
      fresh_issued old silent,
      said_exchanges acts (world_talk old),
      fresh_exchanges old silent,
      said_left acts (world_talk old),
    )

-- the same by the log, which a world keeps in order
pub record LoggedAll {F : Type 0} (acts : List Act) (old new : WorldValue F) : Type 0 where
  pub device : new.server.device ≡ device_after acts old.server.device
  pub issued_are : new.log.issued ≡ map text acts
  pub performed_are : new.log.performed ≡ map text acts
  pub exchanges_are : exchanged new.log.performed new.log.replies ≡ exchanges acts old.server.device

pub logged_all : {F : Type 0} {acts : List Act} {old new : WorldValue F} → old.log ≡ no_log → IsLog new.log new.answered
    → Does (λ (world : WorldValue F). Some (world_talk world)) acts old new → LoggedAll acts old new
logged_all {new} silent is does =
    grind (
      arith,
      told_all silent does,
      length new.log.issued,
      get-past new.log.issued new.answered (told_all silent does).none_left,
      length new.log.replies,
      world_issued new is,
      take_all (length new.log.replies) new.log.issued
          (omega (arith, (get-past new.log.issued new.answered (told_all silent does).none_left), is.replied)),
      take_all new.answered new.log.issued (get-past new.log.issued new.answered (told_all silent does).none_left),
      take new.answered new.log.issued,
      take_all new.answered new.log.replies (omega (arith, (get-past new.log.issued new.answered (told_all silent does).none_left), is.performed_few)),
    )

-- so nothing waits for an answer
pub all_answered : {F : Type 0} {acts : List Act} {old new : WorldValue F} → old.log ≡ no_log → IsLog new.log new.answered
    → Does (λ (world : WorldValue F). Some (world_talk world)) acts old new → length new.log.issued ≡ new.answered
all_answered {new} silent is does = grind (arith, get-past new.log.issued new.answered (told_all silent does).none_left)

-- ---- counts of writes

pub count-append : (xs ys : List (List ℕ)) → length (filter changes (xs ++ ys)) ≡ length (filter changes xs) + length (filter changes ys)
count-append xs ys = ap length (filter-append changes xs ys) ∙ length-append (filter changes xs) (filter changes ys)

-- a beginning has no more of them
pub prefix-count : {xs ys : List (List ℕ)} → IsPrefix xs ys → length (filter changes xs) ≤ length (filter changes ys)
prefix-count {xs} {ys} prefix =
    grind (arith, length (filter changes ys), length (filter changes xs), length (filter changes prefix.rest), count-append xs prefix.rest)

take-prefix : (n : ℕ) {xs ys : List (List ℕ)} → IsPrefix xs ys → IsPrefix (take n xs) ys
take-prefix n {xs} prefix = grind (arith, drop n xs, append_assoc (take n xs) (drop n xs) prefix.rest, take-append-drop n xs)

-- what was performed begins what was issued
pub performed-prefix : {log : LogValue} {n : ℕ} {whole : List (List ℕ)} → IsLog log n → IsPrefix log.issued whole → IsPrefix log.performed whole
performed-prefix {log} is prefix = grind (arith, take-prefix (length log.replies) prefix)

-- ---- exchanges in a row

pub exchanged-length : (xs ys : List (List ℕ)) → length (exchanged xs ys) ≤ length ys
exchanged-length [] ys = omega arith
exchanged-length (x ∷ xs) [] = omega arith
exchanged-length (x ∷ xs) (y ∷ ys) = let rest = exchanged-length xs ys in omega (arith, rest)

-- the replies of exchanges begin the replies that they were made of
exchanged-replies : (xs ys : List (List ℕ)) → IsPrefix (map (λ (e : Exchange). e.reply) (exchanged xs ys)) ys
exchanged-replies [] ys = record { rest = ys; is = refl }
exchanged-replies (x ∷ xs) [] = record { rest = []; is = refl }
exchanged-replies (x ∷ xs) (y ∷ ys) = grind (arith, exchanged-replies xs ys)

pub exchanged-append : (xs ys zs ws : List (List ℕ)) → length xs ≡ length zs → exchanged (xs ++ ys) (zs ++ ws) ≡ exchanged xs zs ++ exchanged ys ws
exchanged-append [] ys [] ws same = refl
exchanged-append [] ys (z ∷ zs) ws same = absurd (omega (arith, same))
exchanged-append (x ∷ xs) ys [] ws same = absurd (omega (arith, same))
exchanged-append (x ∷ xs) ys (z ∷ zs) ws same = grind (arith, exchanged-append xs ys zs ws (omega (arith, same)))

pub acts-count : (acts : List Act) (device : Device) → length (exchanges acts device) ≡ length (map text acts)
acts-count [] device = refl
acts-count (act ∷ acts) device = ap (λ (n : ℕ). suc n) (acts-count acts (acted act device).1)

replies-count : (acts : List Act) (device : Device) → length (map (λ (e : Exchange). e.reply) (exchanges acts device)) ≡ length (map text acts)
replies-count [] device = refl
replies-count (act ∷ acts) device = ap (λ (n : ℕ). suc n) (replies-count acts (acted act device).1)

acts-exchanged : (acts : List Act) (device : Device)
    → exchanged (map text acts) (map (λ (e : Exchange). e.reply) (exchanges acts device)) ≡ exchanges acts device
acts-exchanged [] device = refl
acts-exchanged (act ∷ acts) device = grind (arith, acts-exchanged acts (acted act device).1)

pub none-given : (xs ys : List (List ℕ)) → AllByRecursion (λ (request : List ℕ). (reply : List ℕ) → given_in request reply ≡ []) xs
    → flat_map (λ (e : Exchange). given_in e.request e.reply) (exchanged xs ys) ≡ []
none-given [] ys none = refl
none-given (x ∷ xs) [] none = refl
none-given (x ∷ xs) (y ∷ ys) none = grind (arith, none-given xs ys none.1)

pub none-front : (xs ys : List (List ℕ)) → AllByRecursion (λ (request : List ℕ). (reply : List ℕ) → given_in request reply ≡ []) (xs ++ ys)
    → AllByRecursion (λ (request : List ℕ). (reply : List ℕ) → given_in request reply ≡ []) xs
none-front [] ys none = tt
none-front (x ∷ xs) ys none = (none.0, none-front xs ys none.1)

-- two lists that begin one list: the shorter one begins the longer one
same-front : (xs ys zs ws : List (List ℕ)) → xs ++ ys ≡ zs ++ ws → length xs ≤ length zs → IsPrefix xs zs
same-front xs ys zs ws same few =
    let first : take (length xs) (xs ++ ys) ≡ take (length xs) (zs ++ ws) = ap (λ (l : List (List ℕ)). take (length xs) l) same in
    let own = take-append_seam xs ys in
    let other = take-append-le (length xs) zs ws few in
    record { rest = drop (length xs) zs; is = ap (λ (l : List (List ℕ)). l ++ drop (length xs) zs) (sym own ∙ first ∙ other) ∙ take-append-drop (length xs) zs }

-- ---- all of these acts were answered at some time, and then more was said

pub record BeganWith (acts : List Act) (after : List (List ℕ)) (device : Device) (log : LogValue) : Type 0 where
  pub issued_begins : IsPrefix log.issued (map text acts ++ after)
  pub rest : List (List ℕ)
  pub performed_are : log.performed ≡ map text acts ++ rest
  pub rest_begins : IsPrefix rest after
  pub replies : List (List ℕ)
  pub exchanges_are : exchanged log.performed log.replies ≡ exchanges acts device ++ exchanged rest replies

pub began_with : {F : Type 0} {contents : F → Option FileMap} {moments : F → Moments} {paths : F → Option (List (List ℕ))} {faults : F → ℕ} {acts : List Act}
    (after : List (List ℕ)) (old : WorldValue F) {between : WorldValue F} (new : WorldValue F)
    → old.log ≡ no_log → IsLog new.log new.answered → Does (λ (world : WorldValue F). Some (world_talk world)) acts old between
    → WorldSince contents moments paths faults between new → Begins (sent (Some (world_talk new))) (grown (sent (Some (world_talk between))) after)
    → answered (Some (world_talk between)) ≤ answered (Some (world_talk new)) → BeganWith acts after old.server.device new.log
unfolding Begins sent grown answered
began_with {acts} after old {between} new silent is does since begins kept =
    let told = told_all silent does in
    let device = old.server.device in
    let said_first = map text acts in
    let issued_begins : IsPrefix new.log.issued (said_first ++ after) =
    subst (λ (l : List (List ℕ)). IsPrefix l (said_first ++ after)) (world_issued new is)
    (subst (λ (l : List (List ℕ)). IsPrefix (issued (world_talk new)) (l ++ after)) told.issued_are begins) in
    let count : length (world_talk between).exchanges ≡ length said_first = ap length told.exchanges_are ∙ acts-count acts device in
    let few = exchanged-length (take new.answered new.log.issued) (take new.answered new.log.replies) in
    let cut = length-take new.answered new.log.replies in
    let many : length said_first ≤ length new.log.replies = omega (arith, count, kept, few, cut) in
    let performed_few : length new.log.performed ≡ length new.log.replies = ap length is.performed_is
    ∙ length-take-le (length new.log.replies) new.log.issued is.performed_few in
    let performed_begins = performed-prefix is issued_begins in
    let first = same-front said_first after new.log.performed performed_begins.rest (sym performed_begins.is) (omega (arith, many, performed_few)) in
    let own = map (λ (e : Exchange). e.reply) (exchanges acts device) in
    let own_count = replies-count acts device in
    let cut_begins : IsPrefix own (take between.answered between.log.replies) =
    subst (λ (es : List Exchange). IsPrefix (map (λ (e : Exchange). e.reply) es) (take between.answered between.log.replies)) told.exchanges_are
    (exchanged-replies (take between.answered between.log.issued) (take between.answered between.log.replies)) in
    let between_begins : own ++ (cut_begins.rest ++ drop between.answered between.log.replies) ≡ between.log.replies =
    sym (append_assoc own cut_begins.rest (drop between.answered between.log.replies))
    ∙ ap (λ (l : List (List ℕ)). l ++ drop between.answered between.log.replies) cut_begins.is ∙ take-append-drop between.answered between.log.replies in
    let later = map (λ (e : Exchange). e.reply) since.exchanges in
    let all_replies : new.log.replies ≡ own ++ ((cut_begins.rest ++ drop between.answered between.log.replies) ++ later) =
    since.replies_are ∙ ap (λ (l : List (List ℕ)). l ++ later) (sym between_begins)
    ∙ append_assoc own (cut_begins.rest ++ drop between.answered between.log.replies) later in
    record {
      issued_begins = issued_begins;
      rest = first.rest;
      performed_are = sym first.is;
      rest_begins = record {
        rest = performed_begins.rest;
        is = same_behind said_first (first.rest ++ performed_begins.rest) after
            (sym (append_assoc said_first first.rest performed_begins.rest) ∙ ap (λ (l : List (List ℕ)). l ++ performed_begins.rest) first.is
            ∙ performed_begins.is);
      };
      replies = (cut_begins.rest ++ drop between.answered between.log.replies) ++ later;
      exchanges_are = ap (λ (l : List (List ℕ)). exchanged l new.log.replies) (sym first.is)
          ∙ ap (λ (l : List (List ℕ)). exchanged (said_first ++ first.rest) l) all_replies
          ∙ exchanged-append said_first first.rest own ((cut_begins.rest ++ drop between.answered between.log.replies) ++ later) (sym own_count)
          ∙ ap (λ (es : List Exchange). es ++ exchanged first.rest ((cut_begins.rest ++ drop between.answered between.log.replies) ++ later))
          (acts-exchanged acts device);
    }
  where
    same_behind : (xs ys zs : List (List ℕ)) → xs ++ ys ≡ xs ++ zs → ys ≡ zs
    same_behind [] ys zs same = same
    same_behind (x ∷ xs) ys zs same = same_behind xs ys zs (ap (λ (l : List (List ℕ)). drop 1 l) same)

-- what begins a beginning
pub prefix-on : {xs ys zs : List (List ℕ)} → IsPrefix xs ys → IsPrefix ys zs → IsPrefix xs zs
prefix-on {xs} first second = record {
  rest = first.rest ++ second.rest;
  is = sym (append_assoc xs first.rest second.rest) ∙ ap (λ (l : List (List ℕ)). l ++ second.rest) first.is ∙ second.is;
}
