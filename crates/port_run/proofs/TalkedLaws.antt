-- What a link's talk tells of the acts that went out over it, and what the handheld made of them.
use Rattle.std.proofs.Common.{◌≡◌, ◌⊎◌, ◌≤◌, ℕ, List, [], ◌∷◌, ◌++◌, length, map, take, inl, inr, refl, sym, ap, subst, ◌∙◌, arith, append-nil}
use Rattle.std.specs.Prelude.{Option, Some, None, filter}
use Rattle.std.specs.List.{flat_map}
use Rattle.std.specs.Option.{option_to_list}
use Rattle.std.proofs.lemmas.List.{length-append, length-map, map-append}
use Rattle.std.proofs.Math.Seq.{take-append_seam}
use Rattle.palm_device.specs.Devices.{Device}
use Rattle.dlp_commands.specs.Changes.{changes, given_in}
use Rattle.dlp_commands.specs.DeviceRuns.{DeviceRun, Exchange, exchanged}
use Rattle.dlp_commands.specs.Talks.{Talk, asked, fresh, issued}
use Rattle.desktop_session.specs.Acts.{Act, text}
use Rattle.desktop_session.specs.Says.{Begins, IsPrefix, grown, said, saying, sent}
use Rattle.desktop_session.specs.Stops.{Does}
use Rattle.desktop_session.specs.Tellings.{device_after, exchanges}
use Rattle.desktop_session.proofs.TellLaws.{said_device, said_exchanges}
use Rattle.device_stream.specs.Hands.{Hand}
use Rattle.session_parts.specs.Fronts.{Front}
use Rattle.session_plan.specs.Tasks.{Meeting}
use Rattle.sync_session.specs.Fronts.{MeetingFront}
use Rattle.sync_session.specs.Sessions.{requests}
use Rattle.call_parts.specs.LineRuns.{write_count}
use Rattle.call_parts.proofs.FrontLaws.{exchanged-requests}
use Rattle.port_link.specs.Calls.{LinkValue}
use Rattle.port_link.specs.Standing.{exchanges_of, talk_of}
use Rattle.port_link.specs.Hands.{HandRan}
use Rattle.port_run.specs.Ends.{given_by}
use Rattle.call_parts.proofs.EndLaws.{said_left}
use Rattle.call_parts.proofs.EndLaws.{prefix-on}
use Rattle.port_laws.proofs.TakeLaws.{some_of}

-- ---- lists that begin others

pub prefix-same : {xs ys : List (List ℕ)} → xs ≡ ys → IsPrefix xs ys
prefix-same {xs} same = record { rest = []; is = append-nil xs ∙ same }

-- ---- what went out

-- where a link that told a fresh talk stopped within these requests, what it issued begins them
pub begins-fresh : (device : Device) (talk : Talk) (old new : LinkValue) (whole : List (List ℕ)) → talk_of old ≡ Some (fresh device)
    → talk_of new ≡ Some talk → Begins (sent (talk_of new)) (grown (sent (talk_of old)) whole) → IsPrefix (issued talk) whole
unfolding Begins sent grown
begins-fresh device talk old new whole was is begins =
    subst (λ (o : Option Talk). Begins (sent (Some talk)) (grown (sent o) whole)) was
    (subst (λ (o : Option Talk). Begins (sent o) (grown (sent (talk_of old)) whole)) is begins)

-- and where it told another talk they come behind what that one had issued
pub begins-behind : (first talk : Talk) (old new : LinkValue) (before whole : List (List ℕ)) → talk_of old ≡ Some first → issued first ≡ before
    → talk_of new ≡ Some talk → Begins (sent (talk_of new)) (grown (sent (talk_of old)) whole) → IsPrefix (issued talk) (before ++ whole)
unfolding Begins sent grown
begins-behind first talk old new before whole was all is begins =
    let told : IsPrefix (issued talk) (issued first ++ whole) = subst (λ (o : Option Talk). Begins (sent (Some talk)) (grown (sent o) whole)) was
    (subst (λ (o : Option Talk). Begins (sent o) (grown (sent (talk_of old)) whole)) is begins) in
    subst (λ (l : List (List ℕ)). IsPrefix (issued talk) (l ++ whole)) all told

-- these acts went out over a fresh talk, and each was answered
pub record ToldAll (acts : List Act) (device : Device) (talk : Talk) : Type 0 where
  pub device_is : talk.device ≡ device_after acts device
  pub issued_are : issued talk ≡ map text acts
  pub exchanges_are : talk.exchanges ≡ exchanges acts device
  pub none_left : talk.left ≡ None

-- so a link tells then
pub said_over : {acts : List Act} (device : Device) (old new : LinkValue) → talk_of old ≡ Some (fresh device) → Does talk_of acts old new
    → talk_of new ≡ Some (said acts (fresh device))
unfolding saying
said_over {acts} device old new was does = does.said ∙ ap (λ (o : Option Talk). saying acts o) was

pub told_all : {acts : List Act} (device : Device) (talk : Talk) (old new : LinkValue) → talk_of old ≡ Some (fresh device) → talk_of new ≡ Some talk
    → Does talk_of acts old new → ToldAll acts device talk
unfolding saying sent grown
told_all {acts} device talk old new was is does =
    let told : Some talk ≡ Some (said acts (fresh device)) = sym is ∙ does.said ∙ ap (λ (o : Option Talk). saying acts o) was in
    let same : talk ≡ said acts (fresh device) = some_of told in
    let out : Some (issued talk) ≡ Some (map text acts) = sym (ap (λ (o : Option Talk). sent o) is) ∙ does.sent
    ∙ ap (λ (o : Option Talk). grown (sent o) (map text acts)) was in
    record {
      device_is = ap (λ (t : Talk). t.device) same ∙ said_device acts (fresh device);
      issued_are = some_of out;
      exchanges_are = ap (λ (t : Talk). t.exchanges) same ∙ said_exchanges acts (fresh device);
      none_left = ap (λ (t : Talk). t.left) same ∙ said_left acts (fresh device) refl;
    }

-- ---- what was performed

-- exactly what was answered, or all that was issued
pub performed-of : {device : Device} {talk : Talk} {hand : Hand} → HandRan device talk hand
    → (hand.performed ≡ asked talk) ⊎ (hand.performed ≡ issued talk)
performed-of {device} {talk} {hand} ran =
    let own : map (λ (e : Exchange). e.request) (exchanges_of hand) ≡ hand.performed =
    exchanged-requests hand.performed hand.replies (omega (arith, ran.run.same)) in
    elim ran.once [
      | inl same ↦ inl (sym own ∙ ap (λ (es : List Exchange). map (λ (e : Exchange). e.request) es) same)
      | inr one ↦ inr (sym own ∙ ap (λ (es : List Exchange). map (λ (e : Exchange). e.request) es) one.more
          ∙ map-append (λ (e : Exchange). e.request) talk.exchanges (record { request = one.request; reply = one.reply } ∷ [])
          ∙ ap (λ (o : Option (List ℕ)). asked talk ++ option_to_list o) (sym one.left))
    ]

pub performed-begins : {device : Device} {talk : Talk} {hand : Hand} → HandRan device talk hand → IsPrefix hand.performed (issued talk)
performed-begins {device} {talk} {hand} ran = elim (performed-of ran) [
  | inl same ↦ record { rest = option_to_list talk.left; is = ap (λ (l : List (List ℕ)). l ++ option_to_list talk.left) same }
  | inr same ↦ prefix-same same
]

-- where nothing was left without an answer both are one
pub all-performed : {device : Device} {talk : Talk} {hand : Hand} → HandRan device talk hand → talk.left ≡ None → hand.performed ≡ issued talk
all-performed {device} {talk} {hand} ran none = elim (performed-of ran) [
  | inl same ↦ same ∙ sym (append-nil (asked talk)) ∙ ap (λ (o : Option (List ℕ)). asked talk ++ option_to_list o) (sym none)
  | inr same ↦ same
]

pub all-exchanged : {device : Device} {talk : Talk} {hand : Hand} → HandRan device talk hand → talk.left ≡ None → exchanges_of hand ≡ talk.exchanges
all-exchanged {device} {talk} {hand} ran none = elim ran.once [
  | inl same ↦ same
  | inr one ↦ let both : Some one.request ≡ None = sym one.left ∙ none in absurd cc
]

-- as many requests at least as were answered
pub performed-many : {device : Device} {talk : Talk} {hand : Hand} → HandRan device talk hand → length talk.exchanges ≤ length hand.performed
performed-many {device} {talk} {hand} ran =
    let count = length-map talk.exchanges (λ (e : Exchange). e.request) in
    elim (performed-of ran) [
      | inl same ↦ let sum = ap (λ (l : List (List ℕ)). length l) same in omega (arith, count, sum)
      | inr same ↦ let sum = ap (λ (l : List (List ℕ)). length l) same in
          let both = length-append (asked talk) (option_to_list talk.left) in omega (arith, count, sum, both)
    ]

-- it stands where a beginning of the requests that are asked for leads it
pub front_over : {device : Device} {talk : Talk} {hand : Hand} {asked : List (List ℕ)} → HandRan device talk hand → IsPrefix (issued talk) asked
    → Front device asked (write_count hand.performed) (given_by hand) hand.device
unfolding write_count
front_over {device} {talk} {hand} {asked} ran begins =
    let whole = prefix-on (performed-begins ran) begins in
    let front : take (length hand.performed) asked ≡ hand.performed =
    ap (λ (l : List (List ℕ)). take (length hand.performed) l) (sym whole.is) ∙ take-append_seam hand.performed whole.rest in
    record {
      count = length hand.performed;
      replies = hand.replies;
      reached = hand.device;
      run = subst (λ (l : List (List ℕ)). DeviceRun device l hand.replies hand.device) (sym front) ran.run;
      holds = ap (λ (l : List (List ℕ)). length (filter changes l)) front;
      ids = ap (λ (l : List (List ℕ)). flat_map (λ (e : Exchange). given_in e.request e.reply) (exchanged l hand.replies)) front;
      databases = refl;
      user = refl;
    }

pub front_of : (meeting : Meeting) {talk : Talk} {hand : Hand} → HandRan meeting.device talk hand → IsPrefix (issued talk) (requests meeting)
    → MeetingFront meeting (write_count hand.performed) (given_by hand) hand.device
front_of meeting ran begins = front_over ran begins
