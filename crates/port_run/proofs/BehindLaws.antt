-- What is known of the handheld behind a link once its session is over, and of both sides then.
use Rattle.std.proofs.Common.{◌≡◌, ℕ, true, false, List, [], ◌∷◌, ◌++◌, drop, map, inl, inr, sym, ap, subst, ◌∙◌, append_assoc}
use Rattle.std.specs.Prelude.{Some, None, Result}
use Rattle.std.specs.Option.{option_map}
use Rattle.std.specs.Global.{Vec}
use Rattle.palm_device.specs.Devices.{Device}
use Rattle.dlp_commands.specs.DeviceRuns.{DeviceRun, Exchange, exchanged}
use Rattle.dlp_commands.specs.Talks.{Talk, fresh}
use Rattle.desk_store.specs.Bounds.{AreBounded}
use Rattle.desk_store.specs.Shelves.{SlotValue}
use Rattle.desktop_session.specs.Acts.{Act, text}
use Rattle.desktop_session.specs.Says.{IsPrefix}
use Rattle.device_stream.specs.Hands.{Hand}
use Rattle.device_stream.specs.Laws.{DidNothing}
use Rattle.padp_end.specs.Ends.{first_end}
use Rattle.port_laws.proofs.StageLaws.{opened}
use Rattle.port_laws.specs.Palms.{IsOurs, Palm, is_first}
use Rattle.port_link.specs.Calls.{LinkValue, Since}
use Rattle.port_link.specs.Hands.{HandRan}
use Rattle.port_link.specs.Logs.{EntryValue}
use Rattle.port_link.specs.Standing.{exchanges_of, talk_at, talk_of}
use Rattle.run_words.specs.Cables.{Cable}
use Rattle.session_parts.specs.Rests.{IsAtRest}
use Rattle.session_parts.specs.declared.report.DbReport.{DbReport}
use Rattle.session_parts.specs.declared.stop.Stop.{Stop}
use Rattle.session_plan.specs.Tasks.{meeting_of}
use Rattle.session_plan.specs.declared.wishes.Wishes.{Wishes}
use Rattle.call_parts.specs.Closings.{left_databases, left_end}
use Rattle.call_parts.specs.Told.{FolderTold}
use Rattle.front_laws.specs.Sound.{AreSoundWishes}
use Rattle.front_laws.proofs.RequestLaws.{sound_meeting}
use Rattle.port_run.specs.Ends.{LeftFor}
use Rattle.port_run.specs.Links.{LinkRan, answered, fault_of_link, link_over}
use Rattle.port_run.specs.Told.{PortTold}
use Rattle.port_run.specs.Wishes.{AsksFor}
use Rattle.port_run.specs.declared.synced.CableReport.{CableReport}
use Rattle.port_run.proofs.LeftLaws.{BeganWith, EndsOver, session_left}
use Rattle.port_link.proofs.RanLaws.{HandSince, RanAt, calls-ran, first-ran, last-palm, later-ran, since-once}
use Rattle.port_run.proofs.TalkedLaws.{ToldAll, all-exchanged, all-performed}
use Rattle.call_parts.proofs.EndLaws.{exchanged-append}
use Rattle.port_laws.proofs.TakeLaws.{some_of}

-- ---- from a handheld that was never asked

same_behind : (xs ys zs : List (List ℕ)) → xs ++ ys ≡ xs ++ zs → ys ≡ zs
same_behind [] ys zs same = same
same_behind (x ∷ xs) ys zs same = same_behind xs ys zs (ap (λ (l : List (List ℕ)). drop 1 l) same)

-- a hand of which nothing was known before
module _ (was : Hand) (performed : was.performed ≡ []) (replies : was.replies ≡ []) where
  hand-run : {hand : Hand} → HandSince was hand → DeviceRun was.device hand.performed hand.replies hand.device
  hand-run {hand} since =
      let asked : hand.performed ≡ since.requests = since.performed_is ∙ ap (λ (l : List (List ℕ)). l ++ since.requests) performed in
      let told : hand.replies ≡ since.replies = since.replies_are ∙ ap (λ (l : List (List ℕ)). l ++ since.replies) replies in
      subst (λ (l : List (List ℕ)). DeviceRun was.device l hand.replies hand.device) (sym asked)
      (subst (λ (l : List (List ℕ)). DeviceRun was.device since.requests l hand.device) (sym told) since.run)

  pub link-ran : {link : LinkValue} {talk : Talk} (ran : RanAt was link) → talk_of link ≡ Some talk → HandRan was.device talk ran.palm.hand
  link-ran {link} {talk} ran told =
      let is : talk_at link.cause link.begun link.id link.scene.desk.end ran.palm ≡ talk =
      some_of (sym (ap (option_map (talk_at link.cause link.begun link.id link.scene.desk.end)) ran.told_is) ∙ told) in
      subst (λ (t : Talk). HandRan was.device t ran.palm.hand) is
      (record { run = hand-run ran.since; device_is = ran.device_is; once = ran.once })

  -- all of these acts were answered at some time
  began-with : {old new : LinkValue} (first : RanAt was old) (ran : RanAt was new) {hand : Hand} → DidNothing ran.palm.hand hand
      → (acts : List Act) (after : List (List ℕ)) (between : LinkValue) (told : Talk) → Since old between → Since between new
      → talk_of between ≡ Some told → ToldAll acts was.device told → IsPrefix hand.performed (map text acts ++ after)
      → BeganWith acts after was.device hand
  began-with {old} {new} first ran {hand} did acts after between told before behind is all prefix =
      let mid = calls-ran was before.0 old between first before.1 in
      let at = link-ran mid is in
      let later = calls-ran mid.palm.hand behind.0 between new (later-ran mid) behind.1 in
      let same : later.palm ≡ ran.palm = some_of (sym later.told_is ∙ ran.told_is) in
      let since : HandSince mid.palm.hand hand = since-once (subst (λ (p : Palm). HandSince mid.palm.hand p.hand) same later.since) (inl did) in
      let own : mid.palm.hand.performed ≡ map text acts = all-performed at all.none_left ∙ all.issued_are in
      let performed_are : hand.performed ≡ map text acts ++ since.requests =
      since.performed_is ∙ ap (λ (l : List (List ℕ)). l ++ since.requests) own in
      record {
        rest = since.requests;
        replies = since.replies;
        performed_are = performed_are;
        rest_begins = record {
          rest = prefix.rest;
          is = same_behind (map text acts) (since.requests ++ prefix.rest) after (sym (append_assoc (map text acts) since.requests prefix.rest)
              ∙ ap (λ (l : List (List ℕ)). l ++ prefix.rest) (sym performed_are) ∙ prefix.is);
        };
        exchanges_are = ap (λ (l : List (List ℕ)). exchanged l hand.replies) since.performed_is
            ∙ ap (λ (l : List (List ℕ)). exchanged (mid.palm.hand.performed ++ since.requests) l) since.replies_are
            ∙ exchanged-append mid.palm.hand.performed since.requests mid.palm.hand.replies since.replies (sym at.run.same)
            ∙ ap (λ (es : List Exchange). es ++ exchanged since.requests since.replies) (all-exchanged at all.none_left ∙ all.exchanges_are);
      }

pub still-ran : {device : Device} {talk : Talk} {old new : Hand} → DidNothing old new → HandRan device talk old → HandRan device talk new
still-ran {device} {talk} {old} {new} did ran =
    let same : exchanges_of new ≡ exchanges_of old = ap (λ (l : List (List ℕ)). exchanged l new.replies) did.performed_is
    ∙ ap (λ (l : List (List ℕ)). exchanged old.performed l) did.replies_are in
    record {
      run = subst (λ (d : Device). DeviceRun device new.performed new.replies d) (sym did.device_is)
          (subst (λ (l : List (List ℕ)). DeviceRun device l new.replies old.device) (sym did.performed_is)
          (subst (λ (l : List (List ℕ)). DeviceRun device old.performed l old.device) (sym did.replies_are) ran.run));
      device_is = ran.device_is ∙ sym did.device_is;
      once = elim ran.once [
        | inl all ↦ inl (same ∙ all)
        | inr one ↦ inr (record { request = one.request; reply = one.reply; left = one.left; more = same ∙ one.more })
      ];
    }

-- ---- both sides

-- a fresh link tells a fresh talk
pub fresh-told : (port : PortTold) (palm : Palm) → port.palm ≡ Some palm → is_first palm ≡ true → talk_of (link_over port) ≡ Some (fresh palm.hand.device)
fresh-told port palm is first =
    let start = opened palm first in
    ap (option_map (talk_at None false 255 first_end)) is
    ∙ ap (λ (l : List (List ℕ)). Some (record { device = palm.hand.device; exchanges = exchanged l palm.hand.replies; left = None })) start.performed

-- what is left of both sides by a session over a port that told its handheld
pub left_for : (downs : LinkValue → ℕ) {cable : Cable} {wishes : Wishes} (slots : List SlotValue)
    (port after : PortTold) (palm : Palm) (desk desk_after : FolderTold) (report : CableReport) (log : List EntryValue) (answer : Result (Vec DbReport) Stop)
    → port.palm ≡ Some palm → is_first palm ≡ true → IsOurs palm.hand → IsAtRest palm.hand.device → AsksFor cable wishes → AreBounded slots → AreSoundWishes wishes
    → report.end ≡ left_end answer → report.databases.items ≡ left_databases answer → (ran : LinkRan port after report.cause log)
    → EndsOver fault_of_link downs (meeting_of palm.hand.device slots wishes) (link_over port) ran.last desk desk_after answer
    → LeftFor cable palm.hand.device slots after.palm desk desk_after (answered (link_over port) ran.last answer) report
left_for downs {cable} {wishes} slots port after palm desk desk_after report log answer is first ours rests asked bounded date end databases ran ends =
    let start = opened palm first in
    let fresh_ran = first-ran port.given port.taken port.palm port.paths port.faults palm is first ours in
    let last_ran = calls-ran palm.hand ran.since.0 (link_over port) ran.last fresh_ran ran.since.1 in
    let last = last-palm ran.last last_ran after.given after.taken after.palm log ran.leaves in
    let talk = talk_at ran.last.cause ran.last.begun ran.last.id ran.last.scene.desk.end last_ran.palm in
    let told : talk_of ran.last ≡ Some talk =
    ap (option_map (talk_at ran.last.cause ran.last.begun ran.last.id ran.last.scene.desk.end)) last_ran.told_is in
    record {
      wishes = wishes;
      asked = asked;
      why = ends.cause;
      talk = talk;
      told = told;
      palm = last.palm;
      palm_is = last.palm_is;
      left = session_left fault_of_link downs {meeting = meeting_of palm.hand.device slots wishes} (link_over port) ran.last talk last.palm.hand desk desk_after report
          (fresh-told port palm is first) told (sound_meeting slots wishes rests bounded date)
          (still-ran last.did (link-ran palm.hand start.performed start.replies last_ran told))
          (began-with palm.hand start.performed start.replies fresh_ran last_ran last.did) answer end databases ends;
    }
