-- Purges, and then the end.
use Rattle.std.proofs.Common.{◌≡◌, ◌∙◌, refl, ap, ℕ, List, [], ◌∷◌, ◌++◌, map, append_assoc, Option, IfErr, IfOk, Result, Ok, Err}
use Rattle.std.proofs.lemmas.List.{map-append}
use Rattle.session_parts.proofs.LinkWords.{LinkFault, Talk, Ended, Halted, SessionFault, Act, text, link_ended, saying, SessionValue, Does, Stops}
use Rattle.desktop_session.proofs.StopLaws.{does_then, stops_more, stops_then}
use Rattle.sync_session.proofs.MeetingWords.{Planned, purges_under, AreFirst, EachSays, SpansEach, Stretch, done_each, each_acts, says_nothing}
use Rattle.session_parts.specs.Causes.{IsLater}
use Rattle.sync_session.specs.Endings.{Ends}
use Rattle.session_parts.proofs.EachLaws.{first-none}
use Rattle.session_parts.proofs.HandleLaws.{one_first}
use Rattle.session_parts.proofs.StretchLaws.{Leads}

-- stretches for all databases, which go on where some that were asked for end
record WholeStretches (told : Option Talk) (planned : List Planned) (ones : List Stretch) : Type 0 where
  stretches : List Stretch
  firsts : AreFirst purges_under told planned stretches
  all : EachSays purges_under says_nothing told planned stretches (done_each planned tt)
  leads : Leads (each_acts purges_under told planned ones) (each_acts purges_under told planned stretches)

whole_stretches : (told : Option Talk) (planned : List Planned) (ones : List Stretch) → AreFirst purges_under told planned ones
    → WholeStretches told planned ones
whole_stretches told [] ones firsts = record { stretches = []; firsts = tt; all = tt; leads = record { rest = []; is = refl } }
whole_stretches told (one ∷ planned) [] firsts =
    let mine : List Act = purges_under told one 1 [] in
    let later = whole_stretches (saying mine told) planned [] (first-none purges_under _ planned) in
    record {
      stretches = record { handle = 1; given = [] } ∷ later.stretches;
      firsts = (one_first told, later.firsts);
      all = (tt, later.all);
      leads = record { rest = mine ++ each_acts purges_under (saying mine told) planned later.stretches; is = refl };
    }
whole_stretches told (one ∷ planned) (stretch ∷ ones) firsts =
    let mine : List Act = purges_under told one stretch.handle stretch.given in
    let later = whole_stretches (saying mine told) planned ones firsts.1 in
    record {
      stretches = stretch ∷ later.stretches;
      firsts = (firsts.0, later.firsts);
      all = (tt, later.all);
      leads = record {
        rest = later.leads.rest;
        is = append_assoc mine (each_acts purges_under (saying mine told) planned ones) later.leads.rest ∙ ap (λ zs. mine ++ zs) later.leads.is;
      };
    }

-- what was done before an ending
pub does_before : {L : Type 0} {talk : L → Option Talk} {xs : List Act} (ys : List Act) {a b : L} (r : Result (Ended L) (Halted L)) → Does talk xs a b
    → IfOk r (λ ended. Does talk ys b ended.link) → IfOk r (λ ended. Does talk (xs ++ ys) a ended.link)
does_before {talk} {xs} ys {a} {b} (Ok ended) first second = does_then talk xs ys a b ended.link first second
does_before ys (Err halted) first second = second

module _ {L : Type 0} {talk : L → Option Talk} {since : L → L → Type 0} {fault : L → Option LinkFault} {downs : L → ℕ} {planned : List Planned}
    {last : List Act} {old now : SessionValue L} where
  -- the purges stopped
  pub ends_not : {cause : SessionFault} {halted : Halted L}
      → SpansEach {B = Unit {0}} talk since fault downs purges_under says_nothing planned (done_each planned) old now (Err cause)
      → halted.link ≡ now.link → halted.cause ≡ cause → Ends talk since fault downs planned last old (Err halted)
  ends_not purges is why =
      let whole = whole_stretches (talk old.link) planned purges.stretches purges.firsts in
      let some : List Act = each_acts purges_under (talk old.link) planned purges.stretches in
      let rest : List Act = whole.leads.rest ++ last in
      record {
        stretches = whole.stretches;
        firsts = whole.firsts;
        stops = rw (is, ← whole.leads.is, append_assoc some whole.leads.rest last, map-append text some rest)
            (stops_more talk since fault downs (map text some) (map text rest) old.link now.link purges.stops);
        cause = rw (is, why) purges.cause;
        does = tt;
        all = whole.all;
      }

  -- they were done, and the end was asked for
  pub ends_then : (since_more : (a b c : L) → since a b → since b c → since a c) {answer : Result (Ended L) (Halted L)}
      → SpansEach {B = Unit {0}} talk since fault downs purges_under says_nothing planned (done_each planned) old now (Ok tt)
      → Stops talk since fault downs (map text last) now.link (link_ended answer) → IfOk answer (λ ended. Does talk last now.link ended.link)
      → IfErr answer (λ halted. IsLater (talk halted.link) (fault halted.link) halted.cause) → Ends talk since fault downs planned last old answer
  ends_then since_more {answer} purges stops does later =
      let acts : List Act = each_acts purges_under (talk old.link) planned purges.stretches in
      record {
        stretches = purges.stretches;
        firsts = purges.firsts;
        stops = rw (map-append text acts last)
            (stops_then talk since fault downs since_more acts (map text last) old.link now.link (link_ended answer) purges.does purges.stops stops);
        cause = later;
        does = does_before last answer purges.does does;
        all = purges.said;
      }
