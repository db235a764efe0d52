-- Calls one after the other are one talk.
use Rattle.std.proofs.Common.{◌≡◌, ◌∙◌, ◌<◌, ◌^◌, ap, refl, subst, sym, ℕ, List, [], ◌∷◌, ◌++◌, length, append_assoc}
use Rattle.std.specs.Prelude.{Option, Some, None}
use Rattle.std.proofs.lemmas.List.{append-nil}
use Rattle.padp_end.specs.Outgoings.{OutgoingFragment, said_text}
use Rattle.slp_frames.proofs.ScanLaws.{continues_append, continues_then}
use Rattle.slp_frames.specs.PacketScan.{scan}
use Rattle.slp_frames.specs.PacketText.{PacketValue}
use Rattle.device_stream.proofs.AlikeLaws.{Talks-alike}
use Rattle.device_stream.proofs.CourseLaws.{talks-then}
use Rattle.device_stream.proofs.TakingLaws.{said_text-append}
use Rattle.device_stream.specs.Alikeness.{Alike}
use Rattle.device_stream.specs.Courses.{BeginsWith}
use Rattle.device_stream.specs.Hands.{Hand}
use Rattle.device_stream.specs.Talks.{Talks}
use Rattle.device_stream.specs.declared.talk_end.TalkEnd.{TalkEnd}
use Rattle.device_state.proofs.StateLaws.{IsState-alike, state-one}
use Rattle.device_state.specs.Calls.{HearsAny}
use Rattle.device_state.specs.Hearing.{HearsBytes, ReadsUpTo}
use Rattle.device_state.specs.Laws.{HeardAsOne, HearsSome}
use Rattle.device_state.specs.States.{IsState}

-- a hand that is alike hears the same
record HeardAlike (old : Hand) (bytes said : List ℕ) (new : Hand) (left : List ℕ) : Type 0 where
  pub other : Hand
  pub hears : HearsBytes old bytes said other left
  pub alike : Alike new other

hears-alike : (x y : Hand) (bytes said : List ℕ) (new : Hand) (left : List ℕ) → Alike x y → HearsBytes x bytes said new left → HeardAlike y bytes said new left
hears-alike x y bytes said new left alike hears =
    let talks = Talks-alike x y new hears.packets hears.outgoing alike hears.talks in
    record {
      other = talks.other;
      hears = record {
        packets = hears.packets;
        outgoing = hears.outgoing;
        talks = talks.talks;
        said_is = hears.said_is;
        reads = subst (λ (over : Option TalkEnd). ReadsUpTo bytes hears.packets over left) (sym talks.alike.over_is) hears.reads;
      };
      alike = talks.alike;
    }

-- a talk that is over takes no packet
no-packets : (over : TalkEnd) (x new : Hand) (packets : List PacketValue) (said : List OutgoingFragment) → x.over ≡ Some over → Talks x packets said new
    → (packets ≡ []) × (said ≡ []) × (new ≡ x)
no-packets over x new [] said ends talks = (refl, talks.0, talks.1)
no-packets over x new (packet ∷ packets) said ends (first, later, between, is, takes, rest) = absurd (none (sym ends ∙ takes.going))
  where
    none : Some over ≡ None → ⊥
    none same = let apart : Option TalkEnd → Type 0 = apart_of in subst apart same tt
      where
        apart_of : Option TalkEnd → Type 0
        apart_of None = ⊥
        apart_of (Some it) = Unit {0}

module _ (bytes more : List ℕ) where
  reads-then : (over : Option TalkEnd) (ps qs : List PacketValue) (mid left : List ℕ) → ReadsUpTo bytes ps None mid → ReadsUpTo (mid ++ more) qs over left
      → ReadsUpTo (bytes ++ more) (ps ++ qs) over left
  reads-then None ps qs mid left first next = (continues_then (continues_append bytes more mid ps first.0) next.0, next.1)
  reads-then (Some over) ps qs mid left first next = (front, next.1)
    where
      front : (later : List ℕ) → BeginsWith (scan ((bytes ++ more) ++ later)) (ps ++ qs)
      front later =
          let step = next.0 later in (
            step.0,
            (continues_append bytes more mid ps first.0).scans later ∙ ap (λ (s : List PacketValue). ps ++ s) step.1 ∙ sym (append_assoc ps qs step.0),
          )

  hears-then : (old mid new : Hand) (said later : List ℕ) (between left : List ℕ) → HearsBytes old bytes said mid between
      → HearsBytes mid (between ++ more) later new left → HearsBytes old (bytes ++ more) (said ++ later) new left
  hears-then old mid new said later between left first next = by mid.over refl
    where
      whole : said ++ later ≡ said_text (first.outgoing ++ next.outgoing)
      whole = ap (λ (s : List ℕ). s ++ later) first.said_is ∙ ap (λ (s : List ℕ). said_text first.outgoing ++ s) next.said_is
          ∙ sym (said_text-append first.outgoing next.outgoing)

      talked : Talks old (first.packets ++ next.packets) (first.outgoing ++ next.outgoing) new
      talked = talks-then old first.packets first.outgoing mid next.packets next.outgoing new first.talks next.talks

      by : (over : Option TalkEnd) → mid.over ≡ over → HearsBytes old (bytes ++ more) (said ++ later) new left
      by None going = record {
        packets = first.packets ++ next.packets;
        outgoing = first.outgoing ++ next.outgoing;
        talks = talked;
        said_is = whole;
        reads = reads-then new.over first.packets next.packets between left
            (subst (λ (over : Option TalkEnd). ReadsUpTo bytes first.packets over between) going first.reads) next.reads;
      }
      by (Some over) ends =
          let none = no-packets over mid new next.packets next.outgoing ends next.talks in
          let was = subst (λ (o : Option TalkEnd). ReadsUpTo bytes first.packets o between) ends first.reads in
          let is : new.over ≡ Some over = ap (λ (h : Hand). h.over) none.2 ∙ ends in
          let empty : left ≡ [] = (subst (λ (o : Option TalkEnd). ReadsUpTo (between ++ more) next.packets o left) is next.reads).1 in
          record {
            packets = first.packets ++ next.packets;
            outgoing = first.outgoing ++ next.outgoing;
            talks = talked;
            said_is = whole;
            reads = subst (λ (o : Option TalkEnd). ReadsUpTo (bytes ++ more) (first.packets ++ next.packets) o left) (sym is) (
              λ later.
                  let step = was.0 (more ++ later) in (
                    step.0,
                    ap scan (append_assoc bytes more later) ∙ step.1
                        ∙ ap (λ (ps : List PacketValue). ps ++ step.0) (sym (append-nil first.packets) ∙ ap (λ (qs : List PacketValue). first.packets ++ qs) (sym none.0)),
                  ),
              empty,
            );
          }

-- what one call did
heard : (state next : List ℕ) (bytes said : List ℕ) (x : Hand) (held : List ℕ) → length state < 2 ^ 64 → IsState state x held → HearsSome state bytes next said
    → HeardAsOne x (held ++ bytes) said next
heard state next bytes said x held short is call =
    let one = state-one state call.goes_on.old x call.goes_on.held held short call.goes_on.was is in
    let any = subst (λ (b : List ℕ). HearsAny call.goes_on.old call.goes_on.held b said call.goes_on.new call.goes_on.left call.spent) call.some call.goes_on.hears in
    let hears = subst (λ (b : List ℕ). HearsBytes call.goes_on.old b said call.goes_on.new call.goes_on.left)
    (ap (λ (h : List ℕ). h ++ call.first ∷ call.later) one.held_is ∙ ap (λ (b : List ℕ). held ++ b) (sym call.some)) any.0 in
    let other = hears-alike call.goes_on.old x (held ++ bytes) said call.goes_on.new call.goes_on.left one.alike hears in
    record { new = other.other; left = call.goes_on.left; hears = other.hears; is = IsState-alike next call.goes_on.new other.other call.goes_on.left other.alike call.goes_on.is }

pub pieces-one : (state next last bytes more said later : List ℕ) (x : Hand) (held : List ℕ) → length state < 2 ^ 64 → IsState state x held
    → HearsSome state bytes next said → HearsSome next more last later → HeardAsOne x (held ++ (bytes ++ more)) (said ++ later) last
pieces-one state next last bytes more said later x held short is first second =
    let one = heard state next bytes said x held short is first in
    let two = heard next last more later one.new one.left first.short one.is second in
    record {
      new = two.new;
      left = two.left;
      hears = subst (λ (b : List ℕ). HearsBytes x b (said ++ later) two.new two.left) (append_assoc held bytes more)
          (hears-then (held ++ bytes) more x one.new two.new said later one.left two.left one.hears two.hears);
      is = two.is;
    }
