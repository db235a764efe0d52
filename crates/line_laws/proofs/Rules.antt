-- The rules of a proper trace, each with the proof that computing finds.
use Rattle.std.proofs.Common.{◌≡◌, ℕ, ◌+◌, ◌^◌, ◌<◌, ◌≤◌, Bool, true, not, nat_eq, nat_lt, nat_le, List, [], ◌∷◌}
use Rattle.std.proofs.Common.{length, Option, Some, None, refl, sym, ap, arith, inl}
use Rattle.std.specs.Bool.{Decides}
use Rattle.std.specs.List.{AllByRecursion}
use Rattle.std.specs.Str.{bytes_eq}
use Rattle.std.proofs.lemmas.Bool.Decides.{Decides-eqb, Decides-ltb}
use Rattle.std.proofs.lemmas.Slice.Eq.{bytes_eq-Decides}
use Rattle.slp_frames.specs.PacketScan.{packet_at}
use Rattle.padp_link.specs.declared.fragment.PadpKind.{PadpKind}
use Rattle.padp_link.specs.declared.fragment.PadpKind.TheVariants.{Data, Ack}
use Rattle.padp_link.specs.declared.piece.Key.{Key}
use Rattle.padp_link.specs.FragmentText.{FragmentText, are_flags, fits_size, fragment_text}
use Rattle.trace_text.specs.declared.frame.End.{End}
use Rattle.trace_text.specs.declared.frame.End.TheVariants.{Handheld, Desktop}
use Rattle.trace_text.specs.Fates.{FateValue, Untouched, Lost, arrives, ends_run}
use Rattle.trace_text.specs.TraceLines.{FrameValue}
use Rattle.trace_text.specs.Past.{PastFrame, is_end, same_key, first, said, at, is_data_of, is_repeat, run}
use Rattle.trace_text.specs.Faults.{faulted, late_of, newest, last_repeat, IsHeldIn, RepeatsHaveFaults}
use Rattle.trace_text.specs.Frames.{BearsFragment, MayBear, padp_packet, fragment_in, past_of, came_in}
use Rattle.trace_text.specs.Talks.{Talk, Turn, messages_of, pieces_before, answered_by}
use Rattle.trace_text.specs.Proper.{AreNumbered, StaysAway, ComeInOrder, Reaches, IsKnown, EndReached, IfAnswers, AnswersReached, BeginInTurn}
use Rattle.trace_text.specs.Proper.{AtMostTen, SaysMessages, NumberedFrame, AcksAreFor, is_ack_of, data_that_came, SpeaksProperly, IsProper}
use Rattle.line_laws.proofs.PastLaws.{same_key-true, same_key-same, is_end-same}
use Rattle.line_laws.proofs.CameLaws.{same_end}
use Rattle.line_laws.proofs.FaultLaws.{newest_from}
use Rattle.line_laws.proofs.Findings.{◌>>=◌, decide, where_so, branch, newest_found, found_below, Decides-true, Decides-false, Decides-nat_le}

-- ---- numbers, fates and courses

abbrev same_fate : (x y : FateValue) → Option (x ≡ y)
same_fate Untouched Untouched = Some refl
same_fate Lost Lost = Some refl
same_fate _ _ = None

abbrev is_last : (later : List FrameValue) → Option (later ≡ [])
is_last [] = Some refl
is_last (frame ∷ later) = None

abbrev pub numbered : (number : ℕ) (script : ℕ → FateValue) (frames : List FrameValue) → Option (AreNumbered number script frames)
numbered number script [] = Some tt
numbered number script (frame ∷ later) = do
  number_is ← decide (nat_eq frame.number number) (Decides-eqb _ _)
  fate_is ← same_fate frame.fate (script number)
  ends ← where_so (ends_run frame.fate frame.bytes) (Decides-true _) (λ ends. is_last later)
  behind ← numbered (number + 1) script later
  Some (number_is, fate_is, ends, behind)

pub Decides-is_end : (X Y : End) → Decides (is_end X Y) (X ≡ Y)
Decides-is_end X Y = (λ same. sym (same_end X Y same), λ same. rw same (is_end-same Y))

abbrev stay_away : (X : End) (frames : List FrameValue) → Option (AllByRecursion (StaysAway X) frames)
stay_away X [] = Some tt
stay_away X (frame ∷ later) = do
  away ← where_so (is_end frame.from X) (Decides-is_end _ _) (λ from. decide (not frame.came) (Decides-false _))
  behind ← stay_away X later
  Some (away, behind)

abbrev pub in_order : (frames : List FrameValue) → Option (ComeInOrder frames)
in_order [] = Some tt
in_order (frame ∷ later) = do
  arrived ← where_so frame.came (Decides-true _) (λ came. decide (arrives frame.fate) (Decides-true _))
  away ← where_so (arrives frame.fate) (Decides-true _) (λ arrives. where_so (not frame.came) (Decides-false _) (λ came. stay_away frame.from later))
  behind ← in_order later
  Some (arrived, away, behind)

-- ---- what the frames bear

abbrev may_bear : (given : FateValue) (kind : PadpKind) → Option (MayBear given kind)
may_bear given Data = Some tt
may_bear given Ack = Some tt
may_bear given _ = None

abbrev has_text : (fragment : _) → Option (FragmentText fragment (fragment_text fragment))
has_text fragment = do
  flags ← decide (are_flags fragment.kind fragment.flags) (Decides-true _)
  size ← decide (fits_size fragment.kind fragment.flags fragment.size (length fragment.bytes)) (Decides-true _)
  size_fits ← decide (nat_lt fragment.size (2 ^ 16)) (Decides-ltb _ _)
  Some (record { fragment_is = record { flags = flags; size = size }; size_fits = size_fits; is = refl })

abbrev pub bear : (frames : List FrameValue) → Option (AllByRecursion BearsFragment frames)
bear [] = Some tt
bear (frame ∷ later) = do
  is ← decide (bytes_eq frame.bytes (padp_packet (packet_at frame.bytes).id (fragment_in frame))) (bytes_eq-Decides _ _)
  fragment ← has_text (fragment_in frame)
  kind ← may_bear frame.fate (fragment_in frame).kind
  behind ← bear later
  Some (record { is = is; fragment = fragment; kind = kind }, behind)

-- ---- repeats

abbrev HasFault : List PastFrame → End → Type 0
HasFault past X = (0 < newest faulted past) × (last_repeat X past ≤ newest faulted past + 1)

abbrev has_fault : (frame : PastFrame) (past : List PastFrame) (X : End) → Option (is_repeat X frame past ≡ true → HasFault past X)
has_fault frame past X = where_so (is_repeat X frame past) (Decides-true _) λ repeat. do
  some ← decide (nat_lt 0 (newest faulted past)) (Decides-ltb _ _)
  near ← decide (nat_le (last_repeat X past) (newest faulted past + 1)) (Decides-nat_le _ _)
  Some (some, near)

abbrev pub faults : (past : List PastFrame) → Option (RepeatsHaveFaults past)
faults [] = Some tt
faults (frame ∷ past) = do
  handheld ← has_fault frame past Handheld
  desktop ← has_fault frame past Desktop
  older ← faults past
  Some (elim [ Handheld ↦ handheld | Desktop ↦ desktop ], older)

-- ---- what reached a frame, where none is late

pub never_held : (X : End) (n : ℕ) (past : List PastFrame) → n ≤ length past → newest (late_of X) past ≡ 0 → IsHeldIn X n past → ⊥
never_held X n past inside none held =
    let le = newest_from (late_of X) past (omega (arith, held.before)) held.here held.is_late_one in
    omega (arith, held.some)

abbrev front : (past : List PastFrame) → Option ((frame : PastFrame) × (older : List PastFrame) × (past ≡ frame ∷ older))
front [] = None
front (frame ∷ older) = Some (frame, older, refl)

abbrev reaches : (came : ℕ → Bool) (past : List PastFrame) (n : ℕ) → Option (Reaches came n past)
reaches came past n = do
  (frame, older, here) ← front (at n past)
  inside ← decide (nat_le n (length past)) (Decides-nat_le _ _)
  comes ← decide (came n) (Decides-true _)
  none_late ← decide (nat_eq (newest (late_of frame.from) past) 0) (Decides-eqb _ _)
  Some (record { frame = frame; older = older; inside = inside; here = here; comes = comes; free = never_held frame.from n past inside none_late })

-- ---- what one end says

pub Decides-same_key : (x y : Key) → Decides (same_key x y) (x ≡ y)
Decides-same_key x y = (same_key-true, λ same. rw same (same_key-same y))

abbrev first_is : (keys : List Key) (key : Key) → Option (first keys ≡ Some key)
first_is [] key = None
first_is (newest ∷ older) key = decide (same_key newest key) (Decides-same_key _ _) >>= λ same. Some (ap (λ (k : Key). Some k) same)

module _ (X Y : End) (talk : Talk) (came : ℕ → Bool) where
  -- frame n acknowledges the newest fragment
  abbrev known_by : (past : List PastFrame) (n : ℕ) → Option (IsKnown X Y talk came past)
  known_by past n = do
    there ← reaches came past n
    is ← decide (is_ack_of Y there.frame) (Decides-true _)
    behind ← decide (nat_eq (length (said X (at n past))) (length (said X past))) (Decides-eqb _ _)
    key_is ← first_is (said X past) there.frame.key
    Some (record { n = n; reaches = there; cause = inl (record { is = is; behind = behind; key_is = key_is }) })

  -- frame n bears the last fragment of this message
  abbrev ended_by : (turn : Turn) (past : List PastFrame) (n : ℕ) → Option (EndReached turn talk came past)
  ended_by turn past n = do
    reached ← reaches came past n
    there ← decide (nat_lt turn.number (length (messages_of turn.end talk))) (Decides-ltb _ _)
    is ← decide (is_data_of turn.end reached.frame) (Decides-true _)
    number_is ← decide (nat_eq (length (said turn.end (at n past))) (pieces_before (messages_of turn.end talk) (turn.number + 1))) (Decides-eqb _ _)
    Some (record { n = n; reaches = reached; there = there; bears = record { is = is; number_is = number_is } })

  abbrev answers : (answered : Option Turn) (past : List PastFrame) → Option (IfAnswers answered talk came past)
  answers None past = Some tt
  answers (Some turn) past = newest_found (ended_by turn past) (length past)

  abbrev answers_reached : (past : List PastFrame) → Option (AnswersReached X talk came past)
  answers_reached past = found_below _
      (λ number. where_so (nat_eq (pieces_before (messages_of X talk) number) (length (said X past))) (Decides-eqb _ _)
      (λ begins. answers (answered_by X number) past))
      (length (messages_of X talk))

  abbrev begins : (past : List PastFrame) → Option (BeginInTurn X Y talk came past)
  begins [] = Some tt
  begins (frame ∷ past) = do
    here ← where_so (is_data_of X frame) (Decides-true _) λ data_frame. where_so (not (is_repeat X frame past)) (Decides-false _) λ new. do
      known ← where_so (nat_lt 0 (length (said X past))) (Decides-ltb _ _) (λ some. newest_found (known_by past) (length past))
      reached ← answers_reached past
      Some (known, reached)
    older ← begins past
    Some (here, older)

  abbrev ten : (past : List PastFrame) → Option (AtMostTen X past)
  ten [] = Some tt
  ten (frame ∷ past) = do
    here ← decide (nat_le (run X (frame ∷ past)) 10) (Decides-nat_le _ _)
    older ← ten past
    Some (here, older)

  abbrev acks : (past : List PastFrame) (answered : List NumberedFrame) → Option (AcksAreFor Y came past answered)
  acks [] [] = Some refl
  acks [] (frame ∷ older) = None
  acks (frame ∷ past) [] = branch (is_ack_of Y frame) (λ ack. None) (λ other. acks past [])
  acks (frame ∷ past) (newest ∷ older) = branch (is_ack_of Y frame)
      (λ ack. do
        same ← decide (same_key newest.key frame.key) (Decides-same_key _ _)
        there ← reaches came past newest.number
        rest ← acks past older
        Some (newest, older, refl, same, there, rest))
      (λ other. acks past (newest ∷ older))

  abbrev pub speaks : (past : List PastFrame) → SaysMessages X talk past → Option (SpeaksProperly X Y talk came past)
  speaks past says = do
    at_most_ten ← ten past
    in_turn ← begins past
    acked ← acks past (data_that_came X came past)
    Some (record { says = says; ten = at_most_ten; begins = in_turn; acked = inl acked })

-- all of them, for frames that say the messages
abbrev pub proper : (script : ℕ → FateValue) (talk : Talk) (frames : List FrameValue)
    → SaysMessages Handheld talk (past_of frames) → SaysMessages Desktop talk (past_of frames) → Option (IsProper script talk frames)
proper script talk frames handheld_says desktop_says = do
  are_numbered ← numbered 1 script frames
  bears ← bear frames
  come ← in_order frames
  with_faults ← faults (past_of frames)
  handheld ← speaks Handheld Desktop talk (came_in frames) (past_of frames) handheld_says
  desktop ← speaks Desktop Handheld talk (came_in frames) (past_of frames) desktop_says
  Some (record { numbered = are_numbered; bear = bears; come = come; faults = with_faults; handheld = handheld; desktop = desktop })
