-- What an end says and hears over a pushed frame.
use Rattle.line_laws.proofs.Names.{rules, ◌≡◌, ℕ, Bool, false, List, ◌∷◌, length, sym, ap, subst, ◌∙◌, arith, inl, inr, cases_lt, Key, ReceiverValue, FrameCourse}
use Rattle.line_laws.proofs.Names.{PastFrame, is_end, first, data_of, said, acked, at, IsDataOf, End, Handheld, Desktop, Side, part_now, AllBear, Speaks, Hears}
use Rattle.line_laws.proofs.Names.{data_frame, ack_frame}
use Rattle.line_laws.proofs.PastLaws.{at_all, at_push, keys_below}

pub all_bear-push : (X : End) (frame : PastFrame) (past : List PastFrame) {bytes : List ℕ} → AllBear X past bytes → said X (frame ∷ past) ≡ said X past
    → (IsDataOf X frame → frame.bytes ≡ bytes) → AllBear X (frame ∷ past) bytes
all_bear-push X frame past {bytes} all same now n found older inside here is newest = elim (cases_lt (length past) n) [
  | inl new ↦ (let e : n ≡ length (frame ∷ past) = omega arith in
      let all_of : frame ∷ past ≡ found ∷ older = sym (ap (λ k. at k (frame ∷ past)) e ∙ at_all (frame ∷ past)) ∙ here in
      let it : frame ≡ found = cc in
      subst (λ f. f.bytes ≡ bytes) it (now (subst (λ f. IsDataOf X f) (sym it) is)))
  | inr old ↦ all n found older old (sym (at_push frame past old) ∙ here) is (newest ∙ ap length same)
]

pub all_bear-new : (X : End) {key : Key} (frame : PastFrame) (past : List PastFrame) {bytes : List ℕ} → said X (frame ∷ past) ≡ key ∷ said X past
    → frame.bytes ≡ bytes → AllBear X (frame ∷ past) bytes
all_bear-new X frame past {bytes} more now n found older inside here is newest = elim (cases_lt (length past) n) [
  | inl new ↦ (let e : n ≡ length (frame ∷ past) = omega arith in
      let all_of : frame ∷ past ≡ found ∷ older = sym (ap (λ k. at k (frame ∷ past)) e ∙ at_all (frame ∷ past)) ∙ here in
      let it : frame ≡ found = cc in
      subst (λ f. f.bytes ≡ bytes) it now)
  | inr old ↦ (let below = keys_below (data_of X) n past in
      let was : at n past ≡ found ∷ older = sym (at_push frame past old) ∙ here in
      absurd (omega (arith, below, newest, ap length more, ap (λ p. length (said X p)) was)))
]

pub speaks_push : {X : End} {frame : PastFrame} {past : List PastFrame} {fresh : Bool} {side : Side} → Speaks X past fresh side
    → said X (frame ∷ past) ≡ said X past → (IsDataOf X frame → frame.bytes ≡ (part_now side).bytes) → Speaks X (frame ∷ past) fresh side
speaks_push {X} {frame} {past} speaks same now = record {
  waits = speaks.waits;
  newest = λ waits. ap first same ∙ speaks.newest waits;
  newest_id = λ key is. speaks.newest_id key (ap first (sym same) ∙ is);
  bytes = λ waits. all_bear-push X frame past (speaks.bytes waits) same now;
}

pub hears_push : {Y : End} {frame : PastFrame} {past : List PastFrame} {fresh : Bool} {side : Side} {receiver : ReceiverValue}
    → Hears Y past fresh side receiver → acked Y (frame ∷ past) ≡ acked Y past → Hears Y (frame ∷ past) fresh side receiver
hears_push hears same = search rules

-- an acknowledgement is no data
pub ack_no_data : (X Y : End) (key : Key) (course : FrameCourse) → IsDataOf X (ack_frame Y key course) → ⊥
ack_no_data Handheld Handheld key course is = cc
ack_no_data Handheld Desktop key course is = cc
ack_no_data Desktop Handheld key course is = cc
ack_no_data Desktop Desktop key course is = cc

pub data_no_other : (X Y : End) → is_end X Y ≡ false → (key : Key) (bytes : List ℕ) (course : FrameCourse) → IsDataOf X (data_frame Y key bytes course) → ⊥
data_no_other Handheld Handheld apart key bytes course is = cc
data_no_other Handheld Desktop apart key bytes course is = cc
data_no_other Desktop Handheld apart key bytes course is = cc
data_no_other Desktop Desktop apart key bytes course is = cc
