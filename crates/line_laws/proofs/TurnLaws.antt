-- Whose turn it is, the first state, the last try, and the acknowledgements that were taken.
use Rattle.line_laws.proofs.Names.{rules, ◌≡◌, ℕ, ◌+◌, ◌-◌, ◌<◌, ◌≤◌, Bool, true, false, List, ◌∷◌, length, sym, ap, ◌∙◌, arith, inl, inr, Key, piece_count}
use Rattle.line_laws.proofs.Names.{ReceiverValue, faulted, count, PastFrame, first, data_of, said, acked, at, End, EndTime, Side, Waiting, taken_count, CoreAt, IsBlocked}
use Rattle.line_laws.proofs.Names.{NoAck, IsAcknowledged}
use Rattle.line_laws.proofs.PastLaws.{at_push, keys_below}
use Rattle.line_laws.proofs.BudgetLaws.{ten_faults}

-- ---- whose turn it is

-- X's message isn't taken whole yet, and X waits
pub record Active (fresh : Bool) (x : Side) : Type 0 where
  pub waits : Waiting x
  pub due : taken_count fresh x < piece_count (length x.message)

-- a fragment of X was begun
pub active_begun : {x : Side} → Waiting x → Active true x
active_begun waits = record { waits = waits; due = waits }

-- its newest fragment was taken, and the message isn't whole
pub active_taken : {x : Side} → Waiting x → x.acknowledged + 1 < piece_count (length x.message) → Active false x
active_taken waits more = record { waits = waits; due = more }

-- an acknowledgement of its waiting piece isn't that of its last one
pub active_goes_on : {x : Side} (fx : Bool) → Active fx x → fx ≡ false → x.acknowledged + 1 < piece_count (length x.message)
active_goes_on true active none = absurd cc
active_goes_on false active none = active.due

-- ---- the first state and the last try

pub tenth_try : {X Y : End} {past : List PastFrame} {cx cy released : ℕ} {x y : Side} {rx ry : ReceiverValue} {fx fy : Bool}
    → CoreAt X Y past cx cy x y rx ry fx fy → EndTime X Y past cx cy released x 10 → Waiting x → IsBlocked X past cx released → IsBlocked Y past cy released
    → (f : ℕ) × (0 < f) × (length past < f + 53) × (10 + count faulted (at (f - 1) past) ≤ count faulted past)
tenth_try core time waits bx by = ten_faults core.back (time.progress waits) bx by (time.tried waits)

-- ---- no acknowledgement was taken

pub no_ack-push : (X Y : End) (frame : PastFrame) (past : List PastFrame) {cy : ℕ} {key : Key} → NoAck X Y past cy key → cy ≤ length past
    → said X (frame ∷ past) ≡ said X past → NoAck X Y (frame ∷ past) cy key
no_ack-push X Y frame past none inside same n found older before here is came newest key_is =
    let e = at_push frame past (omega (arith, before, inside)) in
    none n found older before (sym e ∙ here) is came (ap (λ s. length (said X s)) (sym e) ∙ newest ∙ ap length same) key_is

pub no_ack-begins : (X Y : End) (frame : PastFrame) (past : List PastFrame) {cy : ℕ} {begun key : Key} → cy ≤ length past
    → said X (frame ∷ past) ≡ begun ∷ said X past → NoAck X Y (frame ∷ past) cy key
no_ack-begins X Y frame past inside more n found older before here is came newest key_is =
    let e = at_push {n = n} frame past (omega (arith, before, inside)) in
    omega (arith, keys_below (data_of X) n past, newest, ap (λ s. length (said X s)) e, ap length more)

-- ---- what was acknowledged

pub acknowledged-push : {X Y : End} {frame : PastFrame} {past : List PastFrame} {cy : ℕ} → IsAcknowledged X Y past cy → cy ≤ length past
    → said X (frame ∷ past) ≡ said X past → IsAcknowledged X Y (frame ∷ past) cy
acknowledged-push {X} {Y} {frame} {past} was inside same =
    let e = at_push frame past (omega (arith, was.before, inside)) in
    let length_is = ap length same in
    record {
      n = was.n;
      frame = was.frame;
      older = was.older;
      some = was.some;
      before = was.before;
      here = e ∙ was.here;
      came = was.came;
      cause = elim was.cause [
        | inl ack ↦ inl (ack.0, ap (λ s. length (said X s)) e ∙ ack.1 ∙ sym length_is, ap first same ∙ ack.2)
        | inr answer ↦ inr (answer.0, ap (λ s. length (acked Y s)) e ∙ answer.1 ∙ sym length_is)
      ];
    }

pub acknowledged-moves : {X Y : End} {past : List PastFrame} {cy later : ℕ} → IsAcknowledged X Y past cy → cy ≤ later → IsAcknowledged X Y past later
acknowledged-moves was more = search rules
