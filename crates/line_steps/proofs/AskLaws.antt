-- A request or a reply went over.
use Rattle.line_steps.proofs.TalkNames.{rules, Result, Ok, Err, OnOk, ◌≡◌, ℕ, ◌+◌, List, [], ◌∷◌, refl, subst, session_id, Handheld, Desktop, Talk, Apart, say, Half}
use Rattle.line_steps.proofs.TalkNames.{Wire, Line, IsNextTo, Talks, no_talk, talks_turned, MayAnswer, MayAsk, HasSaid, LineTells, bytes_of, greeted, init, wake}

pub two_ok : {T E A B C : Type 0} (r : Result T E) → (A → B → C) → OnOk r A → OnOk r B → OnOk r C
two_ok (Ok x) f a b = f a b
two_ok (Err y) f a b = tt

-- ---- a request

pub asks-next : {line : Line} {requests id : ℕ} {talk : Talk} → MayAsk line requests → id ≡ session_id (requests + 1) → HasSaid talk requests requests
    → IsNextTo talk line.desktop line.handheld id
asks-next asks is said = search rules

-- ---- a reply

pub answers-next : {line : Line} {requests id : ℕ} {talk : Talk} → MayAnswer line requests → id ≡ session_id (requests + 1)
    → HasSaid talk requests (requests + 1) → IsNextTo talk line.handheld line.desktop id
answers-next answers is said = search rules

-- ---- the greetings

pub wakes-next : (line : Line) {id : ℕ} → line.handheld.end ≡ Handheld → id ≡ 255 → IsNextTo no_talk line.handheld line.desktop id
wakes-next line end is = search rules

-- the handheld said its wake
abbrev pub woken : List ℕ → Talk
woken message = record { handheld = message ∷ []; desktop = [] }

pub inits-next : {message : List ℕ} {handheld desktop : Half} {id : ℕ} → desktop.end ≡ Desktop → id ≡ 255 → IsNextTo (woken message) desktop handheld id
inits-next end is = search rules

-- behind the wake
pub woke-tells : (line : Line) (wire : Wire) (h d : Half) {wake_bytes : List ℕ} → Apart h.end d.end → line.handheld.end ≡ Handheld
    → ((talk : Talk) → IsNextTo talk line.handheld line.desktop 255 → Talks talk line.wire line.handheld line.desktop
    → Talks (say line.handheld.end wake_bytes talk) wire h d)
    → LineTells no_talk line → Talks (woken wake_bytes) wire d h
woke-tells line wire h d {wake_bytes} apart h_end first before =
    talks_turned wire h d apart (subst (λ X. Talks (say X wake_bytes no_talk) wire h d) h_end (first no_talk (wakes-next line h_end refl) before))

-- the talk of three steps: the wake, the init, and until the desktop knows that this one came
pub greets-tells : (line : Line) (wire wire' : Wire) {h d : Half} (h' d' : Half) {wake_bytes init_bytes : List ℕ} → Apart h.end d.end
    → line.handheld.end ≡ Handheld → d.end ≡ Desktop
    → ((talk : Talk) → IsNextTo talk line.handheld line.desktop 255 → Talks talk line.wire line.handheld line.desktop
    → Talks (say line.handheld.end wake_bytes talk) wire h d)
    → ((talk : Talk) → IsNextTo talk d h 255 → Talks talk wire d h → Talks (say d.end init_bytes talk) wire' d' h')
    → LineTells no_talk line → Talks (record { handheld = wake_bytes ∷ []; desktop = init_bytes ∷ [] }) wire' d' h'
greets-tells line wire wire' {h} {d} h' d' {wake_bytes} {init_bytes} apart h_end d_end first second before =
    subst (λ X. Talks (say X init_bytes (woken wake_bytes)) wire' d' h') d_end
    (second (woken wake_bytes) (inits-next d_end refl) (woke-tells line wire h d apart h_end first before))

-- in the bytes of the greetings
pub greeted-tells : (wire : Wire) (d h : Half) {wake_bytes init_bytes : List ℕ} → wake_bytes ≡ bytes_of wake → init_bytes ≡ bytes_of init
    → Talks (record { handheld = wake_bytes ∷ []; desktop = init_bytes ∷ [] }) wire d h → Talks greeted wire d h
greeted-tells wire d h wake_is init_is tells = search rules
