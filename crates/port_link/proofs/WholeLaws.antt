-- What a desktop's end listened for is whole.
use Rattle.std.proofs.Common.{◌≡◌, ℕ, Bool, true, false, List, [], ◌∷◌, refl, sym, ap, ◌∙◌, inl, inr, subst, nat_eq, length}
use Rattle.std.specs.Prelude.{Option, Some, None, Result, Ok, Err, ◌-◌, is_some, if◌then◌else◌}
use Rattle.std.specs.Option.{unwrap_or}
use Rattle.padp_end.proofs.TakingLaws.{end_takes-whole}
use Rattle.padp_end.specs.Ends.{end_takes, is_spent}
use Rattle.padp_end.specs.declared.heard.Heard.{Heard}
use Rattle.padp_end.specs.declared.heard.Heard.TheVariants as heard
use Rattle.padp_link.specs.Receivers.{whole_of}
use Rattle.padp_link.specs.Senders.{waiting}
use Rattle.port_line.specs.declared.port_fault.PortFault.{PortFault}
use Rattle.port_line.specs.declared.port_fault.PortFault.TheVariants.{Failed, NoMemory}
use Rattle.port_link.specs.declared.awaited.Awaited.TheVariants.{Message}
use Rattle.port_link.specs.declared.desk.Desk.{Desk}
use Rattle.port_link.specs.declared.turn.Turn.{Turn}
use Rattle.port_link.specs.declared.turn.Turn.TheVariants as then
use Rattle.port_link.specs.Calls.{Says}
use Rattle.port_link.specs.Causes.{cause_of}
use Rattle.port_link.specs.Courses.{Scene}
use Rattle.padp_end.specs.Arrivals.{arrival_of}
use Rattle.slp_frames.specs.PacketText.{PacketValue}
use Rattle.port_link.specs.Desks.{Event, Awaits, Begins, Came, Read, Reaction, idle_silence, is_greeting, reacts, silence, turn_of, waiting_silence}
use Rattle.port_link.specs.Listening.{Listens, EndsWith}

-- the end has a whole message
pub record HasWhole (desk : Desk) : Type 0 where
  pub message : List ℕ
  pub is : whole_of desk.end.receiver.pieces ≡ Some message

no-turn : (b : Bool) (x y : Turn) → (then.Whole ≡ x → ⊥) → (then.Whole ≡ y → ⊥) → then.Whole ≡ (if b then x else y) → ⊥
no-turn true x y not_x not_y e = not_x e
no-turn false x y not_x not_y e = not_y e

no-reaction : (b : Bool) (x y : Reaction) → (then.Whole ≡ x.turn → ⊥) → (then.Whole ≡ y.turn → ⊥) → then.Whole ≡ (if b then x else y).turn → ⊥
no-reaction true x y not_x not_y e = not_x e
no-reaction false x y not_x not_y e = not_y e

pub heard-message : (hears : Heard) (packet : PacketValue) → then.Whole ≡ turn_of hears packet → hears ≡ heard.Message
heard-message heard.Nothing packet e = absurd (no-turn (is_greeting (arrival_of packet)) then.Greeted then.GoesOn
    (λ (e : then.Whole ≡ then.Greeted). cc) (λ (e : then.Whole ≡ then.GoesOn). cc) e)
heard-message heard.Tickle packet e = cc
heard-message heard.Delivered packet e = cc
heard-message heard.Message packet e = refl
heard-message heard.Stop packet e = cc

-- silence makes nothing whole
pub silence-not_whole : (desk : Desk) → then.Whole ≡ (silence desk).turn → ⊥
silence-not_whole desk e =
    no-reaction (is_some (waiting desk.end.sender)) (waiting_silence desk) (idle_silence desk)
    (λ (e : then.Whole ≡ (waiting_silence desk).turn). no-turn (is_spent desk.end) then.Spent then.GoesOn (λ (e : then.Whole ≡ then.Spent). cc) (λ (e : then.Whole ≡ then.GoesOn). cc) e)
    (λ (e : then.Whole ≡ (idle_silence desk).turn). no-turn (nat_eq (desk.patience - 1) 0) then.Silent then.Quiet (λ (e : then.Whole ≡ then.Silent). cc) (λ (e : then.Whole ≡ then.Quiet). cc) e)
    e

reacts-whole : (desk : Desk) (event : Event) → then.Whole ≡ (reacts desk event).turn → HasWhole (reacts desk event).desk
reacts-whole desk (Awaits id) e = cc
reacts-whole desk (Begins id message) e = cc
reacts-whole desk (Came packet) e =
    let it = end_takes-whole desk.end packet (heard-message (end_takes desk.end packet).heard packet e) in
    record { message = it.message; is = it.whole }
reacts-whole desk (Read []) e = absurd (silence-not_whole desk e)
reacts-whole desk (Read (byte ∷ bytes)) e = cc

listens-whole : (old new : Scene) → Listens Message old new (Ok then.Whole) → HasWhole new.desk
listens-whole old new listens = go listens.ends where
  go : EndsWith Message (length listens.events) (Ok then.Whole) listens.between new → HasWhole new.desk
  go (inl ends) = subst HasWhole (sym ends.0.3.desk) (reacts-whole listens.between.desk ends.0.0 ends.0.2)
  go (inr ends) = let e : then.Whole ≡ then.GoesOn = ends.1 in cc

pub not_delivered : (old new : Scene) → Listens Message old new (Ok then.Delivered) → ⊥
not_delivered old new listens = go listens.ends where
  go : EndsWith Message (length listens.events) (Ok then.Delivered) listens.between new → ⊥
  go (inl ends) = let e : false ≡ true = ends.1 in cc
  go (inr ends) = let e : then.Delivered ≡ then.GoesOn = ends.1 in cc

answer-whole : (old new : Scene) (answer : Result Turn PortFault) → None ≡ cause_of answer → Listens Message old new answer → HasWhole new.desk
answer-whole old new (Ok then.Whole) none listens = listens-whole old new listens
answer-whole old new (Ok then.Delivered) none listens = absurd (not_delivered old new listens)
answer-whole old new (Ok then.GoesOn) none listens = cc
answer-whole old new (Ok then.Quiet) none listens = cc
answer-whole old new (Ok then.Spent) none listens = cc
answer-whole old new (Ok then.Silent) none listens = cc
answer-whole old new (Ok then.Aborted) none listens = cc
answer-whole old new (Ok then.Greeted) none listens = cc
answer-whole old new (Err Failed) none listens = cc
answer-whole old new (Err NoMemory) none listens = cc

pub fault-caused : (fault : PortFault) → None ≡ cause_of (Err fault) → ⊥
fault-caused Failed e = cc
fault-caused NoMemory e = cc

-- where nothing went wrong the message is whole
pub says-whole : (acts : List Event) (old new : Scene) (answer : Result Turn PortFault) → None ≡ cause_of answer → Says Message acts old new answer
    → HasWhole new.desk
says-whole acts old new answer none (inl says) = answer-whole says.0 new answer none says.2
says-whole acts old new answer none (inr says) = absurd (fault-caused says.0 (none ∙ ap cause_of says.1))

-- and it is what is filled in
pub reply-whole : (desk : Desk) (reply : List ℕ) → HasWhole desk → reply ≡ unwrap_or (whole_of desk.end.receiver.pieces) []
    → whole_of desk.end.receiver.pieces ≡ Some reply
reply-whole desk reply whole is = whole.is ∙ ap Some (sym (is ∙ ap (λ (o : Option (List ℕ)). unwrap_or o []) whole.is))
