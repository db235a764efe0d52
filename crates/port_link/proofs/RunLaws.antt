-- What a handheld performed at a port is a run of its device.
use Rattle.std.proofs.Common.{◌≡◌, List, [], ◌∷◌, inl, refl, sym, ap, subst}
use Rattle.dlp_commands.specs.DeviceRuns.{DeviceRun}
use Rattle.device_stream.proofs.HandLaws.{takes-once, run-on}
use Rattle.device_stream.specs.Hands.{Hand}
use Rattle.device_stream.specs.Laws.{DidOnce}
use Rattle.padp_end.specs.Outgoings.{OutgoingFragment}
use Rattle.palm_device.specs.Devices.{Device}
use Rattle.port_link.specs.Desks.{Event, Awaits, Begins, Came, Read}
use Rattle.port_link.specs.Logs.{EntryValue}
use Rattle.port_link.specs.Vigils.{Step, Steps, Vigil, waking}

did-nothing : (old new : Hand) → new ≡ old → DidOnce old new
did-nothing old new is = inl (record { device_is = ap (λ h. h.device) is; performed_is = ap (λ h. h.performed) is; replies_are = ap (λ h. h.replies) is })

step-once : (old new : Vigil) (event : Event) (said : List OutgoingFragment) → Step old event said new → DidOnce old.hand new.hand
step-once old new (Awaits id) said step = absurd step
step-once old new (Begins id message) said step = absurd step
step-once old new (Came packet) said step = takes-once old.hand new.hand packet said step.0
step-once old new (Read []) said step = inl (record {
  device_is = ap (λ v. v.hand.device) step.1;
  performed_is = ap (λ v. v.hand.performed) step.1;
  replies_are = ap (λ v. v.hand.replies) step.1;
})
step-once old new (Read (byte ∷ bytes)) said step = did-nothing old.hand new.hand (ap (λ v. v.hand) step.1)

steps-run : (device : Device) (old : Vigil) (events : List Event) (kept : List EntryValue) (new : Vigil) → Steps old events kept new
    → DeviceRun device old.hand.performed old.hand.replies old.hand.device → DeviceRun device new.hand.performed new.hand.replies new.hand.device
steps-run device old [] kept new steps run =
    subst (λ (v : Vigil). DeviceRun device v.hand.performed v.hand.replies v.hand.device) (sym steps.1) run
steps-run device old (event ∷ events) kept new (said, later, between, step, is, rest) run =
    steps-run device between events later new rest (run-on device run (step-once old between event said step))

pub waking-run : (device : Device) (events : List Event) (kept : List EntryValue) (vigil : Vigil) → Steps (waking device) events kept vigil
    → DeviceRun device vigil.hand.performed vigil.hand.replies vigil.hand.device
waking-run device events kept vigil steps = steps-run device (waking device) events kept vigil steps (record { same = refl; ran = refl })
