-- Where no device is told, nothing is told of acts.
use Rattle.std.proofs.Common.{◌≡◌, ◌∙◌, refl, ap, sym, ℕ, List, rules}
use Rattle.std.specs.Prelude.{Option, Some, None, IfSome, OnOk, Result, Ok, Err}
use Rattle.dlp_commands.specs.declared.link.LinkFault.{LinkFault}
use Rattle.dlp_commands.specs.Talks.{Talk}
use Rattle.desktop_session.specs.declared.fault.SessionFault.{SessionFault}
use Rattle.desktop_session.specs.Acts.{Act}
use Rattle.desktop_session.specs.Sessions.{SessionValue}
use Rattle.desktop_session.proofs.UntoldLaws.{does_none_told, stops_none_told}
use Rattle.mirrors.specs.Asks.{Asks}

on_ok : {A : Type 0} {P Q : Type 0} (answer : Result A SessionFault) → (P → Q) → OnOk answer P → OnOk answer Q
on_ok (Ok x) f holds = f holds
on_ok (Err cause) f holds = tt

asks_none_told : {L A : Type 0} {talk : L → Option Talk} {since : L → L → Type 0} {fault : L → Option LinkFault} {downs : L → ℕ} {xs : List Act}
    (ys : List Act) {old new : SessionValue L} {answer : Result A SessionFault}
    → talk old.link ≡ None → Asks talk since fault downs xs old new answer → Asks talk since fault downs ys old new answer
asks_none_told ys none asks = search (rules, stops_none_told, on_ok, does_none_told)

-- the same acts, by what is told
pub asks_as : {L A : Type 0} {talk : L → Option Talk} {since : L → L → Type 0} {fault : L → Option LinkFault} {downs : L → ℕ} {xs : List Act}
    (ys : Option Talk → List Act) {old new : SessionValue L} {answer : Result A SessionFault}
    → IfSome (talk old.link) (λ told. xs ≡ ys (Some told)) → Asks talk since fault downs xs old new answer
    → Asks talk since fault downs (ys (talk old.link)) old new answer
asks_as {L} {A} {talk} {since} {fault} {downs} {xs} ys {old} {new} {answer} same asks = by (talk old.link) refl same
  where
    by : (o : Option Talk) → talk old.link ≡ o → IfSome o (λ told. xs ≡ ys (Some told)) → Asks talk since fault downs (ys (talk old.link)) old new answer
    by None is same = asks_none_told (ys (talk old.link)) is asks
    by (Some told) is same = rw (← same ∙ ap ys (sym is)) asks
