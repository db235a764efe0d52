-- Where no device is told, nothing is told of acts.
use Rattle.std.proofs.Common.{◌≡◌, refl, ℕ, List, rules}
use Rattle.std.specs.Prelude.{Option, None}
use Rattle.dlp_commands.specs.declared.link.LinkFault.{LinkFault}
use Rattle.dlp_commands.specs.Talks.{Talk}
use Rattle.desktop_session.specs.Acts.{Act}
use Rattle.desktop_session.specs.Says.{grown, saying, sent}
use Rattle.desktop_session.specs.Stops.{Does, Stops}

grown_none : {o : Option Talk} (requests : List (List ℕ)) → o ≡ None → grown (sent o) requests ≡ None
unfolding grown sent
grown_none requests none = rw none refl

saying_none : {o : Option Talk} (acts : List Act) → o ≡ None → saying acts o ≡ None
unfolding saying
saying_none acts none = rw none refl

pub does_none_told : {L : Type 0} (talk : L → Option Talk) (xs ys : List Act) (old new : L) → talk old ≡ None → Does talk xs old new → Does talk ys old new
does_none_told talk xs ys old new none does = search (rules, saying_none, grown_none)

pub stops_none_told : {L : Type 0} {talk : L → Option Talk} {since : L → L → Type 0} {fault : L → Option LinkFault} {downs : L → ℕ} {xs : List (List ℕ)}
    (ys : List (List ℕ)) {old new : L}
    → talk old ≡ None → Stops talk since fault downs xs old new → Stops talk since fault downs ys old new
stops_none_told ys none stops = search (rules, grown_none)
