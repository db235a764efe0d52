-- A reading's entries in rising ids, each with what is said or shown of it, are what is said or shown of each id.
use Rattle.std.proofs.Common.{◌≡◌, refl, ℕ, List, [], ◌∷◌, ◌++◌, map, option_to_list, arith, rules}
use Rattle.std.proofs.lemmas.Grind.{flat_map-append}
use Rattle.std.proofs.lemmas.List.{append-nil}
use Rattle.std.specs.Prelude.{Option, None, IfOk, IfSome, Result, Err}
use Rattle.std.specs.List.{flat_map}
use Rattle.pdb_values.specs.declared.record.Record.{Record}
use Rattle.palm_device.specs.Devices.{Device}
use Rattle.palm_device.specs.FreshIds.{is_among}
use Rattle.dlp_commands.specs.declared.link.LinkFault.{LinkFault}
use Rattle.dlp_commands.specs.Talks.{Talk}
use Rattle.conduit_rules.specs.ById.{each_id}
use Rattle.conduit_rules.specs.Views.{first_seen}
use Rattle.conduit_rules.specs.declared.view.Seen.{Seen}
use Rattle.conduit_rules.proofs.ByIdLaws.{each_below-same}
use Rattle.desktop_session.specs.declared.fault.SessionFault.{SessionFault}
use Rattle.desktop_session.specs.Acts.{Act}
use Rattle.desktop_session.specs.Sessions.{SessionValue}
use Rattle.mirrors.specs.Asks.{Asks}
use Rattle.mirrors.specs.Entries.{ordered}
use Rattle.mirrors.proofs.AskLaws.{none_said, said_part}
use Rattle.mirrors.specs.FastReads.{by_reading, reads_at, shown_at}
use Rattle.mirrors.specs.Shells.{AreRead, IsRead, filled_reads, filled_seen, shell}
use Rattle.mirrors.proofs.ViewLaws.{same_number}

flat_flat : {A B C : Type 0} (f : B → List C) (g : A → List B) (xs : List A) → flat_map f (flat_map g xs) ≡ flat_map (λ x. flat_map f (g x)) xs
flat_flat f g [] = refl
flat_flat f g (x ∷ xs) = grind (arith, flat_map-append, flat_flat f g xs)

-- what is said or shown of the first entry of an id

shells_at : {A : Type 0} (f changed : Seen → List A) {other : ℕ → List A} → ((id : ℕ) → f (shell id) ≡ other id) → (i : ℕ) (ids : List ℕ)
    → flat_map f (option_to_list (first_seen i (map shell ids))) ≡ by_reading changed (other i) None (is_among i ids)
shells_at f changed waiting i [] = refl
shells_at {A} f changed {other} waiting i (id ∷ ids) = grind (arith, shells_at f changed waiting i ids, append-nil, same_number)

entries_at : {A : Type 0} {f changed : Seen → List A} {other : ℕ → List A} → ((entry : Seen) → IsRead entry → f entry ≡ changed entry)
    → ((id : ℕ) → f (shell id) ≡ other id) → (i : ℕ) (ids : List ℕ) (seen : List Seen) → AreRead seen
    → flat_map f (option_to_list (first_seen i (seen ++ map shell ids))) ≡ by_reading changed (other i) (first_seen i seen) (is_among i ids)
entries_at {f} {changed} reading waiting i ids [] read = shells_at f changed waiting i ids
entries_at {A} {f} {changed} {other} reading waiting i ids (entry ∷ seen) read = grind (arith, entries_at reading waiting i ids seen read.1, append-nil)

whole : {A : Type 0} {f changed : Seen → List A} (other : ℕ → List A) → ((entry : Seen) → IsRead entry → f entry ≡ changed entry)
    → ((id : ℕ) → f (shell id) ≡ other id) → (ids : List ℕ) (seen : List Seen) → AreRead seen
    → flat_map f (ordered (seen ++ map shell ids)) ≡ each_id (λ i. by_reading changed (other i) (first_seen i seen) (is_among i ids))
whole other reading waiting ids seen read = grind (arith, flat_flat, each_below-same, entries_at)

-- an entry that was read is not read again, and is shown
read_once : (base : List Record) (handle : ℕ) (entry : Seen) → IsRead entry → filled_reads base handle entry ≡ []
read_once base handle entry read = rw read refl

read_shown : (base : List Record) (handle : ℕ) (device : Device) (entry : Seen) → IsRead entry → filled_seen base handle device entry ≡ entry ∷ []
read_shown base handle device entry read = rw read refl

pub whole_reads : (base : List Record) (handle : ℕ) (ids : List ℕ) (seen : List Seen) → AreRead seen
    → flat_map (filled_reads base handle) (ordered (seen ++ map shell ids)) ≡ each_id (reads_at base handle ids seen)
whole_reads base handle ids seen read = search (rules, whole, read_once)

pub whole_shown : (base : List Record) (handle : ℕ) (device : Device) (ids : List ℕ) (seen : List Seen) → AreRead seen
    → flat_map (filled_seen base handle device) (ordered (seen ++ map shell ids)) ≡ each_id (shown_at base handle device ids seen)
whole_shown base handle device ids seen read = search (rules, whole, read_shown)

-- the same of a session

pub others_asked : {L A : Type 0} {talk : L → Option Talk} {since : L → L → Type 0} {fault : L → Option LinkFault} {downs : L → ℕ} (base : List Record)
    (handle : ℕ) (ids : List ℕ) {all entries : List Seen} (seen : List Seen) {old new : SessionValue L} {answer : Result A SessionFault}
    → AreRead seen → all ≡ seen ++ map shell ids → entries ≡ ordered all
    → Asks talk since fault downs (flat_map (filled_reads base handle) entries) old new answer
    → Asks talk since fault downs (each_id (reads_at base handle ids seen)) old new answer
others_asked base handle ids seen read added kept asks = search (rules, whole_reads)

pub others_shown : {A : Type 0} (items : A → List Seen) (told : Option Talk) (base : List Record) (handle : ℕ) (ids : List ℕ) {all entries : List Seen}
    (seen : List Seen) (answer : Result A SessionFault)
    → AreRead seen → all ≡ seen ++ map shell ids → entries ≡ ordered all
    → IfOk answer (λ view. IfSome told (λ talk. items view ≡ flat_map (filled_seen base handle talk.device) entries))
    → IfOk answer (λ view. IfSome told (λ talk. items view ≡ each_id (shown_at base handle talk.device ids seen)))
others_shown items told base handle ids seen answer read added kept shown = grind (arith, whole_shown)

pub none_asked : {L A : Type 0} (talk : L → Option Talk) {since : L → L → Type 0} (fault : L → Option LinkFault) (downs : L → ℕ)
    (itself : (a : L) → since a a) (acts : List Act) (old : SessionValue L) (cause : SessionFault)
    → Asks {A = A} talk since fault downs acts old old (Err cause)
none_asked talk {since} fault downs itself acts old cause =
    said_part acts cause (none_said talk since fault downs itself old)
