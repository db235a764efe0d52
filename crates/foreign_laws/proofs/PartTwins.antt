-- What a session asks in parts ends alike, where its parts do.
use Rattle.std.proofs.Common.{ap, ℕ, zero, suc, ◌+◌, Bool, true, false, cond, List, [], ◌∷◌, ◌++◌, length, map}
use Rattle.std.specs.Prelude.{Option, Some, None, Result, Ok, option_to_list}
use Rattle.std.specs.Option.{option_map}
use Rattle.pdb_values.specs.Contents.{ContentValue}
use Rattle.pdb_values.specs.declared.record.Record.{Record}
use Rattle.pdb_values.specs.declared.user.Marks.{Marks}
use Rattle.conduit_rules.specs.States.{BaseState, no_base, row, gone, base_at}
use Rattle.conduit_rules.specs.declared.planned.Plan.{Plan}
use Rattle.conduit_rules.specs.declared.view.Seen.{Seen}
use Rattle.conduit_rules.specs.declared.view.SeenState.TheVariants.{Unread}
use Rattle.desktop_session.specs.declared.fault.SessionFault.{SessionFault}
use Rattle.desktop_session.specs.declared.seat.UserWish.{UserWish}
use Rattle.desktop_session.specs.Asking.{closes}
use Rattle.desktop_session.specs.Greeted.{greets}
use Rattle.desktop_session.specs.Inquiries.{Ends, Inquiry, ◌>>=◌}
use Rattle.mirrors.specs.Entries.{ordered, seen_of}
use Rattle.mirrors.specs.ReadInquiries.{fills_next, fills_one, goes_on, reads_changed, reads_fast, reads_from, reads_next, reads_of, reads_one, reads_other, reads_slowly, seen_as}
use Rattle.mirrors.specs.ReadInquiries as reading
use Rattle.mirrors.specs.Shells.{shell, waits}
use Rattle.mirrors.specs.WriteInquiries.{adds_each, purges, removes_each, replaces_each, sends_news}
use Rattle.session_parts.specs.Inquiries.{each, under}
use Rattle.dlp_commands.specs.DeviceSteps.{DeviceStep}
use Rattle.foreign_laws.specs.Foreign.{Foreign, ForeignStep}
use Rattle.foreign_laws.specs.Twins.{EndsAlike, HasTwin, OpensAlike}
use Rattle.foreign_laws.proofs.AskTwins.{twin_cleans, twin_closes, twin_conduits, twin_counts, twin_puts, twin_removes, twin_resets, twin_user}
use Rattle.foreign_laws.proofs.EndLaws.{ends_parts, ends_then}
use Rattle.foreign_laws.proofs.IdTwins.{twin_ids}
use Rattle.foreign_laws.proofs.RecordTwins.{twin_at, twin_next, twin_of}
use Rattle.foreign_laws.proofs.StepLaws.{stays_foreign}

-- ---- parts

pub twin_bind : {A B : Type 0} {part own : Inquiry A} {next then : A → Inquiry B} → HasTwin part own → ((x : A) → HasTwin (next x) (then x))
    → HasTwin (part >>= next) (own >>= then)
twin_bind {A} {B} {part} {own} {next} {then} first rest = record {
  ends = λ old new y proper ended.
      let parts = ends_parts ForeignStep part next old y new ended in
      ends_then DeviceStep own then old.device parts.x parts.between.device y new.device (first.ends old parts.between parts.x proper parts.first)
      ((rest parts.x).ends parts.between new y (stays_foreign part old parts.between parts.x proper parts.first) parts.rest);
}

pub twin_end : {A : Type 0} (answer : Result A SessionFault) → EndsAlike (Ends answer)
twin_end answer = record { ends = λ old new x proper ended. (ended.0, ap (λ (hand : Foreign). hand.device) ended.1) }

-- what is asked under the handle that an opening tells
pub twin_under : {A : Type 0} {opening : Inquiry ℕ} {inner : ℕ → Inquiry A} → OpensAlike opening → ((handle : ℕ) → HasTwin (inner handle) (inner 1))
    → EndsAlike (under opening inner)
twin_under {A} {opening} {inner} opens alike = record {
  ends = λ old new y proper ended.
      let next : ℕ → Inquiry A = λ handle. inner handle >>= λ answer. closes handle >>= λ closed. Ends (Ok answer) in
      let parts = ends_parts ForeignStep opening next old y new ended in
      let rest : HasTwin (next parts.x) (next 1) =
      twin_bind (alike parts.x) (λ answer. twin_bind (twin_closes parts.x) (λ closed. twin_end (Ok answer))) in
      ends_then DeviceStep opening next old.device 1 parts.between.device y new.device (opens.opens old parts.between parts.x proper parts.first)
      (rest.ends parts.between new y (stays_foreign opening old parts.between parts.x proper parts.first) parts.rest);
}

pub twin_each : {J A : Type 0} (ask : J → Inquiry A) → ((job : J) → EndsAlike (ask job)) → (answers : List A) (jobs : List J)
    → EndsAlike (each ask answers jobs)
unfolding each
twin_each ask alike answers [] = twin_end (Ok answers)
twin_each ask alike answers (job ∷ jobs) =
    twin_bind (alike job) (λ answer. twin_each ask alike (answers ++ answer ∷ []) jobs)

-- ---- the greeting

pub twin_greets : (marks : List Marks) (wish : UserWish) → EndsAlike (greets marks wish)
twin_greets marks wish = twin_bind (twin_user marks wish) (λ user. twin_bind twin_conduits (λ done. twin_end (Ok user)))

-- ---- readings

module _ (handle : ℕ) where
  twin_one : (index : ℕ) → HasTwin (reads_one handle index) (reads_one 1 index)
  twin_one index = twin_bind (twin_at handle index) (λ lent. twin_end (Ok (seen_of lent)))

  pub twin_from : (count index : ℕ) (seen : List Seen) → HasTwin (reads_from handle index count seen) (reads_from 1 index count seen)
  unfolding reads_from
  twin_from zero index seen = twin_end (Ok seen)
  twin_from (suc count) index seen = twin_bind (twin_one index) (λ one. twin_from count (index + 1) (seen ++ one ∷ []))

  pub twin_slowly : HasTwin (reads_slowly handle) (reads_slowly 1)
  twin_slowly = twin_bind (twin_counts handle) (λ count. twin_bind (twin_from count 0 []) (λ seen. twin_end (Ok (ordered seen))))

  twin_reads_next : HasTwin (reads_next handle) (reads_next 1)
  twin_reads_next = twin_bind (twin_next handle) (λ found. twin_end (Ok (option_map seen_of found)))

  twin_goes_on : {A B : Type 0} (found : Option B) (ends own : Inquiry A) (more then : B → Inquiry A) → HasTwin ends own
      → ((x : B) → HasTwin (more x) (then x)) → HasTwin (goes_on found ends more) (goes_on found own then)
  twin_goes_on None ends own more then first rest = first
  twin_goes_on (Some x) ends own more then first rest = rest x

  pub twin_changed : (most : ℕ) (seen : List Seen) → HasTwin (reads_changed handle most seen) (reads_changed 1 most seen)
  unfolding reads_changed
  twin_changed zero seen = twin_end (Ok seen)
  twin_changed (suc most) seen =
      twin_bind twin_reads_next (λ found. twin_goes_on found _ _ _ _ (twin_end (Ok seen)) (λ one. twin_changed most (seen ++ one ∷ [])))

  twin_reads_of : (id : ℕ) → HasTwin (reads_of handle id) (reads_of 1 id)
  twin_reads_of id = twin_bind (twin_of handle id) (λ found. twin_end (Ok (option_map (seen_as id) found)))

  twin_other : (id : ℕ) (state : BaseState) → HasTwin (reads_other handle id state) (reads_other 1 id state)
  twin_other id (row content) = twin_end (Ok (Some (record { id = id; state = Unread; content = content })))
  twin_other id no_base = twin_reads_of id
  twin_other id (gone content) = twin_reads_of id

  twin_if : {A : Type 0} (b : Bool) (asked own ends : Inquiry A) → HasTwin asked own → EndsAlike ends
      → HasTwin (cond b asked ends) (cond b own ends)
  twin_if true asked own ends first rest = first
  twin_if false asked own ends first rest = rest

  twin_fills_one : (base : List Record) (entry : Seen) → HasTwin (fills_one base handle entry) (fills_one base 1 entry)
  twin_fills_one base entry = twin_if (waits entry.state) _ _ _ (twin_other entry.id (base_at base false entry.id)) (twin_end (Ok (Some entry)))

  pub twin_fills : (base : List Record) (entries seen : List Seen) → HasTwin (reading.fills base handle entries seen) (reading.fills base 1 entries seen)
  unfolding reading.fills
  twin_fills base [] seen = twin_end (Ok seen)
  twin_fills base (entry ∷ entries) seen =
      twin_bind (twin_bind (twin_fills_one base entry) (λ found. twin_end (Ok (seen ++ option_to_list found))))
      (λ more. twin_fills base entries more)

  pub twin_fast : (base : List Record) → HasTwin (reads_fast base handle) (reads_fast base 1)
  twin_fast base =
      twin_bind (twin_ids handle)
      (λ ids. twin_bind (twin_changed (suc (length ids)) []) (λ seen. twin_fills base (ordered (seen ++ map shell ids)) []))

  -- ---- writings

  twin_replaces : (entries : List (ℕ × ContentValue)) → HasTwin (replaces_each handle entries) (replaces_each 1 entries)
  unfolding replaces_each
  twin_replaces [] = twin_end (Ok tt)
  twin_replaces (entry ∷ entries) = twin_bind (twin_puts handle entry.0 entry.1) (λ id. twin_replaces entries)

  twin_adds : (contents : List ContentValue) (ids : List ℕ) → HasTwin (adds_each handle contents ids) (adds_each 1 contents ids)
  unfolding adds_each
  twin_adds [] ids = twin_end (Ok ids)
  twin_adds (content ∷ contents) ids = twin_bind (twin_puts handle 0 content) (λ id. twin_adds contents (ids ++ id ∷ []))

  pub twin_news : (plan : Plan) → HasTwin (sends_news handle plan) (sends_news 1 plan)
  twin_news plan = twin_bind (twin_replaces plan.replace.items) (λ done. twin_adds plan.adds.items [])

  twin_removes_each : (ids : List ℕ) → HasTwin (removes_each handle ids) (removes_each 1 ids)
  unfolding removes_each
  twin_removes_each [] = twin_end (Ok tt)
  twin_removes_each (id ∷ ids) = twin_bind (twin_removes handle id) (λ found. twin_removes_each ids)

  pub twin_purges : (ids : List ℕ) → HasTwin (purges handle ids) (purges 1 ids)
  twin_purges ids = twin_bind (twin_removes_each ids) (λ removed. twin_bind (twin_cleans handle) (λ cleaned. twin_resets handle))
