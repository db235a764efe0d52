-- At each of a session's steps the handheld has the databases that the session skips as they were, and so their files.
use Rattle.std.proofs.lemmas.Bool.Decides.{nat_tests}
use Rattle.std.proofs.Common.{◌≡◌, ◌∙◌, ◌≤◌, ap, refl, sym, subst, arith, ℕ, Bool, true, false, List, [], ◌∷◌, ◌++◌, length}
use Rattle.std.specs.Prelude.{Option, Some, None, IsSome, filter, map, nat_lt}
use Rattle.std.proofs.lemmas.List.{map-append}
use Rattle.std.proofs.lemmas.List.Elements.{filter-append}
use Rattle.pdb_values.specs.Databases.{DatabaseValue}
use Rattle.pdb_values.specs.NamedDatabases.{database_of}
use Rattle.palm_device.specs.Devices.{Device}
use Rattle.dlp_commands.specs.Changes.{changes}
use Rattle.dlp_commands.specs.DeviceRuns.{Exchange, Ran}
use Rattle.desktop_session.specs.Acts.{text}
use Rattle.desktop_session.specs.Requests.{reading_user}
use Rattle.dlp_commands.proofs.StepLaws.{changes-text}
use Rattle.desktop_session.specs.Says.{IsPrefix}
use Rattle.line_script.specs.Rules.{RuleValue}
use Rattle.sync_session.specs.Fronts.{MeetingFront}
use Rattle.session_plan.specs.Limits.{first_over}
use Rattle.sync_session.specs.Sessions.{before_writes, requests, writes_before_commit}
use Rattle.session_plan.specs.Tasks.{Meeting}
use Rattle.sync_session.proofs.QuietLaws.{quiet-before_writes}
use Rattle.front_laws.specs.Sound.{IsSoundMeeting}
use Rattle.front_laws.proofs.FrontLaws.{front-among, front-behind}
use Rattle.cmd_session.specs.Ends.{SessionLeft}
use Rattle.run_promises.specs.Kept.{KeepsBytes}
use Rattle.call_parts.specs.LineRuns.{LineRan, exchanges_in, log_in}
use Rattle.call_parts.specs.Told.{FolderTold}
use Rattle.call_parts.specs.declared.report.Report.{Report}
use Rattle.call_parts.proofs.EndLaws.{performed-prefix, prefix-count}
use Rattle.call_parts.proofs.FrontLaws.{exchanged-requests}
use Rattle.call_parts.proofs.FrontMoments.{front-some, replies_of, requests_of}
use Rattle.run_promises.proofs.KeptLaws.{HasSkipped, KeepsSkipped, kept-ran}
use Rattle.call_parts.proofs.LineLaws.{exchanged-parts}
use Rattle.cmd_files.proofs.QuietRuns.{quiet-run}
use Rattle.cmd_files.proofs.BackupActLaws.{none-of}

-- ---- where no limit is passed

at-front : (meeting : Meeting) (writes : ℕ) (given : List ℕ) (device : Device) → IsSoundMeeting meeting → first_over meeting ≡ None
    → MeetingFront meeting writes given device → HasSkipped meeting device
at-front meeting writes given device sound none front = by (nat_lt writes (writes_before_commit meeting)) refl
  where
    by : (b : Bool) → nat_lt writes (writes_before_commit meeting) ≡ b → HasSkipped meeting device
    by true is = (front-among meeting writes given device sound none front (few writes (writes_before_commit meeting) is)).others
      where
        few : (n most : ℕ) → nat_lt n most ≡ true → n ≤ most
        few n most is = grind (arith, nat_tests)
    by false is = (front-behind meeting writes given device sound none front (many writes (writes_before_commit meeting) is)).others
      where
        many : (n least : ℕ) → nat_lt n least ≡ false → least ≤ n
        many n least is = grind (arith, nat_tests)

-- ---- where one would be passed

none-both : (xs ys : List (List ℕ)) → xs ++ ys ≡ [] → xs ≡ []
none-both [] ys none = refl
none-both (x ∷ xs) ys none = cc

module _ {rules : List RuleValue} {device : Device} {before after : FolderTold} {report : Report} (line : LineRan rules device before after report) where
  -- requests that write nothing were performed, where those that were issued begin such
  pub no-changes : (meeting : Meeting) → IsPrefix (log_in report).issued (map text (before_writes meeting)) → filter changes (log_in report).performed ≡ []
  no-changes meeting over =
      let few = prefix-count (performed-prefix line.log over) in
      let count : length (filter changes (map text (before_writes meeting))) ≡ 0 = ap length (quiet-before_writes meeting) in
      none-of (filter changes (log_in report).performed) (omega (arith, few, count))

  -- nor were any where the user alone was asked for
  pub asked-none : IsPrefix (log_in report).issued (text reading_user ∷ []) → filter changes (log_in report).performed ≡ []
  unfolding text
  asked-none asked =
      let few = prefix-count (performed-prefix line.log asked) in
      let quiet = changes-text reading_user.asks in
      let count : length (filter changes (text reading_user ∷ [])) ≡ 0 = grind (arith, quiet) in
      none-of (filter changes (log_in report).performed) (omega (arith, few, count))

  none-front : (front back : List Exchange) → exchanges_in report ≡ front ++ back → filter changes (log_in report).performed ≡ []
      → filter changes (requests_of front) ≡ []
  none-front front back is none =
      let same = line.ran.same in
      let all = exchanged-requests (log_in report).performed (log_in report).replies (omega (arith, same)) in
      let parts : requests_of front ++ requests_of back ≡ (log_in report).performed =
      sym (map-append (λ (exchange : Exchange). exchange.request) front back) ∙ ap requests_of (sym is) ∙ all in
      none-both (filter changes (requests_of front)) (filter changes (requests_of back))
      (sym (filter-append changes (requests_of front) (requests_of back)) ∙ ap (λ (l : List (List ℕ)). filter changes l) parts ∙ none)

  same-front : (front back : List Exchange) (reached : Device) → exchanges_in report ≡ front ++ back → filter changes (log_in report).performed ≡ []
      → Ran device front reached → reached.databases ≡ device.databases
  same-front front back reached is none ran =
      (quiet-run (requests_of front) (replies_of front) device reached (none-front front back is none)
      (subst (λ (es : List Exchange). Ran device es reached) (sym (exchanged-parts front)) ran)).databases

-- ---- all of a session

module _ {rules : List RuleValue} {meeting : Meeting} {before after desk desk_after : FolderTold} {report : Report}
    (line : LineRan rules meeting.device before after report) (left : SessionLeft meeting after desk desk_after report) where
  keeps-skipped : KeepsSkipped meeting meeting.device (exchanges_in report)
  keeps-skipped front back reached is ran = by (first_over meeting) refl
    where
      by : (over : Option (List ℕ)) → first_over meeting ≡ over → HasSkipped meeting reached
      by None none skipped idle =
          let at = front-some meeting.device (requests meeting) line left.issued front back reached is ran in
          at-front meeting at.writes at.given reached left.sound none at.front skipped idle
      by (Some name) passed skipped idle =
          ap (λ (ds : List DatabaseValue). database_of skipped ds)
          (same-front line front back reached is (no-changes line meeting (left.over (subst IsSome (sym passed) refl))) ran)

  pub keeps-bytes : KeepsBytes meeting before.contents after.contents
  keeps-bytes = kept-ran meeting (exchanges_in report) before.contents after.contents meeting.device line.last line.files keeps-skipped
