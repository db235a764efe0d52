-- Databases that are read whole, one after another, each kept in its file.
use Rattle.std.proofs.lemmas.List.{append-nil, map-append}
use Rattle.std.proofs.Common.{inl, inr, ◌≡◌, ◌≢◌, ◌∙◌, ◌+◌, ◌≤◌, ap, refl, sym, subst, ℕ, List, [], ◌∷◌, ◌++◌, length, map, take, append_assoc}
use Rattle.std.specs.Prelude.{Option, Some, None, IfErr, IsErrOf, OnOk, Result, Ok, Err}
use Rattle.std.specs.Global.{Vec}
use Rattle.std.specs.FinMap as finmap
use Rattle.std.specs.Option.{option_map}
use Rattle.hs_folders.specs.FileMaps.{FileMap}
use Rattle.hs_folders.specs.Moments.{EachMomentSince, IsBeforeOrAfter, Moments}
use Rattle.hs_folders.proofs.MomentLaws.{moments_go_on, moments_weaken, no_moment}
use Rattle.pdb_values.specs.Databases.{DatabaseValue}
use Rattle.pdb_values.specs.declared.head.DbHead.{DbHead}
use Rattle.desk_journal.specs.Entries.{EntryValue}
use Rattle.desk_journal.specs.Overlays.{put_all}
use Rattle.desktop_session.proofs.StopLaws.{fell_none, stops_none}
use Rattle.desktop_session.specs.declared.fault.SessionFault.TheVariants as session
use Rattle.mirrors.proofs.NewsLaws.{SplitAt, take_none}
use Rattle.session_parts.specs.Causes.{IsLater}
use Rattle.session_parts.specs.Spans.{Spans}
use Rattle.session_parts.specs.declared.stop.Stop.{Stop}
use Rattle.session_parts.specs.declared.stop.Stop.TheVariants as stop
use Rattle.session_parts.proofs.EachLaws.{EachSoFar, each_none, each_on}
use Rattle.session_parts.proofs.LinkWords.{Does, LinkFault, SessionFault, SessionValue, Talk, text}
use Rattle.install_backup.specs.declared.moved.Moved.{Moved}
use Rattle.install_backup.specs.Backups.{HasSome, IsBackupCause, IsKept, IsUnkept, KeepsOne, KeepsSome, SaysCopied, backups_under, file_of, kept_moved, next_acts}
use Rattle.desk_journal.proofs.StepLaws.{none_put}
use Rattle.session_parts.proofs.HandleLaws.{one_first}
use Rattle.desktop_session.proofs.GrowLaws.{take_whole}

put_all-append : (xs ys : List EntryValue) (held : FileMap) → put_all (xs ++ ys) held ≡ put_all ys (put_all xs held)
put_all-append [] ys held = refl
put_all-append (x ∷ xs) ys held = put_all-append xs ys (finmap.insert held x.name x.bytes)

put_twice : (xs ys : List EntryValue) (o : Option FileMap) → option_map (put_all ys) (option_map (put_all xs) o) ≡ option_map (put_all (xs ++ ys)) o
put_twice xs ys None = refl
put_twice xs ys (Some held) = ap (λ (m : FileMap). Some m) (sym (put_all-append xs ys held))

-- ---- the files at a moment

-- all are kept
has_all : (files : List EntryValue) (before told : Option FileMap) → told ≡ option_map (put_all files) before → HasSome files before told
has_all files before told is = record { kept = files; later = []; parts = append-nil files; is = is }

-- a beginning of the first ones is one of all
has_some-append : (files more : List EntryValue) (before told : Option FileMap) → HasSome files before told → HasSome (files ++ more) before told
has_some-append files more before told some = record {
  kept = some.kept;
  later = some.later ++ more;
  parts = sym (append_assoc some.kept some.later more) ∙ ap (λ (es : List EntryValue). es ++ more) some.parts;
  is = some.is;
}

-- what both before and after a change have, each moment of it has
either : (P : Option FileMap → Type 0) {before after : Option FileMap} → P before → P after → (told : Option FileMap) → IsBeforeOrAfter before after told → P told
either P first second told (inl is) = subst P (sym is) first
either P first second told (inr is) = subst P (sym is) second

-- ---- what goes out

-- ---- one

module _ {L F : Type 0} {talk : L → Option Talk} {since : L → L → Type 0} {fault : L → Option LinkFault} {downs : L → ℕ} (contents : F → Option FileMap) (moments : F → Moments)
    {head : DbHead} {old new : SessionValue L} {folder after : F} where
  pub one_unread : {cause : SessionFault} {why : Stop} → Spans talk since fault downs (backups_under (talk old.link) head) (SaysCopied (talk old.link) head) old new (Err cause)
      → after ≡ folder → why ≡ stop.Session cause → KeepsOne talk since fault downs contents moments head old new folder after (Err why)
  one_unread {cause} spans same is = record {
    read = Err cause;
    spans = spans;
    kept = (ap contents same, is);
    each_moment = no_moment (IsBeforeOrAfter (contents folder) (contents after)) (moments folder) (moments after) (ap moments same);
  }

  pub one_unkept : {whole : DatabaseValue} {why : Stop} → Spans talk since fault downs (backups_under (talk old.link) head) (SaysCopied (talk old.link) head) old new (Ok whole)
      → contents after ≡ contents folder → IsUnkept why
      → EachMomentSince (IsBeforeOrAfter (contents folder) (contents after)) (moments folder) (moments after)
      → KeepsOne talk since fault downs contents moments head old new folder after (Err why)
  one_unkept {whole} spans same is each = record { read = Ok whole; spans = spans; kept = (same, is); each_moment = each }

  pub one_kept : {whole : DatabaseValue} {moved : Moved} → Spans talk since fault downs (backups_under (talk old.link) head) (SaysCopied (talk old.link) head) old new (Ok whole)
      → contents after ≡ option_map (put_all (file_of whole ∷ [])) (contents folder) → moved ≡ kept_moved whole
      → EachMomentSince (IsBeforeOrAfter (contents folder) (contents after)) (moments folder) (moments after)
      → KeepsOne talk since fault downs contents moments head old new folder after (Ok moved)
  one_kept {whole} spans put is each = record { read = Ok whole; spans = spans; kept = (put, is); each_moment = each }

-- ---- several

-- these were read whole so far, and are kept
pub record KeptSoFar {L F : Type 0} (talk : L → Option Talk) (since : L → L → Type 0) (fault : L → Option LinkFault) (downs : L → ℕ)
    (contents : F → Option FileMap) (moments : F → Moments) (done : List DbHead) (moved : List Moved) (old now : SessionValue L) (folder after : F) : Type 0 where
  pub wholes : List DatabaseValue
  pub each : EachSoFar talk since fault downs backups_under SaysCopied done wholes old now
  pub files : contents after ≡ option_map (put_all (map file_of wholes)) (contents folder)
  pub each_moment : EachMomentSince (HasSome (map file_of wholes) (contents folder)) (moments folder) (moments after)
  pub told : moved ≡ map kept_moved wholes

module _ {L F : Type 0} {talk : L → Option Talk} {since : L → L → Type 0} {fault : L → Option LinkFault} {downs : L → ℕ} {contents : F → Option FileMap} {moments : F → Moments}
    {old : SessionValue L} {folder : F} where
  pub kept_begin : (itself : (a : L) → since a a) (heads : List DbHead) {moved : List Moved} → moved ≡ []
      → KeptSoFar talk since fault downs contents moments (take 0 heads) moved old old folder folder
  kept_begin itself heads none = record {
    wholes = [];
    each = subst (λ (hs : List DbHead). EachSoFar talk since fault downs backups_under SaysCopied hs [] old old) (sym (take_none heads)) (each_none itself);
    files = none_put (contents folder);
    each_moment = no_moment (HasSome [] (contents folder)) (moments folder) (moments folder) refl;
    told = none;
  }

  module _ {heads : List DbHead} {k : ℕ} {head : DbHead} (split : SplitAt heads k head) {moved : List Moved} {now new : SessionValue L} {here after : F} where
    -- one more
    pub kept_on : (since_more : (a b c : L) → since a b → since b c → since a c) {one : Moved} {more : List Moved}
        → KeptSoFar talk since fault downs contents moments (take k heads) moved old now folder here → KeepsOne talk since fault downs contents moments head now new here after (Ok one)
        → more ≡ moved ++ one ∷ [] → KeptSoFar talk since fault downs contents moments (take (k + 1) heads) more old new folder after
    kept_on since_more {one} {more} before step grown = by step.read step.spans step.kept
      where
        put : (whole : DatabaseValue) → contents after ≡ option_map (put_all (file_of whole ∷ [])) (contents here)
            → contents after ≡ option_map (put_all (map file_of before.wholes ++ file_of whole ∷ [])) (contents folder)
        put whole is =
            is ∙ ap (option_map (put_all (file_of whole ∷ []))) before.files ∙ put_twice (map file_of before.wholes) (file_of whole ∷ []) (contents folder)

        passed : (whole : DatabaseValue) → contents after ≡ option_map (put_all (map file_of before.wholes ++ file_of whole ∷ [])) (contents folder)
            → EachMomentSince (HasSome (map file_of before.wholes ++ file_of whole ∷ []) (contents folder)) (moments folder) (moments after)
        passed whole is =
            let first = map file_of before.wholes in
            let files = first ++ file_of whole ∷ [] in
            let Some_of : Option FileMap → Type 0 = HasSome files (contents folder) in
            moments_go_on Some_of (moments folder) (moments here) (moments after)
            (moments_weaken (HasSome first (contents folder)) Some_of (moments folder) (moments here) before.each_moment
            (has_some-append first (file_of whole ∷ []) (contents folder)))
            (moments_weaken (IsBeforeOrAfter (contents here) (contents after)) Some_of (moments here) (moments after) step.each_moment
            (either Some_of (has_some-append first (file_of whole ∷ []) (contents folder) (contents here)
            (has_all first (contents folder) (contents here) before.files)) (has_all files (contents folder) (contents after) is)))

        by : (read : Result DatabaseValue SessionFault)
            → Spans talk since fault downs (backups_under (talk now.link) head) (SaysCopied (talk now.link) head) now new read
            → IsKept read (contents here) (contents after) (Ok one)
            → KeptSoFar talk since fault downs contents moments (take (k + 1) heads) more old new folder after
        by (Ok whole) spans kept = record {
          wholes = before.wholes ++ whole ∷ [];
          each = each_on split since_more before.each spans;
          files = put whole kept.0
              ∙ ap (λ (files : List EntryValue). option_map (put_all files) (contents folder)) (sym (map-append file_of before.wholes (whole ∷ [])));
          each_moment = subst (λ (files : List EntryValue). EachMomentSince (HasSome files (contents folder)) (moments folder) (moments after))
              (sym (map-append file_of before.wholes (whole ∷ []))) (passed whole (put whole kept.0));
          told = grown ∙ ap (λ (m : Moved). moved ++ m ∷ []) kept.1 ∙ ap (λ (ms : List Moved). ms ++ kept_moved whole ∷ []) before.told
              ∙ sym (map-append kept_moved before.wholes (whole ∷ []));
        }
        by (Err cause) spans kept = absurd kept

    -- the next was refused, or its file
    pub kept_stop : {why : Stop} → KeptSoFar talk since fault downs contents moments (take k heads) moved old now folder here
        → KeepsOne talk since fault downs contents moments head now new here after (Err why)
        → KeepsSome talk since fault downs contents moments heads old new folder after (Err why)
    kept_stop {why} before step = record {
      done = take k heads;
      rest = head ∷ split.rest;
      parts = split.is;
      stretches = before.each.stretches;
      wholes = before.wholes;
      now = now.link;
      firsts = before.each.firsts;
      stops = before.each.so.stops;
      does = before.each.so.does;
      said = before.each.said;
      files = same step.read step.kept ∙ before.files;
      each_moment = moments_go_on (HasSome (map file_of before.wholes) (contents folder)) (moments folder) (moments here) (moments after)
          before.each_moment
          (moments_weaken (IsBeforeOrAfter (contents here) (contents after)) (HasSome (map file_of before.wholes) (contents folder)) (moments here)
          (moments after) step.each_moment
          (either (HasSome (map file_of before.wholes) (contents folder)) (has_all (map file_of before.wholes) (contents folder) (contents here) before.files)
          (has_all (map file_of before.wholes) (contents folder) (contents after) (same step.read step.kept ∙ before.files))));
      next = record { handle = step.spans.handle; given = step.spans.given };
      first = step.spans.first;
      behind = step.spans.stops;
      unkept = λ is. read_whole step.read step.kept step.spans.does is;
      all = tt;
      told = tt;
      cause = cause_of why step.read step.kept step.spans.cause;
      closed = tt;
    }
      where
        same : (read : Result DatabaseValue SessionFault) → IsKept read (contents here) (contents after) (Err why)
            → contents after ≡ contents here
        same (Ok whole) kept = kept.0
        same (Err cause) kept = kept.0

        faulted : (cause : SessionFault) → why ≡ stop.Session cause → IsErrOf {T = Vec Moved} (Err why) stop.DeskFault → ⊥
        faulted cause is other = cc

        read_whole : (read : Result DatabaseValue SessionFault) → IsKept read (contents here) (contents after) (Err why)
            → OnOk read (Does talk (backups_under (talk now.link) head step.spans.handle step.spans.given) now.link new.link)
            → IsErrOf {T = Vec Moved} (Err why) stop.DeskFault
            → (head ∷ split.rest ≢ []) × Does talk (backups_under (talk now.link) head step.spans.handle step.spans.given) now.link new.link
        read_whole (Ok whole) kept does is = (λ none. cc, does)
        read_whole (Err cause) kept does is = absurd (faulted cause kept.1 is)

        unkept : (why : Stop) → IsUnkept why → IsBackupCause talk fault new.link why
        unkept stop.DeskFault is = tt
        unkept (stop.Session session.NoMemory) is = tt
        unkept (stop.Session session.Down) is = absurd is
        unkept (stop.Session (session.Refused function code)) is = absurd is
        unkept (stop.Session (session.OtherUser one two)) is = absurd is
        unkept (stop.Session (session.BadReply function broken)) is = absurd is
        unkept (stop.Session session.TooManyUsers) is = absurd is
        unkept (stop.Limit name) is = absurd is
        unkept (stop.NewHandheld name) is = absurd is

        cause_of : (why : Stop) (read : Result DatabaseValue SessionFault) → IsKept read (contents here) (contents after) (Err why)
            → IfErr read (IsLater (talk new.link) (fault new.link)) → IsBackupCause talk fault new.link why
        cause_of why (Ok whole) kept later = unkept why kept.1
        cause_of why (Err cause) kept later = subst (IsBackupCause talk fault new.link) (sym kept.1) later

  module _ {heads : List DbHead} {k : ℕ} {head : DbHead} (split : SplitAt heads k head) {new : SessionValue L} {after : F} where
    -- memory ran out behind it
    pub kept_lost : (itself : (a : L) → since a a) {more : List Moved} → KeptSoFar talk since fault downs contents moments (take (k + 1) heads) more old new folder after
        → KeepsSome talk since fault downs contents moments heads old new folder after (Err (stop.Session session.NoMemory))
    kept_lost itself before = record {
      done = take (k + 1) heads;
      rest = split.rest;
      parts = ap (λ (hs : List DbHead). hs ++ split.rest) split.next ∙ append_assoc (take k heads) (head ∷ []) split.rest ∙ split.is;
      stretches = before.each.stretches;
      wholes = before.wholes;
      now = new.link;
      firsts = before.each.firsts;
      stops = before.each.so.stops;
      does = before.each.so.does;
      said = before.each.said;
      files = before.files;
      each_moment = before.each_moment;
      next = record { handle = 1; given = [] };
      first = one_first (talk new.link);
      behind = stops_none talk since fault downs (map text (next_acts (talk new.link) split.rest (record { handle = 1; given = [] }))) new.link new.link refl
          (itself new.link) (fell_none fault downs new.link);
      unkept = λ is. absurd cc;
      all = tt;
      told = tt;
      cause = tt;
      closed = tt;
    }

  -- all
  pub kept_all : (itself : (a : L) → since a a) (heads : List DbHead) (k : ℕ) {moved : Vec Moved} {new : SessionValue L} {after : F} → length heads ≤ k
      → KeptSoFar talk since fault downs contents moments (take k heads) moved.items old new folder after
      → KeepsSome talk since fault downs contents moments heads old new folder after (Ok moved)
  kept_all itself heads k {moved} {new} all before = record {
    done = take k heads;
    rest = [];
    parts = append-nil (take k heads) ∙ take_whole heads k all;
    stretches = before.each.stretches;
    wholes = before.wholes;
    now = new.link;
    firsts = before.each.firsts;
    stops = before.each.so.stops;
    does = before.each.so.does;
    said = before.each.said;
    files = before.files;
    each_moment = before.each_moment;
    next = record { handle = 1; given = [] };
    first = one_first (talk new.link);
    behind = stops_none talk since fault downs [] new.link new.link refl (itself new.link) (fell_none fault downs new.link);
    unkept = λ is. absurd cc;
    all = (refl, refl);
    told = before.told;
    cause = tt;
    closed = before.each.so.abandoned;
  }
