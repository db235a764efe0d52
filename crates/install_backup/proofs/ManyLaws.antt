-- Databases that are installed one after another.
use Rattle.std.proofs.Common.{◌≡◌, ◌∙◌, ap, inl, refl, sym, subst, ℕ, not, Bool, true, false, cond, List, [], take}
use Rattle.std.specs.Prelude.{Option, Some, None, Ok, Err}
use Rattle.pdb_values.specs.Databases.{DatabaseValue}
use Rattle.pdb_values.specs.Heads.{is_read_only}
use Rattle.mirrors.proofs.NewsLaws.{SplitAt}
use Rattle.session_parts.specs.Spans.{Spans}
use Rattle.session_parts.specs.declared.stop.Stop.{Stop}
use Rattle.session_parts.specs.declared.stop.Stop.TheVariants as stop
use Rattle.session_parts.proofs.EachLaws.{EachSoFar}
use Rattle.session_parts.proofs.LinkWords.{Act, LinkFault, Talk, SessionFault, SessionValue}
use Rattle.session_parts.proofs.SpanLaws.{span_none}
use Rattle.install_backup.specs.declared.moved.Moved.{Moved}
use Rattle.install_backup.specs.InstallActs.{install_one, installs_under, is_installable, moved_of, written_count}
use Rattle.install_backup.specs.Installs.{IsLimit, SaysMoved, StopsWithin, making_acts}
use Rattle.install_backup.specs.Rooms.{IsUnmade, IsWithin, Judges, RestsFor}
use Rattle.install_backup.proofs.BehindLaws.{span_failed}

-- the acts of one, where it is known whether it is read-only
acts_are : (database : DatabaseValue) (b : Bool) → is_installable database ≡ b → (told : Option Talk)
    → installs_under told database ≡ (λ handle given. cond b (install_one database handle given) [])
unfolding installs_under
acts_are database b is told = λ k handle given. cond (is k) (install_one database handle given) []

told_are : (database : DatabaseValue) (b : Bool) → is_installable database ≡ b → {name : List ℕ} {entries : Option ℕ} → name ≡ database.head.name
    → entries ≡ cond b (Some (written_count database)) None → ◌≡◌ {A = Moved} (record { name = name; entries = entries }) (moved_of database)
told_are database b is same count =
    (λ k. record { name = same k; entries = count k })
    ∙ (λ k. record { name = database.head.name; entries = cond (sym is k) (Some (written_count database)) None })

module _ {L : Type 0} {talk : L → Option Talk} {since : L → L → Type 0} {fault : L → Option LinkFault} {downs : L → ℕ} (database : DatabaseValue) where
  -- a read-only one is passed over
  pub passed_over : (itself : (a : L) → since a a) {name : List ℕ} (old : SessionValue L) → is_read_only database.head.attributes ≡ true
      → name ≡ database.head.name
      → Spans {A = Moved} talk since fault downs (installs_under (talk old.link) database) (SaysMoved (talk old.link) database) old old
      (Ok (record { name = name; entries = None }))
  passed_over itself {name} old only same =
      let is : is_installable database ≡ false = ap not only in
      subst (λ (acts : ℕ → List ℕ → List Act). Spans {A = Moved} talk since fault downs acts (SaysMoved (talk old.link) database) old old
      (Ok (record { name = name; entries = None }))) (sym (acts_are database false is (talk old.link)))
      (span_none itself (told_are database false is same refl, λ (other : is_installable database ≡ true). absurd (none other is)))
    where
      none : {b : Bool} → b ≡ true → b ≡ false → ⊥
      none there not_there = absurd cc

  -- it was installed
  pub was_installed : {name : List ℕ} {count : ℕ} {old new : SessionValue L} → is_read_only database.head.attributes ≡ false → name ≡ database.head.name
      → Judges (RestsFor database) true database.head.name (talk old.link)
      → Spans talk since fault downs (install_one database) (λ handle given count. count ≡ written_count database) old new (Ok count)
      → Spans {A = Moved} talk since fault downs (installs_under (talk old.link) database) (SaysMoved (talk old.link) database) old new
      (Ok (record { name = name; entries = Some count }))
  was_installed {name} {count} {old} {new} writable same room spans =
      let is : is_installable database ≡ true = ap not writable in
      subst (λ (acts : ℕ → List ℕ → List Act). Spans {A = Moved} talk since fault downs acts (SaysMoved (talk old.link) database) old new
      (Ok (record { name = name; entries = Some count }))) (sym (acts_are database true is (talk old.link)))
      (record {
        handle = spans.handle;
        given = spans.given;
        first = spans.first;
        stops = spans.stops;
        does = spans.does;
        clear = spans.clear;
        user = spans.user;
        closed = spans.closed;
        cause = tt;
        said = (told_are database true is same (ap (λ (n : ℕ). Some n) spans.said), λ writable_one. room);
      })

  -- it was not installed
  pub not_installed : {A : Type 0} {says : ℕ → List ℕ → A → Type 0} {cause : SessionFault} {old new : SessionValue L}
      → is_read_only database.head.attributes ≡ false → Spans talk since fault downs (install_one database) says old new (Err cause)
      → Spans {A = Moved} talk since fault downs (installs_under (talk old.link) database) (SaysMoved (talk old.link) database) old new (Err cause)
  not_installed {A} {says} {cause} {old} {new} writable spans =
      let is : is_installable database ≡ true = ap not writable in
      subst (λ (acts : ℕ → List ℕ → List Act). Spans {A = Moved} talk since fault downs acts (SaysMoved (talk old.link) database) old new (Err cause))
      (sym (acts_are database true is (talk old.link))) (span_failed spans)

-- one that was to be made, and was not, is where an install of several stops
pub limit_at : {L : Type 0} {talk : L → Option Talk} {since : L → L → Type 0} {fault : L → Option LinkFault} {downs : L → ℕ}
    {databases : List DatabaseValue} {k : ℕ} {one : DatabaseValue} {moved : List Moved} {old now : SessionValue L} (new : L) (why : Stop)
    → SplitAt databases k one → EachSoFar talk since fault downs installs_under SaysMoved (take k databases) moved old now
    → is_installable one ≡ true → IsUnmade talk (RestsFor one) (making_acts one) one.head.name now.link new why
    → IsLimit talk databases old new why
limit_at new (stop.Session cause) split before writable unmade = unmade
limit_at {databases = databases} {k = k} {one = one} {moved = moved} {now = now} new (stop.Limit name) split before writable unmade = record {
  before = take k databases;
  one = one;
  rest = split.rest;
  parts = split.is;
  named = unmade.0;
  writable = writable;
  stretches = before.stretches;
  moved = moved;
  now = now;
  firsts = before.firsts;
  does = before.so.does;
  said = before.said;
  asked = unmade.1;
  room = unmade.2;
}
limit_at new (stop.NewHandheld name) split before writable unmade = absurd unmade
limit_at new stop.DeskFault split before writable unmade = absurd unmade

-- so far others were done, and this one was not
module _ {L : Type 0} {talk : L → Option Talk} {since : L → L → Type 0} {fault : L → Option LinkFault} {downs : L → ℕ}
    {databases : List DatabaseValue} {k : ℕ} {one : DatabaseValue} {moved : List Moved} {old now new : SessionValue L}
    (split : SplitAt databases k one) (before : EachSoFar talk since fault downs installs_under SaysMoved (take k databases) moved old now) where
  pub within_at : {cause : SessionFault}
      → Spans {A = Moved} talk since fault downs (installs_under (talk now.link) one) (SaysMoved (talk now.link) one) now new (Err cause)
      → IsWithin talk since fault downs (RestsFor one) (making_acts one) one.head.name now.link new.link
      → StopsWithin talk since fault downs databases old new.link
  within_at spans within = record {
    before = take k databases;
    one = one;
    rest = split.rest;
    parts = split.is;
    stretches = before.stretches;
    moved = moved;
    now = now;
    firsts = before.firsts;
    does = before.so.does;
    reached = before.so.stops;
    said = before.said;
    handle = spans.handle;
    given = spans.given;
    first = spans.first;
    stops = spans.stops;
    within = λ is. within;
  }

  -- or it was, and memory ran out then
  pub within_past : {x : Moved}
      → Spans {A = Moved} talk since fault downs (installs_under (talk now.link) one) (SaysMoved (talk now.link) one) now new (Ok x)
      → StopsWithin talk since fault downs databases old new.link
  within_past spans = record {
    before = take k databases;
    one = one;
    rest = split.rest;
    parts = split.is;
    stretches = before.stretches;
    moved = moved;
    now = now;
    firsts = before.firsts;
    does = before.so.does;
    reached = before.so.stops;
    said = before.said;
    handle = spans.handle;
    given = spans.given;
    first = spans.first;
    stops = spans.stops;
    within = λ is. inl (spans.said.1 is);
  }
