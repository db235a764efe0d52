-- Words that are right, and what is read of them.
use Rattle.std.proofs.Common.{◌≡◌, ℕ, Bool, true, false, cond, List, [], ◌∷◌, drop, length, sym, ap, ◌∙◌, arith, refl, Option, Some, None, codes}
use Rattle.std.specs.Prelude.{option_and_then}
use Rattle.clap.specs.Simple.{is_simple, matches_of}
use Rattle.clap.specs.Takes.{takes}
use Rattle.clap.specs.Walk.{rows_of}
use Rattle.clap.specs.declared.parser.matches.Found.{Found}
use Rattle.run_words.specs.Cables.{Cable, cable_in, ported_run_in, sync_of}
use Rattle.run_words.specs.Commands.{WordTask, deed_of, meaning, task_behind}
use Rattle.run_words.specs.Docks.{Dock, dock_in, docking_of}
use Rattle.run_words.specs.Faults.{Fault, given_unless, option_fault, right_given}
use Rattle.run_words.specs.Forms.{Given, WordFormValue, given_by, is_of_form}
use Rattle.run_words.specs.Helps.{begins, command_named, names_port}
use Rattle.run_words.specs.Likes.{Like, like_in, liking_of}
use Rattle.run_words.specs.Porteds.{Ported, ported_in, ported_of}
use Rattle.run_words.specs.Tables.{cable_form, dock_form, form_behind, import_form, ported_form, ported_run_form}
use Rattle.run_words.specs.declared.fault.FaultKind.TheVariants.{BadOption}
use Rattle.run_words.specs.declared.topic.CommandWord.{CommandWord}
use Rattle.run_words.specs.declared.topic.CommandWord.TheVariants.{Run, Check, Show, Export, Import, Verify, Picture, Packet, Install, Backup, Restore, Device, Categories, Sync, Make}
use Rattle.run_clap.specs.Apps.{form_app}
use Rattle.run_clap.specs.Propers.{is_proper}
use Rattle.run_clap.specs.Reads.{given_in}
use Rattle.run_clap.proofs.EndLaws.{form_gives, form_is_simple, form_takes, right-is}
use Rattle.run_clap.proofs.Lists.{Text}
use Rattle.run_clap.proofs.UseLaws.{proper_of}

-- ---- words of a form, the first of them the command

no_words : (form : WordFormValue) → is_proper form ≡ true → is_of_form form [] ≡ true → ⊥
no_words form proper e =
    let some = (proper_of form proper).some in
    let same : 0 ≡ length form.plain = (right-is form [] e).same in
    omega arith

pub form_taken : (form : WordFormValue) → is_proper form ≡ true → (words : List Text) → is_of_form form (drop 1 words) ≡ true → takes (form_app form) words ≡ true
form_taken form proper [] e = absurd (no_words form proper e)
form_taken form proper (first ∷ words) e = form_takes form (proper_of form proper) first words e

pub form_read : (form : WordFormValue) → is_proper form ≡ true → (words : List Text) (found : Found) → is_of_form form (drop 1 words) ≡ true
    → rows_of found ≡ matches_of (form_app form) words → given_in form found ≡ given_by form (drop 1 words)
form_read form proper [] found e rows = absurd (no_words form proper e)
form_read form proper (first ∷ words) found e rows = form_gives form (proper_of form proper) first words found e rows

pub proper_is_simple : (form : WordFormValue) → is_proper form ≡ true → is_simple (form_app form) ≡ true
proper_is_simple form proper = form_is_simple form (proper_of form proper)

-- each form of the table can be told
pub forms_proper : (command : CommandWord) → is_proper (form_behind command) ≡ true
forms_proper Run = refl
forms_proper Check = refl
forms_proper Show = refl
forms_proper Export = refl
forms_proper Import = refl
forms_proper Verify = refl
forms_proper Picture = refl
forms_proper Packet = refl
forms_proper Install = refl
forms_proper Backup = refl
forms_proper Restore = refl
forms_proper Device = refl
forms_proper Categories = refl
forms_proper Sync = refl
forms_proper Make = refl

-- ---- words that ask for something are of their form, and what they give means that

and_then_parts : {A B : Type 0} (f : A → Option B) (o : Option A) {b : B} → option_and_then f o ≡ Some b → (a : A) × (o ≡ Some a) × (f a ≡ Some b)
and_then_parts f None e = cc
and_then_parts f (Some a) e = (a, refl, e)

by_tests : (b : Bool) (o : Option Fault) (by : Given) {given : Given} → cond b (given_unless o by) None ≡ Some given → (b ≡ true) × (given ≡ by)
by_tests true None by e = (refl, cc)
by_tests true (Some fault) by e = cc
by_tests false o by e = cc

right_parts : (now : Option ℕ) (form : WordFormValue) (words : List Text) {given : Given} → right_given now form words ≡ Some given
    → (is_of_form form (drop 1 words) ≡ true) × (given ≡ given_by form (drop 1 words))
unfolding right_given
right_parts now form words e =
    by_tests (is_of_form form (drop 1 words)) (option_fault BadOption now form (drop 1 words)) (given_by form (drop 1 words)) e

-- words of a form ask for this
pub record Asks {A : Type 0} (f : Given → Option A) (form : WordFormValue) (words : List Text) (a : A) : Type 0 where
  pub right : is_of_form form (drop 1 words) ≡ true
  pub means : f (given_by form (drop 1 words)) ≡ Some a

asked : {A : Type 0} (f : Given → Option A) (now : Option ℕ) (form : WordFormValue) (words : List Text) {a : A}
    → option_and_then f (right_given now form words) ≡ Some a → Asks f form words a
asked f now form words e =
    let given = and_then_parts f (right_given now form words) e in
    let right = right_parts now form words given.1 in
    record { right = right.0; means = ap f (sym right.1) ∙ given.2 }

asked_if : {A : Type 0} (b : Bool) (f : Given → Option A) (now : Option ℕ) (form : WordFormValue) (words : List Text) {a : A}
    → cond b (option_and_then f (right_given now form words)) None ≡ Some a → Asks f form words a
asked_if true f now form words e = asked f now form words e
asked_if false f now form words e = cc

pub deed_named : (now : Option ℕ) (words : List Text) {task : WordTask} → deed_of now words ≡ Some task → ¬ (command_named words ≡ None)
unfolding deed_of
deed_named now words {task} e none = let no : None ≡ Some task = ap (option_and_then (task_behind now words)) (sym none) ∙ e in cc

pub deed_asks : (now : Option ℕ) (words : List Text) (command : CommandWord) {task : WordTask} → command_named words ≡ Some command → deed_of now words ≡ Some task
    → Asks (meaning now command) (form_behind command) words task
unfolding deed_of
deed_asks now words command named e =
    asked (meaning now command) now (form_behind command) words (ap (option_and_then (task_behind now words)) (sym named) ∙ e)

-- of two, by the first or not by it
chosen : {A : Type 0} (b : Bool) (first other : Option A) {a : A} → cond b first other ≡ Some a → b ≡ true → first ≡ Some a
chosen true first other e is = e
chosen false first other e is = cc

left_over : {A : Type 0} (b : Bool) (first other : Option A) {a : A} → cond b first other ≡ Some a → b ≡ false → other ≡ Some a
left_over true first other e is = cc
left_over false first other e is = e

pub sync_asks : (now : Option ℕ) (words : List Text) {cable : Cable} → names_port (codes "run") words ≡ false → sync_of now words ≡ Some cable
    → Asks (cable_in now) cable_form words cable
unfolding sync_of
sync_asks now words none e =
    asked_if (begins (codes "sync") words) (cable_in now) now cable_form words (left_over (names_port (codes "run") words) _ _ e none)

pub ported_run_asks : (now : Option ℕ) (words : List Text) {cable : Cable} → names_port (codes "run") words ≡ true → sync_of now words ≡ Some cable
    → Asks (ported_run_in now) ported_run_form words cable
unfolding sync_of
ported_run_asks now words named e =
    asked (ported_run_in now) now ported_run_form words (chosen (names_port (codes "run") words) _ _ e named)

pub ported_asks : (command : Text) (words : List Text) {ported : Ported} → ported_of command words ≡ Some ported → Asks ported_in ported_form words ported
unfolding ported_of
ported_asks command words e = asked_if (names_port command words) ported_in None ported_form words e

pub docking_asks : (words : List Text) {dock : Dock} → docking_of words ≡ Some dock → Asks dock_in dock_form words dock
unfolding docking_of
docking_asks words e = asked_if (begins (codes "device") words) dock_in None dock_form words e

pub liking_asks : (words : List Text) {like : Like} → liking_of words ≡ Some like → Asks like_in import_form words like
unfolding liking_of
liking_asks words e = asked_if (begins (codes "import") words) like_in None import_form words e

-- what is read of words means what they ask for
pub read_means : {A : Type 0} (f : Given → Option A) (form : WordFormValue) (words : List Text) {given : Given} {a : A} → given ≡ given_by form (drop 1 words)
    → Asks f form words a → f given ≡ Some a
read_means f form words is asks = ap f is ∙ asks.means

pub unread : {A : Type 0} {o : Option A} {a : A} → None ≡ o → ¬ (o ≡ Some a)
unread none some = let no : None ≡ Some _ = none ∙ some in cc
