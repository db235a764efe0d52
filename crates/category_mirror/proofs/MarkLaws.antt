-- The mark of a handheld whose desktop's rows change.
use Rattle.std.proofs.lemmas.Bool.{eqb-true}
use Rattle.std.proofs.Common.{arith, ◌≡◌, ◌∙◌, ◌≤◌, ◌==◌, ◌&&◌, ap, refl, sym, ℕ, Bool, true, false, List, [], ◌∷◌, length, lit<}
use Rattle.std.proofs.lemmas.Bool.Decides.{nat_tests}
use Rattle.pdb_values.specs.Databases.{DatabaseValue}
use Rattle.pdb_values.specs.declared.user.Marks.{Marks}
use Rattle.pdb_values.specs.declared.user.UserInfo.{UserInfo}
use Rattle.mirrors.specs.Agreements.{agreed}
use Rattle.palm_device.specs.Bounds.{IsBoundedUser}
use Rattle.palm_device.specs.Devices.{Device}
use Rattle.desk_store.specs.declared.change.DbChange.{DbChange}
use Rattle.desktop_session.specs.Acts.{Act, acted}
use Rattle.desktop_session.specs.Orders.{IsMark}
use Rattle.desktop_session.specs.Requests.{marking}
use Rattle.desktop_session.proofs.ChangeRows.{mark_possible, marked_does}
use Rattle.desktop_session.proofs.RequestFits.{mark_fits}
use Rattle.desktop_session.proofs.TellLaws.{act_sayable}
use Rattle.session_plan.specs.Users.{begun_user}
use Rattle.category_mirror.specs.FilingActs.{marked_user, marks_for, marks_unless}
use Rattle.category_mirror.specs.Sides.{write_count}
use Rattle.category_mirror.proofs.AlongLaws.{count-is}
use Rattle.category_mirror.proofs.OneLaws.{Goes, goes_none, goes_one, goes_to}

-- ---- where it is asked for

pub marks-none : (user : UserInfo) → marks_for [] user ≡ []
unfolding marks_for
marks-none user = refl

pub marks-empty : (changes : List DbChange) (user : UserInfo) → (length changes == 0) ≡ true → marks_for changes user ≡ []
unfolding marks_for
marks-empty [] user none = refl
marks-empty (change ∷ changes) user none = absurd (let no = eqb-true (length (change ∷ changes)) 0 none in omega (arith, no))

pub marks-known : (changes : List DbChange) (user : UserInfo) → user.pc ≡ 0 → marks_for changes user ≡ []
unfolding marks_for
marks-known [] user none = refl
marks-known (change ∷ changes) user none = ap (λ n. marks_unless (n == 0) user) none

pub marks-some : (changes : List DbChange) (user : UserInfo) → (length changes == 0) ≡ false → (user.pc ≡ 0 → ⊥)
    → marks_for changes user ≡ marks_unless false user
unfolding marks_for
marks-some [] user some known = absurd cc
marks-some (change ∷ changes) user some known = ap (λ b. marks_unless b user) (let differ : (user.pc == 0) ≡ false = grind (arith, nat_tests, known) in differ)

-- once at most
pub marks-few : (changes : List DbChange) (user : UserInfo) → length (marks_for changes user) ≤ 1
unfolding marks_for
marks-few [] user = omega arith
marks-few (change ∷ changes) user = by (user.pc == 0)
  where
    by : (b : Bool) → length (marks_unless b user) ≤ 1
    by true = omega arith
    by false = omega arith

-- ---- what it does

-- a user that knows no desktop is left as it is
unknown_same : (user : UserInfo) → (user.pc == 0) ≡ true → begun_user user ≡ user
unknown_same user none =
    let is : user.pc ≡ 0 = eqb-true user.pc 0 none in
    λ k. record user { pc = sym is k }

-- the user is as a whole mark asks
begin_is : (user : UserInfo) → IsBoundedUser user → IsMark (begun_user user)
begin_is user bounded = grind arith

abbrev marked_device : UserInfo → Device → Device
marked_device user device = record device { user = user }

begun_does : (device : Device) → IsBoundedUser device.user
    → (acted (marking (begun_user device.user) 0x40) device).1 ≡ marked_device (begun_user device.user) device
begun_does device bounded = marked_does device (begun_user device.user) 0x40 (begin_is device.user bounded)

module _ (device : Device) (bounded : IsBoundedUser device.user) where
  begin_goes : Goes (marking (begun_user device.user) 0x40 ∷ []) device (marked_device (begun_user device.user) device)
  begin_goes =
      goes_one
      (act_sayable (marking (begun_user device.user) 0x40).asks device
      (mark_fits (begun_user device.user) 0x40 bounded.number bounded.viewer (lit< tt) (lit< tt) bounded.short bounded.no_zero) refl) refl
      (mark_possible device (begun_user device.user) 0x40 (begin_is device.user bounded)) (begun_does device bounded)

  unless_goes : (b : Bool) → (device.user.pc == 0) ≡ b → Goes (marks_unless b device.user) device (marked_device (begun_user device.user) device)
  unless_goes true none = goes_to (goes_none device) (λ k. marked_device (sym (unknown_same device.user none) k) device)
  unless_goes false some = begin_goes

  pub marks_go : (changes : List DbChange) → Goes (marks_for changes device.user) device (marked_device (marked_user changes device.user) device)
  unfolding marks_for
  marks_go [] = goes_none device
  marks_go (change ∷ changes) = unless_goes (device.user.pc == 0) refl

-- it is the same user
pub marked-user : (changes : List DbChange) (user : UserInfo) → (marked_user changes user).user ≡ user.user
marked-user [] user = refl
marked-user (change ∷ changes) user = refl

-- marked once more it is the same
pub marked_twice : (changes : List DbChange) (user : UserInfo) → marked_user changes (marked_user changes user) ≡ marked_user changes user
marked_twice [] user = refl
marked_twice (change ∷ changes) user = refl

-- where nothing is written it is as it was
pub quiet_same : (changes : List DbChange) (user : UserInfo) → write_count (marks_for changes user) ≡ 0 → marked_user changes user ≡ user
unfolding marks_for
quiet_same [] user none = refl
quiet_same (change ∷ changes) user none = by (user.pc == 0) refl none
  where
    by : (b : Bool) → (user.pc == 0) ≡ b → write_count (marks_unless b user) ≡ 0 → begun_user user ≡ user
    by true is none = unknown_same user is
    by false is none = absurd (let count = count-is (marks_unless false user) in omega (arith, count, none))

-- a desktop with a number does not agree with it
pub never-agreed : (changes : List DbChange) (user : UserInfo) (marks : Marks) → (changes ≡ [] → ⊥) → (marks.pc ≡ 0 → ⊥)
    → agreed (marked_user changes user) marks ≡ false
never-agreed [] user marks some known = absurd (some refl)
never-agreed (change ∷ changes) user marks some known =
    let differ : (0 == marks.pc) ≡ false = grind (arith, nat_tests, known) in
    ap (λ b. b && (user.good == marks.last)) differ
