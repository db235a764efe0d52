-- Where nothing is asked for.
use Rattle.std.proofs.Common.{◌≡◌, ◌<◌, refl, sym, subst, ℕ, List, [], ◌∷◌, ◌++◌, length, take, arith}
use Rattle.std.specs.List.{AllByRecursion}
use Rattle.std.specs.Prelude.{Option, Some, Ok, Result}
use Rattle.pdb_values.specs.declared.record.Record.{Record}
use Rattle.desktop_session.specs.Puts.{Puts}
use Rattle.desktop_session.specs.Requests.{putting}
use Rattle.session_parts.proofs.LinkWords.{LinkFault, Talk, Act, SessionFault, SessionValue, AsksOne}
use Rattle.mirrors.specs.Asks.{Asks}
use Rattle.mirrors.proofs.AskLaws.{none_said, said_all}
use Rattle.mirrors.proofs.NewsLaws.{SplitAt}
use Rattle.install_backup.specs.InstallActs.{block_acts, put_record}

module _ {L : Type 0} {talk : L → Option Talk} {since : L → L → Type 0} {fault : L → Option LinkFault} {downs : L → ℕ} where
  pub asks_none : {A : Type 0} (itself : (a : L) → since a a) (old : SessionValue L) (answer : A) → Asks talk since fault downs [] old old (Ok answer)
  asks_none itself old answer = said_all answer (none_said talk since fault downs itself old)

  -- a record that has an id is asked for under it
  pub put_asked : {handle here : ℕ} (item : Record) {old new : SessionValue L} {told : Result ℕ SessionFault} → here ≡ handle
      → 0 < item.id → Puts talk since fault downs here item.id item.content old new told → AsksOne talk since fault downs (put_record handle item) old new
  put_asked {handle} {here} item {old} {new} is some put =
      subst (λ h. AsksOne talk since fault downs (putting 0 h item.id item.content) old new) is
      (subst (λ g. AsksOne talk since fault downs (putting g here item.id item.content) old new) (put.old_id some) put.asked)

-- the one at a place
pub all_at : {A : Type 0} (P : A → Type 0) (xs : List A) (k : ℕ) (x : A) → AllByRecursion P xs → SplitAt xs k x → P x
all_at {A} P xs k x all split = behind (take k xs) (subst (AllByRecursion P) (sym split.is) all)
  where
    behind : (ys : List A) → AllByRecursion P (ys ++ x ∷ split.rest) → P x
    behind [] each = each.0
    behind (y ∷ ys) each = behind ys each.1

-- a block of no bytes is not written
pub block_none : (writing : ℕ → List ℕ → Act) (handle : ℕ) (bytes : List ℕ) → length bytes ≡ 0 → block_acts writing handle (Some bytes) ≡ []
block_none writing handle [] none = refl
block_none writing handle (byte ∷ bytes) none = absurd (omega (arith, none))
