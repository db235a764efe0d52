-- What each request of an inquiry is, each that was tried is; and what the parts of a session name.
use Rattle.std.proofs.Common.{◌≡◌, ◌+◌, ◌++◌, ℕ, zero, suc, Bool, true, false, List, [], ◌∷◌, length, map}
use Rattle.std.specs.Prelude.{Option, None, Some, Result, Ok, Err, if◌then◌else◌, nat_lt}
use Rattle.std.specs.List.{AllByRecursion}
use Rattle.pdb_values.specs.Contents.{ContentValue}
use Rattle.pdb_values.specs.declared.head.DbHead.{DbHead}
use Rattle.pdb_values.specs.declared.record.Record.{Record}
use Rattle.pdb_values.specs.declared.user.Marks.{Marks}
use Rattle.conduit_rules.specs.States.{BaseState, base_at, gone, no_base, row}
use Rattle.conduit_rules.specs.declared.planned.Plan.{Plan}
use Rattle.conduit_rules.specs.declared.view.Seen.{Seen}
use Rattle.dlp_requests.specs.RequestValues.{RequestValue}
use Rattle.dlp_commands.specs.Tries.{Answered, Try, Unanswered}
use Rattle.desktop_session.specs.Asking.{all_ids, asks_ids, cleans, closes, is_page, lists_ids, puts_one, removes, resets}
use Rattle.desktop_session.specs.Greeted.{asks_conduits, asks_page, asks_user, greets, lists_all, lists_from, lists_on}
use Rattle.desktop_session.specs.Inquiries.{After, Asks, Ends, Inquiry, ◌>>=◌}
use Rattle.desktop_session.specs.Lendings.{asks_record, asks_some_record, asks_whole, counts, lends_at, lends_next, lends_of}
use Rattle.desktop_session.specs.declared.seat.UserWish.{UserWish}
use Rattle.mirrors.specs.ReadInquiries.{fills, fills_next, fills_one, goes_on, reads_changed, reads_fast, reads_from, reads_ids, reads_next, reads_of, reads_one, reads_other, reads_others, reads_slowly}
use Rattle.mirrors.specs.Shells.{waits}
use Rattle.mirrors.specs.WriteInquiries.{adds_each, purges, removes_each, replaces_each, sends_news}
use Rattle.session_parts.specs.Inquiries.{each, meets, under}
use Rattle.session_parts.specs.Naming.{AreSuch, Each, NamesOnly}

pub each_tried : {A : Type 0} (IsSuch : RequestValue → Type 0) (asked : Inquiry A) (tries : List Try) (left : Inquiry A) → Each IsSuch asked
    → After asked tries left → AreSuch IsSuch tries
each_tried IsSuch asked [] left such after = tt
each_tried IsSuch (Ends answer) (one ∷ tries) left such after = absurd after
each_tried IsSuch (Asks request more) (Answered bytes reply ∷ tries) left such after =
    (record { request = request; asked = after.0; such = such.0 }, each_tried IsSuch (more reply) tries left (such.1 reply) after.1)
each_tried IsSuch (Asks request more) (Unanswered bytes ∷ tries) left such after =
    (record { request = request; asked = after.0; such = such.0 }, each_tried IsSuch (Asks request more) tries left such after.1)

pub each_bind : {A B : Type 0} (IsSuch : RequestValue → Type 0) (part : Inquiry A) (next : A → Inquiry B) → Each IsSuch part
    → ((x : A) → Each IsSuch (next x)) → Each IsSuch (part >>= next)
unfolding ◌>>=◌
each_bind IsSuch (Ends (Ok x)) next such more = more x
each_bind IsSuch (Ends (Err cause)) next such more = tt
each_bind IsSuch (Asks request rest) next such more = (such.0, λ reply. each_bind IsSuch (rest reply) next (such.1 reply) more)

-- those of some tries and of more behind them
pub such-append : (IsSuch : RequestValue → Type 0) (xs ys : List Try) → AreSuch IsSuch xs → AreSuch IsSuch ys → AreSuch IsSuch (xs ++ ys)
such-append IsSuch [] ys first next = next
such-append IsSuch (Answered bytes reply ∷ xs) ys first next = (first.0, such-append IsSuch xs ys first.1 next)
such-append IsSuch (Unanswered bytes ∷ xs) ys first next = (first.0, such-append IsSuch xs ys first.1 next)

module _ (IsName : List ℕ → Type 0) where
  abbrev Such : RequestValue → Type 0
  Such = NamesOnly IsName

  either : {A : Type 0} (test : Bool) (one other : Inquiry A) → Each Such one → Each Such other → Each Such (if test then one else other)
  either true one other first next = first
  either false one other first next = next

  -- ---- both sides meet

  lists_by : (more : ℕ → Inquiry (List DbHead)) (next : Option ℕ) (heads : List DbHead) → ((start : ℕ) → Each Such (more start))
      → Each Such (lists_on next heads more)
  lists_by more None heads such = tt
  lists_by more (Some next) heads such = such next

  names_lists : (most start : ℕ) (heads : List DbHead) → Each Such (lists_from most start heads)
  unfolding lists_from
  names_lists zero start heads = tt
  names_lists (suc most) start heads = each_bind Such (asks_page start heads) _ (tt, λ reply. tt)
      (λ found. lists_by (λ next. lists_from most next found.0) found.1 found.0 (λ next. names_lists most next found.0))

  pub names_meets : (marks : List Marks) (wish : UserWish) → Each Such (meets marks wish)
  names_meets marks wish =
      each_bind Such (greets marks wish) _
      (each_bind Such (asks_user marks wish) _ (tt, λ reply. tt) (λ user. each_bind Such asks_conduits _ (tt, λ reply. tt) (λ done. tt)))
      (λ user. each_bind Such lists_all _ (names_lists 65536 0 []) (λ heads. tt))

  -- ---- an open database is read

  names_from : (handle index count : ℕ) (seen : List Seen) → Each Such (reads_from handle index count seen)
  unfolding reads_from
  names_from handle index zero seen = tt
  names_from handle index (suc count) seen =
      each_bind Such (reads_one handle index) _
      (each_bind Such (lends_at handle index) _ (each_bind Such (asks_whole _) _ (tt, λ reply. tt) (λ bytes. tt)) (λ lent. tt))
      (λ one. names_from handle (index + 1) count (seen ++ one ∷ []))

  pub names_slowly : (handle : ℕ) → Each Such (reads_slowly handle)
  names_slowly handle =
      each_bind Such (counts handle) _ (tt, λ reply. tt)
      (λ count. each_bind Such (reads_from handle 0 count []) _ (names_from handle 0 count []) (λ seen. tt))

  goes_by : (ends : Inquiry (List Seen)) (more : Seen → Inquiry (List Seen)) (found : Option Seen) → Each Such ends → ((one : Seen) → Each Such (more one))
      → Each Such (goes_on found ends more)
  goes_by ends more None such each = such
  goes_by ends more (Some one) such each = each one

  names_changed : (handle most : ℕ) (seen : List Seen) → Each Such (reads_changed handle most seen)
  unfolding reads_changed
  names_changed handle zero seen = tt
  names_changed handle (suc most) seen =
      each_bind Such (reads_next handle) _
      (each_bind Such (lends_next handle) _ (each_bind Such (asks_whole _) _ (tt, λ reply. tt) (λ bytes. tt)) (λ lent. tt))
      (λ found. goes_by (Ends (Ok seen)) (λ one. reads_changed handle most (seen ++ one ∷ [])) found tt
      (λ one. names_changed handle most (seen ++ one ∷ [])))

  names_of : (handle id : ℕ) → Each Such (reads_of handle id)
  names_of handle id =
      each_bind Such (lends_of handle id) _ (each_bind Such (asks_whole _) _ (tt, λ reply. tt) (λ bytes. tt)) (λ found. tt)

  names_other : (handle id : ℕ) (base : BaseState) → Each Such (reads_other handle id base)
  names_other handle id no_base = names_of handle id
  names_other handle id (row content) = tt
  names_other handle id (gone content) = names_of handle id

  names_fills : (base : List Record) (handle : ℕ) (entries seen : List Seen) → Each Such (fills base handle entries seen)
  unfolding fills
  names_fills base handle [] seen = tt
  names_fills base handle (entry ∷ entries) seen =
      each_bind Such (fills_next base handle seen entry) _
      (each_bind Such (fills_one base handle entry) _
      (either (waits entry.state) (reads_other handle entry.id (base_at base false entry.id)) (Ends (Ok (Some entry)))
      (names_other handle entry.id (base_at base false entry.id)) tt) (λ found. tt))
      (λ more. names_fills base handle entries more)

  names_ids : (most handle count : ℕ) (ids : List ℕ) → Each Such (lists_ids most handle count ids)
  unfolding lists_ids
  names_ids zero handle count ids = tt
  names_ids (suc most) handle count ids =
      either (nat_lt (length ids) count) _ _
      (each_bind Such (asks_ids handle (length ids) ids) _ (tt, λ reply. tt)
      (λ all. either (is_page (length ids) all) _ _ (names_ids most handle count all) tt)) tt

  pub names_fast : (base : List Record) (handle : ℕ) → Each Such (reads_fast base handle)
  names_fast base handle =
      each_bind Such (reads_ids handle) _
      (each_bind Such (counts handle) _ (tt, λ reply. tt) (λ count. names_ids count handle count []))
      (λ ids. each_bind Such (reads_changed handle (suc (length ids)) []) _ (names_changed handle (suc (length ids)) [])
      (λ seen. names_fills base handle _ []))

  -- ---- a plan is carried out

  names_replaces : (handle : ℕ) (entries : List (ℕ × ContentValue)) → Each Such (replaces_each handle entries)
  unfolding replaces_each
  names_replaces handle [] = tt
  names_replaces handle (entry ∷ entries) =
      each_bind Such (puts_one handle entry.0 entry.1) _ (tt, λ reply. tt) (λ id. names_replaces handle entries)

  names_adds : (handle : ℕ) (contents : List ContentValue) (ids : List ℕ) → Each Such (adds_each handle contents ids)
  unfolding adds_each
  names_adds handle [] ids = tt
  names_adds handle (content ∷ contents) ids =
      each_bind Such (puts_one handle 0 content) _ (tt, λ reply. tt) (λ id. names_adds handle contents (ids ++ id ∷ []))

  pub names_news : (handle : ℕ) (plan : Plan) → Each Such (sends_news handle plan)
  names_news handle plan =
      each_bind Such (replaces_each handle plan.replace.items) _ (names_replaces handle plan.replace.items)
      (λ done. names_adds handle plan.adds.items [])

  names_removes : (handle : ℕ) (ids : List ℕ) → Each Such (removes_each handle ids)
  unfolding removes_each
  names_removes handle [] = tt
  names_removes handle (id ∷ ids) = each_bind Such (removes handle id) _ (tt, λ reply. tt) (λ found. names_removes handle ids)

  pub names_purges : (handle : ℕ) (ids : List ℕ) → Each Such (purges handle ids)
  names_purges handle ids =
      each_bind Such (removes_each handle ids) _ (names_removes handle ids)
      (λ removed. each_bind Such (cleans handle) _ (tt, λ reply. tt) (λ cleaned. (tt, λ reply. tt)))

  -- ---- under a handle, and for each of several

  pub names_under : {A : Type 0} (opening : Inquiry ℕ) (inner : ℕ → Inquiry A) → Each Such opening → ((handle : ℕ) → Each Such (inner handle))
      → Each Such (under opening inner)
  names_under opening inner opens asks =
      each_bind Such opening _ opens
      (λ handle. each_bind Such (inner handle) _ (asks handle) (λ answer. each_bind Such (closes handle) _ (tt, λ reply. tt) (λ closed. tt)))

  pub names_each : {J A : Type 0} (ask : J → Inquiry A) (answers : List A) (jobs : List J) → AllByRecursion (λ (job : J). Each Such (ask job)) jobs
      → Each Such (each ask answers jobs)
  unfolding each
  names_each ask answers [] all = tt
  names_each ask answers (job ∷ jobs) all = each_bind Such (ask job) _ all.0 (λ answer. names_each ask (answers ++ answer ∷ []) jobs all.1)
