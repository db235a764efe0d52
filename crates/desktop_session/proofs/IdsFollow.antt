-- A list of ids is followed part by part.
use Rattle.std.proofs.Common.{◌≡◌, ◌≤◌, ◌<◌, ◌+◌, ◌++◌, ℕ, zero, suc, Bool, true, false, not, ◌&&◌, cond, List, [], length, arith, subst, sym, refl, ltb, lt-ltb, le-ltb, if◌then◌else◌}
use Rattle.std.specs.Prelude.{Result, Ok, Err}
use Rattle.dlp_replies.specs.declared.fault.ReplyFault.TheVariants.{Wrapper}
use Rattle.dlp_commands.specs.declared.link.Link.{Ghosts}
use Rattle.dlp_commands.specs.Tries.{Try}
use Rattle.desktop_session.specs.declared.fault.SessionFault.{SessionFault}
use Rattle.desktop_session.specs.declared.fault.SessionFault.TheVariants as session
use Rattle.desktop_session.specs.Asking.{all_ids, asks_ids, is_page, lists_ids, repeats}
use Rattle.desktop_session.specs.Following.{Follows}
use Rattle.desktop_session.specs.Inquiries.{Ends, Inquiry, ◌>>=◌}
use Rattle.desktop_session.proofs.FollowLaws.{Reaches, follows_done, follows_ended, reaches_none, reaches_then}

-- a reply that is taken for none
abbrev no_page : Inquiry (List ℕ)
no_page = Ends (Err (session.BadReply 0x31 (Wrapper 0)))

-- what is asked behind a part
abbrev part_next : ℕ → ℕ → ℕ → ℕ → List ℕ → Inquiry (List ℕ)
part_next most handle count before all = if is_page before all then lists_ids most handle count all else no_page

-- so many requests more than there are ids to come
pub record IdsOn {L : Type 0} (link : Ghosts L) (whole : Inquiry (List ℕ)) (handle count : ℕ) (ids : List ℕ) (old now : L) : Type 0 where
  pub most : ℕ
  pub enough : count ≤ most + length ids
  pub reaches : Reaches link whole (lists_ids most handle count ids) old now

-- one part is asked
record AtPart {L : Type 0} (link : Ghosts L) (whole : Inquiry (List ℕ)) (handle count : ℕ) (ids : List ℕ) (old now : L) : Type 0 where
  most : ℕ
  enough : count ≤ most + length ids + 1
  reaches : Reaches link whole (asks_ids handle (length ids) ids >>= part_next most handle count (length ids)) old now

at_part : {L : Type 0} {link : Ghosts L} {whole : Inquiry (List ℕ)} {handle count : ℕ} {ids : List ℕ} {old now : L} (most : ℕ) → length ids < count
    → count ≤ most + length ids → Reaches link whole (lists_ids most handle count ids) old now → AtPart link whole handle count ids old now
unfolding lists_ids
at_part {ids} zero less enough reaches = absurd (omega arith)
at_part {link} {whole} {handle} {count} {ids} {old} {now} (suc most) less enough reaches = record {
  most = most;
  enough = omega arith;
  reaches = subst (λ (b : Bool). Reaches link whole
      (cond b (asks_ids handle (length ids) ids >>= part_next most handle count (length ids)) (Ends (Ok ids))) old now)
      (lt-ltb (length ids) count less) reaches;
}

at_last : {L : Type 0} {link : Ghosts L} {whole : Inquiry (List ℕ)} (handle count : ℕ) (ids : List ℕ) {old now : L} (most : ℕ) → count ≤ length ids
    → Reaches link whole (lists_ids most handle count ids) old now → Reaches link whole (Ends (Ok ids)) old now
unfolding lists_ids
at_last handle count ids zero all reaches = reaches
at_last {link} {whole} handle count ids {old} {now} (suc most) all reaches =
    subst (λ (b : Bool). Reaches link whole
    (cond b (asks_ids handle (length ids) ids >>= part_next most handle count (length ids)) (Ends (Ok ids))) old now)
    (le-ltb (length ids) count all) reaches

-- ---- whether it is a page

page_is : (more repeated : Bool) → more ≡ true → false ≡ repeated → (more && not repeated) ≡ true
page_is true true first second = second
page_is true false first second = refl
page_is false repeated first second = first

page_short : (more repeated : Bool) → more ≡ false → (more && not repeated) ≡ false
page_short true repeated is = absurd cc
page_short false repeated is = refl

page_again : (more repeated : Bool) → true ≡ repeated → (more && not repeated) ≡ false
page_again true true is = refl
page_again true false is = is
page_again false repeated is = refl

pub page_new : (before : ℕ) (all : List ℕ) → before < length all → false ≡ repeats before all → is_page before all ≡ true
page_new before all more new = page_is (ltb before (length all)) (repeats before all) (lt-ltb before (length all) more) new

pub page_none : (before : ℕ) (all : List ℕ) → length all ≤ before → is_page before all ≡ false
page_none before all none = page_short (ltb before (length all)) (repeats before all) (le-ltb before (length all) none)

pub page_twice : (before : ℕ) (all : List ℕ) → true ≡ repeats before all → is_page before all ≡ false
page_twice before all twice = page_again (ltb before (length all)) (repeats before all) twice

-- ---- the list

pub ids_begin : {L : Type 0} {link : Ghosts L} (heard_none : (a : L) → link.heard a [] a) (handle count : ℕ) {ids : List ℕ} {old : L} → ids ≡ []
    → IdsOn link (all_ids handle count) handle count ids old old
ids_begin {link} heard_none handle count {ids} {old} none = record {
  most = count;
  enough = omega arith;
  reaches = subst (λ (listed : List ℕ). Reaches link (all_ids handle count) (lists_ids count handle count listed) old old) (sym none)
      (reaches_none heard_none (all_ids handle count) old);
}

pub ids_all : {L : Type 0} {link : Ghosts L} {whole : Inquiry (List ℕ)} {handle count : ℕ} {ids : List ℕ} {old now : L}
    → IdsOn link whole handle count ids old now → count ≤ length ids → Follows link whole old now (Ok ids)
ids_all {handle} {count} {ids} before all = follows_done (at_last handle count ids before.most all before.reaches)

part_of : {L : Type 0} {link : Ghosts L} {whole : Inquiry (List ℕ)} {handle count : ℕ} {ids : List ℕ} {old now : L} → length ids < count
    → IdsOn link whole handle count ids old now → AtPart link whole handle count ids old now
part_of less before = at_part before.most less before.enough before.reaches

module _ {L : Type 0} {link : Ghosts L}
    (heard_more : (a b c : L) (first next : List Try) → link.heard a first b → link.heard b next c → link.heard a (first ++ next) c)
    {whole : Inquiry (List ℕ)} {handle count : ℕ} {ids : List ℕ} {old mid new : L} (less : length ids < count)
    (before : IdsOn link whole handle count ids old mid) where
  came : {all : List ℕ} (b : Bool) → is_page (length ids) all ≡ b → (at : AtPart link whole handle count ids old mid)
      → Follows link (asks_ids handle (length ids) ids) mid new (Ok all)
      → Reaches link whole (cond b (lists_ids at.most handle count all) no_page) old new
  came {all} b is at goes =
      subst (λ (b : Bool). Reaches link whole (cond b (lists_ids at.most handle count all) no_page) old new) is
      (reaches_then heard_more (part_next at.most handle count (length ids)) at.reaches goes)

  pub ids_next : {all : List ℕ} → length ids < length all → is_page (length ids) all ≡ true
      → Follows link (asks_ids handle (length ids) ids) mid new (Ok all) → IdsOn link whole handle count all old new
  ids_next {all} more page goes =
      let at = part_of less before in
      let enough = at.enough in
      record { most = at.most; enough = omega (arith, enough, more); reaches = came true page at goes }

  pub ids_bad : {all : List ℕ} → is_page (length ids) all ≡ false → Follows link (asks_ids handle (length ids) ids) mid new (Ok all)
      → Follows link whole old new (Err (session.BadReply 0x31 (Wrapper 0)))
  ids_bad page goes = follows_done (came false page (part_of less before) goes)

  pub ids_stop : {cause : SessionFault} → Follows link (asks_ids handle (length ids) ids) mid new (Err cause) → Follows link whole old new (Err cause)
  ids_stop goes = let at = part_of less before in follows_ended heard_more (part_next at.most handle count (length ids)) at.reaches goes
