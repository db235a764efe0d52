-- A list of the databases is followed page by page.
use Rattle.std.proofs.Common.{◌≡◌, ◌≤◌, ◌<◌, ◌+◌, ◌++◌, ℕ, zero, suc, List, [], arith, subst, sym}
use Rattle.std.specs.Prelude.{Option, Some, None, Result, Ok, Err}
use Rattle.pdb_values.specs.declared.head.DbHead.{DbHead}
use Rattle.dlp_commands.specs.declared.link.Link.{Ghosts}
use Rattle.dlp_commands.specs.Tries.{Try}
use Rattle.desktop_session.specs.declared.fault.SessionFault.{SessionFault}
use Rattle.desktop_session.specs.Following.{Follows}
use Rattle.desktop_session.specs.Greeted.{asks_page, lists_all, lists_from, lists_on}
use Rattle.desktop_session.specs.Inquiries.{Inquiry}
use Rattle.desktop_session.proofs.FollowLaws.{Reaches, follows_done, reaches_none, reaches_then, follows_ended}

-- what is asked behind a page
abbrev page_next : ℕ → List DbHead × Option ℕ → Inquiry (List DbHead)
page_next most = λ found. lists_on found.1 found.0 (λ next. lists_from most next found.0)

-- so many requests more than there are starts
pub record ListsOn {L : Type 0} (link : Ghosts L) (whole : Inquiry (List DbHead)) (start : ℕ) (heads : List DbHead) (old now : L) : Type 0 where
  pub most : ℕ
  pub enough : 65536 ≤ most + start
  pub reaches : Reaches link whole (lists_from most start heads) old now

module _ {L : Type 0} {link : Ghosts L}
    (heard_more : (a b c : L) (first next : List Try) → link.heard a first b → link.heard b next c → link.heard a (first ++ next) c)
    (whole : Inquiry (List DbHead)) (start : ℕ) (heads : List DbHead) (old mid new : L) (few : start < 65536) where
  on_next : (most : ℕ) (next : ℕ) (more : List DbHead) → 65536 ≤ most + start → Reaches link whole (lists_from most start heads) old mid → start < next
      → Follows link (asks_page start heads) mid new (Ok (more, Some next)) → ListsOn link whole next more old new
  unfolding lists_from
  on_next zero next more enough reaches above goes = absurd (omega arith)
  on_next (suc most) next more enough reaches above goes =
      record { most = most; enough = omega arith; reaches = reaches_then heard_more (page_next most) reaches goes }

  at_end : (most : ℕ) (more : List DbHead) → 65536 ≤ most + start → Reaches link whole (lists_from most start heads) old mid
      → Follows link (asks_page start heads) mid new (Ok (more, None)) → Follows link whole old new (Ok more)
  unfolding lists_from
  at_end zero more enough reaches goes = absurd (omega arith)
  at_end (suc most) more enough reaches goes = follows_done (reaches_then heard_more (page_next most) reaches goes)

  at_stop : (most : ℕ) (cause : SessionFault) → 65536 ≤ most + start → Reaches link whole (lists_from most start heads) old mid
      → Follows link (asks_page start heads) mid new (Err cause) → Follows link whole old new (Err cause)
  unfolding lists_from
  at_stop zero cause enough reaches goes = absurd (omega arith)
  at_stop (suc most) cause enough reaches goes = follows_ended heard_more (page_next most) reaches goes

module _ {L : Type 0} {link : Ghosts L}
    (heard_more : (a b c : L) (first next : List Try) → link.heard a first b → link.heard b next c → link.heard a (first ++ next) c)
    {whole : Inquiry (List DbHead)} {start : ℕ} {heads : List DbHead} {old mid new : L} (few : start < 65536)
    (before : ListsOn link whole start heads old mid) where
  pub lists_next : {next : ℕ} {more : List DbHead} → start < next → Follows link (asks_page start heads) mid new (Ok (more, Some next))
      → ListsOn link whole next more old new
  lists_next {next} {more} above goes = on_next heard_more whole start heads old mid new few before.most next more before.enough before.reaches above goes

  pub lists_end : {more : List DbHead} → Follows link (asks_page start heads) mid new (Ok (more, None)) → Follows link whole old new (Ok more)
  lists_end {more} goes = at_end heard_more whole start heads old mid new few before.most more before.enough before.reaches goes

  pub lists_stop : {cause : SessionFault} → Follows link (asks_page start heads) mid new (Err cause) → Follows link whole old new (Err cause)
  lists_stop {cause} goes = at_stop heard_more whole start heads old mid new few before.most cause before.enough before.reaches goes

pub lists_begin : {L : Type 0} {link : Ghosts L} (heard_none : (a : L) → link.heard a [] a) {heads : List DbHead} {old : L} → heads ≡ []
    → ListsOn link lists_all 0 heads old old
lists_begin {link} heard_none {heads} {old} none = record {
  most = 65536;
  enough = omega arith;
  reaches = subst (λ (listed : List DbHead). Reaches link lists_all (lists_from 65536 0 listed) old old) (sym none) (reaches_none heard_none lists_all old);
}
