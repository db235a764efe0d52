-- A list of the databases, in any number of replies: each database is in it once, whatever the indices.
use Rattle.std.proofs.Common.{◌≡◌, ◌∙◌, ◌≤◌, ◌<◌, ◌+◌, ◌^◌, refl, sym, ap, subst, inl, inr, ℕ, zero, suc, Bool, true, false, not, ◌&&◌, cond, List, [], ◌∷◌, ◌++◌, map, arith, ltb, append_assoc, lt-ltb, le-ltb}
use Rattle.std.proofs.lemmas.List.{append-nil, map-append}
use Rattle.std.specs.Prelude.{◌⊎◌, ◌==◌, Option, Some, None, Ok, Err}
use Rattle.pdb_values.specs.Heads.{has_bit}
use Rattle.pdb_values.specs.declared.head.DbHead.{DbHead}
use Rattle.dlp_replies.specs.ReplyReading.{reply_at}
use Rattle.dlp_replies.specs.ReplyValues as reply
use Rattle.dlp_replies.specs.ReplyValues.{ReplyValue}
use Rattle.palm_device.specs.Devices.{Device}
use Rattle.desktop_session.specs.declared.fault.SessionFault.TheVariants as session
use Rattle.desktop_session.specs.Answers.{mapped}
use Rattle.desktop_session.specs.Greeted.{asks_page, list_behind, lists_all, lists_from, lists_on, page, with_page}
use Rattle.desktop_session.specs.Inquiries.{Ends, ◌>>=◌}
use Rattle.desktop_session.specs.Requests.{listing}
use Rattle.desktop_session.specs.Starts.{index_behind}
use Rattle.foreign_laws.specs.Endings.{EndsOver}
use Rattle.foreign_laws.specs.Foreign.{AreBelow, AreEntries, Foreign, ForeignStep, HasEachHead, HasNoneFrom, IsForeign, IsPage, Refuses, Rise, is_some_left, last_index}
use Rattle.foreign_laws.proofs.EndLaws.{ends_parts, ok_same}
use Rattle.foreign_laws.proofs.StepLaws.{Served, step_of}

-- the heads of entries
abbrev heads_of : List (ℕ × DbHead) → List DbHead
heads_of entries = map (λ (entry : ℕ × DbHead). entry.1) entries

-- ---- where a list is cut

entries_more : (device : Device) (first later : List (ℕ × List ℕ)) (entries more : List (ℕ × DbHead)) → AreEntries device first entries
    → AreEntries device later more → AreEntries device (first ++ later) (entries ++ more)
entries_more device [] later [] more are rest = rest
entries_more device [] later (entry ∷ entries) more are rest = absurd are
entries_more device (one ∷ first) later [] more are rest = absurd are
entries_more device (one ∷ first) later (entry ∷ entries) more are rest = (are.0, entries_more device first later entries more are.1 rest)

-- what starts at or above a start
abbrev IsFrom : ℕ → List (ℕ × List ℕ) → Type 0
IsFrom start [] = Unit {0}
IsFrom start (one ∷ later) = start ≤ one.0

from_rise : (start : ℕ) (listed : List (ℕ × List ℕ)) → Rise start listed → IsFrom start listed
from_rise start [] rise = tt
from_rise start (one ∷ later) rise = rise.0

-- two cuts at one start are the same
record SameCut (first other left rest : List (ℕ × List ℕ)) : Type 0 where
  before : first ≡ other
  behind : left ≡ rest

same_cut : (start : ℕ) (first other left rest : List (ℕ × List ℕ)) → first ++ left ≡ other ++ rest → AreBelow start first → AreBelow start other
    → IsFrom start left → IsFrom start rest → SameCut first other left rest
same_cut start [] [] left rest is low below above from = record { before = refl; behind = is }
same_cut start [] (one ∷ other) [] rest is low below above from = absurd cc
same_cut start [] (one ∷ other) (next ∷ left) rest is low below above from =
    let same : next ≡ one = cc in
    absurd (let first : one.0 < start = below.0 in let second : start ≤ next.0 = above in
    let e : next.0 ≡ one.0 = ap (λ (o : ℕ × List ℕ). o.0) same in omega arith)
same_cut start (one ∷ first) [] left [] is low below above from = absurd cc
same_cut start (one ∷ first) [] left (next ∷ rest) is low below above from =
    let same : one ≡ next = cc in
    absurd (let under : one.0 < start = low.0 in let over : start ≤ next.0 = from in let e : one.0 ≡ next.0 = ap (λ (o : ℕ × List ℕ). o.0) same in omega arith)
same_cut start (one ∷ first) (next ∷ other) left rest is low below above from =
    let same : one ≡ next = cc in
    let tail : first ++ left ≡ other ++ rest = cc in
    let cut = same_cut start first other left rest tail low.1 below.1 above from in
    record { before = cc (same, cut.before); behind = cut.behind }

-- what rises from a start on and is below it is nothing
none_between : (start : ℕ) (listed : List (ℕ × List ℕ)) → IsFrom start listed → AreBelow start listed → listed ≡ []
none_between start [] above below = refl
none_between start (one ∷ later) above below = absurd (let first : one.0 < start = below.0 in let second : start ≤ one.0 = above in omega arith)

below_more : (start : ℕ) (first later : List (ℕ × List ℕ)) → AreBelow start first → AreBelow start later → AreBelow start (first ++ later)
below_more start [] later low below = below
below_more start (one ∷ first) later low below = (low.0, below_more start first later low.1 below)

below_above : (start next : ℕ) (listed : List (ℕ × List ℕ)) → start ≤ next → AreBelow start listed → AreBelow next listed
below_above start next [] above below = tt
below_above start next (one ∷ later) above below = (let first : one.0 < start = below.0 in omega arith, below_above start next later above below.1)

-- behind a part that rises all is above its last index
record RisesOn (start : ℕ) (first : ℕ × List ℕ) (later behind : List (ℕ × List ℕ)) : Type 0 where
  last : start ≤ last_index first later
  below : AreBelow (last_index first later + 1) (first ∷ later)
  rise : Rise (last_index first later + 1) behind

rises_on : (start : ℕ) (first : ℕ × List ℕ) (later behind : List (ℕ × List ℕ)) → Rise start ((first ∷ later) ++ behind) → RisesOn start first later behind
rises_on start first [] behind rise = record { last = rise.0; below = (omega arith, tt); rise = rise.2 }
rises_on start first (next ∷ later) behind rise =
    let rest = rises_on (first.0 + 1) next later behind rise.2 in
    let above : start ≤ first.0 = rise.0 in
    let over : first.0 + 1 ≤ last_index next later = rest.last in
    record { last = omega arith; below = (omega arith, rest.below); rise = rest.rise }

-- ---- one reply

page_refused : (start : ℕ) (heads : List DbHead) (code : ℕ) (found : List DbHead × Option ℕ) → (code == 5) ≡ false
    → page start heads (Ok (reply.Refused 0x16 code)) ≡ Ok found → ⊥
page_refused start heads code found five is = refused_by (code == 5) five is
  where
    refused_by : (b : Bool) → b ≡ false
        → mapped (with_page start heads) (cond b (Ok None) (Err (session.Refused 0x16 (record { 0 = code })))) ≡ Ok found → ⊥
    refused_by true five is = cc
    refused_by false five is = cc

-- where a list goes on behind a page
abbrev pub next_by : List (ℕ × List ℕ) → ℕ → Option ℕ
next_by [] last = None
next_by (one ∷ later) last = Some (last + 1)

pub behind_by : (start last flags : ℕ) (behind : List (ℕ × List ℕ)) → has_bit 0x80 flags ≡ is_some_left behind → start ≤ last → Rise (last + 1) behind
    → list_behind start last flags ≡ next_by behind last
behind_by start last flags [] more above rise = on_by (has_bit 0x80 flags) more
  where
    on_by : (b : Bool) → b ≡ false → cond (b && not (ltb last start)) (index_behind last) None ≡ None
    on_by true is = absurd cc
    on_by false is = refl
behind_by start last flags (one ∷ later) more above rise =
    on_by (has_bit 0x80 flags) (ltb last start) (ltb last 65535) more (le-ltb last start above)
    (lt-ltb last 65535 (let over : last + 1 ≤ one.0 = rise.0 in let half : one.0 < 2 ^ 16 = rise.1 in omega arith))
  where
    on_by : (b c d : Bool) → b ≡ true → c ≡ false → d ≡ true → cond (b && not c) (cond d (Some (last + 1)) None) None ≡ Some (last + 1)
    on_by true false true is under below = refl
    on_by true false false is under below = absurd cc
    on_by true true d is under below = absurd cc
    on_by false c d is under below = absurd cc

-- ---- all replies

-- what was listed of it, up to a start
record ListedUpTo (old : Foreign) (start : ℕ) (heads : List DbHead) (first left : List (ℕ × List ℕ)) : Type 0 where
  parts : old.listed ≡ first ++ left
  low : AreBelow start first
  rise : Rise start left
  entries : List (ℕ × DbHead)
  are : AreEntries old.device first entries
  is : heads ≡ heads_of entries

all_done : (old new : Foreign) (start : ℕ) (heads x : List DbHead) (first : List (ℕ × List ℕ)) → ListedUpTo old start heads first []
    → EndsOver ForeignStep (Ends (Ok heads)) old x new → HasEachHead old x new
all_done old new start heads x first so ended = record {
  entries = so.entries;
  are = subst (λ (l : List (ℕ × List ℕ)). AreEntries old.device l so.entries) (sym (so.parts ∙ append-nil first)) so.are;
  is = ok_same (sym ended.0) ∙ so.is;
  same = ended.1;
}

abbrev Goes : ℕ → Type 0
Goes most =
    (start : ℕ) (heads x : List DbHead) (first left : List (ℕ × List ℕ)) (old new : Foreign) → IsForeign old → ListedUpTo old start heads first left
    → 2 ^ 16 ≤ most + start → EndsOver ForeignStep (lists_from most start heads) old x new → HasEachHead old x new

module _ (most : ℕ) (goes : Goes most) (start : ℕ) (heads x : List DbHead) (first left : List (ℕ × List ℕ)) (old new : Foreign) (proper : IsForeign old)
    (so : ListedUpTo old start heads first left) (enough : 2 ^ 16 ≤ suc most + start) where
  -- a page
  module _ (value : ReplyValue) (at : IsPage old start value) where
    abbrev last : ℕ
    last = last_index at.first at.later

    abbrev heads_now : List DbHead
    heads_now = heads ++ heads_of at.entries

    cut : SameCut first at.before left ((at.first ∷ at.later) ++ at.behind)
    cut = same_cut start first at.before left ((at.first ∷ at.later) ++ at.behind)
        (sym so.parts ∙ at.parts ∙ append_assoc at.before (at.first ∷ at.later) at.behind) so.low at.below (from_rise start left so.rise) at.above

    on : RisesOn start at.first at.later at.behind
    on = rises_on start at.first at.later at.behind (subst (λ (l : List (ℕ × List ℕ)). Rise start l) cut.behind so.rise)

    more : ListedUpTo old (last + 1) heads_now (at.before ++ (at.first ∷ at.later)) at.behind
    more = record {
      parts = at.parts;
      low = below_more (last + 1) at.before (at.first ∷ at.later)
          (below_above start (last + 1) at.before (let above = on.last in omega arith) at.below) on.below;
      rise = on.rise;
      entries = so.entries ++ at.entries;
      are = entries_more old.device at.before (at.first ∷ at.later) so.entries at.entries
          (subst (λ (l : List (ℕ × List ℕ)). AreEntries old.device l so.entries) cut.before so.are) at.are;
      is = ap (λ (h : List DbHead). h ++ heads_of at.entries) so.is ∙ sym (map-append (λ (entry : ℕ × DbHead). entry.1) so.entries at.entries);
    }

    by_behind : (behind : List (ℕ × List ℕ)) → ListedUpTo old (last + 1) heads_now (at.before ++ (at.first ∷ at.later)) behind
        → EndsOver ForeignStep (lists_on (next_by behind last) heads_now (λ next. lists_from most next heads_now)) old x new → HasEachHead old x new
    by_behind [] now ended = all_done old new (last + 1) heads_now x (at.before ++ (at.first ∷ at.later)) now ended
    by_behind (one ∷ later) now ended =
        goes (last + 1) heads_now x (at.before ++ (at.first ∷ at.later)) (one ∷ later) old new proper now
        (let above = on.last in omega arith) ended

    paged : (found : List DbHead × Option ℕ) → page start heads (Ok value) ≡ Ok found
        → EndsOver ForeignStep (lists_on found.1 found.0 (λ next. lists_from most next found.0)) old x new → HasEachHead old x new
    paged found is ended =
        let said : page start heads (Ok value) ≡ Ok (heads_now, list_behind start last at.flags) = ap (λ (v : ReplyValue). page start heads (Ok v)) at.is in
        let same : found ≡ (heads_now, next_by at.behind last) =
        ok_same (sym is ∙ said) ∙ ap (λ (next : Option ℕ). (heads_now, next)) (behind_by start last at.flags at.behind at.more on.last on.rise) in
        by_behind at.behind more
        (subst (λ (f : List DbHead × Option ℕ). EndsOver ForeignStep (lists_on f.1 f.0 (λ next. lists_from most next f.0)) old x new) same ended)

  -- none is left
  no_more : (value : ReplyValue) → HasNoneFrom old start value → (found : List DbHead × Option ℕ) → page start heads (Ok value) ≡ Ok found
      → EndsOver ForeignStep (lists_on found.1 found.0 (λ next. lists_from most next found.0)) old x new → HasEachHead old x new
  no_more value none found is ended =
      let same : found ≡ (heads, None) = ok_same (sym is ∙ ap (λ (v : ReplyValue). page start heads (Ok v)) none.is) in
      let nothing : left ≡ [] = none_between start left (from_rise start left so.rise)
      (below_left first left (subst (λ (l : List (ℕ × List ℕ)). AreBelow start l) so.parts none.below)) in
      all_done old new start heads x first (subst (λ (l : List (ℕ × List ℕ)). ListedUpTo old start heads first l) nothing so)
      (subst (λ (f : List DbHead × Option ℕ). EndsOver ForeignStep (lists_on f.1 f.0 (λ next. lists_from most next f.0)) old x new) same ended)
    where
      below_left : (first left : List (ℕ × List ℕ)) → AreBelow start (first ++ left) → AreBelow start left
      below_left [] left below = below
      below_left (one ∷ first) left below = below_left first left below.1

  by_reply : (mid : Foreign) (answer : List ℕ) (found : List DbHead × Option ℕ) → Served old (listing start).asks answer mid
      → page start heads (reply_at 0x16 answer) ≡ Ok found
      → EndsOver ForeignStep (lists_on found.1 found.0 (λ next. lists_from most next found.0)) mid x new → HasEachHead old x new
  by_reply mid answer found served is ended = each served.serves
    where
      read : page start heads (Ok served.value) ≡ Ok found
      read = ap (page start heads) (sym served.reads) ∙ is

      each : Refuses old (listing start).asks served.value mid ⊎ ((IsPage old start served.value ⊎ HasNoneFrom old start served.value) × (mid ≡ old))
          → HasEachHead old x new
      each (inl refuses) =
          absurd (page_refused start heads refuses.code found (refuses.other refl)
          (ap (λ (v : ReplyValue). page start heads (Ok v)) (sym refuses.is) ∙ read))
      each (inr (inl at, same)) = paged served.value at found read
          (subst (λ (m : Foreign). EndsOver ForeignStep (lists_on found.1 found.0 (λ next. lists_from most next found.0)) m x new) same ended)
      each (inr (inr none, same)) = no_more served.value none found read
          (subst (λ (m : Foreign). EndsOver ForeignStep (lists_on found.1 found.0 (λ next. lists_from most next found.0)) m x new) same ended)

  at_reply : EndsOver ForeignStep (asks_page start heads >>= (λ found. lists_on found.1 found.0 (λ next. lists_from most next found.0))) old x new
      → HasEachHead old x new
  at_reply ended =
      let parts = ends_parts ForeignStep (asks_page start heads) (λ (found : List DbHead × Option ℕ). lists_on found.1 found.0
      (λ next. lists_from most next found.0)) old x new ended in
      let one = parts.first in
      by_reply one.1 one.0 parts.x (step_of (listing start).asks old one.1 one.0 one.2 one.3) one.4.0
      (subst (λ (m : Foreign). EndsOver ForeignStep (lists_on parts.x.1 parts.x.0 (λ next. lists_from most next parts.x.0)) m x new) one.4.1 parts.rest)

rise_past : (start : ℕ) (left : List (ℕ × List ℕ)) → 2 ^ 16 ≤ start → Rise start left → left ≡ []
rise_past start [] past rise = refl
rise_past start (one ∷ later) past rise = absurd (let above : start ≤ one.0 = rise.0 in let half : one.0 < 2 ^ 16 = rise.1 in omega arith)

goes_all : (most : ℕ) → Goes most
unfolding lists_from
goes_all zero start heads x first left old new proper so enough ended =
    all_done old new start heads x first
    (subst (λ (l : List (ℕ × List ℕ)). ListedUpTo old start heads first l) (rise_past start left (omega arith) so.rise) so) ended
goes_all (suc most) start heads x first left old new proper so enough ended =
    at_reply most (goes_all most) start heads x first left old new proper so enough ended

pub lists_each : (old new : Foreign) (x : List DbHead) → IsForeign old → EndsOver ForeignStep lists_all old x new → HasEachHead old x new
lists_each old new x proper ended =
    goes_all 65536 0 [] x [] old.listed old new proper
    (record { parts = refl; low = tt; rise = proper.rise; entries = []; are = tt; is = refl }) (omega arith) ended
