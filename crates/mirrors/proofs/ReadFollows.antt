-- What is left of a reading's inquiries, record by record.
use Rattle.std.proofs.Common.{◌≡◌, ◌≤◌, ◌<◌, ◌+◌, ◌-◌, ◌++◌, refl, ap, ℕ, suc, Bool, true, false, List, [], ◌∷◌, arith, option_to_list}
use Rattle.std.specs.Prelude.{Option, Some, None, Result, Ok, Err}
use Rattle.pdb_values.specs.Contents.{ContentValue}
use Rattle.pdb_values.specs.declared.record.Record.{Record}
use Rattle.conduit_rules.specs.States.{BaseState, no_base, row, gone, base_at}
use Rattle.conduit_rules.specs.declared.view.Seen.{Seen}
use Rattle.conduit_rules.specs.declared.view.SeenState.TheVariants.{Unread}
use Rattle.desktop_session.specs.Inquiries.{Ends, Inquiry, ◌>>=◌}
use Rattle.mirrors.specs.Places.{row_content}
use Rattle.mirrors.specs.ReadInquiries.{fills, fills_next, fills_one, goes_on, reads_changed, reads_from, reads_next, reads_of, reads_one, reads_other}
use Rattle.mirrors.specs.Shells.{waits}

-- ---- records by their index

pub from-begin : (handle count : ℕ) {seen : List Seen} → seen ≡ [] → reads_from handle 0 (count - 0) seen ≡ reads_from handle 0 count []
from-begin handle count none =
    let all : count - 0 ≡ count = omega arith in
    rw (all, none) refl

pub from-next : (handle index count : ℕ) (seen : List Seen) → index < count
    → reads_from handle index (count - index) seen
    ≡ reads_one handle index >>= (λ one. reads_from handle (index + 1) (count - (index + 1)) (seen ++ one ∷ []))
unfolding reads_from
from-next handle index count seen below =
    let one : count - index ≡ suc (count - (index + 1)) = omega arith in
    rw one refl

pub from-end : (handle index count : ℕ) (seen : List Seen) → count ≤ index → reads_from handle index (count - index) seen ≡ Ends (Ok seen)
unfolding reads_from
from-end handle index count seen all =
    let none : count - index ≡ 0 = omega arith in
    rw none refl

-- ---- changed records

pub changed-begin : (handle most : ℕ) {seen : List Seen} → seen ≡ [] → reads_changed handle (most - 0) seen ≡ reads_changed handle most []
changed-begin handle most none =
    let all : most - 0 ≡ most = omega arith in
    rw (all, none) refl

pub changed-next : (handle k most : ℕ) (seen : List Seen) → k < most
    → reads_changed handle (most - k) seen
    ≡ reads_next handle >>= (λ found. goes_on found (Ends (Ok seen)) (λ one. reads_changed handle (most - (k + 1)) (seen ++ one ∷ [])))
unfolding reads_changed
changed-next handle k most seen below =
    let one : most - k ≡ suc (most - (k + 1)) = omega arith in
    rw one refl

pub changed-end : (handle k most : ℕ) (seen : List Seen) → most ≤ k → reads_changed handle (most - k) seen ≡ Ends (Ok seen)
unfolding reads_changed
changed-end handle k most seen all =
    let none : most - k ≡ 0 = omega arith in
    rw none refl

-- ---- other records

-- a row of the base, as it is shown
abbrev pub as_row : ℕ → ContentValue → Seen
as_row id content = record { id = id; state = Unread; content = content }

row_shown : (handle id : ℕ) (based : BaseState) (content : ContentValue) → row_content based ≡ Some content
    → reads_other handle id based ≡ Ends (Ok (Some (as_row id content)))
row_shown handle id no_base content is = absurd cc
row_shown handle id (row kept) content is =
    let same : kept ≡ content = cc in
    ap (λ (content : ContentValue). Ends (Ok (Some (as_row id content)))) same
row_shown handle id (gone kept) content is = absurd cc

no_row : (handle id : ℕ) (based : BaseState) → row_content based ≡ None → reads_other handle id based ≡ reads_of handle id
no_row handle id no_base none = refl
no_row handle id (row kept) none = absurd cc
no_row handle id (gone kept) none = refl

module _ (base : List Record) (handle : ℕ) (entry : Seen) where
  pub shown_itself : waits entry.state ≡ false → fills_one base handle entry ≡ Ends (Ok (Some entry))
  shown_itself read = rw read refl

  pub shown_row : (content : ContentValue) → waits entry.state ≡ true → row_content (base_at base false entry.id) ≡ Some content
      → fills_one base handle entry ≡ Ends (Ok (Some (as_row entry.id content)))
  shown_row content waiting is = rw waiting (row_shown handle entry.id (base_at base false entry.id) content is)

  pub shown_other : waits entry.state ≡ true → row_content (base_at base false entry.id) ≡ None → fills_one base handle entry ≡ reads_of handle entry.id
  shown_other waiting none = rw waiting (no_row handle entry.id (base_at base false entry.id) none)

  pub fills-next : (seen : List Seen) {left more : List Seen} → left ≡ entry ∷ more
      → fills base handle left seen ≡ fills_next base handle seen entry >>= (λ all. fills base handle more all)
  unfolding fills
  fills-next seen is = rw is refl

pub fills-end : (base : List Record) (handle : ℕ) (seen : List Seen) {left : List Seen} → left ≡ [] → fills base handle left seen ≡ Ends (Ok seen)
unfolding fills
fills-end base handle seen none = rw none refl

pub fills-begin : (base : List Record) (handle : ℕ) {left entries seen : List Seen} → left ≡ entries → seen ≡ []
    → fills base handle left seen ≡ fills base handle entries []
fills-begin base handle is none = rw (is, none) refl
