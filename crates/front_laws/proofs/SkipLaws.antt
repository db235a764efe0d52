-- A database that a meeting doesn't skip isn't skipped by the next one.
use Rattle.std.proofs.lemmas.Grind.{common_steps}
use Rattle.std.proofs.lemmas.Bool.Decides.{nat_tests}
use Rattle.std.proofs.Common.{◌≡◌, ℕ, List, ◌<◌, ◌%◌, bit_and, ◌||◌, ◌&&◌, refl, ap, ◌∙◌, arith, Bool, true, false, not, Option, Some, None, is_none, is_some}
use Rattle.std.proofs.Common.{if◌then◌else◌}
use Rattle.std.specs.Str.{bytes_eq}
use Rattle.std.proofs.lemmas.Nat.{and_assoc}
use Rattle.pdb_values.specs.Databases.{DatabaseValue}
use Rattle.pdb_values.specs.Heads.{holds_resources, is_read_only, is_stream}
use Rattle.pdb_values.specs.declared.head.DbHead.{DbHead}
use Rattle.pdb_values.proofs.NamedLaws.{bytes_eq-own}
use Rattle.conduit_rules.specs.declared.action.Action.{Action}
use Rattle.session_plan.specs.Heads.{made_head, plain_attributes, rows_head}
use Rattle.session_plan.specs.Merges.{bare_before, handheld_before, new_database, rows_before}
use Rattle.session_plan.specs.Skips.{differ, head_of, is_missing, one_passes, passes, reason_by, skip_of}
use Rattle.session_plan.specs.Tasks.{Meeting, task_of}
use Rattle.session_parts.specs.declared.skip.Skip.{Skip}
use Rattle.session_parts.specs.declared.skip.Skip.TheVariants as skip
use Rattle.front_laws.specs.Meetings.{IsLike, IsLikeFirst, StandsLike}
use Rattle.folder_files.proofs.ValueLaws.{or_first}
use Rattle.sync_session.proofs.FitLaws.{odd_mask}

-- ---- a test of attributes

abbrev Keeps : (ℕ → Bool) → Type 0
Keeps test = (x y : DbHead) → IsLike x y → test x.attributes ≡ test y.attributes

passes_none : (test : ℕ → Bool) → Keeps test → (own other now : Option DbHead) → IsLikeFirst own other now → passes test own ≡ false
    → passes test other ≡ false → passes test now ≡ false
passes_none test keeps own other now like no_own no_other = grind arith

pub right_false : (a b : Bool) → (a || b) ≡ false → b ≡ false
right_false a b is = grind arith

pub both_false : {a b : Bool} → a ≡ false → b ≡ false → (a || b) ≡ false
both_false {b} no_a no_b = ap (λ x. x || b) no_a ∙ no_b

one_none : (test : ℕ → Bool) → Keeps test → (h r h1 r1 : Option DbHead) → IsLikeFirst h r h1 → IsLikeFirst r h r1 → one_passes test h r ≡ false
    → one_passes test h1 r1 ≡ false
one_none test keeps h r h1 r1 like_h like_r is =
    let no_h = or_first (passes test h) (passes test r) is in
    let no_r = right_false (passes test h) (passes test r) is in
    both_false (passes_none test keeps h r h1 like_h no_h no_r) (passes_none test keeps r h r1 like_r no_r no_h)

-- ---- type and creator

abbrev differ_by : DbHead → DbHead → Bool
differ_by x y = not (bytes_eq x.kind.0 y.kind.0 && bytes_eq x.creator.0 y.creator.0)

like_differ : {x y h r : DbHead} → IsLike x h → IsLike y r → differ_by x y ≡ differ_by h r
like_differ like_x like_y = grind arith

own_differ : (h : DbHead) → differ_by h h ≡ false
own_differ h = λ k. not (bytes_eq-own h.kind.0 k && bytes_eq-own h.creator.0 k)

none_differ : (h r h1 r1 : Option DbHead) → IsLikeFirst h r h1 → IsLikeFirst r h r1 → differ h r ≡ false → differ h1 r1 ≡ false
none_differ h r None r1 like_h like_r is = refl
none_differ h r (Some x) None like_h like_r is = refl
none_differ (Some h) (Some r) (Some x) (Some y) like_h like_r is = like_differ like_h like_r ∙ is
none_differ (Some h) None (Some x) (Some y) like_h like_r is = like_differ like_h like_r ∙ own_differ h
none_differ None (Some r) (Some x) (Some y) like_h like_r is = like_differ like_h like_r ∙ own_differ r
none_differ None None (Some x) (Some y) like_h like_r is = absurd like_h

-- ---- the reasons

abbrev chain : Bool → Bool → Bool → Bool → Bool → Skip → Skip → Skip → Skip → Skip → Option Skip
chain a b c d e s t u v w = if a then Some s else (if b then Some t else (if c then Some u else (if d then Some v else (if e then Some w else None))))

chain_none : (a b c d e : Bool) (s t u v w : Skip) → is_none (chain a b c d e s t u v w) ≡ true
    → (a ≡ false) × (b ≡ false) × (c ≡ false) × (d ≡ false) × (e ≡ false)
chain_none a b c d e s t u v w is = grind arith

none_chain : {a b c d e : Bool} (s t u v w : Skip) → a ≡ false → b ≡ false → c ≡ false → d ≡ false → e ≡ false
    → is_none (chain a b c d e s t u v w) ≡ true
none_chain s t u v w no_a no_b no_c no_d no_e = λ k. is_none (chain (no_a k) (no_b k) (no_c k) (no_d k) (no_e k) s t u v w)

module _ (h r h1 r1 : Option DbHead) (base base1 : Bool) (has_h : (is_none h1 ≡ true → is_none h ≡ true))
    (has_r : (is_none r1 ≡ true → is_none r ≡ true)) (has_base : ((is_none h1 && base1) ≡ true → base ≡ true)) where
  none_missing : (a : Action) → is_missing a h r base ≡ false → is_missing a h1 r1 base1 ≡ false
  none_missing a is = grind arith

  reason-stays : (a : Option Action) → IsLikeFirst h r h1 → IsLikeFirst r h r1 → is_none (reason_by a h r base) ≡ true
      → is_none (reason_by a h1 r1 base1) ≡ true
  reason-stays None like_h like_r is = absurd (cc)
  reason-stays (Some a) like_h like_r is =
      let parts = chain_none (one_passes holds_resources h r) (one_passes is_read_only h r) (one_passes is_stream h r) (differ h r)
      (is_missing a h r base) skip.Resource skip.ReadOnly skip.Stream skip.Differs skip.Missing is in
      none_chain skip.Resource skip.ReadOnly skip.Stream skip.Differs skip.Missing
      (one_none holds_resources (λ x y like. like.resources) h r h1 r1 like_h like_r parts.0)
      (one_none is_read_only (λ x y like. like.read_only) h r h1 r1 like_h like_r parts.1)
      (one_none is_stream (λ x y like. like.stream) h r h1 r1 like_h like_r parts.2) (none_differ h r h1 r1 like_h like_r parts.3)
      (none_missing a parts.4)

pub kept-stays : (m next : Meeting) (name : List ℕ) → StandsLike m next name → is_none (skip_of (task_of m name)) ≡ true
    → is_none (skip_of (task_of next name)) ≡ true
unfolding skip_of
kept-stays m next name like is =
    let t = task_of m name in
    let u = task_of next name in
    ap (λ a. is_none (reason_by a (head_of u.handheld) (head_of u.rows) (is_some u.base))) like.action
    ∙ reason-stays (head_of t.handheld) (head_of t.rows) (head_of u.handheld) (head_of u.rows) (is_some t.base)
    (is_some u.base) like.has_handheld like.has_rows like.has_base t.action like.handheld like.rows is

-- ---- heads that a session makes

kept_bit : (k a m : ℕ) → bit_and m k ≡ k → bit_and (bit_and a m) k ≡ bit_and a k
kept_bit k a m is = and_assoc k a m ∙ ap (bit_and a) is

plain-like : (head now : DbHead) → now.attributes ≡ plain_attributes head.attributes → now.kind.0 ≡ head.kind.0 → now.creator.0 ≡ head.creator.0
    → IsLike now head
plain-like head now attributes kind creator =
    grind (arith, odd_mask head.attributes 0x7FFB refl, kept_bit 0x0002 head.attributes 0x7FFB refl, kept_bit 0x0080 head.attributes 0x7FFB refl)

created-like : (head now : DbHead) → now.attributes ≡ bit_and (plain_attributes head.attributes) 0x7fff → now.kind.0 ≡ head.kind.0
    → now.creator.0 ≡ head.creator.0 → IsLike now head
created-like head now attributes kind creator =
    grind (
      arith,
      nat_tests,
      common_steps,
      odd_mask head.attributes 0x7FFB refl,
      kept_bit 0x0002 (plain_attributes head.attributes) 0x7fff refl,
      kept_bit 0x0002 head.attributes 0x7FFB refl,
      kept_bit 0x0080 (plain_attributes head.attributes) 0x7fff refl,
      kept_bit 0x0080 head.attributes 0x7FFB refl,
    )

-- the database that a session makes on the handheld, and its rows on the desktop
pub handheld-like : (h r : Option DatabaseValue) (b : DatabaseValue) → handheld_before h r ≡ Some b → IsLikeFirst (head_of h) (head_of r) (Some b.head)
handheld-like (Some d) r b is = grind arith
handheld-like None (Some d) b is = grind (arith, created-like d.head (new_database (made_head d.head)).head refl refl refl)
handheld-like None None b is = absurd (cc)

-- the same before it has its blocks
pub bare-like : (h r : Option DatabaseValue) (b : DatabaseValue) → bare_before h r ≡ Some b → IsLikeFirst (head_of h) (head_of r) (Some b.head)
bare-like (Some d) r b is = grind arith
bare-like None (Some d) b is = grind (arith, created-like d.head (new_database (made_head d.head)).head refl refl refl)
bare-like None None b is = absurd (cc)

pub rows-like : (date : ℕ) (h r : Option DatabaseValue) {b : DatabaseValue} → rows_before date r h ≡ Some b
    → IsLikeFirst (head_of r) (head_of h) (Some b.head)
rows-like date h (Some d) is = grind arith
rows-like date (Some d) None is = grind (arith, plain-like d.head (rows_head date d.head) refl refl refl)
rows-like date None None is = absurd (cc)
