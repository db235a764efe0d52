-- What the handheld holds among a session's replacements and adds: a live content that is kept stays, and nothing is archived.
use Rattle.std.proofs.lemmas.Bool.Decides.{nat_tests}
use Rattle.std.proofs.Common.{◌≡◌, ℕ, zero, suc, List, [], ◌∷◌, ◌++◌, refl, ap, ◌∙◌, sym, subst, arith, Option, Some, None}
use Rattle.std.specs.Prelude.{take}
use Rattle.pdb_values.specs.Contents.{ContentValue}
use Rattle.pdb_values.specs.declared.record.Record.{Record}
use Rattle.palm_device.specs.Records.{put_record}
use Rattle.conduit_rules.specs.ById.{each_below, id_bound, with_id}
use Rattle.conduit_rules.specs.Choices.{Choice}
use Rattle.conduit_rules.specs.Plans.{replaced_rows, replacement}
use Rattle.conduit_rules.specs.States.{SideState, nothing, live, archived, held, held_where}
use Rattle.conduit_rules.proofs.ByIdLaws.{each_below-suc, each_below-zero}
use Rattle.record_merge.specs.Writes.{AreFree, GotFreeIds, Write, add, adding, after, clean_up, giving, numbered, purge, replace, replaces, reset}
use Rattle.record_merge.proofs.AfterLaws.{place-first}
use Rattle.record_merge.proofs.PutLaws.{held-put}

-- each write gives an id what is kept there, or goes to an id that holds nothing
abbrev pub AreGiven : (ℕ → Option ContentValue) → List Write → List Record → Type 0
AreGiven keep [] records = Unit {0}
AreGiven keep (replace i c ∷ ws) records = (keep i ≡ Some c) × AreGiven keep ws (put_record i c records)
AreGiven keep (add g c ∷ ws) records = (held records g ≡ nothing) × AreGiven keep ws (put_record g c records)
AreGiven keep (purge i ∷ ws) records = ⊥
AreGiven keep (clean_up ∷ ws) records = ⊥
AreGiven keep (reset ∷ ws) records = ⊥

pub given-take : (keep : ℕ → Option ContentValue) (n : ℕ) (ws : List Write) (records : List Record) → AreGiven keep ws records
    → AreGiven keep (take n ws) records
given-take keep zero ws records are = tt
given-take keep (suc n) [] records are = tt
given-take keep (suc n) (replace i c ∷ ws) records are = (are.0, given-take keep n ws (put_record i c records) are.1)
given-take keep (suc n) (add g c ∷ ws) records are = (are.0, given-take keep n ws (put_record g c records) are.1)
given-take keep (suc n) (purge i ∷ ws) records are = absurd are
given-take keep (suc n) (clean_up ∷ ws) records are = absurd are
given-take keep (suc n) (reset ∷ ws) records are = absurd are

-- ---- a session's replacements and adds are such

abbrev AllKept : (ℕ → Option ContentValue) → List (ℕ × ContentValue) → Type 0
AllKept keep [] = Unit {0}
AllKept keep (e ∷ es) = (keep e.0 ≡ Some e.1) × AllKept keep es

kept-append : (keep : ℕ → Option ContentValue) (xs ys : List (ℕ × ContentValue)) → AllKept keep xs → AllKept keep ys → AllKept keep (xs ++ ys)
kept-append keep [] ys kept more = more
kept-append keep (x ∷ xs) ys kept more = (kept.0, kept-append keep xs ys kept.1 more)

kept_one : (keep : ℕ → Option ContentValue) (i : ℕ) (k : Option ContentValue) (h : SideState) → keep i ≡ k → AllKept keep (with_id i (replacement k h))
kept_one keep i k h is = grind arith

kept-below : (keep : ℕ → Option ContentValue) (h : ℕ → SideState) (n : ℕ) → AllKept keep (each_below (λ i. with_id i (replacement (keep i) (h i))) n)
kept-below keep h zero = subst (AllKept keep) (sym (each_below-zero (λ i. with_id i (replacement (keep i) (h i))))) tt
kept-below keep h (suc n) =
    subst (AllKept keep) (sym (each_below-suc (λ i. with_id i (replacement (keep i) (h i))) n))
    (kept-append keep (each_below (λ i. with_id i (replacement (keep i) (h i))) n) (with_id n (replacement (keep n) (h n))) (kept-below keep h n)
    (kept_one keep n (keep n) (h n) refl))

given-adds : (keep : ℕ → Option ContentValue) (es : List (ℕ × ContentValue)) (records : List Record) → AreFree es records → AreGiven keep (adding es) records
given-adds keep [] records free = tt
given-adds keep (e ∷ es) records free = (ap held_where (place-first e.0 records free.0.none), given-adds keep es (put_record e.0 e.1 records) free.1)

given-both : (keep : ℕ → Option ContentValue) (es adds : List (ℕ × ContentValue)) (records : List Record) → AllKept keep es
    → AreFree adds (after (replaces es) records) → AreGiven keep (replaces es ++ adding adds) records
given-both keep [] adds records kept free = given-adds keep adds records free
given-both keep (e ∷ es) adds records kept free = (kept.0, given-both keep es adds (put_record e.0 e.1 records) kept.1 free)

pub giving-given : (ch : Choice) (h : ℕ → SideState) (given : List ℕ) (records : List Record) → GotFreeIds ch h given records
    → AreGiven ch.keep (giving ch h given) records
giving-given ch h given records free = given-both ch.keep (replaced_rows ch.keep h) (numbered given ch.adds) records (kept-below ch.keep h id_bound) free

-- ---- what is held then

-- nothing else than this content is kept
abbrev pub KeepsNoOther : ContentValue → Option ContentValue → Type 0
KeepsNoOther c None = Unit {0}
KeepsNoOther c (Some d) = d ≡ c

put-live : (c d : ContentValue) (i j : ℕ) (records : List Record) → (i ≡ j → d ≡ c) → held records i ≡ live c → held (put_record j d records) i ≡ live c
put-live c d i j records same is = grind (arith, nat_tests, held-put j d records i, same, is)

one_kept : (c d : ContentValue) (i j : ℕ) (keep : ℕ → Option ContentValue) → KeepsNoOther c (keep i) → keep j ≡ Some d → i ≡ j → d ≡ c
one_kept c d i j keep no_other is same = subst (KeepsNoOther c) (ap keep same ∙ is) no_other

-- a live content stays under its id, where nothing else is kept
pub live-after : (keep : ℕ → Option ContentValue) (ws : List Write) (records : List Record) (c : ContentValue) (i : ℕ) → AreGiven keep ws records
    → KeepsNoOther c (keep i) → held records i ≡ live c → held (after ws records) i ≡ live c
live-after keep [] records c i are no_other is = is
live-after keep (replace j d ∷ ws) records c i are no_other is =
    live-after keep ws (put_record j d records) c i are.1 no_other (put-live c d i j records (one_kept c d i j keep no_other are.0) is)
live-after keep (add g d ∷ ws) records c i are no_other is =
    live-after keep ws (put_record g d records) c i are.1 no_other
    (put-live c d i g records (λ same. absurd (let no : live c ≡ nothing = sym is ∙ ap (held records) same ∙ are.0 in cc)) is)
live-after keep (purge j ∷ ws) records c i are no_other is = absurd are
live-after keep (clean_up ∷ ws) records c i are no_other is = absurd are
live-after keep (reset ∷ ws) records c i are no_other is = absurd are

put-archived : (c d : ContentValue) (i j : ℕ) (records : List Record) → held (put_record j d records) i ≡ archived c → held records i ≡ archived c
put-archived c d i j records is = grind (arith, nat_tests, held-put j d records i, is)

-- and what is archived was so
pub archived-after : (keep : ℕ → Option ContentValue) (ws : List Write) (records : List Record) (c : ContentValue) (i : ℕ) → AreGiven keep ws records
    → held (after ws records) i ≡ archived c → held records i ≡ archived c
archived-after keep [] records c i are is = is
archived-after keep (replace j d ∷ ws) records c i are is =
    put-archived c d i j records (archived-after keep ws (put_record j d records) c i are.1 is)
archived-after keep (add g d ∷ ws) records c i are is =
    put-archived c d i g records (archived-after keep ws (put_record g d records) c i are.1 is)
archived-after keep (purge j ∷ ws) records c i are is = absurd are
archived-after keep (clean_up ∷ ws) records c i are is = absurd are
archived-after keep (reset ∷ ws) records c i are is = absurd are
