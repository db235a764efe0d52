-- The lines of databases that took no part: what is read is such lines, such lines are read, and what is written is such lines.
use Rattle.std.proofs.lemmas.Bool.Decides.{nat_tests}
use Rattle.std.proofs.lemmas.Grind.{common_steps}
use Rattle.std.proofs.Common.{◌≡◌, ℕ, zero, suc, ◌+◌, ◌-◌, ◌<◌, ◌≤◌, true, false, cond, List, [], ◌∷◌, ◌++◌, length, get_or, take, Result, Ok, Err, refl}
use Rattle.std.proofs.Common.{sym, ap, subst, ◌∙◌, arith, inl, inr, Some, None}
use Rattle.std.specs.Prelude.{slice_get}
use Rattle.std.specs.List.{AllByRecursion, flat_map}
use Rattle.std.proofs.lemmas.List.{append-nil, append_assoc}
use Rattle.std.proofs.lemmas.Grind.{flat_map-append}
use Rattle.std.proofs.lemmas.Option.{get_or_from_slice_get}
use Rattle.folder_files.specs.InfoFiles.{IsPartedSaid, if_behind, is_parted_line, parted_at, parted_form, parted_line, parted_values, parting_at, parting_word, with_parted}
use Rattle.folder_files.specs.Lines.{AreLines, LineForm, Stem, Values, lines_text}
use Rattle.folder_files.specs.Partings.{StemsRise, follows, stem_before}
use Rattle.folder_files.specs.Reading.{line_at}
use Rattle.folder_files.specs.declared.parted.Parted.{Parted}
use Rattle.folder_files.specs.declared.parted.Parting.{Parting}
use Rattle.folder_files.specs.declared.parted.Parting.TheVariants.{Apart, Unmet}
use Rattle.folder_files.specs.declared.unread.Unread.{Unread}
use Rattle.folder_files.proofs.HexLaws.{HasNoFeed, chosen, some_is, test_some}
use Rattle.folder_files.proofs.LineLaws.{AllSay, bind_ok, line_found, line_only, ok_is}

-- ---- rising stems

rise-push : (before : List Parted) (one : Parted) → StemsRise before → follows before one.name ≡ true → StemsRise (before ++ one ∷ [])
rise-push [] one rise behind = (refl, tt)
rise-push (first ∷ []) one rise behind = (behind, (refl, tt))
rise-push (first ∷ next ∷ before) one rise behind = (rise.0, rise-push (next ∷ before) one rise.1 behind)

rise-follows : (before : List Parted) (one : Parted) (more : List Parted) → StemsRise (before ++ one ∷ more) → follows before one.name ≡ true
rise-follows [] one more rise = refl
rise-follows (first ∷ []) one more rise = rise.0
rise-follows (first ∷ next ∷ before) one more rise = rise-follows (next ∷ before) one more rise.1

follows-last : (parted : List Parted) (name : List ℕ) (last : Parted) (place : ℕ) → length parted ≡ place + 1 → last ≡ get_or parted place last
    → follows parted name ≡ stem_before last.name name
follows-last [] name last place long is = absurd (omega arith)
follows-last (one ∷ []) name last zero long is = ap (λ (p : Parted). stem_before p.name name) (sym is)
follows-last (one ∷ []) name last (suc place) long is = absurd (omega arith)
follows-last (one ∷ next ∷ parted) name last zero long is = absurd (omega arith)
follows-last (one ∷ next ∷ parted) name last (suc place) long is = follows-last (next ∷ parted) name last place (omega arith) is

pub follows-get : (parted : List Parted) (name : List ℕ) (last : Parted) → Some last ≡ slice_get parted (length parted - 1)
    → follows parted name ≡ stem_before last.name name
follows-get [] name last is = absurd cc
follows-get (one ∷ parted) name last is =
    let place : length (one ∷ parted) - 1 ≡ length parted = omega arith in
    let there = get_or_from_slice_get (one ∷ parted) (length parted) last last (ap (slice_get (one ∷ parted)) (sym place) ∙ sym is) in
    follows-last (one ∷ parted) name last (length parted) (omega arith) (sym there)

-- ---- what is read

-- what was read behind the databases before, up to the rest
pub record ReadsParted (room : ℕ) (before all : List Parted) (bytes rest : List ℕ) : Type 0 where
  pub more : List Parted
  pub whole : all ≡ before ++ more
  pub few : length more ≤ room
  pub rise : StemsRise before → StemsRise all
  pub lines : (forms : List LineForm) (values : Values forms) → AreLines forms values rest → AreLines (with_parted more forms) (parted_values more forms values) bytes

no_more : (room : ℕ) (before : List Parted) (bytes : List ℕ) (found : List Parted × List ℕ)
    → (let r : Result (List Parted × List ℕ) Unread = Ok (before, bytes) in r) ≡ Ok found → ReadsParted room before found.0 bytes found.1
no_more room before bytes found e =
    subst (λ (f : List Parted × List ℕ). ReadsParted room before f.0 bytes f.1) (ok_is (before, bytes) found e)
    (record { more = []; whole = sym (append-nil before); few = omega arith; rise = λ rise. rise; lines = λ forms values lines. lines })

behind_ok : (before : List Parted) (one : Parted) (bytes : List ℕ) (parted : List Parted) → if_behind before one bytes ≡ Ok parted
    → (follows before one.name ≡ true) × (before ++ one ∷ [] ≡ parted)
behind_ok before one bytes parted e = grind arith

pub parted_found : (room : ℕ) (before : List Parted) (bytes : List ℕ) (found : List Parted × List ℕ) → parted_at room before bytes ≡ Ok found
    → ReadsParted room before found.0 bytes found.1
unfolding parted_at
parted_found zero before bytes found e = no_more 0 before bytes found e
parted_found (suc room) before bytes found e =
    elim (chosen (is_parted_line bytes) _ _ _ e) [
      | inl there ↦
          let how : Parting = parting_at bytes in
          let line = bind_ok (line_at (parted_form how) bytes) _ found there.1 in
          let one : Parted = record { name = line.0.0; how = how } in
          let next = bind_ok (if_behind before one bytes) (λ parted. parted_at room parted line.0.1) found line.2 in
          let step = behind_ok before one bytes next.0 next.1 in
          let later : ReadsParted room (before ++ one ∷ []) found.0 line.0.1 found.1 =
          parted_found room (before ++ one ∷ []) line.0.1 found (ap (λ (parted : List Parted). parted_at room parted line.0.1) step.1 ∙ next.2) in
          let said = line_found (parted_form how) bytes line.0 line.1 in
          record {
            more = one ∷ later.more;
            whole = later.whole ∙ append_assoc before (one ∷ []) later.more;
            few = omega (arith, later.few);
            rise = λ rise. later.rise (rise-push before one rise step.0);
            lines = λ forms values lines. (said.0, line.0.1, said.1, said.2, later.lines forms values lines);
          }
      | inr none ↦ no_more (suc room) before bytes found none.1
    ]

word-no_feed : (how : Parting) → HasNoFeed (parting_word how)
word-no_feed Apart = refl
word-no_feed Unmet = refl

word_read : (how : Parting) (text : List ℕ) → (is_parted_line (parting_word how ++ text) ≡ true) × (parting_at (parting_word how ++ text) ≡ how)
word_read Apart text = (refl, refl)
word_read Unmet text = (refl, refl)

-- a line more
pub parted-step : (room : ℕ) (before : List Parted) (one : Parted) (bytes rest : List ℕ) → is_parted_line bytes ≡ true → parting_at bytes ≡ one.how
    → line_at (parted_form one.how) bytes ≡ Ok (one.name, rest) → follows before one.name ≡ true
    → parted_at (suc room) before bytes ≡ parted_at room (before ++ one ∷ []) rest
unfolding parted_at
parted-step room before one bytes rest there how line behind = rw (there, how, line, behind) refl

pub parted_only : (forms : List LineForm) (values : Values forms) (room : ℕ) (before more : List Parted) (bytes : List ℕ) → length more ≤ room
    → StemsRise (before ++ more) → AreLines (with_parted more forms) (parted_values more forms values) bytes
    → ((rest : List ℕ) → AreLines forms values rest → is_parted_line rest ≡ false)
    → (rest : List ℕ) × AreLines forms values rest × (parted_at room before bytes ≡ Ok (before ++ more, rest))
unfolding parted_at
parted_only forms values zero before [] bytes few rise lines ends =
    (bytes, lines, ap (λ (p : List Parted). let r : Result (List Parted × List ℕ) Unread = Ok (p, bytes) in r) (sym (append-nil before)))
parted_only forms values (suc room) before [] bytes few rise lines ends =
    (bytes, lines, rw (ends bytes lines) (ap (λ (p : List Parted). let r : Result (List Parted × List ℕ) Unread = Ok (p, bytes) in r) (sym (append-nil before))))
parted_only forms values zero before (one ∷ more) bytes few rise lines ends = absurd (omega arith)
parted_only forms values (suc room) before (one ∷ more) bytes few rise lines ends =
    let word = word_read one.how (lines.0 ++ 10 ∷ lines.1) in
    let there : is_parted_line bytes ≡ true = ap is_parted_line lines.2 ∙ word.0 in
    let how : parting_at bytes ≡ one.how = ap parting_at lines.2 ∙ word.1 in
    let line : line_at (parted_form one.how) bytes ≡ Ok (one.name, lines.1) =
    ap (line_at (parted_form one.how)) lines.2 ∙ line_only (parted_form one.how) one.name lines.0 lines.1 (word-no_feed one.how) lines.3 in
    let behind = rise-follows before one more rise in
    let whole : (before ++ one ∷ []) ++ more ≡ before ++ one ∷ more = append_assoc before (one ∷ []) more in
    let later = parted_only forms values room (before ++ one ∷ []) more lines.1 (omega arith) (subst StemsRise (sym whole) rise) lines.4 ends in (
      later.0,
      later.1,
      parted-step room before one bytes lines.1 there how line behind ∙ (later.2
          ∙ ap (λ (p : List Parted). let r : Result (List Parted × List ℕ) Unread = Ok (p, later.0) in r) whole),
    )

-- ---- line by line

-- the word that was seen
pub parting_seen : (bytes : List ℕ) (how : Parting) → cond (is_parted_line bytes) (Some (parting_at bytes)) None ≡ Some how
    → (is_parted_line bytes ≡ true) × (parting_at bytes ≡ how)
parting_seen bytes how e = let test = test_some (is_parted_line bytes) (Some (parting_at bytes)) how e in (test.0, some_is _ _ test.1)

pub parted_stop : (room : ℕ) (before : List Parted) (how : Parting) (key bytes : List ℕ) (unread : Unread) → 0 < room → is_parted_line bytes ≡ true
    → parting_at bytes ≡ how → key ≡ parting_word how → line_at (record { key = key; kind = Stem }) bytes ≡ Err unread → parted_at room before bytes ≡ Err unread
unfolding parted_at
parted_stop room before how key bytes unread some there is word line = grind arith

pub parted_refused : (room : ℕ) (before : List Parted) (how : Parting) (key bytes : List ℕ) (found : List ℕ × List ℕ) → 0 < room → is_parted_line bytes ≡ true
    → parting_at bytes ≡ how → key ≡ parting_word how → line_at (record { key = key; kind = Stem }) bytes ≡ Ok found → follows before found.0 ≡ false
    → parted_at room before bytes ≡ Err (record { 0 = length bytes })
unfolding parted_at
parted_refused room before how key bytes found some there is word line behind = grind arith

pub parted_end : (room : ℕ) (before : List Parted) (bytes : List ℕ) → is_parted_line bytes ≡ false → parted_at room before bytes ≡ Ok (before, bytes)
unfolding parted_at
parted_end zero before bytes none = refl
parted_end (suc room) before bytes none = rw none refl

pub parted_full : (room : ℕ) (before : List Parted) (bytes : List ℕ) → room ≡ 0 → parted_at room before bytes ≡ Ok (before, bytes)
unfolding parted_at
parted_full room before bytes none = grind arith

-- ---- what is written

pub parted-text : (parted : List Parted) (forms : List LineForm) (values : Values forms)
    → lines_text (with_parted parted forms) (parted_values parted forms values) ≡ flat_map parted_line parted ++ lines_text forms values
parted-text [] forms values = refl
parted-text (one ∷ parted) forms values = grind (arith, nat_tests, common_steps, append_assoc, parted-text parted forms values)

pub parted-say : (parted : List Parted) (forms : List LineForm) (values : Values forms) → AllByRecursion IsPartedSaid parted → AllSay forms values
    → AllSay (with_parted parted forms) (parted_values parted forms values)
parted-say [] forms values each say = say
parted-say (one ∷ parted) forms values each say = (each.0, parted-say parted forms values each.1 say)

one_more : (parted : List Parted) (place : ℕ) (one : Parted) → place < length parted → one ≡ get_or parted place one
    → take (place + 1) parted ≡ take place parted ++ one ∷ []
one_more parted place one less is = grind (arith, nat_tests, common_steps)

pub parted_text_more : (front : List ℕ) (parted : List Parted) (place : ℕ) (one : Parted) → place < length parted → one ≡ get_or parted place one
    → (front ++ flat_map parted_line (take place parted)) ++ parted_line one ≡ front ++ flat_map parted_line (take (place + 1) parted)
parted_text_more front parted place one less is =
    rw (one_more parted place one less is, flat_map-append parted_line (take place parted) (one ∷ []), append-nil (parted_line one)) (append_assoc front _ _)

pub parted_said_more : (parted : List Parted) (place : ℕ) (one : Parted) → place < length parted → one ≡ get_or parted place one
    → AllByRecursion IsPartedSaid (take place parted) → IsPartedSaid one → AllByRecursion IsPartedSaid (take (place + 1) parted)
parted_said_more parted place one less is said here = grind (arith, nat_tests, common_steps)
