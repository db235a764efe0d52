-- What was heard of bytes, as far as a talk goes on, and to where it is over.
use Rattle.std.proofs.Common.{◌≡◌, ◌∙◌, ap, arith, refl, subst, sym, ℕ, true, false, List, [], ◌∷◌, ◌++◌, append_assoc, length, nat_eq}
use Rattle.std.specs.Prelude.{Option, Some, None, is_some, unwrap_or}
use Rattle.std.proofs.lemmas.Bool.{eqb-true}
use Rattle.std.proofs.lemmas.List.{append-nil}
use Rattle.padp_end.specs.Outgoings.{said_text}
use Rattle.slp_frames.specs.PacketScan.{scan}
use Rattle.slp_frames.specs.PacketText.{PacketValue}
use Rattle.slp_frames.specs.Streams.{IsDrained}
use Rattle.device_stream.specs.Courses.{BeginsWith, HasTalked, Hears}
use Rattle.device_stream.specs.Hands.{Hand}
use Rattle.device_stream.specs.declared.talk_end.TalkEnd.{TalkEnd}
use Rattle.device_state.specs.Hearing.{HearsBytes, ReadsUpTo}
use Rattle.palm_device.proofs.TellingLaws.{none_where}

-- ---- tests

pub no_tests : false ≡ true → ⊥
no_tests same = grind (arith, same)

pub some_by : {A : Type 0} (o : Option A) → is_some o ≡ true → o ≡ None → ⊥
some_by o test none = no_tests (sym (ap is_some none) ∙ test)

pub empty_by : (xs : List ℕ) → true ≡ nat_eq (length xs) 0 → xs ≡ []
empty_by [] test = refl
empty_by (x ∷ xs) test = let none = eqb-true (length (x ∷ xs)) 0 (sym test) in absurd (omega (arith, none))

-- ---- what was heard

module _ {old new : Hand} {said : List ℕ} where
  said_behind_none : {packets : List PacketValue} → (talked : HasTalked old new (Some []) (Some said) packets) → said ≡ said_text talked.said
  said_behind_none talked = ap (λ (o : Option (List ℕ)). unwrap_or o []) talked.wrote

  pub HearsBytes-going : {bytes held : List ℕ} → Hears bytes held old new (Some []) (Some said) → new.over ≡ None → IsDrained held
      → HearsBytes old bytes said new held
  HearsBytes-going {bytes} {held} heard going drained = record {
    packets = heard.packets;
    outgoing = heard.talked.said;
    talks = heard.talked.talks;
    said_is = said_behind_none heard.talked;
    reads = subst (λ (over : Option TalkEnd). ReadsUpTo bytes heard.packets over held) (sym going) (heard.continues, drained);
  }

  pub HearsBytes-over : {bytes part held : List ℕ} (rest : List ℕ) (over : TalkEnd) → bytes ≡ part ++ rest → Hears part held old new (Some []) (Some said)
      → new.over ≡ Some over → HearsBytes old bytes said new []
  HearsBytes-over {bytes} {part} {held} rest over is heard ends = record {
    packets = heard.packets;
    outgoing = heard.talked.said;
    talks = heard.talked.talks;
    said_is = said_behind_none heard.talked;
    reads = subst (λ (o : Option TalkEnd). ReadsUpTo bytes heard.packets o []) (sym ends) (front, refl);
  } where
    front : (more : List ℕ) → BeginsWith (scan (bytes ++ more)) heard.packets
    front more = (
      scan (held ++ (rest ++ more)),
      ap (λ (s : List ℕ). scan (s ++ more)) is ∙ ap scan (append_assoc part rest more) ∙ heard.continues.scans (rest ++ more),
    )

  -- what is left behind all bytes, or where a talk is over
  pub HearsBytes-ended : {bytes part held : List ℕ} (rest left : List ℕ) (over : Option TalkEnd) → new.over ≡ over → bytes ≡ part ++ rest
      → Hears part held old new (Some []) (Some said) → (new.over ≡ None → IsDrained held) → (over ≡ None → (rest ≡ []) × (left ≡ held))
      → (is_some over ≡ true → left ≡ []) → HearsBytes old bytes said new left
  HearsBytes-ended {bytes} {part} {held} rest left None going is heard drained all none =
      let whole : bytes ≡ part = is ∙ ap (λ (r : List ℕ). part ++ r) (all refl).0 ∙ append-nil part in
      subst (λ (l : List ℕ). HearsBytes old bytes said new l) (sym (all refl).1)
      (subst (λ (b : List ℕ). HearsBytes old b said new held) (sym whole) (HearsBytes-going heard going (drained going)))
  HearsBytes-ended {bytes} rest left (Some over) ends is heard drained all none =
      subst (λ (l : List ℕ). HearsBytes old bytes said new l) (sym (none refl)) (HearsBytes-over rest over is heard ends)
