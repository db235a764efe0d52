-- A handheld's block is read, and the merged one is written.
use Rattle.std.proofs.Common.{◌≡◌, ◌∙◌, ap, refl, sym, ℕ, List, [], ◌∷◌, rules}
use Rattle.std.specs.Prelude.{Option, Some, None, IfSome, Result, Ok, Err}
use Rattle.dlp_replies.specs.ReplyValues.{ReplyValue}
use Rattle.dlp_replies.specs.declared.fault.ReplyFault.{ReplyFault}
use Rattle.desktop_session.specs.Answers.{block_of, or_none}
use Rattle.desktop_session.specs.Requests.{reading_app}
use Rattle.session_parts.proofs.LinkWords.{Act, AsksOne, LinkFault, SessionFault, SessionValue, Talk, acted, answer_by, said_in, saying}
use Rattle.mirrors.specs.Asks.{Asks}
use Rattle.mirrors.proofs.AskLaws.{asked_part, asks_then, none_said, one_said, said_all, said_part}
use Rattle.category_mirror.specs.Blocks.{blocks_merge, written_block}
use Rattle.category_mirror.specs.FilingActs.{app_told, block_in, block_or_none, filed_under, writes_where}
use Rattle.mirrors.proofs.ReadLaws.{grown_untold}

-- a block that was read
pub block_said : (fault : Option LinkFault) (read : Result ReplyValue ReplyFault) (block : Option (List ℕ))
    → answer_by fault (or_none (said_in 0x1B block_of read)) ≡ Ok block → (fault ≡ None) × (block_or_none (or_none (said_in 0x1B block_of read)) ≡ block)
block_said None read block is = (refl, by (or_none (said_in 0x1B block_of read)) is)
  where
    by : (said : Result (Option (List ℕ)) SessionFault) → said ≡ Ok block → block_or_none said ≡ block
    by (Ok other) is = let same : other ≡ block = cc in same
    by (Err cause) is = absurd cc
block_said (Some fault) read block is = absurd cc

-- it is what the device tells
pub app_is : (o : Option Talk) (handle : ℕ) (reply : List ℕ) (block : Option (List ℕ)) → IfSome o (λ talk. reply ≡ (acted (reading_app handle) talk.device).0)
    → block_in reply ≡ block → IfSome o (λ talk. app_told talk.device handle ≡ block)
app_is None handle reply block told is = tt
app_is (Some talk) handle reply block told is = sym (ap block_in told) ∙ is

saying_untold : (xs ys : List Act) → saying xs None ≡ saying ys None
unfolding saying
saying_untold xs ys = refl

-- the acts of one database whose block is known
abbrev pub acts_by : Option (List ℕ) → Option (List ℕ) → ℕ → List Act
acts_by rows_app block handle = reading_app handle ∷ writes_where handle (written_block block (blocks_merge block rows_app))

module _ {L A : Type 0} {talk : L → Option Talk} {since : L → L → Type 0} {fault : L → Option LinkFault} {downs : L → ℕ} {old : SessionValue L} where
  untold : {xs ys : List Act} {new : SessionValue L} {answer : Result A SessionFault} → talk old.link ≡ None
      → Asks talk since fault downs xs old new answer → Asks talk since fault downs ys old new answer
  untold none asks = search (rules, grown_untold, saying_untold)

  pub filed_asks : (rows_app block : Option (List ℕ)) (handle : ℕ) {new : SessionValue L} {answer : Result A SessionFault} (o : Option Talk) → talk old.link ≡ o
      → IfSome o (λ talk. app_told talk.device handle ≡ block) → Asks talk since fault downs (acts_by rows_app block handle) old new answer
      → Asks talk since fault downs (filed_under rows_app o handle) old new answer
  unfolding filed_under
  filed_asks rows_app block handle None is told asks = untold is asks
  filed_asks rows_app block handle (Some here) is told asks = rw told asks

  -- an act, answered, and then others
  pub asks_behind : (since_more : (a b c : L) → since a b → since b c → since a c) (one : Act) (rest : List Act) {now new : SessionValue L}
      {answer : Result A SessionFault} → fault now.link ≡ None → AsksOne talk since fault downs one old now → Asks talk since fault downs rest now new answer
      → Asks talk since fault downs (one ∷ rest) old new answer
  asks_behind since_more one rest {now} {new} {answer} none asked asks =
      asks_then talk since fault downs since_more (one ∷ []) rest old now new answer (one_said talk since fault downs one old now none asked) asks

  -- an act was answered, and then no more was asked for
  pub asked_only : (one : Act) (rest : List Act) {now : SessionValue L} (cause : SessionFault) → fault now.link ≡ None
      → AsksOne talk since fault downs one old now → Asks {A = A} talk since fault downs (one ∷ rest) old now (Err cause)
  asked_only one rest {now} cause none asked = said_part rest cause (one_said talk since fault downs one old now none asked)

  -- it was refused
  pub unread_asks : (rows_app : Option (List ℕ)) (handle : ℕ) {new : SessionValue L} (cause : SessionFault)
      → AsksOne talk since fault downs (reading_app handle) old new → Asks {A = A} talk since fault downs (filed_under rows_app (talk old.link) handle) old new (Err cause)
  unfolding filed_under
  unread_asks rows_app handle {new} cause asked = asked_part talk since fault downs (reading_app handle) _ old new cause asked

-- nothing is asked for
pub asks_none : {L A : Type 0} {talk : L → Option Talk} {since : L → L → Type 0} {fault : L → Option LinkFault} {downs : L → ℕ}
    (itself : (a : L) → since a a) (old : SessionValue L) (answer : A) → Asks talk since fault downs [] old old (Ok answer)
asks_none {talk = talk} {since = since} {fault = fault} {downs = downs} itself old answer = said_all answer (none_said talk since fault downs itself old)

-- what was to be asked for was not
pub asks_lost : {L A : Type 0} {talk : L → Option Talk} {since : L → L → Type 0} {fault : L → Option LinkFault} {downs : L → ℕ} {acts : List Act}
    (itself : (a : L) → since a a) (old : SessionValue L) (cause : SessionFault) → Asks {A = A} talk since fault downs acts old old (Err cause)
asks_lost {talk = talk} {since = since} {fault = fault} {downs = downs} {acts = acts} itself old cause =
    said_part acts cause (none_said talk since fault downs itself old)
