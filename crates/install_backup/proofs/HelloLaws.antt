-- Why a handheld was not greeted, or not met, by one that looks at no user.
use Rattle.std.proofs.lemmas.Grind.{common_steps}
use Rattle.std.proofs.lemmas.Bool.Decides.{nat_tests}
use Rattle.std.proofs.Common.{arith, ◌≡◌, ◌∙◌, ap, refl, sym, inl, inr, ◌⊎◌, ◌==◌, Bool, true, false, [], ◌∷◌}
use Rattle.std.specs.Prelude.{Option, Some, None, IfErr, Result, Ok, Err}
use Rattle.desktop_session.specs.Seats.{is_empty, no_wish, seat_for, unclaimed}
use Rattle.pdb_values.specs.declared.slot.Slot.TheVariants as slot
use Rattle.pdb_values.specs.declared.user.UserInfo.{UserInfo}
use Rattle.dlp_replies.specs.declared.fault.ReplyFault.{ReplyFault}
use Rattle.dlp_replies.specs.ReplyReading.{reply_at}
use Rattle.dlp_replies.specs.ReplyValues.{ReplyValue}
use Rattle.desktop_session.specs.Answers.{answer_by, no_more, said_in, user_of}
use Rattle.desktop_session.specs.Faults.{fault_of}
use Rattle.desktop_session.specs.Greetings.{AnswersGreeting, begun_by, user_by, user_with}
use Rattle.session_parts.specs.Causes.{IsLater}
use Rattle.session_parts.specs.Meets.{IsUnlisted}
use Rattle.desktop_session.specs.Lasts.{IsByLastReply}
use Rattle.session_parts.proofs.CauseLaws.{later_by, later_said}
use Rattle.session_parts.proofs.LinkWords.{Halted, LinkFault, SessionFault, Talk}
use Rattle.desktop_session.specs.Ends.{link_begun, user_begun}
use Rattle.session_parts.proofs.LinkWords.{SessionValue}
use Rattle.install_backup.specs.Rooms.{IsNoLimit}
use Rattle.install_backup.proofs.LimitLaws.{other_said}

-- ---- the user of a handheld, whoever that is, has the slot

zero_slot : (user : UserInfo) → seat_for (unclaimed ∷ []) no_wish user ≡ slot.Old 0
zero_slot user = by (user.user == 0) refl (is_empty user.name) refl
  where
    by : (n : Bool) → (user.user == 0) ≡ n → (e : Bool) → is_empty user.name ≡ e → seat_for (unclaimed ∷ []) no_wish user ≡ slot.Old 0
    by true none e is = grind (arith, common_steps, nat_tests)
    by false some true is = grind (arith, common_steps, nat_tests)
    by false some false is = grind (arith, common_steps, nat_tests)

-- ---- one of both replies says why

retype : {A B : Type 0} (fault : Option LinkFault) (f cause : SessionFault) → ◌≡◌ {A = Result A SessionFault} (Err cause) (answer_by fault (Err f))
    → ◌≡◌ {A = Result B SessionFault} (Err cause) (answer_by fault (Err f))
retype None f cause is = let same : cause ≡ f = cc in ap (λ c. Err c) same
retype (Some x) f cause is = let same : cause ≡ fault_of x = cc in ap (λ c. Err c) same

second_says : (fault : Option LinkFault) (read : Result ReplyValue ReplyFault) (user : UserInfo) (cause : SessionFault) (second : Result (Unit {0}) SessionFault)
    → said_in 0x2E no_more read ≡ second → Err cause ≡ answer_by fault (begun_by (Ok user) second) → Err cause ≡ answer_by fault (said_in 0x2E no_more read)
second_says fault read user cause (Err f) said is = retype fault f cause is ∙ ap (answer_by fault) (sym said)
second_says None read user cause (Ok done) said is = absurd cc
second_says (Some x) read user cause (Ok done) said is = let same : cause ≡ fault_of x = cc in ap (λ c. Err c) same

one_says : (fault : Option LinkFault) (one two : Result ReplyValue ReplyFault) (cause : SessionFault) (first : Result UserInfo SessionFault)
    → said_in 0x10 user_of one ≡ first → Err cause ≡ answer_by fault (begun_by (user_by (unclaimed ∷ []) no_wish first) (said_in 0x2E no_more two))
    → (Err cause ≡ answer_by fault (said_in 0x10 user_of one)) ⊎ (Err cause ≡ answer_by fault (said_in 0x2E no_more two))
one_says fault one two cause (Err f) said is = inl (is ∙ ap (answer_by fault) (sym said))
one_says fault one two cause (Ok user) said is =
    inr (second_says fault two user cause (said_in 0x2E no_more two) refl
    (is ∙ ap (λ s. answer_by fault (begun_by (user_with (unclaimed ∷ []) user s) (said_in 0x2E no_more two))) (zero_slot user)))

module _ (told : Option Talk) (fault : Option LinkFault) (cause : SessionFault) (said : AnswersGreeting (unclaimed ∷ []) no_wish told fault (Err cause)) where
  abbrev one : Result ReplyValue ReplyFault
  one = reply_at 0x10 said.first

  abbrev two : Result ReplyValue ReplyFault
  two = reply_at 0x2E said.second

  ungreeted_later : (talk : Option Talk) → IsByLastReply talk cause → IsLater talk fault cause
  ungreeted_later talk last = elim (one_says fault one two cause (said_in 0x10 user_of one) refl said.is) [
    | inl first ↦ later_said 0x10 talk fault user_of one cause first last
    | inr second ↦ later_said 0x2E talk fault no_more two cause second last
  ]

  ungreeted_other : IsNoLimit cause
  ungreeted_other = elim (one_says fault one two cause (said_in 0x10 user_of one) refl said.is) [
    | inl first ↦ other_said 0x10 fault user_of one (Err cause) refl first
    | inr second ↦ other_said 0x2E fault no_more two (Err cause) refl second
  ]

-- ---- it was not greeted, or not met

module _ {L : Type 0} (talk : L → Option Talk) (fault : L → Option LinkFault) (told : Option Talk) where
  pub hello_later : (answer : Result (SessionValue L) (Halted L))
      → AnswersGreeting (unclaimed ∷ []) no_wish told (fault (link_begun answer)) (user_begun answer)
      → IfErr answer (λ halted. IsByLastReply (talk halted.link) halted.cause)
      → IfErr answer (λ halted. IsLater (talk halted.link) (fault halted.link) halted.cause)
  hello_later (Ok linked) said last = tt
  hello_later (Err halted) said last = ungreeted_later told (fault halted.link) halted.cause said (talk halted.link) last

  pub hello_other : (answer : Result (SessionValue L) (Halted L))
      → AnswersGreeting (unclaimed ∷ []) no_wish told (fault (link_begun answer)) (user_begun answer)
      → IfErr answer (λ halted. IsNoLimit halted.cause)
  hello_other (Ok linked) said = tt
  hello_other (Err halted) said = ungreeted_other told (fault halted.link) halted.cause said

pub unmet_later : (told talk : Option Talk) (fault : Option LinkFault) (cause : SessionFault)
    → AnswersGreeting (unclaimed ∷ []) no_wish told fault (Err cause) ⊎ IsUnlisted (unclaimed ∷ []) no_wish told fault cause → IsByLastReply talk cause
    → IsLater talk fault cause
unmet_later told talk fault cause (inl said) last = ungreeted_later told fault cause said talk last
unmet_later told talk fault cause (inr said) last = later_by talk fault (reply_at 0x16 said.reply) cause said.is last
