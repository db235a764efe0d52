-- What acts make of a talk, and what went out.
use Rattle.std.proofs.Common.{◌≡◌, ◌≤◌, refl, ℕ, List, [], ◌∷◌, ◌++◌, append_assoc, arith}
use Rattle.std.proofs.lemmas.List.{append-nil, length-append, map-append}
use Rattle.std.specs.Prelude.{Option, Some, None, IsSome}
use Rattle.dlp_commands.specs.Talks.{Talk, HasAnswer, LacksAnswer}
use Rattle.desktop_session.specs.Acts.{Act}
use Rattle.desktop_session.specs.Says.{said, said_one, saying, sent, grown, Begins, answered}
use Rattle.std.proofs.lemmas.Grind.{common_steps}
use Rattle.std.proofs.lemmas.Bool.Decides.{nat_tests}
use Rattle.std.proofs.Common.{rules}

-- ---- one stretch after another

said_append : (xs ys : List Act) (talk : Talk) → said (xs ++ ys) talk ≡ said ys (said xs talk)
said_append [] ys talk = refl
said_append (x ∷ xs) ys talk = said_append xs ys (said_one x talk)

pub saying_then : (xs ys : List Act) (old : Option Talk) → saying ys (saying xs old) ≡ saying (xs ++ ys) old
unfolding saying
saying_then xs ys old = search (rules, said_append)

pub saying_none : (old : Option Talk) → saying [] old ≡ old
unfolding saying
saying_none None = refl
saying_none (Some talk) = refl

pub begins_itself : (xs : Option (List (List ℕ))) → Begins xs xs
unfolding Begins
begins_itself xs = search (rules, append-nil)

pub begins_more : (xs whole : Option (List (List ℕ))) (zs more : List (List ℕ)) → Begins xs (grown whole zs) → Begins xs (grown whole (zs ++ more))
unfolding Begins grown
begins_more xs whole zs more begins = search (rules, append_assoc)

pub grown_grown : (whole : Option (List (List ℕ))) (zs more : List (List ℕ)) → grown (grown whole zs) more ≡ grown whole (zs ++ more)
unfolding grown
grown_grown whole zs more = search (rules, append_assoc)

pub begins_after : (xs whole : Option (List (List ℕ))) (zs more : List (List ℕ)) → Begins xs (grown (grown whole zs) more) → Begins xs (grown whole
    (zs ++ more))
begins_after xs whole zs more begins = rw (← grown_grown whole zs more) begins

begins_is : {xs ys : Option (List (List ℕ))} → xs ≡ ys → Begins xs ys
begins_is {xs} is = rw (← is) (begins_itself xs)

pub grown_none : (whole : Option (List (List ℕ))) → grown whole [] ≡ whole
unfolding grown
grown_none None = refl
grown_none (Some xs) = cc (append-nil xs)

-- nothing went out
pub begins_grown : (xs : Option (List (List ℕ))) (more : List (List ℕ)) → Begins xs (grown xs more)
unfolding Begins grown
begins_grown xs more = search (rules)

pub begins_same : {new old : Option Talk} (more : List (List ℕ)) → new ≡ old → Begins (sent new) (grown (sent old) more)
begins_same more is = search (rules, begins_grown)

-- ---- an exchange that was answered

module _ (old new : Option Talk) (request : List ℕ) where
  pub sent_answered : (reply : List ℕ) → HasAnswer old request reply new → sent new ≡ grown (sent old) (request ∷ [])
  unfolding sent grown
  sent_answered reply is = grind (arith, common_steps, nat_tests, append-nil, map-append)

  pub answered_more : (reply : List ℕ) → HasAnswer old request reply new → answered old ≤ answered new
  unfolding answered
  answered_more reply is = grind (arith, common_steps, nat_tests, length-append)

  -- ---- one that was not

  pub begins_unanswered : LacksAnswer old request new → Begins (sent new) (grown (sent old) (request ∷ []))
  unfolding sent grown Begins
  begins_unanswered is = search (rules, append-nil)

  pub answered_same : LacksAnswer old request new → answered old ≤ answered new
  unfolding answered
  answered_same is = grind (arith, common_steps, nat_tests)

  pub tells_answered : (reply : List ℕ) → HasAnswer old request reply new → IsSome old → IsSome new
  tells_answered reply is told = search (rules)

  pub tells_unanswered : LacksAnswer old request new → IsSome old → IsSome new
  tells_unanswered is told = search (rules)

  -- ---- more is to come

  pub begins_answered : (reply : List ℕ) → HasAnswer old request reply new → Begins (sent new) (grown (sent old) (request ∷ []))
  begins_answered reply is = begins_is (sent_answered reply is)
