-- What is told of a device goes on: by one exchange, and by tries behind others.
use Rattle.std.proofs.Common.{◌≡◌, List, [], ◌∷◌, ◌++◌, ℕ, refl, sym, subst}
use Rattle.std.specs.Prelude.{Option, Some, None, Result, Ok, Err}
use Rattle.dlp_commands.specs.declared.link.LinkFault.{LinkFault}
use Rattle.dlp_commands.specs.Talks.{HasAnswer, LacksAnswer, Talk}
use Rattle.dlp_commands.specs.Tries.{Answered, GoesOn, Try, Unanswered, tries_of}

pub goes_none : (told : Option Talk) → GoesOn told [] told
goes_none told = refl

pub goes_more : (a : Option Talk) (first : List Try) (b : Option Talk) (next : List Try) (c : Option Talk) → GoesOn a first b → GoesOn b next c
    → GoesOn a (first ++ next) c
goes_more a [] b next c one more = subst (λ (told : Option Talk). GoesOn told next c) one more
goes_more a (Answered request reply ∷ first) b next c one more = (one.0, one.1, goes_more one.0 first b next c one.2 more)
goes_more a (Unanswered request ∷ first) b next c one more = (one.0, one.1, goes_more one.0 first b next c one.2 more)

-- one exchange, by what it answers
pub goes_answered : (fault : Option LinkFault) (request reply : List ℕ) (old new : Option Talk) → fault ≡ None → HasAnswer old request reply new
    → GoesOn old (tries_of fault request reply (Ok tt)) new
goes_answered None request reply old new none answered = (new, answered, refl)
goes_answered (Some fault) request reply old new none answered = absurd cc

pub goes_unanswered : (fault : Option LinkFault) (now : LinkFault) (request reply : List ℕ) (old new : Option Talk) → fault ≡ None
    → LacksAnswer old request new → GoesOn old (tries_of fault request reply (Err now)) new
goes_unanswered None now request reply old new none lacks = (new, lacks, refl)
goes_unanswered (Some fault) now request reply old new none lacks = absurd cc

pub goes_still : (fault : Option LinkFault) (first : LinkFault) (request reply : List ℕ) (answer : Result (Unit {0}) LinkFault) (old new : Option Talk)
    → fault ≡ Some first → new ≡ old → GoesOn old (tries_of fault request reply answer) new
goes_still None first request reply answer old new some same = absurd cc
goes_still (Some fault) first request reply answer old new some same = same
