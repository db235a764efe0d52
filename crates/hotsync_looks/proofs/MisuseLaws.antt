-- What a status says of words that ask for nothing.
use Rattle.std.proofs.Common.{◌≡◌, ◌⊎◌, inl, inr, refl, subst, sym}
use Rattle.std.specs.Prelude.{None, Option, Some}
use Rattle.run_words.specs.Faults.{Fault}
use Rattle.run_words.specs.declared.topic.CommandWord.{CommandWord}
use Rattle.hotsync_looks.specs.Misuses.{IsMisuse, NamesFault, TellsFault}
use Rattle.cmd_status.specs.Printed.{IsRefusal}
use Rattle.cmd_status.specs.declared.status.Status.{Status}
use Rattle.cmd_status.specs.declared.status.Status.TheVariants.{Usage, BadWord, NoMemory}

misuse_refuses : (status : Status) → IsMisuse status → IsRefusal status
misuse_refuses Usage is = tt
misuse_refuses (BadWord command kind word) is = tt
misuse_refuses status is = absurd is

named_misuse : (asked : Option CommandWord) (fault : Fault) (status : Status) → NamesFault asked fault status → IsMisuse status
named_misuse asked fault (BadWord command kind word) is = tt
named_misuse asked fault status is = absurd is

-- such a status is one of words that ask for nothing
pub tells_misuse : (asked : Option CommandWord) (fault : Option Fault) (status : Status) → TellsFault asked fault status
    → IsMisuse status ⊎ (status ≡ NoMemory)
tells_misuse asked None status (inl is) = inl (subst IsMisuse (sym is) tt)
tells_misuse asked None status (inr is) = inr is
tells_misuse asked (Some fault) status (inl is) = inl (named_misuse asked fault status is)
tells_misuse asked (Some fault) status (inr is) = inr is

refuses_either : (status : Status) → IsMisuse status ⊎ (status ≡ NoMemory) → IsRefusal status ⊎ (status ≡ NoMemory)
refuses_either status (inl is) = inl (misuse_refuses status is)
refuses_either status (inr is) = inr is

-- and so one that has a line
pub tells_refusal : (asked : Option CommandWord) (fault : Option Fault) (status : Status) → TellsFault asked fault status
    → IsRefusal status ⊎ (status ≡ NoMemory)
tells_refusal asked fault status tells = refuses_either status (tells_misuse asked fault status tells)

no_memory_tells : (asked : Option CommandWord) (fault : Option Fault) (status : Status) → status ≡ NoMemory → TellsFault asked fault status
no_memory_tells asked None status is = inr is
no_memory_tells asked (Some fault) status is = inr is

-- once its line was to be printed
pub tells_printed : (asked : Option CommandWord) (fault : Option Fault) {refusal status : Status} → TellsFault asked fault refusal
    → (status ≡ refusal) ⊎ (status ≡ NoMemory) → TellsFault asked fault status
tells_printed asked fault tells (inl is) = subst (TellsFault asked fault) (sym is) tells
tells_printed asked fault {status = status} tells (inr is) = no_memory_tells asked fault status is
