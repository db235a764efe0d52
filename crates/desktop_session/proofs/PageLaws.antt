-- What a page of the databases adds.
use Rattle.std.proofs.Common.{◌≡◌, ◌∙◌, ◌≤◌, refl, sym, ap, ap₂, inl, ℕ, List, ◌++◌, map, take, length, rules}
use Rattle.std.specs.Prelude.{Option, Some, None, Result, Ok, Err}
use Rattle.pdb_values.specs.declared.head.DbHead.{DbHead}
use Rattle.dlp_replies.specs.declared.fault.ReplyFault.{ReplyFault}
use Rattle.dlp_replies.specs.ReplyValues as reply
use Rattle.dlp_replies.specs.ReplyValues.{ReplyValue}
use Rattle.desktop_session.specs.declared.fault.SessionFault.{SessionFault}
use Rattle.desktop_session.specs.Answers.{list_of, mapped, or_none, said_in}
use Rattle.desktop_session.specs.Following.{OrNoMemory}
use Rattle.desktop_session.specs.Greeted.{list_behind, page, with_page}
use Rattle.desktop_session.specs.Lists.{heads_in}
use Rattle.desktop_session.specs.Starts.{next_start}
use Rattle.desktop_session.proofs.GrowLaws.{whole}

-- the entries of a reply
abbrev Found : Type 0
Found = ℕ × ℕ × List (ℕ × DbHead)

heads_found : (read : Result ReplyValue ReplyFault) (found : Found) → or_none (said_in 0x16 list_of read) ≡ Ok (Some found)
    → heads_in read ≡ map (λ entry. entry.1) found.2
heads_found read found is = search (rules)

next_found : (start : ℕ) (read : Result ReplyValue ReplyFault) (found : Found) → or_none (said_in 0x16 list_of read) ≡ Ok (Some found)
    → next_start start read ≡ list_behind start found.0 found.1
next_found start read found is = search (rules)

module _ (start : ℕ) (first : List DbHead) (now : List DbHead) (read : Result ReplyValue ReplyFault) (last flags place : ℕ) (entries : List (ℕ × DbHead))
    (is : or_none (said_in 0x16 list_of read) ≡ Ok (Some (last, flags, entries))) (past : length entries ≤ place)
    (grown : now ≡ first ++ map (λ (entry : ℕ × DbHead). entry.1) (take place entries)) where
  all : now ≡ first ++ map (λ (entry : ℕ × DbHead). entry.1) entries
  all = whole (λ (entry : ℕ × DbHead). entry.1) entries first place past grown

  pub page_heads : now ≡ first ++ heads_in read
  page_heads = all ∙ ap (λ heads. first ++ heads) (sym (heads_found read (last, flags, entries) is))

  pub page_next : (next : Option ℕ) → next ≡ list_behind start last flags → next ≡ next_start start read
  page_next next goes = goes ∙ sym (next_found start read (last, flags, entries) is)

  pub page_whole : (next : Option ℕ) → next ≡ list_behind start last flags → OrNoMemory (page start first read) (Ok (now, next))
  page_whole next goes = inl (ap₂ (λ (heads : List DbHead) (next : Option ℕ). Ok (heads, next)) all goes ∙ sym (ap (mapped (with_page start first)) is))
