-- The words of a body whose fragment was read.
use Rattle.std.proofs.Common.{◌≡◌, ℕ, List, ap, ◌∙◌}
use Rattle.padp_link.specs.FragmentText.{FragmentValue, FragmentText}
use Rattle.trace_text.specs.PacketLines.{ShowsBody, fragment_words}

-- the words of the one fragment that has this text show the body
pub shows-fragment : (body words : List ℕ) (read : FragmentValue)
    → FragmentText read body → ((fragment : FragmentValue) → FragmentText fragment body → read ≡ fragment) → words ≡ fragment_words read → ShowsBody body words
shows-fragment body words read text only is = record {
  fragment = λ fragment its. is ∙ ap fragment_words (only fragment its);
  other = λ none. absurd (none read text);
}
