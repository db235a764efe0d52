-- The line of a text of memos that is out of its form.
use Rattle.std.specs.Prelude.{ℕ, List, [], ◌∷◌, ◌++◌, codes, drop}
use Rattle.std.specs.Fmt.{decimal}
use Rattle.std.specs.Int.{to_be_bytes, w32}
use Rattle.hex.specs.Hex.{encode_upper}
use Rattle.memo_texts.specs.declared.fault.Flaw.{Flaw}
use Rattle.memo_texts.specs.declared.fault.Flaw.TheVariants.{NotUtf8, NoByte, BadHead, LongLabel, NoHead, LongMemo}
use Rattle.memo_texts.specs.declared.fault.LineFlaw.{LineFlaw}

-- a character, in six digits of hexadecimal
abbrev pub character_text : ℕ → List ℕ
character_text character = codes "U+" ++ encode_upper (drop 1 (to_be_bytes w32 character))

-- what is wrong
abbrev pub flaw_text : Flaw → List ℕ
flaw_text NotUtf8 = codes "not UTF-8"
flaw_text (NoByte character) = codes "no byte for " ++ character_text character
flaw_text BadHead = codes "bad head line"
flaw_text LongLabel = codes "label too long"
flaw_text NoHead = codes "no head line above it"
flaw_text LongMemo = codes "memo too long"

-- `bad text line N column C: CAUSE`
unfoldable pub flaw_line : ℕ → LineFlaw → List ℕ
flaw_line number flaw =
    codes "bad text line "
    ++ (decimal number ++ (codes " column " ++ (decimal flaw.column ++ codes ": ")))
    ++ flaw_text flaw.flaw ++ 10 ∷ []
