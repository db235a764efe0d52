-- Lines one by one.
use Rattle.std.proofs.Common.{arith, ◌≡◌, ◌∙◌, ◌+◌, ◌∷◌, [], ap, refl, sym, ℕ, suc, add-one, List, length, None, Some, Result, Ok, Err, ◌⊎◌, inl, inr}
use Rattle.std.specs.Prelude.{◌≢◌}
use Rattle.memo_texts.specs.Memos.{MemoValue}
use Rattle.memo_texts.specs.Faults.{fault_at}
use Rattle.memo_texts.specs.Lines.{lines_in}
use Rattle.memo_texts.specs.declared.fault.ImportFault.{ImportFault}
use Rattle.memo_texts.specs.declared.fault.ImportFault.TheVariants as import
use Rattle.memo_texts.specs.declared.fault.LineFlaw.{LineFlaw}
use Rattle.memo_texts.specs.declared.fault.LineFault.{LineFault}
use Rattle.memo_texts.specs.declared.fault.LineFault.TheVariants as row
use Rattle.memo_texts.specs.Flaws.{line_flaw}
use Rattle.memo_texts.specs.Readings.{ReadingValue, memos_from, memos_of, memos_behind, with_line}
use Rattle.memo_texts.proofs.LineLaws.{lines_in-nil}

pub memos_from-cons : (number : ℕ) (reading : ReadingValue) (line : List ℕ) (lines : List (List ℕ))
    → memos_from number reading (line ∷ lines) ≡ memos_behind (with_line reading line) (λ now. memos_from (suc number) now lines) (import.BadText number (line_flaw reading.last line))
unfolding memos_from
memos_from-cons number reading line lines = refl

pub memos_from-nil : (number : ℕ) (reading : ReadingValue) → memos_from number reading [] ≡ Ok (memos_of reading)
unfolding memos_from
memos_from-nil number reading = refl

pub memos_from-line : (number : ℕ) (reading now : ReadingValue) (line : List ℕ) (lines : List (List ℕ)) → with_line reading line ≡ Some now
    → memos_from number reading (line ∷ lines) ≡ memos_from (number + 1) now lines
memos_from-line number reading now line lines is =
    memos_from-cons number reading line lines ∙ rw (is, add-one) refl

pub memos_from-bad : (number : ℕ) (reading : ReadingValue) (line : List ℕ) (lines : List (List ℕ)) → with_line reading line ≡ None
    → memos_from number reading (line ∷ lines) ≡ Err (import.BadText number (line_flaw reading.last line))
memos_from-bad number reading line lines is = memos_from-cons number reading line lines ∙ rw is refl

pub memos_from-end : (number : ℕ) (reading : ReadingValue) (text : List ℕ) → length text ≡ 0 → memos_from number reading (lines_in text) ≡ Ok (memos_of reading)
memos_from-end number reading [] e = rw lines_in-nil (memos_from-nil number reading)
memos_from-end number reading (byte ∷ text) e = absurd (omega (arith, e))

-- the fault of a text by that of a line
pub text_fault : (fault : LineFault) (told : ImportFault) (number : ℕ) (flaw : LineFlaw) (memos : Result (List MemoValue) ImportFault) → told ≡ fault_at fault number
    → (fault ≢ row.NoMemory → (fault ≡ row.BadForm flaw) × (memos ≡ Err (import.BadText number flaw))) → (told ≡ import.NoMemory) ⊎ (memos ≡ Err told)
text_fault (row.BadForm found) told number flaw memos is bad =
    let both = bad (λ none. cc) in
    inr (both.1 ∙ ap Err (sym (is ∙ ap (λ fault. fault_at fault number) both.0)))
text_fault row.NoMemory told number flaw memos is bad = inl is
