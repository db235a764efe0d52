-- Which messages both ends took whole, on a line at rest and on one that halted.
use Rattle.line_steps.proofs.TalkNames.{rules, ◌≡◌, ◌⊎◌, ℕ, ◌-◌, ◌≤◌, length, take, ap, subst, arith, inl, inr, End, Handheld, Desktop, at, Talk, messages_of, heard}
use Rattle.line_steps.proofs.TalkNames.{Line, Halt, NoMemory, Stopped, Down, IsUp, piece_total, took_count, other_end, past_now, TookMessages, cursor_of, turn_took}
use Rattle.line_steps.proofs.TalkNames.{talks_turned, took_but, took_tells, took_whole, apart_turned, HaltsWithin, LineEnds, half_of, AreEnds, MayAnswer, MayAsk}
use Rattle.line_steps.proofs.TalkNames.{LineTells, LineTold}
use Rattle.line_steps.proofs.EndLaws.{answers-ends, asks-ends}

-- ---- the half of an end

end-half : {line : Line} → AreEnds line → (X : End) → (half_of X line).end ≡ X
end-half ends Handheld = ends.handheld_is
end-half ends Desktop = ends.desktop_is

took-half : {line : Line} → AreEnds line → (X : End)
    → took_count line.wire (half_of X line) ≡ length (heard X (at (cursor_of line.handheld line.desktop X) (past_now line.wire.frames.items)))
took-half ends X = search rules

module _ {talk : Talk} {line : Line} where
  took-messages : {halt : Halt} → LineEnds halt talk line → (X : End)
      → TookMessages X talk (past_now line.wire.frames.items) (cursor_of line.handheld line.desktop X)
  took-messages over Handheld =
      subst (λ E. TookMessages E talk (past_now line.wire.frames.items) (cursor_of line.handheld line.desktop E)) over.ends.handheld_is over.spoke.x_took
  took-messages over Desktop =
      subst (λ E. TookMessages E talk (past_now line.wire.frames.items) (cursor_of line.handheld line.desktop E)) over.ends.desktop_is over.spoke.y_took

  pub cursor-inside : {halt : Halt} → LineEnds halt talk line → (X : End) → cursor_of line.handheld line.desktop X ≤ length (past_now line.wire.frames.items)
  cursor-inside over Handheld =
      subst (λ E. cursor_of line.handheld line.desktop E ≤ length (past_now line.wire.frames.items)) over.ends.handheld_is over.spoke.x_in
  cursor-inside over Desktop =
      subst (λ E. cursor_of line.handheld line.desktop E ≤ length (past_now line.wire.frames.items)) over.ends.desktop_is over.spoke.y_in

  -- ---- where all were taken

  told-all : {halt : Halt} → LineEnds halt talk line → (X : End) → piece_total X talk ≤ took_count line.wire (half_of X line)
      → LineTold X (messages_of X talk) line
  told-all over X all =
      took_whole (took-messages over X) (omega (arith, all, took-half over.ends X))

  pub told-asks : {requests : ℕ} → MayAsk line requests → LineTells talk line → (X : End) → LineTold X (messages_of X talk) line
  told-asks asks tells X = told-all (asks-ends asks tells) X (all X) where
    took : (took_count line.wire line.desktop ≡ piece_total line.desktop.end talk) × (took_count line.wire line.handheld ≡ piece_total line.handheld.end talk)
    took = turn_took asks.turn (talks_turned line.wire line.handheld line.desktop (apart_turned asks.turn.settled.apart) tells)

    all : (X : End) → piece_total X talk ≤ took_count line.wire (half_of X line)
    all Handheld = omega (arith, took.1, ap (λ E. piece_total E talk) asks.ends.handheld_is)
    all Desktop = omega (arith, took.0, ap (λ E. piece_total E talk) asks.ends.desktop_is)

  pub told-answers : {requests : ℕ} → MayAnswer line requests → LineTells talk line → (X : End) → LineTold X (messages_of X talk) line
  told-answers answers tells X = told-all (answers-ends answers tells) X (all X) where
    took : (took_count line.wire line.handheld ≡ piece_total line.handheld.end talk) × (took_count line.wire line.desktop ≡ piece_total line.desktop.end talk)
    took = turn_took answers.turn tells

    all : (X : End) → piece_total X talk ≤ took_count line.wire (half_of X line)
    all Handheld = omega (arith, took.0, ap (λ E. piece_total E talk) answers.ends.handheld_is)
    all Desktop = omega (arith, took.1, ap (λ E. piece_total E talk) answers.ends.desktop_is)

  -- ---- where X said its last message

  pub told-others : {X : End} {halt : Halt} → LineEnds halt talk line → HaltsWithin X halt talk line
      → LineTold (other_end X) (messages_of (other_end X) talk) line
  told-others {X} over within = told-all over (other_end X) within.others

-- all of X's, or all but the last one; where an end has spent its tries this one
abbrev pub LastTold : End → Halt → Talk → Line → Type 0
LastTold X halt talk line = (IsUp halt × LineTold X (messages_of X talk) line) ⊎ LineTold X (take (length (messages_of X talk) - 1) (messages_of X talk)) line

pub told-last : {X : End} (halt : Halt) {talk : Talk} {line : Line} → LineEnds halt talk line → HaltsWithin X halt talk line → LastTold X halt talk line
told-last {X} NoMemory over within = elim (took_tells (took-messages over X)) [
  | inl whole ↦ inl (tt, whole)
  | inr but ↦ inr but.1
]
told-last {X} (Stopped stop) over within = elim (took_tells (took-messages over X)) [
  | inl whole ↦ inl (tt, whole)
  | inr but ↦ inr but.1
]
told-last {X} (Down end) {talk} over within =
    inr (took_but (took-messages over X)
    (omega (arith, within.short, took-half over.ends X, ap (λ E. piece_total E talk) (end-half over.ends X))))
