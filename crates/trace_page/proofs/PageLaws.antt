-- A page holds its trace, and no other.
use Rattle.std.proofs.Common.{◌≡◌, ℕ, ◌+◌, Bool, true, false, List, [], ◌∷◌, ◌++◌, Ok, length, refl, sym, ap, ◌∙◌, append_assoc}
use Rattle.std.specs.Prelude.{codes, if◌then◌else◌}
use Rattle.std.specs.Fmt.{decimal}
use Rattle.std.proofs.lemmas.List.{append-nil}
use Rattle.hex.specs.Hex.{encode_lower}
use Rattle.padp_link.specs.declared.fragment.PadpKind.{PadpKind}
use Rattle.padp_link.specs.declared.fragment.PadpKind.TheVariants.{Data, Ack, Tickle, Abort}
use Rattle.trace_text.specs.Fates.{fate_words}
use Rattle.trace_text.specs.Frames.{add_frame}
use Rattle.trace_text.specs.Past.{PastFrame}
use Rattle.trace_text.specs.TraceLines.{FrameValue, trace_text}
use Rattle.trace_check.specs.Readings.{AreTraced}
use Rattle.trace_check.proofs.TraceLaws.{one_reading}
use Rattle.trace_page.specs.Bearings.{borne}
use Rattle.trace_page.specs.CodeLines.{code_from}
use Rattle.trace_page.specs.Pages.{count_text, counts_text, counted, heading, is_again, is_disturbed, is_request, page_text, row, rows}
use Rattle.trace_page.specs.Promises.{HasPlainWords}
use Rattle.trace_page.specs.Rows.{again_note, classes, fate_note, is_untouched, length_note, line_of, notes, open_note, row_back, row_front, row_text, small_note, tag_text}
use Rattle.trace_page.specs.Names.{name_of}
use Rattle.trace_page.specs.Sheet.{list_head, page_foot, page_head}
use Rattle.trace_page.specs.declared.bearing.Bearing.{Bearing}
use Rattle.trace_page.specs.declared.row.Tag.TheVariants.{Row, Number, Name, Notes, Line, End}
use Rattle.trace_page.proofs.CodeLaws.{Passes, foot-shows, head-passes, list-passes, passes-append, passes-plain, shows-plain}
use Rattle.trace_page.proofs.PlainLaws.{decimal-plain, words-plain}

passes-if : (b : Bool) (xs ys : List ℕ) → Passes xs → Passes ys → Passes (if b then xs else ys)
passes-if true xs ys a c = a
passes-if false xs ys a c = c

-- ---- a row

row-passes : Passes (tag_text Row)
unfolding tag_text
row-passes = record { is = λ behind. refl }

number-passes : Passes (tag_text Number)
unfolding tag_text
number-passes = record { is = λ behind. refl }

name-passes : Passes (tag_text Name)
unfolding tag_text
name-passes = record { is = λ behind. refl }

notes-passes : Passes (tag_text Notes)
unfolding tag_text
notes-passes = record { is = λ behind. refl }

line-opens : (behind : List ℕ) → code_from 0 (tag_text Line ++ behind) ≡ code_from 6 behind
unfolding tag_text
line-opens behind = refl

end-closes : (behind : List ℕ) → code_from 6 (tag_text End ++ behind) ≡ 10 ∷ code_from 0 behind
unfolding tag_text
end-closes behind = refl

module _ (times front : ℕ) (frame : FrameValue) (bearing : Bearing) (words : HasPlainWords times front frame bearing) where
  front_passes : Passes (row_front times front frame bearing)
  unfolding row_front
  front_passes =
      passes-append _ (name_of frame.from bearing front) (passes-append _ (tag_text Name) (passes-append _ (decimal frame.number)
      (passes-append _ (tag_text Number) (passes-append (tag_text Row) (classes times frame bearing) row-passes (passes-plain (classes times frame bearing) words.looks))
      number-passes) (passes-plain (decimal frame.number) words.number)) name-passes) (passes-plain (name_of frame.from bearing front) words.name)

  fate_passes : Passes (fate_note frame.fate)
  unfolding fate_note
  fate_passes =
      passes-if (is_untouched frame.fate) [] _ (record { is = λ behind. refl }) (passes-append (codes "<em>" ++ fate_words frame.fate) (codes "</em>")
      (passes-append (codes "<em>") (fate_words frame.fate) (record { is = λ behind. refl }) (passes-plain (fate_words frame.fate) words.fate)) (record { is = λ behind. refl }))

  open_passes : Passes (open_note frame)
  open_passes = passes-if _ (codes "<em class=\"o\">not taken before the end</em>") [] (record { is = λ behind. refl }) (record { is = λ behind. refl })

  again_passes : Passes (again_note times)
  unfolding again_note
  again_passes =
      passes-if _ [] _ (record { is = λ behind. refl }) (passes-append (codes "<em class=\"r\">again, " ++ decimal times) (codes ". time</em>")
      (passes-append (codes "<em class=\"r\">again, ") (decimal times) (record { is = λ behind. refl }) (passes-plain (decimal times) words.again)) (record { is = λ behind. refl }))

  length_passes : (kind : PadpKind) → Passes (length_note kind bearing.length)
  length_passes Data =
      passes-append (decimal bearing.length) (codes " bytes &middot; ") (passes-plain (decimal bearing.length) words.length) (record { is = λ behind. refl })
  length_passes Ack = record { is = λ behind. refl }
  length_passes Tickle = record { is = λ behind. refl }
  length_passes Abort = record { is = λ behind. refl }

  small_passes : Passes (small_note bearing)
  unfolding small_note
  small_passes =
      passes-append _ (codes "</small>") (passes-append _ (encode_lower (bearing.key.id ∷ [])) (passes-append _ (codes "id ")
      (passes-append (codes "<small>") (length_note bearing.kind bearing.length) (record { is = λ behind. refl }) (length_passes bearing.kind)) (record { is = λ behind. refl }))
      (passes-plain (encode_lower (bearing.key.id ∷ [])) words.id)) (record { is = λ behind. refl })

  notes_passes : Passes (notes times frame)
  unfolding notes
  notes_passes =
      passes-append (fate_note frame.fate ++ open_note frame) (again_note times)
      (passes-append (fate_note frame.fate) (open_note frame) fate_passes open_passes) again_passes

  regroup : (lead line behind : List ℕ) → (((lead ++ tag_text Line) ++ line) ++ tag_text End) ++ behind ≡ lead ++ (tag_text Line ++ (line ++ (tag_text End ++ behind)))
  regroup lead line behind = simp append_assoc

  back_shows : (behind : List ℕ) → code_from 0 (row_back times frame bearing ++ behind) ≡ line_of frame ++ 10 ∷ code_from 0 behind
  unfolding row_back
  back_shows behind =
      let lead = (tag_text Notes ++ notes times frame) ++ small_note bearing in
      let lead_passes : Passes lead = passes-append (tag_text Notes ++ notes times frame) (small_note bearing)
      (passes-append (tag_text Notes) (notes times frame) notes-passes notes_passes) small_passes in
      ap (λ text. code_from 0 text) (regroup lead (line_of frame) behind)
      ∙ (lead_passes.is (tag_text Line ++ (line_of frame ++ (tag_text End ++ behind)))
      ∙ (line-opens (line_of frame ++ (tag_text End ++ behind))
      ∙ (shows-plain (line_of frame) (tag_text End ++ behind) words.line
      ∙ ap (λ rest. line_of frame ++ rest) (end-closes behind))))

  row_shows : (behind : List ℕ) → code_from 0 (row_text times front frame bearing ++ behind) ≡ line_of frame ++ 10 ∷ code_from 0 behind
  unfolding row_text
  row_shows behind =
      ap (λ text. code_from 0 text) (append_assoc (row_front times front frame bearing) (row_back times frame bearing) behind)
      ∙ (front_passes.is (row_back times frame bearing ++ behind) ∙ back_shows behind)

-- ---- the rows

line-joins : (frame : FrameValue) (later : List FrameValue) (behind : List ℕ)
    → line_of frame ++ 10 ∷ (trace_text later ++ behind) ≡ trace_text (frame ∷ later) ++ behind
unfolding line_of
line-joins frame later behind = simp append_assoc

rows-show : (number : ℕ) (past : List PastFrame) (frames : List FrameValue) → AreTraced number frames → (behind : List ℕ)
    → code_from 0 (rows past frames ++ behind) ≡ trace_text frames ++ code_from 0 behind
rows-show number past [] traced behind = refl
rows-show number past (frame ∷ later) traced behind =
    let words = words-plain number _ _ frame traced.0 in
    ap (λ text. code_from 0 text) (append_assoc (row past frame) (rows (add_frame frame past) later) behind)
    ∙ (row_shows _ _ frame (borne frame.bytes) words (rows (add_frame frame past) later ++ behind)
    ∙ (ap (λ rest. line_of frame ++ 10 ∷ rest) (rows-show (number + 1) (add_frame frame past) later traced.1 behind)
    ∙ line-joins frame later (code_from 0 behind)))

-- ---- the page

count-passes : (count : ℕ) (word : List ℕ) → Passes word → Passes (count_text count word)
unfolding count_text
count-passes count word passes = passes-append (decimal count) word (passes-plain (decimal count) (decimal-plain count)) passes

counts-pass : (frames requests disturbed again : ℕ) → Passes (counts_text frames requests disturbed again)
unfolding counts_text
counts-pass frames requests disturbed again =
    passes-append _ (count_text again (codes " sent again.</p>\n")) (passes-append _ (count_text disturbed (codes " disturbed by the line, "))
    (passes-append _ (count_text requests (codes " requests, ")) (passes-append (codes "<p>") (count_text frames (codes " frames, ")) (record { is = λ behind. refl })
    (count-passes frames (codes " frames, ") (record { is = λ behind. refl }))) (count-passes requests (codes " requests, ") (record { is = λ behind. refl })))
    (count-passes disturbed (codes " disturbed by the line, ") (record { is = λ behind. refl }))) (count-passes again (codes " sent again.</p>\n") (record { is = λ behind. refl }))

page-regroup : (a b c d e : List ℕ) → (((a ++ b) ++ c) ++ d) ++ e ≡ a ++ (b ++ (c ++ (d ++ e)))
page-regroup a b c d e = simp append_assoc

pub page-shows : (frames : List FrameValue) → AreTraced 1 frames → code_from 0 (page_text frames) ≡ trace_text frames
page-shows frames traced =
    let all = rows [] frames ++ page_foot in
    ap (λ text. code_from 0 text) (page-regroup page_head (heading frames) list_head (rows [] frames) page_foot)
    ∙ (head-passes.is (heading frames ++ (list_head ++ all))
    ∙ ((counts-pass (length frames) (counted is_request [] frames) (counted is_disturbed [] frames) (counted is_again [] frames)).is (list_head ++ all)
    ∙ (list-passes.is all
    ∙ (rows-show 1 [] frames traced page_foot ∙ (ap (λ rest. trace_text frames ++ rest) foot-shows ∙ append-nil (trace_text frames))))))

pub one-page : (frames others : List FrameValue) → AreTraced 1 frames → AreTraced 1 others → page_text frames ≡ page_text others → frames ≡ others
one-page frames others traced known is =
    let same : trace_text frames ≡ trace_text others = sym (page-shows frames traced) ∙ (ap (λ text. code_from 0 text) is ∙ page-shows others known) in
    let read = one_reading (trace_text frames) (Ok frames) (Ok others) (traced, refl) (known, same) (λ e. absurd cc) (λ e. absurd cc) in
    cc
