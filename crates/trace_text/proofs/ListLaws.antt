-- Lines of packets, one more at a time.
use Rattle.std.proofs.Common.{◌≡◌, ℕ, suc, refl, List, [], ◌∷◌, ◌++◌, length, sym, ap, ◌∙◌}
use Rattle.std.specs.List.{AllZip}
use Rattle.slp_frames.specs.PacketText.{PacketValue}
use Rattle.slp_frames.specs.Histories.{Continues}
use Rattle.slp_frames.proofs.ScanLaws.{continues_append}
use Rattle.trace_text.specs.PacketLines.{ShowsPacket}
use Rattle.trace_text.specs.PacketLists.{IsShown, ShowsPackets, count_line, lines_text}

each-append : {A B : Type 0} (R : A → B → Type 0) (xs : List A) (ys : List B) (x : A) (y : B) → AllZip R xs ys → R x y → AllZip R (xs ++ x ∷ []) (ys ++ y ∷ [])
each-append R [] [] x y each one = (one, tt)
each-append R [] (w ∷ ys) x y each one = absurd each
each-append R (v ∷ xs) [] x y each one = absurd each
each-append R (v ∷ xs) (w ∷ ys) x y each one = (each.0, each-append R xs ys x y each.1 one)

each-length : {A B : Type 0} (R : A → B → Type 0) (xs : List A) (ys : List B) → AllZip R xs ys → length xs ≡ length ys
each-length R [] [] each = refl
each-length R [] (w ∷ ys) each = absurd each
each-length R (v ∷ xs) [] each = absurd each
each-length R (v ∷ xs) (w ∷ ys) each = ap suc (each-length R xs ys each.1)

-- further bytes are taken
pub shown-feed : (taken more held : List ℕ) (lines : List (List ℕ)) → IsShown taken lines held → IsShown (taken ++ more) lines (held ++ more)
shown-feed taken more held lines shown =
    record { handed = shown.handed; each = shown.each; continues = continues_append taken more held shown.handed shown.continues }

-- one more packet, and its line
pub shown-packet : (taken held held' : List ℕ) (lines : List (List ℕ)) (packet : PacketValue) (line : List ℕ)
    → IsShown taken lines held → ((handed : List PacketValue) → Continues taken handed held → Continues taken (handed ++ packet ∷ []) held')
    → ShowsPacket packet line → IsShown taken (lines ++ line ∷ []) held'
shown-packet taken held held' lines packet line shown step shows = record {
  handed = shown.handed ++ packet ∷ [];
  each = each-append ShowsPacket shown.handed lines packet line shown.each shows;
  continues = step shown.handed shown.continues;
}

-- the lines and their number
pub shows_packets : (packets : List PacketValue) (lines : List (List ℕ)) (count : ℕ) (text : List ℕ)
    → AllZip ShowsPacket packets lines → length lines ≡ count → text ≡ lines_text lines ++ count_line count → ShowsPackets packets text
shows_packets packets lines count text each counted is = record {
  lines = lines;
  each = each;
  is = is ∙ ap (λ number. lines_text lines ++ count_line number) (sym (each-length ShowsPacket packets lines each ∙ counted));
}
