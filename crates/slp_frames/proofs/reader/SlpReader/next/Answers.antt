use Rattle.std.proofs.Common.{◌+◌, ℕ, List, drop, refl, sym, ap, ◌∙◌}
use Rattle.std.proofs.lemmas.List.{drop-drop}
use Rattle.slp_frames.specs.PacketText.{text_len}
use Rattle.slp_frames.specs.Readers.{ReaderValue, TallyValue}
use Rattle.slp_frames.specs.Histories.{raised}
use Rattle.slp_frames.proofs.ReaderLaws.{held_is, behind_is, packet_is, hands_out_none, hands_out_packet}
use Rattle.slp_frames.proofs.reader.SlpReader.next.Goals as goal

pub returns-in_default : goal.returns-in_default
returns-in_default c =
    let reader = c.self.inside in
    let found = c.find_packet-found in
    let same = c.as_slice.ensures.value in
    let is = held_is reader.passed same ∙ ap (λ (r : ReaderValue). r.held) c.self.view_is in
    let behind = behind_is reader.passed found.result.place same in
    let tally = ap (λ (r : ReaderValue). r.tally) c.self.view_is in
    let opens = rw c.in_default.is at found.ensures.found in
    ((refl, λ _. tt, hands_out_none c.args.self.now _ _ is found.result.place found.ensures.passed opens behind tally), record { hands_out = tt })

pub returns : goal.returns
returns c =
    let reader = c.self.inside in
    let found = c.find_packet-found in
    let same = c.as_slice.ensures.value in
    let is = held_is reader.passed same ∙ ap (λ (r : ReaderValue). r.held) c.self.view_is in
    let behind = behind_is reader.passed found.result.place same in
    let tally = ap (λ (r : ReaderValue). r.tally) c.self.view_is in
    let stands = rw c.in-Some.is at found.ensures.found in
    let value = packet_is _ found.result.place c.packet_at.ensures in
    let held = sym (drop-drop (text_len c.in-Some.size) (reader.passed + found.result.place) reader.buffer.items)
    ∙ ap (λ (s : List ℕ). drop (text_len c.in-Some.size) s) behind in
    let counted = c.add_packet.ensures ∙ ap (λ (t : TallyValue). record t { packets = raised t.packets 1 }) tally in (
      (
        refl,
        λ _. tt,
        hands_out_packet c.args.self.now _ _ is found.result.place found.ensures.passed c.packet_at.result c.in-Some.size stands value held
            counted,
      ),
      record { hands_out = tt },
    )
