-- The reader holds the bytes, and hands out the packet in them.
use Rattle.std.proofs.Common.{◌≡◌, ◌++◌, take, length, sym, ap, ◌∙◌, arith}
use Rattle.std.proofs.lemmas.List.{take_all}
use Rattle.slp_frames.specs.PacketScan.{scan}
use Rattle.trace_check.proofs.BearingLaws.{handed-alone, handed-none}
use Rattle.trace_check.proofs.bearing.is_packet.Goals as goal

pub returns-in-Some : goal.returns-in-Some
returns-in-Some c =
    let bytes = c.args.bytes.now in
    let all : take c.feed.result bytes ≡ bytes =
    take_all c.feed.result bytes (omega (arith, c.feed.ensures.count, c.requires, ap length c.new-reader.ensures.held)) in
    let held : c.feed.new.self.held ≡ bytes = c.feed.ensures.held ∙ ap (λ s. s ++ take c.feed.result bytes) c.new-reader.ensures.held ∙ all in
    handed-alone bytes c.next.result c.in-Some.packet _ (ap scan (sym held) ∙ c.next.follows.holds-at-none.found) c.in-Some.is

pub returns-in-None : goal.returns-in-None
returns-in-None c =
    let bytes = c.args.bytes.now in
    let all : take c.feed.result bytes ≡ bytes =
    take_all c.feed.result bytes (omega (arith, c.feed.ensures.count, c.requires, ap length c.new-reader.ensures.held)) in
    let held : c.feed.new.self.held ≡ bytes = c.feed.ensures.held ∙ ap (λ s. s ++ take c.feed.result bytes) c.new-reader.ensures.held ∙ all in
    handed-none bytes c.next.result _ (ap scan (sym held) ∙ c.next.follows.holds-at-none.found) (rw c.in-None.is at c.next.follows.holds-at-none.all) c.in-None.is
