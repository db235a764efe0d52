use Rattle.std.proofs.Common.{length, ap, ◌∙◌, arith}
use Rattle.slp_frames.proofs.PlaceLaws.{length-packet_text}
use Rattle.padp_end.proofs.saying.say.Goals as goal

pub append-requires : goal.append-requires
append-requires c =
    omega (
      arith,
      ap length (c.as_slice.ensures.value ∙ c.write_packet.ensures.text),
      length-packet_text (record { dest = 3; source = 3; kind = 2; id = c.args.id; body = c.write_fragment.new.out.items }),
      ap length c.write_fragment.ensures.bytes,
      c.requires.room,
    )
