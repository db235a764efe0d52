use Rattle.std.proofs.Common.{◌+◌, ◌-◌, ◌<◌, ◌^◌, drop, length}
use Rattle.dlp_args.specs.Reading.{arguments_at}
use Rattle.dlp_args.proofs.FrontLaws.{SoFar}
use Rattle.dlp_args.proofs.reader.take_args.Given as goal

abbrev pub invariant-loop : goal.invariant-loop
invariant-loop l = record {
  near : l.place + length l.rest < 2 ^ 64;
  so_far : SoFar (arguments_at l.count l.start (drop l.start l.bytes)) (l.count - l.counter) l.place l.rest;
}
