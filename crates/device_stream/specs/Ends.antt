-- How a run over a stream ends, by what ended it.
use Rattle.std.specs.Prelude.{⊤}
use Rattle.handheld_server.specs.declared.fault.ServeFault.{ServeFault}
use Rattle.handheld_server.specs.declared.fault.ServeFault.TheVariants as serve
use Rattle.device_stream.specs.declared.device_end.DeviceEnd.{DeviceEnd}
use Rattle.device_stream.specs.declared.device_end.DeviceEnd.TheVariants.{Ended, SinkWrite, Keeper, StreamAborted, BadHello, NoMemory}
use Rattle.device_stream.specs.declared.talk_end.TalkEnd.{TalkEnd}
use Rattle.device_stream.specs.declared.talk_end.TalkEnd.TheVariants as talk

-- a request that wasn't served
abbrev pub end_of_fault : ServeFault → DeviceEnd
end_of_fault serve.Keeper = Keeper
end_of_fault serve.NoMemory = NoMemory

-- a talk that is over
abbrev pub end_of_talk : TalkEnd → DeviceEnd
end_of_talk talk.Ended = Ended
end_of_talk talk.Aborted = StreamAborted
end_of_talk talk.BadHello = BadHello

-- a sink that refused
abbrev pub IsSinkEnd : DeviceEnd → Type 0
IsSinkEnd SinkWrite = ⊤
IsSinkEnd NoMemory = ⊤
IsSinkEnd end = ⊥
