use Rattle.std.proofs.Common.{map, string_bytes}
use Rattle.cmd_status.specs.Told.{sink_told, source_told}
use Rattle.run_words.specs.Likes.{liking_of}
use Rattle.hotsync_looks.proofs.LikingLaws.{unread_liking}
use Rattle.hotsync_looks.proofs.liked.import_like.Goals as goal

pub returns-in-Err-NoMemory-clause-call : goal.returns-in-Err-NoMemory-clause-call
returns-in-Err-NoMemory-clause-call g c =
    unread_liking (liking_of (map string_bytes c.args.words.now)) (source_told g.S.Source c.args.source.now) (source_told g.L.Source c.args.like.now)
    (sink_told g.O.Sink c.args.out.now) c.print_refusal.ensures.status c.print_refusal.ensures.printed
