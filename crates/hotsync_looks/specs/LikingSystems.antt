-- An import in the categories of another file, over the files, the standard output and the standard
-- error of the system.
use Rattle.std.specs.Prelude.{◌≡◌, ℕ, Option, None}
use Rattle.run_words.specs.Likes.{Like}
use Rattle.cmd_status.specs.Codes.{code_of}
use Rattle.cmd_status.specs.Told.{SinkTold, SourceTold}
use Rattle.cmd_status.specs.declared.status.Status.{Status}
use Rattle.hotsync_looks.specs.Likings.{IsLikingCall}

-- objects that tell nothing of what they give or take, as those of the system
pub record AreFilesUntold (source like : SourceTold) (out : SinkTold) : Type 0 where
  pub given : source.left ≡ None
  pub like_given : like.left ≡ None
  pub taken : out.taken ≡ None

-- a call for these words, over such objects, ended with this exit status
pub record IsSystemLiking (words : Option Like) (code : ℕ) : Type 0 where
  pub source : SourceTold
  pub source_after : SourceTold
  pub like : SourceTold
  pub like_after : SourceTold
  pub out : SinkTold
  pub out_after : SinkTold
  pub err : SinkTold
  pub err_after : SinkTold
  pub untold : AreFilesUntold source like out
  pub status : Status
  pub called : IsLikingCall words source source_after like like_after out out_after err err_after status
  pub code_is : code ≡ code_of status
