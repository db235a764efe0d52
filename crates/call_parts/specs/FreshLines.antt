-- A line over which nothing was sent.
use Rattle.std.specs.Prelude.{List, [], None, true, false}
use Rattle.pdb_values.specs.Databases.{DatabaseValue}
use Rattle.pdb_values.specs.declared.user.UserInfo.{UserInfo}
use Rattle.handheld_files.specs.Openings.{opened_device}
use Rattle.line_script.specs.Rules.{RuleValue}
use Rattle.line_world.specs.Logs.{no_log}
use Rattle.line_world.specs.Worlds.{WorldValue}

-- one to the handheld of these databases and this user in a folder, with this script
abbrev pub fresh_line : {F : Type 0} → F → List DatabaseValue → UserInfo → List RuleValue
    → WorldValue F
fresh_line folder databases user script = record {
  server = record { folder = folder; device = opened_device databases user; sound = true };
  script = script;
  log = no_log;
  answered = 0;
  frames = [];
  begun = false;
  fault = None;
  cause = None;
}
