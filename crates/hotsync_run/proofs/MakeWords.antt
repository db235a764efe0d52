-- The count of the words of `make`.
use Rattle.std.proofs.lemmas.Grind.{common_steps}
use Rattle.std.proofs.Common.{◌≡◌, ◌≤◌, ℕ, Bool, true, false, List, subst, arith}
use Rattle.std.specs.Prelude.{Option, None, Some, codes, if◌then◌else◌, is_some, option_and_then, option_map}
use Rattle.run_words.specs.Commands.{WordTask, Sync, DryRun, LookAt, Scan, Make, Install, Backup, Restore, Emulate, Categories, Help, deed_of, lone_import_in, look_in, meaning, packet_in, show_look, sync_by, task_behind, task_of}
use Rattle.run_words.specs.Helps.{command_named, help_of}
use Rattle.std.specs.Option.{option_or}
use Rattle.run_words.specs.Betweens.{between_in}
use Rattle.run_words.specs.Captures.{capture_in}
use Rattle.run_words.specs.Exports.{export_in}
use Rattle.run_words.specs.Faults.{right_given}
use Rattle.run_words.specs.Forms.{Given}
use Rattle.run_words.specs.Numbers.{as_count, count_of, number_of}
use Rattle.run_words.specs.Runs.{Run, run_in}
use Rattle.run_words.specs.Tables.{form_behind}
use Rattle.run_words.specs.declared.look.Look.{Look}
use Rattle.run_words.specs.declared.look.Look.TheVariants as looks
use Rattle.run_words.specs.declared.topic.CommandWord.{CommandWord}
use Rattle.run_words.specs.declared.topic.CommandWord.TheVariants as commands

-- what words ask for makes of a count at most 5,000 items
abbrev IsFew : Option WordTask → Type 0
IsFew None = Unit {0}
IsFew (Some (Sync run)) = Unit {0}
IsFew (Some (DryRun run)) = Unit {0}
IsFew (Some (LookAt look file)) = Unit {0}
IsFew (Some (Scan bytes)) = Unit {0}
IsFew (Some (Make seed count)) = count ≤ 5000
IsFew (Some (Install between)) = Unit {0}
IsFew (Some (Backup between)) = Unit {0}
IsFew (Some (Restore between)) = Unit {0}
IsFew (Some (Emulate capture)) = Unit {0}
IsFew (Some (Categories between)) = Unit {0}
IsFew (Some (Help topic)) = Unit {0}

few_or : (one other : Option WordTask) → IsFew one → IsFew other → IsFew (option_or one other)
few_or None other a b = b
few_or (Some task) other a b = a

few_map : {A : Type 0} (make : A → WordTask) (o : Option A) → ((a : A) → IsFew (Some (make a))) → IsFew (option_map make o)
few_map make o few = grind (arith, common_steps)

few_then : {A : Type 0} (f : A → Option WordTask) (o : Option A) → ((a : A) → IsFew (f a)) → IsFew (option_and_then f o)
few_then f None few = tt
few_then f (Some a) few = few a

few_counted : (seed : ℕ) (number : Option ℕ) → IsFew (option_map (Make seed) (option_and_then as_count number))
few_counted seed number = grind (arith, common_steps)

few_made : (seed : ℕ) (count : Option (List ℕ)) → IsFew (option_map (Make seed) (option_and_then count_of count))
few_made seed None = tt
few_made seed (Some count) = few_counted seed (number_of count)

few_run : (dry : Bool) (run : Run) → IsFew (Some (if dry then DryRun run else Sync run))
few_run true run = tt
few_run false run = tt

few_looked : (look : Look) (given : Given) → IsFew (look_in look given)
few_looked look given = few_map (LookAt look) (given.plain 0) (λ file. tt)

few_meant : (now : Option ℕ) (command : CommandWord) (given : Given) → IsFew (meaning now command given)
few_meant now commands.Run given = few_map (sync_by given) (run_in now given) (few_run (is_some (given.said (codes "dry-run"))))
few_meant now commands.Check given = few_looked looks.Check given
few_meant now commands.Show given = few_looked (show_look given) given
few_meant now commands.Export given = few_then _ (export_in now given) (λ export. few_looked (looks.Export export) given)
few_meant now commands.Import given = few_then _ (lone_import_in given) (λ form. few_looked (looks.Import form) given)
few_meant now commands.Verify given = few_looked looks.Verify given
few_meant now commands.Picture given = few_looked looks.Picture given
few_meant now commands.Packet given = few_map Scan (packet_in given) (λ bytes. tt)
few_meant now commands.Install given = few_map Install (between_in given) (λ between. tt)
few_meant now commands.Backup given = few_map Backup (between_in given) (λ between. tt)
few_meant now commands.Restore given = few_map Restore (between_in given) (λ between. tt)
few_meant now commands.Device given = few_map Emulate (capture_in given) (λ capture. tt)
few_meant now commands.Categories given = few_map Categories (between_in given) (λ between. tt)
few_meant now commands.Sync given = tt
few_meant now commands.Make given = few_then _ (option_and_then number_of (given.plain 0)) (λ seed. few_made seed (given.plain 1))

few_deeds : (now : Option ℕ) (words : List (List ℕ)) → IsFew (deed_of now words)
unfolding deed_of
few_deeds now words =
    few_then (task_behind now words) (command_named words)
    (λ command. few_then (meaning now command) (right_given now (form_behind command) words) (few_meant now command))

few_words : (now : Option ℕ) (words : List (List ℕ)) → IsFew (task_of now words)
unfolding task_of
few_words now words =
    few_or (deed_of now words) (option_map Help (help_of words)) (few_deeds now words) (few_map Help (help_of words) (λ topic. tt))

pub few_asked : (now : Option ℕ) (words : List (List ℕ)) {seed count : ℕ} → task_of now words ≡ Some (Make seed count) → count ≤ 5000
few_asked now words is = subst IsFew is (few_words now words)
