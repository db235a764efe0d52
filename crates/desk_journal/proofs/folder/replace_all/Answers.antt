-- Each replacement is one more of the steps.
use Rattle.std.proofs.Common.{◌≡◌, ◌+◌, ◌++◌, ◌∷◌, [], List, take, drop, rules, refl, sym, ap, subst, ◌∙◌}
use Rattle.std.specs.Prelude.{Option, string_bytes}
use Rattle.std.specs.Option.{option_map}
use Rattle.std.specs.FinMap as finmap
use Rattle.std.proofs.lemmas.List.{take-append-drop}
use Rattle.hs_folders.specs.FileMaps.{FileMap}
use Rattle.desk_journal.specs.Entries.{EntryValue, entry_value, entry_values}
use Rattle.desk_journal.specs.Overlays.{put_all}
use Rattle.desk_journal.specs.Steps.{GoesThrough, GoesThroughAll, replacements}
use Rattle.desk_journal.proofs.OverlayLaws.{put_one_more, values_more, values_taken}
use Rattle.desk_journal.proofs.StepLaws.{all_none, all_then, last_told-replacements, none_put, replacements-append, replacements-push, through_all}
use Rattle.desk_journal.proofs.StepLaws.{through_none, through_then}
use Rattle.desk_journal.proofs.folder.replace_all.Goals as goal

pub loop-entry-init : goal.loop-entry-init
loop-entry-init g c = record {
  put = none_put (g.F.Folder.contents c.args.folder.now);
  moments = all_none refl;
  paths = refl;
  count = refl;
}

pub loop-entry-preserved : goal.loop-entry-preserved
loop-entry-preserved g c =
    let contents = g.F.Folder.contents in
    let before = contents c.args.folder.now in
    let values = entry_values c.args.entries.now in
    let place = c.loop-entry.entry-index in
    let item = c.entry-item.result in
    let here = rw (c.as_str.ensures.value, c.deref.ensures.value) at c.in_ok-replace.ensures.replaced in
    let more : take (place + 1) values ≡ take place values ++ entry_value item ∷ [] = values_more c.args.entries.now place c.loop-entry-test.true c.entry-item.is in
    let put : contents c.replace.new.self ≡ option_map (put_all (take (place + 1) values)) before =
    here ∙ ap (option_map (λ (held : FileMap). finmap.insert held (string_bytes item.name) item.bytes.items)) c.loop-entry.invariant.put
    ∙ sym (put_one_more (take place values) (entry_value item) before)
    ∙ ap (λ (all : List EntryValue). option_map (put_all all) before) (sym more) in
    let steps : replacements (take (place + 1) values) before ≡ replacements (take place values) before ++ contents c.replace.new.self ∷ [] =
    ap (λ (all : List EntryValue). replacements all before) more ∙ replacements-push (take place values) (entry_value item) before
    ∙ ap (λ (all : List EntryValue). replacements (take place values) before ++ option_map (put_all all) before ∷ []) (sym more)
    ∙ ap (λ (t : Option FileMap). replacements (take place values) before ++ t ∷ []) (sym put) in
    record {
      put = put;
      moments = subst
          (λ (s : List (Option FileMap)). GoesThroughAll s (g.F.Folder.moments c.args.folder.now) (g.F.Folder.moments c.replace.new.self)) (sym steps)
          (all_then (replacements (take place values) before) (contents c.replace.new.self ∷ []) _ _ _ c.loop-entry.invariant.moments
          c.in_ok-replace.ensures.moment);
      paths = c.replace.ensures.paths ∙ c.loop-entry.invariant.paths;
      count = search rules;
    }

pub returns-in_err-replace-clause-steps : goal.returns-in_err-replace-clause-steps
returns-in_err-replace-clause-steps g c =
    let contents = g.F.Folder.contents in
    let before = contents c.args.folder.now in
    let values = entry_values c.args.entries.now in
    let place = c.loop-entry.entry-index in
    let mid = option_map (put_all (take place values)) before in
    let all : replacements values before ≡ replacements (take place values) before ++ replacements (drop place values) mid =
    ap (λ (e : List EntryValue). replacements e before) (sym (take-append-drop place values))
    ∙ replacements-append (take place values) (drop place values) before in
    subst (λ (s : List (Option FileMap)). GoesThrough s before (contents c.replace.new.self) (g.F.Folder.moments c.args.folder.now)
    (g.F.Folder.moments c.replace.new.self)) (sym all)
    (through_then (replacements (take place values) before) before mid (sym (last_told-replacements (take place values) before))
    c.loop-entry.invariant.moments (through_none (replacements (drop place values) mid) (c.in_err-replace.ensures.contents_stay ∙ c.loop-entry.invariant.put)
    c.in_err-replace.ensures.moments_stay))

pub returns-in_err-replace-clause-paths : goal.returns-in_err-replace-clause-paths
returns-in_err-replace-clause-paths g c = c.replace.ensures.paths ∙ c.loop-entry.invariant.paths

pub returns-clause-all : goal.returns-clause-all
returns-clause-all g c =
    let before = g.F.Folder.contents c.args.folder.now in
    subst (λ (e : List EntryValue). GoesThroughAll (replacements e before) (g.F.Folder.moments c.args.folder.now)
    (g.F.Folder.moments c.loop-entry.folder)) (values_taken c.args.entries.now c.loop-entry.entry-index c.loop-entry-test.false) c.loop-entry.invariant.moments

pub returns-clause-done : goal.returns-clause-done
returns-clause-done g c =
    let before = g.F.Folder.contents c.args.folder.now in
    c.loop-entry.invariant.put ∙ ap (λ (e : List EntryValue). option_map (put_all e) before)
    (values_taken c.args.entries.now c.loop-entry.entry-index c.loop-entry-test.false)

pub returns-clause-steps : goal.returns-clause-steps
returns-clause-steps g c =
    let before = g.F.Folder.contents c.args.folder.now in
    let values = entry_values c.args.entries.now in
    through_all (returns-clause-done g c ∙ sym (last_told-replacements values before)) (returns-clause-all g c)
