-- Each line goes on from those before it.
use Rattle.std.proofs.Common.{sym, rules}
use Rattle.std.proofs.lemmas.List.{length-map, map-append}
use Rattle.line_script.specs.Rules.{rule_value}
use Rattle.line_script.proofs.FateLaws.{line_in-found, line_in-none}
use Rattle.line_script.proofs.ScriptLaws.{goes-on, goes-bad, goes-end, lines-rise}
use Rattle.line_script.proofs.reader.read_script.Goals as goal

pub returns-in_default-line_in-clause-refused : goal.returns-in_default-line_in-clause-refused
returns-in_default-line_in-clause-refused c = search (rules, goes-bad, line_in-none, length-map)

pub loop-line-preserved : goal.loop-line-preserved
loop-line-preserved c =
    let rule = rule_value c.in-Some-line_in.rule in
    let says = line_in-found c.loop-line.before c.in-Some.line.now rule (sym c.in-Some-line_in.ensures) in
    let goes = goes-on c.loop-line.invariant.0 c.in-Some.ensures.line says in
    (rw (c.in_ok-push.ensures.items, map-append) goes, c.loop-line.invariant.1)

pub of-requires : goal.of-requires
of-requires c = lines-rise 0 _ _ (goes-end c.loop-line.invariant.0 c.in_default.ensures.none)

pub returns-clause-read : goal.returns-clause-read
returns-clause-read c =
    (c.loop-line.invariant.1, rw c.of.ensures (goes-end c.loop-line.invariant.0 c.in_default.ensures.none))
