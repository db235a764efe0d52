use Rattle.std.proofs.Common.{◌≡◌, ◌++◌, List, ℕ, ◌∙◌, ap, arith, map}
use Rattle.std.specs.Option.{option_copied}
use Rattle.pdb_values.specs.Contents.{ContentValue}
use Rattle.conduit_rules.specs.Choices.{offers_for, choice_for}
use Rattle.conduit_rules.specs.Contents.{count_of}
use Rattle.conduit_rules.specs.News.{unpaired, live_contents, archived_records, found_in}
use Rattle.conduit_rules.proofs.draft.Draft.finished.Goals as goal

pub returns : goal.returns
returns c = λ a s is live archived.
    let offered : c.append.new.self.items ≡ offers_for a s =
    c.in_ok-append.ensures.items
    ∙ ap {A = List ContentValue × List ContentValue} (λ p. p.0 ++ p.1)
    (λ k. (
      (c.in_ok-collect_loose.ensures.offers
          ∙ ap (λ (xs : List ContentValue). xs ++ live_contents (found_in (map option_copied c.args.slots.now))) c.new-offers.ensures.items ∙ live) k,
      is.news k,
    ))
    in
    let put_away : c.append-2.new.self.items ≡ (choice_for a s).archive =
    c.in_ok-append-2.ensures.items
    ∙ ap {A = List (ℕ × ContentValue) × List (ℕ × ContentValue)} (λ p. p.0 ++ p.1)
    (λ k. (
      (c.in_ok-collect_loose.ensures.archive
          ∙ ap (λ (xs : List (ℕ × ContentValue)). xs ++ map (λ x. (0, x)) (archived_records (found_in (map option_copied c.args.slots.now))))
          c.new-archive.ensures.items
          ∙ ap (map (λ x. (0, x))) archived) k,
      is.archive k,
    )) in
    record {
      kept = is.kept;
      replace = is.replace;
      archive = put_away;
      gone = is.gone;
      adds = c.in_ok-leave_unpaired.ensures
          ∙ ap {A = List ContentValue × List ContentValue} (λ p. unpaired (λ x. count_of x p.0) p.1)
          (λ k. ((c.deref.ensures.value ∙ is.partners) k, (c.deref-2.ensures.value ∙ offered) k));
      purge = is.purge;
      twice = grind (arith, c.len-twice.ensures, is.news);
    }
