use Rattle.call_parts.proofs.sides.open_store.Goals as goal

pub returns-in-Ok-clause-has : goal.returns-in-Ok-clause-has
returns-in-Ok-clause-has g c = record {
  side = c.requires;
  databases = c.in-Ok.store.databases;
  user = c.in-Ok.store.user;
  holds = c.in-Ok.ensures.held;
}
