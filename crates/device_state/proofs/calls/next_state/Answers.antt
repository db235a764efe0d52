use Rattle.device_state.proofs.calls.next_state.Goals as goal

pub returns-clause-goes_on : goal.returns-clause-goes_on
returns-clause-goes_on c =
    let heard = c.in_ok-heard.ensures in
    let step = c.in_ok-step_of.ensures in
    record {
      old = c.in_ok-talk.talk.hand;
      held = c.in_ok-talk.held.now;
      was = c.in_ok-talk.ensures.is;
      new = c.hear_any.new.talk.hand;
      left = c.in_ok-heard.heard.left.items;
      hears = rw (step.said, step.spent) heard.hears;
      is = step.state;
      over_is = step.over;
    }
