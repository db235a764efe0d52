-- The databases are purged, and the session is ended.
use Rattle.std.proofs.Common.{Ok, Err, refl}
use Rattle.sync_session.proofs.running.close.Goals as goal

pub returns-in-Ok : goal.returns-in-Ok
returns-in-Ok g c = record {
  closes = record { answer = Ok c.in-Ok.ended; ends = rw c.deref.ensures.value at c.in-Ok.ensures.ends; is = rw c.into_folder.ensures };
  follows = record {
    answer = Ok tt;
    follows = rw c.deref.ensures.value at c.in-Ok.ensures.follows;
    end_is = refl;
    same_folder = c.into_folder.ensures;
  };
}

pub returns-in-Err : goal.returns-in-Err
returns-in-Err g c = record {
  closes = record { answer = Err c.in-Err.field-0; ends = rw c.deref.ensures.value at c.in-Err.ensures.ends; is = c.stopped.ensures };
  follows = rw c.stopped.ensures (record {
    answer = Err c.in-Err.field-0.cause;
    follows = rw c.deref.ensures.value at c.in-Err.ensures.follows;
    end_is = refl;
    same_folder = refl;
  });
}
