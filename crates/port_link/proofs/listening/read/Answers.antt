use Rattle.std.proofs.Common.{◌≡◌, ℕ, List, [], ◌∷◌, ◌++◌, length, take, refl, sym, subst, ap, ◌∙◌, arith}
use Rattle.std.specs.Prelude.{None, Option}
use Rattle.std.specs.Option.{option_map}
use Rattle.std.specs.Result.{result_err}
use Rattle.std.proofs.lemmas.List.{append-nil}
use Rattle.slp_frames.proofs.ScanLaws.{continues_start}
use Rattle.slp_frames.specs.Histories.{Continues}
use Rattle.port_link.specs.Courses.{Tells, scene}
use Rattle.port_link.specs.Desks.{Read, silence}
use Rattle.port_link.specs.Logs.{Silent, log_entries, said_entries}
use Rattle.port_laws.specs.Palms.{Gives, IsTold}
use Rattle.port_link.proofs.BehindLaws.{palm-quiet}
use Rattle.port_link.proofs.CourseLaws.{course-one, course-unread, happens-one}
use Rattle.port_link.proofs.TellLaws.{tells-nothing}
use Rattle.port_link.proofs.listening.read.Goals as goal

-- a list of one byte
single : (room : List ℕ) → length room ≡ 1 → (byte : ℕ) × (room ≡ byte ∷ [])
single [] one = absurd (omega arith)
single (byte ∷ []) one = (byte, refl)
single (byte ∷ other ∷ bytes) one = absurd (omega arith)

pub returns-in-Err-clause-happens : goal.returns-in-Err-clause-happens
returns-in-Err-clause-happens g c =
    ([], tt, course-unread c.in-Err.fault c.in-Err.ensures.stays c.read.ensures.taken refl refl refl c.in-Err.ensures.unread)

pub returns-then-count-eq0-clause-happens : goal.returns-then-count-eq0-clause-happens
returns-then-count-eq0-clause-happens g c =
    let given = g.P.Port.given c.args.cable.now.port in
    let log = log_entries c.args.cable.now.log.entries in
    let desk = c.args.cable.now.desk in
    let held = c.args.reader.now.held in
    happens-one c.tick.result (Read []) (scene given (g.P.Port.taken c.args.cable.now.port) (g.P.Port.palm c.args.cable.now.port) held desk log)
    (scene (g.P.Port.given c.tick.new.self.port) (g.P.Port.taken c.tick.new.self.port) (g.P.Port.palm c.tick.new.self.port) held c.tick.new.self.desk (log_entries c.tick.new.self.log.entries))
    tt (c.requires.none, subst (λ (s : List ℕ). Continues s [] held) (sym (append-nil held)) (continues_start held))
    (c.tick.ensures.given ∙ c.in-Ok.ensures.gave
    ∙ ap (λ (n : ℕ). option_map (λ given. given ++ take n c.read.new.room ∷ []) given) c.if-count-eq0.true)
    c.tick.ensures.desk c.tick.ensures.turn
    (subst (λ (t : Option (List ℕ)). Tells (result_err c.tick.result) t (g.P.Port.taken c.tick.new.self.port) log (log_entries c.tick.new.self.log.entries)
    (Silent ∷ said_entries (silence desk).said)) c.read.ensures.taken c.tick.ensures.tells)
    (record {
      between = g.P.Port.palm c.read.new.self;
      comes = subst (λ (bytes : List ℕ). IsTold (Gives bytes) (g.P.Port.palm c.args.cable.now.port) (g.P.Port.palm c.read.new.self))
          (ap (λ (n : ℕ). take n c.read.new.room) c.if-count-eq0.true) c.in-Ok.ensures.palm;
      hears = c.tick.ensures.palm;
    })

pub returns-clause-happens : goal.returns-clause-happens
returns-clause-happens g c =
    let given = g.P.Port.given c.args.cable.now.port in
    let taken = g.P.Port.taken c.args.cable.now.port in
    let palm = g.P.Port.palm c.args.cable.now.port in
    let log = log_entries c.args.cable.now.log.entries in
    let held = c.args.reader.now.held in
    let room = c.read.new.room in
    let one : length c.read.new.room ≡ 1 = omega (arith, c.read.auto.room) in
    let byte = single room one in
    let count : c.in-Ok.count ≡ 1 = omega (arith, c.in-Ok.ensures.bound, c.if-count-eq0.false, one) in
    let fed : c.feed.result ≡ 1 = omega (arith, c.feed.ensures.count, c.requires.room, one) in
    let is = λ (n : ℕ) (e : n ≡ 1). ap (λ (n : ℕ). take n room) e ∙ ap (take 1) byte.1 in (
      Read (byte.0 ∷ []),
      tt,
      refl,
      course-one (Read (byte.0 ∷ []))
          (c.requires.none, subst (λ (s : List ℕ). Continues (held ++ s) [] c.feed.new.self.held) (is c.feed.result fed) (c.feed.ensures.continues held [] (continues_start held)))
          (c.in-Ok.ensures.gave ∙ ap (λ (s : List ℕ). option_map (λ given. given ++ s ∷ []) given) (is c.in-Ok.count count))
          refl
          (subst (λ (t : Option (List ℕ)). Tells None taken t log log []) (sym c.read.ensures.taken) (tells-nothing taken log))
          (palm-quiet c.args.cable.now.desk (Read (byte.0 ∷ [])) (g.P.Port.palm c.args.cable.now.port) (g.P.Port.palm c.read.new.self)
          (subst (λ (bytes : List ℕ). IsTold (Gives bytes) (g.P.Port.palm c.args.cable.now.port) (g.P.Port.palm c.read.new.self)) (is c.in-Ok.count count)
          c.in-Ok.ensures.palm) refl),
    )
