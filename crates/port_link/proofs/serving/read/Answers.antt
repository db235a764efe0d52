use Rattle.std.proofs.Common.{◌≡◌, ℕ, List, [], ◌∷◌, ◌++◌, length, take, refl, sym, subst, ap, ◌∙◌, arith}
use Rattle.std.specs.Prelude.{None, Option}
use Rattle.std.specs.Option.{option_map}
use Rattle.std.proofs.lemmas.List.{append-nil}
use Rattle.std.proofs.lemmas.Result.{IfErr-weaker, on_ok_weaker}
use Rattle.slp_frames.proofs.ScanLaws.{continues_start}
use Rattle.slp_frames.specs.Histories.{Continues}
use Rattle.port_link.specs.Courses.{Tells}
use Rattle.port_link.specs.Desks.{Read}
use Rattle.port_link.specs.Logs.{log_entries}
use Rattle.port_link.proofs.TellLaws.{tells-nothing}
use Rattle.device_stream.proofs.CourseLaws.{any-itself}
use Rattle.port_link.specs.VigilCourses.{HasStepped, Stops, scene}
use Rattle.port_link.specs.Vigils.{vigil}
use Rattle.port_link.proofs.VigilCourseLaws.{goes-one, out-one, out-unread, refused-sudden}
use Rattle.port_link.proofs.serving.read.Goals as goal

-- a list of one byte
single : (room : List ℕ) → length room ≡ 1 → (byte : ℕ) × (room ≡ byte ∷ [])
single [] one = absurd (omega arith)
single (byte ∷ []) one = (byte, refl)
single (byte ∷ other ∷ bytes) one = absurd (omega arith)

pub returns-in-Err-clause-stops : goal.returns-in-Err-clause-stops
returns-in-Err-clause-stops g c = rw c.port_end.ensures (out-unread c.in-Err.fault c.in-Err.ensures.stays c.read.ensures.taken refl refl refl)

pub returns-in-Err-clause-sudden : goal.returns-in-Err-clause-sudden
returns-in-Err-clause-sudden g c = rw c.port_end.ensures (refused-sudden c.in-Err.fault)

pub returns-in-Err-clause-performs : goal.returns-in-Err-clause-performs
returns-in-Err-clause-performs g c = any-itself g.F.Folder.contents g.F.Folder.moments g.F.Folder.paths g.F.Folder.faults c.args.waits.now.talk

pub returns-then-count-eq0-clause-goes : goal.returns-then-count-eq0-clause-goes
returns-then-count-eq0-clause-goes g c =
    let given = g.P.Port.given c.args.waits.now.port in
    let waits = c.args.waits.now in
    let held = c.args.reader.now.held in
    let old = scene given (g.P.Port.taken waits.port) held (vigil waits.talk.hand waits.patience) (log_entries waits.log.entries) in
    let new = scene (g.P.Port.given c.tick.new.self.port) (g.P.Port.taken c.tick.new.self.port) held
    (vigil c.tick.new.self.talk.hand c.tick.new.self.patience) (log_entries c.tick.new.self.log.entries) in
    on_ok_weaker c.tick.result
    (λ stepped. (
      Read [],
      goes-one (Read []) {old = old} {new = new} (c.requires.none, subst (λ (s : List ℕ). Continues s [] held) (sym (append-nil held)) (continues_start held))
          (c.tick.ensures.given ∙ c.in-Ok.ensures.gave
          ∙ ap (λ (n : ℕ). option_map (λ given. given ++ take n c.read.new.room ∷ []) given) c.if-count-eq0.true)
          (subst (λ (t : Option (List ℕ)). HasStepped (Read []) old.vigil new.vigil t new.taken old.log new.log) c.read.ensures.taken stepped),
    )) c.tick.ensures.stepped

pub returns-then-count-eq0-clause-stops : goal.returns-then-count-eq0-clause-stops
returns-then-count-eq0-clause-stops g c =
    let given = g.P.Port.given c.args.waits.now.port in
    let waits = c.args.waits.now in
    let held = c.args.reader.now.held in
    let old = scene given (g.P.Port.taken waits.port) held (vigil waits.talk.hand waits.patience) (log_entries waits.log.entries) in
    let new = scene (g.P.Port.given c.tick.new.self.port) (g.P.Port.taken c.tick.new.self.port) held
    (vigil c.tick.new.self.talk.hand c.tick.new.self.patience) (log_entries c.tick.new.self.log.entries) in
    IfErr-weaker c.tick.result _ _
    (λ end stops. out-one (Read []) {old = old} {new = new} (c.requires.none, subst (λ (s : List ℕ). Continues s [] held) (sym (append-nil held)) (continues_start held))
    (c.tick.ensures.given ∙ c.in-Ok.ensures.gave
    ∙ ap (λ (n : ℕ). option_map (λ given. given ++ take n c.read.new.room ∷ []) given) c.if-count-eq0.true)
    (subst (λ (t : Option (List ℕ)). Stops end (Read [] ∷ []) old.vigil new.vigil t new.taken old.log new.log) c.read.ensures.taken stops))
    c.tick.ensures.stops

pub returns-then-count-eq0-clause-sudden : goal.returns-then-count-eq0-clause-sudden
returns-then-count-eq0-clause-sudden g c = IfErr-weaker c.tick.result _ _ (λ end stops. stops.sudden) c.tick.ensures.stops

pub returns-clause-goes : goal.returns-clause-goes
returns-clause-goes g c =
    let given = g.P.Port.given c.args.waits.now.port in
    let waits = c.args.waits.now in
    let taken = g.P.Port.taken waits.port in
    let log = log_entries waits.log.entries in
    let held = c.args.reader.now.held in
    let room = c.read.new.room in
    let one : length c.read.new.room ≡ 1 = omega (arith, c.read.auto.room) in
    let byte = single room one in
    let count : c.in-Ok.count ≡ 1 = omega (arith, c.in-Ok.ensures.bound, c.if-count-eq0.false, one) in
    let fed : c.feed.result ≡ 1 = omega (arith, c.feed.ensures.count, c.requires.room, one) in
    let is = λ (n : ℕ) (e : n ≡ 1). ap (λ (n : ℕ). take n room) e ∙ ap (take 1) byte.1 in (
      Read (byte.0 ∷ []),
      goes-one (Read (byte.0 ∷ []))
          (c.requires.none, subst (λ (s : List ℕ). Continues (held ++ s) [] c.feed.new.self.held) (is c.feed.result fed) (c.feed.ensures.continues held [] (continues_start held)))
          (c.in-Ok.ensures.gave ∙ ap (λ (s : List ℕ). option_map (λ given. given ++ s ∷ []) given) (is c.in-Ok.count count))
          (record {
            said = [];
            step = (refl, refl);
            on = tt;
            tells = subst (λ (t : Option (List ℕ)). Tells None taken t log log []) (sym c.read.ensures.taken) (tells-nothing taken log);
          }),
    )

pub returns-clause-performs : goal.returns-clause-performs
returns-clause-performs g c = any-itself g.F.Folder.contents g.F.Folder.moments g.F.Folder.paths g.F.Folder.faults c.args.waits.now.talk
