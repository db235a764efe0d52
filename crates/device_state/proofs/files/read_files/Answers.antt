-- One file after the other; where none stands next, or its name stood before, the bytes are of no list.
use Rattle.std.proofs.Common.{◌≡◌, ◌∙◌, ◌≢◌, Bool, Bor, List, ℕ, ap, arith, false, length, not, refl, sym, true}
use Rattle.std.specs.BTreeSet.{contains_by}
use Rattle.std.specs.Cmp.Lexicographic.{slice_cmp}
use Rattle.std.specs.Ordering.{nat_cmp}
use Rattle.std.proofs.lemmas.Bool.{eqb-false}
use Rattle.std.proofs.lemmas.List.{length-append}
use Rattle.device_state.specs.Lists.{NamedFile, file_text}
use Rattle.device_state.proofs.FileLaws.{length-file_text}
use Rattle.device_state.proofs.ReadLaws.{ends_early, ReadsUpTo-next, stands_twice}
use Rattle.device_state.proofs.files.read_files.Goals as goal

-- what is not new was there, and what is new was not
was_there : (new had : Bool) → new ≡ not had → new ≡ false → had ≡ true
was_there new true is old = refl
was_there new false is old = absurd cc

was_not : (new had : Bool) → new ≡ not had → new ≡ true → had ≡ false
was_not new true is fresh = absurd cc
was_not new false is fresh = refl

pub returns-in_default-clause-form : goal.returns-in_default-clause-form
returns-in_default-clause-form c = λ _.
    let rest = c.loop-rest.rest.now in
    let some : length rest ≢ 0 = eqb-false _ _ (sym c.loop-rest-test.ensures) in
    ends_early c.args.bytes.now rest _ c.loop-rest.invariant.reads (omega arith) (omega arith)
    (λ file behind text front. c.in_default.ensures.none refl file behind text front)

pub returns-then-not-branch-clause-form : goal.returns-then-not-branch-clause-form
returns-then-not-branch-clause-form c = λ _.
    let rest = c.loop-rest.rest.now in
    let lent = c.in-Some.file in
    let file : NamedFile = record { name = lent.name.now; bytes = lent.bytes.now } in
    let some : length rest ≢ 0 = eqb-false _ _ (sym c.loop-rest-test.ensures) in
    stands_twice c.args.bytes.now rest lent.rest.now file _ c.loop-rest.invariant.reads (omega arith) (omega arith) c.in-Some.ensures.found
    (was_there _ _ c.in_ok-insert.ensures.added c.if-not-branch.true)

pub loop-rest-smaller : goal.loop-rest-smaller
loop-rest-smaller c =
    let lent = c.in-Some.file in
    let file : NamedFile = record { name = lent.name.now; bytes = lent.bytes.now } in
    omega (arith, ap length c.in-Some.ensures.found, length-append (file_text file) lent.rest.now, length-file_text file)

pub loop-rest-preserved : goal.loop-rest-preserved
loop-rest-preserved c =
    let lent = c.in-Some.file in
    let file : NamedFile = record { name = lent.name.now; bytes = lent.bytes.now } in
    let so_far = c.loop-rest.invariant in
    record {
      reads = ReadsUpTo-next c.args.bytes.now c.loop-rest.rest.now lent.rest.now file
          (λ name. contains_by (λ (k : Bor (List ℕ)). slice_cmp nat_cmp name k.now) c.insert.new.self)
          (λ name. contains_by (λ (k : Bor (List ℕ)). slice_cmp nat_cmp name k.now) c.loop-rest.names)
          so_far.reads c.in-Some.ensures.found c.in-Some.ensures.utf8 (was_not _ _ c.in_ok-insert.ensures.added c.if-not-branch.false)
          c.in_ok-put.ensures.ok (λ name. c.in_ok-insert.ensures.updates.0 (record { ref_ptr = (0, 0); now = name }));
      past = c.put.ensures.past ∙ so_far.past;
      paths = c.put.ensures.paths ∙ so_far.paths;
      faults = c.put.ensures.faults ∙ so_far.faults;
      calls = c.put.ensures.calls ∙ so_far.calls;
      changes = c.put.ensures.changes ∙ so_far.changes;
      failing = c.put.ensures.failing ∙ so_far.failing;
    }
