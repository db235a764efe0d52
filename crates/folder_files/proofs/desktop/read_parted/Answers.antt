-- The line of one database more.
use Rattle.std.proofs.Common.{◌≡◌, ◌∙◌, ◌-◌, ◌<◌, ℕ, suc, true, false, rules, arith, sym, ap, length, List, Ok}
use Rattle.std.proofs.lemmas.List.{length-append}
use Rattle.folder_files.specs.InfoFiles.{parted_at, parted_form}
use Rattle.folder_files.specs.Lines.{Stem}
use Rattle.folder_files.specs.Partings.{follows}
use Rattle.folder_files.specs.Reading.{line_at}
use Rattle.folder_files.specs.declared.parted.Parted.{Parted}
use Rattle.folder_files.proofs.PartedLaws.{parted_end, parted_full, parted_refused, parted_stop, parted-step, parting_seen}
use Rattle.folder_files.proofs.desktop.read_parted.Goals as goal

pub returns-in_default : goal.returns-in_default
returns-in_default c = search (rules, parted_end)

pub returns-in_err-name : goal.returns-in_err-name
returns-in_err-name c = search (rules, parted_stop)

pub returns-then-not-branch : goal.returns-then-not-branch
returns-then-not-branch c =
    let parted = c.databases.parted.items in
    let seen = parting_seen c.databases.lines.rest.now c.in-Some.how (sym c.parting.ensures ∙ c.in-Some.is) in
    let some : 0 < c.args.room - length parted = omega arith in
    let behind : follows parted c.in_ok-name.name ≡ false = ap (λ (p : List Parted). follows p c.in_ok-name.name) (sym c.deref.ensures.value)
    ∙ (sym c.in_ok-follows.ensures ∙ c.if-not-branch.true) in
    c.databases.invariant
    ∙ parted_refused _ parted c.in-Some.how _ _ _ some seen.0 seen.1 (c.as_bytes.ensures.value ∙ c.word.ensures) c.in_ok-name.ensures behind

pub databases-preserved : goal.databases-preserved
databases-preserved c =
    let parted = c.databases.parted.items in
    let rest = c.databases.lines.rest.now in
    let how = c.in-Some.how in
    let one : Parted = record { name = c.in_ok-name.name; how = how } in
    let room = c.args.room - length c.push.new.self.items in
    let pushed = c.in_ok-push.ensures.items in
    let seen = parting_seen rest how (sym c.parting.ensures ∙ c.in-Some.is) in
    let line : line_at (parted_form how) rest ≡ Ok (c.in_ok-name.name, c.stem.new.self.rest.now) =
    ap (λ (key : List ℕ). line_at (record { key = key; kind = Stem }) rest) (sym (c.as_bytes.ensures.value ∙ c.word.ensures)) ∙ c.in_ok-name.ensures in
    let behind : follows parted c.in_ok-name.name ≡ true = ap (λ (p : List Parted). follows p c.in_ok-name.name) (sym c.deref.ensures.value)
    ∙ (sym c.in_ok-follows.ensures ∙ c.if-not-branch.false) in
    let left : c.args.room - length parted ≡ suc room = omega (arith, ap length pushed, length-append {A = Parted}) in
    c.databases.invariant ∙ (ap (λ (n : ℕ). parted_at n parted rest) left ∙ (parted-step room parted one rest c.stem.new.self.rest.now seen.0 seen.1 line behind
    ∙ ap (λ (p : List Parted). parted_at room p c.stem.new.self.rest.now) (sym pushed)))

pub returns : goal.returns
returns c = search (rules, parted_full)
