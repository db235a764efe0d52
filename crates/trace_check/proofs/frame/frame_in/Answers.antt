-- Each part of the line is that of its frame.
use Rattle.std.proofs.Common.{◌<◌, ◌^◌, sym, arith}
use Rattle.trace_check.proofs.LineLaws.{behind-by, number-none, end-none, mark-none, fate-none, bytes-none, line-read, front-feedless}
use Rattle.trace_check.proofs.frame.frame_in.Goals as goal

pub returns-in_default-clause-none : goal.returns-in_default-clause-none
returns-in_default-clause-none c =
    let small : c.args.number < 2 ^ 64 = omega (arith, c.ranges.number.fits) in
    number-none c.args.number c.args.line.now small c.requires (rw c.in_default.is at c.in_ok-words.ensures.none)

pub returns-in_default-split_end-clause-none : goal.returns-in_default-split_end-clause-none
returns-in_default-split_end-clause-none c =
    let small : c.args.number < 2 ^ 64 = omega (arith, c.ranges.number.fits) in
    end-none c.args.number c.args.line.now c.in-Some.words.now small c.requires (rw c.in-Some.is at c.in_ok-words.ensures.some) c.in_default-split_end.ensures.none

pub returns-in_default-split_mark-clause-none : goal.returns-in_default-split_mark-clause-none
returns-in_default-split_mark-clause-none c =
    let small : c.args.number < 2 ^ 64 = omega (arith, c.ranges.number.fits) in
    let behind = behind-by c.args.number c.args.line.now c.in-Some.words.now c.in-Some-split_end.from c.in-Some-split_end.words.now small c.requires
    (rw c.in-Some.is at c.in_ok-words.ensures.some) c.in-Some-split_end.ensures.some in
    mark-none c.args.number c.args.line.now c.in-Some-split_end.from c.in-Some-split_end.words.now behind c.in_default-split_mark.ensures.none

pub fate_in-requires : goal.fate_in-requires
fate_in-requires c =
    let small : c.args.number < 2 ^ 64 = omega (arith, c.ranges.number.fits) in
    let behind = behind-by c.args.number c.args.line.now c.in-Some.words.now c.in-Some-split_end.from c.in-Some-split_end.words.now small c.requires
    (rw c.in-Some.is at c.in_ok-words.ensures.some) c.in-Some-split_end.ensures.some in
    front-feedless c.args.number c.args.line.now c.in-Some-split_end.from c.in-Some-split_end.words.now _ _ _ behind c.in-Some-split_mark.ensures.some

pub returns-in_default-2-clause-none : goal.returns-in_default-2-clause-none
returns-in_default-2-clause-none c =
    let small : c.args.number < 2 ^ 64 = omega (arith, c.ranges.number.fits) in
    let behind = behind-by c.args.number c.args.line.now c.in-Some.words.now c.in-Some-split_end.from c.in-Some-split_end.words.now small c.requires
    (rw c.in-Some.is at c.in_ok-words.ensures.some) c.in-Some-split_end.ensures.some in
    fate-none c.args.number c.args.line.now c.in-Some-split_end.from c.in-Some-split_end.words.now _ _ _ behind c.in-Some-split_mark.ensures.some
    (rw c.in_default-2.is at c.in_ok-fate.ensures.none)

pub returns-in_default-bytes_in-clause-none : goal.returns-in_default-bytes_in-clause-none
returns-in_default-bytes_in-clause-none c =
    let small : c.args.number < 2 ^ 64 = omega (arith, c.ranges.number.fits) in
    let behind = behind-by c.args.number c.args.line.now c.in-Some.words.now c.in-Some-split_end.from c.in-Some-split_end.words.now small c.requires
    (rw c.in-Some.is at c.in_ok-words.ensures.some) c.in-Some-split_end.ensures.some in
    bytes-none c.args.number c.args.line.now c.in-Some-split_end.from c.in-Some-split_end.words.now _ _ _ behind c.in-Some-split_mark.ensures.some
    (sym c.in_default-bytes_in.ensures)

pub returns-clause-some : goal.returns-clause-some
returns-clause-some c =
    let small : c.args.number < 2 ^ 64 = omega (arith, c.ranges.number.fits) in
    let behind = behind-by c.args.number c.args.line.now c.in-Some.words.now c.in-Some-split_end.from c.in-Some-split_end.words.now small c.requires
    (rw c.in-Some.is at c.in_ok-words.ensures.some) c.in-Some-split_end.ensures.some in
    line-read c.args.number c.args.line.now c.in-Some-split_end.from c.in-Some-split_end.words.now _ _ _ _ _ behind c.in-Some-split_mark.ensures.some
    (rw c.in-Some-2.is at c.in_ok-fate.ensures.some) (sym c.in-Some-bytes_in.ensures)
