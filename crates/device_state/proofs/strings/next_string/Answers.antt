-- Eight bytes and so many behind them are a string; where there are fewer, there is none.
use Rattle.std.proofs.Common.{◌≡◌, ◌∙◌, ◌++◌, ◌-◌, length, take, drop, sym, arith}
use Rattle.std.proofs.lemmas.List.{length-drop, length-take, take-append-drop, take_all}
use Rattle.device_state.proofs.StringLaws.{cut_string, lengths_of}
use Rattle.device_state.proofs.strings.next_string.Goals as goal

pub returns-then-bytes-lt-LENGTH_SIZE-clause-none : goal.returns-then-bytes-lt-LENGTH_SIZE-clause-none
returns-then-bytes-lt-LENGTH_SIZE-clause-none c = λ _ string rest same.
    let lengths = lengths_of c.args.bytes.now string rest (omega arith) same in
    omega arith

pub returns-then-rest-length-clause-none : goal.returns-then-rest-length-clause-none
returns-then-rest-length-clause-none c = λ _ string rest same.
    let bytes = c.args.bytes.now in
    let lengths = lengths_of bytes string rest (omega arith) same in
    omega (arith, length-take (length bytes - 8) (drop 8 bytes), length-drop 8 bytes)

pub returns-clause-found : goal.returns-clause-found
returns-clause-found c =
    let bytes = c.args.bytes.now in
    let back = take (length bytes - 8) (drop 8 bytes) in
    let whole : back ≡ drop 8 bytes = take_all (length bytes - 8) (drop 8 bytes) (omega (arith, length-drop 8 bytes)) in
    let size = c.read_u64-length.result in
    let parts : c.split_at.result.0.now ++ c.split_at.result.1.now ≡ back =
    rw (c.split_at.ensures.front, c.split_at.ensures.back) (take-append-drop size back) in
    cut_string bytes c.split_at.result.0.now c.split_at.result.1.now (λ i. omega (arith, c.type_inv.bytes i)) c.if-bytes-lt-LENGTH_SIZE.false
    (sym whole ∙ sym parts) (omega (arith, c.split_at.ensures.front_len, c.read_u64-length.ensures))
