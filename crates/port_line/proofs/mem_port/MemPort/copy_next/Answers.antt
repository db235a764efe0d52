use Rattle.std.proofs.Common.{◌≡◌, sym, ap, ◌∙◌, ◌∷◌, map, drop, length, vec_items, ℕ, ◌+◌, List}
use Rattle.port_line.specs.MemPorts.{left_of, pieces_from, read_of}
use Rattle.port_line.proofs.Pieces.{from_start, front_given, one_coming, rest_left, whole_given}
use Rattle.port_line.proofs.mem_port.MemPort.copy_next.Goals as goal

-- src/mem_port.rt:73:5
pub returns-then-is_last-clause-bytes : goal.returns-then-is_last-clause-bytes
returns-then-is_last-clause-bytes c =
    let next = one_coming c.deref.result.now c.args.self.now.pieces.items c.args.self.now.next c.args.self.now.from c.in-Some.piece.now
    c.deref-2.result.now c.behind-left.result.now c.deref.ensures.value (c.in-Some.ensures.lookup.3.0)
    (c.in-Some.ensures.lookup.3.1 c.in-Some.piece.now) c.deref-2.ensures.value c.behind-left.ensures in
    c.copy_front-count.ensures.bytes ∙ ap (read_of (length c.args.room.now)) (sym next)

-- src/mem_port.rt:73:5
pub returns-then-is_last-clause-coming : goal.returns-then-is_last-clause-coming
returns-then-is_last-clause-coming c =
    let next = one_coming c.deref.result.now c.args.self.now.pieces.items c.args.self.now.next c.args.self.now.from c.in-Some.piece.now
    c.deref-2.result.now c.behind-left.result.now c.deref.ensures.value (c.in-Some.ensures.lookup.3.0)
    (c.in-Some.ensures.lookup.3.1 c.in-Some.piece.now) c.deref-2.ensures.value c.behind-left.ensures in
    let later : List (List ℕ) = drop (c.args.self.now.next + 1) (map vec_items c.args.self.now.pieces.items) in
    from_start later
    ∙ sym (ap (left_of (length c.args.room.now)) next ∙ whole_given (length c.args.room.now) c.behind-left.result.now later c.if-is_last.true)

-- src/mem_port.rt:73:5
pub returns-else-is_last-clause-bytes : goal.returns-else-is_last-clause-bytes
returns-else-is_last-clause-bytes c =
    let next = one_coming c.deref.result.now c.args.self.now.pieces.items c.args.self.now.next c.args.self.now.from c.in-Some.piece.now
    c.deref-2.result.now c.behind-left.result.now c.deref.ensures.value (c.in-Some.ensures.lookup.3.0)
    (c.in-Some.ensures.lookup.3.1 c.in-Some.piece.now) c.deref-2.ensures.value c.behind-left.ensures in
    c.copy_front-count.ensures.bytes ∙ ap (read_of (length c.args.room.now)) (sym next)

-- src/mem_port.rt:73:5
pub returns-else-is_last-clause-coming : goal.returns-else-is_last-clause-coming
returns-else-is_last-clause-coming c =
    let coming_at : (from : ℕ) (left : List ℕ) → left ≡ drop from c.deref-2.result.now
    → pieces_from from (drop c.args.self.now.next (map vec_items c.args.self.now.pieces.items))
    ≡ left ∷ drop (c.args.self.now.next + 1) (map vec_items c.args.self.now.pieces.items)
    = λ from left is. one_coming c.deref.result.now c.args.self.now.pieces.items c.args.self.now.next from c.in-Some.piece.now
    c.deref-2.result.now left c.deref.ensures.value (c.in-Some.ensures.lookup.3.0)
    (c.in-Some.ensures.lookup.3.1 c.in-Some.piece.now) c.deref-2.ensures.value is in
    let rest = rest_left (length c.args.room.now) c.copy_front-count.result c.args.self.now.from c.deref-2.result.now
    c.behind-left.result.now c.behind-left.ensures c.copy_front-count.ensures.count c.if-is_last.false in
    let later : List (List ℕ) = drop (c.args.self.now.next + 1) (map vec_items c.args.self.now.pieces.items) in
    coming_at (c.args.self.now.from + c.copy_front-count.result) (drop (length c.args.room.now) c.behind-left.result.now) (sym rest)
    ∙ sym (ap (left_of (length c.args.room.now)) (coming_at c.args.self.now.from c.behind-left.result.now c.behind-left.ensures)
    ∙ front_given (length c.args.room.now) c.behind-left.result.now later c.if-is_last.false)
