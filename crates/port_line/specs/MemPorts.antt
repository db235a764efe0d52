-- What callers can say of a port in memory beyond what each port tells.
use Rattle.std.specs.Prelude.{ℕ, List, [], ◌∷◌, map, take, drop, length, nat_le, vec_items, Option, if◌then◌else◌}
use Rattle.port_line.specs.declared.mem_port.MemPort.{MemPort}

-- pieces without the front of the first one
abbrev pub pieces_from : ℕ → List (List ℕ) → List (List ℕ)
pieces_from from [] = []
pieces_from from (piece ∷ pieces) = drop from piece ∷ pieces

-- the pieces that will come
abbrev pub coming : MemPort → List (List ℕ)
coming port = pieces_from port.from (drop port.next (map vec_items port.pieces.items))

-- how many of the next calls don't fail, if some will
abbrev pub good_calls : MemPort → Option ℕ
good_calls port = port.calls.good

-- what a read with so much room gives where these pieces come: of the first one what there is room
-- for
abbrev pub read_of : ℕ → List (List ℕ) → List ℕ
read_of room [] = []
read_of room (piece ∷ pieces) = take room piece

-- the pieces that come behind that read
abbrev pub left_of : ℕ → List (List ℕ) → List (List ℕ)
left_of room [] = []
left_of room (piece ∷ pieces) =
    if nat_le (length piece) room then pieces else drop room piece ∷ pieces
