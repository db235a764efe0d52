-- What the answers below 0 mean.
use Rattle.std.specs.Prelude.{ℕ, ◌==◌, ℤ, pos, negsuc, List, [], codes, nat_le, if◌then◌else◌}

-- the sentence of the answer that lies so far below -1; none where no call has that answer
abbrev pub reason : ℕ → List ℕ
reason number =
    if number == 0 then codes "memory was refused"
    else if number == 1 then codes "the bytes are not of the form that is read"
    else if number == 2 then codes "the database has no such entry"
    else if number == 3 then codes "a side has more than 65,535 records"
    else if number == 4 then codes "the database holds resources"
    else if number == 5 then codes "the database is read-only"
    else if number == 6 then codes "the database is a stream"
    else if number == 7 then codes "the type or the creator differs between the sides"
    else if number == 8 then codes "a side lacks the database"
    else if number == 9 then codes "no handheld has such files"
    else if number == 10 then codes "the database holds nothing of that form"
    else if number == 11 then codes "a record is out of its form"
    else if number == 12 then codes "the text has more than 15 labels"
    else if number == 13 then codes "the text has more than 65,535 memos"
    else if nat_le 100 number
    then codes "a line is out of its form: its number is -100 less the answer"
    else []

-- the sentence of an answer; none where it is no refusal
abbrev pub why : ℤ → List ℕ
why (pos number) = []
why (negsuc number) = reason number
