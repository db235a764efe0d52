-- Forms whose names can be told from each other.
use Rattle.std.specs.Prelude.{ℕ, Bool, true, not, ◌==◌, ◌&&◌, nat_lt, List, [], ◌∷◌, bytes_eq, length, map}
use Rattle.std.specs.List.{list_all, list_any}
use Rattle.run_words.specs.Forms.{WordFormValue, NamedOption}

-- no two names are the same
abbrev pub apart : List (List ℕ) → Bool
apart [] = true
apart (x ∷ xs) = not (list_any (bytes_eq x) xs) && apart xs

-- none of the names is one of the others
abbrev pub disjoint : List (List ℕ) → List (List ℕ) → Bool
disjoint xs ys = list_all (λ x. not (list_any (bytes_eq x) ys)) xs

-- a name is not empty and has no `=`
abbrev pub is_name : List ℕ → Bool
is_name name = not (length name == 0) && not (list_any (λ byte. byte == 61) name)

abbrev pub names_of : List NamedOption → List (List ℕ)
names_of options = map (λ (option : NamedOption). option.name) options

-- the names of a form differ, can be told in a word, and its plain words can be counted
abbrev pub is_proper : WordFormValue → Bool
is_proper form =
    nat_lt 0 (length form.plain) && (nat_lt (length form.plain) 1000 &&
    (apart form.plain && (apart (names_of form.options) &&
    (disjoint form.plain (names_of form.options) && list_all is_name (names_of form.options)))))
