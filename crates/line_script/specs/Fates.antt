-- Reading a fate, and a line.
use Rattle.std.specs.Prelude.{ℕ, ◌==◌, nat_eq, nat_le, bytes_eq, if◌then◌else◌, codes, List, drop, slice_index, Option, None, Some, option_and_then}
use Rattle.std.specs.List.{starts_with}
use Rattle.std.specs.Option.{option_map}
use Rattle.trace_text.specs.Fates.{FateValue, Lost, Late, Cut, Hit, Noise, Unplug, Abort}
use Rattle.line_script.specs.Rules.{RuleValue}
use Rattle.line_script.specs.Words.{split_at_space, number_in, short_in, bytes_in}

abbrev pub cut_in : List ℕ → Option FateValue
cut_in word = option_map (λ count. Cut count) (short_in word)

-- bytes of which the first isn't 0
abbrev pub if_changing : ℕ → List ℕ → Option FateValue
if_changing place bytes = if slice_index bytes 0 == 0 then None else Some (Hit place bytes)

abbrev pub hit_in : List ℕ → Option FateValue
hit_in words =
    option_and_then
    (λ parts. option_and_then (λ place. option_and_then (if_changing place) (bytes_in 8 parts.1))
    (short_in parts.0)) (split_at_space words)

abbrev pub noise_in : List ℕ → Option FateValue
noise_in word = option_map (λ bytes. Noise bytes) (bytes_in 1040 word)

-- the fate that has a number or bytes
abbrev pub harm_in : List ℕ → Option FateValue
harm_in words =
    if starts_with nat_eq words (codes "cut ") then cut_in (drop 4 words)
    else if starts_with nat_eq words (codes "hit ") then hit_in (drop 4 words)
    else if starts_with nat_eq words (codes "noise ") then noise_in (drop 6 words)
    else None

-- the fate that words are
abbrev pub fate_in : List ℕ → Option FateValue
fate_in words =
    if bytes_eq words (codes "lost") then Some Lost
    else if bytes_eq words (codes "late") then Some Late
    else if bytes_eq words (codes "unplug") then Some Unplug
    else if bytes_eq words (codes "abort") then Some Abort
    else harm_in words

-- what a line says, where its number is above that of the line before
unfoldable pub line_in : ℕ → List ℕ → Option RuleValue
line_in before line =
    option_and_then
    (λ parts. option_and_then
    (λ number. option_and_then
    (λ fate. if nat_le number before then None else Some (record { number = number; fate = fate }))
    (fate_in parts.1)) (number_in parts.0))
    (split_at_space line)
