-- Lists that grow part by part.
use Rattle.std.proofs.Common.{◌≡◌, ◌∙◌, ap, List, ◌++◌, append_assoc}

pub grown-2 : {X : Type 0} (old one new a b : List X) → one ≡ old ++ a → new ≡ one ++ b → new ≡ old ++ (a ++ b)
grown-2 old one new a b e f = f ∙ (ap (λ l. l ++ b) e ∙ append_assoc old a b)

pub grown-3 : {X : Type 0} (old one two new a b c : List X) → one ≡ old ++ a → two ≡ one ++ b → new ≡ two ++ c → new ≡ old ++ (a ++ (b ++ c))
grown-3 old one two new a b c e f g = grown-2 old one new a (b ++ c) e (grown-2 one two new b c f g)

pub grown-4 : {X : Type 0} (old one two three new a b c d : List X) → one ≡ old ++ a → two ≡ one ++ b → three ≡ two ++ c → new ≡ three ++ d
    → new ≡ old ++ (a ++ (b ++ (c ++ d)))
grown-4 old one two three new a b c d e f g h = grown-2 old one new a (b ++ (c ++ d)) e (grown-3 one two three new b c d f g h)

pub grown-5 : {X : Type 0} (old one two three four new a b c d k : List X) → one ≡ old ++ a → two ≡ one ++ b → three ≡ two ++ c → four ≡ three ++ d
    → new ≡ four ++ k → new ≡ old ++ (a ++ (b ++ (c ++ (d ++ k))))
grown-5 old one two three four new a b c d k e f g h m =
    grown-2 old one new a (b ++ (c ++ (d ++ k))) e (grown-4 one two three four new b c d k f g h m)

pub grown-6 : {X : Type 0} (old one two three four five new a b c d k m : List X) → one ≡ old ++ a → two ≡ one ++ b → three ≡ two ++ c → four ≡ three ++ d
    → five ≡ four ++ k → new ≡ five ++ m → new ≡ old ++ (a ++ (b ++ (c ++ (d ++ (k ++ m)))))
grown-6 old one two three four five new a b c d k m e f g h i j =
    grown-2 old one new a (b ++ (c ++ (d ++ (k ++ m)))) e (grown-5 one two three four five new b c d k m f g h i j)

pub grown-7 : {X : Type 0} (old one two three four five six new a b c d k m n : List X) → one ≡ old ++ a → two ≡ one ++ b → three ≡ two ++ c
    → four ≡ three ++ d → five ≡ four ++ k → six ≡ five ++ m → new ≡ six ++ n → new ≡ old ++ (a ++ (b ++ (c ++ (d ++ (k ++ (m ++ n))))))
grown-7 old one two three four five six new a b c d k m n e f g h i j l =
    grown-2 old one new a (b ++ (c ++ (d ++ (k ++ (m ++ n))))) e (grown-6 one two three four five six new b c d k m n f g h i j l)
