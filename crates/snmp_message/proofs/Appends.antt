-- Texts that were appended one after another.
use Rattle.std.proofs.Common.{◌≡◌, ℕ, List, ◌++◌, append_assoc}

pub four_appended : (before one two three all a b c d : List ℕ) → one ≡ before ++ a → two ≡ one ++ b → three ≡ two ++ c → all ≡ three ++ d → all ≡ before ++ (a ++ (b ++ (c ++ d)))
four_appended before one two three all a b c d e1 e2 e3 e4 = rw (e4, e3, e2, e1) (simp append_assoc)

pub three_appended : (before one two all a b c : List ℕ) → one ≡ before ++ a → two ≡ one ++ b → all ≡ two ++ c → all ≡ before ++ (a ++ (b ++ c))
three_appended before one two all a b c e1 e2 e3 = rw (e3, e2, e1) (simp append_assoc)

pub five_appended : (before one two three four all a b c d e : List ℕ) → one ≡ before ++ a → two ≡ one ++ b → three ≡ two ++ c → four ≡ three ++ d → all ≡ four ++ e → all ≡ before ++ (a ++ (b ++ (c ++ (d ++ e))))
five_appended before one two three four all a b c d e e1 e2 e3 e4 e5 = rw (e5, e4, e3, e2, e1) (simp append_assoc)
