-- What is taken off the ends of a text: blanks, a plus, and zeros that are worth nothing.
-- The rule: docs/TABLES.md, "Numbers in a text".
use Rattle.std.specs.Prelude.{ℕ, ◌==◌, ◌||◌, ◌&&◌, Bool, List, [], ◌∷◌, length, if◌then◌else◌}
pub use Rattle.std.specs.Str.Parse.{without_leading_plus}

-- a list without the elements at its front that pass the test
unfoldable pub without_front : (ℕ → Bool) → List ℕ → List ℕ
without_front test [] = []
without_front test (x ∷ xs) = if test x then without_front test xs else x ∷ xs

-- a list without the elements at its end that pass the test
unfoldable pub without_end : (ℕ → Bool) → List ℕ → List ℕ
without_end test [] = []
without_end test (x ∷ xs) =
    let rest = without_end test xs in
    if test x && (length rest == 0) then [] else x ∷ rest

-- a space or a tab
abbrev pub is_blank : ℕ → Bool
is_blank b = (b == 32) || (b == 9)

-- the digit 0
abbrev pub is_zero_digit : ℕ → Bool
is_zero_digit b = b == 48

-- a text without the blanks at both its ends
abbrev pub without_blanks : List ℕ → List ℕ
without_blanks text = without_end is_blank (without_front is_blank text)
