-- A text as lines. Assumes nothing.
use Rattle.std.specs.Prelude.{◌≡◌, ℕ, ◌+◌, ◌<◌, ◌≤◌, ◌≢◌, List, [], ◌∷◌, ◌++◌, length, drop, Option, MatchOption}
use Rattle.std.specs.List.{AllByRecursion, between}
use Rattle.grammar.specs.Pieces.{cut_at}

-- a line runs up to the next byte 10 or the end of the text; behind a last byte 10 there is none
abbrev pub text_lines : List ℕ → List (List ℕ)
text_lines text = cut_at 10 [] text

abbrev pub lines_from : List ℕ → ℕ → List (List ℕ)
lines_from text from = text_lines (drop from text)

-- from p.0 to p.1 stands the first of the lines from an index on
pub record FirstLine (text : List ℕ) (from : ℕ) (p : ℕ × ℕ) : Type 0 where
  pub inside : from < length text
  pub starts : p.0 ≡ from
  pub forward : p.0 ≤ p.1
  pub within : p.1 ≤ length text
  pub first : lines_from text from ≡ between from p.1 text ∷ lines_from text (p.1 + 1)

-- one line more is taken
abbrev pub LineStep : List ℕ → ℕ → Option (ℕ × ℕ) → List ℕ → ℕ → Type 0
LineStep text from r after next = (after ≡ text) × MatchOption r (lines_from text from ≡ []) (λ p. FirstLine text from p × (next ≡ p.1 + 1))

-- lines, each ended by byte 10
abbrev pub ended : List (List ℕ) → List ℕ
ended [] = []
ended (l ∷ ls) = l ++ 10 ∷ ended ls

-- The law of splitting: the lines give the text back, whose last byte 10 may be missing.
pub record CutIntoLines (text : List ℕ) (ls : List (List ℕ)) : Type 0 where
  pub unbroken : AllByRecursion (λ l. AllByRecursion (λ b. b ≢ 10) l) ls
  pub closed : (front : List ℕ) → text ≡ front ++ 10 ∷ [] → ended ls ≡ text
  pub unclosed : (front : List ℕ) (b : ℕ) → b ≢ 10 → text ≡ front ++ b ∷ [] → ended ls ≡ text ++ 10 ∷ []
  pub none : (text ≡ [] → ls ≡ []) × (ls ≡ [] → text ≡ [])
