-- The words of a line, and which of them are names. Assumes nothing.
use Rattle.std.specs.Prelude.{ℕ, ◌+◌, Bool, false, cond, ◌&&◌, ◌||◌, List, [], ◌∷◌, length, drop, Some, None, Option, ◌==◌, nat_le, nat_lt}
use Rattle.std.specs.List.{list_all}
use Rattle.grammar.specs.Pieces.{cut_at}

-- a word, with the number of its first byte in the line, from 1
pub record Word : Type 0 where
  pub start : ℕ
  pub bytes : List ℕ

abbrev pub word : ℕ → List ℕ → Word
word k bs = record { start = k; bytes = bs }

-- pieces that stand one after the other with one byte between them, the first at k
abbrev pub with_places : ℕ → List (List ℕ) → List Word
with_places k [] = []
with_places k (p ∷ ps) = word k p ∷ with_places (k + length p + 1) ps

-- the pieces from an index on, cut wherever a space stands; behind the end of the line there is no word
abbrev pub words_from : List ℕ → ℕ → List Word
words_from line from = cond (nat_le from (length line)) (with_places (from + 1) (cut_at 32 ([] ∷ []) (drop from line))) []

-- the words behind the mark: none if the line ends there
abbrev pub words_of : List ℕ → List Word
words_of line = cond (nat_lt 2 (length line)) (words_from line 2) []

abbrev pub is_letter : ℕ → Bool
is_letter b = (nat_le 97 b && nat_le b 122) || (nat_le 65 b && nat_le b 90)

-- a letter, a digit or an underscore
abbrev pub is_name_byte : ℕ → Bool
is_name_byte b = is_letter b || ((nat_le 48 b && nat_le b 57) || b == 95)

-- a letter in front, then at most seven further name bytes
abbrev pub obeys_name_rule : List ℕ → Bool
obeys_name_rule [] = false
obeys_name_rule (b ∷ bs) = is_letter b && (nat_le (length bs) 7 && list_all is_name_byte bs)

-- where the first word stands that is no name
abbrev pub odd_name : List Word → Option ℕ
odd_name [] = None
odd_name (w ∷ ws) = cond (obeys_name_rule w.bytes) (odd_name ws) (Some w.start)
