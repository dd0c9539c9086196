-- What a record means of the line that it was read from. Assumes nothing.
use Rattle.std.specs.Prelude.{◌≡◌, ℕ, ◌+◌, ◌≤◌, ◌⊎◌, List, map, take, IfErr, Some, None, Ok, Err, Option, Result, MatchResult}
use Rattle.std.specs.List.{between}
use Rattle.std.specs.Option.{option_map}
use Rattle.grammar.specs.declared.grounds.Ground.{Ground}
use Rattle.grammar.specs.declared.grounds.LineFault.{LineFault}
use Rattle.grammar.specs.Objections.{ByGrounds, SplitAtSpaces}
use Rattle.grammar.specs.Reading.{Entry, stands, line_reading}
use Rattle.grammar.specs.Refusals.{fault}
use Rattle.grammar.specs.Words.{Word, word, words_of}
use Rattle.line.specs.declared.places.Place.{Place}
use Rattle.line.specs.declared.places.Places.{Places}
use Rattle.line.specs.declared.records.Record.{Record}

abbrev pub word_in : List ℕ → Place → Word
word_in line p = word (p.start + 1) (between p.start p.end line)

abbrev pub words_in : List ℕ → Places → List Word
words_in line ps = map (word_in line) (take ps.len ps.all)

abbrev pub entry_of : List ℕ → Record → Entry
entry_of line r = record { kind = r.kind; words = words_in line r.words }

abbrev pub told : List ℕ → Result (Option Record) LineFault → Result (Option Entry) LineFault
told line (Ok o) = Ok (option_map (entry_of line) o)
told line (Err f) = Err f

-- the answer of a call that checks one ground and gives what P says of it
abbrev pub Checks : {T : Type 0} → List ℕ → Ground → (T → Type 0) → Result T LineFault → Type 0
Checks line g P r = MatchResult r (λ x. (stands line g ≡ None) × P x) (λ f. (f ≡ fault g f.byte) × (stands line g ≡ Some f.byte))

-- the same of two grounds, one after the other
abbrev pub ChecksTwo : {T : Type 0} → List ℕ → Ground → Ground → Type 0 → Result T LineFault → Type 0
ChecksTwo line g h P r =
    MatchResult r
    (λ _. (stands line g ≡ None) × (stands line h ≡ None) × P)
    (λ f. ((f ≡ fault g f.byte) × (stands line g ≡ Some f.byte)) ⊎ ((stands line g ≡ None) × (f ≡ fault h f.byte) × (stands line h ≡ Some f.byte)))

-- What reading a line promises of its answer: exactly what is defined, and so the laws of grounds and words.
pub record ReadsLine (line : List ℕ) (r : Result (Option Record) LineFault) : Type 0 where
  -- the record or the fault is the defined one
  pub value : told line r ≡ line_reading line
  -- accepted where no ground stands, else refused on the first in the checking order at its leftmost place
  pub grounds : ByGrounds line (told line r)
  -- a byte is at most one past the longest line
  pub bound : IfErr (told line r) (λ f. f.byte ≤ 241)
  -- the words are the rest of the line behind its mark, cut wherever a space stands
  pub words : SplitAtSpaces line (words_of line)
