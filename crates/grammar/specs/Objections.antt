-- The rules of a line in words: when each ground stands, by itself, and what an accepted line is. Assumes nothing.
use Rattle.std.specs.Prelude.{◌≡◌, ℕ, ◌+◌, ◌-◌, ◌<◌, ◌≤◌, ◌≢◌, ◌⊎◌, List, [], ◌∷◌, ◌++◌, map, length, drop, Option, Result, MatchOption, MatchResult, slice_index, slice_index_or}
use Rattle.std.specs.List.{between, AllByRecursion}
use Rattle.grammar.specs.declared.grounds.Ground.{Ground}
use Rattle.grammar.specs.declared.grounds.Ground.TheVariants.{TextTooLong, LineTooLong, ByteOutside, NoMark, NotAName, WordCount, NameTaken, NotFound, ModelFull, SourceFull, NoSuchNumber, NoSuchGoal, OfferNotOpen, PageTooShort, AreaTooShort, GoalNotMet}
use Rattle.grammar.specs.declared.grounds.LineFault.{LineFault}
use Rattle.grammar.specs.declared.marks.Kind.{Kind}
use Rattle.grammar.specs.declared.marks.Kind.TheVariants.{Equation, Fault, Offer, Comment}
use Rattle.grammar.specs.Marks.{mark}
use Rattle.grammar.specs.Reading.{Entry}
use Rattle.grammar.specs.Refusals.{checking_order, FirstInOrder}
use Rattle.grammar.specs.Words.{Word, words_of}

abbrev pub Letter : ℕ → Type 0
Letter b = ((97 ≤ b) × (b ≤ 122)) ⊎ ((65 ≤ b) × (b ≤ 90))

abbrev pub NameByte : ℕ → Type 0
NameByte b = Letter b ⊎ (((48 ≤ b) × (b ≤ 57)) ⊎ (b ≡ 95))

-- a letter in front, then at most seven further name bytes
pub record Name (w : List ℕ) : Type 0 where
  pub first : ℕ
  pub rest : List ℕ
  pub whole : w ≡ first ∷ rest
  pub letter : Letter first
  pub short : length rest ≤ 7
  pub others : AllByRecursion NameByte rest

-- the line begins with the character of a kind and a colon
abbrev pub Marked : List ℕ → Kind → Type 0
Marked line kind = (rest : List ℕ) × (line ≡ mark kind ∷ (58 ∷ rest))

-- the line has a mark whose lines are split into words
abbrev pub HasWords : List ℕ → Type 0
HasWords line = Marked line Equation ⊎ (Marked line Fault ⊎ Marked line Offer)

abbrev pub OneOfWords : Word → List Word → Type 0
OneOfWords w ws = (i : ℕ) × (i < length ws) × (slice_index_or ws i w ≡ w)

-- the line has a byte, and none of the marks in front
abbrev pub Unmarked : List ℕ → Type 0
Unmarked line = (0 < length line) × ((kind : Kind) → Marked line kind → ⊥)

-- the mark's lines have another number of words
abbrev pub Miscounted : List ℕ → Type 0
Miscounted line =
    (Marked line Equation × (length (words_of line) ≡ 0)) ⊎
    ((Marked line Fault × (length (words_of line) ≢ 2)) ⊎ (Marked line Offer × (length (words_of line) ≢ 1)))

-- a word of the list that begins at a byte is no name
abbrev pub OddName : List Word → ℕ → Type 0
OddName ws k = (w : Word) × OneOfWords w ws × (w.start ≡ k) × (Name w.bytes → ⊥)

-- a ground stands against a line at a byte, or at 0 where no byte is at fault
abbrev pub Applies : List ℕ → Ground → ℕ → Type 0
Applies line TextTooLong k = ⊥
Applies line LineTooLong k = (240 < length line) × (k ≡ 0)
Applies line ByteOutside k = (i : ℕ) × (k ≡ i + 1) × (i < length line) × ((slice_index line i < 32) ⊎ (126 < slice_index line i))
Applies line NoMark k = Unmarked line × (k ≡ 0)
Applies line NotAName k = HasWords line × OddName (words_of line) k
Applies line WordCount k = Miscounted line × (k ≡ 0)
Applies line NameTaken k = ⊥
Applies line NotFound k = ⊥
Applies line ModelFull k = ⊥
Applies line SourceFull k = ⊥
Applies line NoSuchNumber k = ⊥
Applies line NoSuchGoal k = ⊥
Applies line OfferNotOpen k = ⊥
Applies line PageTooShort k = ⊥
Applies line AreaTooShort k = ⊥
Applies line GoalNotMet k = ⊥

-- the pieces, one space between each two
abbrev pub spaced : List (List ℕ) → List ℕ
spaced [] = []
spaced (p ∷ []) = p
spaced (p ∷ (q ∷ ps)) = p ++ 32 ∷ spaced (q ∷ ps)

-- the line behind its mark, cut wherever a space stands
pub record SplitAtSpaces (line : List ℕ) (ws : List Word) : Type 0 where
  pub joined : spaced (map (λ w. w.bytes) ws) ≡ drop 2 line
  pub spaceless : AllByRecursion (λ w. AllByRecursion (λ b. b ≢ 32) w.bytes) ws
  pub none : (ws ≡ [] → drop 2 line ≡ []) × (drop 2 line ≡ [] → ws ≡ [])
  pub places : AllByRecursion (λ w. (3 ≤ w.start) × (between (w.start - 1) (w.start - 1 + length w.bytes) line ≡ w.bytes)) ws

-- An empty line enters nothing. Any other has the kind of its mark; its words are those after the mark, all of them names,
-- and a comment has none.
abbrev pub Enters : List ℕ → Option Entry → Type 0
Enters line o =
    MatchOption o (line ≡ [])
    (λ e. Marked line e.kind × (HasWords line → e.words ≡ words_of line) × (Marked line Comment → e.words ≡ []) × AllByRecursion (λ w. Name w.bytes) e.words)

-- A line is accepted where no ground stands, and refused on the first that stands.
abbrev pub ByGrounds : List ℕ → Result (Option Entry) LineFault → Type 0
ByGrounds line r = MatchResult r (λ o. ((g : Ground) (k : ℕ) → Applies line g k → ⊥) × Enters line o) (FirstInOrder (Applies line) checking_order)
