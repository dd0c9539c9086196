-- The grounds for a refusal: their numbers, and the order in which they are checked. Assumes nothing.
use Rattle.std.specs.Prelude.{◌≡◌, ℕ, ◌≤◌, List, [], ◌∷◌, ◌++◌, Some, None, Option}
use Rattle.std.specs.List.{AllByRecursion}
use Rattle.grammar.specs.declared.grounds.Ground.{Ground}
use Rattle.grammar.specs.declared.grounds.Ground.TheVariants.{TextTooLong, LineTooLong, ByteOutside, NoMark, NotAName, WordCount, NameTaken, NotFound, ModelFull, SourceFull, NoSuchNumber, NoSuchGoal, OfferNotOpen, PageTooShort, AreaTooShort, GoalNotMet}
use Rattle.grammar.specs.declared.grounds.LineFault.{LineFault}

-- the number that a user is shown
abbrev pub ground_number : Ground → ℕ
ground_number TextTooLong = 1
ground_number LineTooLong = 2
ground_number ByteOutside = 3
ground_number NoMark = 4
ground_number NotAName = 5
ground_number WordCount = 6
ground_number NameTaken = 7
ground_number NotFound = 8
ground_number ModelFull = 9
ground_number SourceFull = 10
ground_number NoSuchNumber = 11
ground_number NoSuchGoal = 12
ground_number OfferNotOpen = 13
ground_number PageTooShort = 14
ground_number AreaTooShort = 15
ground_number GoalNotMet = 16

-- The order in which grounds are checked: the first of them that applies is the one reported.
abbrev pub checking_order : List Ground
checking_order = TextTooLong ∷ LineTooLong ∷ ByteOutside ∷ NoMark ∷ NotAName ∷ WordCount ∷ NameTaken ∷ NotFound ∷ ModelFull ∷ SourceFull ∷ NoSuchNumber ∷ NoSuchGoal ∷ OfferNotOpen ∷ PageTooShort ∷ AreaTooShort ∷ GoalNotMet ∷ []

abbrev pub fault : Ground → ℕ → LineFault
fault g k = record { reason = g; byte = k }

-- the fault of a ground that stands at a place, if it stands, else what comes after
abbrev pub else_after : Ground → Option ℕ → Option LineFault → Option LineFault
else_after g (Some k) later = Some (fault g k)
else_after g None later = later

-- the first ground in the order that stands, where `stands` tells each one's place
abbrev pub first_fault : (Ground → Option ℕ) → List Ground → Option LineFault
first_fault stands [] = None
first_fault stands (g ∷ gs) = else_after g (stands g) (first_fault stands gs)

-- The law of an order of grounds, where `Stands g k` says that ground g stands at byte k: the fault's ground stands at its
-- byte and at none before it, and no ground stands that is checked earlier.
pub record FirstInOrder (Applies : Ground → ℕ → Type 0) (order : List Ground) (f : LineFault) : Type 0 where
  pub earlier : List Ground
  pub later : List Ground
  pub whole : order ≡ earlier ++ f.reason ∷ later
  pub quiet : AllByRecursion (λ g. (k : ℕ) → Applies g k → ⊥) earlier
  pub stands : Applies f.reason f.byte
  pub leftmost : (k : ℕ) → Applies f.reason k → f.byte ≤ k
