-- What reading a line answers. Assumes nothing.
use Rattle.std.specs.Prelude.{ℕ, ◌+◌, Bool, true, false, cond, ◌&&◌, List, [], ◌∷◌, length, is_some, Some, None, Ok, Err, Option, Result, ◌==◌, nat_le, nat_lt}
use Rattle.std.specs.Option.{option_map}
use Rattle.grammar.specs.declared.grounds.Ground.{Ground}
use Rattle.grammar.specs.declared.grounds.Ground.TheVariants.{TextTooLong, LineTooLong, ByteOutside, NoMark, NotAName, WordCount, NameTaken, NotFound, ModelFull, SourceFull, NoSuchNumber, NoSuchGoal, OfferNotOpen, PageTooShort, AreaTooShort, GoalNotMet}
use Rattle.grammar.specs.declared.grounds.LineFault.{LineFault}
use Rattle.grammar.specs.declared.marks.Kind.{Kind}
use Rattle.grammar.specs.declared.marks.Kind.TheVariants.{Equation, Fault, Offer, Comment}
use Rattle.grammar.specs.Marks.{line_kind}
use Rattle.grammar.specs.Refusals.{checking_order, first_fault}
use Rattle.grammar.specs.Words.{Word, words_of, odd_name}

abbrev pub is_plain : ℕ → Bool
is_plain b = nat_le 32 b && nat_le b 126

-- where the first byte stands that is outside 32 to 126; the first of the bytes has the number k
abbrev pub odd_byte : ℕ → List ℕ → Option ℕ
odd_byte k [] = None
odd_byte k (b ∷ bs) = cond (is_plain b) (odd_byte (k + 1) bs) (Some k)

-- a comment has no words
abbrev pub words_with : Kind → List ℕ → List Word
words_with Equation line = words_of line
words_with Fault line = words_of line
words_with Offer line = words_of line
words_with Comment line = []

abbrev pub words_by : Option Kind → List ℕ → List Word
words_by None line = []
words_by (Some kind) line = words_with kind line

abbrev pub line_words : List ℕ → List Word
line_words line = words_by (line_kind line) line

-- an equation takes a name and any number of unknowns, a fault its name and its equation's, an offer one unknown
abbrev pub takes : Kind → ℕ → Bool
takes Equation n = nat_lt 0 n
takes Fault n = n == 2
takes Offer n = n == 1
takes Comment n = true

abbrev pub takes_by : Option Kind → ℕ → Bool
takes_by None n = true
takes_by (Some kind) n = takes kind n

-- a ground without a byte of its own stands at byte 0
abbrev pub unless : Bool → Option ℕ
unless true = None
unless false = Some 0

-- Where each ground stands against a line, whatever the others say. Those that are not about one line alone stand nowhere.
abbrev pub stands : List ℕ → Ground → Option ℕ
stands line TextTooLong = None
stands line LineTooLong = unless (nat_le (length line) 240)
stands line ByteOutside = odd_byte 1 line
stands line NoMark = unless (cond (length line == 0) true (is_some (line_kind line)))
stands line NotAName = odd_name (line_words line)
stands line WordCount = unless (takes_by (line_kind line) (length (line_words line)))
stands line NameTaken = None
stands line NotFound = None
stands line ModelFull = None
stands line SourceFull = None
stands line NoSuchNumber = None
stands line NoSuchGoal = None
stands line OfferNotOpen = None
stands line PageTooShort = None
stands line AreaTooShort = None
stands line GoalNotMet = None

-- what an accepted line enters
pub record Entry : Type 0 where
  pub kind : Kind
  pub words : List Word

abbrev pub entry : List ℕ → Option Entry
entry line = option_map (λ kind. record { kind = kind; words = line_words line }) (line_kind line)

abbrev pub answer : {T : Type 0} → Option LineFault → T → Result T LineFault
answer (Some f) x = Err f
answer None x = Ok x

-- the first ground in the checking order that stands, or else what the line enters: nothing, where it is empty
unfoldable pub line_reading : List ℕ → Result (Option Entry) LineFault
line_reading line = answer (first_fault (stands line) checking_order) (entry line)
