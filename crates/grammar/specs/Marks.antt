-- The marks of lines. Assumes nothing.
use Rattle.std.specs.Prelude.{◌≡◌, ℕ, cond, List, Some, None, Option, Result, MatchResult, ◌==◌, slice_index}
use Rattle.grammar.specs.declared.marks.Kind.{Kind}
use Rattle.grammar.specs.declared.marks.Kind.TheVariants.{Equation, Fault, Offer, Comment}
use Rattle.grammar.specs.declared.marks.NotAMark.{NotAMark}

-- E, F, S and C
abbrev pub mark : Kind → ℕ
mark Equation = 69
mark Fault = 70
mark Offer = 83
mark Comment = 67

abbrev pub kind_of : ℕ → Option Kind
kind_of c =
    cond (c == mark Equation) (Some Equation)
    (cond (c == mark Fault) (Some Fault)
    (cond (c == mark Offer) (Some Offer)
    (cond (c == mark Comment) (Some Comment) None)))

-- the kind that has the character for its mark, or an error that tells the character, where no kind has it
abbrev pub MarksKind : ℕ → Result Kind NotAMark → Type 0
MarksKind c r = MatchResult r (λ kind. kind_of c ≡ Some kind) (λ e. (kind_of c ≡ None) × (e.0 ≡ c))

-- the kind of a line by its mark: the character, then a colon
abbrev pub line_kind : List ℕ → Option Kind
line_kind line = cond (slice_index line 1 == 58) (kind_of (slice_index line 0)) None
