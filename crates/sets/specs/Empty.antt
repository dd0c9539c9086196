-- Sets of unknowns in lists. Assumes nothing.
use Rattle.sets.specs.declared.numbers.Numbers.{Numbers}
use Rattle.sets.specs.declared.numbers.Unknown.{Unknown}

abbrev pub UnknownSet : Type 0
UnknownSet = Numbers Unknown

-- the set that stands past the end of a list of sets
abbrev pub no_unknown : UnknownSet
no_unknown = record { bits = 0; kind = record {} }
