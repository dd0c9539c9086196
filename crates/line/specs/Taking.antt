-- What a call that takes one word of a line answers. Assumes nothing.
use Rattle.std.specs.Prelude.{◌≡◌, ℕ, ◌+◌, ◌<◌, ◌≤◌, true, List, [], ◌∷◌, length, Some, Option, Result, MatchOption, MatchResult}
use Rattle.std.specs.List.{between}
use Rattle.grammar.specs.declared.grounds.Ground.TheVariants.{NotAName}
use Rattle.grammar.specs.declared.grounds.LineFault.{LineFault}
use Rattle.grammar.specs.Refusals.{fault}
use Rattle.grammar.specs.Words.{word, words_from, obeys_name_rule, odd_name}

-- from p.0 to p.1 stands the first of the words from an index on
pub record FirstWord (line : List ℕ) (from : ℕ) (p : ℕ × ℕ) : Type 0 where
  pub starts : p.0 ≡ from
  pub forward : p.0 ≤ p.1
  pub within : p.1 ≤ length line
  pub first : words_from line from ≡ word (from + 1) (between from p.1 line) ∷ words_from line (p.1 + 1)

-- the first word from an index on, if there is one and it is a name
pub record NamedWord (line : List ℕ) (from : ℕ) (p : ℕ × ℕ) : Type 0 where
  pub stands : FirstWord line from p
  pub named : obeys_name_rule (between from p.1 line) ≡ true

abbrev pub NextWord : List ℕ → ℕ → Result (Option (ℕ × ℕ)) LineFault → Type 0
NextWord line from r =
    MatchResult r
    (λ o. MatchOption o (length line < from) (NamedWord line from))
    (λ f. (f ≡ fault NotAName (from + 1)) × (odd_name (words_from line from) ≡ Some (from + 1)))

-- one word more is taken, or refused
abbrev pub WordStep : List ℕ → ℕ → Option (Result (ℕ × ℕ) LineFault) → List ℕ → ℕ → Type 0
WordStep line from r after next =
    (after ≡ line) ×
    MatchOption r (words_from line from ≡ [])
    (λ w. MatchResult w (λ p. NamedWord line from p × (next ≡ p.1 + 1)) (λ f. (f ≡ fault NotAName f.byte) × (odd_name (words_from line from) ≡ Some f.byte)))
