use Rattle.std.proofs.Common.{◌≡◌, ℕ, ◌+◌, ◌*◌, ◌≤◌, List, ◌++◌}
use Rattle.line.specs.declared.places.Places.{Places}
use Rattle.line.specs.declared.words.Words.{Words}
use Rattle.line.specs.Records.{words_in}
use Rattle.grammar.specs.Words.{words_from, words_of, odd_name}
use Rattle.line.proofs.marked.MarkedLine.named_words.Given as goal

-- the places are of the words so far, all of them names, and the others are left
pub record Walked (line : List ℕ) (left : Words) (places : Places) : Type 0 where
  pub same : left.marked.line.now ≡ line
  pub far : 2 + 2 * places.len ≤ left.from
  pub words : words_in line places ++ words_from line left.from ≡ words_of line
  pub named : odd_name (words_from line left.from) ≡ odd_name (words_of line)

abbrev pub invariant-loop-word : goal.invariant-loop-word
invariant-loop-word l = (goal.iterator-loop-word).is_finite l.word-iterator × Walked l.self.line.now l.word-iterator l.places
