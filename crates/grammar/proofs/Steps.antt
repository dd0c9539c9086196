-- Reading a line, ground by ground. Assumes nothing.
use Rattle.std.proofs.Common.{◌≡◌, ℕ, List, length, Some, None, Ok, Err}
use Rattle.std.proofs.lemmas.List.{nil_from_length}
use Rattle.grammar.specs.declared.grounds.Ground.TheVariants.{LineTooLong, ByteOutside, NoMark, NotAName, WordCount}
use Rattle.grammar.specs.declared.marks.Kind.{Kind}
use Rattle.grammar.specs.Marks.{line_kind}
use Rattle.grammar.specs.Reading.{stands, line_words, line_reading}
use Rattle.grammar.specs.Refusals.{fault}
use Rattle.grammar.specs.Words.{Word}

-- ---- what the checks so far say of the whole

pub long_reads : (line : List ℕ) (k : ℕ) → stands line LineTooLong ≡ Some k → Err (fault LineTooLong k) ≡ line_reading line
unfolding line_reading
long_reads line k h = rw h

pub odd_reads : (line : List ℕ) (k : ℕ) → stands line LineTooLong ≡ None → stands line ByteOutside ≡ Some k → Err (fault ByteOutside k) ≡ line_reading line
unfolding line_reading
odd_reads line k short h = rw (short, h)

module _ (line : List ℕ) (short : stands line LineTooLong ≡ None) (plain : stands line ByteOutside ≡ None) where
  pub empty_reads : length line ≡ 0 → Ok None ≡ line_reading line
  unfolding line_reading
  empty_reads e = let n = nil_from_length line e in rw n

  pub unmarked_reads : (k : ℕ) → stands line NoMark ≡ Some k → Err (fault NoMark k) ≡ line_reading line
  unfolding line_reading
  unmarked_reads k h = rw (short, plain, h)

  pub unnamed_reads : (k : ℕ) → stands line NoMark ≡ None → stands line NotAName ≡ Some k → Err (fault NotAName k) ≡ line_reading line
  unfolding line_reading
  unnamed_reads k m h = rw (short, plain, m, h)

  pub miscounted_reads : (k : ℕ) → stands line NoMark ≡ None → stands line NotAName ≡ None → stands line WordCount ≡ Some k → Err (fault WordCount k) ≡ line_reading line
  unfolding line_reading
  miscounted_reads k m n h = rw (short, plain, m, n, h)

  pub accepted_reads : (kind : Kind) (ws : List Word) → ws ≡ line_words line → line_kind line ≡ Some kind → stands line NoMark ≡ None → stands line NotAName ≡ None → stands line WordCount ≡ None →
      Ok (Some (record { kind = kind; words = ws })) ≡ line_reading line
  unfolding line_reading
  accepted_reads kind ws e k m n h = rw (e, short, plain, m, n, h, k)
