-- Additions to a source: what they do to what it stands for, and when they are refused. Assumes nothing.
use Rattle.std.specs.Prelude.{◌≡◌, ℕ, zero, suc, ◌+◌, ◌<◌, ◌≤◌, Bool, true, false, cond, ◌&&◌, ◌||◌, List, [], ◌∷◌, Some, None, Option, Result, MatchOption, MatchResult, ◌==◌, ◌≢◌, nat_le, nat_lt}
use Rattle.sets.specs.Counting.{how_many}
use Rattle.sets.specs.Members.{member_of}
use Rattle.source.specs.declared.changes.Change.{Change}
use Rattle.source.specs.declared.changes.Change.TheVariants.{Clear, AddUnknown, AddEquation}
use Rattle.source.specs.declared.faults.SourceFault.{SourceFault}
use Rattle.source.specs.declared.faults.SourceFault.TheVariants.{Limit, Room, NoSuchUnknown}
use Rattle.source.specs.Faults.{fault_number}
use Rattle.source.specs.Meaning.{Meaning, NextUnknown, pair_count}

-- no equations and no unknowns
abbrev pub vacant : Meaning
vacant = record { m = 0; n = 0; holds = λ _ _. false }

-- one unknown more, which no equation holds
abbrev pub with_column : Meaning → Meaning
with_column M = record { m = M.m; n = M.n + 1; holds = M.holds }

-- one equation more, which holds the unknowns of S
abbrev pub with_row : Meaning → (ℕ → Bool) → Meaning
with_row M S = record { m = M.m + 1; n = M.n; holds = λ i j. cond (i == M.m + 1) (S j) (M.holds i j) }

-- whether so many pairs more fit the room
abbrev pub has_room : ℕ → Meaning → ℕ → Bool
has_room room M more = nat_le (pair_count M + more) room

-- whether one of the numbers 1 to k is in S
unfoldable pub some_of : ℕ → (ℕ → Bool) → Bool
some_of zero S = false
some_of (suc k) S = S (suc k) || some_of k S

-- whether a number of S, up to 128, lies above n
unfoldable pub reaches_past : ℕ → (ℕ → Bool) → Bool
reaches_past n S = some_of 128 (λ j. S j && nat_lt n j)

-- When adding an unknown is refused.
abbrev pub unknown_refusal : Meaning → Option SourceFault
unknown_refusal M = cond (nat_le 128 M.n) (Some Limit) None

-- When adding an equation that holds S is refused.
abbrev pub row_refusal : ℕ → Meaning → (ℕ → Bool) → Option SourceFault
row_refusal room M S =
    cond (nat_le 112 M.m) (Some Limit) (cond (has_room room M (how_many 128 S)) (cond (reaches_past M.n S) (Some NoSuchUnknown) None) (Some Room))

-- The grounds against an equation that holds S, each by itself.
abbrev pub AgainstRow : ℕ → Meaning → (ℕ → Bool) → SourceFault → Type 0
AgainstRow room M S Limit = 112 ≤ M.m
AgainstRow room M S Room = room < pair_count M + how_many 128 S
AgainstRow room M S NoSuchUnknown = (j : ℕ) × (S j ≡ true) × (M.n < j)

-- The law of a refusal: none where no ground applies, else the applying one with the lowest number.
abbrev pub LowestGround : (SourceFault → Type 0) → Option SourceFault → Type 0
LowestGround Applies None = (f : SourceFault) → Applies f → ⊥
LowestGround Applies (Some f) = Applies f × ((h : SourceFault) → fault_number h < fault_number f → Applies h → ⊥)

-- an answer that says just what a rule says
abbrev pub Decided : Option SourceFault → Result (Unit {0}) SourceFault → Type 0
Decided rule r = MatchResult r (λ _. rule ≡ None) (λ f. rule ≡ Some f)

-- An addition by a rule: accepted where the rule has no fault, and then the source stands for what is given; else refused with that fault, and
-- the source stands for what it did.
abbrev pub AddsBy : Option SourceFault → Meaning → Meaning → Meaning → Result (Unit {0}) SourceFault → Type 0
AddsBy rule before added after r = MatchResult r (λ _. (rule ≡ None) × (after ≡ added)) (λ f. (rule ≡ Some f) × (after ≡ before))

-- what a refusal leaves
abbrev pub unless_refused : Option SourceFault → Meaning → Meaning → Meaning
unless_refused None before added = added
unless_refused (Some f) before added = before

-- what one change makes of a source with this room
abbrev pub changed : ℕ → Meaning → Change → Meaning
changed room M Clear = vacant
changed room M AddUnknown = unless_refused (unknown_refusal M) M (with_column M)
changed room M (AddEquation us) = unless_refused (row_refusal room M (member_of us.bits)) M (with_row M (member_of us.bits))

-- What a new unknown is: one number more, which no equation holds, and nothing else moves.
pub record NewUnknown (M N : Meaning) : Type 0 where
  pub equations : N.m ≡ M.m
  pub unknowns : N.n ≡ M.n + 1
  pub unheld : (i : ℕ) → N.holds i (M.n + 1) ≡ false
  pub others : (i j : ℕ) → (j ≢ M.n + 1) → N.holds i j ≡ M.holds i j

-- What a new equation that holds S is: one number more, which holds just S, and nothing else moves.
pub record NewEquation (M : Meaning) (S : ℕ → Bool) (N : Meaning) : Type 0 where
  pub equations : N.m ≡ M.m + 1
  pub unknowns : N.n ≡ M.n
  pub row : (j : ℕ) → N.holds (M.m + 1) j ≡ S j
  pub others : (i j : ℕ) → (i ≢ M.m + 1) → N.holds i j ≡ M.holds i j

-- What each change means, in words: N comes of M.
abbrev pub Comes : ℕ → Meaning → Change → Meaning → Type 0
Comes room M Clear N = (N.m ≡ 0) × (N.n ≡ 0) × ((i j : ℕ) → N.holds i j ≡ false)
Comes room M AddUnknown N = MatchOption (unknown_refusal M) (NewUnknown M N) (λ _. N ≡ M)
Comes room M (AddEquation us) N = MatchOption (row_refusal room M (member_of us.bits)) (NewEquation M (member_of us.bits) N) (λ _. N ≡ M)

-- when one change is refused
abbrev pub change_refusal : ℕ → Meaning → Change → Option SourceFault
change_refusal room M Clear = None
change_refusal room M AddUnknown = unknown_refusal M
change_refusal room M (AddEquation us) = row_refusal room M (member_of us.bits)

-- what a list of changes makes of it
abbrev pub after_changes : ℕ → Meaning → List Change → Meaning
after_changes room M [] = M
after_changes room M (c ∷ cs) = after_changes room (changed room M c) cs

-- What makes two sources answer every question alike: they stand for the same, and the one answer that is not an equation has one value only.
pub record AnswerAlike (M N : Meaning) : Type 0 where
  pub same : M ≡ N
  pub next : (i j : ℕ) (r s : Option ℕ) → NextUnknown M i j r → NextUnknown N i j s → r ≡ s
