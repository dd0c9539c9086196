-- An account line by line. Assumes nothing.
use Rattle.std.specs.Prelude.{◌≡◌, ℕ, ◌+◌, ◌<◌, cond, Option, ◌==◌}
use Rattle.std.specs.Option.{option_map}
use Rattle.grammar.specs.declared.marks.Kind.{Kind}
use Rattle.grammar.specs.declared.marks.Kind.TheVariants.{Equation, Fault, Offer, Comment}
use Rattle.grammar.specs.Marks.{mark}
use Rattle.line.specs.declared.records.Record.{Record}
use Rattle.account.specs.declared.accounts.Account.{Account}
use Rattle.account.specs.Checking.{mark_by}

abbrev pub kind_by : Option Record → Option Kind
kind_by o = option_map (λ r. r.kind) o

-- the account has f c lines of the mark c
pub record CountsLines (f : ℕ → ℕ) (a : Account) : Type 0 where
  pub equations : a.equations ≡ f (mark Equation)
  pub faults : a.faults ≡ f (mark Fault)
  pub offers : a.offers ≡ f (mark Offer)
  pub comments : a.comments ≡ f (mark Comment)
  pub empty : a.empty ≡ f 0

-- each count is below n
pub record FewerThan (n : ℕ) (a : Account) : Type 0 where
  pub equations : a.equations < n
  pub faults : a.faults < n
  pub offers : a.offers < n
  pub comments : a.comments < n
  pub empty : a.empty < n

-- one line more of the kind, and nothing else
abbrev pub Noted : Option Kind → Account → Account → Type 0
Noted o a b = (f : ℕ → ℕ) → CountsLines f a → CountsLines (λ c. f c + cond (mark_by o == c) 1 0) b
