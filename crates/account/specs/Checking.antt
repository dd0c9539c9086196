-- What checking a text line by line answers. Assumes nothing.
use Rattle.std.specs.Prelude.{◌≡◌, ℕ, ◌+◌, ◌<◌, ◌≤◌, true, cond, ◌⊎◌, List, [], ◌∷◌, ◌++◌, length, is_ok, Some, None, Ok, Err, Option, Result, MatchResult, ◌==◌, nat_le}
use Rattle.std.specs.List.{AllByRecursion, count_by}
use Rattle.grammar.specs.declared.grounds.Ground.TheVariants.{TextTooLong}
use Rattle.grammar.specs.declared.grounds.LineFault.{LineFault}
use Rattle.grammar.specs.declared.grounds.Refusal.{Refusal}
use Rattle.grammar.specs.declared.marks.Kind.{Kind}
use Rattle.grammar.specs.declared.marks.Kind.TheVariants.{Equation, Fault, Offer, Comment}
use Rattle.grammar.specs.Marks.{mark, line_kind}
use Rattle.grammar.specs.Reading.{Entry, line_reading}
use Rattle.grammar.specs.Texts.{text_lines}
use Rattle.account.specs.declared.accounts.Account.{Account}

-- the character of a line's mark, 0 where it has none
abbrev pub mark_by : Option Kind → ℕ
mark_by None = 0
mark_by (Some kind) = mark kind

-- how many lines have the mark
abbrev pub marked : ℕ → List (List ℕ) → ℕ
marked c ls = count_by (λ l. mark_by (line_kind l) == c) ls

abbrev pub counts : List (List ℕ) → Account
counts ls = record {
  equations = marked (mark Equation) ls;
  faults = marked (mark Fault) ls;
  offers = marked (mark Offer) ls;
  comments = marked (mark Comment) ls;
  empty = marked 0 ls;
}

abbrev pub in_line : ℕ → LineFault → Refusal
in_line n f = record { reason = f.reason; line = n; byte = f.byte }

abbrev pub or_refused : ℕ → Result (Option Entry) LineFault → Option Refusal → Option Refusal
or_refused n (Ok o) later = later
or_refused n (Err f) later = Some (in_line n f)

-- the first line that cannot be read; the first of the lines has the number n
abbrev pub first_refused : ℕ → List (List ℕ) → Option Refusal
first_refused n [] = None
first_refused n (l ∷ ls) = or_refused n (line_reading l) (first_refused (n + 1) ls)

abbrev pub account_or : Option Refusal → List (List ℕ) → Result Account Refusal
account_or None ls = Ok (counts ls)
account_or (Some r) ls = Err r

abbrev pub account : List ℕ → Result Account Refusal
account text = cond (nat_le (length text) 32768) (account_or (first_refused 1 (text_lines text)) (text_lines text)) (Err (record { reason = TextTooLong; line = 0; byte = 0 }))

-- line number n of the text is refused, and each line before it reads
pub record FirstRefused (ls : List (List ℕ)) (r : Refusal) : Type 0 where
  pub before : List (List ℕ)
  pub bad : List ℕ
  pub after : List (List ℕ)
  pub fault : LineFault
  pub whole : ls ≡ before ++ bad ∷ after
  pub read : AllByRecursion (λ l. is_ok (line_reading l) ≡ true) before
  pub refused : line_reading bad ≡ Err fault
  pub shown : r ≡ in_line (length before + 1) fault

-- The law of checking: every line reads and is counted; or the text is too long; or its first line that cannot be read is reported.
abbrev pub CheckedText : List ℕ → Result Account Refusal → Type 0
CheckedText text r =
    MatchResult r
    (λ a. (length text ≤ 32768) × AllByRecursion (λ l. is_ok (line_reading l) ≡ true) (text_lines text) × (a ≡ counts (text_lines text)))
    (λ e. ((32768 < length text) × (e ≡ record { reason = TextTooLong; line = 0; byte = 0 })) ⊎ ((length text ≤ 32768) × FirstRefused (text_lines text) e))
