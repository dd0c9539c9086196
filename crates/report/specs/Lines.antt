-- The report line of a refusal. Assumes nothing.
use Rattle.std.specs.Prelude.{◌≡◌, ℕ, ◌+◌, ◌<◌, ◌≤◌, List, [], ◌∷◌, ◌++◌, length, take, drop, decimal, Result, MatchResult}
use Rattle.grammar.specs.declared.grounds.Ground.TheVariants.{AreaTooShort}
use Rattle.grammar.specs.declared.grounds.Refusal.{Refusal}
use Rattle.grammar.specs.Refusals.{ground_number}

-- `X:`, the ground's number, the line and the byte, one space between each two, and byte 10
abbrev pub x_line : Refusal → List ℕ
x_line r = (88 ∷ 58 ∷ []) ++ (decimal (ground_number r.reason) ++ (32 ∷ (decimal r.line ++ (32 ∷ (decimal r.byte ++ (10 ∷ []))))))

-- the area with bytes put over those from an index on
abbrev pub overwritten : ℕ → List ℕ → List ℕ → List ℕ
overwritten at bs area = take at area ++ (bs ++ drop (at + length bs) area)

-- the bytes stand at the front of the area and the rest of it is as it was; or they do not fit, and all of it is
abbrev pub Fills : List ℕ → List ℕ → Result ℕ Refusal → List ℕ → Type 0
Fills bs before r after =
    MatchResult r
    (λ n. (n ≡ length bs) × (length bs ≤ length before) × (after ≡ bs ++ drop (length bs) before))
    (λ e. (e ≡ record { reason = AreaTooShort; line = 0; byte = 0 }) × (length before < length bs) × (after ≡ before))
