-- What an answer has to be, from what a source stands for. Assumes nothing.
use Rattle.std.proofs.Common.{◌≡◌, ℕ, suc, ◌+◌, ◌<◌, ◌≤◌, true, false, Option, Some, None, MatchOption, refl, ⊎_elim, arith}
use Rattle.std.proofs.lemmas.Bool.{cases_Bool, cases_lt}
use Rattle.std.proofs.lemmas.Bool.Decides.{nat_tests}
use Rattle.sets.specs.Members.{Lowest}
use Rattle.source.specs.Meaning.{Meaning, WithinLimits, numbered, NextUnknown}

-- what stands for the same number of equations and of unknowns and the same pairs is the same
pub same_meaning : (M N : Meaning) → M.m ≡ N.m → M.n ≡ N.n → ((i j : ℕ) → M.holds i j ≡ N.holds i j) → M ≡ N
same_meaning M N p q h = λ t. record { m = p t; n = q t; holds = λ i j. h i j t }

-- past the last unknown nothing is held
pub none_past : (M : Meaning) → WithinLimits M → (i k : ℕ) → M.n < k → M.holds i k ≡ false
none_past M b i k h =
    ⊎_elim
    (λ (e : M.holds i k ≡ true). let w = b.within i k e in grind (arith, nat_tests))
    (λ (e : M.holds i k ≡ false). e)
    (cases_Bool (M.holds i k))

pub next_found : (M : Meaning) → WithinLimits M → (i j x : ℕ) → 1 ≤ j → Lowest (M.holds i) j x → NextUnknown M i j (Some x)
next_found M b i j x p l =
    let w = b.within i x l.in_it in
    let f = l.from in
    record { outside = λ h. absurd (grind (arith, nat_tests)); lowest = λ _. l }

pub next_none : (M : Meaning) → WithinLimits M → (i j : ℕ) → ((k : ℕ) → j ≤ k → k ≤ M.n → M.holds i k ≡ false) → NextUnknown M i j None
next_none M b i j h =
    record {
      outside = λ _. refl;
      lowest = λ _ k l. ⊎_elim (λ (s : k < suc M.n). h k l (omega arith)) (λ (s : suc M.n ≤ k). none_past M b i k (omega arith)) (cases_lt k (suc M.n));
    }

-- an unknown that comes next is one of the source's
pub next_few : (M : Meaning) → WithinLimits M → (i j x : ℕ) → NextUnknown M i j (Some x) → x ≤ 128
next_few M b i j x h =
    ⊎_elim
    (λ (e : numbered M i j ≡ true). let w = b.within i x (h.lowest e).in_it in let f = b.few_unknowns in grind (arith, nat_tests))
    (λ (e : numbered M i j ≡ false). let z : ◌≡◌ {A = ℕ} 0 1 = cc (h.outside e) in absurd (omega arith))
    (cases_Bool (numbered M i j))

-- what a search from j up to the last unknown finds is what comes next
pub next_by_search : (M : Meaning) → WithinLimits M → (i j e : ℕ) (r : Option ℕ) → 1 ≤ j → e ≡ M.n + 1
    → MatchOption r ((k : ℕ) → j ≤ k → k < e → M.holds i k ≡ false) (λ x. (j ≤ x) × (x < e) × (M.holds i x ≡ true) × ((k : ℕ) → j ≤ k → k < x → M.holds i k ≡ false))
    → NextUnknown M i j r
next_by_search M b i j e None p q h = next_none M b i j (λ k l m. h k l (omega arith))
next_by_search M b i j e (Some x) p q h = next_found M b i j x p (record { from = h.0; in_it = h.2; none_before = h.3 })
