-- Layers keep to the bounds of a source. Assumes nothing.
use Rattle.std.specs.Prelude.{◌≡◌, ℕ, ◌+◌, ◌-◌, ◌<◌, ◌≤◌, min, Bool, true, false, cond, ◌&&◌, List, length, ◌==◌, nat_le, slice_index, refl}
use Rattle.std.proofs.Common.{⊎_elim, arith}
use Rattle.std.proofs.lemmas.List.{get_or_past}
use Rattle.std.proofs.lemmas.Bool.{and_parts, and_from, leb-true, leb-false, le-leb, eqb-true, cases_lt}
use Rattle.sets.specs.Counting.{one_of}
use Rattle.layers.specs.Layers.{with_sensors, transpose_of}
use Rattle.source.specs.Meaning.{Meaning, WithinLimits, numbered}

pub transposed_bounded : (M : Meaning) → WithinLimits M → WithinLimits (transpose_of M)
transposed_bounded M b =
    record {
      few_equations = b.few_unknowns;
      few_unknowns = b.few_equations;
      within = λ i j h. let w = and_parts (one_of M.m j) (one_of M.n i) (b.within j i h) in and_from (one_of M.n i) (one_of M.m j) w.1 w.0;
    }

one_of_from : (k i : ℕ) → 1 ≤ i → i ≤ k → one_of k i ≡ true
one_of_from k i a b = and_from (nat_le 1 i) (nat_le i k) (le-leb 1 i a) (le-leb i k b)

low : (k i : ℕ) → one_of k i ≡ true → 1 ≤ i
low k i h = leb-true 1 i (and_parts (nat_le 1 i) (nat_le i k) h).0

high : (k i : ℕ) → one_of k i ≡ true → i ≤ k
high k i h = leb-true i k (and_parts (nat_le 1 i) (nat_le i k) h).1

-- a sensor's number is at most that of the last one
sensor_within : (a i j : ℕ) (xs : List ℕ) → 1 ≤ j → a < i → j ≡ slice_index xs (i - a - 1) → i ≤ a + length xs
sensor_within a i j xs p h e =
    ⊎_elim
    (λ (l : i < a + length xs + 1). omega arith)
    (λ (l : a + length xs + 1 ≤ i). absurd (omega (arith, get_or_past xs (i - a - 1) 0 (omega arith))))
    (cases_lt i (a + length xs + 1))

sensors_within : (M : Meaning) → WithinLimits M → (xs : List ℕ) (i j : ℕ) (t : Bool) → nat_le i M.m ≡ t
    → cond t (M.holds i j) (nat_le i 128 && (one_of M.n j && j == slice_index xs (i - M.m - 1))) ≡ true
    → numbered (with_sensors M xs) i j ≡ true
sensors_within M b xs i j true e h =
    let w = and_parts (one_of M.m i) (one_of M.n j) (b.within i j h) in
    let l = b.few_equations in
    and_from (one_of (min 128 (M.m + length xs)) i) (one_of M.n j)
    (one_of_from (min 128 (M.m + length xs)) i (low M.m i w.0) (omega (arith, high M.m i w.0))) w.1
sensors_within M b xs i j false e h =
    let w = and_parts (nat_le i 128) (one_of M.n j && j == slice_index xs (i - M.m - 1)) h in
    let v = and_parts (one_of M.n j) (j == slice_index xs (i - M.m - 1)) w.1 in
    let p : M.m < i = leb-false i M.m e in
    let l = sensor_within M.m i j xs (low M.n j v.0) p (eqb-true j (slice_index xs (i - M.m - 1)) v.1) in
    and_from (one_of (min 128 (M.m + length xs)) i) (one_of M.n j)
    (one_of_from (min 128 (M.m + length xs)) i (omega arith) (omega (arith, leb-true i 128 w.0))) v.0

pub sensors_bounded : (M : Meaning) → WithinLimits M → (xs : List ℕ) → WithinLimits (with_sensors M xs)
sensors_bounded M b xs =
    record {
      few_equations = omega arith;
      few_unknowns = b.few_unknowns;
      within = λ i j h. sensors_within M b xs i j (nat_le i M.m) refl h;
    }
