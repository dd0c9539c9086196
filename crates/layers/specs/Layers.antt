-- What the layers over a source stand for. Assumes nothing.
use Rattle.std.specs.Prelude.{◌≡◌, ℕ, ◌+◌, ◌-◌, min, Bool, cond, ◌&&◌, ◌||◌, List, [], ◌∷◌, ◌++◌, length, Some, None, Option, Result, MatchResult, ◌==◌, nat_le, nat_lt, slice_index}
use Rattle.sets.specs.Counting.{one_of}
use Rattle.source.specs.declared.faults.SourceFault.{SourceFault}
use Rattle.source.specs.declared.faults.SourceFault.TheVariants.{Limit, NoSuchUnknown}
use Rattle.layers.specs.declared.sensors.Sensors.{Sensors}
use Rattle.layers.specs.declared.transposed.Transposed.{Transposed}
use Rattle.source.specs.Growth.{with_row}
use Rattle.source.specs.Meaning.{Meaning}

-- Sensors on the unknowns xs, one behind the other, follow the equations; what would lie past equation 128 does not count, and a sensor
-- on a number that is no unknown holds nothing.
abbrev pub with_sensors : Meaning → List ℕ → Meaning
with_sensors M xs =
    record {
      m = min 128 (M.m + length xs);
      n = M.n;
      holds = λ i j. cond (nat_le i M.m) (M.holds i j) (nat_le i 128 && (one_of M.n j && j == slice_index xs (i - M.m - 1)));
    }

-- the unknowns that a layer's sensors stand on
abbrev pub sensors_of : {S : Type 0} → Sensors S → List ℕ
sensors_of s = s.on.items

-- the unknown that equation i behind those of M holds by its sensor, if it holds one
abbrev pub sensed : Meaning → List ℕ → ℕ → Option ℕ
sensed M xs i =
    let x = slice_index xs (i - M.m - 1) in cond (nat_lt M.m i && (with_sensors M xs).holds i x) (Some x) None

-- what a sensor layer stands for, by what the source below does
abbrev pub sensors_mean : {S : Type 0} → (S → Meaning) → Sensors S → Meaning
sensors_mean means s = with_sensors (means s.below) (sensors_of s)

-- When a sensor on x is refused by a layer that has k sensors and stands for M.
abbrev pub sensor_refusal : ℕ → Meaning → ℕ → Option SourceFault
sensor_refusal k M x = cond (nat_le 16 k || nat_le 128 M.m) (Some Limit) (cond (one_of M.n x) None (Some NoSuchUnknown))

-- the set of one number
abbrev pub only : ℕ → ℕ → Bool
only x j = j == x

-- What adding a sensor on x does: accepted by the rule, the layer stands for one equation more, which holds just x; refused, all is as it was.
abbrev pub AddsSensor : {S : Type 0} → (S → Meaning) → Sensors S → ℕ → Sensors S → Result (Unit {0}) SourceFault → Type 0
AddsSensor means before x after r =
    MatchResult r
    (λ _. (sensor_refusal (length (sensors_of before)) (sensors_mean means before) x ≡ None)
    × ((sensors_mean means after ≡ with_row (sensors_mean means before) (only x)) × ((sensors_of after ≡ sensors_of before ++ x ∷ []) × (after.below ≡ before.below))))
    (λ f. (sensor_refusal (length (sensors_of before)) (sensors_mean means before) x ≡ Some f) × (after ≡ before))

-- equations and unknowns exchanged
abbrev pub transpose_of : Meaning → Meaning
transpose_of M = record { m = M.n; n = M.m; holds = λ i j. M.holds j i }

-- what a transposing layer stands for, by what the source below does
abbrev pub transposed_mean : {S : Type 0} → (S → Meaning) → Transposed S → Meaning
transposed_mean means t = transpose_of (means t.below)
