-- What the dense source stands for. Assumes nothing.
use Rattle.std.specs.Prelude.{ℕ, ◌-◌, Bool, length, slice_index_or}
use Rattle.std.proofs.Common.{arith}
use Rattle.sets.specs.Members.{member_of}
use Rattle.sets.specs.Empty.{no_unknown}
use Rattle.source.specs.Meaning.{Meaning, WithinLimits, clipped, clipped_bounded}
use Rattle.dense.specs.declared.rows.Dense.{Dense}

-- whether bit j - 1 is set in the row of equation i
abbrev pub in_row : Dense → ℕ → ℕ → Bool
in_row d i j = member_of (slice_index_or d.rows (i - 1) no_unknown).bits j

abbrev pub dense_means : Dense → Meaning
dense_means d = clipped (length d.rows) d.unknowns (in_row d)

pub dense_bounded : (d : Dense) → WithinLimits (dense_means d)
dense_bounded d = clipped_bounded (length d.rows) d.unknowns (in_row d) (omega (arith, d.few.0)) d.few.1
