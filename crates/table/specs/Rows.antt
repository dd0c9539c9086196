-- What the table stands for. Assumes nothing.
use Rattle.std.specs.Prelude.{ℕ, ◌-◌, Bool, false, [], length, slice_index_or}
use Rattle.std.proofs.Common.{arith}
use Rattle.source.specs.Meaning.{Meaning, WithinLimits, clipped, clipped_bounded}
use Rattle.table.specs.declared.kept.Table.{Table}

-- the flag of equation i for unknown j
abbrev pub flag : Table → ℕ → ℕ → Bool
flag t i j = slice_index_or (slice_index_or t.rows (i - 1) []) (j - 1) false

abbrev pub table_means : Table → Meaning
table_means t = clipped (length t.rows) t.unknowns (flag t)

pub table_bounded : (t : Table) → WithinLimits (table_means t)
table_bounded t = clipped_bounded (length t.rows) t.unknowns (flag t) (omega (arith, t.few.0)) t.few.1
