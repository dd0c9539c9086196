-- One row more behind the others. Assumes nothing.
use Rattle.std.proofs.Common.{◌≡◌, ℕ, ◌+◌, ◌-◌, ◌<◌, Bool, true, false, None, List, [], ◌∷◌, ◌++◌, length, get_or, sym, ap, ◌∙◌, arith}
use Rattle.std.proofs.lemmas.Bool.Decides.{nat_tests}
use Rattle.sets.specs.Members.{member_of}
use Rattle.source.specs.Growth.{with_row, row_refusal}
use Rattle.source.specs.Meaning.{clipped}
use Rattle.source.proofs.Clipping.{clip_appended, rows_kept}
use Rattle.source.proofs.Rules.{accepted}
use Rattle.table.specs.declared.kept.Table.{Table}
use Rattle.table.specs.Rows.{table_means}

module _ (t : Table) (bits : ℕ) (row : List Bool) (rows : List (List Bool)) (rule : row_refusal 1024 (table_means t) (member_of bits) ≡ None)
    (more : length t.rows < 112 → rows ≡ t.rows ++ row ∷ []) (flags : (k : ℕ) → get_or row k false ≡ member_of bits (k + 1)) where
  -- one row more is one equation more
  pub row_added : clipped (length rows) t.unknowns (λ i j. get_or (get_or rows (i - 1) []) (j - 1) false) ≡ with_row (table_means t) (member_of bits)
  row_added =
      let a = accepted 1024 (table_means t) bits rule in
      rw (more a.few)
      (clip_appended (λ (r : List Bool) (j : ℕ). get_or r (j - 1) false) t.rows row [] t.unknowns (member_of bits) a.known
      (λ j p. let s : j - 1 + 1 ≡ j = omega arith in flags (j - 1) ∙ ap (member_of bits) s))

  -- it keeps to the unknowns
  pub row_fits : (i k : ℕ) → i < length rows → get_or (get_or rows i []) k false ≡ true → k < t.unknowns
  row_fits =
      let a = accepted 1024 (table_means t) bits rule in
      rw (more a.few)
      (λ i k h.
      rows_kept (λ (r : List Bool). (k : ℕ) → get_or r k false ≡ true → k < t.unknowns) t.rows row []
      (λ k m. let o = a.known (k + 1) (sym (flags k) ∙ m) in grind (arith, nat_tests)) (λ i h k. t.fits i k h) i h k)
