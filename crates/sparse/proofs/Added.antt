-- One equation more: its list stands behind the others. Assumes nothing.
use Rattle.std.proofs.Common.{◌≡◌, ℕ, ◌-◌, ◌<◌, ◌≤◌, true, None, List, [], ◌∷◌, ◌++◌, length, sym, ◌∙◌, arith}
use Rattle.std.specs.Prelude.{slice_range}
use Rattle.std.proofs.lemmas.Bool.Decides.{nat_tests}
use Rattle.std.proofs.lemmas.List.{length_push}
use Rattle.sets.specs.Members.{member_of}
use Rattle.source.specs.Growth.{with_row, row_refusal}
use Rattle.source.specs.Meaning.{clipped}
use Rattle.source.proofs.Clipping.{clip_row}
use Rattle.source.proofs.Rules.{accepted}
use Rattle.sparse.specs.declared.lists.Sparse.{Sparse}
use Rattle.sparse.specs.Cells.{stands_in, numbers_to, list_start, list_at, ListsOrdered, NumbersInOrder}
use Rattle.sparse.specs.Lists.{in_list, sparse_means}
use Rattle.sparse.proofs.Appending.{start_kept, starts_ordered, lists_keep, list_written}
use Rattle.sparse.proofs.Numbers.{members_within, numbers_held, numbers_again}

module _ (s : Sparse) (bits : ℕ) (starts cells : List ℕ) (rule : row_refusal 1024 (sparse_means s) (member_of bits) ≡ None)
    (more : length s.starts < 112 → starts ≡ s.starts ++ length s.cells ∷ []) (filled : cells ≡ s.cells ++ numbers_to 128 (member_of bits)) where
  pub list_added : clipped (length starts) s.unknowns (λ i j. stands_in (slice_range cells (list_start starts cells (i - 1)) (list_start starts cells i)) j) ≡ with_row (sparse_means s) (member_of bits)
  list_added =
      let S = member_of bits in
      let a = accepted 1024 (sparse_means s) bits rule in
      rw (more a.few, filled, length_push s.starts (length s.cells))
      (clip_row (length s.starts) s.unknowns (in_list s) _ S a.known
      (λ i j p q _ _. list_written s.starts s.cells (numbers_to 128 S) S s.ordered (numbers_held 128 S (members_within bits)) i j p q))

  pub starts_few : length starts ≤ 112
  starts_few = let a = accepted 1024 (sparse_means s) bits rule in let few = a.few in rw (more few) (omega (arith, length_push s.starts (length s.cells)))

  pub starts_first : list_start starts cells 0 ≡ 0
  starts_first =
      let a = accepted 1024 (sparse_means s) bits rule in
      rw (more a.few, filled) (start_kept s.starts s.cells (numbers_to 128 (member_of bits)) 0 (omega arith) ∙ s.first)

  pub lists_ordered : ListsOrdered starts cells
  lists_ordered =
      let a = accepted 1024 (sparse_means s) bits rule in
      rw (more a.few, filled) (starts_ordered s.starts s.cells (numbers_to 128 (member_of bits)) s.ordered)

  pub lists_in_order : (i : ℕ) → i < length starts → NumbersInOrder (list_at starts cells i)
  lists_in_order =
      let S = member_of bits in
      let a = accepted 1024 (sparse_means s) bits rule in
      rw (more a.few, filled) (λ i h. lists_keep NumbersInOrder s.starts s.cells (numbers_to 128 S) s.ordered (numbers_again 128 S (members_within bits)) s.rising i h)

  pub lists_fit : (i j : ℕ) → i < length starts → stands_in (list_at starts cells i) j ≡ true → (1 ≤ j) × (j ≤ s.unknowns)
  lists_fit =
      let S = member_of bits in
      let a = accepted 1024 (sparse_means s) bits rule in
      rw (more a.few, filled)
      (λ i j h.
      lists_keep (λ xs. (j : ℕ) → stands_in xs j ≡ true → (1 ≤ j) × (j ≤ s.unknowns)) s.starts s.cells (numbers_to 128 S) s.ordered
      (λ j m. let k = a.known j (sym (numbers_held 128 S (members_within bits) j) ∙ m) in (grind (arith, nat_tests), grind (arith, nat_tests)))
      (λ i h j. s.fits i j h) i h j)
