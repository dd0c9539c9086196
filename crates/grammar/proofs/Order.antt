-- The first ground in the checking order. Assumes nothing.
use Rattle.std.proofs.Common.{◌≡◌, ℕ, Bool, true, false, List, [], ◌∷◌, Some, None, Ok, Option, sym, refl, ap, ◌∙◌, subst, inl, inr, arith, MatchOption}
use Rattle.std.specs.Option.{option_map}
use Rattle.std.specs.List.{AllByRecursion}
use Rattle.grammar.specs.declared.grounds.Ground.{Ground}
use Rattle.grammar.specs.declared.grounds.Ground.TheVariants.{TextTooLong, LineTooLong, ByteOutside, NoMark, NotAName, WordCount, NameTaken, NotFound, ModelFull, SourceFull, NoSuchNumber, NoSuchGoal, OfferNotOpen, PageTooShort, AreaTooShort, GoalNotMet}
use Rattle.grammar.specs.declared.grounds.LineFault.{LineFault}
use Rattle.grammar.specs.declared.marks.Kind.{Kind}
use Rattle.grammar.specs.declared.marks.Kind.TheVariants.{Equation, Fault, Offer, Comment}
use Rattle.grammar.specs.Marks.{line_kind}
use Rattle.grammar.specs.Objections.{Name, Marked, HasWords, Applies, Enters, ByGrounds}
use Rattle.grammar.specs.Reading.{Entry, stands, line_words, entry, answer, line_reading}
use Rattle.grammar.specs.Refusals.{checking_order, else_after, first_fault, FirstInOrder}
use Rattle.grammar.specs.Words.{Word, words_of, obeys_name_rule, odd_name}
use Rattle.grammar.proofs.Standing.{Leftmost, each_ground, name_decides, kind_from_mark, mark_from_kind, unmarked}

-- ---- any order, any grounds

module _ (st : Ground → Option ℕ) (P : Ground → ℕ → Type 0) (each : (g : Ground) → Leftmost (st g) (P g)) where
  abbrev First : List Ground → Option LineFault → Type 0
  First gs o = MatchOption o (AllByRecursion (λ g. st g ≡ None) gs) (FirstInOrder P gs)

  after : (g : Ground) (gs : List Ground) (o : Option LineFault) → st g ≡ None → Leftmost None (P g) → First gs o → First (g ∷ gs) o
  after g gs None e h r = (e, r)
  after g gs (Some f) e h r =
      record { earlier = g ∷ r.earlier; later = r.later; whole = ap (λ l. g ∷ l) r.whole; quiet = (h, r.quiet); stands = r.stands; leftmost = r.leftmost }

  this : (g : Ground) (gs : List Ground) (o : Option ℕ) → st g ≡ o → Leftmost o (P g) → First gs (first_fault st gs) → First (g ∷ gs) (else_after g o (first_fault st gs))
  this g gs None e h r = after g gs (first_fault st gs) e h r
  this g gs (Some k) e h r = record { earlier = []; later = gs; whole = refl; quiet = tt; stands = h.0; leftmost = h.1 }

  pub first_law : (gs : List Ground) → First gs (first_fault st gs)
  first_law [] = tt
  first_law (g ∷ gs) = this g gs (st g) refl (each g) (first_law gs)

every_ground : (Q : Ground → Type 0) → AllByRecursion Q checking_order → (g : Ground) → Q g
every_ground Q h TextTooLong = h.0
every_ground Q h LineTooLong = h.1.0
every_ground Q h ByteOutside = h.1.1.0
every_ground Q h NoMark = h.1.1.1.0
every_ground Q h NotAName = h.1.1.1.1.0
every_ground Q h WordCount = h.1.1.1.1.1.0
every_ground Q h NameTaken = h.1.1.1.1.1.1.0
every_ground Q h NotFound = h.1.1.1.1.1.1.1.0
every_ground Q h ModelFull = h.1.1.1.1.1.1.1.1.0
every_ground Q h SourceFull = h.1.1.1.1.1.1.1.1.1.0
every_ground Q h NoSuchNumber = h.1.1.1.1.1.1.1.1.1.1.0
every_ground Q h NoSuchGoal = h.1.1.1.1.1.1.1.1.1.1.1.0
every_ground Q h OfferNotOpen = h.1.1.1.1.1.1.1.1.1.1.1.1.0
every_ground Q h PageTooShort = h.1.1.1.1.1.1.1.1.1.1.1.1.1.0
every_ground Q h AreaTooShort = h.1.1.1.1.1.1.1.1.1.1.1.1.1.1.0
every_ground Q h GoalNotMet = h.1.1.1.1.1.1.1.1.1.1.1.1.1.1.1.0

-- ---- a line

free_of : (o : Option ℕ) (P : ℕ → Type 0) → o ≡ None → Leftmost o P → (k : ℕ) → P k → ⊥
free_of o P e h = subst (λ x. Leftmost x P) e h

all_names : (ws : List Word) → odd_name ws ≡ None → AllByRecursion (λ w. Name w.bytes) ws
all_names [] e = tt
all_names (w ∷ ws) e = by (all_names ws) (obeys_name_rule w.bytes) refl
  where
    by : (odd_name ws ≡ None → AllByRecursion (λ v. Name v.bytes) ws) → (b : Bool) → obeys_name_rule w.bytes ≡ b → AllByRecursion (λ v. Name v.bytes) (w ∷ ws)
    by rest true t = ((name_decides w.bytes).0 t, rest (sym (rw t) ∙ e))
    by rest false t = absurd (let z : Some w.start ≡ None = sym (rw t) ∙ e in cc)

worded_words : (line : List ℕ) → HasWords line → line_words line ≡ words_of line
worded_words line (inl m) = rw (kind_from_mark line Equation m)
worded_words line (inr (inl m)) = rw (kind_from_mark line Fault m)
worded_words line (inr (inr m)) = rw (kind_from_mark line Offer m)

comment_words : (line : List ℕ) → Marked line Comment → line_words line ≡ []
comment_words line m = rw (kind_from_mark line Comment m)

empty_line : (line : List ℕ) → line_kind line ≡ None → ((k : ℕ) → Applies line NoMark k → ⊥) → line ≡ []
empty_line [] e free = refl
empty_line (b ∷ bs) e free = absurd (free 0 ((omega arith, unmarked (b ∷ bs) e), refl))

enters : (line : List ℕ) (m : Option Kind) → line_kind line ≡ m → AllByRecursion (λ g. stands line g ≡ None) checking_order → Enters line (option_map (λ kind. record { kind = kind; words = line_words line }) m)
enters line None k h = empty_line line k (free_of (stands line NoMark) (Applies line NoMark) (every_ground (λ g. stands line g ≡ None) h NoMark) (each_ground line NoMark))
enters line (Some kind) k h = (
  mark_from_kind line kind k,
  worded_words line,
  comment_words line,
  all_names (line_words line) (every_ground (λ g. stands line g ≡ None) h NotAName),
)

-- what reading says of every line, in words
pub by_grounds : (line : List ℕ) → ByGrounds line (line_reading line)
unfolding line_reading
by_grounds line = by (first_fault (stands line) checking_order) (first_law (stands line) (Applies line) (each_ground line) checking_order)
  where
    by : (o : Option LineFault) → MatchOption o (AllByRecursion (λ g. stands line g ≡ None) checking_order) (FirstInOrder (Applies line) checking_order) → ByGrounds line (answer o (entry line))
    by None h = (λ g. free_of (stands line g) (Applies line g) (every_ground (λ x. stands line x ≡ None) h g) (each_ground line g), enters line (line_kind line) refl h)
    by (Some x) h = h

-- a line that reads enters what its mark and words say
pub read_entry : (line : List ℕ) (x : Option Entry) → line_reading line ≡ Ok x → x ≡ entry line
unfolding line_reading
read_entry line x e = by (first_fault (stands line) checking_order) e
  where
    by : (o : Option LineFault) → answer o (entry line) ≡ Ok x → x ≡ entry line
    by None e = cc
    by (Some f) e = absurd cc
