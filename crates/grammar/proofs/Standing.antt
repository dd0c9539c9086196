-- Each ground by the computing definition and in words: they agree. Assumes nothing.
use Rattle.std.proofs.Common.{◌≡◌, ℕ, zero, suc, ◌+◌, ◌<◌, ◌≤◌, Bool, true, false, cond, ◌&&◌, ◌||◌, eqb, ltb, leb, ◌⊎◌, List, [], ◌∷◌, length, get_or, drop, is_some, Some, None, Decides, Option, sym, refl, ap, ◌∙◌, subst, inl, inr, ⊎_elim, arith, MatchOption}
use Rattle.std.specs.List.{AllByRecursion, list_all}
use Rattle.std.proofs.lemmas.Bool.Decides.{nat_tests, eqb_tells, leb_tells, Decides-eqb, Decides-and, Decides-or, Decides-like}
use Rattle.std.proofs.ByRecursion.{Decides-by_and}
use Rattle.grammar.specs.declared.grounds.Ground.{Ground}
use Rattle.grammar.specs.declared.grounds.Ground.TheVariants.{TextTooLong, LineTooLong, ByteOutside, NoMark, NotAName, WordCount, NameTaken, NotFound, ModelFull, SourceFull, NoSuchNumber, NoSuchGoal, OfferNotOpen, PageTooShort, AreaTooShort, GoalNotMet}
use Rattle.grammar.specs.declared.marks.Kind.{Kind}
use Rattle.grammar.specs.declared.marks.Kind.TheVariants.{Equation, Fault, Offer, Comment}
use Rattle.grammar.specs.Marks.{mark, kind_of, line_kind}
use Rattle.grammar.specs.Objections.{Letter, NameByte, Name, Marked, HasWords, OneOfWords, Unmarked, Miscounted, OddName, Applies}
use Rattle.grammar.specs.Pieces.{cut_at}
use Rattle.grammar.specs.Reading.{is_plain, odd_byte, unless, stands, takes, takes_by, words_with, line_words}
use Rattle.grammar.specs.Words.{Word, with_places, words_of, is_letter, is_name_byte, obeys_name_rule, odd_name}
use Rattle.grammar.proofs.Cuts.{words_either}

-- o is the leftmost number of which P holds, if there is one
abbrev pub Leftmost : Option ℕ → (ℕ → Type 0) → Type 0
Leftmost o P = MatchOption o ((k : ℕ) → P k → ⊥) (λ k. P k × ((j : ℕ) → P j → k ≤ j))

leftmost_like : (o : Option ℕ) (P Q : ℕ → Type 0) → ((k : ℕ) → P k → Q k) → ((k : ℕ) → Q k → P k) → Leftmost o P → Leftmost o Q
leftmost_like None P Q there back h = λ k q. h k (back k q)
leftmost_like (Some k) P Q there back h = (there k h.0, λ j q. h.1 j (back j q))

-- a ground with no byte of its own
unless_leftmost : (b : Bool) (P : Type 0) → (b ≡ true → P → ⊥) → (b ≡ false → P) → Leftmost (unless b) (λ k. P × (k ≡ 0))
unless_leftmost true P never then = λ k p. never refl p.0
unless_leftmost false P never then = ((then refl, refl), λ j p. omega arith)

-- ---- bytes

abbrev Outside : ℕ → Type 0
Outside b = (b < 32) ⊎ (126 < b)

abbrev OddByte : ℕ → List ℕ → ℕ → Type 0
OddByte n bs k = (i : ℕ) × (k ≡ n + i + 1) × (i < length bs) × Outside (get_or bs i 0)

odd_bytes : (n : ℕ) (bs : List ℕ) → Leftmost (odd_byte (n + 1) bs) (OddByte n bs)
odd_bytes n [] = λ k p. omega (arith, p.2)
odd_bytes n (b ∷ bs) =
    let r = odd_bytes (n + 1) bs in
    ⊎_elim
    (λ t. rw t.0 (leftmost_like (odd_byte (n + 1 + 1) bs) (OddByte (n + 1) bs) (OddByte n (b ∷ bs)) (λ k p. (suc p.0, omega (arith, p.1), omega (arith, p.2), p.3)) (later n b bs t.1) r))
    (λ t. rw t.0 ((0, omega arith, omega arith, t.1), λ j p. omega (arith, p.1)))
    (plain_tells b)
  where
    plain_tells : (b : ℕ) → ((is_plain b ≡ true) × (Outside b → ⊥)) ⊎ ((is_plain b ≡ false) × Outside b)
    plain_tells b = grind (arith, nat_tests, leb_tells 32 b, leb_tells b 126)

    later : (n b : ℕ) (bs : List ℕ) → (Outside b → ⊥) → (k : ℕ) → OddByte n (b ∷ bs) k → OddByte (n + 1) bs k
    later n b bs plain k (zero, e, l, o) = absurd (plain o)
    later n b bs plain k (suc i, e, l, o) = (i, omega arith, omega arith, o)

-- ---- names

leb_decides : (a b : ℕ) → Decides (leb a b) (a ≤ b)
leb_decides a b = (λ e. grind (arith, nat_tests, leb_tells a b), λ l. grind (arith, nat_tests, leb_tells a b))

letter_decides : (b : ℕ) → Decides (is_letter b) (Letter b)
letter_decides b = (λ e. grind (arith, nat_tests, leb_tells 97 b, leb_tells b 122, leb_tells 65 b, leb_tells b 90), λ l. grind (arith, nat_tests, leb_tells 97 b, leb_tells b 122, leb_tells 65 b, leb_tells b 90))

byte_decides : (b : ℕ) → Decides (is_name_byte b) (NameByte b)
byte_decides b =
    Decides-or (is_letter b) ((leb 48 b && leb b 57) || eqb b 95) (letter_decides b)
    (Decides-or (leb 48 b && leb b 57) (eqb b 95) (Decides-and (leb 48 b) (leb b 57) (leb_decides 48 b) (leb_decides b 57)) (Decides-eqb b 95))

bytes_decide : (bs : List ℕ) → Decides (list_all is_name_byte bs) (AllByRecursion NameByte bs)
bytes_decide bs = Decides-by_and is_name_byte NameByte (list_all is_name_byte) byte_decides refl (λ _ _. refl) bs

pub name_decides : (w : List ℕ) → Decides (obeys_name_rule w) (Name w)
name_decides [] = (λ e. absurd cc, λ n. absurd (omega (arith, ap length n.whole)))
name_decides (b ∷ bs) =
    Decides-like (obeys_name_rule (b ∷ bs))
    (λ p. record { first = b; rest = bs; whole = refl; letter = p.0; short = p.1.0; others = p.1.1 })
    (λ n.
    let f : n.first ≡ b = cc in
    let r : n.rest ≡ bs = cc in
    (subst Letter f n.letter, (subst (λ l. length l ≤ 7) r n.short, subst (AllByRecursion NameByte) r n.others)))
    (Decides-and (is_letter b) (leb (length bs) 7 && list_all is_name_byte bs) (letter_decides b) (Decides-and (leb (length bs) 7) (list_all is_name_byte bs) (leb_decides (length bs) 7) (bytes_decide bs)))

-- ---- marks

kind_of-mark : (kind : Kind) → kind_of (mark kind) ≡ Some kind
kind_of-mark Equation = refl
kind_of-mark Fault = refl
kind_of-mark Offer = refl
kind_of-mark Comment = refl

mark_of_kind : (c : ℕ) (kind : Kind) → kind_of c ≡ Some kind → c ≡ mark kind
mark_of_kind c kind e = grind (arith, nat_tests, eqb_tells c 69, eqb_tells c 70, eqb_tells c 83, eqb_tells c 67)

pub kind_from_mark : (line : List ℕ) (kind : Kind) → Marked line kind → line_kind line ≡ Some kind
kind_from_mark line kind m = ap line_kind m.1 ∙ kind_of-mark kind

pub mark_from_kind : (line : List ℕ) (kind : Kind) → line_kind line ≡ Some kind → Marked line kind
mark_from_kind [] kind e = absurd cc
mark_from_kind (a ∷ []) kind e = absurd cc
mark_from_kind (a ∷ (b ∷ rest)) kind e =
    ⊎_elim
    (λ t. (rest, ap (λ x. x ∷ (b ∷ rest)) (mark_of_kind a kind (sym (rw t.0) ∙ e)) ∙ ap (λ x. mark kind ∷ (x ∷ rest)) t.1))
    (λ t. absurd (let z : None ≡ Some kind = sym (rw t.0) ∙ e in cc))
    (eqb_tells b 58)

-- ---- the kind of a line, by cases

-- what the mark says
data Sort (line : List ℕ) : Type 0 where
  of_kind : (kind : Kind) → line_kind line ≡ Some kind → Sort line
  of_none : line_kind line ≡ None → Sort line

sort_by : (line : List ℕ) (o : Option Kind) → line_kind line ≡ o → Sort line
sort_by line None e = of_none e
sort_by line (Some kind) e = of_kind kind e

sort : (line : List ℕ) → Sort line
sort line = sort_by line (line_kind line) refl

pub unmarked : (line : List ℕ) → line_kind line ≡ None → (kind : Kind) → Marked line kind → ⊥
unmarked line e kind m = let k = kind_from_mark line kind m in cc

-- a line has one mark
other_mark : (line : List ℕ) (a b : Kind) → line_kind line ≡ Some a → Marked line b → a ≡ b
other_mark line a b e m = let k = kind_from_mark line b m in cc

worded_not_comment : (line : List ℕ) → line_kind line ≡ Some Comment → HasWords line → ⊥
worded_not_comment line e w =
    ⊎_elim
    (λ m. let k = kind_from_mark line Equation m in cc)
    (⊎_elim
    (λ m. let k = kind_from_mark line Fault m in cc)
    (λ m. let k = kind_from_mark line Offer m in cc))
    w

worded_marked : (line : List ℕ) → line_kind line ≡ None → HasWords line → ⊥
worded_marked line e w = ⊎_elim (unmarked line e Equation) (⊎_elim (unmarked line e Fault) (unmarked line e Offer)) w

abbrev marked? : List ℕ → Bool
marked? line = cond (eqb (length line) 0) true (is_some (line_kind line))

no_mark : (line : List ℕ) → Leftmost (unless (marked? line)) (Applies line NoMark)
no_mark line = unless_leftmost (marked? line) (Unmarked line) (never (sort line)) (then (sort line))
  where
    never : Sort line → marked? line ≡ true → Unmarked line → ⊥
    never (of_kind kind k) e u = u.1 kind (mark_from_kind line kind k)
    never (of_none k) e u = let f : cond (eqb (length line) 0) true false ≡ true = sym (rw k) ∙ e in grind (arith, nat_tests, eqb_tells (length line) 0, u.0)

    then : Sort line → marked? line ≡ false → Unmarked line
    then (of_kind kind k) e = let f : cond (eqb (length line) 0) true true ≡ false = sym (rw k) ∙ e in absurd (grind (arith, nat_tests, eqb_tells (length line) 0))
    then (of_none k) e = let f : cond (eqb (length line) 0) true false ≡ false = sym (rw k) ∙ e in (grind (arith, nat_tests, eqb_tells (length line) 0), unmarked line k)

-- ---- words that are no names

-- starts that do not fall, the first of them n or more
abbrev Rising : ℕ → List Word → Type 0
Rising n [] = Unit {0}
Rising n (w ∷ ws) = (n ≤ w.start) × Rising w.start ws

rising_least : (n : ℕ) (ws : List Word) → Rising n ws → (w : Word) → OneOfWords w ws → n ≤ w.start
rising_least n [] r w (i, l, e) = absurd (omega arith)
rising_least n (v ∷ ws) r w (zero, l, e) = omega (arith, r.0, ap (λ x. x.start) e)
rising_least n (v ∷ ws) r w (suc i, l, e) = omega (arith, r.0, rising_least v.start ws r.1 w (i, omega arith, e))

placed_rising : (n k : ℕ) (ps : List (List ℕ)) → n ≤ k → Rising n (with_places k ps)
placed_rising n k [] h = tt
placed_rising n k (p ∷ ps) h = (h, placed_rising k (k + length p + 1) ps (omega arith))

words_rising : (line : List ℕ) → Rising 0 (words_of line)
words_rising line = words_either line (Rising 0) (placed_rising 0 3 (cut_at 32 ([] ∷ []) (drop 2 line)) (omega arith)) tt

odd_names : (n : ℕ) (ws : List Word) → Rising n ws → Leftmost (odd_name ws) (OddName ws)
odd_names n [] r = λ k p. omega (arith, p.1.1)
odd_names n (w ∷ ws) r = by (odd_names w.start ws r.1) (obeys_name_rule w.bytes) refl
  where
    more : (k : ℕ) → OddName ws k → OddName (w ∷ ws) k
    more k (v, a, s, o) = (v, (suc a.0, omega (arith, a.1), a.2), s, o)

    less : Name w.bytes → (k : ℕ) → OddName (w ∷ ws) k → OddName ws k
    less named k (v, (zero, l, e), s, o) = absurd (o (subst (λ x. Name x.bytes) e named))
    less named k (v, (suc i, l, e), s, o) = (v, (i, omega arith, e), s, o)

    by : Leftmost (odd_name ws) (OddName ws) → (b : Bool) → obeys_name_rule w.bytes ≡ b → Leftmost (odd_name (w ∷ ws)) (OddName (w ∷ ws))
    by rest true e = rw e (leftmost_like (odd_name ws) (OddName ws) (OddName (w ∷ ws)) more (less ((name_decides w.bytes).0 e)) rest)
    by rest false e =
        rw e (
          (w, (0, omega arith, refl), refl, λ named. let t = (name_decides w.bytes).1 named in cc),
          λ j p. omega (arith, p.2, rising_least w.start (w ∷ ws) (omega arith, r.1) p.0 p.1),
        )

not_a_name : (line : List ℕ) → Leftmost (odd_name (line_words line)) (Applies line NotAName)
not_a_name line = by (sort line)
  where
    worded : HasWords line → Leftmost (odd_name (words_of line)) (Applies line NotAName)
    worded m = leftmost_like (odd_name (words_of line)) (OddName (words_of line)) (Applies line NotAName) (λ k p. (m, p)) (λ k p. p.1) (odd_names 0 (words_of line) (words_rising line))

    by : Sort line → Leftmost (odd_name (line_words line)) (Applies line NotAName)
    by (of_none k) = rw k (λ j p. worded_marked line k p.0)
    by (of_kind Equation k) = rw k (worded (inl (mark_from_kind line Equation k)))
    by (of_kind Fault k) = rw k (worded (inr (inl (mark_from_kind line Fault k))))
    by (of_kind Offer k) = rw k (worded (inr (inr (mark_from_kind line Offer k))))
    by (of_kind Comment k) = rw k (λ j p. worded_not_comment line k p.0)

-- ---- the number of words

-- a line whose words its mark takes is not miscounted
taken : (line : List ℕ) (kind : Kind) → line_kind line ≡ Some kind → takes kind (length (words_with kind line)) ≡ true → Miscounted line → ⊥
taken line kind k t (inl (m, z)) =
    let u : ltb 0 (length (words_of line)) ≡ true = subst (λ a. takes a (length (words_with a line)) ≡ true) (other_mark line kind Equation k m) t in
    grind (arith, nat_tests, leb_tells 1 (length (words_of line)))
taken line kind k t (inr (inl (m, z))) =
    let u : eqb (length (words_of line)) 2 ≡ true = subst (λ a. takes a (length (words_with a line)) ≡ true) (other_mark line kind Fault k m) t in
    grind (arith, nat_tests, eqb_tells (length (words_of line)) 2)
taken line kind k t (inr (inr (m, z))) =
    let u : eqb (length (words_of line)) 1 ≡ true = subst (λ a. takes a (length (words_with a line)) ≡ true) (other_mark line kind Offer k m) t in
    grind (arith, nat_tests, eqb_tells (length (words_of line)) 1)

marked_miscounted : (line : List ℕ) → line_kind line ≡ None → Miscounted line → ⊥
marked_miscounted line k m = ⊎_elim (λ p. unmarked line k Equation p.0) (⊎_elim (λ p. unmarked line k Fault p.0) (λ p. unmarked line k Offer p.0)) m

word_count : (line : List ℕ) → Leftmost (unless (takes_by (line_kind line) (length (line_words line)))) (Applies line WordCount)
word_count line = by (sort line)
  where
    by : Sort line → Leftmost (unless (takes_by (line_kind line) (length (line_words line)))) (Applies line WordCount)
    by (of_none k) = rw k (λ j p. marked_miscounted line k p.0)
    by (of_kind Equation k) =
        rw k (unless_leftmost (ltb 0 (length (words_of line))) (Miscounted line) (taken line Equation k) (λ t. inl (mark_from_kind line Equation k, grind (arith, nat_tests, leb_tells 1 (length (words_of line))))))
    by (of_kind Fault k) =
        rw k (unless_leftmost (eqb (length (words_of line)) 2) (Miscounted line) (taken line Fault k) (λ t. inr (inl (mark_from_kind line Fault k, λ e. grind (arith, nat_tests, eqb_tells (length (words_of line)) 2)))))
    by (of_kind Offer k) =
        rw k (unless_leftmost (eqb (length (words_of line)) 1) (Miscounted line) (taken line Offer k) (λ t. inr (inr (mark_from_kind line Offer k, λ e. grind (arith, nat_tests, eqb_tells (length (words_of line)) 1)))))
    by (of_kind Comment k) = rw k (λ j p. taken line Comment k refl p.0)

too_long : (line : List ℕ) → Leftmost (unless (leb (length line) 240)) (Applies line LineTooLong)
too_long line = unless_leftmost (leb (length line) 240) (240 < length line) (λ t l. grind (arith, nat_tests, leb_tells (length line) 240)) (λ t. grind (arith, nat_tests, leb_tells (length line) 240))

odd_bytes_of : (line : List ℕ) → Leftmost (odd_byte 1 line) (Applies line ByteOutside)
odd_bytes_of line =
    leftmost_like (odd_byte 1 line) (OddByte 0 line) (Applies line ByteOutside) (λ k p. (p.0, omega (arith, p.1), p.2, p.3)) (λ k p. (p.0, omega (arith, p.1), p.2, p.3)) (odd_bytes 0 line)

-- each ground stands where its definition says, in words
pub each_ground : (line : List ℕ) (g : Ground) → Leftmost (stands line g) (Applies line g)
each_ground line TextTooLong = λ k p. p
each_ground line LineTooLong = too_long line
each_ground line ByteOutside = odd_bytes_of line
each_ground line NoMark = no_mark line
each_ground line NotAName = not_a_name line
each_ground line WordCount = word_count line
each_ground line NameTaken = λ k p. p
each_ground line NotFound = λ k p. p
each_ground line ModelFull = λ k p. p
each_ground line SourceFull = λ k p. p
each_ground line NoSuchNumber = λ k p. p
each_ground line NoSuchGoal = λ k p. p
each_ground line OfferNotOpen = λ k p. p
each_ground line PageTooShort = λ k p. p
each_ground line AreaTooShort = λ k p. p
each_ground line GoalNotMet = λ k p. p
