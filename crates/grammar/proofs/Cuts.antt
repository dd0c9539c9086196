-- The laws of cutting at a separator: words and lines. Assumes nothing.
use Rattle.std.proofs.Common.{◌≡◌, ℕ, ◌+◌, ◌-◌, ◌<◌, ◌≤◌, true, false, eqb, ltb, leb, ◌≢◌, List, [], ◌∷◌, ◌++◌, map, length, drop, sym, refl, ap, ◌∙◌, ⊎_elim, append_assoc, append-nil, arith, length-drop, drop-drop}
use Rattle.std.specs.List.{between, AllByRecursion, onto_first}
use Rattle.std.proofs.lemmas.List.{take_at, drop_at, drop_all, length_push}
use Rattle.std.proofs.lemmas.Bool.Decides.{nat_tests, eqb_tells, leb_tells}
use Rattle.grammar.specs.Objections.{spaced, SplitAtSpaces}
use Rattle.grammar.specs.Pieces.{cut_at}
use Rattle.grammar.specs.Texts.{text_lines, ended, CutIntoLines}
use Rattle.grammar.specs.Words.{Word, word, with_places, words_of}

-- no piece holds the separator
abbrev Apart : ℕ → List (List ℕ) → Type 0
Apart s ps = AllByRecursion (λ p. AllByRecursion (λ b. b ≢ s) p) ps

glue_apart : (s b : ℕ) (ps : List (List ℕ)) → b ≢ s → Apart s ps → Apart s (onto_first b ps)
glue_apart s b [] ne h = ((ne, tt), tt)
glue_apart s b (p ∷ ps) ne h = ((ne, h.0), h.1)

pub cut_apart : (s : ℕ) (last : List (List ℕ)) (bs : List ℕ) → Apart s last → Apart s (cut_at s last bs)
cut_apart s last [] h = h
cut_apart s last (b ∷ bs) h =
    let r = cut_apart s last bs h in
    ⊎_elim
    (λ t. rw t.0 (tt, r))
    (λ t. rw t.0 (glue_apart s b (cut_at s last bs) t.1 r))
    (eqb_tells b s)

-- pieces that are there
abbrev SomePieces : List (List ℕ) → Type 0
SomePieces ps = 0 < length ps

glue_some : (b : ℕ) (ps : List (List ℕ)) → SomePieces (onto_first b ps)
glue_some b [] = omega arith
glue_some b (p ∷ ps) = omega arith

cut_some : (s : ℕ) (last : List (List ℕ)) (b : ℕ) (bs : List ℕ) → SomePieces (cut_at s last (b ∷ bs))
cut_some s last b bs =
    ⊎_elim
    (λ t. rw t.0 (omega arith))
    (λ t. rw t.0 (glue_some b (cut_at s last bs)))
    (eqb_tells b s)

-- ---- words

spaced_glue : (b : ℕ) (ps : List (List ℕ)) → SomePieces ps → spaced (onto_first b ps) ≡ b ∷ spaced ps
spaced_glue b [] h = absurd (omega arith)
spaced_glue b (p ∷ []) h = refl
spaced_glue b (p ∷ (q ∷ ps)) h = refl

spaced_space : (ps : List (List ℕ)) → SomePieces ps → spaced ([] ∷ ps) ≡ 32 ∷ spaced ps
spaced_space [] h = absurd (omega arith)
spaced_space (p ∷ ps) h = refl

words_some : (bs : List ℕ) → SomePieces (cut_at 32 ([] ∷ []) bs)
words_some [] = omega arith
words_some (b ∷ bs) = cut_some 32 ([] ∷ []) b bs

pub spaced-cut_at : (bs : List ℕ) → spaced (cut_at 32 ([] ∷ []) bs) ≡ bs
spaced-cut_at [] = refl
spaced-cut_at (b ∷ bs) =
    let r = spaced-cut_at bs in
    let some = words_some bs in
    ⊎_elim
    (λ t. rw t.0 (spaced_space (cut_at 32 ([] ∷ []) bs) some ∙ ap (λ l. 32 ∷ l) r ∙ ap (λ x. x ∷ bs) (sym t.1)))
    (λ t. rw t.0 (spaced_glue b (cut_at 32 ([] ∷ []) bs) some ∙ ap (λ l. b ∷ l) r))
    (eqb_tells b 32)

placed_bytes : (k : ℕ) (ps : List (List ℕ)) → map (λ w. w.bytes) (with_places k ps) ≡ ps
placed_bytes k [] = refl
placed_bytes k (p ∷ ps) = ap (λ l. p ∷ l) (placed_bytes (k + length p + 1) ps)

placed_apart : (k : ℕ) (ps : List (List ℕ)) → Apart 32 ps → AllByRecursion (λ w. AllByRecursion (λ b. b ≢ 32) w.bytes) (with_places k ps)
placed_apart k [] h = tt
placed_apart k (p ∷ ps) h = (h.0, placed_apart (k + length p + 1) ps h.1)

-- pieces that stand in the line from an index on stand at their places
abbrev Standing : List ℕ → Word → Type 0
Standing line w = (3 ≤ w.start) × (between (w.start - 1) (w.start - 1 + length w.bytes) line ≡ w.bytes)

standing : (line : List ℕ) (from : ℕ) (p rest : List ℕ) → 2 ≤ from → drop from line ≡ p ++ rest → Standing line (word (from + 1) p)
standing line from p rest two e =
    let i : from + 1 - 1 ≡ from = omega arith in
    let n : from + length p - from ≡ length p = omega arith in
    (omega arith, rw (i, n, e, take_at p rest (length p) refl))

placed_standing : (line : List ℕ) (from : ℕ) (ps : List (List ℕ)) → 2 ≤ from → spaced ps ≡ drop from line → AllByRecursion (Standing line) (with_places (from + 1) ps)
placed_standing line from [] two e = tt
placed_standing line from (p ∷ []) two e = (standing line from p [] two (sym e ∙ sym (append-nil p)), tt)
placed_standing line from (p ∷ (q ∷ ps)) two e =
    let next : spaced (q ∷ ps) ≡ drop (from + length p + 1) line =
    sym (drop_at (p ++ 32 ∷ []) (spaced (q ∷ ps)) (length p + 1) (length_push p 32)) ∙ ap (drop (length p + 1)) (append_assoc p (32 ∷ []) (spaced (q ∷ ps)) ∙ e) ∙ drop-drop (length p + 1) from line ∙ ap (λ n. drop n line) (omega arith) in
    let place : from + 1 + length p + 1 ≡ from + length p + 1 + 1 = omega arith in
    (standing line from p (32 ∷ spaced (q ∷ ps)) two (sym e), rw place (placed_standing line (from + length p + 1) (q ∷ ps) (omega arith) next))

-- what holds of the pieces behind the mark, and of no words, holds of the words of a line
pub words_either : (line : List ℕ) (P : List Word → Type 0) → P (with_places 3 (cut_at 32 ([] ∷ []) (drop 2 line))) → P [] → P (words_of line)
words_either line P some none =
    ⊎_elim
    (λ t. rw t.0 (⊎_elim (λ u. rw u.0 some) (λ u. rw u.0 none) (leb_tells 2 (length line))))
    (λ t. rw t.0 none)
    (leb_tells 3 (length line))

pub words_split : (line : List ℕ) → SplitAtSpaces line (words_of line)
words_split line =
    let ps = cut_at 32 ([] ∷ []) (drop 2 line) in
    let long = length-drop 2 line in
    let two : 2 ≤ 2 = omega arith in
    ⊎_elim
    (λ t.
    let more : ltb 2 (length line) ≡ true = t.0 in
    let in_it : leb 2 (length line) ≡ true = grind (arith, nat_tests, t.1) in
    rw (more, in_it) (record {
      joined = ap spaced (placed_bytes 3 ps) ∙ spaced-cut_at (drop 2 line);
      spaceless = placed_apart 3 ps (cut_apart 32 ([] ∷ []) (drop 2 line) (tt, tt));
      none = (λ e. absurd (omega (arith, words_some (drop 2 line), ap length (sym (placed_bytes 3 ps) ∙ ap (map (λ w. w.bytes)) e))), λ e. absurd (omega (arith, t.1, ap length e, long)));
      places = placed_standing line 2 ps two (spaced-cut_at (drop 2 line));
    }))
    (λ t.
    let less : ltb 2 (length line) ≡ false = t.0 in
    let nothing = drop_all 2 line (omega (arith, t.1)) in
    rw less (record { joined = sym nothing; spaceless = tt; none = (λ _. nothing, λ _. refl); places = tt }))
    (leb_tells 3 (length line))

-- ---- lines

ended_glue : (b : ℕ) (ls : List (List ℕ)) → SomePieces ls → ended (onto_first b ls) ≡ b ∷ ended ls
ended_glue b [] h = absurd (omega arith)
ended_glue b (l ∷ ls) h = refl

-- what one byte in front adds
ended_step : (b : ℕ) (bs : List ℕ) → SomePieces (text_lines bs) → ended (text_lines (b ∷ bs)) ≡ b ∷ ended (text_lines bs)
ended_step b bs some =
    ⊎_elim
    (λ t. rw t.0 (ap (λ x. x ∷ ended (text_lines bs)) (sym t.1)))
    (λ t. rw t.0 (ended_glue b (text_lines bs) some))
    (eqb_tells b 10)

lines_some : (front : List ℕ) (b : ℕ) → SomePieces (text_lines (front ++ b ∷ []))
lines_some [] b = cut_some 10 [] b []
lines_some (a ∷ front) b = cut_some 10 [] a (front ++ b ∷ [])

ended_closed : (front : List ℕ) → ended (text_lines (front ++ 10 ∷ [])) ≡ front ++ 10 ∷ []
ended_closed [] = refl
ended_closed (b ∷ front) = ended_step b (front ++ 10 ∷ []) (lines_some front 10) ∙ ap (λ l. b ∷ l) (ended_closed front)

ended_unclosed : (front : List ℕ) (b : ℕ) → b ≢ 10 → ended (text_lines (front ++ b ∷ [])) ≡ (front ++ b ∷ []) ++ 10 ∷ []
ended_unclosed [] b ne = let e : eqb b 10 ≡ false = grind (arith, nat_tests) in rw e
ended_unclosed (a ∷ front) b ne = ended_step a (front ++ b ∷ []) (lines_some front b) ∙ ap (λ l. a ∷ l) (ended_unclosed front b ne)

lines_none : (text : List ℕ) → text_lines text ≡ [] → text ≡ []
lines_none [] e = refl
lines_none (b ∷ bs) e = absurd (omega (arith, cut_some 10 [] b bs, ap length e))

pub text_cut : (text : List ℕ) → CutIntoLines text (text_lines text)
text_cut text = record {
  unbroken = cut_apart 10 [] text tt;
  closed = λ front e. ap (λ t. ended (text_lines t)) e ∙ ended_closed front ∙ sym e;
  unclosed = λ front b ne e. ap (λ t. ended (text_lines t)) e ∙ ended_unclosed front b ne ∙ ap (λ t. t ++ 10 ∷ []) (sym e);
  none = (λ e. ap text_lines e, lines_none text);
}
