use Rattle.std.proofs.Common.{◌≡◌, true, false, Some, None, Ok, subst, ⊎_elim, true-eqb}
use Rattle.std.proofs.lemmas.Result.{err_from_is_err_and}
use Rattle.grammar.specs.declared.grounds.Ground.TheVariants.{NotAName, WordCount}
use Rattle.grammar.specs.Marks.{line_kind}
use Rattle.grammar.specs.Reading.{stands, line_words}
use Rattle.line.specs.Records.{words_in}
use Rattle.grammar.proofs.Steps.{long_reads, odd_reads, empty_reads, unmarked_reads, unnamed_reads, miscounted_reads, accepted_reads}
use Rattle.line.proofs.Verdicts.{count_stands, reads_line, refused_line}
use Rattle.line.proofs.reading.read_line.Goals as goal

pub returns-in_err-sound_bytes : goal.returns-in_err-sound_bytes
returns-in_err-sound_bytes c =
    let line = c.args.line.now in
    let r = c.from_residual.result in
    refused_line line r c.in_err-sound_bytes.field-0.0 (err_from_is_err_and r c.from_residual.ensures.1)
    (⊎_elim (λ e. rw e.0 (long_reads line _ e.1)) (λ e. rw e.1 (odd_reads line _ e.0 e.2)) c.in_err-sound_bytes.ensures)

pub returns-then-is_empty : goal.returns-then-is_empty
returns-then-is_empty c =
    let line = c.args.line.now in
    let sound = c.in_ok-sound_bytes.ensures in
    reads_line line (Ok None) (empty_reads line sound.0 sound.1 (true-eqb _ 0 c.if-is_empty.ensures))

pub returns-in_err-marked : goal.returns-in_err-marked
returns-in_err-marked c =
    let line = c.args.line.now in
    let r = c.from_residual-in_err-marked.result in
    let sound = c.in_ok-sound_bytes.ensures in
    let e = c.in_err-marked.ensures in
    refused_line line r c.in_err-marked.field-0.0 (err_from_is_err_and r c.from_residual-in_err-marked.ensures.1) (rw e.0 (unmarked_reads line sound.0 sound.1 _ e.1))

pub returns-in_err-words : goal.returns-in_err-words
returns-in_err-words c =
    let line = c.args.line.now in
    let r = c.from_residual-in_err-words.result in
    let sound = c.in_ok-sound_bytes.ensures in
    let k = c.in_ok-marked.ensures in
    let e = c.in_err-words.ensures in
    let odd = subst (λ l. stands l NotAName ≡ Some c.in_err-words.field-0.0.byte) k.1 e.1 in
    refused_line line r c.in_err-words.field-0.0 (err_from_is_err_and r c.from_residual-in_err-words.ensures.1) (rw e.0 (unnamed_reads line sound.0 sound.1 _ k.0 odd))

pub returns-in_err-right_count : goal.returns-in_err-right_count
returns-in_err-right_count c =
    let line = c.args.line.now in
    let r = c.from_residual-in_err-right_count.result in
    let sound = c.in_ok-sound_bytes.ensures in
    let e = c.in_err-right_count.ensures in
    let k = c.in_ok-marked.ensures in
    let w = c.in_ok-words.ensures in
    let named = subst (λ l. stands l NotAName ≡ None) k.1 w.0 in
    let counted = subst (λ l. stands l WordCount ≡ Some 0) k.1 (count_stands c.in_ok-marked.marked.line.now c.in_ok-words.words c.in_ok-marked.marked.kind false w.1 c.in_ok-marked.marked.marked e.1) in
    refused_line line r c.in_err-right_count.field-0.0 (err_from_is_err_and r c.from_residual-in_err-right_count.ensures.1)
    (rw e.0 (miscounted_reads line sound.0 sound.1 0 k.0 named counted))

pub returns : goal.returns
returns c =
    let line = c.args.line.now in
    let m = c.in_ok-marked.marked in
    let ps = c.in_ok-words.words in
    let sound = c.in_ok-sound_bytes.ensures in
    let k = c.in_ok-marked.ensures in
    let w = c.in_ok-words.ensures in
    let words = subst (λ l. words_in l ps ≡ line_words l) k.1 w.1 in
    let kind = subst (λ l. line_kind l ≡ Some m.kind) k.1 m.marked in
    let named = subst (λ l. stands l NotAName ≡ None) k.1 w.0 in
    let counted = subst (λ l. stands l WordCount ≡ None) k.1 (count_stands m.line.now ps m.kind true w.1 m.marked c.in_ok-right_count.ensures) in
    reads_line line (Ok (Some (record { kind = m.kind; words = ps }))) (accepted_reads line sound.0 sound.1 _ _ words kind k.0 named counted)
