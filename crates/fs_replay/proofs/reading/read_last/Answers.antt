use Rattle.std.proofs.Common.{◌≡◌, ◌≢◌, [], Some, length, ap, sym, ◌∙◌, arith}
use Rattle.std.proofs.lemmas.Bool.Decides.{nat_tests}
use Rattle.std.proofs.lemmas.List.{length-append}
use Rattle.fs_replay.specs.Texts.{journal_text}
use Rattle.fs_replay.specs.Reading.{count_at}
use Rattle.fs_replay.proofs.Faulty.{last_is_bad, behind_is_bad, whole_is, whole_alone}
use Rattle.fs_replay.proofs.Stops.{same_count, other_count, taken_is, not_taken, is_empty}
use Rattle.fs_replay.proofs.reading.read_last.Goals as goal

pub returns-then-ne-clause-bad : goal.returns-then-ne-clause-bad
returns-then-ne-clause-bad c =
    let entries = c.args.journal.now.entries in
    let count = length c.entries.result.now in
    let same : count ≡ length entries = ap length c.entries.ensures in
    let other = λ (is : c.count.result ≡ Some (length entries)).
    other_count c.count.result count c.if-ne.ensures (is ∙ ap Some (sym same)) in
    rw (c.bad_line.ensures, c.left-line.ensures)
    (last_is_bad c.args.bytes.now c.args.reader.now entries c.requires.front c.requires.last (omega (arith, same, c.entries.type_inv))
    (λ behind read. not_taken c.count.result c.count.new.self (count_at c.args.reader.now) (length entries) behind c.count.ensures other read))

pub overflow_sub-result : goal.overflow_sub-result
overflow_sub-result c =
    let entries = c.args.journal.now.entries in
    let count = length c.entries.result.now in
    let is = same_count c.count.result count c.if-ne.ensures ∙ ap (λ xs. Some (length xs)) c.entries.ensures in
    let read = taken_is c.count.result c.count.new.self (count_at c.args.reader.now) (length entries) c.count.ensures is in
    let whole = whole_is c.args.bytes.now c.args.reader.now c.count.new.self entries c.requires.front read in
    omega (arith, ap length whole, length-append (journal_text entries) c.count.new.self, ap length c.left-behind.ensures)

pub returns-then-not-is_empty-clause-bad : goal.returns-then-not-is_empty-clause-bad
returns-then-not-is_empty-clause-bad c =
    let entries = c.args.journal.now.entries in
    let count = length c.entries.result.now in
    let is = same_count c.count.result count c.if-ne.ensures ∙ ap (λ xs. Some (length xs)) c.entries.ensures in
    let read = taken_is c.count.result c.count.new.self (count_at c.args.reader.now) (length entries) c.count.ensures is in
    let long : length c.left-behind.result.now ≢ 0 = λ none. (let e = c.if-not-is_empty.ensures in grind (arith, nat_tests)) in
    let some : c.count.new.self ≢ [] = λ none. long (ap length (c.left-behind.ensures ∙ none)) in
    rw c.left-behind.ensures (behind_is_bad c.args.bytes.now c.args.reader.now c.count.new.self entries c.requires.front read some)

pub returns-clause-whole : goal.returns-clause-whole
returns-clause-whole c =
    let entries = c.args.journal.now.entries in
    let count = length c.entries.result.now in
    let is = same_count c.count.result count c.if-ne.ensures ∙ ap (λ xs. Some (length xs)) c.entries.ensures in
    let read = taken_is c.count.result c.count.new.self (count_at c.args.reader.now) (length entries) c.count.ensures is in
    let short : length c.left-behind.result.now ≡ 0 = let e = c.if-not-is_empty.ensures in grind (arith, nat_tests) in
    let none = is_empty c.count.new.self (ap length (sym c.left-behind.ensures) ∙ short) in
    whole_alone c.args.bytes.now c.args.reader.now c.count.new.self entries c.requires.front read none
