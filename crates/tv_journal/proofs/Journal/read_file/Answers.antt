use Rattle.std.proofs.Common.{◌≡◌, ℕ, ◌<◌, [], Result, Err, length, get_or, take, sym, ◌∙◌, subst, arith, rules}
use Rattle.std.proofs.lemmas.Bool.{false≢true}
use Rattle.std.proofs.lemmas.List.{take_more, take_all}
use Rattle.tv_journal.specs.declared.Journal.{Journal}
use Rattle.tv_journal.specs.declared.JournalFault.{JournalFault}
use Rattle.tv_journal.specs.declared.JournalFault.TheVariants as journal_fault
use Rattle.tv_journal.specs.Entries.{entries_of, record_count}
use Rattle.tv_journal.specs.Grammar.{IsLongestFront}
use Rattle.tv_journal.specs.Reading.{Read, HasRead, read_of}
use Rattle.tv_journal.specs.Stores.{held}
use Rattle.tv_journal.proofs.Ends.{has-read-first, has-read-more, refused, no-file, cut-short, not-whole}
use Rattle.tv_journal.proofs.Records.{count-again}
use Rattle.tv_journal.proofs.Room.{held-length}
use Rattle.tv_journal.proofs.Journal.read_file.Goals as goal

place_of : (m n : ℕ) → ◌≡◌ {A = Result Journal JournalFault} (Err (journal_fault.At m)) (Err (journal_fault.At n)) → m ≡ n
place_of m n is = cc

pub loop-at-init : goal.loop-at-init
loop-at-init c = record { has = subst (λ (r : Read). HasRead r []) (sym c.new-reader.ensures.read) has-read-first; counted = c.new-reader.ensures.counted }

pub returns-in-Err-Refused-clause-front : goal.returns-in-Err-Refused-clause-front
returns-in-Err-Refused-clause-front c = λ (n : ℕ) is.
    subst (IsLongestFront c.args.bytes.now) (place_of c.loop-at.at n is)
    (refused (read_of c.loop-at.reader) c.args.bytes.now c.loop-at.at c.loop-at.invariant.has (omega arith)
    (rw c.in-Err-Refused.field-0-is at c.in-Err-Refused.ensures.gives))

pub returns-in-Err-Refused-clause-no_file : goal.returns-in-Err-Refused-clause-no_file
returns-in-Err-Refused-clause-no_file c = λ (n : ℕ) is.
    no-file c.args.bytes.now c.loop-at.at
    (refused (read_of c.loop-at.reader) c.args.bytes.now c.loop-at.at c.loop-at.invariant.has (omega arith)
    (rw c.in-Err-Refused.field-0-is at c.in-Err-Refused.ensures.gives))
    (omega arith)

pub loop-at-preserved : goal.loop-at-preserved
loop-at-preserved c =
    let within : c.loop-at.at < length c.args.bytes.now = omega arith in
    record {
      has =
          subst (HasRead (read_of c.step.new.self)) (sym (take_more c.args.bytes.now c.loop-at.at 0 within))
          (has-read-more (read_of c.loop-at.reader) (read_of c.step.new.self) (take c.loop-at.at c.args.bytes.now) (get_or c.args.bytes.now c.loop-at.at 0)
          c.loop-at.invariant.has (search (rules, c.type_inv.bytes)) c.in-Ok.ensures.gives);
      counted = c.in-Ok.ensures.counted;
    }

pub returns-then-not-done-clause-front : goal.returns-then-not-done-clause-front
returns-then-not-done-clause-front c = λ (n : ℕ) is.
    let all : take c.loop-at.at c.args.bytes.now ≡ c.args.bytes.now = take_all c.loop-at.at c.args.bytes.now (omega arith) in
    subst (IsLongestFront c.args.bytes.now) (place_of (length c.args.bytes.now) n is)
    (cut-short (read_of c.loop-at.reader) c.args.bytes.now (subst (HasRead (read_of c.loop-at.reader)) all c.loop-at.invariant.has))

pub returns-then-not-done-clause-no_file : goal.returns-then-not-done-clause-no_file
returns-then-not-done-clause-no_file c = λ (n : ℕ) is.
    let all : take c.loop-at.at c.args.bytes.now ≡ c.args.bytes.now = take_all c.loop-at.at c.args.bytes.now (omega arith) in
    not-whole (read_of c.loop-at.reader) c.args.bytes.now (subst (HasRead (read_of c.loop-at.reader)) all c.loop-at.invariant.has)
    (λ done. false≢true (sym c.if-not-done.true ∙ c.is_done-done.ensures.1 done))

pub returns-clause-room : goal.returns-clause-room
returns-clause-room c =
    let lines = c.loop-at.invariant.has.follows.lines in
    let counted : record_count (entries_of (held c.loop-at.reader.store)) ≡ length (held c.loop-at.reader.store) = count-again (held c.loop-at.reader.store) lines.each lines.apart in
    omega (arith, c.len-record_room.ensures, held-length c.loop-at.reader.store)
