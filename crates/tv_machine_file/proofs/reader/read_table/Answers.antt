use Rattle.std.proofs.Common.{rules}
use Rattle.tv_machine_file.proofs.reader.read_table.Goals as goal

pub returns-in_err-image-clause-fault : goal.returns-in_err-image-clause-fault
returns-in_err-image-clause-fault c = rw (c.in_ok-check_known.ensures.ok) (search rules)

pub returns-in_err-ram-clause-fault : goal.returns-in_err-ram-clause-fault
returns-in_err-ram-clause-fault c = rw (c.in_ok-check_known.ensures.ok, c.in_ok-image.ensures.ok) (search rules)

pub returns-in_err-harts-clause-fault : goal.returns-in_err-harts-clause-fault
returns-in_err-harts-clause-fault c = rw (c.in_ok-check_known.ensures.ok, c.in_ok-image.ensures.ok, c.in_ok-ram.ensures.ok) (search rules)

pub returns-in_err-steps-clause-fault : goal.returns-in_err-steps-clause-fault
returns-in_err-steps-clause-fault c = rw (c.in_ok-check_known.ensures.ok, c.in_ok-image.ensures.ok, c.in_ok-ram.ensures.ok, c.in_ok-harts.ensures.ok) (search rules)

pub returns-in_err-journal_entries-clause-fault : goal.returns-in_err-journal_entries-clause-fault
returns-in_err-journal_entries-clause-fault c = rw (c.in_ok-check_known.ensures.ok, c.in_ok-image.ensures.ok, c.in_ok-ram.ensures.ok, c.in_ok-harts.ensures.ok, c.in_ok-steps.ensures.ok) (search rules)

pub returns-in_err-journal_bytes-clause-fault : goal.returns-in_err-journal_bytes-clause-fault
returns-in_err-journal_bytes-clause-fault c = rw (c.in_ok-check_known.ensures.ok, c.in_ok-image.ensures.ok, c.in_ok-ram.ensures.ok, c.in_ok-harts.ensures.ok, c.in_ok-steps.ensures.ok, c.in_ok-journal_entries.ensures.ok) (search rules)

pub returns-in_err-tube-clause-fault : goal.returns-in_err-tube-clause-fault
returns-in_err-tube-clause-fault c = rw (c.in_ok-check_known.ensures.ok, c.in_ok-image.ensures.ok, c.in_ok-ram.ensures.ok, c.in_ok-harts.ensures.ok, c.in_ok-steps.ensures.ok, c.in_ok-journal_entries.ensures.ok, c.in_ok-journal_bytes.ensures.ok) (search rules)

pub returns-in_err-control-clause-fault : goal.returns-in_err-control-clause-fault
returns-in_err-control-clause-fault c = rw (c.in_ok-check_known.ensures.ok, c.in_ok-image.ensures.ok, c.in_ok-ram.ensures.ok, c.in_ok-harts.ensures.ok, c.in_ok-steps.ensures.ok, c.in_ok-journal_entries.ensures.ok, c.in_ok-journal_bytes.ensures.ok, c.in_ok-tube.ensures.ok) (search rules)

pub returns-in_err-device-clause-fault : goal.returns-in_err-device-clause-fault
returns-in_err-device-clause-fault c = rw (c.in_ok-check_known.ensures.ok, c.in_ok-image.ensures.ok, c.in_ok-ram.ensures.ok, c.in_ok-harts.ensures.ok, c.in_ok-steps.ensures.ok, c.in_ok-journal_entries.ensures.ok, c.in_ok-journal_bytes.ensures.ok, c.in_ok-tube.ensures.ok, c.in_ok-control.ensures.ok) (search rules)
