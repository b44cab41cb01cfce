use Rattle.toml.specs.View.{table_view}
use Rattle.tv_machine_file.proofs.Answer.{answer, probes_answer, valid_answer}
use Rattle.tv_machine_file.proofs.reader.read.Goals as goal

pub returns-in-Ok-clause-answer : goal.returns-in-Ok-clause-answer
returns-in-Ok-clause-answer c =
    answer c.args.bytes.now (table_view c.in-Ok.table) c.read_table.result (record { utf8 = c.in-Ok.ensures.ok.0; parsed = c.in-Ok.ensures.ok.1 }) c.read_table.ensures.ok
    c.read_table.ensures.value c.read_table.ensures.fault

pub returns-in-Ok-clause-valid : goal.returns-in-Ok-clause-valid
returns-in-Ok-clause-valid c = valid_answer (table_view c.in-Ok.table) c.read_table.result c.read_table.ensures.ok c.read_table.ensures.value

pub returns-in-Ok-clause-probes : goal.returns-in-Ok-clause-probes
returns-in-Ok-clause-probes c = probes_answer (table_view c.in-Ok.table) c.read_table.result c.read_table.ensures.ok c.read_table.ensures.value
