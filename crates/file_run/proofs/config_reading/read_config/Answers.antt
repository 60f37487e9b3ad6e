use Rattle.file_run.proofs.ConfigReadingLemmas.{reading_fails, front_read, front_not_read, config_ok, config_err}
use Rattle.file_run.proofs.config_reading.read_config.Goals as goal

pub returns-in_default-read_text-clause-err : goal.returns-in_default-read_text-clause-err
returns-in_default-read_text-clause-err g c =
    front_not_read _ _ _ _ _ _ _ c.in-Ok.ensures c.in-Ok-open.ensures.ok c.in-Ok-open.ensures.counts.ok
    c.read_text.ensures.reads
    c.in_default-read_text.ensures.err (reading_fails (g.D.Desk.state c.args.desk.now)
    (g.D.Desk.state c.open-2.new.self)
    (g.D.Desk.state c.read_text.new.desk) _ c.in-Ok-open.ensures.counts.ok c.read_text.ensures.counts
    c.in_default-read_text.ensures.counts.err c.in_default-read_text.ensures.counts.first)

pub returns-clause-ok : goal.returns-clause-ok
returns-clause-ok g c =
    config_ok _ _ _ _ _
    (front_read _ _ _ _ _ _ _ _ c.in-Ok.ensures c.as_bytes.ensures c.in-Ok-open.ensures.ok
    c.in-Ok-open.ensures.counts.ok
    c.read_text.ensures.reads c.in-Ok-read_text.ensures.counts.ok c.read_text.ensures.few c.in-Ok-read_text.ensures.end)
    c.valid_config.ensures.ok

pub returns-clause-err : goal.returns-clause-err
returns-clause-err g c =
    config_err _ _ _ _ _
    (front_read _ _ _ _ _ _ _ _ c.in-Ok.ensures c.as_bytes.ensures c.in-Ok-open.ensures.ok
    c.in-Ok-open.ensures.counts.ok
    c.read_text.ensures.reads c.in-Ok-read_text.ensures.counts.ok c.read_text.ensures.few c.in-Ok-read_text.ensures.end)
    c.valid_config.ensures.err
