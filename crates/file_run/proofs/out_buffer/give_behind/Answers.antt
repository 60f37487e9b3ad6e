use Rattle.std.proofs.Common.{rules, take}
use Rattle.file_run.proofs.BufferLemmas.{put_behind}
use Rattle.file_run.proofs.out_buffer.give_behind.Goals as goal

pub returns-clause-gathers : goal.returns-clause-gathers
returns-clause-gathers g c = record {
  piece = take c.give.result c.give.new.out;
  becomes = c.give.ensures.becomes;
  behind = put_behind _ c.give.new.out _ c.args.count c.give.result (search rules) (search rules);
}
