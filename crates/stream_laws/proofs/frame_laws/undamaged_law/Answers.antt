use Rattle.stream_laws.proofs.FrameRecordLemmas.{kept_is_honest}
use Rattle.stream_laws.proofs.frame_laws.undamaged_law.Goals as goal

pub returns : goal.returns
returns c = kept_is_honest c.stream_law.ensures c.kept_law.ensures.honest
