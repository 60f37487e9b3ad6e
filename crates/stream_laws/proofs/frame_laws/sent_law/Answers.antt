use Rattle.stream_laws.proofs.SentLemmas.{frame_carries, sent_are_frames}
use Rattle.stream_laws.proofs.frame_laws.sent_law.Goals as goal

pub returns-clause-frames : goal.returns-clause-frames
returns-clause-frames c = sent_are_frames frame_carries

pub returns-clause-carries : goal.returns-clause-carries
returns-clause-carries c = frame_carries
