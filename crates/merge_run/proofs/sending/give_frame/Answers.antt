use Rattle.merge_run.proofs.UnitLemmas.{sent_in}
use Rattle.merge_run.proofs.sending.give_frame.Goals as goal

pub give-requires-clause-can : goal.give-requires-clause-can
give-requires-clause-can c = sent_in _ _ c.frame-frame.result c.requires.network (λ e. e) c.frame-frame.ensures.is.can
