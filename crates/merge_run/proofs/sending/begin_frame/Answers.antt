use Rattle.std.proofs.Common.{◌≡◌, ◌∙◌, ap, sym}
use Rattle.plp_config.specs.declared.config.Config.{Config}
use Rattle.modulator.specs.StandsFor.{records_due}
use Rattle.stream_laws.specs.Remade.{remade_bodies}
use Rattle.open_group.specs.Shown.{Shows}
use Rattle.frame_writer.specs.Left.{bodies_of}
use Rattle.feed_merge.specs.Frames.{dynamic_of, lists_of}
use Rattle.feed_merge.specs.StandsFor.{config_of, left_in}
use Rattle.merge_run.specs.Sending.{frame_by, left_for}
use Rattle.merge_run.proofs.FrameLemmas.{pushed, sent}
use Rattle.merge_run.proofs.UnitLemmas.{left_is, sent_in}
use Rattle.merge_run.proofs.sending.begin_frame.Goals as goal

pub frame-requires-clause-can : goal.frame-requires-clause-can
frame-requires-clause-can c = sent_in _ _ c.frame-frame.result c.requires.network (λ e. e) c.frame-frame.ensures.is.can

pub returns : goal.returns
returns c = record {
  begun = λ net plan bytes ended given s x later all g content number.
      let old = c.args.merger.now in
      let new = c.frame.new.self in
      let feed = c.args.feed.now in
      let k : Config = config_of old in
      let f = c.frame-frame.result in
      let is = c.frame-frame.ensures.is in
      let due = ap (λ (k : Config). records_due k ended bytes) net ∙ all in
      let shows : Shows k g.packets (dynamic_of feed) (lists_of feed) =
      rw net at (c.frame-frame.ensures.shows bytes ended given s x later due g content) in
      let bodies = sent c.due_records_law.ensures.pass c.shown_law.ensures k ended bytes given x later g f feed plan all
      content shows net is in
      let left : left_in new f ≡ left_for new feed = left_is new feed f is (net ∙ sym c.frame.ensures.config) in
      record {
        stands = λ frames count h.
            rw (← pushed k frames (frame_by k x) (bodies_of k x.number f) bodies, ← left, number)
            (c.frame.ensures.stands (remade_bodies k frames) count h);
        more = rw (← left, ← bodies, number) c.frame.ensures.more;
      };
  config = c.frame.ensures.config;
  finished = c.frame.ensures.finished;
}
