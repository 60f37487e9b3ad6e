-- What is shown of bytes that came, and of their end.
use Rattle.std.proofs.Common.{◌≡◌, ◌≤◌, false, ℕ, List, [], ◌++◌, ap, sym, ◌∙◌, arith, append-nil}
use Rattle.std.proofs.Math.Logic.{∥∥₁_map}
use Rattle.std.proofs.lemmas.Bool.{true≢false}
use Rattle.plp_config.specs.declared.config.Config.{Config}
use Rattle.file_run.specs.Events.{Event, fed, has_ended}
use Rattle.file_run.specs.Steps.{HasCome}
use Rattle.feed_merge.specs.declared.feed.FrameFeed.{FrameFeed}
use Rattle.feed_merge.specs.Both.{GoOn}
use Rattle.feed_merge.proofs.BothLemmas.{above_a, above_b, due_below}
use Rattle.feed_merge.proofs.NumberLemmas.{below_of}
use Rattle.compare_run.specs.AsMachine.{Becomes}
use Rattle.compare_run.specs.Comparing.{PlpDifference, plp_differences}
use Rattle.compare_run.specs.Lines.{known_text}
use Rattle.compare_run.specs.TallyStandsFor.{plps_in}
use Rattle.compare_run.specs.Shown.{Shown, HasShown, untold}
use Rattle.compare_run.specs.declared.machine.CompareMachine.{CompareMachine}
use Rattle.compare_run.proofs.GrowLemmas.{all_below}
use Rattle.compare_run.proofs.PlpLemmas.{said_known}

pub shown_read : (c : Config) (m : CompareMachine) (g h : FrameFeed) (events more : List Event) (s : Shown c events m)
    → plps_in m.carried ≤ m.plp → m.done ≡ false → GoOn c events more m.next g h s.given_a s.given_b
    → Shown c more (record m { a = g; b = h })
shown_read c m g h events more s told going go =
    let low_a = above_a c more false false m.next g h s.given_a s.given_b go.both in
    let low_b = above_b c more false false m.next g h s.given_a s.given_b go.both in
    record {
      config = s.config;
      plps = s.plps;
      given_a = s.given_a;
      given_b = s.given_b;
      both = go.both;
      low = m.next;
      few = omega arith;
      due_a = due_below c g (fed 0 more) (has_ended 0 more) s.given_a m.next low_a go.both.of_a;
      due_b = due_below c h (fed 1 more) (has_ended 1 more) s.given_b m.next low_b go.both.of_b;
      told = λ ga gb are_a are_b.
          let t = s.told ga gb (go.groups 0 (omega arith) ga are_a) (go.groups 1 (omega arith) gb are_b) in
          let of : ℕ → List PlpDifference = plp_differences c ga gb in
          record {
            carried = t.carried;
            tallied = t.tallied;
            few = t.few;
            said_is = ap (λ (l : List ℕ). l ++ untold c m) go.gave_is ∙ t.said_is;
            since = (
              [],
              go.gave_is ∙ said_known c m t told going
                  ∙ ap (known_text of)
                  (all_below c ga gb s.given_a s.given_b m.next (below_of m.next s.given_a low_a)
                  (below_of m.next s.given_b low_b))
                  ∙ sym (append-nil (known_text of _)),
            );
          };
      over = λ on. absurd (true≢false (sym on ∙ going));
    }

-- Something was done.
pub has_shown : (m : CompareMachine) → ∥ HasCome Becomes m ∥₁ → ∥ HasShown m ∥₁
has_shown m came = ∥∥₁_map came (λ (h : HasCome Becomes m). record {
  network = h.start.plan.now;
  events =
      h.events;
  shown = h.came;
})
