use Rattle.std.proofs.Common.{ap, ◌≡◌, true, false, [], refl, arith, ◌<◌}
use Rattle.plp_config.specs.SlotTime.{num}
use Rattle.region_swap.specs.StandsFor.{Status}
use Rattle.swap_run.proofs.ShownLemmas.{becomes_itself}
use Rattle.swap_run.proofs.WantLemmas.{none_complete, none_over, none_read, sends_opened}
use Rattle.swap_run.proofs.LiveLemmas.{live_caught}
use Rattle.swap_run.proofs.machine.SwapMachine.open.Goals as goal

pub returns-clause-becomes : goal.returns-clause-becomes
returns-clause-becomes c =
    let f = c.in_ok-feed.ensures in
    let w = c.in_ok-swapper.ensures in
    let k = c.args.plan.now in
    let plan = c.rules_law.ensures.plan in
    let slot = c.length_law.ensures.slot k c.args.plp plan.rules c.requires in
    let lt : 0 < num k = (let a = slot.0 in let b = slot.2 in omega (arith, a, b)) in
    let none = none_over c.slot_time_law.ensures.none_at_zero c.length_law.ensures.slot k c.args.plp lt in
    becomes_itself _ c.args.plp (ap (λ (x : Status). x.plp) w.status) (record {
      base = record { config = refl; rules = plan; place = c.requires };
      read = none_read;
      of_feed = record { network = f.config; stands = f.stands };
      of_input = record {
        parts = refl;
        each = tt;
        count = refl;
        end = λ _. refl;
        told = λ on. absurd
            (let z : false ≡ true = on in cc);
      };
      frame = refl;
      had = λ off. none;
      sends = sends_opened k c.args.plp c.in_ok-swapper.swapper w.stands;
      status = w.status;
      counted = record { frames_is = refl; muted_is = refl; unsent_is = refl; joined_is = refl };
      bound = record { few = omega arith; early = omega arith; most = omega arith };
      live = live_caught k c.args.plp c.in_ok-feed.feed [] false [] c.in_ok-swapper.swapper none_read.told 0
          (record { network = f.config; stands = f.stands })
          (record { idle = w.unit; complete = λ input cont. none_complete k c.args.plp input });
      is_in = record {
        caught = record { idle = w.unit; complete = λ input cont. none_complete k c.args.plp input };
        next = refl;
        few = omega arith;
        quiet = record { rest_is = refl; tail_is = refl; calm = refl; ends = refl };
      };
    })
