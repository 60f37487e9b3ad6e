-- The last frame.
use Rattle.std.proofs.Common.{◌≡◌, ℕ, ◌*◌, ◌<◌, ◌≤◌, Bool, true, List, [], length, refl, ap, sym, ◌∙◌, arith}
use Rattle.std.proofs.Common.{length-take, append-nil}
use Rattle.std.specs.Prelude.{◌↔◌}
use Rattle.std.specs.declared.option.Option.{Option}
use Rattle.std.proofs.lemmas.Bool.{true_from_ne_false}
use Rattle.gateway_core.proofs.WantLemmas.{wants_is, none_wanted}
use Rattle.plp_config.specs.Capacity.{IsPlan}
use Rattle.plp_config.specs.RunLength.{frame_count}
use Rattle.plp_config.specs.SlotTime.{slots_by}
use Rattle.plp_config.specs.declared.config.Config.{Config}
use Rattle.common_plp.specs.Split.{split}
use Rattle.gateway_core.specs.Events.{Event, offered, has_ended, begun}
use Rattle.gateway_core.specs.InputSoFar.{Continues}
use Rattle.gateway_core.specs.Laws.{NotYetLast}
use Rattle.gateway_core.specs.StandsFor as core
use Rattle.gateway_core.specs.StandsFor.{GatewayStandsFor, plps_of, wants_of}
use Rattle.gateway_core.specs.declared.gateway.Gateway.{Gateway}
use Rattle.gateway_core.proofs.LawLemmas.{frame_count_same}
use Rattle.gateway_core.specs.Continuing.{IsLast, frames_of}
use Rattle.gateway_core.specs.Works.{Works}
use Rattle.gateway_core.proofs.SplitLemmas.{told_as, closed_length}

-- what came continues itself, once all ended
itself : (c : Config) (events : List Event) (plp : ℕ)
    → Continues (told_as (λ q. offered q events) (λ q. has_ended q events) (begun events) plp) (offered plp events)
itself c events plp = record { rest = []; front = sym (append-nil (offered plp events)); whole = λ on. refl }

module _ {c : Config} {g : Gateway} {held : List (Option (List ℕ))} {events : List Event} (w : Works c g held events)
  where
    -- no more was given of a stream than it has, and all of it once it was closed
    least_given : (plp : ℕ) → plp < length c.plps
        → length (offered plp w.done) ≤ length (split c (λ q. offered q events) plp)
    least_given plp lt = omega (
      arith,
      ap length (w.splits.splits.each plp lt).front,
      length-take (length (offered plp w.done)) (split c (λ q. offered q events) plp),
    )

    frames_are : ((plp : ℕ) → plp < length c.plps → has_ended plp w.done ≡ true)
        → frame_count c (λ plp. length (offered plp w.done)) ≡ frames_of c (λ plp. offered plp events)
    frames_are all =
        frame_count_same c (λ plp. length (offered plp w.done)) (λ plp. length (split c (λ q. offered q events) plp))
        (λ plp lt.
        let most = closed_length c (λ q. offered q events) (λ q. offered q events) (λ q. has_ended q events)
        (offered plp w.done) (has_ended plp w.done) plp (begun events) lt (w.splits.splits.each plp lt)
        (λ q i. itself c events q) (all plp lt) in
        omega (arith, least_given plp lt, most))

    -- if the last frame was begun all streams were closed
    all_closed : NotYetLast → IsPlan c → plps_of g ≡ length c.plps
        → ((plp : ℕ) → plp < length c.plps → wants_of g plp ≡ 0)
        → IsLast c events → (plp : ℕ) → plp < length c.plps → has_ended plp w.done ≡ true
    all_closed law plan plps none last plp lt =
        true_from_ne_false (has_ended plp w.done) (λ off.
        let enough = none_wanted (has_ended plp w.done) (slots_by c plp (begun w.done * c.ticks))
        (length (offered plp w.done)) (wants_of g plp)
        (wants_is g c w.done plp w.stands (omega (arith, lt, plps))) (none plp lt) off in
        let more = law c (λ p. length (split c (λ q. offered q events) p)) plp (begun w.done) plan lt
        (omega (arith, enough, least_given plp lt)) in
        omega (arith, more, last.frames, w.splits.begun_is))

    pub last_is : NotYetLast → (answer : Bool) → IsPlan c → plps_of g ≡ length c.plps
        → ((plp : ℕ) → plp < length c.plps → wants_of g plp ≡ 0)
        → ((d : Config) (done : List Event) → GatewayStandsFor g d done → (answer ≡ true) ↔ core.IsLast d done)
        → (answer ≡ true) ↔ IsLast c events
    last_is law answer plan plps none tells = (
      λ on. let l = (tells c w.done w.stands).0 on in record {
        ended = λ plp i. sym (w.splits.splits.closed_is plp i) ∙ l.ended plp i.0;
        frames = sym w.splits.begun_is ∙ l.frames ∙ frames_are l.ended;
      },
      λ last.
          let all = all_closed law plan plps none last in
          (tells c w.done w.stands).1 (record {
            ended = all;
            frames = w.splits.begun_is ∙ last.frames ∙ sym (frames_are all);
          }),
    )
