use Rattle.t2mi_stream.proofs.UnpiperLemmas.{fed_push, released_push, fed_release, released_release}
use Rattle.t2mi_stream.proofs.laws.events_push_law.Goals as goal

pub returns : goal.returns
returns c = λ events. record {
  fed_more = fed_push events;
  released_same = released_push events;
  fed_same = fed_release events;
  released_more = released_release events;
}
