-- The laws of what a PLP is given back together with the common one.
use Rattle.std.proofs.Common.{ℕ, List, ◌++◌, Some, None, refl, ap, ap₂, sym, ◌∙◌}
use Rattle.plp_receiver.specs.Laws.{ReadbackOnce, ReadbackFront}
use Rattle.common_plp.specs.Laws.{JoinedSlots}
use Rattle.common_plp.specs.Split.{joined}
use Rattle.common_plp.proofs.LawLemmas.{has_common}
use Rattle.plp_receiver.specs.JointLaws.{JoinedOnce, JoinedFront}

pub joined_once : ReadbackOnce → JoinedOnce
joined_once once None c plp first views packets other a b = once c plp first views packets other a b
joined_once once (Some common) c plp first views packets other a b =
    a.packets_are
    ∙ ap₂ joined (once c common first views a.shared b.shared a.back_shared b.back_shared)
    (once c plp first views a.own b.own a.back_own b.back_own)
    ∙ sym b.packets_are

pub joined_front : ReadbackFront → JoinedSlots → JoinedFront
joined_front front slots None c plp first views more packets all plan inside may a b =
    front c plp first views more packets all plan inside a b
joined_front front slots (Some common) c plp first views more packets all plan inside may a b =
    let within = (has_common c plp common (may common refl)).inside in
    let shared = front c common first views more a.shared b.shared plan within a.back_shared b.back_shared in
    let own = front c plp first views more a.own b.own plan inside a.back_own b.back_own in (
      joined shared.0 own.0,
      b.packets_are ∙ ap₂ joined shared.1 own.1 ∙ slots.more a.shared a.own shared.0 own.0 a.same_slots
          ∙ ap (λ (l : List (List ℕ)). l ++ joined shared.0 own.0) (sym a.packets_are),
    )
