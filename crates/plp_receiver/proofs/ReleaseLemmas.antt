-- A packet of a PLP that is given out with that of the common one of its group.
use Rattle.std.proofs.Common.{◌≡◌, ℕ, ◌+◌, ◌<◌, max, List, Option, Some, None, refl, ap, ap₂, sym, subst}
use Rattle.std.proofs.Common.{◌∙◌, arith}
use Rattle.std.specs.Prelude.{slice_get}
use Rattle.std.proofs.lemmas.Bool.{lt-ltb}
use Rattle.std.proofs.lemmas.Option.{slice_get_within, get_or_from_slice_get}
use Rattle.plp_receiver.specs.StandsFor.{TellsDue}
use Rattle.plp_config.specs.declared.config.Config.{Config}
use Rattle.site_frame.specs.declared.reading.RecordView.{RecordView}
use Rattle.plp_receiver.specs.Epochs.{Readback}
use Rattle.plp_receiver.specs.StandsFor as one
use Rattle.plp_receiver.specs.declared.receiver.Receiver.{Receiver}
use Rattle.common_plp.specs.Laws.{JoinedSlots}
use Rattle.common_plp.specs.Shared.{joined_packet}
use Rattle.common_plp.specs.Split.{joined}
use Rattle.plp_receiver.specs.Both.{Gives, GivesJoined}
use Rattle.plp_receiver.specs.JoinedBack.{JoinedBackWith}
use Rattle.plp_receiver.specs.JointStandsFor.{CommonStandsFor, common_at, common_due}
use Rattle.plp_receiver.proofs.DueLemmas.{OfPlan, equal_due}

-- one more was given out, if one was due
one_more : (old new : Receiver) (packet : List ℕ) → 0 < one.due_of old → Gives packet old new
    → (first : ℕ) (views : List RecordView)
    (released : ℕ) → one.ReceiverStandsFor old first views released
    → one.ReceiverStandsFor new first views (released + 1)
one_more old new packet some g first views released s =
    rw (lt-ltb 0 (one.due_of old) some) at (g.stands first views released s)

-- The packets of two receivers in step were given out, if one was due.
pub stands_on : (own own_new : Receiver) (other other_new : Option Receiver) (packet out : List ℕ) → OfPlan own other
    → 0 < max (one.due_of own) (common_due other) → Gives packet own own_new → GivesJoined other other_new packet out
    → (first : ℕ) (views : List RecordView) (released : ℕ) → one.ReceiverStandsFor own first views released
    → CommonStandsFor other first views released
    → one.ReceiverStandsFor own_new first views (released + 1) × CommonStandsFor other_new first views (released + 1)
stands_on own own_new None None packet out p some g h first views released s t =
    (one_more own own_new packet (omega (arith, some)) g first views released s, tt)
stands_on own own_new None (Some w) packet out p some g h first views released s t = absurd h
stands_on own own_new (Some v) None packet out p some g h first views released s t = absurd h
stands_on own own_new (Some v) (Some w) packet out p some g h first views released s t =
    let same = equal_due own v p first views released s t in (
      one_more own own_new packet (omega (arith, some, same)) g first views released s,
      one_more v w h.0 (omega (arith, some, same)) h.1 first views released t,
    )

-- the packets at a slot, joined
joined_here : JoinedSlots → (shared own : List (List ℕ)) (k : ℕ) (p q : List ℕ) → slice_get shared k ≡ Some p
    → slice_get own k ≡ Some q → slice_get (joined shared own) k ≡ Some (joined_packet p q)
joined_here slots shared own k p q a b = grind (arith, slice_get_within, ap₂, get_or_from_slice_get)

-- And what was given out is the packet of the slot.
pub answer_is : (own own_new : Receiver) (other other_new : Option Receiver) (packet out : List ℕ) → OfPlan own other
    → 0 < max (one.due_of own) (common_due other) → Gives packet own own_new → GivesJoined other other_new packet out
    → (first : ℕ) (views : List RecordView) (released : ℕ) (packets : List (List ℕ))
    → one.ReceiverStandsFor own first views released → CommonStandsFor other first views released
    → JoinedBackWith (common_at other) (one.network_of own) (one.plp_of own) first views packets
    → slice_get packets released ≡ Some out
answer_is own own_new None None packet out p some g h first views released packets s t b =
    g.answer (omega (arith, some)) first views released packets s b ∙ ap (λ (q : List ℕ). Some q) (sym h)
answer_is own own_new None (Some w) packet out p some g h first views released packets s t b = absurd h
answer_is own own_new (Some v) None packet out p some g h first views released packets s t b = absurd h
answer_is own own_new (Some v) (Some w) packet out p some g h first views released packets s t b =
    let same = equal_due own v p first views released s t in
    let shared = h.1.answer (omega (arith, some, same)) first views released b.shared t
    (subst (λ (d : Config). Readback d (one.plp_of v) first views b.shared) (sym (p.step.both v refl).network)
    b.back_shared) in
    let mine = g.answer (omega (arith, some, same)) first views released b.own s b.back_own in
    ap (λ (l : List (List ℕ)). slice_get l released) b.packets_are
    ∙ joined_here p.slots b.shared b.own released h.0 packet shared mine
    ∙ ap (λ (q : List ℕ). Some q) (sym h.2)
