-- Packets that a receiver gives out, one after the other.
use Rattle.std.proofs.Common.{◌≡◌, ℕ, zero, suc, ◌+◌, ◌-◌, ◌<◌, List, [], ◌∷◌, ◌++◌, take, drop, Some, ap, ◌∙◌}
use Rattle.std.proofs.Common.{arith, append-nil}
use Rattle.std.specs.Prelude.{slice_get}
use Rattle.std.specs.List.{concat}
use Rattle.std.proofs.Math.Seq.{take-add}
use Rattle.std.proofs.lemmas.List.Folds.{concat-append}
use Rattle.std.proofs.lemmas.Option.{slice_get_within, same_Some}
use Rattle.terms.proofs.OptionLemmas.{none_some}
use Rattle.site_frame.specs.declared.reading.RecordView.{RecordView}
use Rattle.plp_receiver.specs.StandsFor.{Status}
use Rattle.plp_receiver.specs.JoinedBack.{JoinedBackWith}
use Rattle.plp_receiver.specs.JointStandsFor.{JoinedReceiverStandsFor, status_of, network_of, plp_of, joins_of, due_of}
use Rattle.plp_receiver.specs.declared.joined_receiver.JoinedReceiver.{JoinedReceiver}
use Rattle.receive_run.specs.Taking.{GivesPacket}

-- ---- lists of packets

-- what stands at a place is the first of the rest
one_at : {X : Type 0} (xs : List X) (k : ℕ) (x : X) → slice_get xs k ≡ Some x → take 1 (drop k xs) ≡ x ∷ []
one_at [] zero x e = none_some x e
one_at [] (suc k) x e = none_some x e
one_at (y ∷ xs) zero x e = ap (λ (z : _). z ∷ []) (same_Some y x e)
one_at (y ∷ xs) (suc k) x e = one_at xs k x e

-- the bytes of one packet more
one_more : (packets : List (List ℕ)) (k : ℕ) (packet : List ℕ) → slice_get packets k ≡ Some packet
    → concat (take (k + 1) packets)
    ≡ concat (take k packets) ++ packet
one_more packets k packet e =
    ap concat (take-add k 1 packets ∙ ap (λ (l : List (List ℕ)). take k packets ++ l) (one_at packets k packet e))
    ∙ concat-append (take k packets) (packet ∷ [])
    ∙ ap (λ (l : List ℕ). concat (take k packets) ++ l) (append-nil packet)

-- ---- a receiver

pub gives_one : (old new : JoinedReceiver) (packet : List ℕ) → 0 < due_of old
    → status_of new ≡ record (status_of old) { due = due_of old - 1 } → joins_of new ≡ joins_of old
    → ((first : ℕ) (views : List RecordView) (released : ℕ) → JoinedReceiverStandsFor old first views released
    → JoinedReceiverStandsFor new first views (released + 1))
    → ((first : ℕ) (views : List RecordView) (released : ℕ) (packets : List (List ℕ))
    → JoinedReceiverStandsFor old first views released
    → JoinedBackWith (joins_of old) (network_of old) (plp_of old) first views packets
    → slice_get packets released ≡ Some packet)
    → GivesPacket old new packet
gives_one old new packet some status joins stands answer =
    let due = ap (λ (s : Status). s.due) status in
    record {
      same = (ap (λ (s : Status). s.network) status, ap (λ (s : Status). s.plp) status, joins);
      frame = ap (λ (s : Status). s.frame) status;
      due = omega (arith, some, due);
      stands = stands;
      packets = λ first views released packets s back inside.
          let here = answer first views released packets s back in
          let within = slice_get_within packets released packet here in
          (omega (arith, within), one_more packets released packet here);
    }
