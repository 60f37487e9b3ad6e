-- Packets that are due were given.
use Rattle.std.proofs.Common.{◌≡◌, ℕ, ◌+◌, ◌-◌, ◌^◌, ◌<◌, min, Bool, List, [], ◌∷◌, ◌++◌, length, Option, ap, sym}
use Rattle.std.proofs.Common.{subst, ◌∙◌, arith, append_assoc}
use Rattle.std.specs.List.{concat}
use Rattle.plp_config.specs.declared.config.Config.{Config}
use Rattle.site_frame.specs.RecordFile.{IsOnGrid}
use Rattle.site_frame.specs.declared.reading.RecordView.{RecordView}
use Rattle.site_frame.specs.FeedStandsFor.{RecordFeedStandsFor, coming_of, left_of}
use Rattle.site_frame.specs.declared.coming.Coming.TheVariants.{Head, Whole}
use Rattle.site_frame.specs.declared.feed.RecordFeed.{RecordFeed}
use Rattle.plp_receiver.specs.JointStandsFor.{network_of, plp_of, joins_of, due_of}
use Rattle.plp_receiver.specs.JoinedBack.{JoinedBackWith}
use Rattle.plp_receiver.specs.declared.joined_receiver.JoinedReceiver.{JoinedReceiver}
use Rattle.file_run.specs.Events.{Event, Gave, fed, has_ended, gave}
use Rattle.file_run.specs.Laws.{EventsTell}
use Rattle.receive_run.specs.Received.{expected_after}
use Rattle.receive_run.specs.AsMachine.{GaveEarly, GavePackets, Given, Becomes}
use Rattle.receive_run.specs.Taking.{GivesPacket}
use Rattle.receive_run.specs.declared.machine.ReceiverMachine.{ReceiverMachine}
use Rattle.receive_run.proofs.CameLemmas.{back_as}
use Rattle.receive_run.proofs.StepLemmas.{judged_none}

-- more was given
early_more : (joins : Option ℕ) (c : Config) (plp first : ℕ) (views : List RecordView) (text bytes : List ℕ)
    → GaveEarly joins c plp first views text
    → GaveEarly joins c plp first views (text ++ bytes)
early_more joins c plp first views text bytes e = record {
  before = e.before;
  last = e.last;
  are = e.are;
  packets = e.packets;
  back = e.back;
  more = e.more ++ bytes;
  begins = ap (λ (l : List ℕ). l ++ bytes) e.begins ∙ append_assoc (concat e.packets) e.more bytes;
}

-- of the packets that wait some were
gave_more : (joins : Option ℕ) (c : Config) (plp : ℕ) (old new : JoinedReceiver) (first : ℕ) (views : List RecordView)
    (released : ℕ) (text bytes : List ℕ)
    → network_of old ≡ c → plp_of old ≡ plp → joins_of old ≡ joins → GivesPacket old new bytes
    → GavePackets joins c plp old first views released text
    → GavePackets joins c plp new first views (released + 1) (text ++ bytes)
gave_more joins c plp old new first views released text bytes same_c same_p same_j gives g =
    let p = gives.packets first views released g.packets g.stands
    (back_as joins (joins_of old) c (network_of old) plp (plp_of old) first views g.packets (sym same_j)
    (sym same_c) (sym same_p)
    g.back) g.inside in
    let all = p.0 in
    let d = gives.due in
    let e = g.due in record {
      stands = gives.stands first views released g.stands;
      frame = gives.frame ∙ g.frame;
      packets = g.packets;
      back = g.back;
      inside = p.0;
      due = omega (arith, all, d, e);
      text_is = ap (λ (l : List ℕ). l ++ bytes) g.text_is ∙ sym p.1;
      early = early_more joins c plp first views text bytes g.early;
    }

-- a record came, since something is due
given_more : (joins : Option ℕ) (c : Config) (plp : ℕ) (old new : JoinedReceiver) (first : ℕ) (views : List RecordView)
    (released slots : ℕ)
    (text bytes : List ℕ) → network_of old ≡ c → plp_of old ≡ plp → joins_of old ≡ joins → 0 < due_of old
    → GivesPacket old new bytes
    → ((packets : List (List ℕ)) → JoinedBackWith joins c plp first views packets → length packets < 2 ^ 64)
    → slots ≡ min (released + 1) (2 ^ 64 - 1) → Given joins c plp old first views released text
    → Given joins c plp new first views slots (text ++ bytes)
given_more joins c plp old new first [] released slots text bytes same_c same_p same_j some gives few is g =
    absurd (let z = g.1 in omega (arith, z, some))
given_more joins c plp old new first (v ∷ vs) released slots text bytes same_c same_p same_j some gives few is g =
    let more = gave_more joins c plp old new first (v ∷ vs) released text bytes same_c same_p same_j gives g in
    let small = few more.packets more.back in
    let within = more.inside in
    let e : released + 1 ≡ slots = omega (arith, small, within, is) in
    subst (λ (k : ℕ). GavePackets joins c plp new first (v ∷ vs) k (text ++ bytes)) e more

pub gave_event : EventsTell → (start m n : ReceiverMachine) (events : List Event) (bytes packet : List ℕ)
    → 0 < due_of m.receiver
    → bytes ≡ packet → GivesPacket m.receiver n.receiver packet → n.slots ≡ min (m.slots + 1) (2 ^ 64 - 1)
    → n.feed ≡ m.feed
    → n.first ≡ m.first → n.misplaced ≡ m.misplaced
    → ((first : ℕ) (views : List RecordView) (packets : List (List ℕ)) → IsOnGrid (network_of m.receiver) first views
    → JoinedBackWith (joins_of m.receiver) (network_of m.receiver) (plp_of m.receiver) first views packets
    → length packets < 2 ^ 64)
    → Becomes start events m → Becomes start (events ++ Gave bytes ∷ []) n
gave_event law start m n events bytes packet some is given slots same first misplaced few b =
    let gives : GivesPacket m.receiver n.receiver bytes = subst (GivesPacket m.receiver n.receiver) (sym is) given in
    let joins : Option ℕ = joins_of start.receiver in
    let c : Config = network_of start.receiver in
    let plp : ℕ = plp_of start.receiver in
    let s = b.shown in
    let now : List Event = events ++ Gave bytes ∷ [] in
    let t = law.given bytes events in
    let between = s.between some in
    let small : (packets : List (List ℕ)) → JoinedBackWith joins c plp s.first s.views packets
    → length packets < 2 ^ 64 =
    λ packets back. few s.first s.views packets (subst (λ (e : Config). IsOnGrid e s.first s.views) (sym b.same.0)
    s.successive)
    (back_as joins (joins_of m.receiver) c (network_of m.receiver) plp (plp_of m.receiver) s.first s.views
    packets (sym b.same.2)
    (sym b.same.0) (sym b.same.1) back) in
    let feed : RecordFeedStandsFor n.feed s.views (fed 0 now) (has_ended 0 now) =
    subst (λ (l : List ℕ). RecordFeedStandsFor n.feed s.views l (has_ended 0 now)) (sym (t.fed 0))
    (subst (λ (e : Bool). RecordFeedStandsFor n.feed s.views (fed 0 events) e) (sym (t.ended 0))
    (subst (λ (f : RecordFeed). RecordFeedStandsFor f s.views (fed 0 events) (has_ended 0 events)) (sym same)
    s.feed)) in
    let heads : coming_of n.feed ≡ Head = ap coming_of same ∙ between.0 in
    record {
      same = (gives.same.0 ∙ b.same.0, gives.same.1 ∙ b.same.1, gives.same.2 ∙ b.same.2);
      shown = record {
        first = s.first;
        views = s.views;
        feed = feed;
        successive = s.successive;
        first_is = first ∙ s.first_is;
        judged = judged_none c (expected_after s.first s.views) n (coming_of n.feed) feed.rest (misplaced ∙ between.2)
            (λ whole. let e : Head ≡ Whole = sym heads ∙ whole in cc);
        given = subst (λ (l : List ℕ). Given joins c plp n.receiver s.first s.views n.slots l) (sym t.gave)
            (given_more joins c plp m.receiver n.receiver s.first s.views m.slots n.slots (gave events)
            bytes b.same.0 b.same.1
            b.same.2 some gives small slots s.given);
        between = λ more. (heads, ap left_of same ∙ between.1, misplaced ∙ between.2);
      };
    }
