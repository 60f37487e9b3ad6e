-- A record came that was taken, or one that was refused.
use Rattle.site_frame.specs.RecordFile.{IsOnGrid}
use Rattle.std.proofs.Common.{◌≡◌, ℕ, ◌+◌, ◌<◌, List, [], ◌∷◌, ◌++◌, length, map, take, Option, Some, refl, ap, ap₂}
use Rattle.std.proofs.Common.{sym, subst, ◌∙◌, arith, append-nil, length-append}
use Rattle.std.specs.Prelude.{unwrap_or}
use Rattle.std.specs.List.{concat, range_with_len}
use Rattle.std.proofs.Math.Seq.{take-length, take-append_seam}
use Rattle.std.proofs.lemmas.List.{map-append}
use Rattle.terms.proofs.RangeLemmas.{range_more}
use Rattle.plp_config.specs.Capacity.{IsPlan}
use Rattle.plp_config.specs.Emission.{emission}
use Rattle.plp_config.specs.declared.config.Config.{Config}
use Rattle.plp_config.specs.declared.moment.Moment.{Moment}
use Rattle.site_frame.specs.Placing.{IsFrameOf, IsPlaced}
use Rattle.site_frame.specs.Whole.{moment_of}
use Rattle.site_frame.specs.declared.reading.RecordView.{RecordView}
use Rattle.plp_receiver.specs.JointLaws.{JoinedFront}
use Rattle.plp_receiver.specs.JointStandsFor.{JoinedReceiverStandsFor, network_of, plp_of, joins_of, frame_of, due_of}
use Rattle.plp_receiver.specs.JoinedBack.{MayJoin, JoinedBackWith}
use Rattle.plp_receiver.specs.declared.joined_receiver.JoinedReceiver.{JoinedReceiver}
use Rattle.receive_run.specs.Received.{expected_after}
use Rattle.receive_run.specs.AsMachine.{GavePackets, Given, first_of}
use Rattle.receive_run.specs.Taking.{expected_by, TakesView, TellsDue}

-- ---- successive frames

-- the record of one frame
successive_one : (c : Config) (first : ℕ) (view : RecordView) → IsFrameOf c (moment_of view) first
    → IsOnGrid c first (view ∷ [])
successive_one c first view f = record {
  moments = ap (λ (m : Moment). m ∷ []) f.emission-is;
  small = (let s = f.small in omega (arith, s));
}

-- and of the next one
successive_more : (c : Config) (first : ℕ) (views : List RecordView) (view : RecordView) → IsOnGrid c first views
    → IsFrameOf c (moment_of view) (first + length views) → IsOnGrid c first (views ++ view ∷ [])
successive_more c first views view a f =
    let count = length-append views (view ∷ []) in
    let one : length (views ++ view ∷ []) ≡ length views + 1 = omega (arith, count) in
    record {
      moments = map-append moment_of views (view ∷ [])
          ∙ ap₂ (λ (l : List Moment) (m : Moment). l ++ m ∷ []) a.moments f.emission-is
          ∙ sym (map-append (emission c) (range_with_len first (length views)) ((first + length views) ∷ []))
          ∙ ap (map (emission c)) (sym (range_more first (length views)) ∙ ap (range_with_len first) (sym one));
      small = (let s = f.small in omega (arith, s, one));
    }

-- ---- what is given

-- the receiver took a record, by what was expected: what it stands for and has given
pub record CameGiven (joins : Option ℕ) (c : Config) (plp : ℕ) (v : JoinedReceiver) (first : ℕ)
    (views : List RecordView) (view : RecordView)
    (released : ℕ) (text : List ℕ) (start : ℕ) : Type 0 where
  pub successive : IsOnGrid c start (views ++ view ∷ [])
  pub given : GavePackets joins c plp v start (views ++ view ∷ []) released text

-- what is given back, by the same things under other names
pub back_as : (i j : Option ℕ) (c d : Config) (p q first : ℕ) (views : List RecordView) (packets : List (List ℕ))
    → i ≡ j → c ≡ d
    → p ≡ q → JoinedBackWith i c p first views packets → JoinedBackWith j d q first views packets
back_as i j c d p q first views packets o n e b =
    subst (λ (k : Option ℕ). JoinedBackWith k d q first views packets) o
    (subst (λ (k : Config). JoinedBackWith i k q first views packets) n
    (subst (λ (k : ℕ). JoinedBackWith i c k first views packets) e b))

-- the first one
first_given : (joins : Option ℕ) (c : Config) (plp : ℕ) (v : JoinedReceiver) (view : RecordView) (frame released : ℕ)
    (text : List ℕ) → network_of v ≡ c
    → plp_of v ≡ plp → joins_of v ≡ joins → frame_of v ≡ frame + 1 → JoinedReceiverStandsFor v frame (view ∷ []) 0
    → TellsDue v → released ≡ 0 → text ≡ []
    → GavePackets joins c plp v frame (view ∷ []) released text
first_given joins c plp v view frame released text same_c same_p same_j number stands due none empty =
    let d = due frame (view ∷ []) 0 stands in record {
      stands = subst (JoinedReceiverStandsFor v frame (view ∷ [])) (sym none) stands;
      frame = number;
      packets = d.0;
      back = back_as (joins_of v) joins (network_of v) c (plp_of v) plp frame (view ∷ []) d.0 same_j same_c same_p d.1;
      inside = omega (arith, none);
      due = (let e = d.2 in omega (arith, e, none));
      text_is = empty ∙ ap (λ (n : ℕ). concat (take n d.0)) (sym none);
      early = record { before = []; last = view; are = refl; packets = []; back = refl; more = []; begins = empty };
    }

-- one more
next_given : JoinedFront → (joins : Option ℕ) (c : Config) (plp : ℕ) (old new : JoinedReceiver) (first : ℕ)
    (w : RecordView) (ws : List RecordView)
    (view : RecordView) (released : ℕ) (text : List ℕ) → IsPlan c → plp < length c.plps → MayJoin c plp joins
    → network_of new ≡ c → plp_of new ≡ plp → joins_of new ≡ joins → due_of old ≡ 0
    → frame_of new ≡ first + length (w ∷ ws) + 1 → JoinedReceiverStandsFor new first ((w ∷ ws) ++ view ∷ []) released
    → TellsDue new → GavePackets joins c plp old first (w ∷ ws) released text
    → GavePackets joins c plp new first ((w ∷ ws) ++ view ∷ []) released text
next_given front joins c plp old new first w ws view released text plan inside may same_c same_p same_j
    none number stands due g =
    let d = due first ((w ∷ ws) ++ view ∷ []) released stands in
    let back : JoinedBackWith joins c plp first ((w ∷ ws) ++ view ∷ []) d.0 =
    back_as (joins_of new) joins (network_of new) c (plp_of new) plp first ((w ∷ ws) ++ view ∷ []) d.0
    same_j same_c same_p d.1 in
    let more = front joins c plp first (w ∷ ws) (view ∷ []) g.packets d.0 plan inside may g.back back in
    let least = g.inside in
    let waits = g.due in
    let all : released ≡ length g.packets = omega (arith, least, waits, none) in
    let size = ap length more.1 in
    let sum = length-append g.packets more.0 in
    let taken : take released d.0 ≡ g.packets = ap₂ (λ (n : ℕ) (l : List (List ℕ)). take n l) all more.1
    ∙ take-append_seam g.packets more.0 in
    let whole : text ≡ concat g.packets = g.text_is ∙ ap (λ (n : ℕ). concat (take n g.packets)) all
    ∙ ap concat (take-length g.packets) in
    record {
      stands = stands;
      frame = (let one = length-append (w ∷ ws) (view ∷ []) in omega (arith, number, one));
      packets = d.0;
      back = back;
      inside = omega (arith, all, size, sum);
      due = d.2;
      text_is = whole ∙ ap concat (sym taken);
      early = record {
        before = w ∷ ws;
        last = view;
        are = refl;
        packets = g.packets;
        back = g.back;
        more = [];
        begins = whole
            ∙ sym (append-nil (concat g.packets));
      };
    }

pub came_given : JoinedFront → (joins : Option ℕ) (c : Config) (plp : ℕ) (old new : JoinedReceiver) (first frame : ℕ)
    (views : List RecordView)
    (view : RecordView) (released : ℕ) (text : List ℕ) → IsPlan c → plp < length c.plps → MayJoin c plp joins
    → network_of new ≡ c → plp_of new ≡ plp → joins_of new ≡ joins → due_of old ≡ 0 → frame_of new ≡ frame + 1
    → IsPlaced c (expected_by (first_of first views) (length views))
    (moment_of view) frame → TakesView (expected_by (first_of first views) (length views)) old new frame view
    → TellsDue new
    → IsOnGrid c first views → Given joins c plp old first views released text
    → CameGiven joins c plp new first views view released text (unwrap_or (first_of first views) frame)
came_given front joins c plp old new first frame [] view released text plan inside may same_c same_p
    same_j none number placed comes
    due a g =
    record {
      successive = successive_one c frame view placed.0;
      given = first_given joins c plp new view frame released text same_c same_p same_j number comes due g.2 g.3;
    }
came_given front joins c plp old new first frame (w ∷ ws) view released text plan inside may same_c same_p
    same_j none number placed
    comes due a g = record {
      successive = successive_more c first (w ∷ ws) view a (subst (IsFrameOf c (moment_of view)) (sym placed.1)
          placed.0);
      given = next_given front joins c plp old new first w ws view released text plan inside may same_c
          same_p same_j none (let e = placed.1 in
          omega (arith, number, e)) (comes first (w ∷ ws) released g.stands) due g;
    }

-- the first one of more is the first one
pub first_after : (first frame : ℕ) (views : List RecordView) (view : RecordView)
    → Some (unwrap_or (first_of first views) frame)
    ≡ first_of (unwrap_or (first_of first views) frame) (views ++ view ∷ [])
first_after first frame [] view = refl
first_after first frame (w ∷ ws) view = refl

-- what is expected
pub expected_is : (first : ℕ) (views : List RecordView) → expected_by (first_of first views) (length views)
    ≡ expected_after first views
expected_is first [] = refl
expected_is first (w ∷ ws) = refl
