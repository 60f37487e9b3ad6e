-- What comes back of a file of the records of a run's frames.
use Rattle.std.proofs.Common.{◌≡◌, ℕ, zero, suc, ◌+◌, ◌*◌, ◌<◌, ◌≤◌, Bool, true, not, List, [], ◌∷◌, ◌++◌, map, length}
use Rattle.std.proofs.Common.{Option, None, refl, ap, sym, subst, ◌∙◌, arith}
use Rattle.std.specs.Prelude.{Ok, IfSome, replicate}
use Rattle.std.specs.List.{AllByRecursion, concat, range_with_len}
use Rattle.std.proofs.Math.Seq.{drop-append_seam}
use Rattle.std.proofs.lemmas.Bool.{cond_both}
use Rattle.ports.specs.Desk.{State, bytes_of}
use Rattle.plp_config.specs.Capacity.{IsPlan}
use Rattle.plp_config.specs.Emission.{emission}
use Rattle.plp_config.specs.Laws.{FrameCountLeast}
use Rattle.plp_config.specs.Plps.{plp_at}
use Rattle.plp_config.specs.Rules.Rule.{PlpCount}
use Rattle.plp_config.specs.declared.config.Config.{Config}
use Rattle.plp_config.specs.declared.moment.Moment.{Moment}
use Rattle.plp_config.specs.declared.moment.TheConstants.{MOST_FRAMES}
use Rattle.ts_packet.specs.Null.{null_packet}
use Rattle.null_delete.specs.Deletion.{packet_at}
use Rattle.site_frame.specs.Laws.{WrittenIsRead, OneRecord, NoRefusal, WrittenSpells, OneFrame}
use Rattle.site_frame.specs.RecordFile.{AreRecords, IsOnGrid}
use Rattle.site_frame.specs.Whole.{moment_of, record_bytes, FitsRecord}
use Rattle.site_frame.specs.declared.reading.RecordView.{RecordView}
use Rattle.site_frame.specs.declared.reading.RecordView.TheVariants.{Muted}
use Rattle.site_frame.proofs.RecordSplitLemmas.{stuck_nil, same_records}
use Rattle.record_laws.specs.Frames.{frame_of, run_frames}
use Rattle.record_laws.specs.Laws.{RangeFits}
use Rattle.record_laws.specs.Records.{record_of, file_bytes}
use Rattle.record_laws.specs.Recover.{recover}
use Rattle.stream_laws.specs.SentFrames.{run_length}
use Rattle.stream_laws.specs.Types.{TypesFit}
use Rattle.plp_receiver.specs.Epochs.{Readback}
use Rattle.plp_receiver.specs.JoinedBack.{JoinedBackWith}
use Rattle.file_run.specs.Work.{Ends, Into}
use Rattle.site_top.proofs.PlanCommandLemmas.{holds_of}
use Rattle.receive_run.specs.JoinedReceived as joined
use Rattle.receive_run.specs.JoinedRun as run
use Rattle.receive_run.specs.Received.{Received}
use Rattle.receive_run.specs.declared.stop.ReceiveRan.{ReceiveRan}
use Rattle.network_laws.specs.RecoverLaws.{RunRecovers, RunComesBack, IsCanonical}
use Rattle.network_laws.specs.ToldEpochs.{IsPacket}
use Rattle.site_top.specs.ReceiveCommand.{ComesBack, HoldsWhatComesBack, ReceivedComesBack}

-- what the laws say that are wanted
pub record FileLaws : Type 0 where
  pub read : WrittenIsRead
  pub one : OneRecord
  pub spells : WrittenSpells
  pub never : NoRefusal
  pub frame : OneFrame
  pub fits : RangeFits
  pub least : FrameCountLeast
  pub recovers : RunRecovers
  pub back : RunComesBack

-- what was written of records is these records
written_back : WrittenIsRead → WrittenSpells → (ws : List RecordView) → AllByRecursion FitsRecord ws
    → AreRecords (file_bytes ws) ws []
written_back read spells [] all = refl
written_back read spells (w ∷ ws) all = (
  length (record_bytes w),
  read w (record_bytes w) (file_bytes ws) (spells w all.0),
  subst (λ (bytes : List ℕ). AreRecords bytes ws []) (sym (drop-append_seam (record_bytes w) (file_bytes ws)))
      (written_back read spells ws all.1),
)

abbrev first_of : List Moment → Moment → Moment
first_of [] other = other
first_of (x ∷ xs) other = x

module _ (laws : FileLaws) (c : Config) (plan : IsPlan c) (types : TypesFit c) (plp : ℕ)
    (inside : plp < length c.plps) where
  -- they are those that are read
  same_views : (file : List ℕ) (views ws : List RecordView) → AreRecords file views [] → AllByRecursion FitsRecord ws
      → file ≡ file_bytes ws → views ≡ ws
  same_views file views ws records all is =
      (same_records laws.one laws.never file [] [] views ws records
      (subst (λ (bytes : List ℕ). AreRecords bytes ws []) (sym is) (written_back laws.read laws.spells ws all))
      stuck_nil
      stuck_nil).0

  -- and the first one is of the frame that it was written of
  first_is : (inputs : ℕ → List (List ℕ)) (whole : ℕ → Bool) (first count n : ℕ) → first + suc count ≤ MOST_FRAMES
      → IsOnGrid c n (map (record_of c inputs whole) (range_with_len first (suc count))) → n ≡ first
  first_is inputs whole first count n small grid =
      let own : moment_of (record_of c inputs whole first) ≡ emission c first =
      cond_both {A = RecordView} (whole first) (frame_of c inputs first) (Muted (emission c first))
      (λ (v : RecordView). moment_of v ≡ emission c first) (λ t. refl) (λ f. refl) in
      let told : moment_of (record_of c inputs whole first) ≡ emission c n = ap (λ xs. first_of xs (emission c n))
      grid.moments in
      let few = grid.small in
      laws.frame c (emission c n) n first plan.rules (record { small = omega (arith, few); emission-is = refl })
      (record { small = omega (arith, small); emission-is = sym told ∙ own })

  given_back : (joins : Option ℕ) (first : ℕ) (w : RecordView) (ws views : List RecordView) (packets : List (List ℕ))
      → views ≡ w ∷ ws → joined.GivesBack joins c plp first views packets
      → JoinedBackWith joins c plp first (w ∷ ws) packets
  given_back joins first w ws views packets is back =
      subst (λ (vs : List RecordView). joined.GivesBack joins c plp first vs packets) is back

  -- so they are given back from that frame on
  pub packets_back : (joins : Option ℕ) (file bytes : List ℕ) (views : List RecordView) → AreRecords file views []
      → (r : joined.Received joins c plp views bytes) → (inputs : ℕ → List (List ℕ)) (whole : ℕ
      → Bool) (first count : ℕ)
      → 1 ≤ count → first + count ≤ MOST_FRAMES
      → file ≡ file_bytes (map (record_of c inputs whole) (range_with_len first count))
      → JoinedBackWith joins c plp first (map (record_of c inputs whole) (range_with_len first count)) r.packets
  packets_back joins file bytes views records r inputs whole first zero some small is = absurd (omega (arith, some))
  packets_back joins file bytes views records r inputs whole first (suc count) some small is =
      let ws : List RecordView = map (record_of c inputs whole) (range_with_len first (suc count)) in
      let same : views ≡ ws =
      same_views file views ws records (laws.fits c inputs whole first (suc count) plan types.ids small) is in
      let at : r.first ≡ first = first_is inputs whole first count r.first small
      (subst (IsOnGrid c r.first) same r.successive) in
      let back : JoinedBackWith joins c plp r.first ws r.packets =
      given_back joins r.first (record_of c inputs whole first) (map (record_of c inputs whole)
      (range_with_len (first + 1) count))
      views r.packets same r.back in
      subst (λ (n : ℕ). JoinedBackWith joins c plp n ws r.packets) at back

  -- of frames in a row
  frames_back : (file bytes : List ℕ) (views : List RecordView) → AreRecords file views [] → Received c plp views bytes
      → (inputs : ℕ → List (List ℕ)) (whole : ℕ → Bool) (first count : ℕ) → AllByRecursion IsPacket (inputs plp)
      → 1 ≤ count → first + count ≤ MOST_FRAMES
      → file ≡ file_bytes (map (record_of c inputs whole) (range_with_len first count))
      → bytes ≡ concat (recover c plp (packet_at (inputs plp)) (λ m. not (whole m)) first count)
  frames_back file bytes views records r inputs whole first count all some small is =
      r.bytes_are
      ∙ ap concat (laws.recovers c plp inputs whole first count r.packets plan types inside all
      (packets_back None file bytes views records r inputs whole first count some small is))

  -- a run has a frame
  some_ticks : (count least : ℕ) → 1 ≤ least → least ≤ count * c.ticks → 1 ≤ count
  some_ticks zero least some enough = absurd (omega (arith, some, enough))
  some_ticks (suc count) least some enough = omega arith

  some_frames : (inputs : ℕ → List (List ℕ)) → 1 ≤ run_length c inputs
  some_frames inputs =
      let plps = (plan.rules PlpCount).0 in
      some_ticks (run_length c inputs) _ (omega arith)
      ((laws.least c (λ plp. length (inputs plp)) plan.rules).enough 0 (omega (arith, plps)))

  -- of all frames
  run_back : (file bytes : List ℕ) (views : List RecordView) → AreRecords file views [] → Received c plp views bytes
      → (inputs : ℕ → List (List ℕ)) → AllByRecursion IsPacket (inputs plp)
      → AllByRecursion (IsCanonical (plp_at c.plps plp).delete) (inputs plp)
      → run_length c inputs ≤ MOST_FRAMES → file ≡ file_bytes (run_frames c inputs) → (nulls : ℕ)
      × (bytes ≡ concat (inputs plp ++ replicate nulls null_packet))
  run_back file bytes views records r inputs all canonical small is =
      let back : Readback c plp 0 (run_frames c inputs) r.packets = packets_back None file bytes views
      records r inputs (λ n. true) 0
      (run_length c inputs) (some_frames inputs) (omega (arith, small)) is in
      let b = laws.back c plp inputs r.packets plan types inside all canonical back in
      (b.0, r.bytes_are ∙ ap concat b.1)

pub comes_back : FileLaws → (c : Config) → IsPlan c → TypesFit c → ReceivedComesBack c
comes_back laws c plan types plp file bytes views inside records r = record {
  frames = frames_back laws c plan types plp inside file bytes views records r;
  run = run_back laws c plan types plp inside file bytes views records r;
}

-- what is so of each file of records and what it gives back is so of IN and OUT
pub holds_with : (P : List ℕ → List ℕ → Type 0) (joins : Option ℕ) (c : Config) (plp : ℕ) (old new : State)
    (file out : List ℕ)
    (ran : ReceiveRan) → ((from bytes : List ℕ) (views : List RecordView) → AreRecords from views []
    → joined.Received joins c plp views bytes → P from bytes)
    → Ends (run.receive_work joins c plp) old new (Into out) (file ∷ []) (Ok ran)
    → IfSome old.held (λ h. IfSome new.held (λ k. P (bytes_of h.files file) (bytes_of k.files out)))
holds_with P joins c plp old new file out ran law (counts, d) =
    let all = d.does.1.1 in
    holds_of (λ files bytes. P (files 0) bytes) d (law (d.files 0) d.bytes all.views all.records all.received)

pub holds_back : (c : Config) (plp : ℕ) (old new : State) (file out : List ℕ) (ran : ReceiveRan) → ReceivedComesBack c
    → plp < length c.plps → Ends (run.receive_work None c plp) old new (Into out) (file ∷ []) (Ok ran)
    → HoldsWhatComesBack c plp old new file out
holds_back c plp old new file out ran law inside r =
    holds_with (ComesBack c plp) None c plp old new file out ran
    (λ from bytes views records given. law plp from bytes views inside records given) r
