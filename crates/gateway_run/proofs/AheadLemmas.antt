-- How far a run reads ahead of what it wrote.
use Rattle.std.proofs.Common.{◌≡◌, ℕ, ◌+◌, ◌≤◌, List, ◌++◌, length, take, refl, ap, sym, ◌∙◌, inl, inr, arith}
use Rattle.std.proofs.lemmas.Bool.{cases_lt}
use Rattle.std.proofs.lemmas.List.{take_at}
use Rattle.plp_config.specs.Capacity.{IsPlan}
use Rattle.plp_config.specs.declared.config.Config.{Config}
use Rattle.ts_packet.specs.TsFile.{joined}
use Rattle.t2mi_stream.specs.Complete.{complete_units}
use Rattle.gateway_core.specs.Laws.{UnitsLaw, WaitsThreeFrames}
use Rattle.gateway_core.specs.Packets.{front_packets}
use Rattle.common_plp.specs.Inputs.{place_of, streams_by}
use Rattle.common_plp.specs.Sharing.{Sharing}
use Rattle.gateway_run.specs.GatewayRun.{inputs_of, frames_of, units_of, ReadsNoFurther, ReadsAhead}
use Rattle.gateway_run.proofs.MachineLemmas.{reach_more}

module _ (way : Sharing) where
  -- A later frame wants no less.
  later_wants : (c : Config) (places : List ℕ) (frame later : ℕ) → frame ≤ later → ReadsNoFurther way c places frame
      → ReadsNoFurther way c places later
  later_wants c places frame later le further plp lt = let was = further plp lt in let more = reach_more
      c (place_of way c plp) frame later le in
      omega (arith, was, more)

  -- the complete units of fewer frames are the first of all
  first_units : UnitsLaw → (c : Config) (files : ℕ → List ℕ) (frame : ℕ) → frame ≤ frames_of way c files
      → take (length (complete_units c.pid (front_packets c (streams_by way c (inputs_of files)) frame)))
      (units_of way c files)
      ≡ complete_units c.pid (front_packets c (streams_by way c (inputs_of files)) frame)
  first_units units c files frame within =
      let l = units c (streams_by way c (inputs_of files)) frame (frames_of way c files) within in
      let complete : List (List ℕ) = complete_units c.pid (front_packets c (streams_by way c (inputs_of files))
      frame) in
      ap (take (length complete)) l.1 ∙ take_at complete l.0 (length complete) refl

  -- If the output has the complete units of the frames before the one that was read for, it lacks only first bytes of
  -- that one, of the two before it, and later ones.
  pub reads_ahead : UnitsLaw → WaitsThreeFrames → (c : Config) (files : ℕ → List ℕ) (places : List ℕ)
      (bytes since : List ℕ)
      (frame : ℕ) → IsPlan c → frame ≤ frames_of way c files
      → bytes ≡ joined (complete_units c.pid (front_packets c (streams_by way c (inputs_of files)) frame)) ++ since
      → ReadsNoFurther way c places frame
      → ReadsAhead way c files places bytes
  reads_ahead units three c files places bytes since frame plan within all further n lacks =
      let complete : List (List ℕ) = complete_units c.pid (front_packets c (streams_by way c (inputs_of files))
      frame) in
      elim (cases_lt (n + 2) frame) [
        | inr le ↦ later_wants c places frame (n + 2) le further
        | inl lt ↦ absurd (lacks (record {
          units = length complete;
          rest = since;
          written = all ∙ ap (λ (l : List (List ℕ)). joined l ++ since) (sym (first_units units c files frame within));
          carried = three c (streams_by way c (inputs_of files)) n frame (frames_of way c files) (length complete)
              plan (omega (arith, lt)) within
              (omega arith);
        }))
      ]
