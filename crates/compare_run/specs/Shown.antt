-- What was done to two feeds that are compared. No public clause cites this module.
use Rattle.std.specs.Prelude.{◌≡◌, ℕ, ◌-◌, ◌≤◌, Bool, true, false, List, ◌++◌, length}
use Rattle.std.specs.List.{flat_map, range_with_len}
use Rattle.plp_config.specs.declared.config.Config.{Config}
use Rattle.terms.specs.Lists.{IsPrefix}
use Rattle.frame_groups.specs.Modulated.{FrameRecord, Numbered}
use Rattle.file_run.specs.Events.{Event, fed, has_ended, gave}
use Rattle.feed_merge.specs.Groups.{AreGroups}
use Rattle.feed_merge.specs.Both.{AreFedWith, IsDueBelow}
use Rattle.feed_merge.specs.Fed.{NoneComes}
use Rattle.compare_run.specs.Comparing.{Answered, answers, answers_below, PlpDifference, plp_differences}
use Rattle.compare_run.specs.Lines.{known_text, plp_text, text_of}
use Rattle.compare_run.specs.AnswerLaws.{frames_by}
use Rattle.compare_run.specs.TallyStandsFor.{TallyStandsFor, CarriedStandsFor, plps_in, other_in}
use Rattle.compare_run.specs.declared.answering.Carried.{Carried}
use Rattle.compare_run.specs.declared.machine.CompareMachine.{CompareMachine}

-- the text of some frames: what is known by them, or all
abbrev pub text_in : Bool → (ℕ → List PlpDifference) → List Answered → List ℕ
text_in true of xs = text_of of xs
text_in false of xs = known_text of xs

-- the lines of the PLPs of a frame from one on, by what is noted of them
abbrev pub plps_from : Config → Carried → ℕ → ℕ → List ℕ
plps_from c x frame plp = flat_map (λ k. plp_text c frame k (other_in x k)) (range_with_len plp (plps_in x - plp))

-- what is left to say of the frame that was compared last
abbrev pub untold : Config → CompareMachine → List ℕ
untold c m = plps_from c m.carried m.last m.plp

-- What was said of the frames that came is by the groups of both streams, and all that is known by those below a number
-- was said.
pub record IsTold (c : Config) (m : CompareMachine) (given_a given_b : List FrameRecord) (low : ℕ) (said : List ℕ)
    (ga gb : List Numbered) : Type 0
  where
    pub carried : CarriedStandsFor m.carried c m.next ga gb
    pub tallied : TallyStandsFor m.tally (answers c (frames_by given_a ga) (frames_by given_b gb))
    pub few : length (answers c (frames_by given_a ga) (frames_by given_b gb)) ≤ m.next
    pub said_is : said ++ untold c m
        ≡ text_in m.done (plp_differences c ga gb) (answers c (frames_by given_a ga) (frames_by given_b gb))
    pub since :
        IsPrefix
        (known_text (plp_differences c ga gb) (answers_below c (frames_by given_a ga) (frames_by given_b gb) low)) said

-- What was done, and where two feeds of a network are then.
pub record Shown (c : Config) (events : List Event) (m : CompareMachine) : Type 0 where
  pub config : m.plan.now ≡ c
  pub plps : plps_in m.carried ≡ length c.plps
  pub given_a : List FrameRecord
  pub given_b : List FrameRecord
  pub both : AreFedWith c events false false m.next m.a m.b given_a given_b
  -- By fewer bytes than were fed no record is due of this number or a higher one.
  pub low : ℕ
  pub few : low ≤ m.next
  pub due_a : IsDueBelow c low (fed 0 events)
  pub due_b : IsDueBelow c low (fed 1 events)
  -- Whatever follows in both streams, it is so by their groups.
  pub told : (ga gb : List Numbered) → AreGroups c (fed 0 events) (has_ended 0 events) ga
      → AreGroups c (fed 1 events) (has_ended 1 events) gb → IsTold c m given_a given_b low (gave events) ga gb
  pub over : m.done ≡ true → NoneComes m.a × NoneComes m.b

-- Something was done, and then they are there.
pub record HasShown (m : CompareMachine) : Type 0 where
  pub network : Config
  pub events : List Event
  pub shown : Shown network events m
