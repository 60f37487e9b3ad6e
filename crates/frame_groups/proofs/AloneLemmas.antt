-- Interleaving frames of single frames: the groups before decide nothing.
use Rattle.std.proofs.Common.{◌≡◌, ℕ, ◌<◌, false, Option, arith}
use Rattle.std.proofs.lemmas.Bool.{cond-true, cond-false, ne_eqb}
use Rattle.std.proofs.lemmas.List.Folds.{list_any_none}
use Rattle.plp_config.specs.Laws.{BeginAlone}
use Rattle.plp_config.specs.Places.{FramesStandAlone}
use Rattle.plp_config.specs.declared.config.Config.{Config}
use Rattle.frame_groups.specs.Begun.{is_begin}
use Rattle.frame_groups.specs.TestLaws.{TestsAlone}
use Rattle.frame_groups.specs.Tests.{pool_test}
use Rattle.frame_groups.proofs.BegunLemmas.{place_there, none_fails}

-- an interleaving frame that a frame carries begins in no other
none_else : BeginAlone → (c : Config) (n b : ℕ) → FramesStandAlone c → b < n → is_begin c n b ≡ false
none_else law c n b alone low = grind (arith, list_any_none, place_there, ne_eqb)

pub tests_alone : BeginAlone → TestsAlone
unfolding pool_test
tests_alone law c past n packets alone = grind (arith, Option, none_fails, cond-false, none_else, cond-true)
