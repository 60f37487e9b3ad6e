-- When no block of a chain is refused. No public clause cites this module.
use Rattle.std.specs.Prelude.{ℕ, List}
use Rattle.linked_pool.specs.Pool.{State}
use Rattle.plp_config.specs.declared.config.Config.{Config}
use Rattle.mode_adapt.specs.Calls.{IsReady}
use Rattle.mode_adapt.specs.Events as queue
use Rattle.mode_adapt.specs.declared.chain.Chain.{Chain}

-- A pool is ready for whatever block a chain puts next.
pub record IsServed (chain : Chain) (pool : State) (list : ℕ) : Type 0 where
  pub config : Config
  pub plp : ℕ
  pub events : List queue.Event
  pub ready : IsReady chain pool list config plp events
