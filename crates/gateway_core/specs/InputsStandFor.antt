-- What the inputs of all PLPs stand for, and which inputs continue what was offered.
use Rattle.std.specs.Prelude.{◌≡◌, ◌≢◌, ◌<◌, ◌≤◌, ℕ, true, false, Bool, is_some, Some, List, [], length, slice_index}
use Rattle.std.specs.Prelude.{slice_index_or}
use Rattle.std.specs.declared.option.Option.{Option}
use Rattle.linked_pool.specs.Fits.{frame_chunks}
use Rattle.linked_pool.specs.Pool.{State, list_at, Others}
use Rattle.plp_config.specs.InterleavingFrames.{interleaving_frame, is_first}
use Rattle.plp_config.specs.Plps.{plp_at}
use Rattle.plp_config.specs.SlotTime.{epoch_ticks}
use Rattle.plp_config.specs.declared.config.Config.{Config}
use Rattle.mode_adapt.specs.Blocks.{blocks_of, own_blocks, told_count}
use Rattle.mode_adapt.specs.Deletion.{packet_at}
use Rattle.mode_adapt.specs.Place.{HasPlace}
use Rattle.mode_adapt.specs.declared.chain.Chain.{Chain}
use Rattle.gateway_core.specs.Events.{Event, begun}
use Rattle.gateway_core.specs.Lists.{bits_in, own_in}
use Rattle.gateway_core.specs.IsFed.{Fed, IsFed, most}
use Rattle.gateway_core.specs.InputSoFar.{Told, told, in_next, Continues}
use Rattle.gateway_core.specs.declared.input.Input.{Input}

-- A pool has a list for each PLP, and the chunks of the interleaving frames under way.
pub record HasFrame (c : Config) (pool : State) : Type 0 where
  pub enough : frame_chunks c ≤ pool.opened
  pub lists : length pool.lists ≡ length c.plps

-- Each stands for what events tell of it, and has put these blocks of the next interleaving frame.
abbrev pub AllFed : List Input → (ℕ → List (List Bool)) → Config → List Event → Type 0
AllFed inputs early c events = (j : ℕ) (d : Input) → j < length inputs
    → IsFed (slice_index_or inputs j d) c j (told j events)
    (early j)

-- There are events that they stand for, with so many frames begun.
pub record AreSupplied (c : Config) (frame : ℕ) (inputs : List Input) (early : ℕ → List (List Bool)) : Type 0 where
  pub events : List Event
  pub frame_is : frame ≡ begun events
  pub fed : AllFed inputs early c events

-- No PLP gives more blocks than the configuration allows.
abbrev pub AreFor : List Input → Config → Type 0
AreFor inputs c = (j : ℕ) (d : Input) → j < length inputs → most (slice_index_or inputs j d) ≡ (plp_at c.plps j).blocks

-- Inputs continue what events tell of each.
abbrev pub AllContinue : Config → List Event → (ℕ → List (List ℕ)) → Type 0
AllContinue c events inputs = (j : ℕ) → j < length c.plps → Continues (told j events) (inputs j)

-- A pool has the blocks of these inputs that are sent in a frame.
abbrev pub AreBlocks : State → Config → ℕ → (ℕ → List (List ℕ)) → Type 0
AreBlocks pool c frame inputs = (j : ℕ) → j < length c.plps → own_in c frame pool j ≡ own_blocks c inputs frame j

-- For all inputs that continue, the numbers of blocks of the PLPs of which no interleaving frame begins in the next
-- frame are those that it tells: they stay.
abbrev pub CountsStay : Config → List Event → ℕ → List ℕ → Type 0
CountsStay c events frame counts = (inputs : ℕ → List (List ℕ)) → AllContinue c events inputs
    → (plp : ℕ) → plp < length c.plps → is_first c plp frame ≡ false
    → slice_index counts plp ≡ told_count c inputs frame plp

-- An input put the blocks of the interleaving frame that begins in a frame into the list of its place, and so many
-- there are;
-- the frame behind it is the next one.
pub record Cuts (chain : Chain) (due slot : ℕ) (total : Option ℕ) (c : Config) (plp : ℕ) (t : Told) (pool : State)
    (count : ℕ) : Type 0 where
  pub fed : Fed chain due slot total c plp (in_next t) []
  pub blocks : (input : List (List ℕ)) → Continues t input → bits_in pool plp
      ≡ blocks_of c plp (epoch_ticks c plp) (packet_at input) (interleaving_frame c plp t.frame)
  pub count_is : count ≡ length (list_at pool plp)

abbrev pub HasCut : Input → Config → ℕ → Told → State → ℕ → Type 0
HasCut i c plp t pool count = Cuts i.chain i.due i.slot i.total c plp t pool count

-- An input went on behind a frame, and so many blocks has its PLP in the interleaving frame that this one carries: if
-- none begins in it, it put nothing, and they are those of the frame before.
pub record GoesOn (i : Input) (c : Config) (plp : ℕ) (t : Told) (pool : State) (before count : ℕ) : Type 0 where
  pub cut : is_first c plp t.frame ≡ true → HasCut i c plp t pool count
  pub fed : is_first c plp t.frame ≡ false → IsFed i c plp (in_next t) (bits_in pool plp)
  pub stays : is_first c plp t.frame ≡ false → count ≡ before

-- The input at a place did.
pub record CutsOne (c : Config) (frame : ℕ) (old new : List Input) (was is : State) (plp before count : ℕ) :
    Type 0 where
  pub others : (j : ℕ) (d : Input) → j ≢ plp → slice_index_or new j d ≡ slice_index_or old j d
  pub lists : Others was is plp
  pub few : (d : Input) (blocks : ℕ) → most (slice_index_or old plp d) ≤ blocks → before ≤ blocks → count ≤ blocks
  pub on : (d : Input) (t : Told) → t.frame ≡ frame → HasPlace c plp was plp
      → IsFed (slice_index_or old plp d) c plp t (bits_in was plp)
      → GoesOn (slice_index_or new plp d) c plp t is before count

-- The inputs below a place did.
pub record CutUntil (c : Config) (frame : ℕ) (old new : List Input) (was is : State) (before counts : List ℕ)
    (place : ℕ) : Type 0 where
  pub rest : (j : ℕ) (d : Input) → place ≤ j → slice_index_or new j d ≡ slice_index_or old j d
  pub lists : (j : ℕ) → place ≤ j → list_at is j ≡ list_at was j
  pub lists_count : length is.lists ≡ length was.lists
  pub opened : is.opened ≡ was.opened
  pub behind : (j : ℕ) → place ≤ j → slice_index counts j ≡ slice_index before j
  pub few : (j : ℕ) (d : Input) (blocks : ℕ) → j < place → most (slice_index_or old j d) ≤ blocks
      → slice_index before j ≤ blocks → slice_index counts j ≤ blocks
  pub on : (events : List Event) → frame ≡ begun events → HasFrame c was → AllFed old (bits_in was) c events
      → (j : ℕ) (d : Input) → j < place
      → GoesOn (slice_index_or new j d) c j (told j events) is (slice_index before j) (slice_index counts j)

-- No input has another number of blocks at most.
abbrev pub SameMost : List Input → List Input → Type 0
SameMost old new = (j : ℕ) (d : Input) → most (slice_index_or new j d) ≡ most (slice_index_or old j d)

-- All have ended; and after so many packets each.
abbrev pub AllEnded : List Input → Type 0
AllEnded inputs = (j : ℕ) (d : Input) → j < length inputs → is_some (slice_index_or inputs j d).total ≡ true

abbrev pub HaveEnded : List Input → (ℕ → ℕ) → Type 0
HaveEnded inputs packets = (j : ℕ) (d : Input) → j < length inputs → (slice_index_or inputs j d).total ≡ Some
    (packets j)
