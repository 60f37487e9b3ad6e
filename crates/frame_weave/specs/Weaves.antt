-- What a weaver stands for.
use Rattle.std.specs.Prelude.{◌≡◌, ℕ, Bool, true, false, List, [], ◌∷◌}
use Rattle.std.specs.List.{list_all}
use Rattle.std.specs.Option.{unwrap_or}
use Rattle.plp_config.specs.declared.config.Config.{Config}
use Rattle.frame_groups.specs.Groups.{Group}
use Rattle.open_group.specs.Signals.{signals}
use Rattle.frame_weave.specs.Marked.{first_count}
use Rattle.frame_weave.specs.Made.{IsAlone, HoldsMade}
use Rattle.frame_weave.specs.Slots.{IsLaid, HoldsPlaced, AreSized}
use Rattle.frame_weave.specs.Woven.{signalling, same_dynamic, counts_by, placed_of, stamp_bodies, front_bodies}
use Rattle.frame_weave.specs.declared.layout.Layout.{Layout}
use Rattle.frame_weave.specs.declared.made.MadeGroup.{MadeGroup}
use Rattle.frame_weave.specs.declared.slots.Slots.{Slots}
use Rattle.frame_weave.specs.declared.weaver.Weaver.{Weaver}

-- all but its frame
pub record State : Type 0 where
  pub is_taken : Bool
  pub agree : Bool
  pub origin : ℕ
  pub layout : Layout
  pub slots : Slots
  pub made : MadeGroup

abbrev pub state_of : Weaver → State
state_of w = record {
  is_taken = w.is_taken;
  agree = w.agree;
  origin = w.origin;
  layout = w.layout;
  slots = w.slots;
  made = w.made;
}

-- The L1 signalling was taken of a group.
pub record Signalled (c : Config) (s : State) (n : ℕ) (t : Group) : Type 0 where
  pub taken : s.is_taken ≡ true
  pub has : signals c n t.packets ≡ true
  pub origin : s.origin ≡ unwrap_or (first_count t.packets) 0
  pub laid : IsLaid c (counts_by c n t) s.layout
  pub front : HoldsMade c n s.made (front_bodies c n t)

-- It is told whether all others that have some tell the same.
pub record Takes (c : Config) (s : State) (n : ℕ) (t : Group) (more : List Group) : Type 0 where
  pub signalled : Signalled c s n t
  pub agree : s.agree ≡ list_all (same_dynamic t) more
  pub sized : AreSized c (counts_by c n t) s.slots.pool

abbrev pub TakesFirst : Config → State → ℕ → List Group → Type 0
TakesFirst c s n [] = (s.is_taken ≡ false) × (s.agree ≡ true) × HoldsMade c n s.made (stamp_bodies c n)
TakesFirst c s n (t ∷ more) = Takes c s n t more

-- It has looked at some groups for frame n, and placed the blocks of some.
pub record Weaves (w : Weaver) (n : ℕ) (looked placed : List Group) : Type 0 where
  pub number : w.number ≡ n
  pub first : TakesFirst w.plan.now (state_of w) n (signalling w.plan.now n looked)
  pub blocks : HoldsPlaced w.slots (placed_of w.plan.now n (signalling w.plan.now n looked) placed)

-- No group was before the one that it makes.
abbrev pub IsOwn : Weaver → Type 0
IsOwn w = IsAlone w.made.group
