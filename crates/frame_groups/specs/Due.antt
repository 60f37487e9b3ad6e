-- Which records are due when packets came.
use Rattle.std.specs.Prelude.{◌≡◌, Bool, true, false, List, [], ◌∷◌, ◌++◌, Option, Some, None}
use Rattle.t2mi_packet.specs.declared.packet.Packet.{Packet}
use Rattle.frame_groups.specs.Groups.{Group}
use Rattle.frame_groups.specs.Grouping.{key_of}
use Rattle.frame_groups.specs.declared.waiting.Progress.{Progress}
use Rattle.frame_groups.specs.Modulated.{Numbered, Rules, FrameRecord, modulated}
use Rattle.frame_groups.specs.Laws.{without_last}
use Rattle.frame_groups.specs.Sequenced.{Sequenced, Ends, record_now}
use Rattle.frame_groups.specs.Records.{record_of}
use Rattle.frame_groups.specs.Waits.{waits, waiting_of}
use Rattle.frame_groups.specs.declared.waiting.Waiting.{Waiting}

-- the records that are due: all but the last, and after the end all
abbrev pub due : Rules → Bool → List Packet → List FrameRecord
due r false ps = without_last (modulated r ps)
due r true ps = modulated r ps

-- One record comes next, behind some others.
abbrev pub ComesNext : List FrameRecord → List FrameRecord → FrameRecord → Type 0
ComesNext all given x = (more : List FrameRecord) × (all ≡ given ++ x ∷ more)

-- If no record waits, those that are due were given. One that waits comes next: of those due by the packets that came,
-- or, if the group is closed, by them and the packet that closed it, or at the end.
pub record DueLaw (r : Rules) (past : List Numbered) (g : Option Group) (p : Progress) (ps : List Packet)
    (given : List FrameRecord) : Type 0 where
  pub idle : waits p ≡ false → due r p.closing ps ≡ given
  pub under_way : p.closing ≡ false → waits p ≡ true → (x : FrameRecord)
      × (record_now r past g p.number p.next ≡ Some x)
      × ComesNext (due r false ps) given x
  pub ended : p.closing ≡ true → waits p ≡ true → (x : FrameRecord) × (record_now r past g p.number p.next ≡ Some x)
      × ComesNext (due r true ps) given x
  pub closed : p.closing ≡ true → (q : Packet) → Ends r (key_of g) q → (more : List FrameRecord)
      × (due r false (ps ++ q ∷ []) ≡ due r true ps ++ more)
  pub told : (h : Group) → g ≡ Some h → (w : Waiting) → waiting_of p ≡ Some w → record_now r past g p.number p.next
      ≡ Some (record_of h w)
  pub none : g ≡ None → due r true ps ≡ given

abbrev pub RecordsAreDue : Type 0
RecordsAreDue = (r : Rules) (past : List Numbered) (g : Option Group) (p : Progress) (ps : List Packet)
    (given : List FrameRecord)
    → Sequenced r past g p.number p.next p.closing p.fault ps given → DueLaw r past g p ps given
