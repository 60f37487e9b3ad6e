-- What a `PacketSlots` stands for, call by call, over its parts.
use Rattle.std.proofs.Common.{◌≡◌, ℕ, ◌+◌, ◌-◌, ◌%◌, ◌==◌, ◌<◌, ◌≤◌, List, [], ◌∷◌, ◌++◌, length, map, drop}
use Rattle.std.proofs.Common.{get_or, replicate, Bool, true, false, Option, Some, None, refl, ap, ◌∙◌, sym}
use Rattle.std.proofs.Common.{subst, arith, append-nil, append_assoc, length-append, eq-eqb}
use Rattle.std.specs.Prelude.{unwrap_or, slice_get, nat_lt, if◌then◌else◌}
use Rattle.std.proofs.lemmas.Bool.{ltb-true, eqb-true, both_ways}
use Rattle.std.specs.List.{range_with_len}
use Rattle.std.proofs.lemmas.List.Concat.{flat_map-append}
use Rattle.std.proofs.lemmas.List.FromFn.{length-map-range_with_len, get_or-map-range_with_len}
use Rattle.std.proofs.lemmas.Option.{slice_get-get_or}
use Rattle.ts_packet.specs.Null.{null_packet}
use Rattle.plp_config.specs.Laws.{CountRises, ReleasedFirst}
use Rattle.plp_receiver.specs.declared.slot_rule.SlotRule.{SlotRule}
use Rattle.plp_receiver.specs.declared.assembler.Assembler.{Assembler}
use Rattle.plp_receiver.specs.Sound.{IsSound}
use Rattle.plp_receiver.specs.Strings.{Item, Block}
use Rattle.plp_receiver.specs.Assembles.{AssemblerStandsFor}
use Rattle.plp_receiver.specs.declared.window.SlotWindow.{SlotWindow}
use Rattle.plp_receiver.specs.SlotsHold.{Shows}
use Rattle.plp_receiver.specs.Window.{Status, status_of, Reaches, begun, entered, left, given, front_packet}
use Rattle.plp_receiver.specs.Readback.{slot_option, slot_packet}
use Rattle.plp_receiver.specs.SlotEpochs.{Epoch, HaveEnded, block_or_gap, epoch_items, string_of, first_slot}
use Rattle.plp_receiver.specs.SlotEpochs.{readback, held_slots}
use Rattle.plp_receiver.specs.Times.{epoch_of, over_after, due_after}
use Rattle.plp_receiver.proofs.TimeLemmas.{next_epoch, same_epoch, all_rise, ended_over, none_over, none_given}
use Rattle.plp_receiver.proofs.ReadbackLemmas.{up_to_string, string_append}
use Rattle.plp_receiver.proofs.WindowLemmas as window
use Rattle.plp_receiver.specs.TakenBlocks.{Both, KeepsTimes}
use Rattle.plp_receiver.specs.SlotsStandFor.{blocks_items, Stands, Within, Fresh}
use Rattle.plp_receiver.proofs.BothLemmas.{moved}

shows_none : (r : SlotRule) (z : List Item) (first end : ℕ) (slots : List (Option (List ℕ))) → end ≡ first → slots ≡ []
    → Shows r z first end slots
shows_none r z first end slots e f = grind arith

pub fresh_from : (a : Assembler) (w : SlotWindow) (r : SlotRule) → AssemblerStandsFor a r []
    → status_of w ≡ record { rule = r; slots = []; first = 0; end = 0; due_end = 0 } → Fresh a w r
fresh_from a w r h e = grind (arith, shows_none)

no_epochs : (len epoch : ℕ) → string_of len epoch [] ≡ []
unfolding string_of
no_epochs len epoch = refl

one_epoch : (len epoch : ℕ) (e : Epoch) → string_of len epoch (e ∷ []) ≡ epoch_items len epoch e
unfolding string_of
one_epoch len epoch e = append-nil (epoch_items len epoch e)

-- a window of some status, which shows what the assembler found
both_by : (r : SlotRule) (z : List Item) (a : Assembler) (new : SlotWindow) (s : Status) → status_of new ≡ s
    → AssemblerStandsFor a r z → s.rule ≡ r → Shows r z s.first s.end s.slots → Both r z a new
both_by r z a new s e assembles rule shows = grind arith

pub begins : (a : Assembler) (old new : SlotWindow) (r : SlotRule) (first : ℕ) → Fresh a old r
    → status_of new ≡ begun (status_of old) first → Stands a new first r first 0 [] 0
begins a old new r first f e = grind (arith, no_epochs, shows_none)

-- The slots of the next frame come into range.
pub enters : (r : SlotRule) → IsSound r → CountRises → (first frame count : ℕ) (epochs : List Epoch) (released : ℕ)
    (a : Assembler) (old new : SlotWindow)
    → Stands a old frame r first count epochs released → over_after r (frame - r.spread) ≤ old.end
    → status_of new ≡ entered (status_of old) frame → old.end ≤ new.end
    → Within a new frame r first count epochs [] released
enters r sound rises first frame count epochs released a old new h low e order =
    let z : List Item = string_of r.up_len (epoch_of r first) epochs in
    let n = h.ended in
    let at = ap (λ (s : Status). s.first) e in
    let end = ap (λ (s : Status). s.end) e in
    let same = ap (λ (q : SlotRule). over_after q frame) h.both.rule in
    let slots : new.slots.items ≡ old.slots.items ++ replicate (new.end - old.end) None =
    ap (λ (s : Status). s.slots) e ∙ ap (λ (k : ℕ). old.slots.items ++ replicate (k - old.end) None) (sym end) in
    record {
      both = subst (λ (y : List Item). Both r y a new) (sym (append-nil z))
          (record {
            assembles = h.both.assembles;
            rule = ap (λ (s : Status). s.rule) e ∙ h.both.rule;
            shows =
                moved r z old.first new.end new.first new.end new.slots.items at refl
                (subst (Shows r z old.first new.end) (sym slots)
                (window.entered r sound rises z (epoch_of r frame - 1) old.first old.end new.end old.slots.items
                h.both.shows
                (up_to_string r.up_len (epoch_of r first) (epoch_of r frame - 1) epochs (omega (arith, n)))
                (omega (arith, low, ended_over rises r sound frame)) order));
          });
      number = h.number;
      ended = h.ended;
      begin = at ∙ h.begin;
      end = end ∙ same;
    }

pub low_at : (q r : SlotRule) (in_frame : Bool) (frame end : ℕ) → q ≡ r → in_frame ≡ false
    → Reaches q in_frame frame end
    → over_after r (frame - r.spread) ≤ end
low_at q r in_frame frame end e f h = grind arith

-- the slots in range before all frames
pub open_range : (w : SlotWindow) (r : SlotRule)
    → status_of w ≡ record { rule = r; slots = []; first = 0; end = 0; due_end = 0 }
    → Reaches w.rule false 0 w.end
open_range w r e = grind (arith, none_over)

pub open_due : ReleasedFirst → (w : SlotWindow) (r : SlotRule)
    → status_of w ≡ record { rule = r; slots = []; first = 0; end = 0; due_end = 0 } → w.due_end ≡ due_after w.rule 0
open_due law w r e = ap (λ (s : Status). s.due_end) e ∙ sym (none_given law w.rule w.sound)

-- the slots in range before a frame came
pub first_range : CountRises → (old new : SlotWindow) (frame : ℕ) → status_of new ≡ begun (status_of old) frame
    → Reaches new.rule false frame new.end
first_range rises old new frame e = grind (arith, all_rise)

-- and when it has ended
pub left_range : CountRises → (old new : SlotWindow) (in_frame : Bool) (frame : ℕ) → in_frame ≡ true
    → Reaches old.rule in_frame frame old.end → status_of new ≡ left (status_of old) frame
    → Reaches new.rule false (frame + 1) new.end
left_range rises old new in_frame frame within h e = grind (arith, all_rise)

-- A frame has ended, and these blocks came of the epoch under way.
module _ {r : SlotRule} {first frame count : ℕ} {epochs : List Epoch} {blocks : List (Option Block)} {released : ℕ}
    {a : Assembler} {old : SlotWindow} (h : Within a old frame r first count epochs blocks released) (new : SlotWindow)
    (e : status_of new ≡ left (status_of old) frame) where
  sound : IsSound r
  sound = subst IsSound h.both.rule old.sound

  ends : (more : List Epoch) → Both r (string_of r.up_len (epoch_of r first) more) a old
      → HaveEnded r first (frame + 1) more → Stands a new (frame + 1) r first (count + 1) more released
  ends more both ended = grind (arith, both_by)

  -- and an epoch with it
  pub ends_with : (epoch : Epoch) → ((frame + 1) % old.rule.spread == 0) ≡ true
      → Both r (string_of r.up_len (epoch_of r first) epochs ++ epoch_items r.up_len (epoch_of r frame) epoch) a old
      → Stands a new (frame + 1) r first (count + 1) (epochs ++ epoch ∷ []) released
  ends_with epoch last both =
      grind (arith, eqb-true, length-append, string_append, one_epoch, ends, next_epoch, sound)

  -- and no epoch
  pub passes : ((frame + 1) % old.rule.spread == 0) ≡ false
      → Both r (string_of r.up_len (epoch_of r first) epochs) a old
      → Stands a new (frame + 1) r first (count + 1) epochs released
  passes inner both = grind (arith, same_epoch, sound, both_ways, eq-eqb, ends)

-- One block more came, or one that is not taken.
pub takes : (r : SlotRule) (first frame count : ℕ) (epochs : List Epoch) (blocks : List (Option Block))
    (block : Option Block)
    (released : ℕ) (a b : Assembler) (old new : SlotWindow)
    → Within a old frame r first count epochs blocks released → KeepsTimes old new
    → Both r ((string_of r.up_len (epoch_of r first) epochs ++ blocks_items r.up_len (epoch_of r frame) blocks)
    ++ block_or_gap r.up_len (epoch_of r frame) block) b new
    → Within b new frame r first count epochs (blocks ++ block ∷ []) released
takes r first frame count epochs blocks block released a b old new h t both =
    grind (arith, flat_map-append, append-nil, append_assoc)

pub length_readback : (r : SlotRule) (first count : ℕ) (epochs : List Epoch) → length (readback r first count epochs)
    ≡ due_after r (first + count) - first_slot r first
unfolding readback
length_readback r first count epochs =
    length-map-range_with_len _ (first_slot r first) (due_after r (first + count) - first_slot r first)

-- What is due and held of one that stands for some frames, and what it gives out.
module _ {a : Assembler} {old : SlotWindow} {next : ℕ} {r : SlotRule} {first count : ℕ} {epochs : List Epoch}
    {released : ℕ} (h : Stands a old next r first count epochs released) where
  due_end_is : old.due_end ≡ due_after r (first + count)
  due_end_is = h.due ∙ ap (due_after r) h.number

  pub due_is : old.due_end - old.first ≡ length (readback r first count epochs) - released
  due_is = omega (arith, h.begin, due_end_is, length_readback r first count epochs)

  pub held_is : old.end - old.first ≡ held_slots r first count - released
  held_is = omega (arith, h.begin, h.end)

  pub none_due : old.due_end ≤ old.first → length (readback r first count epochs) ≤ released
  none_due l = omega (arith, h.begin, due_end_is, l, length_readback r first count epochs)

  same_stands : (new : SlotWindow) → status_of new ≡ status_of old → Stands a new next r first count epochs released
  same_stands new e = grind (arith, both_by)

  step : old.first < old.due_end → old.due_end ≤ old.end
      → (get_or old.slots.items 0 None ≡ slot_option r (string_of r.up_len (epoch_of r first) epochs) old.first)
      × Shows r (string_of r.up_len (epoch_of r first) epochs) (old.first + 1) old.end (drop 1 old.slots.items)
  step due known = window.released r (string_of r.up_len (epoch_of r first) epochs) old.first old.end old.slots.items
      (omega (arith, due, known)) h.both.shows

  release_stands : (new : SlotWindow) → status_of new ≡ given (status_of old) → old.first < old.due_end
      → old.due_end ≤ old.end → Stands a new next r first count epochs (released + 1)
  release_stands new e due known = grind (arith, both_by, step)

  front_given : old.first < old.due_end → old.due_end ≤ old.end
      → slice_get (readback r first count epochs) released ≡ Some (front_packet (status_of old))
  unfolding readback
  front_given due known =
      let n : ℕ = due_after r (first + count) - first_slot r first in
      let f : ℕ → List ℕ = slot_packet r (string_of r.up_len (epoch_of r first) epochs) in
      let inside : released < n = omega (arith, h.begin, due_end_is, due) in
      slice_get-get_or (map f (range_with_len (first_slot r first) n)) released null_packet
      (omega (arith, inside, length-map-range_with_len f (first_slot r first) n))
      ∙ ap (λ (p : List ℕ). Some p)
      (get_or-map-range_with_len f (first_slot r first) n released old.first null_packet inside (sym h.begin)
      ∙ sym (ap (λ (o : Option (List ℕ)). unwrap_or o null_packet) (step due known).0))

  -- Either way.
  pub released_or_not : (new : SlotWindow) (b : Bool) → b ≡ nat_lt old.first old.due_end
      → status_of new ≡ (if b then given (status_of old) else status_of old) → old.due_end ≤ old.end
      → Stands a new next r first count epochs (if b then released + 1 else released)
  released_or_not new true t e known = release_stands new e (ltb-true _ _ (sym t)) known
  released_or_not new false t e known = same_stands new e

  pub release_answers : (b : Bool) → b ≡ true → b ≡ nat_lt old.first old.due_end → (out before : List ℕ)
      → out ≡ (if b then front_packet (status_of old) else before) → old.due_end ≤ old.end
      → slice_get (readback r first count epochs) released ≡ Some out
  release_answers b e t out before packet known = grind (arith, front_given, ltb-true)

-- the same with another name of the frame and the assembler
pub stands_at : {a b : Assembler} {w : SlotWindow} {n m : ℕ} {r : SlotRule} {first count : ℕ} {epochs : List Epoch}
    {released : ℕ}
    → b ≡ a → m ≡ n → Stands a w n r first count epochs released → Stands b w m r first count epochs released
stands_at e f h = rw (e, f) h

-- ---- of no frame yet
pub fresh_held : (a : Assembler) (w : SlotWindow) (r : SlotRule) → Fresh a w r → w.end - w.first ≡ 0
fresh_held a w r f = let none = ap length f.empty in let span = w.span in omega (arith, none, span)

pub fresh_due : (a : Assembler) (w : SlotWindow) (r : SlotRule) → Fresh a w r → w.due_end - w.first ≡ 0
fresh_due a w r f = let none = ap length f.empty in let span = w.span in let known = w.known in omega
    (arith, none, span, known)
