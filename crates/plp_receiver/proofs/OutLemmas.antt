-- One lemma for each way out of `piece`, over the parts of the assembler.
use Rattle.std.proofs.Common.{◌≡◌, ℕ, ◌+◌, ◌^◌, ◌<◌, ◌≤◌, true, false, List, [], ◌∷◌, ◌++◌, length, take, Option, None}
use Rattle.std.proofs.Common.{refl, ap, ◌∙◌, sym, subst, arith, append-nil}
use Rattle.std.specs.Prelude.{IfSome}
use Rattle.plp_receiver.specs.declared.slot_rule.SlotRule.{SlotRule}
use Rattle.plp_receiver.specs.declared.mark.Mark.{Mark}
use Rattle.plp_receiver.specs.declared.assembler.Base.{Base}
use Rattle.plp_receiver.specs.declared.assembler.Found.{Found}
use Rattle.plp_receiver.specs.Sound.{IsSound}
use Rattle.plp_receiver.specs.Strings.{Item, gap}
use Rattle.plp_receiver.specs.Packets.{user_packets}
use Rattle.plp_receiver.specs.Machine.{state_of, turn}
use Rattle.plp_receiver.proofs.TurnLemmas.{reads, begins_idle}
use Rattle.plp_receiver.specs.Pieces.{piece_items}
use Rattle.plp_receiver.specs.Base.{slot_with, next_len, is_idle}
use Rattle.plp_receiver.specs.Assembles.{IsEpoch, next_base, AssemblerStands, kept_dnp, found_of, Gains}
use Rattle.plp_receiver.proofs.HoldsLemmas as H

-- the assembler before the call, which stands for a string by the rule r
pub record Before (rule r : SlotRule) (len : ℕ) (held : List ℕ) (kept : Base) (z : List Item) (mark : Mark) (epoch : ℕ)
    (bytes : List ℕ) : Type 0 where
  pub same : rule ≡ r
  pub sound : IsSound rule
  pub stands : AssemblerStands r len held kept z
  pub at : IsEpoch epoch mark
  pub some : 1 ≤ length bytes

pub before : {rule r : SlotRule} {len : ℕ} {held : List ℕ} {kept : Base} {z : List Item} (mark : Mark) (epoch : ℕ)
    (bytes : List ℕ) → rule ≡ r → IsSound rule → AssemblerStands r len held kept z → IsEpoch epoch mark
    → 1 ≤ length bytes → Before rule r len held kept z mark epoch bytes
before mark epoch bytes same sound stands at some =
    record { same = same; sound = sound; stands = stands; at = at; some = some }

module _ {rule r : SlotRule} {len : ℕ} {held : List ℕ} {kept : Base} {z : List Item} {mark : Mark} {epoch : ℕ} where
  sound_r : (bytes : List ℕ) → Before rule r len held kept z mark epoch bytes → IsSound r
  sound_r bytes b = subst IsSound b.same b.sound

  next_is : {bytes : List ℕ} → Before rule r len held kept z mark epoch bytes → (base : Base)
      → base ≡ next_base rule len kept mark epoch → base ≡ next_base r len kept mark epoch
  next_is b base h = h ∙ ap (λ (q : SlotRule). next_base q len kept mark epoch) b.same

  near_is : {bytes : List ℕ} → Before rule r len held kept z mark epoch bytes → (base : Base)
      → base ≡ next_base rule len kept mark epoch → IfSome base.slot (λ k. k ≤ 2 ^ 53)
      → IfSome (next_base r len kept mark epoch).slot (λ k. k ≤ 2 ^ 53)
  near_is b base e h = subst (λ (b : Base). IfSome b.slot (λ k. k ≤ 2 ^ 53)) (next_is b base e) h

  len_is : {bytes : List ℕ} → Before rule r len held kept z mark epoch bytes → rule.up_len ≡ r.up_len
  len_is b = ap (λ (q : SlotRule). q.up_len) b.same

  pub idle_out : (bytes : List ℕ) → Before rule r len held kept z mark epoch bytes → is_idle len mark ≡ true
      → (l : ℕ) (h : List ℕ) (k : Base) → l ≡ 0 → k.slot ≡ None
      → AssemblerStands r l h k (z ++ piece_items mark epoch bytes)
  idle_out [] b i l h k e f = let s = b.some in absurd (omega (arith, s))
  idle_out (v ∷ vs) b i l h k e f = H.idle_stands r (sound_r (v ∷ vs) b) z epoch v vs mark len held kept
      b.stands b.at i l h k e f

  pub idle_gains_out : (bytes : List ℕ) → Before rule r len held kept z mark epoch bytes → is_idle len mark ≡ true
      → (h : List ℕ)
      → Gains r z epoch (piece_items mark epoch bytes) h None
  idle_gains_out [] b i h = let s = b.some in absurd (omega (arith, s))
  idle_gains_out (v ∷ vs) b i h = H.idle_gains r (sound_r (v ∷ vs) b) z epoch v vs mark len held kept b.stands b.at i h

  pub over_out : (bytes : List ℕ) → Before rule r len held kept z mark epoch bytes → (base : Base)
      → base ≡ next_base rule len kept mark epoch → IfSome base.slot (λ k. k ≤ 2 ^ 53) → is_idle len mark ≡ false
      → rule.up_len < next_len len mark + length bytes → (l : ℕ) (h : List ℕ) (k : Base) → l ≡ 0 → k.slot ≡ None
      → AssemblerStands r l h k (z ++ piece_items mark epoch bytes)
  over_out [] b base n g i m l h k e f = let s = b.some in absurd (omega (arith, s))
  over_out (v ∷ vs) b base n g i m l h k e f = H.over_stands r (sound_r (v ∷ vs) b) z epoch v vs mark
      len held kept b.stands b.at
      (near_is b base n g) i (let q = len_is b in omega (arith, q, m)) l h k e f

  pub over_gains_out : (bytes : List ℕ) → Before rule r len held kept z mark epoch bytes → (base : Base)
      → base ≡ next_base rule len kept mark epoch → IfSome base.slot (λ k. k ≤ 2 ^ 53) → is_idle len mark ≡ false
      → rule.up_len < next_len len mark + length bytes → (h : List ℕ)
      → Gains r z epoch (piece_items mark epoch bytes) h None
  over_gains_out [] b base n g i m h = let s = b.some in absurd (omega (arith, s))
  over_gains_out (v ∷ vs) b base n g i m h = H.over_gains r (sound_r (v ∷ vs) b) z epoch v vs mark len
      held kept b.stands b.at
      (near_is b base n g) i (let q = len_is b in omega (arith, q, m)) h

  pub short_out : (bytes : List ℕ) → Before rule r len held kept z mark epoch bytes → (base : Base)
      → base ≡ next_base rule len kept mark epoch → IfSome base.slot (λ k. k ≤ 2 ^ 53) → is_idle len mark ≡ false
      → next_len len mark + length bytes < rule.up_len → (h : List ℕ) → take (next_len len mark + length bytes) h
      ≡ take (next_len len mark) held ++ bytes → AssemblerStands r (next_len len mark + length bytes) h base
      (z ++ piece_items mark epoch bytes)
  short_out [] b base n g i m h e = let s = b.some in absurd (omega (arith, s))
  short_out (v ∷ vs) b base n g i m h e =
      subst (λ (k : Base). AssemblerStands r (next_len len mark + length (v ∷ vs)) h k
      (z ++ piece_items mark epoch (v ∷ vs)))
      (sym (next_is b base n)) (H.short_stands r (sound_r (v ∷ vs) b) z epoch v vs mark len held kept b.stands b.at
      (near_is b base n g) i (let q = len_is b in omega (arith, q, m)) h e)

  pub short_gains_out : (bytes : List ℕ) → Before rule r len held kept z mark epoch bytes → (base : Base)
      → base ≡ next_base rule len kept mark epoch → IfSome base.slot (λ k. k ≤ 2 ^ 53) → is_idle len mark ≡ false
      → next_len len mark + length bytes < rule.up_len → (h : List ℕ)
      → Gains r z epoch (piece_items mark epoch bytes) h None
  short_gains_out [] b base n g i m h = let s = b.some in absurd (omega (arith, s))
  short_gains_out (v ∷ vs) b base n g i m h = H.short_gains r (sound_r (v ∷ vs) b) z epoch v vs mark
      len held kept b.stands b.at
      (near_is b base n g) i (let q = len_is b in omega (arith, q, m)) h

  slot_is : {bytes : List ℕ} → Before rule r len held kept z mark epoch bytes → (base : Base) (h : List ℕ)
      → base ≡ next_base rule len kept mark epoch
      → slot_with base (kept_dnp rule h) ≡ slot_with (next_base r len kept mark epoch) (kept_dnp r h)
  slot_is b base h n = ap (λ (q : SlotRule). slot_with base (kept_dnp q h)) b.same
      ∙ ap (λ (p : Base). slot_with p (kept_dnp r h)) (next_is b base n)

  pub end_out : (bytes : List ℕ) → Before rule r len held kept z mark epoch bytes → (base : Base)
      → base ≡ next_base rule len kept mark epoch → IfSome base.slot (λ k. k ≤ 2 ^ 53) → is_idle len mark ≡ false
      → next_len len mark + length bytes ≡ rule.up_len → (h : List ℕ) → take (next_len len mark + length bytes) h
      ≡ take (next_len len mark) held ++ bytes → (l : ℕ) (any : List ℕ) (k : Base) → l ≡ 0
      → k.slot ≡ slot_with base (kept_dnp rule h) → AssemblerStands r l any k (z ++ piece_items mark epoch bytes)
  end_out [] b base n g i m h e l any k f s = let s = b.some in absurd (omega (arith, s))
  end_out (v ∷ vs) b base n g i m h e l any k f s =
      H.end_stands r (sound_r (v ∷ vs) b) z epoch v vs mark len held kept b.stands b.at
      (near_is b base n g) i
      (m ∙ len_is b) h e l any k f (s ∙ (slot_is b base h n))

  pub end_gains_out : (bytes : List ℕ) → Before rule r len held kept z mark epoch bytes → (base : Base)
      → base ≡ next_base rule len kept mark epoch → IfSome base.slot (λ k. k ≤ 2 ^ 53) → is_idle len mark ≡ false
      → next_len len mark + length bytes ≡ rule.up_len → (h : List ℕ) → take (next_len len mark + length bytes) h
      ≡ take (next_len len mark) held ++ bytes → (result : Option Found)
      → result ≡ found_of base (slot_with base (kept_dnp rule h)) → Gains r z epoch (piece_items mark epoch bytes)
      h result
  end_gains_out [] b base n g i m h e result a = let s = b.some in absurd (omega (arith, s))
  end_gains_out (v ∷ vs) b base n g i m h e result a =
      H.end_gains r (sound_r (v ∷ vs) b) z epoch v vs mark len held kept b.stands b.at
      (near_is b base n g) i
      (m ∙ len_is b) h e result (a ∙ ap (found_of base) (slot_is b base h n)
      ∙ ap (λ (p : Base). found_of p (slot_with (next_base r len kept mark epoch) (kept_dnp r h)))
      (next_is b base n))

pub front_is : (from len : ℕ) (bytes h old : List ℕ) → from ≡ len → take (from + length bytes) h ≡ take from old
    ++ bytes
    → take (len + length bytes) h ≡ take len old ++ bytes
front_is from len bytes h old e f = subst (λ (n : ℕ). take (n + length bytes) h ≡ take n old ++ bytes) e f

pub new_stands : (r : SlotRule) (held : List ℕ) (kept : Base) → IsSound r → kept.slot ≡ None
    → AssemblerStands r 0 held kept []
new_stands r held kept sound e = record {
  state = state_of [] None;
  follows = let u = sound.up in begins_idle r (omega (arith, u));
  holds = record { bytes = refl; count = refl; base = e };
}

-- a gap
pub gap_stands : (epoch : ℕ) (rule r : SlotRule) (len : ℕ) (held : List ℕ) (kept : Base) (z : List Item)
    → rule ≡ r → IsSound rule
    → AssemblerStands r len held kept z
    → (l : ℕ) (h : List ℕ) (k : Base) → l ≡ 0 → k.slot ≡ None → AssemblerStands r l h k (z ++ gap epoch ∷ [])
unfolding turn
gap_stands epoch rule r len held kept z e sound st l h k f g =
    let u : IsSound r = subst IsSound e sound in
    let m = u.up in
    let two : 2 ≤ r.up_len = omega (arith, m) in
    record {
      state = state_of [] None;
      follows = (reads r two (gap epoch ∷ []) z st.state st.follows).follows;
      holds = record { bytes = ap (λ (n : ℕ). take n h) f; count = f; base = g };
    }

pub gap_none : (epoch : ℕ) (rule r : SlotRule) (len : ℕ) (held : List ℕ) (kept : Base) (z : List Item)
    → rule ≡ r → IsSound rule
    → AssemblerStands r len held kept z
    → user_packets r (z ++ gap epoch ∷ []) ≡ user_packets r z
unfolding turn
gap_none epoch rule r len held kept z e sound st =
    let u : IsSound r = subst IsSound e sound in
    let m = u.up in
    let two : 2 ≤ r.up_len = omega (arith, m) in
    (reads r two (gap epoch ∷ []) z st.state st.follows).gains ∙ append-nil (user_packets r z)
