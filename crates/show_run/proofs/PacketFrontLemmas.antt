-- Bytes that hold as many as their header tells: what is refused of them is refused whatever follows, and a packet that
-- they begin with is all of them if they are no more.
use Rattle.std.proofs.Common.{◌≡◌, ℕ, ◌<◌, ◌≤◌, Bool, true, false, cond, ◌&&◌, Some, None, List, ◌++◌, length, take}
use Rattle.std.proofs.Common.{zero, suc, refl, ap, sym, subst, ◌∙◌, inl, inr, arith, length-append}
use Rattle.std.proofs.lemmas.List.{nil_from_length}
use Rattle.std.proofs.Math.Seq.{take-length}
use Rattle.bit_slice.specs.Crc.{crc32_of}
use Rattle.t2mi_packet.specs.declared.packet_view.PacketView.{PacketView}
use Rattle.t2mi_packet.specs.declared.fault.PacketWhy.{PacketWhy}
use Rattle.t2mi_packet.specs.declared.fault.PacketWhy.TheVariants.{Short, Crc, PadBits, PayloadShape}
use Rattle.t2mi_packet.specs.Laws.{SpellIs}
use Rattle.t2mi_packet.specs.Spell.{is_complete, is_good, spell}
use Rattle.t2mi_packet.specs.T2miPacket.{told_len, is_shaped, BeginsWith, Spells, IsShort, HasCrc, HasPad, HasShape}
use Rattle.t2mi_packet.specs.T2miPacket.{RefusesFor}
use Rattle.t2mi_packet.proofs.FrontLemmas.{same, told_on}
use Rattle.t2mi_packet.proofs.PacketLemmas.{Holds, not_short}
use Rattle.show_run.specs.PacketFile.{Begins, IsRefused}
use Rattle.show_run.specs.Front.{IsLacking}
use Rattle.show_run.specs.PacketLines.{IsWhole}
use Rattle.show_run.proofs.PacketFileLemmas.{begins_inside}

-- what follows decides nothing
holds_on : (front more : List ℕ) → IsWhole front → Holds (front ++ more)
holds_on front more w =
    let all = length-append front more in
    let header = w.header in
    let packet = w.packet in
    let told = told_on front more header in
    record { header = omega (arith, all, header); packet = omega (arith, all, packet, told) }

refuses_on : (front more : List ℕ) (why : PacketWhy) (at : ℕ) → IsWhole front → RefusesFor front why at
    → RefusesFor (front ++ more) why at
refuses_on front more Short at w r =
    absurd (not_short front (record { header = w.header; packet = w.packet }) r.0)
refuses_on front more Crc at w r =
    let s = same front more (record { header = w.header; packet = w.packet }) in (
      not_short (front ++ more) (holds_on front more w),
      λ (has : HasCrc (front ++ more)). r.1 (sym s.crc ∙ rw s.len at has ∙ ap crc32_of s.counted),
      rw s.len r.2,
    )
refuses_on front more PadBits at w r =
    let s = same front more (record { header = w.header; packet = w.packet }) in (
      not_short (front ++ more) (holds_on front more w),
      rw s.len (s.crc ∙ r.1 ∙ ap crc32_of (sym s.counted)),
      λ (has : HasPad (front ++ more)). r.2 (sym s.pad ∙ rw s.len at has),
      rw s.len r.3,
    )
refuses_on front more PayloadShape at w r =
    let s = same front more (record { header = w.header; packet = w.packet }) in (
      not_short (front ++ more) (holds_on front more w),
      rw s.len (s.crc ∙ r.1 ∙ ap crc32_of (sym s.counted)),
      rw s.len (s.pad ∙ r.2),
      λ (has : HasShape (front ++ more)). r.3 (sym (ap (λ (v : PacketView). is_shaped v.packet_type v.payload) s.view)
          ∙ has),
      r.4,
    )

pub refused_whole : (front more : List ℕ) (why : PacketWhy) → IsWhole front → IsRefused front why
    → IsRefused (front ++ more) why
refused_whole front more why w r = (
  (λ e. r.0 (nil_from_length front (let n = ap length e in let m = length-append front more in omega (arith, n, m)))),
  (r.1.0, refuses_on front more r.1.0.why r.1.0.at w r.1.1, r.1.2),
)

-- how many bytes are lacking
pub lacks_some : (bytes : List ℕ) (n : ℕ) → IsLacking bytes n → IsShort bytes → 0 < n
lacks_some bytes n (inl head) s = let few = head.0 in let sum = head.1 in omega (arith, few, sum)
lacks_some bytes n (inr rest) (inl few) = let many = rest.0 in absurd (omega (arith, few, many))
lacks_some bytes n (inr rest) (inr few) = let is = rest.1 in omega (arith, few, is)

pub lacks_none : (bytes : List ℕ) (n : ℕ) → IsLacking bytes n → n ≡ 0 → IsWhole bytes
lacks_none bytes n (inl head) none = let few = head.0 in let sum = head.1 in absurd (omega (arith, few, sum, none))
lacks_none bytes n (inr rest) none = let is = rest.1 in
    record { header = rest.0; packet = omega (arith, is, none) }

pub still_short : (bytes : List ℕ) (n : ℕ) → IsLacking bytes n → (n ≡ 0 → ⊥) → IsShort bytes
still_short bytes zero l some = absurd (some refl)
still_short bytes (suc n) (inl head) some = inl head.0
still_short bytes (suc n) (inr rest) some = inr (let is = rest.1 in omega (arith, is))

-- no more bytes were taken than were lacking
pub whole_exact : (bytes piece : List ℕ) (n : ℕ) → IsLacking bytes n → 0 < n → length piece ≤ n
    → IsWhole (bytes ++ piece)
    → length (bytes ++ piece) ≡ told_len (bytes ++ piece)
whole_exact bytes piece n (inl head) some few w =
    let sum = head.1 in
    let all = length-append bytes piece in
    let packet = w.packet in
    absurd (omega (arith, sum, all, packet, few))
whole_exact bytes piece n (inr rest) some few w =
    let is = rest.1 in
    let all = length-append bytes piece in
    let packet = w.packet in
    let told = told_on bytes piece rest.0 in
    omega (arith, is, all, packet, some, few, told)

-- a packet is as long as its header tells
some_told : (b : Bool) (k n : ℕ) → cond b (Some k) None ≡ Some n → k ≡ n
some_told true k n e = cc
some_told false k n e = let no : None ≡ Some n = e in cc

begins_told : SpellIs → (bytes packet : List ℕ) → Begins bytes packet → length packet ≡ told_len bytes
unfolding spell
begins_told law bytes packet b =
    let begins : BeginsWith bytes b.is.0 (length packet) =
    record { inside = begins_inside bytes packet b; spells = subst (Spells b.is.0) (sym b.there) b.is.1 } in
    sym (some_told (is_complete bytes && is_good bytes) (told_len bytes) (length packet)
    ((law bytes (length packet)).1 (b.is.0, begins)))

pub whole_packet : SpellIs → (bytes packet : List ℕ) → Begins bytes packet → length bytes ≡ told_len bytes
    → packet ≡ bytes
whole_packet law bytes packet b whole = sym b.there
    ∙ ap (λ (k : ℕ). take k bytes) (begins_told law bytes packet b ∙ sym whole) ∙ take-length bytes
