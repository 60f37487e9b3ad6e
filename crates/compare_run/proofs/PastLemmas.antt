-- The groups that have numbers, of what survives: from the join on, what survives of each frame.
use Rattle.std.proofs.Common.{◌≡◌, ◌≢◌, ℕ, zero, suc, ◌+◌, ◌<◌, ◌≤◌, Bool, true, false, List, [], ◌∷◌, map}
use Rattle.std.proofs.Common.{length, Option, Some, None, refl, ap, sym, subst, ◌∙◌, ⊎_elim, arith}
use Rattle.std.specs.Prelude.{nat_le, if◌then◌else◌}
use Rattle.std.specs.List.{filter, range_with_len}
use Rattle.std.proofs.lemmas.Bool.{true≢false, cases_eq, ne_eqb, le-leb, lt-ltb}
use Rattle.t2mi_packet.specs.declared.packet.Packet.{Packet}
use Rattle.frame_groups.specs.Groups.{Group}
use Rattle.frame_groups.specs.Modulated.{Numbered, Rules, past_with, past_behind, past_after}
use Rattle.frame_groups.specs.Begun.{packets_at}
use Rattle.frame_groups.proofs.BegunLemmas.{at_own, at_other}
use Rattle.stream_laws.specs.GroupNumbers.{numbers_behind, is_met, number_from}
use Rattle.stream_laws.specs.SentPackets.{Sent, frame_packets, frame_group}
use Rattle.stream_laws.specs.Survivors.{has_packets}

-- groups with numbers in front of others
abbrev pub with_numbers : List Numbered → List Group → List (Option ℕ) → List Numbered
with_numbers past [] numbers = past
with_numbers past (g ∷ gs) [] = past
with_numbers past (g ∷ gs) (o ∷ numbers) = with_numbers (past_with past g o) gs numbers

pub past_numbered : (r : Rules) (past : List Numbered) (gs : List Group) → past_after r past gs
    ≡ with_numbers past gs (numbers_behind r past gs)
past_numbered r past [] = refl
past_numbered r past (g ∷ gs) = past_numbered r (past_behind r past g) gs

-- a group whose number is that of its frame, from one on
abbrev numbered_as : List Numbered → Group → ℕ → Bool → List Numbered
numbered_as past g a late = past_with past g (if late then Some a else None)

other_stays : (past : List Numbered) (g : Group) (a b : ℕ) (late : Bool) → a ≢ b
    → packets_at (numbered_as past g a late) b ≡ packets_at past b
other_stays past g a b true ne = at_other (record { number = a; group = g }) past b ne
other_stays past g a b false ne = refl

own_there : (past : List Numbered) (g : Group) (a : ℕ) (late : Bool) → late ≡ true
    → packets_at (numbered_as past g a late) a ≡ g.packets
own_there past g a true e = at_own (record { number = a; group = g }) past
own_there past g a false e = absurd (true≢false (sym e))

module _ (frames first : ℕ) (ss : List Sent) where
  abbrev groups_from : ℕ → ℕ → List Group
  groups_from a len = filter has_packets (map (frame_group frames ss) (range_with_len a len))

  abbrev numbers_from : ℕ → ℕ → List (Option ℕ)
  numbers_from a len = map (number_from first) (filter (is_met ss) (range_with_len a len))

  -- with what survives of so many frames from one on
  abbrev after : List Numbered → ℕ → ℕ → List Numbered
  after past a len = with_numbers past (groups_from a len) (numbers_from a len)

  abbrev one_more : List Numbered → ℕ → List Numbered
  one_more past a = past_with past (frame_group frames ss a) (number_from first a)

  -- a frame of which nothing survives, and one of which something does
  passed : (past : List Numbered) (a len : ℕ) → frame_packets a ss ≡ []
      → after past a (suc len) ≡ after past (a + 1) len
  passed past a len is = rw is

  put : (past : List Numbered) (a len : ℕ) (p : Packet) (ps : List Packet) → frame_packets a ss ≡ p ∷ ps
      → after past a (suc len) ≡ after (one_more past a) (a + 1) len
  put past a len p ps is =
      rw (is, ne_eqb (length (p ∷ ps)) 0 (λ e. omega (arith, e)), lt-ltb 0 (length (p ∷ ps)) (omega arith))

  -- they do not change what is there of an earlier frame
  stays : (b len a : ℕ) (past : List Numbered) → b < a → packets_at (after past a len) b ≡ packets_at past b
  stays b zero a past l = refl
  stays b (suc len) a past l = go (frame_packets a ss) refl (λ gs m. stays b len (a + 1) gs m)
    where
      go : (ps : List Packet) → frame_packets a ss ≡ ps
          → ((gs : List Numbered) → b < a + 1 → packets_at (after gs (a + 1) len) b ≡ packets_at gs b)
          → packets_at (after past a (suc len)) b ≡ packets_at past b
      go [] is later = ap (λ (gs : List Numbered). packets_at gs b) (passed past a len is)
          ∙ later past (omega (arith, l))
      go (p ∷ ps) is later =
          ap (λ (gs : List Numbered). packets_at gs b) (put past a len p ps is)
          ∙ later (one_more past a) (omega (arith, l))
          ∙ other_stays past (frame_group frames ss a) a b (nat_le first a) (λ e. omega (arith, e, l))

  -- and what survives of a later one, from the first on, is there
  pub comes : (b : ℕ) → first ≤ b → (len a : ℕ) (past : List Numbered) → a ≤ b → b < a + len → packets_at past b ≡ []
      → packets_at (after past a len) b ≡ frame_packets b ss
  comes b late zero a past low high none = absurd (omega (arith, low, high))
  comes b late (suc len) a past low high none =
      go (frame_packets a ss) refl (λ gs from there. comes b late len (a + 1) gs from (omega (arith, high)) there)
    where
      go : (ps : List Packet) → frame_packets a ss ≡ ps
          → ((gs : List Numbered) → a + 1 ≤ b → packets_at gs b ≡ []
          → packets_at (after gs (a + 1) len) b ≡ frame_packets b ss)
          → packets_at (after past a (suc len)) b ≡ frame_packets b ss
      go [] is later =
          ap (λ (gs : List Numbered). packets_at gs b) (passed past a len is)
          ∙ ⊎_elim
          (λ (e : a ≡ b).
          stays b len (a + 1) past (omega (arith, e)) ∙ none ∙ sym is ∙ ap (λ (k : ℕ). frame_packets k ss) e)
          (λ (ne : a ≢ b). later past (omega (arith, low, ne)) none)
          (cases_eq a b)
      go (p ∷ ps) is later =
          ap (λ (gs : List Numbered). packets_at gs b) (put past a len p ps is)
          ∙ ⊎_elim
          (λ (e : a ≡ b).
          stays b len (a + 1) (one_more past a) (omega (arith, e))
          ∙ subst (λ (k : ℕ). packets_at (one_more past a) k ≡ frame_packets k ss) e
          (own_there past (frame_group frames ss a) a (nat_le first a) (le-leb first a (omega (arith, late, e)))))
          (λ (ne : a ≢ b).
          later (one_more past a) (omega (arith, low, ne))
          (other_stays past (frame_group frames ss a) a b (nat_le first a) ne ∙ none))
          (cases_eq a b)
