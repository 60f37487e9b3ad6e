-- Laws of the records that are due.
use Rattle.std.proofs.Common.{◌≡◌, ℕ, ◌+◌, ◌-◌, Bool, true, false, List, [], ◌∷◌, ◌++◌, map, Option, Some, None, refl}
use Rattle.std.proofs.Common.{ap, sym, subst, ◌∙◌, append_assoc}
use Rattle.std.specs.List.{AllByRecursion, range_with_len}
use Rattle.std.proofs.lemmas.Bool.{true≢false}
use Rattle.std.proofs.lemmas.List.{map-append}
use Rattle.t2mi_packet.specs.declared.packet.Packet.{Packet}
use Rattle.t2mi_stream.specs.Accepted.{AcceptedPacket}
use Rattle.t2mi_stream.specs.Laws.{AcceptedFront}
use Rattle.t2mi_stream.specs.Units.{accepted_of}
use Rattle.plp_config.specs.Capacity.{IsPlan}
use Rattle.plp_config.specs.declared.config.Config.{Config}
use Rattle.frame_groups.specs.Due.{due}
use Rattle.frame_groups.specs.Groups.{Group, groups}
use Rattle.frame_groups.specs.Laws.{AreFrom, without_last, ModulatedFront, NumbersFollow}
use Rattle.frame_groups.specs.Modulated.{FrameRecord, Content, content_of, gap_record, group_record, gaps_behind}
use Rattle.frame_groups.specs.Modulated.{own_record, Numbered, number_behind, past_behind, past_after, records_with}
use Rattle.frame_groups.specs.Modulated.{records_from, modulated}
use Rattle.frame_groups.specs.Modulated.Content.{Whole, Muted}
use Rattle.frame_groups.specs.declared.cause.MuteCause.{MuteCause}
use Rattle.frame_groups.specs.declared.cause.MuteCause.TheVariants.{Gap}
use Rattle.record_laws.specs.Frames.{HasByteIds}
use Rattle.frame_groups.specs.Tests.{rules}
use Rattle.open_group.specs.Laws.{RecordSpelled}
use Rattle.modulator.specs.Laws.{DueFront, DueFollow, DueSpelled, AreSpelled, DuePass, PassesAmong, IsRight}
use Rattle.modulator.specs.Modulating.{packet_of, packets_of}
use Rattle.modulator.specs.StandsFor.{records_due}
use Rattle.frame_groups.proofs.FollowLemmas.{past_after_push}
use Rattle.modulator.proofs.StandsLemmas.{due_front}

pub due_fronts : AcceptedFront → ModulatedFront → DueFront
due_fronts accepted front c finished bytes more =
    let a = accepted c.pid bytes more in
    let parted : packets_of (accepted_of c.pid (bytes ++ more)) ≡ packets_of (accepted_of c.pid bytes)
    ++ packets_of a.0 =
    ap packets_of a.1 ∙ map-append (λ (a : AcceptedPacket). packet_of a.bytes) (accepted_of c.pid bytes) a.0 in
    let d = due_front front (rules c) finished (packets_of (accepted_of c.pid bytes)) (packets_of a.0) in
    (d.0, ap (due (rules c) finished) parted ∙ d.1)

without_from : (n : ℕ) (xs : List FrameRecord) → AreFrom n xs → AreFrom n (without_last xs)
without_from n [] h = tt
without_from n (x ∷ []) h = tt
without_from n (x ∷ y ∷ xs) h = (h.0, without_from (n + 1) (y ∷ xs) h.1)

pub due_follow : NumbersFollow → DueFollow
due_follow numbers c true bytes = numbers (rules c) (packets_of (accepted_of c.pid bytes))
due_follow numbers c false bytes =
    let f = numbers (rules c) (packets_of (accepted_of c.pid bytes)) in
    (f.0, without_from f.0 (modulated (rules c) (packets_of (accepted_of c.pid bytes))) f.1)

-- a record that is muted, or whose group is one of those that came and passes
module _ (c : Config) (gs : List Group) where
  right_append : (xs ys : List FrameRecord) → AllByRecursion (IsRight c gs) xs → AllByRecursion (IsRight c gs) ys
      → AllByRecursion (IsRight c gs) (xs ++ ys)
  right_append [] ys a b = b
  right_append (x ∷ xs) ys a b = (a.0, right_append xs ys a.1 b)

  muted_right : (n : ℕ) (cause : MuteCause) → IsRight c gs (record { number = n; content = Muted cause })
  muted_right n cause g e = absurd (apart e)
    where
      is_muted : Content → Bool
      is_muted (Whole h) = false
      is_muted (Muted k) = true

      apart : Muted cause ≡ Whole g → ⊥
      apart e = absurd (true≢false (ap is_muted e))

  own_right : (before : List Group) (h : Group) (after : List Group) (n : ℕ) → gs ≡ before ++ h ∷ after
      → IsRight c gs (group_record (rules c) (past_after (rules c) [] before) h n)
  own_right before h after n is = go ((rules c).fault (past_after (rules c) [] before) h n) refl
    where
      group_of : Content → Group
      group_of (Whole g) = g
      group_of (Muted cause) = h

      go : (o : Option MuteCause) → (rules c).fault (past_after (rules c) [] before) h n ≡ o → (g : Group)
          → content_of h o ≡ Whole g → PassesAmong c gs g n
      go None k g e = record {
        before = before;
        after = after;
        parts = is ∙ ap (λ (x : Group). before ++ x ∷ after) (ap group_of e);
        none = ap (λ (x : Group). (rules c).fault (past_after (rules c) [] before) x n) (sym (ap group_of e)) ∙ k;
      }
      go (Some cause) k g e = muted_right n cause g e

  gaps_right : (ns : List ℕ) → AllByRecursion (IsRight c gs) (map gap_record ns)
  gaps_right [] = tt
  gaps_right (n ∷ ns) = (muted_right n Gap, gaps_right ns)

  behind_right : (past : List Numbered) (number : Option ℕ) → AllByRecursion (IsRight c gs) (gaps_behind past number)
  behind_right [] number = tt
  behind_right (b ∷ past) None = tt
  behind_right (b ∷ past) (Some n) = gaps_right (range_with_len (b.number + 1) (n - (b.number + 1)))

  one_right : (before : List Group) (g : Group) (after : List Group) (number : Option ℕ) → gs ≡ before ++ g ∷ after
      → AllByRecursion (IsRight c gs) (own_record (rules c) (past_after (rules c) [] before) g number)
  one_right before g after None is = tt
  one_right before g after (Some n) is = (own_right before g after n is, tt)

  all_right : (before after : List Group) → gs ≡ before ++ after
      → AllByRecursion (IsRight c gs) (records_from (rules c) (past_after (rules c) [] before) after)
  all_right before [] is = tt
  all_right before (g ∷ after) is =
      let past : List Numbered = past_after (rules c) [] before in
      let number : Option ℕ = number_behind (rules c) past g in
      right_append (records_with (rules c) past g) (records_from (rules c) (past_behind (rules c) past g) after)
      (right_append (gaps_behind past number) (own_record (rules c) past g number) (behind_right past number)
      (one_right before g after number is))
      (subst (λ (p : List Numbered). AllByRecursion (IsRight c gs) (records_from (rules c) p after))
      (past_after_push (rules c) [] before g)
      (all_right (before ++ g ∷ []) after (is ∙ sym (append_assoc before (g ∷ []) after))))

  without_right : (xs : List FrameRecord) → AllByRecursion (IsRight c gs) xs
      → AllByRecursion (IsRight c gs) (without_last xs)
  without_right [] h = tt
  without_right (x ∷ []) h = tt
  without_right (x ∷ y ∷ xs) h = (h.0, without_right (y ∷ xs) h.1)

  right_spelled : RecordSpelled → IsPlan c → HasByteIds c → (xs : List FrameRecord) → AllByRecursion (IsRight c gs) xs
      → AreSpelled c xs
  right_spelled law plan ids [] h = tt
  right_spelled law plan ids (x ∷ xs) h = (
    λ small. law c x plan ids small (λ g e. let p = h.0 g e in (past_after (rules c) [] p.before, p.none)),
    right_spelled law plan ids xs h.1,
  )

modulated_right : (c : Config) (ps : List Packet) → AllByRecursion (IsRight c (groups c.frames ps))
    (modulated (rules c) ps)
unfolding modulated
modulated_right c ps = all_right c (groups c.frames ps) [] (groups c.frames ps) refl

due_right : (c : Config) (finished : Bool) (ps : List Packet)
    → AllByRecursion (IsRight c (groups c.frames ps)) (due (rules c) finished ps)
due_right c true ps = modulated_right c ps
due_right c false ps = without_right c (groups c.frames ps) (modulated (rules c) ps) (modulated_right c ps)

pub due_spelled : RecordSpelled → DueSpelled
due_spelled law c finished bytes plan ids =
    let ps : List Packet = packets_of (accepted_of c.pid bytes) in
    right_spelled c (groups c.frames ps) law plan ids (records_due c finished bytes) (due_right c finished ps)

pub due_pass : DuePass
due_pass c finished bytes = due_right c finished (packets_of (accepted_of c.pid bytes))
