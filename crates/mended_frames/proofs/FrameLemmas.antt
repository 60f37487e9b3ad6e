-- A frame as it is lent.
use Rattle.std.proofs.Common.{◌≡◌, ◌<◌, ℕ, ◌+◌, suc, List, [], ◌∷◌, map, length, Bool, refl, ap, ap₂, subst, ◌∙◌, arith}
use Rattle.std.specs.Prelude.{slice_index_or}
use Rattle.std.specs.List.{range_with_len}
use Rattle.plp_config.specs.Places.{places}
use Rattle.plp_config.specs.declared.config.Config.{Config}
use Rattle.t2mi_packet.specs.declared.packet.Packet.{Packet}
use Rattle.frame_groups.specs.Carried.{right_blocks}
use Rattle.open_group.specs.Sent.{held_bytes}
use Rattle.open_group.specs.Shown.{AreBlocks}
use Rattle.spaced_frames.specs.StandsFor.{Content}
use Rattle.mended_frames.specs.Mended.{content_in}
use Rattle.open_group.specs.Written.{dynamic_in}
use Rattle.frame_writer.specs.Signalling.{pre_part, conf_part}

-- what stands at each place, from one on
by_places : {X : Type 0} (d : X) (f : ℕ → X) (xs : List X) (a : ℕ)
    → ((i : ℕ) → i < length xs → slice_index_or xs i d ≡ f (a + i)) → xs ≡ map f (range_with_len a (length xs))
by_places d f [] a e = refl
by_places d f (x ∷ xs) a e =
    ap₂ (λ y ys. y ∷ ys) (e 0 (omega arith) ∙ ap f (omega arith))
    (subst (λ (k : ℕ). xs ≡ map f (range_with_len k (length xs))) (omega arith)
    (by_places d f xs (suc a) (λ i l. e (suc i) (omega (arith, l)) ∙ ap f (omega arith))))

pub lists_are : (c : Config) (packets : List Packet) (lists : List (List (List ℕ))) → length lists ≡ length c.plps
    → AreBlocks c packets lists → lists ≡ map (λ plp. map held_bytes (right_blocks c plp packets)) (places c)
lists_are c packets lists len are =
    by_places [] (λ plp. map held_bytes (right_blocks c plp packets)) lists 0
    (λ i l. are i (omega (arith, l, len)) ∙ ap (λ (k : ℕ). map held_bytes (right_blocks c k packets)) (omega arith))
    ∙ ap (λ (k : ℕ). map (λ plp. map held_bytes (right_blocks c plp packets)) (range_with_len 0 k)) len

abbrev pub content : List Bool → List Bool → List Bool → List (List (List ℕ)) → Content
content x y z l = record { pre = x; conf = y; dynamic = z; lists = l }

-- contents are the same whose parts are
pub content_as : (pre conf dynamic p k d : List Bool) (lists l : List (List (List ℕ))) → pre ≡ p → conf ≡ k
    → dynamic ≡ d → lists ≡ l
    → content pre conf dynamic lists ≡ content p k d l
content_as pre conf dynamic p k d lists l is_pre is_conf is_dynamic are =
    ap (λ (x : List Bool). content x conf dynamic lists) is_pre
    ∙ ap (λ (x : List Bool). content p x dynamic lists) is_conf
    ∙ ap₂ (λ (x : List Bool) (y : List (List (List ℕ))). content p k x y) is_dynamic are

pub content_is : (c : Config) (packets : List Packet) (pre conf dynamic : List Bool) (lists : List (List (List ℕ)))
    → pre ≡ pre_part c → conf ≡ conf_part c → dynamic ≡ dynamic_in packets → length lists ≡ length c.plps
    → AreBlocks c packets lists
    → record { pre = pre; conf = conf; dynamic = dynamic; lists = lists } ≡ content_in c packets
content_is c packets pre conf dynamic lists p k d len are =
    content_as pre conf dynamic (pre_part c) (conf_part c) (dynamic_in packets) lists
    (map (λ plp. map held_bytes (right_blocks c plp packets)) (places c)) p k d (lists_are c packets lists len are)
