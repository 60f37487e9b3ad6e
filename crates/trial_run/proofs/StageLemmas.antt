-- Runs over desks in memory: what such a desk holds at first, and what a run leaves on it.
use Rattle.std.proofs.Common.{◌≡◌, ℕ, zero, suc, ◌<◌, List, [], ◌∷◌, codes, length, Option, Some, refl, ap, sym, subst}
use Rattle.std.proofs.Common.{◌∙◌, arith, ◌≢◌, map, get_or, Vec, Global}
use Rattle.std.specs.Prelude.{Ok, IfSome, unwrap_or, option_and_then, slice_index_or}
use Rattle.std.specs.List.{range_with_len}
use Rattle.std.proofs.lemmas.List.{get_or-map, length-map}
use Rattle.std.proofs.lemmas.List.FromFn.{length-map-range_with_len, get_or-map-range_with_len}
use Rattle.std.specs.FinMap.{empty, insert, get}
use Rattle.modulator.specs.StandsFor.{records_of}
use Rattle.ports.proofs.WriteLemmas.{get_set, get_other}
use Rattle.ports.specs.Desk.{State, Held, Files, file_of}
use Rattle.ports.specs.MemoryDesk.{Memory, empty_memory, with_file}
use Rattle.plp_config.specs.Capacity.{IsPlan}
use Rattle.plp_config.specs.declared.config.Config.{Config}
use Rattle.mode_adapt.specs.Deletion.{packet_at}
use Rattle.ts_packet.specs.TsFile.{packets_in, joined}
use Rattle.t2mi_stream.specs.Pipe.{pipe}
use Rattle.gateway_core.specs.Laws.{FrontsDecided}
use Rattle.gateway_core.specs.Packets.{front_packets}
use Rattle.common_plp.specs.Sharing.{Apart}
use Rattle.file_run.specs.FileRun.{Works, file_at}
use Rattle.file_run.specs.Work.{Ends, Into}
use Rattle.file_run.proofs.WorkLemmas.{told_of, works_of}
use Rattle.gateway_run.specs.GatewayRun.{frames_of, units_of, inputs_of, gateway_work}
use Rattle.modulate_run.specs.Counted.{counted}
use Rattle.modulate_run.specs.ModulateRun.{modulate_work, output_of}
use Rattle.modulate_run.specs.declared.stop.ModulateRan.{ModulateRan}
use Rattle.receive_run.specs.ReceiveRun.{HasAll, receive_work}
use Rattle.receive_run.specs.declared.stop.ReceiveRan.{ReceiveRan}
use Rattle.trial_run.specs.Stages.{HasFile, HasInputs, IsSent, input_names}
use Rattle.trial_run.specs.Trial.{ComesOf}
use Rattle.trial_run.specs.declared.stages.Sent.{Sent}
use Rattle.gateway_core.proofs.LawLemmas.{frame_count_same}

pub has_file : (name bytes : List ℕ) (m : Memory) → m ≡ with_file name bytes empty_memory → HasFile m.state name bytes
has_file name bytes m is =
    subst (λ (m : Memory). HasFile m.state name bytes) (sym is)
    (record {
      held = record { files = insert empty name bytes; names = []; outs = [] };
      holds = refl;
      is = ap (λ (o : Option (List ℕ)). unwrap_or o []) (get_set empty name bytes);
    })

-- the digits that name the inputs differ
apart : (a b : ℕ) → a ≢ b → a ∷ [] ≢ b ∷ []
apart a b differ same = differ (ap (λ (l : List ℕ). get_or l 0 0) same)

-- three files, one after another
module _ (one two three : List ℕ) where
  abbrev files : Files
  files = insert (insert (insert empty (codes "0") one) (codes "1") two) (codes "2") three

  first : get files (codes "0") ≡ Some one
  first =
      get_other (insert (insert empty (codes "0") one) (codes "1") two) (codes "2") three (codes "0")
      (apart 48 50 (λ e. omega (arith, e)))
      ∙ get_other (insert empty (codes "0") one) (codes "1") two (codes "0") (apart 48 49 (λ e. omega (arith, e)))
      ∙ get_set empty (codes "0") one

  second : get files (codes "1") ≡ Some two
  second =
      get_other (insert (insert empty (codes "0") one) (codes "1") two) (codes "2") three (codes "1")
      (apart 49 50 (λ e. omega (arith, e)))
      ∙ get_set (insert empty (codes "0") one) (codes "1") two

  third : get files (codes "2") ≡ Some three
  third = get_set (insert (insert empty (codes "0") one) (codes "1") two) (codes "2") three

  abbrev desk : Held
  desk = record { files = files; names = []; outs = [] }

  stand : (given : ℕ → List ℕ) → one ≡ given 0 → two ≡ given 1 → three ≡ given 2 → (plp : ℕ) → plp < 3
      → file_at desk input_names plp ≡ given plp
  stand given a b c zero small = ap (λ (o : Option (List ℕ)). unwrap_or o []) first ∙ a
  stand given a b c (suc zero) small = ap (λ (o : Option (List ℕ)). unwrap_or o []) second ∙ b
  stand given a b c (suc (suc zero)) small = ap (λ (o : Option (List ℕ)). unwrap_or o []) third ∙ c
  stand given a b c (suc (suc (suc plp))) small = absurd (omega (arith, small))

pub has_inputs : (given : ℕ → List ℕ) (m : Memory) (one two three : List ℕ)
    → m ≡ with_file (codes "2") three (with_file (codes "1") two (with_file (codes "0") one empty_memory))
    → one ≡ given 0 → two ≡ given 1 → three ≡ given 2 → HasInputs m.state given
has_inputs given m one two three is a b c =
    subst (λ (m : Memory). HasInputs m.state given) (sym is)
    (record { held = desk one two three; holds = refl; are = stand one two three given a b c })

-- the bytes of one of three inputs
pub given_at : (given : ℕ → List ℕ) (inputs : List (Vec ℕ Global)) (n plp : ℕ) (input : Vec ℕ Global)
    → map (λ input. input.items) inputs ≡ map given (range_with_len 0 n) → plp < n
    → input ≡ slice_index_or inputs plp input
    → input.items ≡ given plp
given_at given inputs n plp input are small is =
    let f : Vec ℕ Global → List ℕ = λ v. v.items in
    let long : length inputs ≡ n = sym (length-map inputs f) ∙ ap (λ (l : List (List ℕ)). length l) are
    ∙ length-map-range_with_len given 0 n in
    ap f is ∙ sym (get_or-map f inputs plp input [] (omega (arith, small, long)))
    ∙ ap (λ (l : List (List ℕ)). slice_index_or l plp []) are ∙ get_or-map-range_with_len given 0 n plp plp [] small
    (omega arith)

-- What a run wrote, by what the desk held.
pub record Written (new : State) (out : List ℕ) (Has : List ℕ → Type 0) : Type 0 where
  pub bytes : List ℕ
  pub is : unwrap_or (file_of new out) [] ≡ bytes
  pub has : Has bytes

pub written : (old new : State) (out : List ℕ) (ins : List (List ℕ)) (places : List ℕ) (Has : Held → List ℕ
    → Type 0) (h : Held)
    → old.held ≡ Some h → Works old new out ins places Has → Written new out (Has h)
written old new out ins places Has h holds works =
    let left = rw holds at works.holds in
    record {
      bytes = left.2.0;
      is = ap (λ (held : Option Held). unwrap_or (option_and_then (λ h. get h.files out) held) []) left.1
          ∙ ap (λ (o : Option (List ℕ)). unwrap_or o []) left.2.1;
      has = left.2.2;
    }

pub modulated : (c : Config) (old new : State) (name out stream records : List ℕ) (ran : ModulateRan)
    → HasFile old name stream
    → Ends (modulate_work c) old new (Into out) (name ∷ []) (Ok ran) → records ≡ unwrap_or (file_of new out) []
    → (records ≡ output_of c stream) × (ran ≡ counted (records_of c stream))
modulated c old new name out stream records ran has (same, d) is =
    let all = d.does.1.1 in
    let works = works_of (λ files bytes. bytes ≡ output_of c (files 0)) d all.output in
    let left = written old new out (name ∷ []) _ _ has.held has.holds works in
    let ran_is : IfSome old.held (λ h. ran ≡ counted (records_of c (file_at h (name ∷ []) 0))) =
    told_of (λ files. ran ≡ counted (records_of c (files 0))) d all.ran_is in
    let counts = rw has.holds at ran_is in
    (is ∙ left.is ∙ left.has ∙ ap (output_of c) has.is, counts ∙ ap (λ (s : List ℕ). counted (records_of c s)) has.is)

pub received : (c : Config) (plp : ℕ) (old new : State) (name out records bytes : List ℕ) (ran : ReceiveRan)
    → HasFile old name records
    → Ends (receive_work c plp) old new (Into out) (name ∷ []) (Ok ran) → bytes ≡ unwrap_or (file_of new out) []
    → ComesOf c plp records bytes
received c plp old new name out records bytes ran has (same, d) is =
    let works = works_of (λ files is. HasAll c plp ran (files 0) is) d d.does.1.1 in
    let left = written old new out (name ∷ []) _ _ has.held has.holds works in (
      ran,
      subst (HasAll c plp ran records) (sym (is ∙ left.is))
          (subst (λ (file : List ℕ). HasAll c plp ran file left.bytes) has.is left.has),
    )

-- ---- the same inputs, the same stream

module _ (c : Config) (f g : ℕ → List ℕ) (same : (plp : ℕ) → plp < length c.plps → f plp ≡ g plp) where
  same_frames : frames_of Apart c f ≡ frames_of Apart c g
  same_frames = frame_count_same c _ _ (λ plp lt. ap (λ (file : List ℕ). length (packets_in file)) (same plp lt))

  same_units : FrontsDecided → IsPlan c → units_of Apart c f ≡ units_of Apart c g
  same_units decided plan =
      ap (pipe c.pid)
      (ap (front_packets c (inputs_of f)) same_frames
      ∙ decided c (inputs_of f) (inputs_of g) (frames_of Apart c g) plan
      (λ plp k lt over. ap (λ (file : List ℕ). packet_at (packets_in file) k) (same plp lt)))

pub was_sent : FrontsDecided → (c : Config) (old new : State) (out : List ℕ) (files : ℕ → List ℕ) (sent : Sent)
    → IsPlan c
    → length c.plps ≡ 3 → HasInputs old files
    → Ends (gateway_work Apart c) old new (Into out) input_names (Ok sent.ran)
    → sent.stream.items ≡ unwrap_or (file_of new out) []
    → IsSent c files sent
was_sent decided c old new out files sent plan three has (counts, d) is =
    let all = d.does.1 in
    let works = works_of (λ files bytes. bytes ≡ joined (units_of Apart c files)) d all.output in
    let left = written old new out input_names _ _ has.held has.holds works in
    let frames_are : IfSome old.held (λ h. sent.ran.frames ≡ frames_of Apart c (file_at h input_names)) =
    told_of (λ files. sent.ran.frames ≡ frames_of Apart c files) d all.frames_are in
    let units_are : IfSome old.held (λ h. sent.ran.units ≡ length (units_of Apart c (file_at h input_names))) =
    told_of (λ files. sent.ran.units ≡ length (units_of Apart c files)) d all.units_are in
    let frames = rw has.holds at frames_are in
    let units = rw has.holds at units_are in
    let same : (plp : ℕ) → plp < length c.plps → file_at has.held input_names plp ≡ files plp =
    λ plp lt. has.are plp (omega (arith, lt, three)) in
    let same_all = same_units c (file_at has.held input_names) files same decided plan in
    record {
      stream = is ∙ left.is ∙ left.has ∙ ap joined same_all;
      frames = frames ∙ same_frames c (file_at has.held input_names) files same;
      units = units ∙ ap (λ (us : List (List ℕ)). length us) same_all;
    }
