-- A trial, from its inputs to its lines.
use Rattle.std.proofs.Common.{◌≡◌, ℕ, suc, ◌+◌, ◌*◌, ◌<◌, ◌≤◌, ◌⊎◌, List, [], ◌∷◌, ◌++◌, length, map, refl, ap, sym}
use Rattle.std.proofs.Common.{subst, ◌∙◌, arith, inl, inr, append-nil, append_assoc, length-append, get_or-append-add}
use Rattle.std.proofs.Common.{Vec, Global}
use Rattle.std.specs.Prelude.{slice_index_or}
use Rattle.std.specs.List.{concat, range_with_len}
use Rattle.std.proofs.lemmas.Bool.{cases_lt}
use Rattle.std.proofs.lemmas.List.{get_or_append_left, map-append}
use Rattle.std.proofs.lemmas.List.Folds.{concat-append}
use Rattle.std.proofs.lemmas.List.FromFn.{map-range_with_len_more}
use Rattle.modulator.specs.StandsFor.{records_of}
use Rattle.plp_config.specs.Plps.{plp_at}
use Rattle.plp_config.specs.declared.config.Config.{Config}
use Rattle.modulate_run.specs.Counted.{counted}
use Rattle.modulate_run.specs.ModulateRun.{output_of}
use Rattle.file_run.specs.declared.line.TheConstants.{ROOM}
use Rattle.trial_run.specs.Losses.{kept_from}
use Rattle.trial_run.specs.Made.{IsModulated, IsMade, HasLines}
use Rattle.trial_run.specs.Stages.{AreFiles, IsSent}
use Rattle.trial_run.specs.Trial.{stream_of, lossy_of, stream_line, whole_line, lossy_line, plp_line, ComesOf}
use Rattle.trial_run.specs.Trial.{IsPlpLine, IsSameCount, ArePlpLines, IsNetworkText}
use Rattle.trial_run.specs.TrialInput.{behind, input_len, input_from, start_of, input_of}
use Rattle.trial_run.specs.declared.stages.Modulated.{Modulated}
use Rattle.trial_run.specs.declared.stages.Sent.{Sent}
use Rattle.trial_run.specs.declared.trial.Made.{Made}

-- ---- inputs

pub starts : (c : Config) (frames seed : ℕ) → seed ≡ start_of c frames 0 seed
unfolding start_of
starts c frames seed = refl

start_more : (c : Config) (frames plp seed : ℕ) → start_of c frames (plp + 1) seed ≡ behind (input_len c frames plp)
    (start_of c frames plp seed)
unfolding start_of
start_more c frames plp seed = let e : plp + 1 ≡ suc plp = omega arith in rw e refl

-- the bytes of vectors and of one more
pub vectors_more : (was now : List (Vec ℕ Global)) (input : Vec ℕ Global) → now ≡ was ++ input ∷ []
    → map (λ input. input.items) now ≡ map (λ input. input.items) was ++ input.items ∷ []
vectors_more was now input is = let f : Vec ℕ Global → List ℕ = λ v. v.items in ap (map f) is
    ∙ map-append f was (input ∷ [])

-- one input more
pub drawn_more : (c : Config) (frames seed plp x y : ℕ) (was now : List (List ℕ)) (input : List ℕ)
    → was ≡ map (input_of c frames seed) (range_with_len 0 plp) → x ≡ start_of c frames plp seed
    → input ≡ input_from c frames plp x
    → y ≡ behind (input_len c frames plp) x → now ≡ was ++ input ∷ []
    → (now ≡ map (input_of c frames seed) (range_with_len 0 (plp + 1))) × (y ≡ start_of c frames (plp + 1) seed)
drawn_more c frames seed plp x y was now input was_is x_is input_is y_is now_is = (
  now_is ∙ rw (was_is, input_is, x_is) (sym (map-range_with_len_more (input_of c frames seed) 0 plp plp (omega arith))),
  y_is ∙ ap (behind (input_len c frames plp)) x_is ∙ sym (start_more c frames plp seed),
)

-- ---- what is made

-- the stream of what was sent
pub stream_is : (c : Config) (frames seed : ℕ) (sent : Sent) → IsSent c (input_of c frames seed) sent
    → sent.stream.items ≡ stream_of c frames seed
unfolding stream_of
stream_is c frames seed sent s = s.stream

pub lossy_is : (c : Config) (frames seed x : ℕ) (kept stream : List ℕ) → kept ≡ kept_from x stream
    → x ≡ start_of c frames (length c.plps) seed → stream ≡ stream_of c frames seed → kept ≡ lossy_of c frames seed
unfolding lossy_of
lossy_is c frames seed x kept stream kept_is x_is stream_is = kept_is ∙ rw (x_is, stream_is) refl

pub modulated_is : (c : Config) (m : Modulated) (given stream : List ℕ) → m.records.items ≡ output_of c given
    → m.ran ≡ counted (records_of c given) → given ≡ stream → IsModulated c stream m
modulated_is c m given stream records ran same =
    record { records = records ∙ ap (output_of c) same; ran = ran ∙ ap (λ (s : List ℕ). counted (records_of c s)) same }

pub made_is : (c : Config) (frames seed x y : ℕ) (m : Made) (given : List (Vec ℕ Global))
    (stream again kept taken : List ℕ)
    → length c.plps ≡ 3 → x ≡ seed
    → map (λ input. input.items) m.inputs.items ≡ map (input_of c frames x) (range_with_len 0 (length c.plps))
    → given ≡ m.inputs.items → ((files : ℕ → List ℕ) → AreFiles files given → IsSent c files m.sent)
    → y ≡ start_of c frames (length c.plps) x → stream ≡ m.sent.stream.items
    → m.whole.records.items ≡ output_of c stream
    → m.whole.ran ≡ counted (records_of c stream)
    → kept ≡ kept_from y again → again ≡ m.sent.stream.items → taken ≡ kept → m.lossy.records.items ≡ output_of c taken
    → m.lossy.ran ≡ counted (records_of c taken) → IsMade c frames seed m
made_is c frames seed x y m given stream again kept taken three x_is inputs given_is sends y_is stream_is_it
    records ran kept_is
    again_is taken_is lossy_records lossy_ran =
    let drawn =
    subst (λ (s : ℕ). map (λ input. input.items) m.inputs.items
    ≡ map (input_of c frames s) (range_with_len 0 (length c.plps))) x_is inputs in
    let files : AreFiles (input_of c frames seed) given =
    ap (λ (l : List (Vec ℕ Global)). map (λ input. input.items) l) given_is ∙ drawn
    ∙ ap (λ (n : ℕ). map (input_of c frames seed) (range_with_len 0 n)) three in
    let sent = sends (input_of c frames seed) files in
    let stream_so = stream_is c frames seed m.sent sent in
    record {
      inputs = drawn;
      sent = sent;
      whole = modulated_is c m.whole stream (stream_of c frames seed) records ran (stream_is_it ∙ stream_so);
      lossy = modulated_is c m.lossy taken (lossy_of c frames seed) lossy_records lossy_ran
          (taken_is ∙ lossy_is c frames seed y kept again kept_is (y_is ∙ ap (start_of c frames (length c.plps)) x_is)
          (again_is ∙ stream_so));
    }

-- ---- lines

pub network_text : (c : Config) (frames seed : ℕ) (m : Made) (whole lossy : List ℕ) (same : ℕ)
    (page one two three first second third : List ℕ) → whole ≡ m.whole.records.items → lossy ≡ m.lossy.records.items
    → IsSameCount whole lossy same
    → one ≡ stream_line m.sent.ran.frames m.sent.ran.units m.sent.stream.items
    → two ≡ whole_line m.whole.ran m.whole.records.items → three ≡ lossy_line m.lossy.ran same m.lossy.records.items
    → first ≡ one → second ≡ first ++ two → third ≡ second ++ three → page ≡ third → IsMade c frames seed m
    → IsNetworkText c frames seed page
network_text c frames seed m whole lossy same page one two three first second third whole_is lossy_is
    count one_is two_is three_is
    a b d page_is made =
    let stream = stream_is c frames seed m.sent made.sent in
    record {
      same = same;
      is_same = rw (sym made.whole.records, sym made.lossy.records, sym whole_is, sym lossy_is) count;
      text_is = page_is ∙ d ∙ rw (
        b,
        a,
        one_is,
        two_is,
        three_is,
        made.sent.frames,
        made.sent.units,
        stream,
        made.whole.ran,
        made.whole.records,
        made.lossy.ran,
        made.lossy.records,
      ) refl;
    }

pub plp_text : (c : Config) (frames seed plp : ℕ) (m : Made) (id : ℕ) (input whole lossy from from_lossy line : List ℕ)
    → IsMade c frames seed m → id ≡ (plp_at c.plps plp).id → input ≡ input_of c frames seed plp
    → from ≡ m.whole.records.items → from_lossy ≡ m.lossy.records.items → ComesOf c plp from whole
    → ComesOf c plp from_lossy lossy → line ≡ plp_line id input whole lossy → IsPlpLine c frames seed plp line
plp_text c frames seed plp m id input whole lossy from from_lossy line made id_is input_is from_is lossy_is
    comes comes_lossy
    line_is = record {
      whole = whole;
      lossy = lossy;
      comes = subst (λ (records : List ℕ). ComesOf c plp records whole) (from_is ∙ made.whole.records) comes;
      comes_lossy = subst (λ (records : List ℕ). ComesOf c plp records lossy) (lossy_is ∙ made.lossy.records)
          comes_lossy;
      line_is = line_is ∙ rw (id_is, input_is) refl;
    }

pub no_lines : (c : Config) (frames seed : ℕ) → ArePlpLines c frames seed 0 []
no_lines c frames seed = record {
  lines = [];
  count = refl;
  each = λ plp small. absurd (omega (arith, small));
  text_is = refl;
}

-- the line of a place among lines and one more
at_place : (c : Config) (frames seed n : ℕ) (lines : List (List ℕ)) (line : List ℕ) (plp : ℕ) → length lines ≡ n
    → ((plp : ℕ) → plp < n → IsPlpLine c frames seed plp (slice_index_or lines plp [])) → IsPlpLine c frames seed n line
    → (plp < n) ⊎ (n ≤ plp) → plp < n + 1 → IsPlpLine c frames seed plp (slice_index_or (lines ++ line ∷ []) plp [])
at_place c frames seed n lines line plp count each is (inl below) small =
    subst (IsPlpLine c frames seed plp)
    (sym (get_or_append_left lines (line ∷ []) [] plp (omega (arith, below, count))))
    (each plp below)
at_place c frames seed n lines line plp count each is (inr from) small =
    let end : plp ≡ length lines + 0 = omega (arith, from, small, count) in
    let same : n ≡ plp = omega (arith, from, small) in
    subst (IsPlpLine c frames seed plp)
    (sym (ap (λ (k : ℕ). slice_index_or (lines ++ line ∷ []) k []) end ∙ get_or-append-add lines (line ∷ []) 0 []))
    (subst (λ (k : ℕ). IsPlpLine c frames seed k line) same is)

lines_more : (c : Config) (frames seed n : ℕ) (text line : List ℕ) → ArePlpLines c frames seed n text
    → IsPlpLine c frames seed n line → ArePlpLines c frames seed (n + 1) (text ++ line)
lines_more c frames seed n text line are is = record {
  lines = are.lines ++ line ∷ [];
  count = length-append are.lines (line ∷ []) ∙ ap (λ (k : ℕ). k + 1) are.count;
  each = λ plp small. at_place c frames seed n are.lines line plp are.count are.each is (cases_lt plp n) small;
  text_is = ap (λ (t : List ℕ). t ++ line) are.text_is
      ∙ sym (concat-append are.lines (line ∷ []) ∙ ap (λ (t : List ℕ). concat are.lines ++ t) (append-nil line));
}

pub first_lines : (c : Config) (frames seed : ℕ) (m : Made) (page : List ℕ) → IsMade c frames seed m
    → IsNetworkText c frames seed page → length page ≤ 3 * ROOM → HasLines c frames seed 0 m page
first_lines c frames seed m page made text few = record {
  made = made;
  network = page;
  lines = [];
  of_network = text;
  of_plps = no_lines c frames seed;
  text_is = sym (append-nil page);
  room = omega (arith, few);
}

pub next_line : (c : Config) (frames seed n : ℕ) (m : Made) (page line now : List ℕ) → HasLines c frames seed n m page
    → IsPlpLine c frames seed n line → length line ≤ ROOM → now ≡ page ++ line → HasLines c frames seed (n + 1) m now
next_line c frames seed n m page line now has is few now_is =
    let long = length-append page line in
    record {
      made = has.made;
      network = has.network;
      lines = has.lines ++ line;
      of_network = has.of_network;
      of_plps = lines_more c frames seed n has.lines line has.of_plps is;
      text_is = now_is ∙ ap (λ (t : List ℕ). t ++ line) has.text_is ∙ append_assoc has.network has.lines line;
      room = omega (arith, ap (λ (l : List ℕ). length l) now_is, long, few, has.room);
    }
