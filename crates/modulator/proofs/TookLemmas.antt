-- Bytes of records that were taken.
use Rattle.std.proofs.Common.{◌≡◌, ◌<◌, ◌≤◌, ℕ, Bool, true, false, List, [], ◌∷◌, ◌++◌, Option, Some, None, refl, ap}
use Rattle.std.proofs.Common.{sym, length, take, ◌∙◌, arith, append_assoc, append-nil}
use Rattle.std.specs.Prelude.{is_some, flat_map, IfSome, IfNone}
use Rattle.std.proofs.lemmas.Bool.{true≢false}
use Rattle.std.proofs.lemmas.List.Concat.{flat_map-append}
use Rattle.plp_config.specs.declared.config.Config.{Config}
use Rattle.t2mi_packet.specs.declared.packet.Packet.{Packet}
use Rattle.frame_groups.specs.Due.{ComesNext}
use Rattle.frame_groups.specs.Groups.{Group}
use Rattle.frame_groups.specs.Modulated.{Numbered, Rules, FrameRecord}
use Rattle.terms.specs.Lists.{IsPrefix}
use Rattle.frame_groups.specs.Records.{record_of}
use Rattle.frame_groups.specs.Sequenced.{Keeps, Sequenced}
use Rattle.frame_groups.specs.Waits.{waits, waits_by, waiting_of}
use Rattle.frame_groups.specs.declared.waiting.Progress.{Progress}
use Rattle.frame_groups.specs.declared.waiting.Waiting.{Waiting}
use Rattle.frame_groups.specs.Tests.{rules}
use Rattle.open_group.specs.FrameBytes.{bytes_left}
use Rattle.open_group.specs.Holds.{Holds}
use Rattle.open_group.specs.Written.{spelled}
use Rattle.t2mi_stream.specs.Events.{fed, released}
use Rattle.t2mi_stream.specs.UnpiperStandsFor.{UnpiperStandsFor}
use Rattle.modulator.specs.Gives.{Gives}
use Rattle.modulator.specs.Modulating.{StandsAt, Course, course_of, HoldsOn, has_record}
use Rattle.modulator.specs.StandsFor.{WaitsAs, TakesOf, records_due, bytes_due}
use Rattle.modulator.specs.declared.modulating.Modulating.{Modulating}
use Rattle.modulator.proofs.BeginLemmas.{waits_for}
use Rattle.modulator.proofs.MuteLemmas.{mute_told}
use Rattle.modulator.proofs.LeftLemmas.{taken_len}
use Rattle.modulator.proofs.StandsLemmas.{moved, no_more, some_at}

-- the record that waits, and its group
pub record IsNow (g : Option Group) (at : Progress) : Type 0 where
  pub waiting : Waiting
  pub is : waiting_of at ≡ Some waiting
  pub group : Group
  pub has : g ≡ Some group

pub some_of : {X : Type 0} (o : Option X) → is_some o ≡ true → (x : X) × (o ≡ Some x)
some_of None e = absurd (true≢false (sym e))
some_of (Some x) e = (x, refl)

pub now_of : (r : Rules) (past : List Numbered) (g : Option Group) (at : Progress) (ps : List Packet)
    (given : List FrameRecord)
    → Sequenced r past g at.number at.next at.closing at.fault ps given → waits at ≡ true → IsNow g at
now_of r past None at ps given (a, o, b, c, d) w =
    absurd (true≢false (sym w ∙ ap (λ (o : Option ℕ). waits_by o at.next at.closing at.fault) b))
now_of r past (Some h) at ps given q w =
    let s = some_of (waiting_of at) w in
    record { waiting = s.0; is = s.1; group = h; has = refl }

-- A record that waits, and of which some bytes are left, is the next of those that are due behind those that were taken
-- whole.
abbrev pub waits_as : (m : Modulating) (bytes taken : List ℕ) (h : Gives m bytes taken) (w : Waiting)
    → waiting_of m.sequence.progress ≡ Some w → (group : Group) → h.stands.keeps.group ≡ Some group
    → 0 < length (bytes_left m.sequence.group)
    → ComesNext (records_due m.sequence.group.network m.finished bytes) h.given (record_of group w)
    → WaitsAs m.sequence.group.network m.finished bytes taken w
waits_as m bytes taken h w is group has some next = record {
  before = h.given;
  next = record_of group w;
  after = next.0;
  all = next.1;
  number = refl;
  mute = mute_told group w.mute;
  part = h.took.part;
  rest = bytes_left m.sequence.group;
  cut = h.took.rest w is group has;
  some = some;
  taken_is = h.took.taken_is;
}

-- a record that waits comes next of those that are due, as the object stands for them
abbrev pub ComesAt : Modulating → Waiting → Type 0
ComesAt m w = (bytes : List ℕ) (given : List FrameRecord) (group : Group) → (h : StandsAt m bytes given)
    → h.keeps.group ≡ Some group
    → ComesNext (records_due m.sequence.group.network m.finished bytes) given (record_of group w)

module _ (m : Modulating) (bytes taken : List ℕ) (h : Gives m bytes taken) (w : has_record m ≡ true) where
  pub now : IsNow h.stands.keeps.group m.sequence.progress
  now = now_of (rules m.sequence.group.network) h.stands.keeps.past h.stands.keeps.group m.sequence.progress _ h.given
      h.stands.keeps.sequenced w

  -- the record that waits is made of what was taken of it and of what is left
  record_bytes : spelled m.sequence.group.network (record_of now.group now.waiting)
      ≡ h.took.part ++ bytes_left m.sequence.group
  record_bytes = h.took.rest now.waiting now.is now.group now.has

  -- it comes next of those that are due, if what waits does
  pub now_next : (o : Option Waiting) → o ≡ waiting_of m.sequence.progress → IfSome o (ComesAt m)
      → ComesNext (records_due m.sequence.group.network m.finished bytes) h.given (record_of now.group now.waiting)
  now_next o is some =
      some_at o now.waiting (ComesAt m) some (is ∙ now.is) bytes h.given now.group h.stands now.has

  -- bytes that are taken of it do not go past its end
  pub takes_of : (out rest : List ℕ) (count : ℕ) → bytes_left m.sequence.group ≡ take count out ++ rest
      → count ≤ length out → 0 < length (bytes_left m.sequence.group)
      → ComesNext (records_due m.sequence.group.network m.finished bytes) h.given (record_of now.group now.waiting)
      → TakesOf m.sequence.group.network m.finished bytes taken m.sequence.progress.next count
  takes_of out rest count cut few some next = record {
    waiting = now.waiting;
    waits = waits_as m bytes taken h now.waiting now.is now.group now.has some next;
    number_is = (waits_for m.sequence.progress now.waiting now.is).frame;
    within = let size = taken_len (bytes_left m.sequence.group) rest out count cut few in omega (arith, size);
  }

  -- what is taken of it is a front of what is due
  pub took_front : (more rest : List ℕ) → bytes_left m.sequence.group ≡ more ++ rest
      → ComesNext (records_due m.sequence.group.network m.finished bytes) h.given (record_of now.group now.waiting)
      → IsPrefix (taken ++ more) (bytes_due m.sequence.group.network m.finished bytes)
  unfolding record_bytes
  took_front more rest cut n =
      let spell = spelled m.sequence.group.network in
      let all = record_bytes ∙ ap (λ (l : List ℕ). h.took.part ++ l) cut in (
        rest ++ flat_map spell n.0,
        ap (flat_map spell) n.1 ∙ flat_map-append spell h.given (record_of now.group now.waiting ∷ n.0)
            ∙ ap (λ (l : List ℕ). flat_map spell h.given ++ (l ++ flat_map spell n.0)) all
            ∙ ap (λ (l : List ℕ). flat_map spell h.given ++ l) (append_assoc h.took.part (more ++ rest)
            (flat_map spell n.0)
            ∙ ap (λ (l : List ℕ). h.took.part ++ l) (append_assoc more rest (flat_map spell n.0)))
            ∙ sym (append_assoc (flat_map spell h.given) h.took.part (more ++ (rest ++ flat_map spell n.0)))
            ∙ sym (append_assoc (flat_map spell h.given ++ h.took.part) more (rest ++ flat_map spell n.0))
            ∙ ap (λ (l : List ℕ). (l ++ more) ++ (rest ++ flat_map spell n.0)) (sym h.took.taken_is),
      )

  -- it was taken whole
  pub whole_given : (more : List ℕ) → bytes_left m.sequence.group ≡ more
      → taken ++ more ≡ flat_map (spelled m.sequence.group.network) (h.given ++ record_of now.group now.waiting ∷ [])
  unfolding record_bytes
  whole_given more cut =
      let spell = spelled m.sequence.group.network in
      ap (λ (l : List ℕ). l ++ more) h.took.taken_is ∙ append_assoc (flat_map spell h.given) h.took.part more
      ∙ ap (λ (l : List ℕ). flat_map spell h.given ++ l)
      (ap (λ (l : List ℕ). h.took.part ++ l) (sym cut) ∙ sym record_bytes
      ∙ sym (append-nil (spell (record_of now.group now.waiting))))
      ∙ sym (flat_map-append spell h.given (record_of now.group now.waiting ∷ []))

-- a part of the record that waits was taken, and the group stands for what it stood for
pub took_more : (old new : Modulating) (more bytes taken : List ℕ) → course_of new ≡ course_of old → HoldsOn old new
    → bytes_left old.sequence.group ≡ more ++ bytes_left new.sequence.group → has_record old ≡ true
    → Gives old bytes taken → Gives new bytes (taken ++ more)
took_more old new more bytes taken same on cut w h =
    let m = moved old new bytes h.given same on h.stands in
    let net : new.sequence.group.network ≡ old.sequence.group.network = ap (λ (k : Course). k.network) same in
    let at : new.sequence.progress ≡ old.sequence.progress = ap (λ (k : Course). k.progress) same in
    record {
      given = h.given;
      stands = m.stands;
      took =
          record {
            part = h.took.part ++ more;
            taken_is = ap (λ (l : List ℕ). l ++ more) h.took.taken_is
                ∙ append_assoc (flat_map (spelled old.sequence.group.network) h.given) h.took.part more
                ∙ ap (λ (c : Config). flat_map (spelled c) h.given ++ (h.took.part ++ more)) (sym net);
            rest = λ w i o k.
                ap (λ (c : Config). spelled c (record_of o w)) net
                ∙ h.took.rest w (ap waiting_of (sym at) ∙ i) o (sym m.same ∙ k)
                ∙ ap (λ (l : List ℕ). h.took.part ++ l) cut
                ∙ sym (append_assoc h.took.part more (bytes_left new.sequence.group));
            idle = λ n. absurd (true≢false (sym w ∙ ap waits (sym at) ∙ n));
          };
    }

-- the record that waits was taken whole, and the next one is begun
pub took_whole : (old mid next new : Modulating) (more bytes taken : List ℕ)
    → ((bytes : List ℕ) (given : List FrameRecord) (w : Waiting) (group : Group)
    → waiting_of mid.sequence.progress ≡ Some w
    → (h : StandsAt mid bytes given) → h.keeps.group ≡ Some group
    → StandsAt next bytes (given ++ record_of group w ∷ []))
    → ((bytes : List ℕ) (given : List FrameRecord) (taken : List ℕ) → StandsAt next bytes given
    → taken ≡ flat_map (spelled next.sequence.group.network) given → Gives new bytes taken)
    → course_of mid ≡ course_of old → HoldsOn old mid → next.sequence.group.network ≡ mid.sequence.group.network
    → bytes_left old.sequence.group ≡ more → has_record old ≡ true → Gives old bytes taken
    → Gives new bytes (taken ++ more)
took_whole old mid next new more bytes taken gave begun same on kept cut w h =
    let n = now old bytes taken h w in
    let m = moved old mid bytes h.given same on h.stands in
    let given = h.given ++ record_of n.group n.waiting ∷ [] in
    let net : next.sequence.group.network ≡ old.sequence.group.network = kept ∙ ap (λ (k : Course). k.network) same in
    begun bytes given (taken ++ more)
    (gave bytes h.given n.waiting n.group (ap (λ (k : Course). waiting_of k.progress) same ∙ n.is) m.stands (m.same
    ∙ n.has))
    (whole_given old bytes taken h w more cut ∙ ap (λ (c : Config). flat_map (spelled c) given) (sym net))

-- no record waits, so what was given was taken whole
pub given_whole : (m : Modulating) (bytes taken : List ℕ) (h : Gives m bytes taken) → has_record m ≡ false
    → taken ≡ flat_map (spelled m.sequence.group.network) h.given
given_whole m bytes taken h w =
    let given = flat_map (spelled m.sequence.group.network) h.given in
    h.took.taken_is ∙ ap (λ (l : List ℕ). given ++ l) (h.took.idle w) ∙ append-nil given

-- and all that is due was taken
pub all_taken : (m : Modulating) (ended : Bool) (bytes front taken : List ℕ) (h : Gives m bytes taken)
    → has_record m ≡ false
    → records_due m.sequence.group.network ended front ≡ h.given → bytes_due m.sequence.group.network
    ended front ≡ taken
all_taken m ended bytes front taken h w e =
    ap (flat_map (spelled m.sequence.group.network)) e ∙ sym (given_whole m bytes taken h w)

pub none_at : {X : Type 0} (o : Option X) (P : Type 0) → IfNone o P → is_some o ≡ false → P
none_at None P h e = h
none_at (Some x) P h e = absurd (true≢false e)

pub nothing_more : (taken due : List ℕ) → due ≡ taken → IsPrefix (taken ++ []) due
nothing_more taken due e = ([], e ∙ sym (append-nil taken) ∙ sym (append-nil (taken ++ [])))

-- nothing was fed
pub opened : (m : Modulating) → m.finished ≡ false → m.sequence.progress.closing ≡ false → has_record m ≡ false
    → UnpiperStandsFor m.unpiper m.sequence.group.network.pid []
    → Keeps (Holds m.sequence.group) (rules m.sequence.group.network) m.sequence.progress [] [] → Gives m [] []
unfolding fed released
opened m more shut w stands k = record {
  given = [];
  stands =
      record {
        events = [];
        stands = stands;
        fed_is = refl;
        few = omega arith;
        keeps = k;
        ahead = λ c. absurd (true≢false (sym c ∙ shut));
      };
  took = record {
    part = [];
    taken_is = refl;
    rest = λ v i h g. absurd (true≢false (sym (ap is_some i) ∙ w));
    idle = λ _. refl;
  };
}

-- no more bytes come, and the record that waits still does
pub took_still : (m : Modulating) (bytes taken : List ℕ) → m.finished ≡ false → Gives m bytes taken
    → Gives (record m { finished = true }) bytes taken
took_still m bytes taken more h =
    let s = no_more m bytes h.given more h.stands in
    record {
      given = h.given;
      stands = s.stands;
      took = record {
        part = h.took.part;
        taken_is = h.took.taken_is;
        rest = λ w i o k. h.took.rest w i o (sym s.same ∙ k);
        idle = h.took.idle;
      };
    }
