-- The commands, and the words that name them.
use Rattle.std.specs.Prelude.{◌≡◌, ℕ, ◌+◌, ◌-◌, ◌^◌, Bool, true, false, not, ◌&&◌, List, [], ◌∷◌, codes, if◌then◌else◌}
use Rattle.std.specs.Prelude.{Some, None, length, nat_lt, nat_le}
use Rattle.std.specs.declared.option.Option.{Option}
use Rattle.std.specs.Fmt.{decimal}
use Rattle.std.specs.List.{find, list_all, range_with_len}
use Rattle.std.specs.Option.{option_map, option_and_then}
use Rattle.std.specs.Str.{bytes_eq}
use Rattle.common_plp.specs.Sharing.{Sharing, Apart, Joint}
use Rattle.site_top.specs.declared.request.Request.{Request}
use Rattle.ports.specs.declared.note.TheConstants.{MOST_FEEDS}
use Rattle.site_top.specs.declared.command_line.TheConstants.{FEWEST_TRIED, MOST_TRIED}
use Rattle.site_top.specs.declared.request.Request.TheVariants as asked

-- a command, with the names of its files
pub data Command : Type 0 where
  ShowPackets : List ℕ → Command
  ShowT2mi : List ℕ → Command
  ShowFrames : List ℕ → Command
  ShowConfig : List ℕ → Command
  Plan : List ℕ → Command
  Gateway : Sharing → List ℕ → List ℕ → List (List ℕ) → Command
  Modulate : List ℕ → List ℕ → List ℕ → Command
  -- its third part is the identifier of a PLP
  Receive : Sharing → List ℕ → ℕ → List ℕ → List ℕ → Command
  Merge : List ℕ → List ℕ → List ℕ → List ℕ → Command
  Mend : List ℕ → List ℕ → List (List ℕ) → Command
  -- its second part is the identifier of a PLP
  Swap : List ℕ → ℕ → List ℕ → List ℕ → List ℕ → Command
  Compare : List ℕ → List ℕ → List ℕ → Command
  -- the number that is drawn from, and the number of frames
  Trial : ℕ → ℕ → Command

abbrev pub is_empty : List ℕ → Bool
is_empty [] = true
is_empty (c ∷ cs) = false

-- what `show` shows of a file
abbrev pub shown : List ℕ → List ℕ → Option Command
shown what file =
    if bytes_eq what (codes "packets") then Some (ShowPackets file)
    else (if bytes_eq what (codes "t2mi") then Some (ShowT2mi file)
    else (if bytes_eq what (codes "frames") then Some (ShowFrames file)
    else (if bytes_eq what (codes "config") then Some (ShowConfig file) else None)))

-- The name of an input: not empty, and not that of the output.
abbrev pub is_input : List ℕ → List ℕ → Bool
is_input out file = not (is_empty file) && not (bytes_eq file out)

abbrev pub are_inputs : List ℕ → List (List ℕ) → Bool
are_inputs out files = list_all (is_input out) files

-- the command of the words `gateway CONFIG OUT IN..`, and of these behind `common`: the output is none of the files
-- that are read
abbrev pub gateway_of : Sharing → List ℕ → List ℕ → List (List ℕ) → Option Command
gateway_of sharing config out ins =
    if not (is_empty out) && are_inputs out (config ∷ ins) then Some (Gateway sharing config out ins) else None

-- the command of the words `modulate CONFIG IN OUT`
abbrev pub modulate_of : List ℕ → List ℕ → List ℕ → List ℕ → Option Command
modulate_of modulate config file out =
    if bytes_eq modulate (codes "modulate") && not (is_empty out) && is_input out config && is_input out file
    then Some (Modulate config file out) else None

-- the number from the least to the most whose decimal a word is
unfoldable pub number_named : ℕ → ℕ → List ℕ → Option ℕ
number_named least most word = find (λ n. bytes_eq word (decimal n)) (range_with_len least (most + 1 - least))

-- the command of the words `receive CONFIG PLP IN OUT`
abbrev pub receive_of : List ℕ → List ℕ → List ℕ → List ℕ → List ℕ → Option Command
receive_of receive config plp file out =
    if bytes_eq receive (codes "receive") && not (is_empty out) && is_input out config && is_input out file
    then option_map (λ id. Receive Apart config id file out) (number_named 0 255 plp) else None

-- the command of the words `common receive CONFIG PLP IN OUT`
abbrev pub common_receive_of : List ℕ → List ℕ → List ℕ → List ℕ → Option Command
common_receive_of config plp file out =
    if not (is_empty out) && is_input out config && is_input out file
    then option_map (λ id. Receive Joint config id file out) (number_named 0 255 plp) else None

-- the command of the words `common WHAT CONFIG ..`
abbrev pub common_counted_of : List ℕ → List ℕ → List ℕ → List (List ℕ) → Option Command
common_counted_of what config plp (file ∷ out ∷ []) =
    if bytes_eq what (codes "receive") then common_receive_of config plp file out else None
common_counted_of what config plp words = None

abbrev pub common_of : List ℕ → List ℕ → List (List ℕ) → Option Command
common_of what config [] = None
common_of what config (first ∷ more) =
    if bytes_eq what (codes "gateway") then gateway_of Joint config first more else common_counted_of
    what config first more

-- the command of the words `merge CONFIG A B OUT`: A and B may be one file
abbrev pub merge_of : List ℕ → List ℕ → List ℕ → List ℕ → Option Command
merge_of config a b out =
    if not (is_empty out) && is_input out config && is_input out a && is_input out b then Some (Merge config a b out)
    else None

-- the command of the words `mend CONFIG OUT IN..`: one to eight feeds, of which two may be one file; the output is none
-- of the files that are read
abbrev pub mend_of : List ℕ → List ℕ → List (List ℕ) → Option Command
mend_of config out ins =
    if nat_lt 0 (length ins) && nat_le (length ins) MOST_FEEDS && not (is_empty out) && are_inputs out (config ∷ ins)
    then Some (Mend config out ins) else None

-- the command of the words `swap CONFIG PLP T2MI IN OUT`: T2MI and IN may be one file
abbrev pub swap_of : List ℕ → List ℕ → List ℕ → List ℕ → List ℕ → List ℕ → Option Command
swap_of swap config plp t2mi file out =
    if bytes_eq swap (codes "swap") && not (is_empty out) && is_input out config && is_input out t2mi
    && is_input out file
    then option_map (λ id. Swap config id t2mi file out) (number_named 0 255 plp) else None

-- the command of the words `compare CONFIG A B`: A and B may be one file
abbrev pub compare_of : List ℕ → List ℕ → List ℕ → Option Command
compare_of config a b = if not (is_empty config) && not (is_empty a) && not (is_empty b) then Some (Compare config a b)
    else None

-- the command of the words `trial SEED FRAMES`
abbrev pub trial_of : List ℕ → List ℕ → Option Command
trial_of seed frames = option_and_then (λ s. option_map (λ n. Trial s n) (number_named FEWEST_TRIED MOST_TRIED frames))
    (number_named 0 (2 ^ 64 - 1) seed)

-- the command of the words `show WHAT FILE`
abbrev pub show_of : List ℕ → List ℕ → List ℕ → Option Command
show_of show what file = if bytes_eq show (codes "show") && not (is_empty file) then shown what file else None

-- the command of three words or more that has a number of words
abbrev pub counted_of : List ℕ → List ℕ → List ℕ → List (List ℕ) → Option Command
counted_of first second third [] = if bytes_eq first (codes "trial") then trial_of second third else
    show_of first second third
counted_of first second third (fourth ∷ []) =
    if bytes_eq first (codes "compare") then compare_of second third fourth else modulate_of first second third fourth
counted_of first second third (fourth ∷ fifth ∷ []) =
    if bytes_eq first (codes "merge") then merge_of second third fourth fifth else receive_of first second
    third fourth fifth
counted_of first second third (fourth ∷ fifth ∷ sixth ∷ []) = swap_of first second third fourth fifth sixth
counted_of first second third (fourth ∷ fifth ∷ sixth ∷ more) = None

-- the command that words name; no word of a command is empty
abbrev pub command_of : List (List ℕ) → Option Command
command_of (plan ∷ config ∷ []) = if bytes_eq plan (codes "plan") && not (is_empty config) then Some
    (Plan config) else None
command_of (first ∷ second ∷ third ∷ more) = if bytes_eq first (codes "gateway") then gateway_of Apart second third more
    else if bytes_eq first (codes "mend") then mend_of second third more
    else if bytes_eq first (codes "common") then common_of second third more
    else counted_of first second third more
command_of words = None

-- the command that a request means
abbrev pub meant : Request → Command
meant (asked.ShowPackets file) = ShowPackets file.now
meant (asked.ShowT2mi file) = ShowT2mi file.now
meant (asked.ShowFrames file) = ShowFrames file.now
meant (asked.ShowConfig file) = ShowConfig file.now
meant (asked.Plan config) = Plan config.now
meant (asked.Gateway config out ins) = Gateway Apart config.now out.now ins.now
meant (asked.CommonGateway config out ins) = Gateway Joint config.now out.now ins.now
meant (asked.Modulate config file out) = Modulate config.now file.now out.now
meant (asked.Receive config plp file out) = Receive Apart config.now plp file.now out.now
meant (asked.CommonReceive config plp file out) = Receive Joint config.now plp file.now out.now
meant (asked.Merge config a b out) = Merge config.now a.now b.now out.now
meant (asked.Mend config out ins) = Mend config.now out.now ins.now
meant (asked.Swap config plp t2mi file out) = Swap config.now plp t2mi.now file.now out.now
meant (asked.Compare config a b) = Compare config.now a.now b.now
meant (asked.Trial seed frames) = Trial seed frames

-- The output of a request is none of its inputs.
abbrev pub IsApart : Request → Type 0
IsApart (asked.Gateway config out ins) = are_inputs out.now ins.now ≡ true
IsApart (asked.CommonGateway config out ins) = are_inputs out.now ins.now ≡ true
IsApart (asked.Modulate config file out) = is_input out.now file.now ≡ true
IsApart (asked.Receive config plp file out) = is_input out.now file.now ≡ true
IsApart (asked.CommonReceive config plp file out) = is_input out.now file.now ≡ true
IsApart (asked.Merge config a b out) = (is_input out.now a.now ≡ true) × (is_input out.now b.now ≡ true)
IsApart (asked.Mend config out ins) = are_inputs out.now ins.now ≡ true
IsApart (asked.Swap config plp t2mi file out) = (is_input out.now t2mi.now ≡ true) × (is_input out.now file.now ≡ true)
IsApart request = Unit {0}
