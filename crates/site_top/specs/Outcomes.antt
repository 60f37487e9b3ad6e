-- The outcomes of a run, by number and by line.
use Rattle.std.specs.Prelude.{◌≡◌, ◌≢◌, ℕ, List, [], ◌++◌, length, codes, Some, None, Result, Ok, Err}
use Rattle.std.specs.declared.option.Option.{Option}
use Rattle.std.specs.Fmt.{decimal}
use Rattle.common_plp.specs.Inputs.{input_count}
use Rattle.common_plp.specs.Sharing.{Sharing}
use Rattle.plp_config.specs.declared.config.Config.{Config}
use Rattle.t2mi_packet.specs.declared.fault.PacketWhy.{PacketWhy}
use Rattle.t2mi_packet.specs.declared.fault.PacketWhy.TheVariants.{Short, Crc, PadBits, PayloadShape}
use Rattle.site_frame.specs.declared.fault.RecordWhy.{RecordWhy}
use Rattle.site_frame.specs.declared.fault.RecordWhy.TheVariants.{Head, Kind, Length, Order, OffGrid}
use Rattle.config_text.specs.declared.fault.TextWhy.{TextWhy}
use Rattle.config_text.specs.declared.fault.TextWhy.TheVariants.{NotAscii, WrongKey, WrongCount, BadWord, BadNumber}
use Rattle.config_text.specs.declared.fault.TextWhy.TheVariants.{EndsEarly, TooLong as TextTooLong}
use Rattle.file_run.specs.declared.config_stop.ConfigCause.TheVariants.{Text, Rule}
use Rattle.file_run.specs.declared.config_stop.ConfigStop.{ConfigStop}
use Rattle.file_run.specs.declared.config_stop.ConfigStop.TheVariants as config
use Rattle.plp_config.specs.declared.moment.TheConstants.{MOST_FRAMES}
use Rattle.file_run.specs.Reading.{longest_file}
use Rattle.file_run.specs.declared.stop.RunFault.{RunFault}
use Rattle.file_run.specs.declared.stop.RunFault.TheVariants as run_fault
use Rattle.file_run.specs.declared.stop.RunStop.{RunStop}
use Rattle.file_run.specs.declared.stop.RunStop.TheVariants as run
use Rattle.gateway_run.specs.declared.stop.GatewayStop.{GatewayStop}
use Rattle.gateway_run.specs.declared.stop.GatewayStop.TheVariants as gateway
use Rattle.modulate_run.specs.declared.stop.ModulateStop.{ModulateStop}
use Rattle.modulate_run.specs.declared.stop.ModulateStop.TheVariants as modulate
use Rattle.receive_run.specs.declared.stop.ReceiveStop.{ReceiveStop}
use Rattle.receive_run.specs.declared.stop.ReceiveStop.TheVariants as receive
use Rattle.merge_run.specs.declared.stop.MergeStop.{MergeStop}
use Rattle.merge_run.specs.declared.stop.MergeStop.TheVariants as merge
use Rattle.mend_run.specs.declared.stop.MendStop.{MendStop}
use Rattle.mend_run.specs.declared.stop.MendStop.TheVariants as mend
use Rattle.swap_run.specs.declared.stop.SwapStop.{SwapStop}
use Rattle.swap_run.specs.declared.stop.SwapStop.TheVariants as swap
use Rattle.compare_run.specs.declared.stop.CompareStop.{CompareStop}
use Rattle.compare_run.specs.declared.stop.CompareStop.TheVariants as compare
use Rattle.show_run.specs.declared.stop.ShowStop.{ShowStop}
use Rattle.show_run.specs.declared.stop.ShowStop.TheVariants as show
use Rattle.trial_run.specs.declared.stop.TrialStop.{TrialStop}
use Rattle.trial_run.specs.declared.stop.TrialStop.TheVariants as trial
use Rattle.site_top.specs.declared.outcome.Outcome.{Outcome}
use Rattle.site_top.specs.declared.outcome.Outcome.TheVariants.{Done, Usage, WrongInputs, ConfigRefused}
use Rattle.site_top.specs.declared.outcome.Outcome.TheVariants.{CapacityRefused, InputRefused, NoSuperframe}
use Rattle.site_top.specs.declared.outcome.Outcome.TheVariants.{RecordRefused, UnknownPlp, TooLong, PacketRefused}
use Rattle.site_top.specs.declared.outcome.Outcome.TheVariants.{ReadFault, WriteFault, OutOfMemory, TrialFault, Differs}

-- the status that the program ends with
abbrev pub status_of : Outcome → ℕ
status_of Done = 0
status_of Usage = 2
status_of (WrongInputs plps inputs) = 2
status_of (ConfigRefused cause) = 3
status_of (CapacityRefused test plp need have) = 4
status_of (InputRefused input packet) = 5
status_of NoSuperframe = 6
status_of (RecordRefused number why) = 7
status_of (UnknownPlp plp_id) = 8
status_of (TooLong count) = 9
status_of (PacketRefused at why) = 10
status_of (Differs frame) = 12
status_of ReadFault = 70
status_of WriteFault = 71
status_of OutOfMemory = 72
status_of TrialFault = 73

-- the number of a refusal
abbrev pub why_number : PacketWhy → ℕ
why_number Short = 1
why_number Crc = 2
why_number PadBits = 3
why_number PayloadShape = 4

-- the number of a refusal of a record
abbrev pub record_why_number : RecordWhy → ℕ
record_why_number Head = 1
record_why_number Kind = 2
record_why_number Length = 3
record_why_number Order = 4
record_why_number OffGrid = 5

-- the number of a refusal of a text
abbrev pub text_why_number : TextWhy → ℕ
text_why_number NotAscii = 1
text_why_number WrongKey = 2
text_why_number WrongCount = 3
text_why_number BadWord = 4
text_why_number BadNumber = 5
text_why_number EndsEarly = 6
text_why_number TextTooLong = 7

-- the place of a PLP, or a dash if there is none
abbrev pub place_word : Option ℕ → List ℕ
place_word (Some place) = decimal place
place_word None = codes "-"

-- the last line of a run that is not done
unfoldable pub last_line : Outcome → List ℕ
last_line Done = []
last_line Usage = codes "refused: usage\n"
last_line (WrongInputs plps inputs) = codes "refused: usage\n"
last_line (ConfigRefused (Text line why)) = codes "refused: config line " ++ decimal line ++ codes " why "
    ++ decimal (text_why_number why) ++ codes "\n"
last_line (ConfigRefused (Rule rule plp)) = codes "refused: config rule " ++ decimal rule ++ codes " plp "
    ++ place_word plp
    ++ codes "\n"
last_line (CapacityRefused test plp need have) =
    codes "refused: capacity test " ++ decimal test ++ codes " plp " ++ place_word plp ++ codes " need " ++ decimal need
    ++ codes " have " ++ decimal have ++ codes "\n"
last_line (InputRefused input packet) = codes "refused: input " ++ decimal input ++ codes " packet " ++ decimal packet
    ++ codes "\n"
last_line NoSuperframe = codes "refused: no superframe\n"
last_line (RecordRefused number why) = codes "refused: record " ++ decimal number ++ codes " why "
    ++ decimal (record_why_number why) ++ codes "\n"
last_line (UnknownPlp plp_id) = codes "refused: plp " ++ decimal plp_id ++ codes "\n"
last_line (TooLong count) = codes "refused: too long " ++ decimal count ++ codes "\n"
last_line (PacketRefused at why) = codes "refused: packet at " ++ decimal at ++ codes " why "
    ++ decimal (why_number why)
    ++ codes "\n"
last_line (Differs frame) = codes "refused: frame " ++ decimal frame ++ codes " differs\n"
last_line ReadFault = codes "fault: read\n"
last_line WriteFault = codes "fault: write\n"
last_line OutOfMemory = codes "fault: memory\n"
last_line TrialFault = codes "fault: trial\n"

-- the outcome of a command that its files stopped
abbrev pub file_outcome : RunFault → Outcome
file_outcome (run_fault.TooLong input) = TooLong longest_file
file_outcome (run_fault.ReadFault input) = ReadFault
file_outcome run_fault.WriteFault = WriteFault

-- of one that is done, or stops by a cause that has an outcome
abbrev pub run_outcome : {R S : Type 0} → (S → Outcome) → Result R S → Outcome
run_outcome of (Ok ran) = Done
run_outcome of (Err stop) = of stop

-- of one whose run did not succeed, by the outcomes of its machine's own causes
abbrev pub stop_outcome : {E : Type 0} → (E → Outcome) → RunStop E → Outcome
stop_outcome own (run.Refused why) = own why
stop_outcome own (run.Files fault) = file_outcome fault
stop_outcome own run.OutOfMemory = OutOfMemory

-- ---- the causes of each machine

abbrev pub gateway_cause : GatewayStop → Outcome
gateway_cause (gateway.Bad input packet) = InputRefused input packet
gateway_cause gateway.TooManyFrames = TooLong MOST_FRAMES

abbrev pub modulate_cause : ModulateStop → Outcome
modulate_cause modulate.NoSuperframe = NoSuperframe
modulate_cause modulate.TooManyFrames = TooLong MOST_FRAMES

abbrev pub receive_cause : ReceiveStop → Outcome
receive_cause (receive.RecordRefused number why) = RecordRefused number why

abbrev pub merge_cause : MergeStop → Outcome
merge_cause merge.NoSuperframe = NoSuperframe
merge_cause merge.TooManyFrames = TooLong MOST_FRAMES

abbrev pub mend_cause : MendStop → Outcome
mend_cause mend.NoFrame = NoSuperframe

-- Of a swap the transport stream is the only input that has bad packets.
abbrev pub swap_cause : SwapStop → Outcome
swap_cause swap.NoSuperframe = NoSuperframe
swap_cause (swap.InputRefused packet) = InputRefused 0 packet
swap_cause swap.TooManyFrames = TooLong MOST_FRAMES

abbrev pub compare_cause : CompareStop → Outcome
compare_cause compare.NoSuperframe = NoSuperframe
compare_cause compare.TooManyFrames = TooLong MOST_FRAMES
compare_cause (compare.Differs frame) = Differs frame

abbrev pub show_cause : ShowStop → Outcome
show_cause (show.PacketRefused at why) = PacketRefused at why
show_cause (show.RecordRefused number why) = RecordRefused number why
show_cause show.NoRoom = OutOfMemory

-- ---- of commands without a run over files

-- of one whose file gives no configuration or no plan
abbrev pub config_outcome : ConfigStop → Outcome
config_outcome (config.Refused cause) = ConfigRefused cause
config_outcome (config.Lacks fault) = CapacityRefused fault.test fault.plp fault.need fault.have
config_outcome config.ReadFault = ReadFault
config_outcome config.OutOfMemory = OutOfMemory

-- of one that does not have one input for each PLP that has one
abbrev pub Miscounts : Sharing → Config → List (List ℕ) → Outcome → Type 0
Miscounts sharing c ins outcome =
    (length ins ≢ input_count sharing c) × (outcome ≡ WrongInputs (input_count sharing c) (length ins))

-- of a trial
abbrev pub trial_outcome : TrialStop → Outcome
trial_outcome trial.OutOfMemory = OutOfMemory
trial_outcome trial.Broken = TrialFault
