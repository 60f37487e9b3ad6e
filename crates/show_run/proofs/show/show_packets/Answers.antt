use Rattle.std.proofs.Common.{refl}
use Rattle.std.proofs.lemmas.Result.{err_from_is_err_and}
use Rattle.show_run.specs.PacketText.{IsPacketText}
use Rattle.show_run.proofs.PacketLinesLemmas.{comes_first}
use Rattle.show_run.proofs.ShowLemmas.{shows_end, shows_stop}
use Rattle.show_run.proofs.ToldLemmas.{shows_none}
use Rattle.show_run.proofs.show.show_packets.Goals as goal

pub returns-in_default : goal.returns-in_default
returns-in_default g c = shows_none IsPacketText (λ file. refl) _ _ c.args.name.now refl

pub tell_lines-requires-clause-start : goal.tell_lines-requires-clause-start
tell_lines-requires-clause-start g c = comes_first _ c.in-Ok.ensures

pub returns-in_err-tell_lines : goal.returns-in_err-tell_lines
returns-in_err-tell_lines g c =
    let p = err_from_is_err_and c.from_residual.result c.from_residual.ensures.1 in
    rw (p.1, p.2)
    (shows_stop c.one_packet_law.ensures c.no_refusal_law.ensures c.packet_length_law.ensures _ c.tell_lines.new.machine
    _ _
    c.args.name.now _ c.in_err-tell_lines.ensures.err)

pub returns : goal.returns
returns g c =
    rw c.packets_end.ensures
    (shows_end _ c.tell_lines.new.machine _ _ c.args.name.now c.in_ok-tell_lines.ensures.ok)
