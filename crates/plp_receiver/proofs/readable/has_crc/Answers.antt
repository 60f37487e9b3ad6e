use Rattle.std.proofs.Common.{◌≡◌, ◌∙◌, subst, Bool, List, arith}
use Rattle.std.specs.Prelude.{OnOk, IfErr}
use Rattle.std.proofs.lemmas.List.{take_all}
use Rattle.l1_signal.specs.CrcField.{EndsInCrc, RefusesPost}
use Rattle.plp_receiver.proofs.BitsLemmas.{crc_told}
use Rattle.plp_receiver.proofs.readable.has_crc.Goals as goal

pub returns : goal.returns
returns c =
    let post : List Bool = c.args.post.now in
    let len = c.len.ensures.len in
    let same : c.sub.result ≡ post = c.sub.ensures.bits ∙ take_all c.len.result post (omega (arith, len)) in
    c.is_ok.ensures.value
    ∙ crc_told c.post_law.ensures.crc post c.check_post.result
    (subst (λ (bits : List Bool). OnOk c.check_post.result (EndsInCrc bits)) same c.check_post.ensures.ok)
    (subst (λ (bits : List Bool). IfErr c.check_post.result (RefusesPost bits)) same c.check_post.ensures.fault)
