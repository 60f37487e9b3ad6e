use Rattle.bit_slice.proofs.FillingLemmas.{window_is}
use Rattle.bit_slice.proofs.filling.window.Goals as goal

pub returns : goal.returns
returns c = λ front long is.
    rw (c.to_be_bytes.ensures, c.from.ensures, c.from-2.ensures)
    (window_is front c.args.byte c.args.first c.args.value c.args.width long c.requires.first c.requires.some
    c.requires.narrow
    c.requires.fits is)
