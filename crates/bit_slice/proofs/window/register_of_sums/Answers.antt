use Rattle.std.proofs.Common.{◌≡◌, refl, sym, arith}
use Rattle.std.proofs.lemmas.List.{length-take-le}
use Rattle.bit_slice.specs.Window.{front_register, window_register}
use Rattle.bit_slice.proofs.WindowLemmas.{front_on}
use Rattle.bit_slice.proofs.window.register_of_sums.Goals as goal

pub slice_bounds-after_few-end : goal.slice_bounds-after_few-end
slice_bounds-after_few-end c = sym (length-take-le 89 c.args.sums.now (omega (arith, c.requires)))

pub returns : goal.returns
unfolding window_register front_register
returns c =
    let sums = c.args.sums.now in
    let third : c.after_few-third.result ≡ front_register 117 sums =
    front_on sums 89 28 c.after_few-third.result (rw (c.after_few-second.ensures) at c.after_few-third.ensures) in
    let last : c.after_few-last.result ≡ front_register 155 sums =
    front_on sums 117 38 c.after_few-last.result (rw third at c.after_few-last.ensures) in
    let whole : c.after_few-whole.result ≡ front_register 300 sums =
    front_on sums 155 145 c.after_few-whole.result (rw last at c.after_few-whole.ensures) in
    rw (c.after_few-second.ensures, third, last, whole) refl
