-- `leap` takes 8 steps and more as the xor of 1, 2 and 4.
use Rattle.std.proofs.Common.{◌≡◌, arith}
use Rattle.scrambler.proofs.Jumps.{powers}
use Rattle.scrambler.proofs.register.leap.Goals as goal

pub returns-in-0 : goal.returns-in-0
returns-in-0 c = rw (c.step-one.ensures, c.in-0.is) (powers _ c.requires.0).0

pub returns-in-3 : goal.returns-in-3
returns-in-3 c = rw (c.steps-four.ensures, c.step-one.ensures, c.in-3.is) (powers _ c.requires.0).1.0

pub returns-in-4 : goal.returns-in-4
returns-in-4 c = rw (c.steps-four.ensures, c.steps-two.ensures, c.step-one.ensures, c.in-4.is) (powers _ c.requires.0).1.1.0

pub returns-in-5 : goal.returns-in-5
returns-in-5 c = rw (c.steps-two.ensures, c.step-one.ensures, c.in-5.is) (powers _ c.requires.0).1.1.1.0

pub returns-in_default : goal.returns-in_default
returns-in_default c =
    let e : c.args.k ≡ 6 = omega arith in
    rw (c.steps-four.ensures, c.steps-two.ensures, e) (powers _ c.requires.0).1.1.1.1
