-- `decode_encoder` goes by the number of bits that a group keeps.
use Rattle.std.proofs.Common.{◌≡◌, arith}
use Rattle.chain.proofs.Counts.{kept_other}
use Rattle.forcing.proofs.steps.decode_encoder.Goals as goal

pub returns-in-2 : goal.returns-in-2
returns-in-2 c = rw c.in-2.is c.decode_groups.ensures

pub returns-in-3 : goal.returns-in-3
returns-in-3 c = rw c.in-3.is c.decode_groups-in-3.ensures

pub returns-in-4 : goal.returns-in-4
returns-in-4 c = rw c.in-4.is c.decode_groups-in-4.ensures

pub returns-in_default : goal.returns-in_default
returns-in_default c =
    let six : c.args.kept ≡ 6 = kept_other c.args.kept c.requires.rate (λ e. omega arith) (λ e. omega arith) (λ e. omega arith) in
    rw six c.decode_groups-in_default.ensures
