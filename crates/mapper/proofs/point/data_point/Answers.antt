-- `data_point` looks one half label up, or two.
use Rattle.std.proofs.Common.{◌*◌, add_assoc, arith}
use lib.Ieee.{of_bits, of_int}
use Rattle.mapper.proofs.PointLaws.{half_in_lem, half_known, only, first_half_lem, second_half_lem, one_level, two_levels}
use Rattle.mapper.proofs.point.data_point.Goals as goal

pub overflow_add-from : goal.overflow_add-from
overflow_add-from c = omega (arith, half_in_lem c.requires _ (only c.requires c.if-bits-eq1.true), c.well_formed.0)

pub bounds-halves-from : goal.bounds-halves-from
bounds-halves-from c = half_in_lem c.requires _ (only c.requires c.if-bits-eq1.true)

pub bounds-table-from : goal.bounds-table-from
bounds-table-from c = rw c.from.ensures (half_known c.requires _ (only c.requires c.if-bits-eq1.true))

pub returns-then-bits-eq1 : goal.returns-then-bits-eq1
unfolding of_bits of_int
returns-then-bits-eq1 c = one_level c.requires _ c.if-bits-eq1.true (cc)

pub overflow_mul-m : goal.overflow_mul-m
overflow_mul-m c = omega (arith, half_in_lem c.requires _ (first_half_lem c.requires c.if-bits-eq1.false), c.well_formed.0)

pub overflow_add-m : goal.overflow_add-m
overflow_add-m c = omega (arith, half_in_lem c.requires _ (first_half_lem c.requires c.if-bits-eq1.false), c.well_formed.0)

pub bounds-halves-m : goal.bounds-halves-m
bounds-halves-m c = half_in_lem c.requires _ (first_half_lem c.requires c.if-bits-eq1.false)

pub bounds-table-from-2 : goal.bounds-table-from-2
bounds-table-from-2 c = rw c.from-2.ensures (half_known c.requires _ (first_half_lem c.requires c.if-bits-eq1.false))

pub overflow_add-m-2 : goal.overflow_add-m-2
overflow_add-m-2 c = omega (arith, half_in_lem c.requires _ (second_half_lem c.requires c.if-bits-eq1.false), c.well_formed.0)

pub bounds-halves-m-2 : goal.bounds-halves-m-2
bounds-halves-m-2 c = omega (arith, half_in_lem c.requires _ (second_half_lem c.requires c.if-bits-eq1.false))

pub bounds-table-from-3 : goal.bounds-table-from-3
bounds-table-from-3 c =
    rw (c.from-3.ensures, add_assoc c.args.from (2 * c.args.c) 1) (half_known c.requires _ (second_half_lem c.requires c.if-bits-eq1.false))

pub returns : goal.returns
returns c = two_levels c.requires _ _ c.if-bits-eq1.false (cc) (cc)
