-- Every plan fits: one computed claim over both widths, all 32 MCSs and both numbers of encoders. Assumes nothing.
use mathlib.Core.Path.{◌≡◌}
use mathlib.Core.Bool.{Bool, true, false}
use Prim.Native.Nat.{ℕ, ◌-◌, ◌*◌}
use native.Mathlib.Omega.{arith}
use lib.Dec.{T}
use Rattle.laws.specs.Test.{among}
use Rattle.laws.specs.Claim.{Claim, ◌is◌, ◌under◌, ◌and◌, up_to, each, Holds, sound}
use Rattle.chain.specs.Plan.{widths, encoder_counts, stream_counts, bit_counts, kept_counts, carriers_of, plan_of, groups_of, Planned, Fits}
use Rattle.chain.specs.declared.plan.Plan.{Plan}

abbrev one : Bool → ℕ
one true = 1
one false = 0

is_in : (b : Bool) → one b ≡ 1 → T b
is_in true e = tt
is_in false e = absurd (omega (arith, e))

-- what is claimed of a plan
abbrev fitting : Plan → Claim
fitting p =
    one (among widths p.width) is 1
    and one (among stream_counts p.streams) is 1
    and one (among bit_counts p.bits) is 1
    and one (among kept_counts p.kept) is 1
    and one (among encoder_counts p.encoders) is 1
    and p.carriers is carriers_of p.width
    and p.block is p.carriers * p.bits
    and p.coded is p.block * p.streams
    and 25 under p.dbps
    and p.dbps under 2161
    and p.coded under 2593
    and p.coded is p.encoders * (p.kept * groups_of p)
    and p.dbps is p.encoders * ((p.kept - 1) * groups_of p)

abbrev plan_claim : Claim
plan_claim = each widths λ w. up_to 32 λ m. each encoder_counts λ e. fitting (plan_of w m e)

plans : Holds plan_claim
unfolding plan_of
plans = sound plan_claim tt

pub fits : (w m e : ℕ) → Planned w m e → Fits (plan_of w m e)
fits w m e h =
    let p = plan_of w m e in
    let c = plans w h.width m h.mcs e h.encoders in
    record {
      width = is_in (among widths p.width) c.0;
      streams = is_in (among stream_counts p.streams) c.1.0;
      bits = is_in (among bit_counts p.bits) c.1.1.0;
      kept = is_in (among kept_counts p.kept) c.1.1.1.0;
      encoders = is_in (among encoder_counts p.encoders) c.1.1.1.1.0;
      carriers_is = c.1.1.1.1.1.0;
      block_is = c.1.1.1.1.1.1.0;
      coded_is = c.1.1.1.1.1.1.1.0;
      dbps_some = c.1.1.1.1.1.1.1.1.0;
      dbps_most = omega (arith, c.1.1.1.1.1.1.1.1.1.0);
      coded_most = omega (arith, c.1.1.1.1.1.1.1.1.1.1.0);
      coded_groups = c.1.1.1.1.1.1.1.1.1.1.1.0;
      dbps_groups = c.1.1.1.1.1.1.1.1.1.1.1.1;
    }
