-- `two_points`: demand 3 of the answers and slices that the two calls give.
use Rattle.std.proofs.Common.{Result, List, ℕ, Float}
use Rattle.settings.specs.declared.settings.Refusal.{Refusal}
use Rattle.settings.specs.declared.settings.RawSettings.{RawSettings}
use Rattle.demands.specs.Demand3.{SamePoints, LocalPoints, DifferingPoints, SeedPoints, OfPoints}
use Rattle.demands.proofs.Demand3.{of_points, same_points, local_points, differing_points, seed_points}
use Rattle.two_calls.proofs.two.two_points.Goals as goal

pub returns : goal.returns
returns c = let a = c.args in
    let told : (Sentence : (a a' : RawSettings) (p q : List ℕ) (n : ℕ) (out out' : List Float) (r r' : Result ℕ Refusal) (l l' : List Float)
    → Type 0) (term : OfPoints Sentence)
    → Sentence a.raw a.other_raw a.payload.now a.other_payload.now a.symbol a.out.now a.other_out.now _ _ _ _
    = λ Sentence term.
    of_points Sentence term a.raw a.other_raw a.payload.now a.other_payload.now a.symbol a.out.now a.other_out.now _ _ _ _
    c.points-one.ensures.value c.points-other.ensures.value c.points-one.ensures.out_after c.points-other.ensures.out_after in record {
      made = (c.points-one.ensures.value, c.points-other.ensures.value);
      left = (c.points-one.ensures.out_after, c.points-other.ensures.out_after);
      alike = told SamePoints same_points;
      local = told LocalPoints local_points;
      differing = told DifferingPoints differing_points;
      seeded = told SeedPoints seed_points;
    }
