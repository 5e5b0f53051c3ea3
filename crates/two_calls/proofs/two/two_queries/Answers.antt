-- `two_queries`: demand 3 of the answers that the two calls give.
use Rattle.std.proofs.Common.{◌∙◌, ap, to_z-of_z}
use Rattle.settings.specs.Settings.{check_of}
use Rattle.query.specs.Query.{query_of}
use Rattle.demands.specs.Demand3.{SameQuery, LocalQuery}
use Rattle.demands.proofs.Demand3.{of_queries, same_query, local_query}
use Rattle.two_calls.proofs.two.two_queries.Goals as goal

pub returns : goal.returns
returns c = let a = c.args in
    let z = to_z-of_z c.ranges.at in
    let one = c.subcarrier-one.ensures ∙ ap (query_of (check_of a.raw) a.payload.now a.symbol a.stream) z in
    let other = c.subcarrier-other.ensures ∙ ap (query_of (check_of a.other_raw) a.other_payload.now a.symbol a.stream) z in record {
      made = (one, other);
      alike = of_queries SameQuery same_query a.raw a.other_raw a.payload.now a.other_payload.now a.symbol a.stream a.at _ _ one other;
      local = of_queries LocalQuery local_query a.raw a.other_raw a.payload.now a.other_payload.now a.symbol a.stream a.at _ _ one other;
    }
