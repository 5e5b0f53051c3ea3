-- `use_of` goes by whether the subcarrier has a place.
use Rattle.std.proofs.Common.{◌≡◌, ◌∙◌, sym, ap, to_z-of_z}
use Rattle.subcarriers.specs.Subcarriers.{used_subcarriers, place_found}
use Rattle.subcarriers.proofs.SubcarrierLaws.{found_below, found_use, lost_silent}
use Rattle.subcarriers.proofs.layout.use_of.Goals.{After-place_of}
use Rattle.subcarriers.proofs.layout.use_of.Goals as goal

-- the place is that of the subcarrier itself
found : (c : After-place_of) → place_found (used_subcarriers c.args.width) c.args.subcarrier ≡ c.place_of.result
found c = sym (c.place_of.ensures ∙ ap (place_found (used_subcarriers c.args.width)) (c.index.ensures.0 ∙ to_z-of_z c.ranges.subcarrier))

pub use_at-requires-clause-f_bound : goal.use_at-requires-clause-f_bound
use_at-requires-clause-f_bound c =
    found_below c.args.width c.requires.t c.args.subcarrier c.requires.inside c.in-Some.f
    (found (goal.at.use_at-requires-clause-f_bound c).After-place_of ∙ c.in-Some.is)

pub returns-in-Some : goal.returns-in-Some
returns-in-Some c =
    c.use_at.ensures
    ∙ found_use c.args.width c.requires.t c.args.subcarrier c.requires.inside c.in-Some.f
    (found (goal.at.returns-in-Some c).After-place_of ∙ c.in-Some.is)

pub returns-in-None : goal.returns-in-None
returns-in-None c =
    lost_silent c.args.width c.requires.t c.args.subcarrier c.requires.inside
    (found (goal.at.returns-in-None c).After-place_of ∙ c.in-None.is)
