-- `hear_place` goes by the use of the place.
use Rattle.std.proofs.Common.{ℕ, ◌*◌, ap}
use Rattle.detector.proofs.SearchLaws.{place_room, pilot_asked, heard_data, heard_pilot}
use Rattle.detector.proofs.search.Hearing.hear_place.Goals as goal

pub hear_data-requires : goal.hear_data-requires
hear_data-requires c = let h = c.args.self.now in
    (h.tables, (place_room h c.requires c.from-used.result c.from-used.ensures c.if-used-lt128.true).inside)

pub returns-then-used-lt128 : goal.returns-then-used-lt128
returns-then-used-lt128 c =
    let r = heard_data c.args.self.now c.requires c.from-used.result c.from-used.ensures _
    (ap (λ (k : ℕ). 2 * k) c.places_of-floats.ensures) _ c.is_turned-turned.ensures _ _ c.if-used-lt128.true c.hear_data.ensures in
    record { given = r.0; heard = r.1 }

pub pilot_sign-sign-requires : goal.pilot_sign-sign-requires
pilot_sign-sign-requires c = let h = c.args.self.now in
    record {
      pilot_asked = pilot_asked h c.requires c.from-used.result c.from-used.ensures c.if-used-lt128.false;
      n_bound = (h.near, h.polar);
    }

pub returns : goal.returns
returns c =
    let r = heard_pilot c.args.self.now c.requires c.from-used.result c.from-used.ensures _
    (ap (λ (k : ℕ). 2 * k) c.places_of-floats.ensures) _ c.is_turned-turned.ensures _ _
    c.if-used-lt128.false c.pilot_sign-sign.ensures c.hear_pilot.ensures in
    record { given = r.0; heard = r.1 }
