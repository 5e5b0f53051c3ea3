-- `coded_bits`: the bits picked from the sums by their places are the coded bits.
use Rattle.std.proofs.Common.{◌≡◌, ◌∙◌, ℕ, ◌+◌, ◌*◌, ◌<◌, ◌≤◌, length, get_or, take, replicate, length-take, arith}
use Rattle.std.proofs.lemmas.Grind.{common_steps}
use Rattle.laws.specs.Filled.{Filled}
use Rattle.laws.proofs.Filling.{fill_end}
use Rattle.puncturing.specs.Coded.{sum_place}
use Rattle.puncturing.proofs.CodedLaws.{sizes, place_inside, picked, stored_first, stored_from, one_coded, two_coded}
use Rattle.puncturing.proofs.coded.coded_bits.Goals as goal
use Rattle.puncturing.proofs.coded.coded_bits.Goals.{After-places_at, After-pick}

module _ (c : After-places_at) where
  -- the places that are lent are as many as an encoder's bits
  lent : length (take (c.args.kept * c.args.groups) (replicate {A = ℕ} 2592 0)) ≡ c.args.kept * c.args.groups
  lent = simp length-take (omega (arith, sizes c.requires))

  placed : Filled 0 0 (λ y. sum_place c.args.kept c.args.encoders y) (c.args.kept * c.args.groups)
      (take (c.args.kept * c.args.groups) (replicate 2592 0)) c.places_at.new.places
  placed = fill_end 0 0 _ lent c.places_at.ensures

  read : length c.places_at.new.places ≡ c.args.kept * c.args.groups
  read = placed.same ∙ lent

  fits : c.args.kept * c.args.groups ≤ length c.args.coded.now
  fits = omega (arith, sizes c.requires, c.requires.room)

  -- and lie among the sums
  inside : (j : ℕ) → j < c.args.encoders → (y : ℕ) → y < length c.places_at.new.places → get_or c.places_at.new.places y 0 + j < 4320
  inside j mine y l = place_inside _ _ _ _ _ c.requires placed j mine y (omega (arith, read))

pub pick-requires : goal.pick-requires
pick-requires c =
    let w = (goal.at.pick-requires c).After-places_at in
    record {
      room = simp length-take (omega (arith, read w, fits w));
      sized = c.both_sums.ensures.same;
      second = omega arith;
      inside = inside w _ (omega (arith, sizes c.requires));
    }

-- the first encoder's bits are as many
first : (c : After-pick) → length c.pick.new.coded ≡ c.args.kept * c.args.groups
first c = c.pick.ensures.same ∙ simp length-take (omega (arith, sizes c.requires, c.requires.room))

pub pick-requires-then-encoders-eq2 : goal.pick-requires-then-encoders-eq2
pick-requires-then-encoders-eq2 c = let p = c.requires in
    let v = (goal.at.pick-requires-then-encoders-eq2 c).After-places_at in
    let w = (goal.at.pick-requires-then-encoders-eq2 c).After-pick in
    record {
      room = grind (arith, common_steps, first w, read v, (sizes p).halved c.if-encoders-eq2.true, p.room);
      sized = c.both_sums.ensures.same;
      second = omega arith;
      inside = inside v _ (omega arith);
    }

pub returns-then-encoders-eq2 : goal.returns-then-encoders-eq2
returns-then-encoders-eq2 c = let p = c.requires in
    let v = (goal.at.returns-then-encoders-eq2 c).After-places_at in
    let w = (goal.at.returns-then-encoders-eq2 c).After-pick in
    let s = c.both_sums.ensures in
    let t = placed v in
    let half = (sizes p).halved c.if-encoders-eq2.true in
    let second : length c.pick-then-encoders-eq2.new.coded ≡ c.args.kept * c.args.groups =
    grind (arith, common_steps, first w, half, p.room, c.pick-then-encoders-eq2.ensures.same) in
    let these = picked _ _ _ _ _ p s t 0 _ (omega (arith, sizes p)) (omega arith) (read v) c.pick.ensures in
    let those = picked _ _ _ _ _ p s t 1 _ (omega arith) (omega arith) (read v) c.pick-then-encoders-eq2.ensures in
    two_coded _ _ _ _ _ p c.if-encoders-eq2.true
    (stored_first _ _ _ _ (first w) these (fits v))
    (stored_from _ _ _ _ second those _ _ (omega arith) (grind (arith, common_steps, first w, half, p.room)))

pub returns-else-encoders-eq2 : goal.returns-else-encoders-eq2
returns-else-encoders-eq2 c = let p = c.requires in
    let v = (goal.at.returns-else-encoders-eq2 c).After-places_at in
    let w = (goal.at.returns-else-encoders-eq2 c).After-pick in
    let s = c.both_sums.ensures in
    let t = placed v in
    let these = picked _ _ _ _ _ p s t 0 _ (omega (arith, sizes p)) (omega arith) (read v) c.pick.ensures in
    one_coded _ _ _ _ _ p ((sizes p).otherwise c.if-encoders-eq2.false) (stored_first _ _ _ _ (first w) these (fits v))
